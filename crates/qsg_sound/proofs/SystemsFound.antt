-- an incarnation that is found to be resolved is one that failed
use Rattle.std.proofs.Common.{◌≡◌, Bool, true, false, cond, List, [], ◌∷◌, map, filter, Some, None, refl, ap}
use Rattle.std.specs.Prelude.{◌&&◌, ◌||◌, ◌==◌, not}
use Rattle.std.specs.List.{AllByRecursion, list_any}
use Rattle.std.proofs.lemmas.Bool.{and_parts, eq-eqb}
use Rattle.std.proofs.lemmas.Option.{none-some}
use Rattle.qsg_num.specs.declared.seats.Member.{Member}
use Rattle.qsg_num.specs.declared.ids.Incarnation.{Incarnation}
use Rattle.qsg_num.specs.Seats.{member_number}
use Rattle.qsg_repo.specs.declared.lives.Life.{Life}
use Rattle.qsg_repo.specs.Lives.{is_life, is_failed, is_failed_life, is_name, is_open, name_of, first_open}
use Rattle.qsg_peer.proofs.Needing.{least_is}

open_all : (Q : Member × Incarnation → Type 0) (skip : List (Member × Incarnation)) (lives : List Life) → AllByRecursion (λ (l : Life). is_failed l.fate ≡ true → Q (name_of l)) lives → AllByRecursion Q (map name_of (filter (is_open skip) lives))
open_all Q skip [] all = tt
open_all Q skip (l ∷ lives) all = by (is_open skip l) refl (open_all Q skip lives all.1)
  where
    by : (b : Bool) → is_open skip l ≡ b → AllByRecursion Q (map name_of (filter (is_open skip) lives)) → AllByRecursion Q (map name_of (cond b (l ∷ filter (is_open skip) lives) (filter (is_open skip) lives)))
    by true is more = (all.0 (and_parts (is_failed l.fate) (not (list_any (is_name l) skip)) is).0, more)
    by false is more = more

-- what holds of each one that failed holds of the one that is found
pub found_is : (Q : Member × Incarnation → Type 0) (skip : List (Member × Incarnation)) (lives : List Life) (name : Member × Incarnation) → AllByRecursion (λ (l : Life). is_failed l.fate ≡ true → Q (name_of l)) lives → first_open skip lives ≡ Some name → Q name
found_is Q skip lives name all is = least_is Q (map name_of (filter (is_open skip) lives)) None (λ y none. absurd (none-some y none)) (open_all Q skip lives all) name is

or_right : (a b : Bool) → b ≡ true → (a || b) ≡ true
or_right true b is = refl
or_right false b is = is

or_left : (a b : Bool) → a ≡ true → (a || b) ≡ true
or_left a b is = ap (λ (x : Bool). x || b) is

pub both_true : (a b : Bool) → a ≡ true → b ≡ true → (a && b) ≡ true
both_true a b one two = λ i. one i && two i

pub own_life : (l : Life) → is_life l.member l.incarnation l ≡ true
own_life l = both_true (member_number l.member == member_number l.member) (l.incarnation.number == l.incarnation.number) (eq-eqb (member_number l.member) (member_number l.member) refl) (eq-eqb l.incarnation.number l.incarnation.number refl)

each_in : (all lives : List Life) → ((f : Life → Bool) → list_any f lives ≡ true → list_any f all ≡ true) → AllByRecursion (λ (l : Life). is_failed l.fate ≡ true → list_any (is_failed_life l.member l.incarnation) all ≡ true) lives
each_in all [] more = tt
each_in all (l ∷ lives) more = (
  λ failed. more (is_failed_life l.member l.incarnation) (or_left (is_failed_life l.member l.incarnation l) _ (both_true (is_life l.member l.incarnation l) (is_failed l.fate) (own_life l) failed)),
  each_in all lives (λ f is. more f (or_right (f l) (list_any f lives) is)),
)

pub found_failed : (skip : List (Member × Incarnation)) (lives : List Life) (name : Member × Incarnation) → first_open skip lives ≡ Some name → list_any (is_failed_life name.0 name.1) lives ≡ true
found_failed skip lives name is = found_is (λ n. list_any (is_failed_life n.0 n.1) lives ≡ true) skip lives name (each_in lives lives (λ f one. one)) is
