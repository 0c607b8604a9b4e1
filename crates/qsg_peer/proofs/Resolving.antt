-- an incarnation without marks is resolved
use Rattle.std.proofs.Common.{◌≡◌, ℕ, Bool, true, false, cond, List, [], ◌∷◌, map, Some, refl, sym, ap, subst, ◌∙◌, true≢false, arith}
use Rattle.std.specs.Prelude.{◌==◌, ◌&&◌, ◌||◌, not, find}
use Rattle.std.specs.List.{list_any, AllByRecursion}
use Rattle.std.proofs.lemmas.Bool.Decides.{nat_tests}
use Rattle.std.proofs.lemmas.Option.{none-some, same_Some}
use Rattle.qsg_num.specs.declared.ids.Incarnation.{Incarnation}
use Rattle.qsg_num.specs.declared.seats.Member.{Member}
use Rattle.qsg_num.specs.declared.seats.StructNo.{StructNo}
use Rattle.qsg_num.specs.Seats.{member_number}
use Rattle.qsg_lists.specs.declared.parts.Entry.{Entry}
use Rattle.qsg_lists.specs.declared.parts.Mark.{Mark}
use Rattle.qsg_lists.specs.declared.parts.Mark.TheVariants.{Visible, PutBy, GotBy, Cleanup}
use Rattle.qsg_lists.specs.Marks.{names_member}
use Rattle.qsg_lists.specs.Structures.{is_active}
use Rattle.qsg_repo.specs.Calls.{is_unresolved}
use Rattle.qsg_repo.specs.declared.lives.Fate.TheVariants.{Resolved}
use Rattle.qsg_repo.specs.declared.lives.Life.{Life}
use Rattle.qsg_repo.specs.Lives.{is_failed, is_life, is_failed_life, resolved_life}
use Rattle.qsg_group.specs.Group.{Held}
use Rattle.qsg_group.specs.Observers.{entry_at, has_id, names_incarnation}
use Rattle.qsg_group.specs.Laws.{is_pending, Laws}
use Rattle.qsg_group.specs.Changes.{Change, without_failed}
use Rattle.qsg_group.specs.Changes.Change.{Resolves}
use Rattle.qsg_manager.specs.Facilities.{structure_in}
use Rattle.qsg_manager.specs.Groups.{Rest}
use Rattle.qsg_manager.specs.Views.{Outside, held_of}
use Rattle.qsg_parts.specs.Owned.{Owned}
use Rattle.qsg_peer.specs.declared.phases.FailedLife.{FailedLife}
use Rattle.qsg_peer.specs.Steps.{with_resolved}
use Rattle.qsg_peer.specs.Machine.{group_in, IsClear, AreClear, with_resolved_life}

found_all : (P : Held → Type 0) (p : Held → Bool) (es : List Held) (e : Held) → AllByRecursion P es → find p es ≡ Some e → P e
found_all P p [] e all is = absurd (none-some e is)
found_all P p (x ∷ es) e all is = by (p x) (found_all P p es e all.1) is
  where
    by : (b : Bool) → (find p es ≡ Some e → P e) → cond b (Some x) (find p es) ≡ Some e → P e
    by true later same = subst P (same_Some x e same) all.0
    by false later same = later same

named_same : (life : FailedLife) (mark : Mark) → names_member life.member life.incarnation mark ≡ false → names_incarnation life.member life.incarnation.number mark ≡ false
named_same life Visible clear = refl
named_same life (PutBy u) clear = clear
named_same life (GotBy u) clear = clear
named_same life Cleanup clear = refl

named_quiet : (life : FailedLife) (mark : Mark) → is_pending mark ≡ false → names_incarnation life.member life.incarnation.number mark ≡ false
named_quiet life Visible quiet = refl
named_quiet life (PutBy u) quiet = absurd (true≢false quiet)
named_quiet life (GotBy u) quiet = absurd (true≢false quiet)
named_quiet life Cleanup quiet = refl

clear_held : (o : Outside) (s : StructNo) (life : FailedLife) (es : List Entry) → IsClear life es → AllByRecursion (λ (e : Held). names_incarnation life.member life.incarnation.number e.mark ≡ false) (map (held_of o s) es)
clear_held o s life [] clear = tt
clear_held o s life (e ∷ es) clear = (named_same life e.mark clear.0, clear_held o s life es clear.1)

pub resolve_is_change : (rest : Rest) (life : FailedLife) (p : Owned) → Laws (group_in rest p) → AreClear life p → Change (group_in rest p) (group_in (with_resolved_life life rest) (with_resolved life p))
resolve_is_change rest life p laws clear = Resolves (group_in rest p) life.member life.incarnation.number (record { unnamed = λ s id e there. by s id e there (is_active (structure_in s p.structures).state) refl })
  where
    by : (s : StructNo) (id : ℕ) (e : Held) → entry_at id ((group_in rest p).shelves s).entries ≡ Some e → (active : Bool) → is_active (structure_in s p.structures).state ≡ active → names_incarnation life.member life.incarnation.number e.mark ≡ false
    by s id e there true is =
        found_all (λ x. names_incarnation life.member life.incarnation.number x.mark ≡ false) (has_id id) ((group_in rest p).shelves s).entries e (clear_held rest.outside s life (structure_in s p.structures).entries (clear s is)) there
    by s id e there false is = named_quiet life e.mark (found_all (λ x. is_pending x.mark ≡ false) (has_id id) ((group_in rest p).shelves s).entries e ((laws.shelves s).quiet is) there)

-- ---- what the repository tells

gone_same : (a b c x y z : ℕ) (f : Bool) → (((a == c) && (x == z)) && f) ≡ true → ((((a == b) && (x == y)) && f) && not ((b == c) && (y == z))) ≡ false
gone_same a b c x y z f is = grind (arith, nat_tests)

other_same : (a b c x y z : ℕ) (f : Bool) → (((a == c) && (x == z)) && f) ≡ false → ((((a == b) && (x == y)) && f) && not ((b == c) && (y == z))) ≡ (((a == b) && (x == y)) && f)
other_same a b c x y z f is = grind (arith, nat_tests)

and_false : (b : Bool) → (b && false) ≡ false
and_false true = refl
and_false false = refl

one_life : (k m : Member) (j i : Incarnation) (l : Life) → is_failed_life m i (resolved_life k j l) ≡ (is_failed_life m i l && not ((member_number m == member_number k) && (i.number == j.number)))
one_life k m j i l = by (is_failed_life k j l) refl
  where
    by : (b : Bool) → is_failed_life k j l ≡ b → is_failed_life m i (cond b (record l { fate = Resolved }) l) ≡ (is_failed_life m i l && not ((member_number m == member_number k) && (i.number == j.number)))
    by true is = and_false (is_life m i l) ∙ sym (gone_same (member_number l.member) (member_number m) (member_number k) l.incarnation.number i.number j.number (is_failed l.fate) is)
    by false is = sym (other_same (member_number l.member) (member_number m) (member_number k) l.incarnation.number i.number j.number (is_failed l.fate) is)

or_and : (a b n : Bool) → ((a && n) || (b && n)) ≡ ((a || b) && n)
or_and true b true = refl
or_and true b false = and_false b
or_and false b n = refl

all_lives : (k m : Member) (j i : Incarnation) (ls : List Life)
    → list_any (is_failed_life m i) (map (resolved_life k j) ls) ≡ (list_any (is_failed_life m i) ls && not ((member_number m == member_number k) && (i.number == j.number)))
all_lives k m j i [] = refl
all_lives k m j i (l ∷ ls) =
    let n = not ((member_number m == member_number k) && (i.number == j.number)) in
    (λ x. one_life k m j i l x || all_lives k m j i ls x) ∙ or_and (is_failed_life m i l) (list_any (is_failed_life m i) ls) n

and_true : (b : Bool) → (b && true) ≡ b
and_true true = refl
and_true false = refl

pub resolve_is_mirrored : (rest : Rest) (life : FailedLife) (p : Owned) → ((m : Member) (i : ℕ) → rest.failed m i ≡ is_unresolved m (record { number = i }) p.repo)
    → (m : Member) (i : ℕ) → (with_resolved_life life rest).failed m i ≡ is_unresolved m (record { number = i }) (with_resolved life p).repo
resolve_is_mirrored rest life p mirrored m i = by (member_number m == member_number life.member) ∙ sym (all_lives life.member m life.incarnation (record { number = i }) p.repo.lives)
  where
    by : (b : Bool) → cond {A = ℕ → Bool} b (without_failed life.incarnation.number (rest.failed m)) (rest.failed m) i
        ≡ (list_any (is_failed_life m (record { number = i })) p.repo.lives && not (b && (i == life.incarnation.number)))
    by true = ap (λ (x : Bool). x && not (i == life.incarnation.number)) (mirrored m i)
    by false = mirrored m i ∙ sym (and_true (list_any (is_failed_life m (record { number = i })) p.repo.lives))
