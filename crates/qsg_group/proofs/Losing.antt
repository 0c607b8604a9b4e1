-- A structure that is lost: what of the history and of the other structures is as it was.
use Rattle.std.proofs.Common.{◌≡◌, ℕ, ◌+◌, ◌^◌, ◌<◌, ◌≤◌, Bool, true, cond, List, [], ◌∷◌, ◌++◌, refl, ap, ◌∙◌, arith}
use Rattle.std.specs.List.{list_any, AllByRecursion}
use Rattle.std.proofs.lemmas.Bool.{ne_eqb}
use Rattle.qsg_num.specs.declared.seats.StructNo.{StructNo}
use Rattle.qsg_num.specs.declared.ids.UnitName.{UnitName}
use Rattle.qsg_num.specs.Seats.{structure_number}
use Rattle.qsg_num.specs.Ids.{same_unit}
use Rattle.qsg_model.specs.declared.history.Op.{Op}
use Rattle.qsg_model.specs.declared.history.Item.{Item}
use Rattle.qsg_model.specs.declared.history.Item.TheVariants.{Lost}
use Rattle.qsg_model.specs.History.{has_key, ends_of, count_of}
use Rattle.qsg_model.specs.Past.{was_put, was_got, is_unit, Past, persistent_only, held_at, past_of}
use Rattle.qsg_model.proofs.Differing.{fold_push}
use Rattle.qsg_model.proofs.Growing.{past_of-push, quiet_names, quiet_put_keys, quiet_got_keys}
use Rattle.qsg_lists.specs.Structures.{is_active}
use Rattle.qsg_group.specs.declared.tasks.Claim.{Claim}
use Rattle.qsg_group.specs.Tables.{at_structure}
use Rattle.qsg_group.specs.Group.{Shelf, Group}
use Rattle.qsg_group.specs.Observers.{top_of}
use Rattle.qsg_group.specs.Laws.{IsReady, IsConnected, Laws}
use Rattle.qsg_group.specs.Changes.{lost_shelf}
use Rattle.qsg_group.proofs.Tables.{every_structure}
use Rattle.qsg_group.proofs.Keys.{matched_stays}

-- ---- the history with one loss more

pub put_lost : (k : ℕ × ℕ) (h : List Item) (s : StructNo) → was_put k (h ++ Lost s ∷ []) ≡ was_put k h
put_lost k h s = ap (λ ks. has_key ks k) (quiet_put_keys h (Lost s) refl)

pub got_lost : (k : ℕ × ℕ) (h : List Item) (s : StructNo) → was_got k (h ++ Lost s ∷ []) ≡ was_got k h
got_lost k h s = ap (λ ks. has_key ks k) (quiet_got_keys h (Lost s) refl)

pub unit_lost : (u : UnitName) (h : List Item) (s : StructNo) → is_unit u (h ++ Lost s ∷ []) ≡ is_unit u h
unit_lost u h s = ap (λ us. list_any (same_unit u) us) (quiet_names h (Lost s) refl)

zero_more : (n : ℕ) → n + 0 ≡ n
zero_more n = omega arith

pub count_lost : (n : ℕ) (h : List Item) (s : StructNo) → (n ≡ structure_number s → ⊥) → count_of n (h ++ Lost s ∷ []) ≡ count_of n h
count_lost n h s differ =
    fold_push (λ a i. a + ends_of n i) 0 h (Lost s)
    ∙ ap (λ (b : Bool). count_of n h + cond b 1 0) (ne_eqb n (structure_number s) differ)
    ∙ zero_more (count_of n h)

pub held_lost : (k : ℕ × ℕ) (h : List Item) (s : StructNo) → (k.0 ≡ structure_number s → ⊥) → held_at k (h ++ Lost s ∷ []) ≡ held_at k h
held_lost k h s differ =
    ap (λ (p : Past). p.message) (past_of-push k h (Lost s))
    ∙ ap (λ (b : Bool). (cond b (record { count = (past_of k h).count + 1; floor = (past_of k h).floor; message = persistent_only (past_of k h).message }) (past_of k h)).message) (ne_eqb k.0 (structure_number s) differ)

pub ready_lost : (h : List Item) (s : StructNo) (ops : List (StructNo × Op)) (claims : List Claim) → IsReady h ops claims → IsReady (h ++ Lost s ∷ []) ops claims
ready_lost h s ops claims old = record {
  matched = matched_stays h (Lost s) ops claims old.gots_were_put old.matched;
  puts_differ = old.puts_differ;
  gots_differ = old.gots_differ;
  puts_are_new = λ k put. put_lost k h s ∙ old.puts_are_new k put;
  gots_were_put = λ k got. put_lost k h s ∙ old.gots_were_put k got;
  gots_are_new = λ k got. got_lost k h s ∙ old.gots_are_new k got;
}

-- ---- ids and claims

higher : (shelf : Shelf) → shelf.last < 2 ^ 40 → top_of shelf ≤ top_of (lost_shelf shelf)
higher shelf lt = omega (arith, lt)

pub top_lost : (g : Group) (s : StructNo) → Laws g → (x : StructNo) → top_of (g.shelves x) ≤ top_of (at_structure s lost_shelf g.shelves x)
top_lost g s laws = every_structure (λ x shelf. top_of (g.shelves x) ≤ top_of shelf) s lost_shelf g.shelves (higher (g.shelves s) (laws.shelves s).last_fits) (λ x differ. omega arith)

pub connected_lost : (g : Group) (s : StructNo) (claims : List Claim) → AllByRecursion (IsConnected g.shelves) claims → AllByRecursion (IsConnected (at_structure s lost_shelf g.shelves)) claims
connected_lost g s [] all = tt
connected_lost g s (c ∷ claims) all = (
  every_structure (λ x shelf. (is_active (g.shelves x).state ≡ true → c.connection.epoch ≡ (g.shelves x).epoch) → is_active shelf.state ≡ true → c.connection.epoch ≡ shelf.epoch) s lost_shelf g.shelves
      (λ old active. absurd cc) (λ x differ old. old) c.connection.structure all.0,
  connected_lost g s claims all.1,
)
