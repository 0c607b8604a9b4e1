-- A structure that is purged, and one that recovers: what of the history, the ids and the units in hand is as it was.
use Rattle.std.proofs.Common.{◌≡◌, ℕ, ◌+◌, ◌<◌, ◌≤◌, Bool, true, false, cond, List, [], ◌∷◌, ◌++◌, Option, None, refl, sym, ap, subst, ◌∙◌, arith, inl, inr}
use Rattle.std.specs.Prelude.{◌==◌}
use Rattle.std.specs.List.{list_any, AllByRecursion}
use Rattle.std.proofs.lemmas.Bool.{cases_Bool, both_ways, ne_eqb, eq-eqb}
use Rattle.qsg_num.specs.declared.seats.Member.{Member}
use Rattle.qsg_num.specs.declared.seats.StructNo.{StructNo}
use Rattle.qsg_num.specs.declared.ids.Incarnation.{Incarnation}
use Rattle.qsg_num.specs.declared.ids.UnitName.{UnitName}
use Rattle.qsg_num.specs.Seats.{structure_number}
use Rattle.qsg_num.specs.Ids.{same_unit}
use Rattle.qsg_msg.specs.declared.message.Message.{Message}
use Rattle.qsg_model.specs.declared.history.Op.{Op}
use Rattle.qsg_model.specs.declared.history.Item.{Item}
use Rattle.qsg_model.specs.declared.history.Item.TheVariants.{Unit as UnitOf, Lost, Purged}
use Rattle.qsg_model.specs.History.{has_key, puts, ends_of, count_of}
use Rattle.qsg_model.specs.Past.{is_put, is_got, was_put, was_got, is_unit, Past, kept, or_else, persistent_only, held_at, past_of}
use Rattle.qsg_model.proofs.Differing.{fold_push}
use Rattle.qsg_model.proofs.Keyed.{message_at-none}
use Rattle.qsg_model.proofs.Growing.{past_of-push, quiet_names, quiet_put_keys, quiet_got_keys}
use Rattle.qsg_model.proofs.Past.{floor_below}
use Rattle.qsg_lists.specs.declared.parts.State.{State}
use Rattle.qsg_lists.specs.declared.parts.State.TheVariants.{Active, Failed, InRecover}
use Rattle.qsg_lists.specs.Structures.{is_active}
use Rattle.qsg_lists.specs.Recovering.{is_recovering}
use Rattle.qsg_group.specs.declared.tasks.Claim.{Claim}
use Rattle.qsg_group.specs.Tables.{at_structure}
use Rattle.qsg_group.specs.Group.{Shelf, Group}
use Rattle.qsg_group.specs.Observers.{top_of, keys_claimed, IsPurged, IsElsewhere}
use Rattle.qsg_group.specs.Laws.{AreMatched, IsReady, IsConnected, IsEmptied}
use Rattle.qsg_group.specs.Changes.{reopened_shelf}
use Rattle.qsg_group.proofs.Tables.{every_structure}
use Rattle.qsg_group.proofs.Keys.{matched_stays, put_claimed, got_claimed}

-- ---- the history with one item more

pub put_purged : (k : ℕ × ℕ) (h : List Item) (s : StructNo) → was_put k (h ++ Purged s ∷ []) ≡ was_put k h
put_purged k h s = ap (λ ks. has_key ks k) (quiet_put_keys h (Purged s) refl)

pub got_purged : (k : ℕ × ℕ) (h : List Item) (s : StructNo) → was_got k (h ++ Purged s ∷ []) ≡ was_got k h
got_purged k h s = ap (λ ks. has_key ks k) (quiet_got_keys h (Purged s) refl)

pub unit_purged : (u : UnitName) (h : List Item) (s : StructNo) → is_unit u (h ++ Purged s ∷ []) ≡ is_unit u h
unit_purged u h s = ap (λ us. list_any (same_unit u) us) (quiet_names h (Purged s) refl)

zero_more : (n : ℕ) → n + 0 ≡ n
zero_more n = omega arith

pub count_purged : (n : ℕ) (h : List Item) (s : StructNo) → (n ≡ structure_number s → ⊥) → count_of n (h ++ Purged s ∷ []) ≡ count_of n h
count_purged n h s differ =
    fold_push (λ a i. a + ends_of n i) 0 h (Purged s)
    ∙ ap (λ (b : Bool). count_of n h + cond b 1 0) (ne_eqb n (structure_number s) differ)
    ∙ zero_more (count_of n h)

pub count_purged_own : (h : List Item) (s : StructNo) → count_of (structure_number s) (h ++ Purged s ∷ []) ≡ count_of (structure_number s) h + 1
count_purged_own h s =
    fold_push (λ a i. a + ends_of (structure_number s) i) 0 h (Purged s)
    ∙ ap (λ (b : Bool). count_of (structure_number s) h + cond b 1 0) (eq-eqb (structure_number s) (structure_number s) refl)

pub count_lost_own : (h : List Item) (s : StructNo) → count_of (structure_number s) (h ++ Lost s ∷ []) ≡ count_of (structure_number s) h + 1
count_lost_own h s =
    fold_push (λ a i. a + ends_of (structure_number s) i) 0 h (Lost s)
    ∙ ap (λ (b : Bool). count_of (structure_number s) h + cond b 1 0) (eq-eqb (structure_number s) (structure_number s) refl)

pub count_unit : (n : ℕ) (h : List Item) (u : UnitName) (ops : List (StructNo × Op)) → count_of n (h ++ UnitOf u ops ∷ []) ≡ count_of n h
count_unit n h u ops = fold_push (λ a i. a + ends_of n i) 0 h (UnitOf u ops) ∙ zero_more (count_of n h)

pub ready_purged : (h : List Item) (s : StructNo) (ops : List (StructNo × Op)) (claims : List Claim) → IsReady h ops claims → IsReady (h ++ Purged s ∷ []) ops claims
ready_purged h s ops claims old = record {
  matched = matched_stays h (Purged s) ops claims old.gots_were_put old.matched;
  puts_differ = old.puts_differ;
  gots_differ = old.gots_differ;
  puts_are_new = λ k put. put_purged k h s ∙ old.puts_are_new k put;
  gots_were_put = λ k got. put_purged k h s ∙ old.gots_were_put k got;
  gots_are_new = λ k got. got_purged k h s ∙ old.gots_are_new k got;
}

-- ---- the past of a key

pub past_lost : (k : ℕ × ℕ) (h : List Item) (s : StructNo) → (k.0 ≡ structure_number s → ⊥) → past_of k (h ++ Lost s ∷ []) ≡ past_of k h
past_lost k h s differ =
    past_of-push k h (Lost s)
    ∙ ap (λ (b : Bool). cond b (record { count = (past_of k h).count + 1; floor = (past_of k h).floor; message = persistent_only (past_of k h).message }) (past_of k h)) (ne_eqb k.0 (structure_number s) differ)

pub past_purged : (k : ℕ × ℕ) (h : List Item) (s : StructNo) → (k.0 ≡ structure_number s → ⊥) → past_of k (h ++ Purged s ∷ []) ≡ past_of k h
past_purged k h s differ =
    past_of-push k h (Purged s)
    ∙ ap (λ (b : Bool). cond b (record { count = (past_of k h).count + 1; floor = (past_of k h).count + 1; message = None }) (past_of k h)) (ne_eqb k.0 (structure_number s) differ)

pub held_purged : (k : ℕ × ℕ) (h : List Item) (s : StructNo) → (k.0 ≡ structure_number s → ⊥) → held_at k (h ++ Purged s ∷ []) ≡ held_at k h
held_purged k h s differ = ap (λ (p : Past). p.message) (past_purged k h s differ)

held_purged_own : (id : ℕ) (h : List Item) (s : StructNo) → held_at (structure_number s, id) (h ++ Purged s ∷ []) ≡ None
held_purged_own id h s =
    let p = past_of (structure_number s, id) h in
    ap (λ (q : Past). q.message) (past_of-push (structure_number s, id) h (Purged s))
    ∙ ap (λ (b : Bool). (cond b (record { count = p.count + 1; floor = p.count + 1; message = None }) p).message) (eq-eqb (structure_number s) (structure_number s) refl)

pub lost_own : (h : List Item) (s : StructNo) → IsEmptied (h ++ Lost s ∷ []) s Failed
lost_own h s =
    let k : ℕ × ℕ = (structure_number s, 0) in
    let p = past_of k h in
    let is : past_of k (h ++ Lost s ∷ []) ≡ record { count = p.count + 1; floor = p.floor; message = persistent_only p.message } =
    past_of-push k h (Lost s)
    ∙ ap (λ (b : Bool). cond b (record { count = p.count + 1; floor = p.floor; message = persistent_only p.message }) p) (eq-eqb (structure_number s) (structure_number s) refl) in
    let le = floor_below k h in
    subst (λ (q : Past). q.floor < q.count) (sym is) (omega (arith, le))

-- what is emptied stays so where the past of its keys is as it was
pub emptied_same : (h g : List Item) (s : StructNo) (state : State) → ((k : ℕ × ℕ) → k.0 ≡ structure_number s → past_of k g ≡ past_of k h) → IsEmptied h s state → IsEmptied g s state
emptied_same h g s Active same emptied = tt
emptied_same h g s Failed same emptied = subst (λ (p : Past). p.floor < p.count) (sym (same (structure_number s, 0) refl)) emptied
emptied_same h g s (InRecover m i) same emptied = λ is id.
    ap (λ (p : Past). p.message) (same (structure_number s, id) refl)
    ∙ emptied (subst (λ (p : Past). p.floor ≡ p.count) (same (structure_number s, 0) refl) is) id

-- ---- units that have no work on a structure

elsewhere_lacks : (s : StructNo) (id : ℕ) (claims : List Claim) → AllByRecursion (IsElsewhere s) claims → has_key (keys_claimed claims) (structure_number s, id) ≡ false
elsewhere_lacks s id [] all = refl
elsewhere_lacks s id (c ∷ claims) all =
    let apart : (structure_number s == structure_number c.connection.structure) ≡ false = ne_eqb (structure_number s) (structure_number c.connection.structure) (λ e. all.0 (sym e)) in
    let rest = elsewhere_lacks s id claims all.1 in
    grind (arith, apart, rest)

pub unput_elsewhere : (h : List Item) (s : StructNo) (id : ℕ) (ops : List (StructNo × Op)) (claims : List Claim) → AreMatched h ops claims → AllByRecursion (IsElsewhere s) claims → is_put (structure_number s, id) ops ≡ false
unput_elsewhere h s id ops claims matched all = elim (cases_Bool (is_put (structure_number s, id) ops)) [
  | inl put ↦ absurd (both_ways (has_key (keys_claimed claims) (structure_number s, id)) (elsewhere_lacks s id claims all) (put_claimed h (structure_number s, id) ops claims matched put))
  | inr unput ↦ unput
]

pub ungot_elsewhere : (h : List Item) (s : StructNo) (id : ℕ) (ops : List (StructNo × Op)) (claims : List Claim) → AreMatched h ops claims → AllByRecursion (IsElsewhere s) claims → is_got (structure_number s, id) ops ≡ false
ungot_elsewhere h s id ops claims matched all = elim (cases_Bool (is_got (structure_number s, id) ops)) [
  | inl got ↦ absurd (both_ways (has_key (keys_claimed claims) (structure_number s, id)) (elsewhere_lacks s id claims all) (got_claimed h (structure_number s, id) ops claims matched got))
  | inr ungot ↦ ungot
]

past_unit : (k : ℕ × ℕ) (h : List Item) (u : UnitName) (ops : List (StructNo × Op)) → is_put k ops ≡ false → is_got k ops ≡ false → past_of k (h ++ UnitOf u ops ∷ []) ≡ past_of k h
past_unit k h u ops unput ungot =
    let p = past_of k h in
    past_of-push k h (UnitOf u ops)
    ∙ ap (λ (o : Option Message). record p { message = or_else (kept p o) (cond (is_got k ops) None p.message) }) (message_at-none k (puts ops) unput)
    ∙ ap (λ (b : Bool). record p { message = cond b None p.message }) ungot

past_elsewhere : (h : List Item) (s : StructNo) (u : UnitName) (ops : List (StructNo × Op)) (claims : List Claim) → AreMatched h ops claims → AllByRecursion (IsElsewhere s) claims
    → (k : ℕ × ℕ) → k.0 ≡ structure_number s → past_of k (h ++ UnitOf u ops ∷ []) ≡ past_of k h
past_elsewhere h s u ops claims matched all k same =
    let is : k ≡ (structure_number s, k.1) = λ i. (same i, k.1) in
    past_unit k h u ops (ap (λ j. is_put j ops) is ∙ unput_elsewhere h s k.1 ops claims matched all) (ap (λ j. is_got j ops) is ∙ ungot_elsewhere h s k.1 ops claims matched all)

counts_unit : (k : ℕ × ℕ) (h : List Item) (u : UnitName) (ops : List (StructNo × Op)) → ((past_of k (h ++ UnitOf u ops ∷ [])).count ≡ (past_of k h).count) × ((past_of k (h ++ UnitOf u ops ∷ [])).floor ≡ (past_of k h).floor)
counts_unit k h u ops = (ap (λ (p : Past). p.count) (past_of-push k h (UnitOf u ops)), ap (λ (p : Past). p.floor) (past_of-push k h (UnitOf u ops)))

-- ---- states

pub not_both : (state : State) → is_active state ≡ true → is_recovering state ≡ true → ⊥
not_both Active active recovers = absurd cc
not_both Failed active recovers = absurd cc
not_both (InRecover m i) active recovers = absurd cc

pub recovers_inactive : (state : State) → is_recovering state ≡ true → is_active state ≡ false
recovers_inactive Active recovers = absurd cc
recovers_inactive Failed recovers = refl
recovers_inactive (InRecover m i) recovers = refl

pub emptied_now : (h : List Item) (s : StructNo) (state : State) → is_recovering state ≡ true → IsPurged s h → IsEmptied h s state → (id : ℕ) → held_at (structure_number s, id) h ≡ None
emptied_now h s Active recovers is emptied = absurd cc
emptied_now h s Failed recovers is emptied = absurd cc
emptied_now h s (InRecover m i) recovers is emptied = emptied is

pub emptied_begins : (h : List Item) (s : StructNo) (state : State) (m : Member) (i : Incarnation) → is_active state ≡ false → IsEmptied h s state → IsEmptied h s (InRecover m i)
emptied_begins h s Active m i idle emptied = absurd cc
emptied_begins h s Failed m i idle emptied = λ is id. absurd (omega (arith, emptied, is))
emptied_begins h s (InRecover n j) m i idle emptied = emptied

pub emptied_purged : (h : List Item) (s : StructNo) (state : State) → is_recovering state ≡ true → IsEmptied (h ++ Purged s ∷ []) s state
emptied_purged h s Active recovers = absurd cc
emptied_purged h s Failed recovers = absurd cc
emptied_purged h s (InRecover m i) recovers = λ is id. held_purged_own id h s

pub emptied_commits : (h : List Item) (s : StructNo) (state : State) (u : UnitName) (ops : List (StructNo × Op)) (claims : List Claim) → AreMatched h ops claims → (is_recovering state ≡ true → AllByRecursion (IsElsewhere s) claims) → IsEmptied h s state → IsEmptied (h ++ UnitOf u ops ∷ []) s state
emptied_commits h s Active u ops claims matched rests emptied = tt
emptied_commits h s Failed u ops claims matched rests emptied =
    let c = counts_unit (structure_number s, 0) h u ops in
    let a = c.0 in
    let b = c.1 in
    omega (arith, emptied, a, b)
emptied_commits h s (InRecover m i) u ops claims matched rests emptied =
    emptied_same h (h ++ UnitOf u ops ∷ []) s (InRecover m i) (past_elsewhere h s u ops claims matched (rests refl)) emptied

-- ---- ids and claims of a structure that is active again

higher : (shelf : Shelf) (top : ℕ) → top_of shelf ≤ top_of (reopened_shelf top shelf)
higher shelf top = omega arith

pub top_reopened : (g : Group) (s : StructNo) (top : ℕ) → (x : StructNo) → top_of (g.shelves x) ≤ top_of (at_structure s (reopened_shelf top) g.shelves x)
top_reopened g s top = every_structure (λ x shelf. top_of (g.shelves x) ≤ top_of shelf) s (reopened_shelf top) g.shelves (higher (g.shelves s) top) (λ x differ. omega arith)

pub connected_reopened : (g : Group) (s : StructNo) (top : ℕ) (claims : List Claim) → AllByRecursion (IsElsewhere s) claims → AllByRecursion (IsConnected g.shelves) claims → AllByRecursion (IsConnected (at_structure s (reopened_shelf top) g.shelves)) claims
connected_reopened g s top [] rests all = tt
connected_reopened g s top (c ∷ claims) rests all = (
  every_structure (λ x shelf. (structure_number x ≡ structure_number s → ⊥) → (is_active (g.shelves x).state ≡ true → c.connection.epoch ≡ (g.shelves x).epoch) → is_active shelf.state ≡ true → c.connection.epoch ≡ shelf.epoch) s (reopened_shelf top) g.shelves
      (λ apart old active. absurd (apart refl)) (λ x differ apart old. old) c.connection.structure rests.0 all.0,
  connected_reopened g s top claims rests.1 all.1,
)

pub connected_inactive : (g : Group) (s : StructNo) (f : Shelf → Shelf) (claims : List Claim) → is_active (f (g.shelves s)).state ≡ false → AllByRecursion (IsConnected g.shelves) claims → AllByRecursion (IsConnected (at_structure s f g.shelves)) claims
connected_inactive g s f [] idle all = tt
connected_inactive g s f (c ∷ claims) idle all = (
  every_structure (λ x shelf. (is_active (g.shelves x).state ≡ true → c.connection.epoch ≡ (g.shelves x).epoch) → is_active shelf.state ≡ true → c.connection.epoch ≡ shelf.epoch) s f g.shelves
      (λ old active. absurd (both_ways (is_active (f (g.shelves s)).state) idle active)) (λ x differ old. old) c.connection.structure all.0,
  connected_inactive g s f claims idle all.1,
)
