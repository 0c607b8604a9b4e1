-- a step of a cleaning, as the machine of blocks sees it
use Rattle.std.proofs.Common.{◌≡◌, ℕ, ◌-◌, Bool, true, false, cond, List, [], Option, Some, None, refl, sym, ap, subst, ◌∙◌, true≢false, inl, inr, arith}
use Rattle.std.specs.Prelude.{◌==◌, ◌&&◌}
use Rattle.std.proofs.lemmas.Bool.{and_parts, eqb-true}
use Rattle.qsg_num.specs.declared.ids.Block.{Block}
use Rattle.qsg_num.specs.declared.ids.EntryId.{EntryId}
use Rattle.qsg_num.specs.declared.seats.Member.{Member}
use Rattle.qsg_num.specs.declared.seats.StructNo.{StructNo}
use Rattle.qsg_num.specs.Seats.{member_number, structure_number}
use Rattle.qsg_group.specs.Tables.{at_member}
use Rattle.qsg_group.proofs.Tables.{same_member, cases_member, cases_structure, change-same, change-other}
use Rattle.qsg_lists.specs.declared.parts.Connection.{Connection}
use Rattle.qsg_lists.specs.declared.parts.Entry.{Entry}
use Rattle.qsg_lists.specs.declared.parts.Lost.{Lost}
use Rattle.qsg_lists.specs.declared.parts.Place.{Place}
use Rattle.qsg_lists.specs.declared.parts.Place.TheVariants.{Inline, Offloaded}
use Rattle.qsg_lists.specs.Entries.{entry_at, is_owned, revise}
use Rattle.qsg_lists.specs.Marks.{is_cleanup}
use Rattle.qsg_lists.specs.Settling.{deleted}
use Rattle.qsg_lists.specs.Structures.{ListStructure, is_active, lost_of}
use Rattle.qsg_lists.proofs.Found.{entry_at-id}
use Rattle.qsg_blocks.specs.State.{Ground}
use Rattle.qsg_blocks.specs.Changes.{Change, MayForget, with_entries, with_structure as ground_structure, with_set as ground_set}
use Rattle.qsg_blocks.specs.Changes.Change.{Rests, Forgets}
use Rattle.qsg_datasets.specs.Kept.{KeptSet, HasSet, no_set, set_for, with_set_for, sets_of, set_in, with_set, freed}
use Rattle.qsg_datasets.proofs.Lookups.{set_here, set_of_structure, set_of_member}
use Rattle.qsg_manager.specs.Facilities.{structure_in}
use Rattle.qsg_manager.specs.Storage.{manager_in}
use Rattle.qsg_manager.proofs.Grouping.{structure_same, structure_other}
use Rattle.qsg_parts.specs.Owned.{Owned}
use Rattle.qsg_cleaning.specs.declared.phases.Phase.{Phase}
use Rattle.qsg_cleaning.specs.declared.phases.Phase.TheVariants.{Connect, Search, Forget}
use Rattle.qsg_cleaning.specs.declared.work.CleaningWork.{CleaningWork}
use Rattle.qsg_cleaning.specs.Needs.{MayClean}
use Rattle.qsg_cleaning.specs.Steps.{structure_of, connection_of, is_to_clean, blocks_of, cleaned, next_of}
use Rattle.qsg_cleaning.specs.Forgetting.{HasForgotten, HasCleaned}
use Rattle.qsg_cleaning.specs.Ground.{ground_in}
use Rattle.qsg_cleaning.proofs.Forgetting.{has_cleaned}

-- ---- the entry that goes

served_is : (l : ListStructure) (c : Connection) → lost_of l c ≡ None → (is_active l.state ≡ true) × (c.epoch ≡ l.epoch)
served_is l c served = by (is_active l.state && (c.epoch == l.epoch)) refl served
  where
    by : (b : Bool) → (is_active l.state && (c.epoch == l.epoch)) ≡ b → cond {A = Option Lost} b None (Some (record { state = l.state; epoch = l.epoch })) ≡ None → (is_active l.state ≡ true) × (c.epoch ≡ l.epoch)
    by true is none = let parts = and_parts (is_active l.state) (c.epoch == l.epoch) is in (parts.0, eqb-true c.epoch l.epoch parts.1)
    by false is none = absurd cc

owned_place : (m : Member) (place : Place) → is_owned m place ≡ true → (n : ℕ) × (place ≡ Offloaded m (blocks_of place) n)
owned_place m (Inline body) is = absurd (true≢false (sym is))
owned_place m (Offloaded other blocks n) is = (n, ap (λ (k : Member). Offloaded k blocks n) (same_member other m (eqb-true (member_number other) (member_number m) is)))

own_id : (id : EntryId) (es : List Entry) (e : Entry) → entry_at id es ≡ Some e → id ≡ e.id
own_id id es e there = sym (entry_at-id id es e there)

-- ---- the data sets and the structure of it

sets_here : (m : Member) (s : StructNo) (x : KeptSet) (sets : List (List KeptSet)) → HasSet m s sets → (k : Member) → set_in k s (with_set m s x sets) ≡ at_member m (λ old. x) (λ j. set_in j s sets) k
sets_here m s x sets has k = elim (cases_member k m) [
  | inl same ↦ subst (λ j. set_in j s (with_set m s x sets) ≡ at_member m (λ old. x) (λ i. set_in i s sets) j) (sym same)
      (set_here m s x sets has ∙ sym (change-same member_number m (λ old. x) (λ j. set_in j s sets)))
  | inr differ ↦ set_of_member m k s (with_set_for s x (sets_of m sets)) sets differ ∙ sym (change-other member_number m (λ old. x) (λ j. set_in j s sets) k differ)
]

sets_elsewhere : (m : Member) (s z : StructNo) (x : KeptSet) (sets : List (List KeptSet)) → HasSet m s sets → (structure_number z ≡ structure_number s → ⊥) → (k : Member) → set_in k z (with_set m s x sets) ≡ set_in k z sets
sets_elsewhere m s z x sets has differ k = elim (cases_member k m) [
  | inl same ↦ subst (λ j. set_in j z (with_set m s x sets) ≡ set_in j z sets) (sym same) (set_of_structure m s z x sets has differ)
  | inr other ↦ set_of_member m k z (with_set_for s x (sets_of m sets)) sets other
]

-- ---- a step

abbrev forgotten_ground : Member → StructNo → Entry → Owned → Ground
forgotten_ground m s e p =
    ground_structure (with_entries (revise e.id deleted (structure_of s p).entries) (structure_of s p))
    (ground_set m (freed (structure_of s p).epoch (blocks_of e.place) (set_in m s p.datasets)) (ground_in s p))

here : (m : Member) (c : Connection) (id : EntryId) (e : Entry) (p : Owned) → MayClean m c.structure p → id ≡ e.id → c.epoch ≡ (structure_of c.structure p).epoch → ground_in c.structure (cleaned m c id e p) ≡ forgotten_ground m c.structure e p
here m c id e p may same now = λ i. record (ground_in c.structure p) { structure = structure i; sets = λ k. sets k i }
  where
    old : ListStructure
    old = structure_of c.structure p

    structure : structure_in c.structure (cleaned m c id e p).structures ≡ with_entries (revise e.id deleted old.entries) old
    structure = structure_same c.structure (with_entries (revise id deleted old.entries) old) p.structures may.structure ∙ ap (λ (x : EntryId). with_entries (revise x deleted old.entries) old) same

    sets : (k : Member) → set_in k c.structure (cleaned m c id e p).datasets ≡ at_member m (λ kept. freed old.epoch (blocks_of e.place) (set_in m c.structure p.datasets)) (λ j. set_in j c.structure p.datasets) k
    sets k = subst (λ (n : ℕ). set_in k c.structure (cleaned m c id e p).datasets ≡ at_member m (λ kept. freed n (blocks_of e.place) (set_in m c.structure p.datasets)) (λ j. set_in j c.structure p.datasets) k) now
        (sets_here m c.structure (freed c.epoch (blocks_of e.place) (set_in m c.structure p.datasets)) p.datasets may.set k)

elsewhere : (m : Member) (c : Connection) (id : EntryId) (e : Entry) (z : StructNo) (p : Owned) → MayClean m c.structure p → (structure_number z ≡ structure_number c.structure → ⊥) → ground_in z (cleaned m c id e p) ≡ ground_in z p
elsewhere m c id e z p may differ = λ i. record (ground_in z p) {
  structure = structure_other c.structure z (with_entries (revise id deleted (structure_of c.structure p).entries) (structure_of c.structure p)) p.structures differ i;
  sets = λ k. sets_elsewhere m c.structure z (freed c.epoch (blocks_of e.place) (set_in m c.structure p.datasets)) p.datasets may.set differ k i;
}

forgets_here : (m : Member) (c : Connection) (id : EntryId) (p q : Owned) → MayClean m c.structure p → (manager_in m p.managers).up ≡ true → HasForgotten m c id p q → Change (ground_in c.structure p) (ground_in c.structure q)
forgets_here m c id p q may up has =
    let e = has.entry in
    let old = structure_of c.structure p in
    let clean = and_parts (is_cleanup e.mark) (is_owned m e.place) has.to_clean in
    let place = owned_place m e.place clean.1 in
    let served = served_is old c has.served in
    let id_is = own_id id old.entries e has.there in
    subst (λ (x : Owned). Change (ground_in c.structure p) (ground_in c.structure x)) (sym has.parts)
    (subst (Change (ground_in c.structure p)) (sym (here m c id e p may id_is served.1))
    (Forgets (ground_in c.structure p) m e (blocks_of e.place) place.0 (record {
      up = up;
      active = served.0;
      at = subst (λ (x : EntryId). entry_at x old.entries ≡ Some e) id_is has.there;
      mark = clean.0;
      place = place.1;
    })))

rests : (s : StructNo) (p q : Owned) → ground_in s q ≡ ground_in s p → Change (ground_in s p) (ground_in s q)
rests s p q same = subst (Change (ground_in s p)) (sym same) (Rests (ground_in s p))

forgets : (s : StructNo) (m : Member) (c : Connection) (id : EntryId) (p q : Owned) → MayClean m c.structure p → (manager_in m p.managers).up ≡ true → HasForgotten m c id p q → Change (ground_in s p) (ground_in s q)
forgets s m c id p q may up has = elim (cases_structure s c.structure) [
  | inl same ↦ subst (λ (x : StructNo). Change (ground_in x p) (ground_in x q)) (sym same) (forgets_here m c id p q may up has)
  | inr differ ↦ rests s p q (ap (ground_in s) has.parts ∙ elsewhere m c id has.entry s p may differ)
]

cleaned_change : (s : StructNo) (phase : Phase) (w : CleaningWork) (p q : Owned) → MayClean w.member w.structure p → (manager_in w.member p.managers).up ≡ true → HasCleaned phase w p q → Change (ground_in s p) (ground_in s q)
cleaned_change s Connect w p q may up same = rests s p q (ap (ground_in s) same)
cleaned_change s (Search epoch) w p q may up same = rests s p q (ap (ground_in s) same)
cleaned_change s (Forget epoch id) w p q may up (inl same) = rests s p q (ap (ground_in s) same)
cleaned_change s (Forget epoch id) w p q may up (inr has) = forgets s w.member (connection_of w epoch) id p q may up has

pub is_blocks_change : (s : StructNo) (w : CleaningWork) (p : Owned) → MayClean w.member w.structure p → (manager_in w.member p.managers).up ≡ true → Change (ground_in s p) (ground_in s (next_of w p).parts)
is_blocks_change s w p may up = cleaned_change s w.phase w p (next_of w p).parts may up (has_cleaned w p)
