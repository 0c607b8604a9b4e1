-- what a step of a cleaning leaves as it was
use Rattle.std.proofs.Common.{◌≡◌, ℕ, ◌+◌, ◌-◌, ◌<◌, ◌≤◌, Bool, true, false, cond, List, [], length, Option, Some, None, Result, Ok, Err, refl, sym, ap, subst, ◌∙◌, arith}
use Rattle.std.proofs.lemmas.List.{set-get_or, get_or-set_same, length-set}
use Rattle.qsg_num.specs.declared.ids.EntryId.{EntryId}
use Rattle.qsg_num.specs.declared.seats.Member.{Member}
use Rattle.qsg_num.specs.declared.seats.StructNo.{StructNo}
use Rattle.qsg_num.specs.Seats.{member_number, structure_number}
use Rattle.qsg_num.proofs.Ranges.{member-bounds, structure-bounds}
use Rattle.qsg_lists.specs.declared.parts.Connection.{Connection}
use Rattle.qsg_lists.specs.declared.parts.Entry.{Entry}
use Rattle.qsg_lists.specs.declared.parts.Lost.{Lost}
use Rattle.qsg_lists.specs.Entries.{revise}
use Rattle.qsg_lists.specs.Settling.{deleted}
use Rattle.qsg_lists.specs.Structures.{ListStructure, connect_answer}
use Rattle.qsg_datasets.specs.Kept.{KeptSet, HasSet, no_set, set_for, with_set_for, sets_of, set_in, with_set, with_sets_of, freed}
use Rattle.qsg_datasets.proofs.Lookups.{set_here, set_itself, has_row, size_with}
use Rattle.qsg_manager.specs.Facilities.{no_structure, structure_in, with_structure}
use Rattle.qsg_manager.proofs.Grouping.{structure_same}
use Rattle.qsg_parts.specs.Owned.{Owned}
use Rattle.qsg_cleaning.specs.declared.phases.Phase.{Phase}
use Rattle.qsg_cleaning.specs.declared.phases.Phase.TheVariants.{Connect, Search, Forget}
use Rattle.qsg_cleaning.specs.declared.work.CleaningWork.{CleaningWork}
use Rattle.qsg_cleaning.specs.declared.phases.CleaningTurn.{CleaningTurn}
use Rattle.qsg_cleaning.specs.Needs.{HasStructure, MayClean}
use Rattle.qsg_cleaning.specs.Steps.{Next, structure_of, connection_of, going_on, connected, searched, search_answer, is_to_clean, blocks_of, entry_answer, cleaned, cleaned_if, after_step, next_of}
use Rattle.qsg_cleaning.specs.Leaving.{LeavesRest}

-- ---- a structure of a list

same_structure : (s : StructNo) (ls : List ListStructure) → with_structure s (structure_in s ls) ls ≡ ls
same_structure s ls = set-get_or ls (structure_number s - 1) no_structure

-- ---- a step

unchanged : (m : Member) (s : StructNo) (p : Owned) → LeavesRest m s p p
unchanged m s p = record {
  parts = refl;
  structures = sym (same_structure s p.structures);
  datasets = sym (set_itself m s p.datasets);
}

cleaned_rest : (m : Member) (c : Connection) (id : EntryId) (e : Entry) (p : Owned) → MayClean m c.structure p → LeavesRest m c.structure p (cleaned m c id e p)
cleaned_rest m c id e p may = record {
  parts = refl;
  structures = ap (λ (l : ListStructure). with_structure c.structure (record old { entries = l.entries }) p.structures) (sym (structure_same c.structure new p.structures may.structure));
  datasets = ap (λ (x : KeptSet). with_set m c.structure (record set { map = x.map }) p.datasets) (sym (set_here m c.structure left p.datasets may.set));
}
  where
    old : ListStructure
    old = structure_of c.structure p

    new : ListStructure
    new = record old { entries = revise id deleted old.entries }

    set : KeptSet
    set = set_in m c.structure p.datasets

    left : KeptSet
    left = freed c.epoch (blocks_of e.place) set

if_rest : (m : Member) (c : Connection) (id : EntryId) (answer : Result (Option Entry) Lost) (p : Owned) → MayClean m c.structure p → LeavesRest m c.structure p (cleaned_if m c id answer p)
if_rest m c id (Ok (Some e)) p may = by (is_to_clean m e)
  where
    by : (b : Bool) → LeavesRest m c.structure p (cond b (cleaned m c id e p) p)
    by true = cleaned_rest m c id e p may
    by false = unchanged m c.structure p
if_rest m c id (Ok None) p may = unchanged m c.structure p
if_rest m c id (Err lost) p may = unchanged m c.structure p

pub same_parts : (next : Option Phase) (w : CleaningWork) (p : Owned) → (going_on next w p).parts ≡ p
same_parts None w p = refl
same_parts (Some phase) w p = refl

rest_at : (phase : Phase) (w : CleaningWork) (p : Owned) → MayClean w.member w.structure p → LeavesRest w.member w.structure p (after_step phase w p).parts
rest_at Connect w p may = rw (same_parts (connected (connect_answer (structure_of w.structure p))) w p) (unchanged w.member w.structure p)
rest_at (Search epoch) w p may = rw (same_parts (searched epoch (search_answer w.member (connection_of w epoch) p)) w p) (unchanged w.member w.structure p)
rest_at (Forget epoch id) w p may = if_rest w.member (connection_of w epoch) id (entry_answer (connection_of w epoch) id p) p may

pub rest_left : (w : CleaningWork) (p : Owned) → MayClean w.member w.structure p → LeavesRest w.member w.structure p (next_of w p).parts
rest_left w p may = rest_at w.phase w p may

-- ---- what the next step needs

cleaned_may : (m : Member) (c : Connection) (id : EntryId) (e : Entry) (p : Owned) → MayClean m c.structure p → MayClean m c.structure (cleaned m c id e p)
cleaned_may m c id e p may = record {
  structure = omega (arith, may.structure, length-set p.structures (structure_number c.structure - 1) new);
  set = has_row m m c.structure (with_set_for c.structure left (sets_of m p.datasets)) p.datasets (size_with m c.structure left p.datasets) may.set;
}
  where
    old : ListStructure
    old = structure_of c.structure p

    new : ListStructure
    new = record old { entries = revise id deleted old.entries }

    left : KeptSet
    left = freed c.epoch (blocks_of e.place) (set_in m c.structure p.datasets)

if_may : (m : Member) (c : Connection) (id : EntryId) (answer : Result (Option Entry) Lost) (p : Owned) → MayClean m c.structure p → MayClean m c.structure (cleaned_if m c id answer p)
if_may m c id (Ok (Some e)) p may = by (is_to_clean m e)
  where
    by : (b : Bool) → MayClean m c.structure (cond b (cleaned m c id e p) p)
    by true = cleaned_may m c id e p may
    by false = may
if_may m c id (Ok None) p may = may
if_may m c id (Err lost) p may = may

-- whose work it is, and on which structure
pub record IsOf (w v : CleaningWork) : Type 0 where
  pub member : v.member ≡ w.member
  pub structure : v.structure ≡ w.structure

going_of : (next : Option Phase) (w : CleaningWork) (p : Owned) → IsOf w (going_on next w p).work
going_of None w p = record { member = refl; structure = refl }
going_of (Some phase) w p = record { member = refl; structure = refl }

pub of_at : (phase : Phase) (w : CleaningWork) (p : Owned) → IsOf w (after_step phase w p).work
of_at Connect w p = going_of (connected (connect_answer (structure_of w.structure p))) w p
of_at (Search epoch) w p = going_of (searched epoch (search_answer w.member (connection_of w epoch) p)) w p
of_at (Forget epoch id) w p = record { member = refl; structure = refl }

pub may_at : (phase : Phase) (w : CleaningWork) (p : Owned) → MayClean w.member w.structure p → MayClean w.member w.structure (after_step phase w p).parts
may_at Connect w p may = rw (same_parts (connected (connect_answer (structure_of w.structure p))) w p) may
may_at (Search epoch) w p may = rw (same_parts (searched epoch (search_answer w.member (connection_of w epoch) p)) w p) may
may_at (Forget epoch id) w p may = if_may w.member (connection_of w epoch) id (entry_answer (connection_of w epoch) id p) p may

pub same_work : (w : CleaningWork) (p : Owned) (turn : CleaningTurn) (v : CleaningWork) (q : Owned) → record { turn = turn; work = v; parts = q } ≡ next_of w p → IsOf w v
same_work w p turn v q next = subst (IsOf w) (sym (ap (λ (n : Next). n.work) next)) (of_at w.phase w p)

pub may_after : (w : CleaningWork) (p : Owned) (turn : CleaningTurn) (v : CleaningWork) (q : Owned) → record { turn = turn; work = v; parts = q } ≡ next_of w p → MayClean w.member w.structure p → MayClean v.member v.structure q
may_after w p turn v q next may =
    let of = same_work w p turn v q next in
    rw (of.member, of.structure) (subst (MayClean w.member w.structure) (sym (ap (λ (n : Next). n.parts) next)) (may_at w.phase w p may))
