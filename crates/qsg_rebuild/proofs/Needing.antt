-- what a step needs of the group, it leaves
use Rattle.std.proofs.Common.{◌≡◌, ℕ, ◌-◌, ◌≤◌, List, length, Option, Some, None, Result, Ok, sym, ap, subst, ◌∙◌, arith, Bor}
use Rattle.std.specs.Prelude.{slice_set, find}
use Rattle.std.proofs.lemmas.List.{length-set}
use Rattle.qsg_num.specs.declared.ids.EntryId.{EntryId}
use Rattle.qsg_num.specs.Seats.{member_number, structure_number}
use Rattle.qsg_lists.specs.declared.parts.Entry.{Entry}
use Rattle.qsg_lists.specs.declared.parts.Lost.{Lost}
use Rattle.qsg_lists.specs.Entries.{is_above}
use Rattle.qsg_lists.specs.Structures.{Answers, ListStructure}
use Rattle.qsg_lists.proofs.Found.{all-find}
use Rattle.qsg_datasets.specs.Kept.{KeptSet, HasSet, sets_of, with_set}
use Rattle.qsg_num.specs.declared.seats.Member.{Member}
use Rattle.qsg_num.specs.declared.seats.StructNo.{StructNo}
use Rattle.qsg_manager.specs.Facilities.{structure_in}
use Rattle.qsg_parts.specs.Owned.{Owned}
use Rattle.qsg_rebuild.specs.declared.phases.RebuildTurn.{RebuildTurn}
use Rattle.qsg_rebuild.specs.declared.phases.RebuildError.{RebuildError}
use Rattle.qsg_rebuild.specs.declared.work.RebuildWork.{RebuildWork}
use Rattle.qsg_rebuild.specs.Steps.{structure_of, set_of, IsSamePlace, NextRebuild}
use Rattle.qsg_rebuild.specs.Needs.{IsWithin, AreWithin, MayStep}
use Rattle.qsg_rebuild.specs.Leaving.{LeavesRest}
use Rattle.qsg_rebuild.proofs.Places.{sets_of-same}
use Rattle.qsg_rebuild.proofs.Leaving.{step_leaves, step_place}

-- what was lent is what was found
lent_is : (lent : Bor Entry) (lost : Option Lost) (found : Option Entry) → Answers (Ok (Some lent)) lost found → found ≡ Some lent.now
lent_is lent None found answers = sym answers
lent_is lent (Some lost) found answers = absurd answers

pub lent_within : (lent : Bor Entry) (told : Option (Bor Entry)) (lost : Option Lost) (after : EntryId) (m : Member) (count : ℕ) (s : ListStructure) → told ≡ Some lent → Answers (Ok told) lost (find (is_above after) s.entries)
    → AreWithin m count s.entries → IsWithin m count lent.now.place
lent_within lent told lost after m count s some answers within =
    let answered : Answers (Ok (Some lent)) lost (find (is_above after) s.entries) = subst (λ (x : Option (Bor Entry)). Answers (Ok x) lost (find (is_above after) s.entries)) some answers in
    all-find (λ (e : Entry). IsWithin m count e.place) (is_above after) s.entries lent.now within (lent_is lent lost (find (is_above after) s.entries) answered)

-- a group has the same data sets after one of them changed
set-has : (m : Member) (s : StructNo) (set : KeptSet) (sets : List (List KeptSet)) → HasSet m s sets → HasSet m s (with_set m s set sets)
set-has m s set sets has =
    let row = sets_of-same m s set sets has in
    let rows = length-set sets (member_number m - 1) (slice_set (sets_of m sets) (structure_number s - 1) set) in
    let same = ap (λ (l : List KeptSet). length l) row ∙ length-set (sets_of m sets) (structure_number s - 1) set in
    record { member = omega (arith, rows, has.member); structure = omega (arith, same, has.structure) }

still_may : (w : RebuildWork) (p q : Owned) → MayStep w p → LeavesRest w p q → MayStep w q
still_may w p q may leaves =
    let structures : q.structures ≡ p.structures = ap (λ (x : Owned). x.structures) leaves.others in
    let datasets : q.datasets ≡ with_set w.member w.structure (set_of w q) p.datasets = ap (λ (x : Owned). x.datasets) leaves.others in
    record {
      structure = subst (λ (l : List ListStructure). structure_number w.structure ≤ length l) (sym structures) may.structure;
      set = subst (HasSet w.member w.structure) (sym datasets) (set-has w.member w.structure (set_of w q) p.datasets may.set);
      within = subst (λ (l : List ListStructure). AreWithin w.member (set_of w q).contents.blocks (structure_in w.structure l).entries) (sym structures)
          (subst (λ (n : ℕ). AreWithin w.member n (structure_of w p).entries) (sym leaves.contents.blocks) may.within);
    }

-- a rebuild of the same map needs the same
moved : (w v : RebuildWork) (q : Owned) → IsSamePlace w v → MayStep w q → MayStep v q
moved w v q same may =
    let there : (m : Member) (s : StructNo) → m ≡ w.member → s ≡ w.structure → MayStep (record { member = m; structure = s; phase = v.phase }) q =
    λ m s one two. subst (λ (x : Member). MayStep (record { member = x; structure = s; phase = v.phase }) q) (sym one)
    (subst (λ (x : StructNo). MayStep (record { member = w.member; structure = x; phase = v.phase }) q) (sym two) (record { structure = may.structure; set = may.set; within = may.within })) in
    there v.member v.structure same.member same.structure

pub ready_after : (w : RebuildWork) (p : Owned) (result : Result RebuildTurn RebuildError) (v : RebuildWork) (q : Owned) → MayStep w p → NextRebuild w p result v q → MayStep v q
ready_after w p result v q may next = moved w v q (step_place w p result v q next) (still_may w p q may (step_leaves w p result v q may next))
