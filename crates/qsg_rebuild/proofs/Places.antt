-- the data set of a rebuild among those of the group
use Rattle.std.proofs.Common.{◌≡◌, ◌-◌, List, [], get_or, sym, ap, ◌∙◌, arith}
use Rattle.std.specs.Prelude.{slice_set}
use Rattle.std.proofs.lemmas.List.{get_or-set_same, get_or-set_other, set-get_or}
use Rattle.qsg_num.specs.declared.seats.Member.{Member}
use Rattle.qsg_num.specs.declared.seats.StructNo.{StructNo}
use Rattle.qsg_num.specs.Seats.{member_number, structure_number}
use Rattle.qsg_num.proofs.Ranges.{member-bounds, structure-bounds}
use Rattle.qsg_datasets.specs.Kept.{KeptSet, HasSet, no_set, set_in, sets_of, with_set}
use Rattle.qsg_parts.specs.Owned.{Owned}
use Rattle.qsg_rebuild.specs.declared.work.RebuildWork.{RebuildWork}
use Rattle.qsg_rebuild.specs.Steps.{set_of, with_set_of}

-- a member has the same data sets, but for the one that is put among them
pub sets_of-same : (m : Member) (s : StructNo) (set : KeptSet) (sets : List (List KeptSet)) → HasSet m s sets → sets_of m (with_set m s set sets) ≡ slice_set (sets_of m sets) (structure_number s - 1) set
sets_of-same m s set sets has =
    let one = (member-bounds m).0 in
    get_or-set_same sets (member_number m - 1) (slice_set (sets_of m sets) (structure_number s - 1) set) [] (omega (arith, has.member))

-- what is put at a place stands there
pub set_in-same : (m : Member) (s : StructNo) (set : KeptSet) (sets : List (List KeptSet)) → HasSet m s sets → set_in m s (with_set m s set sets) ≡ set
set_in-same m s set sets has =
    let two = (structure-bounds s).0 in
    ap (λ (l : List KeptSet). get_or l (structure_number s - 1) no_set) (sets_of-same m s set sets has) ∙ get_or-set_same (sets_of m sets) (structure_number s - 1) set no_set (omega (arith, has.structure))

-- what stands elsewhere stays
apart : (k m : Member) → (member_number k ≡ member_number m → ⊥) → member_number k - 1 ≡ member_number m - 1 → ⊥
apart k m differ is = let one = (member-bounds k).0 in let two = (member-bounds m).0 in differ (omega arith)

apart_structures : (k s : StructNo) → (structure_number k ≡ structure_number s → ⊥) → structure_number k - 1 ≡ structure_number s - 1 → ⊥
apart_structures k s differ is = let one = (structure-bounds k).0 in let two = (structure-bounds s).0 in differ (omega arith)

pub set_in-other_member : (k m : Member) (x s : StructNo) (set : KeptSet) (sets : List (List KeptSet)) → (member_number k ≡ member_number m → ⊥) → set_in k x (with_set m s set sets) ≡ set_in k x sets
set_in-other_member k m x s set sets differ =
    ap (λ (l : List KeptSet). get_or l (structure_number x - 1) no_set) (get_or-set_other sets (member_number m - 1) (member_number k - 1) (slice_set (sets_of m sets) (structure_number s - 1) set) [] (apart k m differ))

pub set_in-other_structure : (m : Member) (x s : StructNo) (set : KeptSet) (sets : List (List KeptSet)) → HasSet m s sets → (structure_number x ≡ structure_number s → ⊥) → set_in m x (with_set m s set sets) ≡ set_in m x sets
set_in-other_structure m x s set sets has differ =
    ap (λ (l : List KeptSet). get_or l (structure_number x - 1) no_set) (sets_of-same m s set sets has) ∙ get_or-set_other (sets_of m sets) (structure_number s - 1) (structure_number x - 1) set no_set (apart_structures x s differ)

-- where it stands already, nothing changes
pub with_set-same : (m : Member) (s : StructNo) (sets : List (List KeptSet)) → with_set m s (set_in m s sets) sets ≡ sets
with_set-same m s sets = ap (λ (l : List KeptSet). slice_set sets (member_number m - 1) l) (set-get_or (sets_of m sets) (structure_number s - 1) no_set) ∙ set-get_or sets (member_number m - 1) []

pub set_of-with : (w : RebuildWork) (set : KeptSet) (p : Owned) → HasSet w.member w.structure p.datasets → set_of w (with_set_of w set p) ≡ set
set_of-with w set p has = set_in-same w.member w.structure set p.datasets has

pub with_set_of-same : (w : RebuildWork) (p : Owned) → with_set_of w (set_of w p) p ≡ p
with_set_of-same w p = ap (λ (l : List (List KeptSet)). record p { datasets = l }) (with_set-same w.member w.structure p.datasets)

-- the group after a step is the one with another data set
pub set_is : (w : RebuildWork) (set : KeptSet) (p q : Owned) → HasSet w.member w.structure p.datasets → q ≡ with_set_of w set p → set_of w q ≡ set
set_is w set p q has is = ap (set_of w) is ∙ set_of-with w set p has

pub others_are : (w : RebuildWork) (set : KeptSet) (p q : Owned) → HasSet w.member w.structure p.datasets → q ≡ with_set_of w set p → q ≡ with_set_of w (set_of w q) p
others_are w set p q has is = is ∙ ap (λ (x : KeptSet). with_set_of w x p) (sym (set_is w set p q has is))
