-- what a step makes of the machine of blocks
use Rattle.std.proofs.Common.{◌≡◌, inl, inr, sym, ap, subst, ◌∙◌}
use Rattle.qsg_num.specs.declared.seats.Member.{Member}
use Rattle.qsg_num.specs.declared.seats.StructNo.{StructNo}
use Rattle.qsg_num.specs.Seats.{member_number, structure_number}
use Rattle.qsg_group.specs.Tables.{at_member}
use Rattle.qsg_group.proofs.Tables.{change-same, change-other, cases_member}
use Rattle.qsg_datasets.specs.Kept.{KeptSet, HasSet, set_in}
use Rattle.qsg_blocks.specs.Changes.{with_set}
use Rattle.qsg_parts.specs.Owned.{Owned}
use Rattle.qsg_rebuild.specs.declared.work.RebuildWork.{RebuildWork}
use Rattle.qsg_rebuild.specs.Steps.{set_of, with_set_of}
use Rattle.qsg_rebuild.specs.Leaving.{LeavesRest, IsElsewhere}
use Rattle.qsg_rebuild.specs.Grounds.{ground_of}
use Rattle.qsg_rebuild.proofs.Places.{set_in-same, set_in-other_member, set_in-other_structure}

-- a data set of the structure is put in its place
put_at : (w : RebuildWork) (set : KeptSet) (p : Owned) → HasSet w.member w.structure p.datasets → (k : Member)
    → set_in k w.structure (with_set_of w set p).datasets ≡ at_member w.member (λ _. set) (λ (m : Member). set_in m w.structure p.datasets) k
put_at w set p has k = elim (cases_member k w.member) [
  | inl same ↦ subst (λ (x : Member). set_in x w.structure (with_set_of w set p).datasets ≡ at_member w.member (λ _. set) (λ (m : Member). set_in m w.structure p.datasets) x) (sym same)
      (set_in-same w.member w.structure set p.datasets has ∙ sym (change-same member_number w.member (λ _. set) (λ (m : Member). set_in m w.structure p.datasets)))
  | inr differ ↦ set_in-other_member k w.member w.structure w.structure set p.datasets differ ∙ sym (change-other member_number w.member (λ _. set) (λ (m : Member). set_in m w.structure p.datasets) k differ)
]

pub ground_with : (w : RebuildWork) (set : KeptSet) (p : Owned) → HasSet w.member w.structure p.datasets → ground_of w.structure (with_set_of w set p) ≡ with_set w.member set (ground_of w.structure p)
ground_with w set p has = λ i. record { structure = (ground_of w.structure p).structure; sets = λ k. put_at w set p has k i; posts = (ground_of w.structure p).posts }

-- the ground after a step
pub ground_after : (w : RebuildWork) (p q : Owned) → HasSet w.member w.structure p.datasets → LeavesRest w p q → ground_of w.structure q ≡ with_set w.member (set_of w q) (ground_of w.structure p)
ground_after w p q has leaves = ap (ground_of w.structure) leaves.others ∙ ground_with w (set_of w q) p has

-- a data set elsewhere
pub set_elsewhere : (w : RebuildWork) (m : Member) (s : StructNo) (set : KeptSet) (p : Owned) → HasSet w.member w.structure p.datasets → IsElsewhere w m s → set_in m s (with_set_of w set p).datasets ≡ set_in m s p.datasets
set_elsewhere w m s set p has (inl other) = set_in-other_member m w.member s w.structure set p.datasets other
set_elsewhere w m s set p has (inr other) = elim (cases_member m w.member) [
  | inl same ↦ subst (λ (x : Member). set_in x s (with_set_of w set p).datasets ≡ set_in x s p.datasets) (sym same) (set_in-other_structure w.member s w.structure set p.datasets has other)
  | inr differ ↦ set_in-other_member m w.member s w.structure set p.datasets differ
]

-- another structure
pub ground_elsewhere : (w : RebuildWork) (s : StructNo) (set : KeptSet) (p : Owned) → HasSet w.member w.structure p.datasets → (structure_number s ≡ structure_number w.structure → ⊥) → ground_of s (with_set_of w set p) ≡ ground_of s p
ground_elsewhere w s set p has other = λ i. record { structure = (ground_of s p).structure; sets = λ k. set_elsewhere w k s set p has (inr other) i; posts = (ground_of s p).posts }

-- the same of a group after a step
pub left_elsewhere : (w : RebuildWork) (m : Member) (s : StructNo) (p q : Owned) → HasSet w.member w.structure p.datasets → LeavesRest w p q → IsElsewhere w m s → set_in m s q.datasets ≡ set_in m s p.datasets
left_elsewhere w m s p q has leaves other = ap (λ (x : Owned). set_in m s x.datasets) leaves.others ∙ set_elsewhere w m s (set_of w q) p has other

pub ground_left : (w : RebuildWork) (s : StructNo) (p q : Owned) → HasSet w.member w.structure p.datasets → LeavesRest w p q → (structure_number s ≡ structure_number w.structure → ⊥) → ground_of s q ≡ ground_of s p
ground_left w s p q has leaves other = ap (ground_of s) leaves.others ∙ ground_elsewhere w s (set_of w q) p has other
