-- the data sets of a group stay, or those of one member are others
use Rattle.std.proofs.Common.{◌≡◌, ℕ, ◌-◌, ◌≤◌, List, [], length, inl, inr, sym, ap, subst, ◌∙◌, arith}
use Rattle.std.proofs.Math.ListN.{length-set}
use Rattle.std.proofs.lemmas.List.{get_or-set_same, get_or-set_other}
use Rattle.qsg_num.specs.declared.seats.Member.{Member}
use Rattle.qsg_num.specs.Seats.{member_number}
use Rattle.qsg_group.proofs.Tables.{cases_member}
use Rattle.qsg_datasets.specs.Kept.{KeptSet, sets_of, with_sets_of}
use Rattle.qsg_parts.specs.Owned.{Owned, HasDataSets}
use Rattle.qsg_steady.proofs.Places.{member_some}

-- each member has a data set for each structure where there are as many members and structures as before
pub sets_stay : (p q : Owned) → q.datasets ≡ p.datasets → length q.managers ≡ length p.managers → length q.structures ≡ length p.structures → HasDataSets p → HasDataSets q
sets_stay p q sets members structures has = record {
  members = ap length sets ∙ has.members ∙ sym members;
  structures = λ m there. ap (λ (x : List (List KeptSet)). length (sets_of m x)) sets ∙ has.structures m (subst (λ (n : ℕ). member_number m ≤ n) members there) ∙ sym structures;
}

sets_same : (m : Member) (row : List KeptSet) (sets : List (List KeptSet)) → member_number m ≤ length sets → sets_of m (with_sets_of m row sets) ≡ row
sets_same m row sets within = let one = member_some m in get_or-set_same sets (member_number m - 1) row [] (omega arith)

sets_other : (m k : Member) (row : List KeptSet) (sets : List (List KeptSet)) → (member_number k ≡ member_number m → ⊥) → sets_of k (with_sets_of m row sets) ≡ sets_of k sets
sets_other m k row sets differ = let one = member_some m in let two = member_some k in get_or-set_other sets (member_number m - 1) (member_number k - 1) row [] (λ e. differ (omega arith))

-- and where a member has as many data sets as before
pub sets_moved : (m : Member) (row : List KeptSet) (p q : Owned) → q.datasets ≡ with_sets_of m row p.datasets → length row ≡ length (sets_of m p.datasets) → member_number m ≤ length p.managers
    → length q.managers ≡ length p.managers → length q.structures ≡ length p.structures → HasDataSets p → HasDataSets q
sets_moved m row p q sets long within members structures has = record {
  members = ap length sets ∙ length-set p.datasets (member_number m - 1) row ∙ has.members ∙ sym members;
  structures = λ k there. ap (λ (x : List (List KeptSet)). length (sets_of k x)) sets ∙ kept k ∙ has.structures k (subst (λ (n : ℕ). member_number k ≤ n) members there) ∙ sym structures;
}
  where
    kept : (k : Member) → length (sets_of k (with_sets_of m row p.datasets)) ≡ length (sets_of k p.datasets)
    kept k = elim (cases_member k m) [
      | inl same ↦ subst (λ (j : Member). length (sets_of j (with_sets_of m row p.datasets)) ≡ length (sets_of j p.datasets)) (sym same)
          (ap length (sets_same m row p.datasets (subst (λ (n : ℕ). member_number m ≤ n) (sym has.members) within)) ∙ long)
      | inr differ ↦ ap length (sets_other m k row p.datasets differ)
    ]
