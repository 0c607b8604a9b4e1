-- data sets whose member's storage is gone
use Rattle.std.proofs.Common.{◌≡◌, ℕ, zero, suc, ◌-◌, List, [], ◌∷◌, length, map, refl, sym, ap, subst, ◌∙◌, inl, inr}
use Rattle.std.specs.Prelude.{slice_index_or}
use Rattle.std.proofs.lemmas.Bool.{cases_lt}
use Rattle.std.proofs.lemmas.List.{get_or-set_same}
use Rattle.qsg_num.specs.declared.seats.Member.{Member}
use Rattle.qsg_num.specs.declared.seats.StructNo.{StructNo}
use Rattle.qsg_num.specs.Seats.{member_number, structure_number}
use Rattle.qsg_group.proofs.Tables.{cases_member}
use Rattle.qsg_space.proofs.Marking.{set-past}
use Rattle.qsg_datasets.specs.Kept.{KeptSet, no_set, set_for, sets_of, set_in, emptied, emptied_all}
use Rattle.qsg_datasets.proofs.Lookups.{row_other}

map_emptied : (xs : List KeptSet) (i : ℕ) → (slice_index_or (map emptied xs) i no_set).contents ≡ (slice_index_or xs i no_set).contents
map_emptied [] i = refl
map_emptied (x ∷ xs) zero = refl
map_emptied (x ∷ xs) (suc i) = map_emptied xs i

pub emptied_contents : (m k : Member) (s : StructNo) (sets : List (List KeptSet)) → (set_in k s (emptied_all m sets)).contents ≡ (set_in k s sets).contents
emptied_contents m k s sets = elim (cases_member k m) [
  | inl same ↦ subst (λ (j : Member). (set_in j s (emptied_all m sets)).contents ≡ (set_in j s sets).contents) (sym same) here
  | inr differ ↦ ap (λ (row : List KeptSet). (set_for s row).contents) (row_other k m (map emptied (sets_of m sets)) sets differ)
]
  where
    here : (set_in m s (emptied_all m sets)).contents ≡ (set_in m s sets).contents
    here = elim (cases_lt (member_number m - 1) (length sets)) [
      | inl within ↦ ap (λ (row : List KeptSet). (set_for s row).contents) (get_or-set_same sets (member_number m - 1) (map emptied (sets_of m sets)) [] within) ∙ map_emptied (sets_of m sets) (structure_number s - 1)
      | inr past ↦ ap (λ (all : List (List KeptSet)). (set_in m s all).contents) (set-past sets (member_number m - 1) (map emptied (sets_of m sets)) past)
    ]
