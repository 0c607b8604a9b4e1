-- the data sets of a group after some of them have changed
use Rattle.std.proofs.Common.{◌≡◌, ◌∙◌, sym, ap, refl, subst, inl, inr, ℕ, zero, suc, ◌-◌, ◌<◌, ◌≤◌, List, [], ◌∷◌, length, map, get_or, arith}
use Rattle.std.proofs.lemmas.List.{length-set, length-map, get_or-set_same, get_or-set_other, set-get_or, set_past}
use Rattle.std.proofs.lemmas.Bool.{cases_eq, cases_lt}
use Rattle.qsg_num.specs.declared.seats.Member.{Member}
use Rattle.qsg_num.specs.declared.seats.StructNo.{StructNo}
use Rattle.qsg_num.specs.Seats.{member_number, structure_number}
use Rattle.qsg_num.proofs.Ranges.{member-bounds, structure-bounds}
use Rattle.qsg_datasets.specs.Kept.{KeptSet, HasSet, no_set, sets_of, with_sets_of, set_for, with_set_for, set_in, with_set, emptied, emptied_all}
use Rattle.qsg_datasets.specs.Calls.{IsCut, AreCut}

-- ---- of a member, all

pub row_here : (m : Member) (row : List KeptSet) (sets : List (List KeptSet)) → member_number m ≤ length sets → sets_of m (with_sets_of m row sets) ≡ row
row_here m row sets within = get_or-set_same sets (member_number m - 1) row [] (omega (arith, member-bounds m))

pub row_other : (k m : Member) (row : List KeptSet) (sets : List (List KeptSet)) → (member_number k ≡ member_number m → ⊥) → sets_of k (with_sets_of m row sets) ≡ sets_of k sets
row_other k m row sets differ = get_or-set_other sets (member_number m - 1) (member_number k - 1) row [] (λ e. differ (omega (arith, e, member-bounds m, member-bounds k)))

row_past : (k m : Member) (row : List KeptSet) (sets : List (List KeptSet)) → length sets < member_number m → sets_of k (with_sets_of m row sets) ≡ sets_of k sets
row_past k m row sets past = ap (λ (l : List (List KeptSet)). sets_of k l) (set_past sets (member_number m - 1) row (omega arith))

length_here : (k m : Member) (row : List KeptSet) (sets : List (List KeptSet)) → member_number k ≡ member_number m → length row ≡ length (sets_of m sets) → length (sets_of k (with_sets_of m row sets)) ≡ length (sets_of k sets)
length_here k m row sets same size =
    let at : (l : List (List KeptSet)) → sets_of k l ≡ sets_of m l = λ l. ap (λ (n : ℕ). get_or l (n - 1) []) same in
    elim (cases_lt (length sets) (member_number m)) [
      | inr within ↦ ap (λ (l : List KeptSet). length l) (at (with_sets_of m row sets) ∙ row_here m row sets within) ∙ size ∙ ap (λ (l : List KeptSet). length l) (sym (at sets))
      | inl past ↦ ap (λ (l : List KeptSet). length l) (row_past k m row sets past)
    ]

pub length_stays : (k m : Member) (row : List KeptSet) (sets : List (List KeptSet)) → length row ≡ length (sets_of m sets) → length (sets_of k (with_sets_of m row sets)) ≡ length (sets_of k sets)
length_stays k m row sets size = elim (cases_eq (member_number k) (member_number m)) [
  | inl same ↦ length_here k m row sets same size
  | inr differ ↦ ap (λ (l : List KeptSet). length l) (row_other k m row sets differ)
]

pub has_row : (k m : Member) (t : StructNo) (row : List KeptSet) (sets : List (List KeptSet)) → length row ≡ length (sets_of m sets) → HasSet k t sets → HasSet k t (with_sets_of m row sets)
has_row k m t row sets size has = record {
  member = omega (arith, has.member, length-set sets (member_number m - 1) row);
  structure = omega (arith, has.structure, length_stays k m row sets size);
}

-- ---- one

for_here : (s : StructNo) (set : KeptSet) (row : List KeptSet) → structure_number s ≤ length row → set_for s (with_set_for s set row) ≡ set
for_here s set row within = get_or-set_same row (structure_number s - 1) set no_set (omega (arith, structure-bounds s))

for_other : (t s : StructNo) (set : KeptSet) (row : List KeptSet) → (structure_number t ≡ structure_number s → ⊥) → set_for t (with_set_for s set row) ≡ set_for t row
for_other t s set row differ = get_or-set_other row (structure_number s - 1) (structure_number t - 1) set no_set (λ e. differ (omega (arith, e, structure-bounds s, structure-bounds t)))

pub set_here : (m : Member) (s : StructNo) (set : KeptSet) (sets : List (List KeptSet)) → HasSet m s sets → set_in m s (with_set m s set sets) ≡ set
set_here m s set sets has = ap (λ (l : List KeptSet). set_for s l) (row_here m (with_set_for s set (sets_of m sets)) sets has.member) ∙ for_here s set (sets_of m sets) has.structure

pub set_of_structure : (m : Member) (s t : StructNo) (set : KeptSet) (sets : List (List KeptSet)) → HasSet m s sets → (structure_number t ≡ structure_number s → ⊥) → set_in m t (with_set m s set sets) ≡ set_in m t sets
set_of_structure m s t set sets has differ = ap (λ (l : List KeptSet). set_for t l) (row_here m (with_set_for s set (sets_of m sets)) sets has.member) ∙ for_other t s set (sets_of m sets) differ

pub set_of_member : (m k : Member) (t : StructNo) (row : List KeptSet) (sets : List (List KeptSet)) → (member_number k ≡ member_number m → ⊥) → set_in k t (with_sets_of m row sets) ≡ set_in k t sets
set_of_member m k t row sets differ = ap (λ (l : List KeptSet). set_for t l) (row_other k m row sets differ)

pub set_itself : (m : Member) (s : StructNo) (sets : List (List KeptSet)) → with_set m s (set_in m s sets) sets ≡ sets
set_itself m s sets = ap (λ (l : List KeptSet). with_sets_of m l sets) (set-get_or (sets_of m sets) (structure_number s - 1) no_set) ∙ set-get_or sets (member_number m - 1) []

pub size_with : (m : Member) (s : StructNo) (set : KeptSet) (sets : List (List KeptSet)) → length (with_set_for s set (sets_of m sets)) ≡ length (sets_of m sets)
size_with m s set sets = length-set (sets_of m sets) (structure_number s - 1) set

-- ---- cuts

pub size_cut : (xs ys : List KeptSet) → AreCut xs ys → length ys ≡ length xs
size_cut [] [] are = refl
size_cut [] (y ∷ ys) are = absurd are
size_cut (x ∷ xs) [] are = absurd are
size_cut (x ∷ xs) (y ∷ ys) are = ap suc (size_cut xs ys are.1)

cut_at : (xs ys : List KeptSet) (i : ℕ) (d e : KeptSet) → AreCut xs ys → i < length xs → IsCut (get_or xs i d) (get_or ys i e)
cut_at [] ys i d e are low = absurd (omega arith)
cut_at (x ∷ xs) [] i d e are low = absurd are
cut_at (x ∷ xs) (y ∷ ys) zero d e are low = are.0
cut_at (x ∷ xs) (y ∷ ys) (suc i) d e are low = cut_at xs ys i d e are.1 (omega arith)

pub cut_here : (m : Member) (s : StructNo) (row : List KeptSet) (sets : List (List KeptSet)) → HasSet m s sets → AreCut (sets_of m sets) row → IsCut (set_in m s sets) (set_in m s (with_sets_of m row sets))
cut_here m s row sets has are =
    subst (λ (l : List KeptSet). IsCut (set_in m s sets) (set_for s l)) (sym (row_here m row sets has.member))
    (cut_at (sets_of m sets) row (structure_number s - 1) no_set no_set are (omega (arith, has.structure, structure-bounds s)))

-- ---- what is emptied

emptied_at : (xs : List KeptSet) (i : ℕ) (d e : KeptSet) → i < length xs → get_or (map emptied xs) i e ≡ emptied (get_or xs i d)
emptied_at [] i d e low = absurd (omega arith)
emptied_at (x ∷ xs) zero d e low = refl
emptied_at (x ∷ xs) (suc i) d e low = emptied_at xs i d e (omega arith)

pub emptied_here : (m : Member) (s : StructNo) (sets : List (List KeptSet)) → HasSet m s sets → set_in m s (emptied_all m sets) ≡ emptied (set_in m s sets)
emptied_here m s sets has =
    ap (λ (l : List KeptSet). set_for s l) (row_here m (map emptied (sets_of m sets)) sets has.member)
    ∙ emptied_at (sets_of m sets) (structure_number s - 1) no_set no_set (omega (arith, has.structure, structure-bounds s))

pub size_emptied : (m : Member) (sets : List (List KeptSet)) → length (map emptied (sets_of m sets)) ≡ length (sets_of m sets)
size_emptied m sets = length-map (sets_of m sets) emptied
