-- a structure with an entry to clean is one of the group's
use Rattle.std.proofs.Common.{◌≡◌, ◌+◌, ◌-◌, ◌<◌, ◌≤◌, List, [], ◌∷◌, length, Some, true, false, sym, subst, ◌∙◌, true≢false, inl, inr, arith}
use Rattle.std.proofs.lemmas.Bool.{cases_lt}
use Rattle.std.proofs.lemmas.List.{get_or_past}
use Rattle.qsg_num.specs.declared.seats.Member.{Member}
use Rattle.qsg_num.specs.declared.seats.StructNo.{StructNo}
use Rattle.qsg_num.specs.declared.seats.StructNo.TheVariants as s
use Rattle.qsg_num.specs.Seats.{structure_number}
use Rattle.qsg_num.proofs.Ranges.{structure-bounds}
use Rattle.qsg_lists.specs.Structures.{ListStructure}
use Rattle.qsg_manager.specs.Facilities.{no_structure}
use Rattle.qsg_parts.specs.Owned.{Owned}
use Rattle.qsg_cleaning.specs.Finding.{has_cleanup, has_cleaning_in, first_to_clean}
use Rattle.qsg_cleaning.specs.Needs.{HasStructure}
use Rattle.qsg_cleaning.proofs.Pace.{find_holds}

pub structure_found : (m : Member) (x : StructNo) (p : Owned) → first_to_clean m p ≡ Some x → HasStructure x p
structure_found m x p is = elim (cases_lt (structure_number x - 1) (length p.structures)) [
  | inl within ↦ let one = structure-bounds x in omega (arith, within)
  | inr past ↦
      let on = find_holds (has_cleaning_in m p) (s.One ∷ s.Two ∷ s.Three ∷ s.Four ∷ []) x is in
      absurd (true≢false (sym (subst (λ (l : ListStructure). has_cleanup m l ≡ true) (get_or_past p.structures (structure_number x - 1) no_structure past) on)))
]
