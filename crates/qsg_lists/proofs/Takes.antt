-- the entry that a get is given, marked
use Rattle.std.proofs.Common.{◌≡◌, ℕ, ◌<◌, List, length, get_or, set, Option, Some, None, sym, ap, ◌∙◌, refl, arith, length-set, get_or-set_same}
use Rattle.std.specs.Prelude.{slice_get, option_map}
use Rattle.std.proofs.lemmas.Option.{slice_get-get_or}
use Rattle.qsg_num.specs.declared.ids.UnitName.{UnitName}
use Rattle.qsg_lists.specs.declared.parts.Entry.{Entry}
use Rattle.qsg_lists.specs.declared.parts.Mark.TheVariants.{GotBy}
use Rattle.qsg_lists.specs.Entries.{AreInOrder}
use Rattle.qsg_lists.specs.Structures.{ListStructure, IsSound}
use Rattle.qsg_lists.specs.Taking.{got_by, mark_found}
use Rattle.qsg_lists.proofs.Revising.{revise-at, sound-revise, keeps-marked}

-- a write of the mark at the place where the entry was found
pub marked_at : (unit : UnitName) (es : List Entry) (o : Option Entry) (i : ℕ) (x : Entry) → AreInOrder es → i < length es → o ≡ Some (get_or es i x) → x ≡ get_or es i x → set es i (got_by unit x) ≡ mark_found unit o es
marked_at unit es o i x s within found read =
    ap (λ z. set es i (got_by unit z)) read
    ∙ sym (revise-at (get_or es i x).id (λ e. Some (got_by unit e)) es i x s within refl)
    ∙ ap (λ z. mark_found unit z es) (sym found)

-- the marked entry stands there
pub found_at_place : (unit : UnitName) (es : List Entry) (o : Option Entry) (i : ℕ) (x : Entry) → i < length es → o ≡ Some (get_or es i x) → x ≡ get_or es i x → slice_get (set es i (got_by unit x)) i ≡ option_map (got_by unit) o
found_at_place unit es o i x within found read =
    slice_get-get_or (set es i (got_by unit x)) i x (omega (arith, length-set es i (got_by unit x)))
    ∙ ap (λ z. Some z) (get_or-set_same es i (got_by unit x) x within ∙ ap (got_by unit) read)
    ∙ ap (option_map (got_by unit)) (sym found)

-- a structure with a mark more is sound
pub sound-mark_found : (unit : UnitName) (o : Option Entry) (s : ListStructure) → IsSound s → IsSound (record s { entries = mark_found unit o s.entries })
sound-mark_found unit None s h = h
sound-mark_found unit (Some e) s h = sound-revise e.id (λ x. Some (got_by unit x)) (keeps-marked (GotBy unit)) s h
