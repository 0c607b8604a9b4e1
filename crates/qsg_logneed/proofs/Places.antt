-- How far a record moves the end of a run. A page takes 4,085 bytes of records in a piece, and a piece behind another
-- loses 3 of them, or what is left where that is less.
use Rattle.std.proofs.Common.{◌≡◌, ℕ, zero, suc, ◌-◌, ◌+◌, ◌*◌, ◌/◌, ◌<◌, ◌≤◌, Bool, true, false, cond, refl, sym, ap, ◌∙◌, subst, arith, inl, inr}
use Rattle.std.specs.Prelude.{nat_lt}
use Rattle.std.proofs.lemmas.Bool.{cases_lt, ltb-true, ltb-false}
use Rattle.qsg_logneed.specs.declared.counting.Filling.{Filling}
use Rattle.qsg_logneed.specs.Filled.{page_for, with_piece, behind_piece, with_pieces, with_record}
use Rattle.qsg_logneed.proofs.Pieces.{same_filling}

-- the end of a run moves by the bytes of a record, and by what is lost before its first piece
pub record IsAfter (f : Filling) (bytes : ℕ) (g : Filling) : Type 0 where
  pub few_left : g.left < 4085
  pub total : g.pages * 4085 + (f.left - 3) ≡ f.pages * 4085 + bytes + g.left

pub one_after : (f : Filling) (bytes : ℕ) (g h : Filling) → IsAfter f bytes g → IsAfter f bytes h → g ≡ h
one_after f bytes g h a b =
    let pages_are : g.pages ≡ h.pages = omega (arith, a.few_left, a.total, b.few_left, b.total) in
    same_filling g h pages_are (omega (arith, a.total, b.total, pages_are))

no_pieces : (most : ℕ) (f : Filling) → with_pieces most f 0 ≡ f
no_pieces zero f = refl
no_pieces (suc most) f = refl

-- the page of the next piece is a new one, or the last one
data Paged (f : Filling) : Filling → Type 0 where
  new_page : f.left < 4 → Paged f (record { pages = f.pages + 1; left = 4088 })
  last_page : 4 ≤ f.left → Paged f f

paged : (f : Filling) → Paged f (page_for f)
paged f = by_test (nat_lt f.left 4) refl
  where
    by_test : (t : Bool) → nat_lt f.left 4 ≡ t → Paged f (cond t (record { pages = f.pages + 1; left = 4088 }) f)
    by_test true e = new_page (ltb-true _ _ e)
    by_test false e = last_page (ltb-false _ _ e)

-- where a record fits behind the last piece
fits_behind : (f : Filling) (most bytes : ℕ) → 0 < bytes → bytes ≤ most → bytes ≤ f.left - 3 → with_pieces most f bytes ≡ record { pages = f.pages; left = f.left - 3 - bytes }
fits_behind f zero bytes some most_is fits = absurd (omega (arith, some, most_is))
fits_behind f (suc most) zero some most_is fits = absurd (omega (arith, some))
fits_behind f (suc most) (suc bytes) some most_is fits = by_page (page_for f) (paged f)
  where
    by_page : (page : Filling) → Paged f page → with_pieces most (with_piece page (suc bytes)) (behind_piece page (suc bytes)) ≡ record { pages = f.pages; left = f.left - 3 - suc bytes }
    by_page _ (new_page few) = absurd (omega (arith, few, fits))
    by_page _ (last_page some_left) =
        let none : behind_piece f (suc bytes) ≡ 0 = omega (arith, fits) in
        ap (with_pieces most (with_piece f (suc bytes))) none ∙ no_pieces most (with_piece f (suc bytes))

-- where it doesn't, it ends on a new page
goes_on : (most : ℕ) (f : Filling) (bytes : ℕ) → bytes ≤ most → f.left - 3 < bytes → IsAfter f bytes (with_pieces most f bytes)
goes_on zero f bytes most_is over = absurd (omega (arith, most_is, over))
goes_on (suc most) f zero most_is over = absurd (omega (arith, over))
goes_on (suc most) f (suc bytes) most_is over = by_page (goes_on most) (page_for f) (paged f)
  where
    ends : (page : Filling) → page.left ≡ 4088 → page.pages ≡ f.pages + 1 → f.left - 3 ≡ 0 → suc bytes ≤ 4085 → IsAfter f (suc bytes) (with_pieces most (with_piece page (suc bytes)) (behind_piece page (suc bytes)))
    ends page left_is pages_are none fits =
        let none_behind : behind_piece page (suc bytes) ≡ 0 = omega (arith, left_is, fits) in
        subst (IsAfter f (suc bytes)) (sym (ap (with_pieces most (with_piece page (suc bytes))) none_behind ∙ no_pieces most (with_piece page (suc bytes))))
        (record { few_left = omega (arith, left_is); total = omega (arith, left_is, pages_are, none, fits) })

    more : ((g : Filling) (rest : ℕ) → rest ≤ most → g.left - 3 < rest → IsAfter g rest (with_pieces most g rest))
        → (page : Filling) → 4 ≤ page.left → page.left - 3 < suc bytes → page.pages * 4085 + (f.left - 3) ≡ f.pages * 4085 + (page.left - 3)
        → IsAfter f (suc bytes) (with_pieces most (with_piece page (suc bytes)) (behind_piece page (suc bytes)))
    more step page some_left over_page same =
        let h = step (with_piece page (suc bytes)) (behind_piece page (suc bytes)) (omega (arith, most_is, some_left)) (omega (arith, over_page)) in
        record { few_left = h.few_left; total = omega (arith, h.total, same, over_page) }

    by_page : ((g : Filling) (rest : ℕ) → rest ≤ most → g.left - 3 < rest → IsAfter g rest (with_pieces most g rest))
        → (page : Filling) → Paged f page → IsAfter f (suc bytes) (with_pieces most (with_piece page (suc bytes)) (behind_piece page (suc bytes)))
    by_page step _ (new_page few) = elim (cases_lt 4085 (suc bytes)) [
      | inl over_page ↦ more step (record { pages = f.pages + 1; left = 4088 }) (omega arith) (omega (arith, over_page)) (omega (arith, few))
      | inr fits ↦ ends (record { pages = f.pages + 1; left = 4088 }) refl refl (omega (arith, few)) fits
    ]
    by_page step _ (last_page some_left) = more step f some_left over refl

pub fits_is : (f : Filling) (bytes : ℕ) → 0 < bytes → bytes ≤ f.left - 3 → with_record f bytes ≡ record { pages = f.pages; left = f.left - 3 - bytes }
unfolding with_record
fits_is f bytes some fits = fits_behind f bytes bytes some (omega arith) fits

pub over_is : (f : Filling) (bytes : ℕ) → f.left - 3 < bytes → IsAfter f bytes (with_record f bytes)
unfolding with_record
over_is f bytes over = goes_on bytes f bytes (omega arith) over

pub none_is : (f : Filling) → with_record f 0 ≡ f
unfolding with_record
none_is f = refl

-- a record that goes on over new pages fills all of them but the last
abbrev pub on_new_pages : Filling → ℕ → Filling
on_new_pages f rest = record { pages = f.pages + (rest - 1) / 4085 + 1; left = 4085 - (rest - (rest - 1) / 4085 * 4085) }

pub new_pages : (f : Filling) (bytes room : ℕ) → room ≡ f.left - 3 → room < bytes → on_new_pages f (bytes - room) ≡ with_record f bytes
new_pages f bytes room room_is over =
    let after : IsAfter f bytes (on_new_pages f (bytes - room)) = record { few_left = omega (arith, over); total = omega (arith, room_is, over) } in
    one_after f bytes (on_new_pages f (bytes - room)) (with_record f bytes) after (over_is f bytes (omega (arith, room_is, over)))
