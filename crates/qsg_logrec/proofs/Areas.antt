-- The pieces of a page are read exactly as they are spelled.
use Rattle.std.proofs.Common.{◌≡◌, ℕ, zero, suc, ◌+◌, ◌-◌, ◌*◌, ◌/◌, ◌%◌, ◌^◌, ◌<◌, ◌≤◌, Bool, true, false, List, [], ◌∷◌, ◌++◌, length, replicate, Some, None, refl, sym, ap, subst, ◌∙◌, arith, ◌⊎◌, inl, inr}
use Rattle.std.specs.Prelude.{nat_le, ◌&&◌, ◌||◌, ◌==◌}
use Rattle.std.specs.List.{prefix_len, list_all}
use Rattle.std.specs.Int.{w16, to_be_bytes}
use Rattle.std.proofs.lemmas.Bool.{cases_lt, leb-true, le-leb, eqb-true}
use Rattle.std.proofs.lemmas.Bool.Decides.{nat_tests}
use Rattle.std.proofs.lemmas.List.{append-nil, length-append, length-replicate}
use Rattle.std.proofs.lemmas.List.Sums.{prefix_len-le-length}
use Rattle.qsg_msg.specs.Reading.{tested}
use Rattle.qsg_msg.proofs.Forms.{Reads, Then, Just, just_reads, reads_as, reads_then}
use Rattle.qsg_msg.proofs.FieldForms.{Choice, choice_reads, tested_is, tested_some, Some_bytes, bytes_reads, Passing, passing_reads}
use Rattle.qsg_msg.proofs.Messages.{one_byte}
use Rattle.qsg_logrec.specs.declared.piece.Part.{Part}
use Rattle.qsg_logrec.specs.declared.piece.Part.TheVariants.{Only, First, Middle, Last}
use Rattle.qsg_logrec.specs.declared.piece.Piece.{Piece}
use Rattle.qsg_logrec.specs.Pages.{part_number, piece_text, area_text, ArePieces, page_text, is_version, IsPageOf}
use Rattle.qsg_logrec.specs.PageReading.{part_of, fits_in, is_high, is_low, length_in, piece_at, pieces_at, is_used_high, is_used_low, used_at, is_zero, page_at}

pub zeros_within : (xs : List ℕ) → prefix_len is_zero xs ≤ length xs
zeros_within xs = prefix_len-le-length is_zero xs

-- ---- parts

some_part : (a b : Part) → Some a ≡ Some b → a ≡ b
some_part a b e = cc

no_part : (p : Part) → None ≡ Some p → ⊥
no_part p e = cc

part_is : (n : ℕ) (p : Part) → part_of n ≡ Some p → n ≡ part_number p
part_is zero p e = absurd (no_part p e)
part_is (suc zero) p e = ap part_number (some_part _ _ e)
part_is (suc (suc zero)) p e = ap part_number (some_part _ _ e)
part_is (suc (suc (suc zero))) p e = ap part_number (some_part _ _ e)
part_is (suc (suc (suc (suc zero)))) p e = ap part_number (some_part _ _ e)
part_is (suc (suc (suc (suc (suc n))))) p e = absurd (no_part p e)

part_back : (p : Part) → (part_number p < 256) × (part_of (part_number p) ≡ Some p)
part_back Only = (omega arith, refl)
part_back First = (omega arith, refl)
part_back Middle = (omega arith, refl)
part_back Last = (omega arith, refl)

-- ---- lengths of pieces

fits_parts : (room len : ℕ) → fits_in room len ≡ true → (1 ≤ len) × (((len + 3) ≡ room) ⊎ (len + 7 ≤ room))
fits_parts room len is = by_tests (nat_le 1 len) (len + 3 == room) (nat_le (len + 7) room) refl refl refl is
  where
    by_tests : (a b c : Bool) → nat_le 1 len ≡ a → (len + 3 == room) ≡ b → nat_le (len + 7) room ≡ c → (a && (b || c)) ≡ true → (1 ≤ len) × (((len + 3) ≡ room) ⊎ (len + 7 ≤ room))
    by_tests true true c x y z e = (leb-true _ _ x, inl (eqb-true _ _ y))
    by_tests true false true x y z e = (leb-true _ _ x, inr (leb-true _ _ z))
    by_tests true false false x y z e = absurd cc
    by_tests false b c x y z e = absurd cc

fits_all : (room len : ℕ) → 1 ≤ len → len + 3 ≡ room → fits_in room len ≡ true
fits_all room len some is = grind (arith, nat_tests)

fits_more : (room len : ℕ) → 1 ≤ len → len + 7 ≤ room → fits_in room len ≡ true
fits_more room len some is = grind (arith, nat_tests)

low_exists : (room high : ℕ) → 4 ≤ room → high * 256 + 3 ≤ room → (low : ℕ) × (low < 256) × (fits_in room (high * 256 + low) ≡ true)
low_exists room high some fits = elim (cases_lt room (high * 256 + 259)) [
  | inl near ↦ (room - (high * 256 + 3), omega (arith, near, fits), fits_all room (high * 256 + (room - (high * 256 + 3))) (omega (arith, near, fits, some)) (omega (arith, fits)))
  | inr far ↦ (1, omega arith, fits_more room (high * 256 + 1) (omega arith) (omega (arith, far)))
]

abbrev Length_in : ℕ → ℕ → List ℕ → Type 0
Length_in room len text = (fits_in room len ≡ true) × (len < 2 ^ 16) × (text ≡ to_be_bytes w16 len)

abbrev Length_digits : ℕ → ℕ → List ℕ → Type 0
Length_digits room = Then (Choice (tested (is_high room))) (λ high. Then (Choice (tested (is_low room high))) (λ low. Just (high * 256 + low)))

two_bytes : (high low : ℕ) → high < 256 → low < 256 → high ∷ low ∷ [] ≡ to_be_bytes w16 (high * 256 + low)
two_bytes high low h l =
    let one : high ≡ (high * 256 + low) / 256 % 256 = omega (arith, h, l) in
    let two : low ≡ (high * 256 + low) % 256 = omega (arith, h, l) in
    λ i. one i ∷ two i ∷ []

to_length : (room len : ℕ) (text : List ℕ) → Length_digits room len text → Length_in room len text
to_length room len text (high, x1, y1, f1, (low, x2, y2, f2, is, e2), e1) =
    let known1 = tested_is (is_high room) f1.0 high f1.2 in
    let known2 = tested_is (is_low room high) f2.0 low f2.2 in
    let h : high < 256 = subst (λ n. n < 256) known1.0 f1.1 in
    let l : low < 256 = subst (λ n. n < 256) known2.0 f2.1 in
    let rest : y1 ≡ low ∷ [] = e2 ∙ (λ i. f2.3 i ++ is.1 i) ∙ ap (λ n. n ∷ []) known2.0 in
    subst (λ n. Length_in room n text) (sym is.0)
    (known2.1, omega (arith, h, l), e1 ∙ (λ i. f1.3 i ++ rest i) ∙ ap (λ n. n ∷ low ∷ []) known1.0 ∙ two_bytes high low h l)

from_length : (room len : ℕ) (text : List ℕ) → Length_in room len text → Length_digits room len text
from_length room len text (fits, small, e) =
    let high = len / 256 in
    let low = len % 256 in
    let whole : high * 256 + low ≡ len = omega arith in
    let parts = fits_parts room len fits in
    let within : high * 256 + 3 ≤ room = elim (parts.1) [ inl same ↦ omega (arith, same) | inr more ↦ omega (arith, more) ] in (
      high,
      high ∷ [],
      low ∷ [],
      (high, omega (arith, small), tested_some (is_high room) high (le-leb _ _ within), refl),
      (low, low ∷ [], [], (low, omega arith, tested_some (is_low room high) low (ap (fits_in room) whole ∙ fits), refl), (sym whole, refl), refl),
      e ∙ ap (to_be_bytes w16) (sym whole) ∙ sym (two_bytes high low (omega (arith, small)) (omega arith)),
    )

length_reads : (room : ℕ) → 4 ≤ room → Reads (Length_in room) (length_in room)
unfolding length_in
length_reads room some =
    reads_as (Length_digits room) (Length_in room) (length_in room)
    (reads_then _ _ _ _ (choice_reads (tested (is_high room)) (0, 0, omega arith, tested_some (is_high room) 0 (le-leb _ _ (omega (arith, some))))) (λ high x t.
    let known = tested_is (is_high room) t.0 high t.2 in
    let low = low_exists room high some (leb-true _ _ known.1) in
    reads_then _ _ _ _ (choice_reads (tested (is_low room high)) (low.0, low.0, low.1, tested_some (is_low room high) low.0 low.2)) (λ l _ _. just_reads (high * 256 + l))))
    (to_length room) (from_length room)

-- ---- pieces

abbrev Piece_in : ℕ → Piece → List ℕ → Type 0
Piece_in room p text = (fits_in room (length p.bytes) ≡ true) × (length p.bytes < 2 ^ 16) × (text ≡ piece_text p)

abbrev made : Part → List ℕ → Piece
made part bytes = record { part = part; bytes = bytes }

abbrev Piece_parts : ℕ → Piece → List ℕ → Type 0
Piece_parts room = Then (Choice part_of) (λ part. Then (Length_in room) (λ len. Then (Some_bytes len) (λ bytes. Just (made part bytes))))

to_piece : (room : ℕ) (p : Piece) (text : List ℕ) → Piece_parts room p text → Piece_in room p text
to_piece room p text (part, x1, y1, f1, (len, x2, y2, f2, (bytes, x3, y3, f3, is, e3), e2), e1) =
    let l3 : y2 ≡ bytes = e3 ∙ (λ i. f3.1 i ++ is.1 i) ∙ append-nil bytes in
    let l2 : y1 ≡ to_be_bytes w16 (length bytes) ++ bytes = e2 ∙ (λ i. (f2.2 ∙ ap (to_be_bytes w16) (sym f3.0)) i ++ l3 i) in
    subst (λ q. Piece_in room q text) (sym is.0)
    (ap (fits_in room) f3.0 ∙ f2.0, subst (λ n. n < 2 ^ 16) (sym f3.0) f2.1, e1 ∙ (λ i. one_byte part_of part_number part_is part x1 f1 i ++ l2 i))

from_piece : (room : ℕ) (p : Piece) (text : List ℕ) → Piece_in room p text → Piece_parts room p text
from_piece room p text (fits, small, e) =
    let back = part_back p.part in
    let len = to_be_bytes w16 (length p.bytes) in (
      p.part,
      part_number p.part ∷ [],
      len ++ p.bytes,
      (part_number p.part, back.0, back.1, refl),
      (length p.bytes, len, p.bytes, (fits, small, refl), (p.bytes, p.bytes, [], (refl, refl), (refl, refl), sym (append-nil p.bytes)), refl),
      e,
    )

piece_reads : (room : ℕ) → 4 ≤ room → Reads (Piece_in room) (piece_at room)
unfolding piece_at
piece_reads room some =
    reads_as (Piece_parts room) (Piece_in room) (piece_at room)
    (reads_then _ _ _ _ (choice_reads part_of (1, _, omega arith, refl)) (λ part _ _.
    reads_then _ _ _ _ (length_reads room some) (λ len _ _.
    reads_then _ _ _ _ (bytes_reads len) (λ bytes _ _. just_reads (made part bytes)))))
    (to_piece room) (from_piece room)

-- ---- areas

abbrev pub Area : ℕ → List Piece → List ℕ → Type 0
Area room ps text = ArePieces ps × (length (area_text ps) ≡ room) × (text ≡ area_text ps)

pub area_more : (p : Piece) (ps : List Piece) → length (area_text (p ∷ ps)) ≡ 3 + length p.bytes + length (area_text ps)
area_more p ps = omega (arith, length-append p.bytes (area_text ps))

pub area_long : (ps : List Piece) → ArePieces ps → (length (area_text ps) ≡ 0) ⊎ (4 ≤ length (area_text ps))
area_long [] each = inl refl
area_long (p ∷ ps) each = inr (omega (arith, area_more p ps, each.0.some))

fits_rest : (room len : ℕ) → fits_in room len ≡ true → (1 ≤ len) × (len + 3 ≤ room) × (((room - (3 + len)) ≡ 0) ⊎ (4 ≤ room - (3 + len)))
fits_rest room len is =
    let parts = fits_parts room len is in elim (parts.1) [
      | inl same ↦ (parts.0, omega (arith, same), inl (omega (arith, same)))
      | inr more ↦ (parts.0, omega (arith, more), inr (omega (arith, more)))
    ]

no_area : (ps : List Piece) (text : List ℕ) → Area 0 ps text → Just [] ps text
no_area [] text t = (refl, t.2)
no_area (p ∷ ps) text t = absurd (omega (arith, t.1, area_more p ps))

no_area_back : (ps : List Piece) (text : List ℕ) → Just [] ps text → Area 0 ps text
no_area_back ps text t = subst (λ q. Area 0 q text) (sym t.0) (tt, refl, t.1)

abbrev More : ℕ → List Piece → List ℕ → Type 0
More room = Then (Piece_in room) (λ p. Then (Area (room - (3 + length p.bytes))) (λ ps. Just (p ∷ ps)))

to_area : (room : ℕ) (ps : List Piece) (text : List ℕ) → More room ps text → Area room ps text
to_area room all text (p, x1, y1, f1, (ps, x2, y2, f2, is, e2), e1) =
    let rest : y1 ≡ area_text ps = e2 ∙ (λ i. f2.2 i ++ is.1 i) ∙ append-nil (area_text ps) in
    let fits = fits_rest room (length p.bytes) f1.0 in
    subst (λ q. Area room q text) (sym is.0)
    ((record { some = omega (arith, fits.0); fits = f1.1 }, f2.0), omega (arith, area_more p ps, f2.1, fits.1), e1 ∙ (λ i. f1.2 i ++ rest i))

from_area : (room : ℕ) (ps : List Piece) (text : List ℕ) → Area (suc room) ps text → More (suc room) ps text
from_area room [] text t = absurd (omega (arith, t.1))
from_area room (p ∷ ps) text t =
    let long : 3 + length p.bytes + length (area_text ps) ≡ suc room = sym (area_more p ps) ∙ t.1 in
    let some = t.0.0.some in
    let fits : fits_in (suc room) (length p.bytes) ≡ true = elim (area_long ps t.0.1) [
      | inl none ↦ fits_all (suc room) (length p.bytes) (omega (arith, some)) (omega (arith, long, none))
      | inr more ↦ fits_more (suc room) (length p.bytes) (omega (arith, some)) (omega (arith, long, more))
    ] in
    (p, piece_text p, area_text ps, (fits, t.0.0.fits, refl), (ps, area_text ps, [], (t.0.1, omega (arith, long), refl), (refl, refl), sym (append-nil (area_text ps))), t.2)

pub pieces_read : (most room : ℕ) → room ≤ most → ((room ≡ 0) ⊎ (4 ≤ room)) → Reads (Area room) (pieces_at most room)
pieces_read zero zero le some = reads_as (Just []) (Area 0) (pieces_at 0 0) (just_reads []) no_area_back no_area
pieces_read zero (suc room) le some = absurd (omega (arith, le))
pieces_read (suc most) zero le some = reads_as (Just []) (Area 0) (pieces_at (suc most) 0) (just_reads []) no_area_back no_area
pieces_read (suc most) (suc room) le (inl none) = absurd (omega (arith, none))
pieces_read (suc most) (suc room) le (inr some) =
    reads_as (More (suc room)) (Area (suc room)) (pieces_at (suc most) (suc room))
    (reads_then _ _ _ _ (piece_reads (suc room) some) (λ p x t.
    let fits = fits_rest (suc room) (length p.bytes) t.0 in
    reads_then _ _ _ _ (pieces_read most (suc room - (3 + length p.bytes)) (omega (arith, le)) fits.2) (λ ps _ _. just_reads (p ∷ ps))))
    (to_area (suc room)) (from_area room)

-- ---- how much of the area is in use

abbrev Used : ℕ → List ℕ → Type 0
Used used text = (4 ≤ used) × (used ≤ 4088) × (text ≡ to_be_bytes w16 used)

used_parts : (high low : ℕ) → is_used_low high low ≡ true → (4 ≤ high * 256 + low) × (high * 256 + low ≤ 4088)
used_parts high low is = by_tests (nat_le 4 (high * 256 + low)) (nat_le (high * 256 + low) 4088) refl refl is
  where
    by_tests : (a b : Bool) → nat_le 4 (high * 256 + low) ≡ a → nat_le (high * 256 + low) 4088 ≡ b → (a && b) ≡ true → (4 ≤ high * 256 + low) × (high * 256 + low ≤ 4088)
    by_tests true true x y e = (leb-true _ _ x, leb-true _ _ y)
    by_tests true false x y e = absurd cc
    by_tests false b x y e = absurd cc

used_whole : (high low : ℕ) → 4 ≤ high * 256 + low → high * 256 + low ≤ 4088 → is_used_low high low ≡ true
used_whole high low some fits = rw (le-leb _ _ some, le-leb _ _ fits) refl

used_low_exists : (high : ℕ) → high ≤ 15 → (low : ℕ) × (low < 256) × (is_used_low high low ≡ true)
used_low_exists zero le = (4, omega arith, refl)
used_low_exists (suc high) le = (0, omega arith, used_whole (suc high) 0 (omega arith) (omega (arith, le)))

abbrev Used_digits : ℕ → List ℕ → Type 0
Used_digits = Then (Choice (tested is_used_high)) (λ high. Then (Choice (tested (is_used_low high))) (λ low. Just (high * 256 + low)))

to_used : (used : ℕ) (text : List ℕ) → Used_digits used text → Used used text
to_used used text (high, x1, y1, f1, (low, x2, y2, f2, is, e2), e1) =
    let known1 = tested_is is_used_high f1.0 high f1.2 in
    let known2 = tested_is (is_used_low high) f2.0 low f2.2 in
    let h : high < 256 = subst (λ n. n < 256) known1.0 f1.1 in
    let l : low < 256 = subst (λ n. n < 256) known2.0 f2.1 in
    let bounds = used_parts high low known2.1 in
    let rest : y1 ≡ low ∷ [] = e2 ∙ (λ i. f2.3 i ++ is.1 i) ∙ ap (λ n. n ∷ []) known2.0 in
    subst (λ n. Used n text) (sym is.0)
    (bounds.0, bounds.1, e1 ∙ (λ i. f1.3 i ++ rest i) ∙ ap (λ n. n ∷ low ∷ []) known1.0 ∙ two_bytes high low h l)

from_used : (used : ℕ) (text : List ℕ) → Used used text → Used_digits used text
from_used used text (some, fits, e) =
    let high = used / 256 in
    let low = used % 256 in
    let whole : high * 256 + low ≡ used = omega arith in (
      high,
      high ∷ [],
      low ∷ [],
      (high, omega (arith, fits), tested_some is_used_high high (le-leb _ _ (omega (arith, fits))), refl),
      (low, low ∷ [], [], (low, omega arith, tested_some (is_used_low high) low (used_whole high low (omega (arith, some)) (omega (arith, fits))), refl), (sym whole, refl), refl),
      e ∙ ap (to_be_bytes w16) (sym whole) ∙ sym (two_bytes high low (omega (arith, fits)) (omega arith)),
    )

used_reads : Reads Used used_at
unfolding used_at
used_reads =
    reads_as Used_digits Used used_at
    (reads_then _ _ _ _ (choice_reads (tested is_used_high) (0, 0, omega arith, refl)) (λ high x t.
    let known = tested_is is_used_high t.0 high t.2 in
    let low = used_low_exists high (leb-true _ _ known.1) in
    reads_then _ _ _ _ (choice_reads (tested (is_used_low high)) (low.0, low.0, low.1, tested_some (is_used_low high) low.0 low.2)) (λ l _ _. just_reads (high * 256 + l))))
    to_used from_used

-- ---- pages

all_zeros : (xs : List ℕ) (n : ℕ) → length xs ≡ n → list_all is_zero xs ≡ true → xs ≡ replicate n 0
all_zeros [] zero len all = refl
all_zeros [] (suc n) len all = absurd (omega (arith, len))
all_zeros (x ∷ xs) zero len all = absurd (omega (arith, len))
all_zeros (x ∷ xs) (suc n) len all = by_test (all_zeros xs n (omega (arith, len))) (x == 0) refl
  where
    by_test : (list_all is_zero xs ≡ true → xs ≡ replicate n 0) → (b : Bool) → (x == 0) ≡ b → x ∷ xs ≡ replicate (suc n) 0
    by_test step true e =
        let now = rw e at all in
        let here : x ≡ 0 = eqb-true _ _ e in
        λ i. here i ∷ step now i
    by_test step false e =
        let now = rw e at all in
        absurd cc

zeros_pass : (n : ℕ) → list_all is_zero (replicate n 0) ≡ true
zeros_pass zero = refl
zeros_pass (suc n) = zeros_pass n

version_small : (v : ℕ) → is_version v ≡ true → v < 256
version_small v is = by_tests (v == 1) (v == 2) refl refl is
  where
    by_tests : (a b : Bool) → (v == 1) ≡ a → (v == 2) ≡ b → (a || b) ≡ true → v < 256
    by_tests true b x y e = omega (arith, eqb-true _ _ x)
    by_tests false true x y e = omega (arith, eqb-true _ _ y)
    by_tests false false x y e = absurd cc

abbrev Page_parts : List Piece → List ℕ → Type 0
Page_parts = Then (Choice (tested is_version)) (λ version. Then Used (λ used. Then (Some_bytes 4) (λ lap. Then (Area used) (λ ps. Then (Passing is_zero (4088 - used)) (λ zeros. Just ps)))))

to_page : (ps : List Piece) (body : List ℕ) → Page_parts ps body → IsPageOf ps body
to_page all body (version, x1, y1, f1, (used, x2, y2, f2, (lap, x3, y3, f3, (ps, x4, y4, f4, (zeros, x5, y5, f5, is, e5), e4), e3), e2), e1) =
    let known = tested_is is_version f1.0 version f1.2 in
    let l5 : y4 ≡ replicate (4088 - length (area_text ps)) 0 =
    e5 ∙ (λ i. f5.2 i ++ is.1 i) ∙ append-nil zeros ∙ all_zeros zeros (4088 - used) f5.0 f5.1 ∙ ap (λ n. replicate (4088 - n) 0) (sym f4.1) in
    let l4 : y3 ≡ area_text ps ++ replicate (4088 - length (area_text ps)) 0 = e4 ∙ (λ i. f4.2 i ++ l5 i) in
    let l3 = e3 ∙ (λ i. f3.1 i ++ l4 i) in
    let l2 = e2 ∙ (λ i. (f2.2 ∙ ap (to_be_bytes w16) (sym f4.1)) i ++ l3 i) in
    let l1 : body ≡ page_text version lap (area_text ps) = e1 ∙ (λ i. f1.3 i ++ l2 i) ∙ ap (λ n. page_text n lap (area_text ps)) known.0 in
    subst (λ q. IsPageOf q body) (sym is.0)
    (record {
      version = version;
      version_is = known.1;
      lap = lap;
      lap_length = f3.0;
      each = f4.0;
      some = omega (arith, f2.0, f4.1);
      fits = omega (arith, f2.1, f4.1);
      body_is = l1;
    })

from_page : (ps : List Piece) (body : List ℕ) → IsPageOf ps body → Page_parts ps body
from_page ps body is =
    let area = area_text ps in
    let zeros = replicate (4088 - length area) 0 in
    let len = to_be_bytes w16 (length area) in (
      is.version,
      is.version ∷ [],
      len ++ (is.lap ++ (area ++ zeros)),
      (is.version, version_small is.version is.version_is, tested_some is_version is.version is.version_is, refl),
      (
        length area,
        len,
        is.lap ++ (area ++ zeros),
        (is.some, is.fits, refl),
        (
          is.lap,
          is.lap,
          area ++ zeros,
          (is.lap_length, refl),
          (
            ps,
            area,
            zeros,
            (is.each, refl, refl),
            (zeros, zeros, [], (length-replicate {A = ℕ} (4088 - length area) 0, zeros_pass (4088 - length area), refl), (refl, refl), sym (append-nil zeros)),
            refl,
          ),
          refl,
        ),
        refl,
      ),
      is.body_is,
    )

pub page_reads : Reads IsPageOf page_at
unfolding page_at
page_reads =
    reads_as Page_parts IsPageOf page_at
    (reads_then _ _ _ _ (choice_reads (tested is_version) (1, 1, omega arith, refl)) (λ version _ _.
    reads_then _ _ _ _ used_reads (λ used _ t.
    reads_then _ _ _ _ (bytes_reads 4) (λ lap _ _.
    reads_then _ _ _ _ (pieces_read used used (omega arith) (inr t.0)) (λ ps _ _.
    reads_then _ _ _ _ (passing_reads is_zero (4088 - used) 0 refl) (λ zeros _ _. just_reads ps))))))
    to_page from_page
