-- Records fill as many pages as they are cut into.
use Rattle.std.proofs.Common.{◌≡◌, ℕ, zero, suc, take, drop, min, ◌-◌, ◌+◌, ◌<◌, List, [], ◌∷◌, ◌++◌, length, map, Bool, true, false, cond, refl, sym, ap, ◌∙◌, arith}
use Rattle.std.specs.Prelude.{nat_lt}
use Rattle.std.proofs.lemmas.List.{length-take, length-drop, length-append}
use Rattle.std.proofs.lemmas.Bool.Decides.{nat_tests}
use Rattle.qsg_logrec.specs.declared.piece.Piece.{Piece}
use Rattle.qsg_logrec.specs.Pages.{piece_text}
use Rattle.qsg_logrec.specs.Cutting.{room_at, cut_pieces, left_after, run_pieces, cut_page, bodies, cut_bodies}
use Rattle.qsg_logneed.specs.declared.counting.Filling.{Filling}
use Rattle.qsg_logneed.specs.Filled.{no_pages, page_for, with_piece, behind_piece, with_pieces, with_record, filled_from, filled}

pub same_filling : (f g : Filling) → f.pages ≡ g.pages → f.left ≡ g.left → f ≡ g
same_filling f g pages_are left_is = λ i. record { pages = pages_are i; left = left_is i }

-- pieces one after another, by their lengths
abbrev filled_by : Filling → List Piece → Filling
filled_by f [] = f
filled_by f (p ∷ ps) = filled_by (with_piece (page_for f) (length p.bytes)) ps

filled_append : (f : Filling) (ps qs : List Piece) → filled_by f (ps ++ qs) ≡ filled_by (filled_by f ps) qs
filled_append f [] qs = refl
filled_append f (p ∷ ps) qs = filled_append (with_piece (page_for f) (length p.bytes)) ps qs

-- ---- pages, by the pieces on them

abbrev at_area : ℕ → ℕ → Filling
at_area n used = record { pages = n + 1; left = 4088 - used }

text_length : (p : Piece) → length (piece_text p) ≡ 3 + length p.bytes
text_length p = omega arith

same_test : (used : ℕ) → nat_lt (4088 - used) 4 ≡ nat_lt 4084 used
same_test used = grind (arith, nat_tests)

page_is : (n used : ℕ) (t : Bool) → nat_lt 4084 used ≡ t → page_for (at_area n used) ≡ cond t (record { pages = n + 1 + 1; left = 4088 }) (at_area n used)
page_is n used t e = ap (λ b. cond b (record { pages = n + 1 + 1; left = 4088 }) (at_area n used)) (same_test used ∙ e)

pages_behind : (ps : List Piece) (n : ℕ) (area : List ℕ) → 0 < length area → n + length (bodies area ps) ≡ (filled_by (at_area n (length area)) ps).pages
pages_behind [] n [] some = absurd (omega (arith, some))
pages_behind [] n (b ∷ area) some = refl
pages_behind (p ∷ ps) n area some = by_test (pages_behind ps) (nat_lt 4084 (length area)) refl
  where
    by_test : ((n : ℕ) (area : List ℕ) → 0 < length area → n + length (bodies area ps) ≡ (filled_by (at_area n (length area)) ps).pages)
        → (t : Bool) → nat_lt 4084 (length area) ≡ t
        → n + length (cond t (cut_page area ∷ bodies (piece_text p) ps) (bodies (area ++ piece_text p) ps)) ≡ (filled_by (with_piece (page_for (at_area n (length area))) (length p.bytes)) ps).pages
    by_test step true e =
        let one_more : n + suc (length (bodies (piece_text p) ps)) ≡ n + 1 + length (bodies (piece_text p) ps) = omega arith in
        let area_is : at_area (n + 1) (length (piece_text p)) ≡ with_piece (record { pages = n + 1 + 1; left = 4088 }) (length p.bytes) = same_filling _ _ refl (omega (arith, text_length p)) in
        one_more
        ∙ step (n + 1) (piece_text p) (omega (arith, text_length p))
        ∙ ap (λ f. (filled_by f ps).pages) (area_is ∙ ap (λ f. with_piece f (length p.bytes)) (sym (page_is n (length area) true e)))
    by_test step false e =
        let area_is : at_area n (length (area ++ piece_text p)) ≡ with_piece (at_area n (length area)) (length p.bytes) = same_filling _ _ refl (omega (arith, text_length p, length-append area (piece_text p))) in
        step n (area ++ piece_text p) (omega (arith, text_length p, length-append area (piece_text p)))
        ∙ ap (λ f. (filled_by f ps).pages) (area_is ∙ ap (λ f. with_piece f (length p.bytes)) (sym (page_is n (length area) false e)))

pages_of_pieces : (ps : List Piece) → length (bodies [] ps) ≡ (filled_by no_pages ps).pages
pages_of_pieces [] = refl
pages_of_pieces (p ∷ ps) =
    let from_none : length (bodies (piece_text p) ps) ≡ 0 + length (bodies (piece_text p) ps) = omega arith in
    let area_is : at_area 0 (length (piece_text p)) ≡ with_piece (page_for no_pages) (length p.bytes) = same_filling _ _ refl (omega (arith, text_length p)) in
    from_none ∙ pages_behind ps 0 (piece_text p) (omega (arith, text_length p)) ∙ ap (λ f. (filled_by f ps).pages) area_is

-- ---- pieces, by the records that they are of

room_for : (f : Filling) → (page_for f).left - 3 ≡ room_at f.left
room_for f = by_test (nat_lt f.left 4)
  where
    by_test : (t : Bool) → (cond t (record { pages = f.pages + 1; left = 4088 }) f).left - 3 ≡ cond t 4088 f.left - 3
    by_test true = refl
    by_test false = refl

one_record : (most left : ℕ) (first : Bool) (bytes : List ℕ) (f : Filling) → room_at left ≡ room_at f.left → filled_by f (cut_pieces most left first bytes) ≡ with_pieces most f (length bytes)
one_record zero left first bytes f same = refl
one_record (suc most) left first [] f same = refl
one_record (suc most) left first (b ∷ bytes) f same =
    let rest = b ∷ bytes in
    let room = room_at left in
    let page = page_for f in
    let room_is : page.left - 3 ≡ room = room_for f ∙ sym same in
    let piece_is : with_piece page (length (take room rest)) ≡ with_piece page (length rest) = same_filling _ _ refl (omega (arith, room_is, length-take room rest)) in
    let left_is : room - min (length rest) room ≡ page.left - 3 - length rest = omega (arith, room_is) in
    let rest_is : length (drop room rest) ≡ behind_piece page (length rest) = omega (arith, room_is, length-drop room rest) in
    ap (λ g. filled_by g (cut_pieces most (room - min (length rest) room) false (drop room rest))) piece_is
    ∙ one_record most (room - min (length rest) room) false (drop room rest) (with_piece page (length rest)) (ap room_at left_is)
    ∙ ap (with_pieces most (with_piece page (length rest))) rest_is

still_same : (left : ℕ) (f : Filling) (ps : List Piece) → room_at left ≡ room_at f.left → room_at (left_after left ps) ≡ room_at (filled_by f ps).left
still_same left f [] same = same
still_same left f (p ∷ ps) same =
    let room_is : room_at left ≡ (page_for f).left - 3 = same ∙ sym (room_for f) in
    still_same (room_at left - length p.bytes) (with_piece (page_for f) (length p.bytes)) ps (ap (λ n. room_at (n - length p.bytes)) room_is)

run_fills : (left : ℕ) (rs : List (List ℕ)) (f : Filling) → room_at left ≡ room_at f.left → filled_by f (run_pieces left rs) ≡ filled_from f (map length rs)
unfolding with_record
run_fills left [] f same = refl
run_fills left (r ∷ rs) f same =
    let mine = cut_pieces (length r) left true r in
    let record_is : filled_by f mine ≡ with_record f (length r) = one_record (length r) left true r f same in
    filled_append f mine (run_pieces (left_after left mine) rs)
    ∙ ap (λ g. filled_by g (run_pieces (left_after left mine) rs)) record_is
    ∙ run_fills (left_after left mine) rs (with_record f (length r)) (still_same left f mine same ∙ ap (λ g. room_at g.left) record_is)

pub pages_of_cut : (records : List (List ℕ)) → (filled (map length records)).pages ≡ length (cut_bodies records)
unfolding cut_bodies
pages_of_cut records = sym (pages_of_pieces (run_pieces 4088 records) ∙ ap (λ f. f.pages) (run_fills 4088 records no_pages refl))
