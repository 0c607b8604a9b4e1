-- A run of records that is cut into pages is joined again.
use Rattle.std.proofs.Common.{◌≡◌, ℕ, zero, suc, take, drop, min, ◌-◌, ◌+◌, ◌<◌, ◌≤◌, List, [], ◌∷◌, ◌++◌, length, Some, None, Bool, true, false, cond, refl, sym, ap, ◌∙◌, subst, arith, append_assoc, inl, inr, replicate}
use Rattle.std.specs.Prelude.{nat_le, nat_lt, ◌==◌}
use Rattle.std.specs.Int.{w16, to_be_bytes}
use Rattle.std.proofs.lemmas.List.{append-nil, take_all, drop_all, length-take, length-drop, length-append, take-append-drop}
use Rattle.std.proofs.lemmas.Bool.{cases_lt, leb-true, leb-false, ltb-true, ltb-false}
use Rattle.std.proofs.lemmas.Bool.Decides.{nat_tests}
use Rattle.qsg_logrec.specs.declared.piece.Piece.{Piece}
use Rattle.qsg_logrec.specs.Pages.{piece_text, area_text, ArePieces, IsPiece, IsPageOf}
use Rattle.qsg_logrec.specs.Cutting.{Joined, joined, joined_from, join_piece, part_at, room_at, cut_pieces, left_after, run_pieces, cut_page, last_page, bodies, cut_bodies, Fit, NoneEmpty, ArePagesOf, all_pieces, HaveRecords}
use Rattle.qsg_logrec.proofs.Areas.{area_more, area_long}

pub some_room : (left : ℕ) → 0 < room_at left
some_room left = grind (arith, nat_tests)

pub small_room : (left : ℕ) → left ≤ 4088 → room_at left ≤ 4088
small_room left small = grind (arith, nat_tests)

abbrev piece_of : ℕ → Bool → List ℕ → Piece
piece_of left first rest = record { part = part_at first (nat_le (length rest) (room_at left)); bytes = take (room_at left) rest }

taken : (room : ℕ) (rest : List ℕ) → room - length (take room rest) ≡ room - min (length rest) room
taken room rest = omega (arith, length-take room rest)

-- ---- the exact pieces

exact_more : (most left : ℕ) (first : Bool) (rest : List ℕ) → 0 < length rest → length rest ≤ most
    → (less : ℕ) × (length (drop (room_at left) rest) ≤ less)
    × (cut_pieces most left first rest ≡ piece_of left first rest ∷ cut_pieces less (room_at left - min (length rest) (room_at left)) false (drop (room_at left) rest))
exact_more zero left first rest more fits = absurd (omega arith)
exact_more (suc most) left first [] more fits = absurd (omega arith)
exact_more (suc most) left first (x ∷ rest) more fits = (most, omega (arith, some_room left, length-drop (room_at left) (x ∷ rest)), refl)

-- the pieces so far and those that are still to come are all, and end with so many bytes left
pub record IsExactSoFar (all pieces : List Piece) (end_left left : ℕ) (first : Bool) (rest : List ℕ) : Type 0 where
  pub most : ℕ
  pub fits : length rest ≤ most
  pub same : all ≡ pieces ++ cut_pieces most left first rest
  pub end_is : end_left ≡ left_after left (cut_pieces most left first rest)

pub exact_next : (all pieces : List Piece) (end_left left : ℕ) (first : Bool) (rest : List ℕ) (p : Piece) (left' : ℕ) (after : List ℕ) → IsExactSoFar all pieces end_left left first rest → 0 < length rest
    → p ≡ piece_of left first rest → left' ≡ room_at left - min (length rest) (room_at left) → after ≡ drop (room_at left) rest
    → IsExactSoFar all (pieces ++ p ∷ []) end_left left' false after
exact_next all pieces end_left left first rest p left' after so_far more is left_is after_is =
    let next = exact_more so_far.most left first rest more so_far.fits in record {
      most = next.0;
      fits = omega (arith, next.1, ap length after_is);
      same = so_far.same ∙ ap (λ l. pieces ++ l) next.2 ∙ (λ i. pieces ++ sym is i ∷ cut_pieces next.0 (sym left_is i) false (sym after_is i)) ∙ sym (append_assoc pieces (p ∷ []) (cut_pieces next.0 left' false after));
      end_is = so_far.end_is ∙ ap (left_after left) next.2
          ∙ ap (λ n. left_after n (cut_pieces next.0 (room_at left - min (length rest) (room_at left)) false (drop (room_at left) rest))) (taken (room_at left) rest ∙ sym left_is)
          ∙ (λ i. left_after left' (cut_pieces next.0 (sym left_is i) false (sym after_is i)));
    }

no_pieces : (most left : ℕ) (first : Bool) → cut_pieces most left first [] ≡ []
no_pieces zero left first = refl
no_pieces (suc most) left first = refl

pub exact_all : (all pieces : List Piece) (end_left left : ℕ) (first : Bool) (rest : List ℕ) → IsExactSoFar all pieces end_left left first rest → length rest ≡ 0 → (pieces ≡ all) × (left ≡ end_left)
exact_all all pieces end_left left first [] so_far none =
    (sym (so_far.same ∙ ap (λ l. pieces ++ l) (no_pieces so_far.most left first) ∙ append-nil pieces), sym (so_far.end_is ∙ ap (left_after left) (no_pieces so_far.most left first)))
exact_all all pieces end_left left first (x ∷ rest) so_far none = absurd (omega arith)

pub counted_piece : (rest after : List ℕ) (room count : ℕ) → count ≡ min (length rest) room → after ≡ drop count rest → (take count rest ≡ take room rest) × (after ≡ drop room rest)
counted_piece rest after room count is back = elim (cases_lt (length rest) room) [
  | inl short ↦
      let all : count ≡ length rest = omega arith in
      (take_all count rest (omega arith) ∙ sym (take_all room rest (omega arith)), back ∙ drop_all count rest (omega arith) ∙ sym (drop_all room rest (omega arith)))
  | inr long ↦
      let same : count ≡ room = omega arith in
      (ap (λ n. take n rest) same, back ∙ ap (λ n. drop n rest) same)
]

-- the piece is the last exactly where it all fits
pub last_is : (rest after : List ℕ) (room : ℕ) (empty : Bool) → after ≡ drop room rest → empty ≡ (length after == 0) → empty ≡ nat_le (length rest) room
last_is rest after room empty is tested = tested ∙ same_test (length after) (length rest) room (ap length is ∙ length-drop room rest)
  where
    same_test : (n m room : ℕ) → n ≡ m - room → (n == 0) ≡ nat_le m room
    same_test n m room e = grind (arith, nat_tests)

-- ---- a run of records, one after another

pub run_next : (pieces : List Piece) (left left' : ℕ) (r : List ℕ) (rs : List (List ℕ)) (now all : List Piece) → now ≡ pieces ++ cut_pieces (length r) left true r → left' ≡ left_after left (cut_pieces (length r) left true r)
    → pieces ++ run_pieces left (r ∷ rs) ≡ all → now ++ run_pieces left' rs ≡ all
run_next pieces left left' r rs now all is left_is so_far =
    (λ i. is i ++ run_pieces (left_is i) rs) ∙ append_assoc pieces (cut_pieces (length r) left true r) (run_pieces (left_after left (cut_pieces (length r) left true r)) rs) ∙ so_far

-- ---- pieces fit where they come

fit_append : (left : ℕ) (ps qs : List Piece) → Fit left ps → Fit (left_after left ps) qs → Fit left (ps ++ qs)
fit_append left [] qs first second = second
fit_append left (p ∷ ps) qs first second = (first.0, first.1, fit_append (room_at left - length p.bytes) ps qs first.2 second)

cut_fits : (most left : ℕ) (first : Bool) (bytes : List ℕ) → Fit left (cut_pieces most left first bytes)
cut_fits zero left first bytes = tt
cut_fits (suc most) left first [] = tt
cut_fits (suc most) left first (b ∷ bytes) =
    let room = room_at left in
    let rest = b ∷ bytes in (
      omega (arith, some_room left, length-take room rest),
      omega (arith, length-take room rest),
      subst (λ n. Fit n (cut_pieces most (room - min (length rest) room) false (drop room rest))) (sym (taken room rest)) (cut_fits most (room - min (length rest) room) false (drop room rest)),
    )

pub run_fits : (left : ℕ) (rs : List (List ℕ)) → Fit left (run_pieces left rs)
run_fits left [] = tt
run_fits left (r ∷ rs) =
    let mine = cut_pieces (length r) left true r in
    fit_append left mine (run_pieces (left_after left mine) rs) (cut_fits (length r) left true r) (run_fits (left_after left mine) rs)

-- ---- joining

pub join_append : (j : Joined) (ps qs : List Piece) → joined_from j (ps ++ qs) ≡ joined_from (joined_from j ps) qs
join_append j [] qs = refl
join_append j (p ∷ ps) qs = join_append (join_piece j p) ps qs

abbrev begun_with : List (List ℕ) → List ℕ → Joined
begun_with records begun = record { records = records; begun = Some begun }

abbrev pub whole : List (List ℕ) → Joined
whole records = record { records = records; begun = None }

rest_joins : (most left : ℕ) (bytes : List ℕ) (records : List (List ℕ)) (begun : List ℕ) → 0 < length bytes → length bytes ≤ most
    → joined_from (begun_with records begun) (cut_pieces most left false bytes) ≡ whole (records ++ (begun ++ bytes) ∷ [])
rest_joins zero left bytes records begun some fits = absurd (omega (arith, some, fits))
rest_joins (suc most) left [] records begun some fits = absurd (omega (arith, some))
rest_joins (suc most) left (b ∷ bytes) records begun some fits = by_test (rest_joins most (room_at left - min (length (b ∷ bytes)) (room_at left)) (drop (room_at left) (b ∷ bytes))) (nat_le (length (b ∷ bytes)) (room_at left)) refl
  where
    by_test : ((records : List (List ℕ)) (begun : List ℕ) → 0 < length (drop (room_at left) (b ∷ bytes)) → length (drop (room_at left) (b ∷ bytes)) ≤ most
        → joined_from (begun_with records begun) (cut_pieces most (room_at left - min (length (b ∷ bytes)) (room_at left)) false (drop (room_at left) (b ∷ bytes)))
        ≡ whole (records ++ (begun ++ drop (room_at left) (b ∷ bytes)) ∷ []))
        → (t : Bool) → nat_le (length (b ∷ bytes)) (room_at left) ≡ t
        → joined_from (begun_with records begun) (cut_pieces (suc most) left false (b ∷ bytes)) ≡ whole (records ++ (begun ++ (b ∷ bytes)) ∷ [])
    by_test step true e =
        let fit = leb-true _ _ e in
        rw e (
        ap (λ l. joined_from (whole (records ++ (begun ++ take (room_at left) (b ∷ bytes)) ∷ [])) (cut_pieces most (room_at left - min (length (b ∷ bytes)) (room_at left)) false l)) (drop_all (room_at left) (b ∷ bytes) fit)
        ∙ ap (joined_from (whole (records ++ (begun ++ take (room_at left) (b ∷ bytes)) ∷ []))) (no_pieces most (room_at left - min (length (b ∷ bytes)) (room_at left)) false)
        ∙ ap (λ l. whole (records ++ (begun ++ l) ∷ [])) (take_all (room_at left) (b ∷ bytes) fit)
        )
    by_test step false e =
        let over = leb-false _ _ e in
        rw e (
        step records (begun ++ take (room_at left) (b ∷ bytes)) (omega (arith, over, length-drop (room_at left) (b ∷ bytes))) (omega (arith, fits, some_room left, length-drop (room_at left) (b ∷ bytes)))
        ∙ ap (λ l. whole (records ++ l ∷ [])) (append_assoc begun (take (room_at left) (b ∷ bytes)) (drop (room_at left) (b ∷ bytes)) ∙ ap (λ l. begun ++ l) (take-append-drop (room_at left) (b ∷ bytes)))
        )

record_joins : (most left : ℕ) (bytes : List ℕ) (records : List (List ℕ)) → 0 < length bytes → length bytes ≤ most
    → joined_from (whole records) (cut_pieces most left true bytes) ≡ whole (records ++ bytes ∷ [])
record_joins zero left bytes records some fits = absurd (omega (arith, some, fits))
record_joins (suc most) left [] records some fits = absurd (omega (arith, some))
record_joins (suc most) left (b ∷ bytes) records some fits = by_test (nat_le (length (b ∷ bytes)) (room_at left)) refl
  where
    by_test : (t : Bool) → nat_le (length (b ∷ bytes)) (room_at left) ≡ t → joined_from (whole records) (cut_pieces (suc most) left true (b ∷ bytes)) ≡ whole (records ++ (b ∷ bytes) ∷ [])
    by_test true e =
        let fit = leb-true _ _ e in
        rw e (
        ap (λ l. joined_from (whole (records ++ take (room_at left) (b ∷ bytes) ∷ [])) (cut_pieces most (room_at left - min (length (b ∷ bytes)) (room_at left)) false l)) (drop_all (room_at left) (b ∷ bytes) fit)
        ∙ ap (joined_from (whole (records ++ take (room_at left) (b ∷ bytes) ∷ []))) (no_pieces most (room_at left - min (length (b ∷ bytes)) (room_at left)) false)
        ∙ ap (λ l. whole (records ++ l ∷ [])) (take_all (room_at left) (b ∷ bytes) fit)
        )
    by_test false e =
        let over = leb-false _ _ e in
        rw e (
        rest_joins most (room_at left - min (length (b ∷ bytes)) (room_at left)) (drop (room_at left) (b ∷ bytes)) records (take (room_at left) (b ∷ bytes))
        (omega (arith, over, length-drop (room_at left) (b ∷ bytes))) (omega (arith, fits, some_room left, length-drop (room_at left) (b ∷ bytes)))
        ∙ ap (λ l. whole (records ++ l ∷ [])) (take-append-drop (room_at left) (b ∷ bytes))
        )

pub run_joins : (left : ℕ) (rs records : List (List ℕ)) → NoneEmpty rs → joined_from (whole records) (run_pieces left rs) ≡ whole (records ++ rs)
run_joins left [] records some = ap whole (sym (append-nil records))
run_joins left (r ∷ rs) records some =
    let mine = cut_pieces (length r) left true r in
    join_append (whole records) mine (run_pieces (left_after left mine) rs)
    ∙ ap (λ j. joined_from j (run_pieces (left_after left mine) rs)) (record_joins (length r) left r records some.0 (omega arith))
    ∙ run_joins (left_after left mine) rs (records ++ r ∷ []) some.1
    ∙ ap whole (append_assoc records (r ∷ []) rs)

-- ---- the pages have these pieces

area_push : (ps : List Piece) (p : Piece) → area_text (ps ++ p ∷ []) ≡ area_text ps ++ piece_text p
area_push [] p = append-nil (piece_text p)
area_push (q ∷ ps) p = ap (λ l. piece_text q ++ l) (area_push ps p) ∙ sym (append_assoc (piece_text q) (area_text ps) (piece_text p))

each_push : (ps : List Piece) (p : Piece) → ArePieces ps → IsPiece p → ArePieces (ps ++ p ∷ [])
each_push [] p each is = (is, tt)
each_push (q ∷ ps) p each is = (each.0, each_push ps p each.1 is)

text_length : (p : Piece) → length (piece_text p) ≡ 3 + length p.bytes
text_length p = omega arith

page_is : (page : List Piece) (area : List ℕ) → area ≡ area_text page → ArePieces page → 4 ≤ length area → length area ≤ 4088 → IsPageOf page (cut_page area)
page_is page area is each some fits = record {
  version = 2;
  version_is = refl;
  lap = 0 ∷ 0 ∷ 0 ∷ 0 ∷ [];
  lap_length = refl;
  each = each;
  some = omega (arith, some, ap length is);
  fits = omega (arith, fits, ap length is);
  body_is = ap cut_page is;
}

pub record Held (page ps : List Piece) (pages : List (List ℕ)) : Type 0 where
  pub paged : List (List Piece)
  pub are : ArePagesOf paged pages
  pub same : all_pieces paged ≡ page ++ ps

last_held : (page : List Piece) (area : List ℕ) → area ≡ area_text page → ArePieces page → length area ≤ 4088 → Held page [] (last_page area)
last_held [] [] is each fits = record { paged = []; are = tt; same = refl }
last_held (p ∷ page) [] is each fits = absurd (omega (arith, ap length is, area_more p page))
last_held page (b ∷ area) is each fits =
    let some : 4 ≤ length (b ∷ area) = elim (area_long page each) [ inl none ↦ absurd (omega (arith, ap length is, none)) | inr more ↦ omega (arith, ap length is, more) ] in
    record { paged = page ∷ []; are = (page_is page (b ∷ area) is each some fits, tt); same = refl }

full_room : (n : ℕ) → 4084 < n → n ≤ 4088 → room_at (4088 - n) ≡ 4085
full_room n low high = grind (arith, nat_tests)

part_room : (n : ℕ) → n ≤ 4084 → room_at (4088 - n) ≡ 4085 - n
part_room n low = grind (arith, nat_tests)

pub pages_hold : (ps page : List Piece) (area : List ℕ) → area ≡ area_text page → ArePieces page → length area ≤ 4088 → Fit (4088 - length area) ps → Held page ps (bodies area ps)
pages_hold [] page area is each fits fit = last_held page area is each fits
pages_hold (p ∷ ps) page area is each fits fit = by_test (pages_hold ps) (nat_lt 4084 (length area)) refl
  where
    is_piece : IsPiece p
    is_piece = record { some = fit.0; fits = omega (arith, fit.1, small_room (4088 - length area) (omega arith)) }

    by_test : ((page : List Piece) (area : List ℕ) → area ≡ area_text page → ArePieces page → length area ≤ 4088 → Fit (4088 - length area) ps → Held page ps (bodies area ps))
        → (t : Bool) → nat_lt 4084 (length area) ≡ t → Held page (p ∷ ps) (cond t (cut_page area ∷ bodies (piece_text p) ps) (bodies (area ++ piece_text p) ps))
    by_test step true e =
        let full = ltb-true _ _ e in
        let room = full_room (length area) (omega (arith, full)) fits in
        let now : Fit (4088 - length (piece_text p)) ps = subst (λ n. Fit n ps) (omega (arith, room, text_length p)) fit.2 in
        let h = step (p ∷ []) (piece_text p) (sym (append-nil (piece_text p))) (is_piece, tt) (omega (arith, fit.1, room, text_length p)) now in
        record { paged = page ∷ h.paged; are = (page_is page area is each (omega (arith, full)) fits, h.are); same = ap (λ l. page ++ l) h.same }
    by_test step false e =
        let low = ltb-false _ _ e in
        let room = part_room (length area) (omega (arith, low)) in
        let long : length (area ++ piece_text p) ≡ length area + 3 + length p.bytes = omega (arith, length-append area (piece_text p), text_length p) in
        let now : Fit (4088 - length (area ++ piece_text p)) ps = subst (λ n. Fit n ps) (omega (arith, room, long)) fit.2 in
        let h = step (page ++ p ∷ []) (area ++ piece_text p) (ap (λ l. l ++ piece_text p) is ∙ sym (area_push page p)) (each_push page p each is_piece) (omega (arith, fit.1, room, long)) now in
        record { paged = h.paged; are = h.are; same = h.same ∙ append_assoc page (p ∷ []) ps }

pub cut_joins : (records : List (List ℕ)) → NoneEmpty records → HaveRecords records (cut_bodies records)
unfolding cut_bodies
cut_joins records some =
    let h = pages_hold (run_pieces 4088 records) [] [] refl tt (omega arith) (run_fits 4088 records) in record {
      pieces = h.paged;
      pages_are = h.are;
      joins = ap joined h.same ∙ run_joins 4088 records [] some;
    }

-- ---- one page more, and the body of a page

pub added : (area : List ℕ) (p : Piece) (pages : List (List ℕ)) (rest : List Piece) (b : Bool) → nat_lt 4084 (length area) ≡ b
    → cond b (pages ++ cut_page area ∷ []) pages ++ bodies (cond b [] area ++ piece_text p) rest ≡ pages ++ bodies area (p ∷ rest)
added area p pages rest true e = append_assoc pages (cut_page area ∷ []) (bodies (piece_text p) rest) ∙ rw e refl
added area p pages rest false e = rw e refl

pub resized : (old new area : List ℕ) (n : ℕ) → old ≡ 2 ∷ (to_be_bytes w16 (length area) ++ (0 ∷ 0 ∷ 0 ∷ 0 ∷ area)) → length area ≤ 4088 → n ≡ length old → new ≡ take 4095 old ++ replicate (4095 - n) 0 → new ≡ cut_page area
resized old new area n is fits count made =
    let long : length old ≡ 7 + length area = omega (arith, ap length is) in
    let gap : 4095 - n ≡ 4088 - length area = omega (arith, count, long) in
    made ∙ (λ i. take_all 4095 old (omega (arith, long, fits)) i ++ replicate (gap i) 0) ∙ ap (λ l. l ++ replicate (4088 - length area) 0) is
