-- the pages of a run have exactly the pieces of its cut
use Rattle.std.proofs.Common.{◌≡◌, ℕ, ◌-◌, ◌+◌, ◌<◌, ◌≤◌, List, [], ◌∷◌, ◌++◌, length, Bool, true, false, cond, refl, sym, ap, ◌∙◌, subst, arith, append_assoc, inl, inr}
use Rattle.std.specs.Prelude.{nat_lt}
use Rattle.std.proofs.lemmas.List.{append-nil, length-append}
use Rattle.std.proofs.lemmas.Bool.{ltb-true, ltb-false}
use Rattle.std.proofs.lemmas.Bool.Decides.{nat_tests}
use Rattle.qsg_logrec.specs.declared.piece.Piece.{Piece}
use Rattle.qsg_logrec.specs.Pages.{piece_text, area_text, ArePieces, IsPiece, IsPageOf}
use Rattle.qsg_logrec.specs.Cutting.{room_at, run_pieces, cut_page, last_page, bodies, cut_bodies, Fit, ArePagesOf, all_pieces}
use Rattle.qsg_logrec.proofs.Areas.{area_more, area_long}
use Rattle.qsg_logrec.proofs.Cuts.{small_room, run_fits}

area_push : (ps : List Piece) (p : Piece) → area_text (ps ++ p ∷ []) ≡ area_text ps ++ piece_text p
area_push [] p = append-nil (piece_text p)
area_push (q ∷ ps) p = ap (λ l. piece_text q ++ l) (area_push ps p) ∙ sym (append_assoc (piece_text q) (area_text ps) (piece_text p))

each_push : (ps : List Piece) (p : Piece) → ArePieces ps → IsPiece p → ArePieces (ps ++ p ∷ [])
each_push [] p each is = (is, tt)
each_push (q ∷ ps) p each is = (each.0, each_push ps p each.1 is)

text_length : (p : Piece) → length (piece_text p) ≡ 3 + length p.bytes
text_length p = omega arith

page_is : (page : List Piece) (area : List ℕ) → area ≡ area_text page → ArePieces page → 4 ≤ length area → length area ≤ 4088 → IsPageOf page (cut_page area)
page_is page area is each some fits = record {
  version = 2;
  version_is = refl;
  lap = 0 ∷ 0 ∷ 0 ∷ 0 ∷ [];
  lap_length = refl;
  each = each;
  some = omega (arith, some, ap length is);
  fits = omega (arith, fits, ap length is);
  body_is = ap cut_page is;
}

-- pages whose pieces are those on the first page and these
pub record Held (page ps : List Piece) (pages : List (List ℕ)) : Type 0 where
  pub paged : List (List Piece)
  pub are : ArePagesOf paged pages
  pub same : all_pieces paged ≡ page ++ ps

last_held : (page : List Piece) (area : List ℕ) → area ≡ area_text page → ArePieces page → length area ≤ 4088 → Held page [] (last_page area)
last_held [] [] is each fits = record { paged = []; are = tt; same = refl }
last_held (p ∷ page) [] is each fits = absurd (omega (arith, ap length is, area_more p page))
last_held page (b ∷ area) is each fits =
    let some : 4 ≤ length (b ∷ area) = elim (area_long page each) [ inl none ↦ absurd (omega (arith, ap length is, none)) | inr more ↦ omega (arith, ap length is, more) ] in
    record { paged = page ∷ []; are = (page_is page (b ∷ area) is each some fits, tt); same = refl }

full_room : (n : ℕ) → 4084 < n → n ≤ 4088 → room_at (4088 - n) ≡ 4085
full_room n low high = grind (arith, nat_tests)

part_room : (n : ℕ) → n ≤ 4084 → room_at (4088 - n) ≡ 4085 - n
part_room n low = grind (arith, nat_tests)

pages_hold : (ps page : List Piece) (area : List ℕ) → area ≡ area_text page → ArePieces page → length area ≤ 4088 → Fit (4088 - length area) ps → Held page ps (bodies area ps)
pages_hold [] page area is each fits fit = last_held page area is each fits
pages_hold (p ∷ ps) page area is each fits fit = by_test (pages_hold ps) (nat_lt 4084 (length area)) refl
  where
    is_piece : IsPiece p
    is_piece = record { some = fit.0; fits = omega (arith, fit.1, small_room (4088 - length area) (omega arith)) }

    by_test : ((page : List Piece) (area : List ℕ) → area ≡ area_text page → ArePieces page → length area ≤ 4088 → Fit (4088 - length area) ps → Held page ps (bodies area ps))
        → (t : Bool) → nat_lt 4084 (length area) ≡ t → Held page (p ∷ ps) (cond t (cut_page area ∷ bodies (piece_text p) ps) (bodies (area ++ piece_text p) ps))
    by_test step true e =
        let full = ltb-true _ _ e in
        let room = full_room (length area) (omega (arith, full)) fits in
        let now : Fit (4088 - length (piece_text p)) ps = subst (λ n. Fit n ps) (omega (arith, room, text_length p)) fit.2 in
        let h = step (p ∷ []) (piece_text p) (sym (append-nil (piece_text p))) (is_piece, tt) (omega (arith, fit.1, room, text_length p)) now in
        record { paged = page ∷ h.paged; are = (page_is page area is each (omega (arith, full)) fits, h.are); same = ap (λ l. page ++ l) h.same }
    by_test step false e =
        let low = ltb-false _ _ e in
        let room = part_room (length area) (omega (arith, low)) in
        let long : length (area ++ piece_text p) ≡ length area + 3 + length p.bytes = omega (arith, length-append area (piece_text p), text_length p) in
        let now : Fit (4088 - length (area ++ piece_text p)) ps = subst (λ n. Fit n ps) (omega (arith, room, long)) fit.2 in
        let h = step (page ++ p ∷ []) (area ++ piece_text p) (ap (λ l. l ++ piece_text p) is ∙ sym (area_push page p)) (each_push page p each is_piece) (omega (arith, fit.1, room, long)) now in
        record { paged = h.paged; are = h.are; same = h.same ∙ append_assoc page (p ∷ []) ps }

pub exact_pages : (texts : List (List ℕ)) → Held [] (run_pieces 4088 texts) (cut_bodies texts)
unfolding cut_bodies
exact_pages texts = pages_hold (run_pieces 4088 texts) [] [] refl tt (omega arith) (run_fits 4088 texts)

pub all_append : (pss qss : List (List Piece)) → all_pieces (pss ++ qss) ≡ all_pieces pss ++ all_pieces qss
all_append [] qss = refl
all_append (ps ∷ pss) qss = ap (λ (l : List Piece). ps ++ l) (all_append pss qss) ∙ sym (append_assoc ps (all_pieces pss) (all_pieces qss))

-- pages and then others have pieces and then others
pub record Parted (pss : List (List Piece)) (front back : List (List ℕ)) : Type 0 where
  pub first : List (List Piece)
  pub second : List (List Piece)
  pub are : ArePagesOf first front
  pub others : ArePagesOf second back
  pub same : pss ≡ first ++ second

pub parted : (front back : List (List ℕ)) (pss : List (List Piece)) → ArePagesOf pss (front ++ back) → Parted pss front back
parted [] back pss are = record { first = []; second = pss; are = tt; others = are; same = refl }
parted (b ∷ front) back [] are = absurd are
parted (b ∷ front) back (ps ∷ pss) are =
    let p = parted front back pss are.1 in
    record { first = ps ∷ p.first; second = p.second; are = (are.0, p.are); others = p.others; same = ap (λ (l : List (List Piece)). ps ∷ l) p.same }

-- each page has a piece
pub first_of : (back : List (List ℕ)) (pss : List (List Piece)) → 0 < length back → ArePagesOf pss back → (p : Piece) × (qs : List Piece) × (all_pieces pss ≡ p ∷ qs)
first_of [] pss some are = absurd (omega (arith, some))
first_of (b ∷ back) [] some are = absurd are
first_of (b ∷ back) ([] ∷ pss) some are = absurd (omega (arith, are.0.some))
first_of (b ∷ back) ((p ∷ ps) ∷ pss) some are = (p, ps ++ all_pieces pss, refl)
