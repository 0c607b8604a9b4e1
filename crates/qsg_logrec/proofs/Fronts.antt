-- Of a run's pages the first ones lack its last record, since each byte of a run stands in one piece.
use Rattle.std.proofs.Common.{◌≡◌, ℕ, zero, suc, ◌+◌, ◌-◌, ◌<◌, ◌≤◌, List, [], ◌∷◌, ◌++◌, length, take, drop, min, Option, None, Some, Bool, true, false, refl, sym, ap, ◌∙◌, append_assoc, arith}
use Rattle.std.specs.Prelude.{nat_le}
use Rattle.std.proofs.lemmas.List.{append-nil, length-append, length-drop, take-append-drop, take_at}
use Rattle.qsg_logrec.specs.declared.piece.Part.{Part}
use Rattle.qsg_logrec.specs.declared.piece.Part.TheVariants.{Only, First, Middle, Last}
use Rattle.qsg_logrec.specs.declared.piece.Piece.{Piece}
use Rattle.qsg_logrec.specs.Pages.{area_text, ArePieces, IsPageOf}
use Rattle.qsg_logrec.specs.Cutting.{Joined, joined, joined_from, join_part, join_piece, go_on, end_with, part_at, room_at, cut_pieces, left_after, run_pieces, cut_bodies, NoneEmpty, ArePagesOf, all_pieces, HaveFront}
use Rattle.qsg_logrec.proofs.Cuts.{Held, pages_hold, run_fits, run_joins, join_append, some_room}

-- ---- bytes

bytes_of : List Piece → ℕ
bytes_of [] = 0
bytes_of (p ∷ ps) = length p.bytes + bytes_of ps

size_of : List (List ℕ) → ℕ
size_of [] = 0
size_of (r ∷ rs) = length r + size_of rs

bytes-nil : bytes_of [] ≡ 0
unfolding bytes_of
bytes-nil = refl

bytes-cons : (p : Piece) (ps : List Piece) → bytes_of (p ∷ ps) ≡ length p.bytes + bytes_of ps
unfolding bytes_of
bytes-cons p ps = refl

size-nil : size_of [] ≡ 0
unfolding size_of
size-nil = refl

size-cons : (r : List ℕ) (rs : List (List ℕ)) → size_of (r ∷ rs) ≡ length r + size_of rs
unfolding size_of
size-cons r rs = refl

bytes_append : (ps qs : List Piece) → bytes_of (ps ++ qs) ≡ bytes_of ps + bytes_of qs
bytes_append [] qs = omega (arith, bytes-nil)
bytes_append (p ∷ ps) qs = omega (arith, bytes-cons p (ps ++ qs), bytes-cons p ps, bytes_append ps qs)

size_append : (rs qs : List (List ℕ)) → size_of (rs ++ qs) ≡ size_of rs + size_of qs
size_append [] qs = omega (arith, size-nil)
size_append (r ∷ rs) qs = omega (arith, size-cons r (rs ++ qs), size-cons r rs, size_append rs qs)

size_one : (rs : List (List ℕ)) (r : List ℕ) → size_of (rs ++ r ∷ []) ≡ size_of rs + length r
size_one rs r = omega (arith, size_append rs (r ∷ []), size-cons r [], size-nil)

some_size : (rs : List (List ℕ)) → 0 < size_of rs → 0 < length rs
some_size [] some = absurd (omega (arith, some, size-nil))
some_size (r ∷ rs) some = omega arith

cut_bytes : (most left : ℕ) (first : Bool) (bytes : List ℕ) → length bytes ≤ most → bytes_of (cut_pieces most left first bytes) ≡ length bytes
cut_bytes zero left first bytes fits = omega (arith, fits, bytes-nil)
cut_bytes (suc most) left first [] fits = bytes-nil
cut_bytes (suc most) left first (b ∷ bytes) fits =
    let room = room_at left in
    let more = cut_bytes most (room - min (length (b ∷ bytes)) room) false (drop room (b ∷ bytes)) (omega (arith, fits, some_room left, length-drop room (b ∷ bytes))) in
    let split : length (take room (b ∷ bytes)) + length (drop room (b ∷ bytes)) ≡ length (b ∷ bytes) =
    sym (length-append (take room (b ∷ bytes)) (drop room (b ∷ bytes))) ∙ ap length (take-append-drop room (b ∷ bytes)) in
    let p : Piece = record { part = part_at first (nat_le (length (b ∷ bytes)) (room_at left)); bytes = take (room_at left) (b ∷ bytes) } in
    omega (arith, bytes-cons p (cut_pieces most (room - min (length (b ∷ bytes)) room) false (drop room (b ∷ bytes))), more, split)

run_bytes : (left : ℕ) (rs : List (List ℕ)) → bytes_of (run_pieces left rs) ≡ size_of rs
run_bytes left [] = omega (arith, bytes-nil, size-nil)
run_bytes left (r ∷ rs) =
    let mine = cut_pieces (length r) left true r in
    omega (arith, bytes_append mine (run_pieces (left_after left mine) rs), cut_bytes (length r) left true r (omega arith), run_bytes (left_after left mine) rs, size-cons r rs)

-- ---- joining takes no byte twice

abbrev begun_size : Option (List ℕ) → ℕ
begun_size None = 0
begun_size (Some begun) = length begun

abbrev weight : Joined → ℕ
weight j = size_of j.records + begun_size j.begun

go_on_weight : (records : List (List ℕ)) (begun : Option (List ℕ)) (bytes : List ℕ) → weight (go_on records begun bytes) ≤ size_of records + begun_size begun + length bytes
go_on_weight records None bytes = omega arith
go_on_weight records (Some begun) bytes = omega (arith, length-append begun bytes)

end_weight : (records : List (List ℕ)) (begun : Option (List ℕ)) (bytes : List ℕ) → weight (end_with records begun bytes) ≤ size_of records + begun_size begun + length bytes
end_weight records None bytes = omega arith
end_weight records (Some begun) bytes = omega (arith, size_one records (begun ++ bytes), length-append begun bytes)

part_weight : (j : Joined) (part : Part) (bytes : List ℕ) → weight (join_part j part bytes) ≤ weight j + length bytes
part_weight j Only bytes = omega (arith, size_one j.records bytes)
part_weight j First bytes = omega arith
part_weight j Middle bytes = go_on_weight j.records j.begun bytes
part_weight j Last bytes = end_weight j.records j.begun bytes

joined_weight : (j : Joined) (ps : List Piece) → weight (joined_from j ps) ≤ weight j + bytes_of ps
joined_weight j [] = omega (arith, bytes-nil)
joined_weight j (p ∷ ps) = omega (arith, joined_weight (join_piece j p) ps, part_weight j p.part p.bytes, bytes-cons p ps)

-- ---- records stay

abbrev Grows : Joined → Joined → Type 0
Grows j k = (more : List (List ℕ)) × (k.records ≡ j.records ++ more)

go_on_grows : (records : List (List ℕ)) (begun : Option (List ℕ)) (bytes : List ℕ) → Grows (record { records = records; begun = begun }) (go_on records begun bytes)
go_on_grows records None bytes = ([], sym (append-nil records))
go_on_grows records (Some begun) bytes = ([], sym (append-nil records))

end_grows : (records : List (List ℕ)) (begun : Option (List ℕ)) (bytes : List ℕ) → Grows (record { records = records; begun = begun }) (end_with records begun bytes)
end_grows records None bytes = ([], sym (append-nil records))
end_grows records (Some begun) bytes = ((begun ++ bytes) ∷ [], refl)

part_grows : (j : Joined) (part : Part) (bytes : List ℕ) → Grows j (join_part j part bytes)
part_grows j Only bytes = (bytes ∷ [], refl)
part_grows j First bytes = ([], sym (append-nil j.records))
part_grows j Middle bytes = go_on_grows j.records j.begun bytes
part_grows j Last bytes = end_grows j.records j.begun bytes

joined_grows : (j : Joined) (ps : List Piece) → Grows j (joined_from j ps)
joined_grows j [] = ([], sym (append-nil j.records))
joined_grows j (p ∷ ps) =
    let step = part_grows j p.part p.bytes in
    let more = joined_grows (join_part j p.part p.bytes) ps in
    (step.0 ++ more.0, more.1 ∙ ap (λ (l : List (List ℕ)). l ++ more.0) step.1 ∙ append_assoc j.records step.0 more.0)

-- ---- a front of pages

all_split : (n : ℕ) (pss : List (List Piece)) → all_pieces pss ≡ all_pieces (take n pss) ++ all_pieces (drop n pss)
all_split zero pss = refl
all_split (suc n) [] = refl
all_split (suc n) (ps ∷ pss) = ap (λ (l : List Piece). ps ++ l) (all_split n pss) ∙ sym (append_assoc ps (all_pieces (take n pss)) (all_pieces (drop n pss)))

are_take : (n : ℕ) (pss : List (List Piece)) (pages : List (List ℕ)) → ArePagesOf pss pages → ArePagesOf (take n pss) (take n pages)
are_take zero pss pages are = tt
are_take (suc n) [] [] are = tt
are_take (suc n) [] (b ∷ bs) are = absurd are
are_take (suc n) (ps ∷ pss) [] are = absurd are
are_take (suc n) (ps ∷ pss) (b ∷ bs) are = (are.0, are_take n pss bs are.1)

page_bytes : (ps : List Piece) → ArePieces ps → 4 ≤ length (area_text ps) → 0 < bytes_of ps
page_bytes [] each some = absurd (omega (arith, some))
page_bytes (p ∷ ps) each some = omega (arith, each.0.some, bytes-cons p ps)

fewer_bytes : (n : ℕ) (pss : List (List Piece)) (pages : List (List ℕ)) → ArePagesOf pss pages → n < length pages → bytes_of (all_pieces (take n pss)) < bytes_of (all_pieces pss)
fewer_bytes n [] [] are less = absurd (omega (arith, less))
fewer_bytes n [] (b ∷ bs) are less = absurd are
fewer_bytes n (ps ∷ pss) [] are less = absurd are
fewer_bytes zero (ps ∷ pss) (b ∷ bs) are less = omega (arith, bytes-nil, bytes_append ps (all_pieces pss), page_bytes ps are.0.each are.0.some)
fewer_bytes (suc n) (ps ∷ pss) (b ∷ bs) are less =
    omega (arith, bytes_append ps (all_pieces (take n pss)), bytes_append ps (all_pieces pss), fewer_bytes n pss bs are.1 (omega (arith, less)))

pub front_of_run : (records : List (List ℕ)) (n : ℕ) → NoneEmpty records → n < length (cut_bodies records) → HaveFront records (take n (cut_bodies records))
unfolding cut_bodies
front_of_run records n some less =
    let run = run_pieces 4088 records in
    let held : Held [] run (cut_bodies records) = pages_hold run [] [] refl tt (omega arith) (run_fits 4088 records) in
    let front = take n held.paged in
    let here = joined (all_pieces front) in
    let grown = joined_grows here (all_pieces (drop n held.paged)) in
    let none : Joined = record { records = []; begun = None } in
    let all : records ≡ here.records ++ grown.0 =
    sym (ap (λ (j : Joined). j.records) (sym (join_append none (all_pieces front) (all_pieces (drop n held.paged))) ∙ ap joined (sym (all_split n held.paged) ∙ held.same) ∙ run_joins 4088 records [] some))
    ∙ grown.1 in
    let bound = joined_weight none (all_pieces front) in
    let bytes = fewer_bytes n held.paged (cut_bodies records) held.are less in
    let total : bytes_of (all_pieces held.paged) ≡ size_of records = ap bytes_of held.same ∙ run_bytes 4088 records in
    let sizes : size_of records ≡ size_of here.records + size_of grown.0 = ap size_of all ∙ size_append here.records grown.0 in
    let more : 0 < length grown.0 = some_size grown.0 (omega (arith, bound, bytes, total, sizes, size-nil)) in
    record {
      pieces = front;
      pages_are = are_take n held.paged (cut_bodies records) held.are;
      count = length here.records;
      fewer = omega (arith, ap length all, length-append here.records grown.0, more);
      joins = sym (ap (take (length here.records)) all ∙ take_at here.records grown.0 (length here.records) refl);
    }
