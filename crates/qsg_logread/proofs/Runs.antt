-- a run of records is read whatever is unfinished before it
use Rattle.std.proofs.Common.{◌≡◌, ◌⊎◌, inl, inr, ℕ, zero, suc, ◌-◌, ◌<◌, ◌≤◌, List, [], ◌∷◌, ◌++◌, length, take, drop, min, cond, Bool, true, false, nat_lt, nat_le, get_or, Option, None, refl, sym, ap, ◌∙◌, arith}
use Rattle.std.specs.Int.{w16, to_be_bytes}
use Rattle.qsg_logrec.specs.declared.piece.Part.{Part}
use Rattle.qsg_logrec.specs.declared.piece.Part.TheVariants.{Only, First, Middle, Last}
use Rattle.qsg_logrec.specs.declared.piece.Piece.{Piece}
use Rattle.qsg_logrec.specs.declared.record.LogRecord.{LogRecord}
use Rattle.qsg_logrec.specs.declared.record.LogRecord.TheVariants as r
use Rattle.qsg_logrec.specs.Spelling.{record_text}
use Rattle.qsg_logrec.specs.Pages.{part_number, piece_text, area_text, page_text}
use Rattle.qsg_logrec.specs.Cutting.{Joined, join_part, joined_from, part_at, room_at, cut_pieces, left_after, run_pieces, cut_page, bodies, cut_bodies, ArePagesOf, all_pieces, NoneEmpty}
use Rattle.qsg_logrec.proofs.Cuts.{cut_joins}
use Rattle.qsg_logrec.proofs.Fronts.{front_of_run}
use Rattle.qsg_logread.specs.Records.{AreRecords, texts_of, PagesJoin, IsProperFront}
use Rattle.qsg_logread.proofs.Joined.{begun_with}
use Rattle.qsg_logread.proofs.Known.{same_pages, same_records}
use Rattle.std.proofs.lemmas.List.{take-map, length-map}

-- byte 7 of a body is the number of its first piece's part
first_part : (version : ℕ) (lap : List ℕ) (n : ℕ) (area : List ℕ) → length lap ≡ 4 → get_or (page_text version lap (n ∷ area)) 7 0 ≡ n
first_part version [] n area four = absurd (omega (arith, four))
first_part version (a ∷ []) n area four = absurd (omega (arith, four))
first_part version (a ∷ b ∷ []) n area four = absurd (omega (arith, four))
first_part version (a ∷ b ∷ c ∷ []) n area four = absurd (omega (arith, four))
first_part version (a ∷ b ∷ c ∷ d ∷ []) n area four = refl
first_part version (a ∷ b ∷ c ∷ d ∷ e ∷ lap) n area four = absurd (omega (arith, four))

-- the first page of pieces behind some bytes begins with these
record BeginsWith (n : ℕ) (pages : List (List ℕ)) : Type 0 where
  pub area : List ℕ
  pub rest : List (List ℕ)
  pub pages_are : pages ≡ cut_page (n ∷ area) ∷ rest

begins : (n : ℕ) (area : List ℕ) (ps : List Piece) → BeginsWith n (bodies (n ∷ area) ps)
begins n area [] = record { area = area; rest = []; pages_are = refl }
begins n area (p ∷ ps) = by (begins n (area ++ piece_text p) ps) (nat_lt 4084 (length (n ∷ area)))
  where
    by : BeginsWith n (bodies (n ∷ (area ++ piece_text p)) ps) → (b : Bool) → BeginsWith n (cond b (cut_page (n ∷ area) ∷ bodies (piece_text p) ps) (bodies (n ∷ (area ++ piece_text p)) ps))
    by more true = record { area = area; rest = bodies (piece_text p) ps; pages_are = refl }
    by more false = more

abbrev Starts : Part → Type 0
Starts part = (part ≡ Only) ⊎ (part ≡ First)

starts : (part : Part) (b : Bool) → part_number part ≡ part_number (part_at true b) → Starts part
starts Only b is = inl refl
starts First b is = inr refl
starts Middle true is = absurd (omega (arith, is))
starts Middle false is = absurd (omega (arith, is))
starts Last true is = absurd (omega (arith, is))
starts Last false is = absurd (omega (arith, is))

-- what begins a record drops what is unfinished
drops : (part : Part) (bytes : List ℕ) (begun : Option (List ℕ)) → Starts part → join_part (begun_with begun) part bytes ≡ join_part (begun_with None) part bytes
drops part bytes begun (inl is) = ap (λ (q : Part). join_part (begun_with begun) q bytes) is ∙ sym (ap (λ (q : Part). join_part (begun_with None) q bytes) is)
drops part bytes begun (inr is) = ap (λ (q : Part). join_part (begun_with begun) q bytes) is ∙ sym (ap (λ (q : Part). join_part (begun_with None) q bytes) is)

same_first : (a b : List ℕ) (more others : List (List ℕ)) → a ∷ more ≡ b ∷ others → a ≡ b
same_first a b more others e = cc

no_first : {A : Type 0} (b : List ℕ) (bs : List (List ℕ)) → [] ≡ b ∷ bs → A
no_first b bs e = cc

-- the first piece of pages whose first one has this byte begins a record
pieces_start : (n : ℕ) (b : Bool) → n ≡ part_number (part_at true b) → (pss : List (List Piece)) (pages : List (List ℕ)) → ArePagesOf pss pages → BeginsWith n pages
    → (begun : Option (List ℕ)) → joined_from (begun_with begun) (all_pieces pss) ≡ joined_from (begun_with None) (all_pieces pss)
pieces_start n b is [] [] are w begun = no_first (cut_page (n ∷ w.area)) w.rest w.pages_are
pieces_start n b is [] (page ∷ pages) are w begun = absurd are
pieces_start n b is (ps ∷ pss) [] are w begun = absurd are
pieces_start n b is ([] ∷ pss) (page ∷ pages) are w begun = absurd (omega (arith, are.0.some))
pieces_start n b is ((p ∷ ps) ∷ pss) (page ∷ pages) are w begun =
    let same : page ≡ cut_page (n ∷ w.area) = same_first page (cut_page (n ∷ w.area)) pages w.rest w.pages_are in
    let here : part_number p.part ≡ n =
    sym (first_part are.0.version are.0.lap (part_number p.part) (to_be_bytes w16 (length p.bytes) ++ p.bytes ++ area_text ps) are.0.lap_length)
    ∙ ap (λ (l : List ℕ). get_or l 7 0) (sym are.0.body_is ∙ same)
    ∙ first_part 2 (0 ∷ 0 ∷ 0 ∷ 0 ∷ []) n w.area refl in
    ap (λ (j : Joined). joined_from j (ps ++ all_pieces pss)) (drops p.part p.bytes begun (starts p.part b (here ∙ is)))

record_some : (r : LogRecord) → 0 < length (record_text r)
unfolding record_text
record_some (r.Put u message) = omega arith
record_some (r.Got u id s) = omega arith
record_some (r.Commit u) = omega arith
record_some (r.BackupStart u s top low) = omega arith
record_some (r.BackupEntry u mark message) = omega arith
record_some (r.BackupEnd u s count) = omega arith
record_some (r.CommitIn u set) = omega arith

none_empty : (rs : List LogRecord) → NoneEmpty (texts_of rs)
none_empty [] = tt
none_empty (r ∷ rs) = (record_some r, none_empty rs)

-- the pages of a run begin with a piece that begins a record
text_begins : (most : ℕ) (text : List ℕ) (more : List Piece) → 0 < length text → length text ≤ most → (b : Bool) × BeginsWith (part_number (part_at true b)) (bodies [] (cut_pieces most 4088 true text ++ more))
text_begins zero text more some fits = absurd (omega (arith, some, fits))
text_begins (suc most) [] more some fits = absurd (omega (arith, some))
text_begins (suc most) (x ∷ xs) more some fits =
    let b = nat_le (length (x ∷ xs)) (room_at 4088) in
    let p : Piece = record { part = part_at true (nat_le (length (x ∷ xs)) (room_at 4088)); bytes = take (room_at 4088) (x ∷ xs) } in
    (nat_le (length (x ∷ xs)) (room_at 4088), begins (part_number p.part) (to_be_bytes w16 (length p.bytes) ++ p.bytes) (cut_pieces most (room_at 4088 - min (length (x ∷ xs)) (room_at 4088)) false (drop (room_at 4088) (x ∷ xs)) ++ more))

run_begins : (text : List ℕ) (texts : List (List ℕ)) → 0 < length text → (b : Bool) × BeginsWith (part_number (part_at true b)) (cut_bodies (text ∷ texts))
unfolding cut_bodies
run_begins text texts some = text_begins (length text) text (run_pieces (left_after 4088 (cut_pieces (length text) 4088 true text)) texts) some (omega arith)

pub run_joins : (begun : Option (List ℕ)) (first : LogRecord) (more : List LogRecord) → AreRecords (first ∷ more) → PagesJoin begun (cut_bodies (texts_of (first ∷ more))) (first ∷ more) None
run_joins begun first more are =
    let h = cut_joins (texts_of (first ∷ more)) (none_empty (first ∷ more)) in
    let b = run_begins (record_text first) (texts_of more) (record_some first) in
    record {
      pieces = h.pieces;
      pages_are = h.pages_are;
      joins = record { each = are; joined = pieces_start (part_number (part_at true b.0)) b.0 refl h.pieces (cut_bodies (texts_of (first ∷ more))) h.pages_are b.1 begun ∙ h.joins };
    }

-- ---- the first pages of a run

front_begins : (n : ℕ) (count : ℕ) (pages : List (List ℕ)) → BeginsWith n pages → BeginsWith n (take (suc count) pages)
front_begins n count pages w = record { area = w.area; rest = take count w.rest; pages_are = ap (take (suc count)) w.pages_are }

no_pages_start : (pss : List (List Piece)) → ArePagesOf pss [] → (begun : Option (List ℕ)) → (joined_from (begun_with begun) (all_pieces pss)).records ≡ (joined_from (begun_with None) (all_pieces pss)).records
no_pages_start [] are begun = refl
no_pages_start (ps ∷ pss) are begun = absurd are

same_start : (n : ℕ) (b : Bool) → n ≡ part_number (part_at true b) → (count : ℕ) (pss : List (List Piece)) (pages : List (List ℕ)) → ArePagesOf pss (take count pages) → BeginsWith n pages
    → (begun : Option (List ℕ)) → (joined_from (begun_with begun) (all_pieces pss)).records ≡ (joined_from (begun_with None) (all_pieces pss)).records
same_start n b is zero pss pages are w begun = no_pages_start pss are begun
same_start n b is (suc count) pss pages are w begun = ap (λ (j : Joined). j.records) (pieces_start n b is pss (take (suc count) pages) are (front_begins n count pages w) begun)

are_take : (n : ℕ) (rs : List LogRecord) → AreRecords rs → AreRecords (take n rs)
are_take zero rs are = tt
are_take (suc n) [] are = tt
are_take (suc n) (r ∷ rs) are = (are.0, are_take n rs are.1)

pub front_joins : (begun after : Option (List ℕ)) (first : LogRecord) (more records : List LogRecord) (count : ℕ) → AreRecords (first ∷ more) → count < length (cut_bodies (texts_of (first ∷ more)))
    → PagesJoin begun (take count (cut_bodies (texts_of (first ∷ more)))) records after → IsProperFront records (first ∷ more)
front_joins begun after first more records count are less a =
    let all : List LogRecord = first ∷ more in
    let pages = cut_bodies (texts_of (first ∷ more)) in
    let f = front_of_run (texts_of (first ∷ more)) count (none_empty (first ∷ more)) less in
    let b = run_begins (record_text first) (texts_of more) (record_some first) in
    let same : a.pieces ≡ f.pieces = same_pages a.pieces f.pieces (take count (cut_bodies (texts_of (first ∷ more)))) a.pages_are f.pages_are in
    let texts : texts_of records ≡ texts_of (take f.count (first ∷ more)) =
    sym (ap (λ (j : Joined). j.records) a.joins.joined)
    ∙ same_start (part_number (part_at true b.0)) b.0 refl count a.pieces (cut_bodies (texts_of (first ∷ more))) a.pages_are b.1 begun
    ∙ ap (λ (pss : List (List Piece)). (joined_from (begun_with None) (all_pieces pss)).records) same
    ∙ f.joins
    ∙ take-map record_text f.count (first ∷ more) in
    record {
      count = f.count;
      fewer = omega (arith, f.fewer, length-map (first ∷ more) record_text);
      front_is = same_records records (take f.count (first ∷ more)) a.joins.each (are_take f.count (first ∷ more) are) texts;
    }
