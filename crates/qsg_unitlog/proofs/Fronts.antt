-- the first pages of a run don't have its last record
use Rattle.std.proofs.Common.{◌≡◌, ◌⊎◌, inl, inr, ℕ, zero, suc, take, drop, min, ◌-◌, ◌<◌, ◌≤◌, List, [], ◌∷◌, ◌++◌, length, Option, Some, None, Bool, true, false, refl, sym, ap, ◌∙◌, subst, arith, append_assoc}
use Rattle.std.specs.Prelude.{nat_le}
use Rattle.std.proofs.lemmas.List.{append-nil, take_all, drop_all, length-drop, take-append-drop, map-append}
use Rattle.std.proofs.lemmas.Bool.{leb-true, leb-false}
use Rattle.std.proofs.lemmas.Bool.Decides.{nat_tests}
use Rattle.qsg_logrec.specs.declared.piece.Piece.{Piece}
use Rattle.qsg_logrec.specs.declared.record.LogRecord.{LogRecord}
use Rattle.qsg_logrec.specs.declared.record.LogRecord.TheVariants as r
use Rattle.qsg_logrec.specs.Spelling.{record_text}
use Rattle.qsg_logrec.specs.Cutting.{Joined, joined_from, join_piece, join_part, part_at, room_at, cut_pieces, left_after, run_pieces, cut_bodies, NoneEmpty, ArePagesOf, all_pieces}
use Rattle.qsg_logread.specs.Records.{AreRecords, texts_of, PagesJoin}
use Rattle.qsg_logread.proofs.Joined.{joined_append}
use Rattle.qsg_unitlog.proofs.Lists.{head_same, tail_same, no_head, not_empty}
use Rattle.qsg_unitlog.proofs.Pieces.{exact_pages, all_append, parted, first_of}

abbrev at : List (List ℕ) → Option (List ℕ) → Joined
at records begun = record { records = records; begun = begun }

abbrev piece_of : ℕ → Bool → List ℕ → Piece
piece_of left first rest = record { part = part_at first (nat_le (length rest) (room_at left)); bytes = take (room_at left) rest }

some_room : (left : ℕ) → 0 < room_at left
some_room left = grind (arith, nat_tests)

no_pieces : (most left : ℕ) (first : Bool) → cut_pieces most left first [] ≡ []
no_pieces zero left first = refl
no_pieces (suc most) left first = refl

-- ---- a record is ended by the last of its pieces only

-- joined to what is begun, these pieces end no record
record EndNone (records : List (List ℕ)) (begun : Option (List ℕ)) (ps : List Piece) : Type 0 where
  pub after : Option (List ℕ)
  pub joins : joined_from (at records begun) ps ≡ at records after

-- where pieces follow, not all of the bytes fitted
more_follow : {A : Type 0} (most left n : ℕ) (rest : List ℕ) (ps : List Piece) (p : Piece) (qs : List Piece) → cut_pieces most n false (drop (room_at left) rest) ≡ ps ++ p ∷ qs → nat_le (length rest) (room_at left) ≡ true → A
more_follow most left n rest ps p qs is e =
    not_empty ps p qs (sym (no_pieces most n false) ∙ sym (ap (cut_pieces most n false) (drop_all (room_at left) rest (leb-true _ _ e))) ∙ is)

going : (most left : ℕ) (bytes : List ℕ) (records : List (List ℕ)) (begun : List ℕ) (ps : List Piece) (p : Piece) (qs : List Piece) → cut_pieces most left false bytes ≡ ps ++ p ∷ qs → EndNone records (Some begun) ps
going most left bytes records begun [] p qs is = record { after = Some begun; joins = refl }
going zero left bytes records begun (a ∷ ps) p qs is = no_head a (ps ++ p ∷ qs) is
going (suc most) left [] records begun (a ∷ ps) p qs is = no_head a (ps ++ p ∷ qs) is
going (suc most) left (b ∷ bytes) records begun (a ∷ ps) p qs is = by (going most (room_at left - min (length (b ∷ bytes)) (room_at left)) (drop (room_at left) (b ∷ bytes))) (nat_le (length (b ∷ bytes)) (room_at left)) refl
  where
    head : piece_of left false (b ∷ bytes) ≡ a
    head = head_same (piece_of left false (b ∷ bytes)) a (cut_pieces most (room_at left - min (length (b ∷ bytes)) (room_at left)) false (drop (room_at left) (b ∷ bytes))) (ps ++ p ∷ qs) is

    tail : cut_pieces most (room_at left - min (length (b ∷ bytes)) (room_at left)) false (drop (room_at left) (b ∷ bytes)) ≡ ps ++ p ∷ qs
    tail = tail_same (piece_of left false (b ∷ bytes)) a (cut_pieces most (room_at left - min (length (b ∷ bytes)) (room_at left)) false (drop (room_at left) (b ∷ bytes))) (ps ++ p ∷ qs) is

    by : ((records : List (List ℕ)) (begun : List ℕ) (ps : List Piece) (p : Piece) (qs : List Piece) → cut_pieces most (room_at left - min (length (b ∷ bytes)) (room_at left)) false (drop (room_at left) (b ∷ bytes)) ≡ ps ++ p ∷ qs → EndNone records (Some begun) ps)
        → (t : Bool) → nat_le (length (b ∷ bytes)) (room_at left) ≡ t → EndNone records (Some begun) (a ∷ ps)
    by step true e = more_follow most left (room_at left - min (length (b ∷ bytes)) (room_at left)) (b ∷ bytes) ps p qs tail e
    by step false e =
        let f = step records (begun ++ take (room_at left) (b ∷ bytes)) ps p qs tail in
        record {
          after = f.after;
          joins =
              ap (λ (q : Piece). joined_from (join_piece (at records (Some begun)) q) ps) (sym head)
              ∙ ap (λ (t : Bool). joined_from (join_part (at records (Some begun)) (part_at false t) (take (room_at left) (b ∷ bytes))) ps) e
              ∙ f.joins;
        }

starting : (most left : ℕ) (bytes : List ℕ) (records : List (List ℕ)) (begun : Option (List ℕ)) (ps : List Piece) (p : Piece) (qs : List Piece) → cut_pieces most left true bytes ≡ ps ++ p ∷ qs → EndNone records begun ps
starting most left bytes records begun [] p qs is = record { after = begun; joins = refl }
starting zero left bytes records begun (a ∷ ps) p qs is = no_head a (ps ++ p ∷ qs) is
starting (suc most) left [] records begun (a ∷ ps) p qs is = no_head a (ps ++ p ∷ qs) is
starting (suc most) left (b ∷ bytes) records begun (a ∷ ps) p qs is = by (nat_le (length (b ∷ bytes)) (room_at left)) refl
  where
    head : piece_of left true (b ∷ bytes) ≡ a
    head = head_same (piece_of left true (b ∷ bytes)) a (cut_pieces most (room_at left - min (length (b ∷ bytes)) (room_at left)) false (drop (room_at left) (b ∷ bytes))) (ps ++ p ∷ qs) is

    tail : cut_pieces most (room_at left - min (length (b ∷ bytes)) (room_at left)) false (drop (room_at left) (b ∷ bytes)) ≡ ps ++ p ∷ qs
    tail = tail_same (piece_of left true (b ∷ bytes)) a (cut_pieces most (room_at left - min (length (b ∷ bytes)) (room_at left)) false (drop (room_at left) (b ∷ bytes))) (ps ++ p ∷ qs) is

    by : (t : Bool) → nat_le (length (b ∷ bytes)) (room_at left) ≡ t → EndNone records begun (a ∷ ps)
    by true e = more_follow most left (room_at left - min (length (b ∷ bytes)) (room_at left)) (b ∷ bytes) ps p qs tail e
    by false e =
        let f = going most (room_at left - min (length (b ∷ bytes)) (room_at left)) (drop (room_at left) (b ∷ bytes)) records (take (room_at left) (b ∷ bytes)) ps p qs tail in
        record {
          after = f.after;
          joins =
              ap (λ (q : Piece). joined_from (join_piece (at records begun) q) ps) (sym head)
              ∙ ap (λ (t : Bool). joined_from (join_part (at records begun) (part_at true t) (take (room_at left) (b ∷ bytes))) ps) e
              ∙ f.joins;
        }

-- ---- a whole record

rest_joins : (most left : ℕ) (bytes : List ℕ) (records : List (List ℕ)) (begun : List ℕ) → 0 < length bytes → length bytes ≤ most
    → joined_from (at records (Some begun)) (cut_pieces most left false bytes) ≡ at (records ++ (begun ++ bytes) ∷ []) None
rest_joins zero left bytes records begun some fits = absurd (omega (arith, some, fits))
rest_joins (suc most) left [] records begun some fits = absurd (omega (arith, some))
rest_joins (suc most) left (b ∷ bytes) records begun some fits = by_test (rest_joins most (room_at left - min (length (b ∷ bytes)) (room_at left)) (drop (room_at left) (b ∷ bytes))) (nat_le (length (b ∷ bytes)) (room_at left)) refl
  where
    by_test : ((records : List (List ℕ)) (begun : List ℕ) → 0 < length (drop (room_at left) (b ∷ bytes)) → length (drop (room_at left) (b ∷ bytes)) ≤ most
        → joined_from (at records (Some begun)) (cut_pieces most (room_at left - min (length (b ∷ bytes)) (room_at left)) false (drop (room_at left) (b ∷ bytes)))
        ≡ at (records ++ (begun ++ drop (room_at left) (b ∷ bytes)) ∷ []) None)
        → (t : Bool) → nat_le (length (b ∷ bytes)) (room_at left) ≡ t
        → joined_from (at records (Some begun)) (cut_pieces (suc most) left false (b ∷ bytes)) ≡ at (records ++ (begun ++ (b ∷ bytes)) ∷ []) None
    by_test step true e =
        let fit = leb-true _ _ e in
        rw e (
        ap (λ l. joined_from (at (records ++ (begun ++ take (room_at left) (b ∷ bytes)) ∷ []) None) (cut_pieces most (room_at left - min (length (b ∷ bytes)) (room_at left)) false l)) (drop_all (room_at left) (b ∷ bytes) fit)
        ∙ ap (joined_from (at (records ++ (begun ++ take (room_at left) (b ∷ bytes)) ∷ []) None)) (no_pieces most (room_at left - min (length (b ∷ bytes)) (room_at left)) false)
        ∙ ap (λ (l : List ℕ). at (records ++ (begun ++ l) ∷ []) None) (take_all (room_at left) (b ∷ bytes) fit)
        )
    by_test step false e =
        let over = leb-false _ _ e in
        rw e (
        step records (begun ++ take (room_at left) (b ∷ bytes)) (omega (arith, over, length-drop (room_at left) (b ∷ bytes))) (omega (arith, fits, some_room left, length-drop (room_at left) (b ∷ bytes)))
        ∙ ap (λ (l : List ℕ). at (records ++ l ∷ []) None) (append_assoc begun (take (room_at left) (b ∷ bytes)) (drop (room_at left) (b ∷ bytes)) ∙ ap (λ l. begun ++ l) (take-append-drop (room_at left) (b ∷ bytes)))
        )

record_joins : (most left : ℕ) (bytes : List ℕ) (records : List (List ℕ)) (begun : Option (List ℕ)) → 0 < length bytes → length bytes ≤ most
    → joined_from (at records begun) (cut_pieces most left true bytes) ≡ at (records ++ bytes ∷ []) None
record_joins zero left bytes records begun some fits = absurd (omega (arith, some, fits))
record_joins (suc most) left [] records begun some fits = absurd (omega (arith, some))
record_joins (suc most) left (b ∷ bytes) records begun some fits = by_test (nat_le (length (b ∷ bytes)) (room_at left)) refl
  where
    by_test : (t : Bool) → nat_le (length (b ∷ bytes)) (room_at left) ≡ t → joined_from (at records begun) (cut_pieces (suc most) left true (b ∷ bytes)) ≡ at (records ++ (b ∷ bytes) ∷ []) None
    by_test true e =
        let fit = leb-true _ _ e in
        rw e (
        ap (λ l. joined_from (at (records ++ take (room_at left) (b ∷ bytes) ∷ []) None) (cut_pieces most (room_at left - min (length (b ∷ bytes)) (room_at left)) false l)) (drop_all (room_at left) (b ∷ bytes) fit)
        ∙ ap (joined_from (at (records ++ take (room_at left) (b ∷ bytes) ∷ []) None)) (no_pieces most (room_at left - min (length (b ∷ bytes)) (room_at left)) false)
        ∙ ap (λ (l : List ℕ). at (records ++ l ∷ []) None) (take_all (room_at left) (b ∷ bytes) fit)
        )
    by_test false e =
        let over = leb-false _ _ e in
        rw e (
        rest_joins most (room_at left - min (length (b ∷ bytes)) (room_at left)) (drop (room_at left) (b ∷ bytes)) records (take (room_at left) (b ∷ bytes))
        (omega (arith, over, length-drop (room_at left) (b ∷ bytes))) (omega (arith, fits, some_room left, length-drop (room_at left) (b ∷ bytes)))
        ∙ ap (λ (l : List ℕ). at (records ++ l ∷ []) None) (take-append-drop (room_at left) (b ∷ bytes))
        )

-- ---- a run

-- a front of joined lists ends in the first or goes on into the second
split_at : (xs ys ps : List Piece) (p : Piece) (qs : List Piece) → xs ++ ys ≡ ps ++ p ∷ qs
    → ((rest : List Piece) × (xs ≡ ps ++ p ∷ rest)) ⊎ ((more : List Piece) × (ps ≡ xs ++ more) × (ys ≡ more ++ p ∷ qs))
split_at [] ys ps p qs is = inr (ps, refl, is)
split_at (x ∷ xs) ys [] p qs is = inl (xs, ap (λ (q : Piece). q ∷ xs) (head_same x p (xs ++ ys) qs is))
split_at (x ∷ xs) ys (a ∷ ps) p qs is = by (split_at xs ys ps p qs (tail_same x a (xs ++ ys) (ps ++ p ∷ qs) is))
  where
    head : x ≡ a
    head = head_same x a (xs ++ ys) (ps ++ p ∷ qs) is

    by : ((rest : List Piece) × (xs ≡ ps ++ p ∷ rest)) ⊎ ((more : List Piece) × (ps ≡ xs ++ more) × (ys ≡ more ++ p ∷ qs))
        → ((rest : List Piece) × (x ∷ xs ≡ a ∷ ps ++ p ∷ rest)) ⊎ ((more : List Piece) × (a ∷ ps ≡ x ∷ xs ++ more) × (ys ≡ more ++ p ∷ qs))
    by (inl s) = inl (s.0, λ i. head i ∷ s.1 i)
    by (inr s) = inr (s.0, (λ i. sym head i ∷ s.1 i), s.2)

-- of these records, in pieces behind what is begun, the first ones are ended
record EndSome (texts records : List (List ℕ)) (begun : Option (List ℕ)) (ps : List Piece) : Type 0 where
  pub whole : List (List ℕ)
  pub others : List (List ℕ)
  pub texts_are : texts ≡ whole ++ others
  pub after : Option (List ℕ)
  pub joins : joined_from (at records begun) ps ≡ at (records ++ whole) after

run_front : (left : ℕ) (rs : List (List ℕ)) (c : List ℕ) (records : List (List ℕ)) (begun : Option (List ℕ)) (ps : List Piece) (p : Piece) (qs : List Piece) → NoneEmpty rs → run_pieces left (rs ++ c ∷ []) ≡ ps ++ p ∷ qs → EndSome rs records begun ps
run_front left [] c records begun ps p qs some is =
    let f = starting (length c) left c records begun ps p qs (sym (append-nil (cut_pieces (length c) left true c)) ∙ is) in
    record { whole = []; others = []; texts_are = refl; after = f.after; joins = f.joins ∙ ap (λ (l : List (List ℕ)). at l f.after) (sym (append-nil records)) }
run_front left (r ∷ rs) c records begun ps p qs some is = by (run_front (left_after left (cut_pieces (length r) left true r)) rs c (records ++ r ∷ []) None) (split_at (cut_pieces (length r) left true r) (run_pieces (left_after left (cut_pieces (length r) left true r)) (rs ++ c ∷ [])) ps p qs is)
  where
    by : ((ps : List Piece) (p : Piece) (qs : List Piece) → NoneEmpty rs → run_pieces (left_after left (cut_pieces (length r) left true r)) (rs ++ c ∷ []) ≡ ps ++ p ∷ qs → EndSome rs (records ++ r ∷ []) None ps)
        → ((rest : List Piece) × (cut_pieces (length r) left true r ≡ ps ++ p ∷ rest)) ⊎ ((more : List Piece) × (ps ≡ cut_pieces (length r) left true r ++ more) × (run_pieces (left_after left (cut_pieces (length r) left true r)) (rs ++ c ∷ []) ≡ more ++ p ∷ qs))
        → EndSome (r ∷ rs) records begun ps
    by step (inl s) =
        let f = starting (length r) left r records begun ps p s.0 s.1 in
        record { whole = []; others = r ∷ rs; texts_are = refl; after = f.after; joins = f.joins ∙ ap (λ (l : List (List ℕ)). at l f.after) (sym (append-nil records)) }
    by step (inr s) =
        let f = step s.0 p qs some.1 s.2 in
        record {
          whole = r ∷ f.whole;
          others = f.others;
          texts_are = ap (λ (l : List (List ℕ)). r ∷ l) f.texts_are;
          after = f.after;
          joins =
              ap (joined_from (at records begun)) s.1
              ∙ joined_append (at records begun) (cut_pieces (length r) left true r) s.0
              ∙ ap (λ (j : Joined). joined_from j s.0) (record_joins (length r) left r records begun some.0 (omega arith))
              ∙ f.joins
              ∙ ap (λ (l : List (List ℕ)). at l f.after) (append_assoc records (r ∷ []) f.whole);
        }

-- ---- pages

record_some : (r : LogRecord) → 0 < length (record_text r)
unfolding record_text
record_some (r.Put u message) = omega arith
record_some (r.Got u id s) = omega arith
record_some (r.Commit u) = omega arith
record_some (r.BackupStart u s top low) = omega arith
record_some (r.BackupEntry u mark message) = omega arith
record_some (r.BackupEnd u s count) = omega arith
record_some (r.CommitIn u set) = omega arith

none_empty : (rs : List LogRecord) → NoneEmpty (texts_of rs)
none_empty [] = tt
none_empty (r ∷ rs) = (record_some r, none_empty rs)

part_texts : (rs : List LogRecord) (ws os : List (List ℕ)) → texts_of rs ≡ ws ++ os → (xs : List LogRecord) × (ys : List LogRecord) × (rs ≡ xs ++ ys) × (ws ≡ texts_of xs)
part_texts rs [] os is = ([], rs, refl, refl)
part_texts [] (w ∷ ws) os is = no_head w (ws ++ os) is
part_texts (r ∷ rs) (w ∷ ws) os is =
    let s = part_texts rs ws os (tail_same (record_text r) w (texts_of rs) (ws ++ os) is) in
    let head : record_text r ≡ w = head_same (record_text r) w (texts_of rs) (ws ++ os) is in
    (r ∷ s.0, s.1, ap (λ (l : List LogRecord). r ∷ l) s.2, (λ i. sym head i ∷ s.3 i))

pub are_front : (rs qs : List LogRecord) → AreRecords (rs ++ qs) → AreRecords rs
are_front [] qs are = tt
are_front (r ∷ rs) qs are = (are.0, are_front rs qs are.1)

-- of these records the first ones are in the pages, behind what is begun
pub record HaveFirst (records : List LogRecord) (begun : Option (List ℕ)) (pages : List (List ℕ)) : Type 0 where
  pub whole : List LogRecord
  pub others : List LogRecord
  pub records_are : records ≡ whole ++ others
  pub after : Option (List ℕ)
  pub joins : PagesJoin begun pages whole after

pub first_pages : (rs : List LogRecord) (c : LogRecord) (front back : List (List ℕ)) → AreRecords (rs ++ c ∷ []) → cut_bodies (texts_of (rs ++ c ∷ [])) ≡ front ++ back → 0 < length back → (begun : Option (List ℕ)) → HaveFirst rs begun front
first_pages rs c front back are is some begun =
    let h = exact_pages (texts_of (rs ++ c ∷ [])) in
    let parts = parted front back h.paged (subst (λ (l : List (List ℕ)). ArePagesOf h.paged l) is h.are) in
    let one = first_of back parts.second some parts.others in
    let pieces : run_pieces 4088 (texts_of (rs ++ c ∷ [])) ≡ all_pieces parts.first ++ one.0 ∷ one.1 =
    sym h.same ∙ ap all_pieces parts.same ∙ all_append parts.first parts.second ∙ ap (λ (l : List Piece). all_pieces parts.first ++ l) one.2 in
    let f = run_front 4088 (texts_of rs) (record_text c) [] begun (all_pieces parts.first) one.0 one.1 (none_empty rs) (sym (ap (run_pieces 4088) (map-append record_text rs (c ∷ []))) ∙ pieces) in
    let w = part_texts rs f.whole f.others f.texts_are in
    record {
      whole = w.0;
      others = w.1;
      records_are = w.2;
      after = f.after;
      joins = record {
        pieces = parts.first;
        pages_are = parts.are;
        joins = record {
          each = are_front w.0 w.1 (subst AreRecords w.2 (are_front rs (c ∷ []) are));
          joined = f.joins ∙ ap (λ (l : List (List ℕ)). at l f.after) w.3;
        };
      };
    }
