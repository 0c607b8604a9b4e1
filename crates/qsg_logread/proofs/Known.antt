-- a page has one list of pieces, a text one record
use Rattle.std.proofs.Common.{◌≡◌, ℕ, List, [], ◌∷◌, ◌++◌, Option, Result, refl, sym, ap, subst, ◌∙◌}
use Rattle.std.proofs.lemmas.List.{append-nil}
use Rattle.qsg_logrec.specs.declared.piece.Piece.{Piece}
use Rattle.qsg_logrec.specs.declared.record.LogRecord.{LogRecord}
use Rattle.qsg_logrec.specs.Spelling.{record_text, IsRecord, IsSpelling}
use Rattle.qsg_logrec.specs.Pages.{IsPageOf}
use Rattle.qsg_logrec.specs.PageReading.{page_at}
use Rattle.qsg_logrec.specs.Reading.{record_at}
use Rattle.qsg_logrec.specs.Cutting.{Joined, ArePagesOf, all_pieces}
use Rattle.qsg_logrec.proofs.Areas.{page_reads}
use Rattle.qsg_logrec.proofs.RecordForms.{Recorded, record_reads}
use Rattle.qsg_logrec.proofs.Whole.{whole_only}
use Rattle.qsg_msg.proofs.Forms.{Reads}
use Rattle.qsg_logread.specs.Records.{AreRecords, texts_of, Joins, PageJoins, PagesJoin}

-- bytes that are one thing are read as no other
one_only : {A : Type 0} (F : A → List ℕ → Type 0) (f : List ℕ → Result (A × List ℕ) ℕ) → Reads F f → (a b : A) (bytes : List ℕ) → F a bytes → F b bytes → a ≡ b
one_only F f reads a b bytes is other = (whole_only F f reads bytes a [] (ap f (sym (append-nil bytes)) ∙ reads.again a bytes [] is) b other).0

pub one_page : (ps qs : List Piece) (body : List ℕ) → IsPageOf ps body → IsPageOf qs body → ps ≡ qs
one_page ps qs body a b = one_only IsPageOf page_at page_reads ps qs body a b

one_record : (a b : LogRecord) → IsRecord a → IsRecord b → record_text a ≡ record_text b → a ≡ b
one_record a b is other same = one_only Recorded record_at record_reads a b (record_text a) (is, refl) (other, same)

head_same : (x y : List ℕ) (xs ys : List (List ℕ)) → x ∷ xs ≡ y ∷ ys → x ≡ y
head_same x y xs ys e = cc

tail_same : (x y : List ℕ) (xs ys : List (List ℕ)) → x ∷ xs ≡ y ∷ ys → xs ≡ ys
tail_same x y xs ys e = cc

no_head : {A : Type 0} (x : List ℕ) (xs : List (List ℕ)) → [] ≡ x ∷ xs → A
no_head x xs e = cc

pub same_records : (rs qs : List LogRecord) → AreRecords rs → AreRecords qs → texts_of rs ≡ texts_of qs → rs ≡ qs
same_records [] [] are other same = refl
same_records [] (q ∷ qs) are other same = no_head _ _ same
same_records (r ∷ rs) [] are other same = no_head _ _ (sym same)
same_records (r ∷ rs) (q ∷ qs) are other same =
    let head = one_record r q are.0 other.0 (head_same _ _ _ _ same) in
    let tail = same_records rs qs are.1 other.1 (tail_same _ _ _ _ same) in
    (λ i. head i ∷ tail i)

-- among the texts of records none is bad
pub none_bad : (front rs : List LogRecord) (bad : List ℕ) (back : List (List ℕ)) → AreRecords rs → texts_of rs ≡ texts_of front ++ bad ∷ back → IsSpelling bad
none_bad [] [] bad back are same = no_head _ _ same
none_bad [] (r ∷ rs) bad back are same = (r, are.0, sym (head_same _ _ _ _ same))
none_bad (f ∷ front) [] bad back are same = no_head _ _ same
none_bad (f ∷ front) (r ∷ rs) bad back are same = none_bad front rs bad back are.1 (tail_same _ _ _ _ same)

pub same_joins : (begun after other : Option (List ℕ)) (ps : List Piece) (rs qs : List LogRecord) → Joins begun ps rs after → Joins begun ps qs other → (rs ≡ qs) × (after ≡ other)
same_joins begun after other ps rs qs a b =
    let e = sym a.joined ∙ b.joined in
    (same_records rs qs a.each b.each (ap (λ (j : Joined). j.records) e), ap (λ (j : Joined). j.begun) e)

pub same_page_joins : (begun after other : Option (List ℕ)) (body : List ℕ) (rs qs : List LogRecord) → PageJoins begun body rs after → PageJoins begun body qs other → (rs ≡ qs) × (after ≡ other)
same_page_joins begun after other body rs qs a b =
    same_joins begun after other a.pieces rs qs a.joins (subst (λ (ps : List Piece). Joins begun ps qs other) (one_page b.pieces a.pieces body b.page a.page) b.joins)

pub same_pages : (pss qss : List (List Piece)) (pages : List (List ℕ)) → ArePagesOf pss pages → ArePagesOf qss pages → pss ≡ qss
same_pages [] [] [] a b = refl
same_pages [] (qs ∷ qss) [] a b = absurd b
same_pages (ps ∷ pss) qss [] a b = absurd a
same_pages [] qss (page ∷ pages) a b = absurd a
same_pages (ps ∷ pss) [] (page ∷ pages) a b = absurd b
same_pages (ps ∷ pss) (qs ∷ qss) (page ∷ pages) a b =
    let head = one_page ps qs page a.0 b.0 in
    let tail = same_pages pss qss pages a.1 b.1 in
    (λ i. head i ∷ tail i)

pub same_pages_join : (begun after other : Option (List ℕ)) (pages : List (List ℕ)) (rs qs : List LogRecord) → PagesJoin begun pages rs after → PagesJoin begun pages qs other → (rs ≡ qs) × (after ≡ other)
same_pages_join begun after other pages rs qs a b =
    same_joins begun after other (all_pieces a.pieces) rs qs a.joins (subst (λ (pss : List (List Piece)). Joins begun (all_pieces pss) qs other) (same_pages b.pieces a.pieces pages b.pages_are a.pages_are) b.joins)
