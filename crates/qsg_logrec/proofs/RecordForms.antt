-- A record is read exactly as it is spelled.
use Rattle.std.proofs.Common.{◌≡◌, ℕ, zero, suc, ◌^◌, ◌<◌, ◌≤◌, List, [], ◌∷◌, ◌++◌, length, Option, Some, None, refl, sym, ap, subst, ◌∙◌, arith}
use Rattle.std.specs.Int.{w32, w64, to_be_bytes}
use Rattle.std.proofs.lemmas.List.{append-nil}
use Rattle.qsg_num.specs.declared.ids.UnitName.{UnitName}
use Rattle.qsg_num.specs.declared.ids.PageNo.{PageNo}
use Rattle.qsg_num.specs.declared.seats.Member.{Member}
use Rattle.qsg_num.specs.Seats.{member_at, member_number, structure_at, structure_number}
use Rattle.qsg_num.specs.Ids.{unit_at}
use Rattle.qsg_num.proofs.Ranges.{some-same, member-back, member-bounds, structure-back, structure-bounds}
use Rattle.qsg_msg.specs.Spelling.{spelling}
use Rattle.qsg_msg.proofs.Forms.{Reads, Then, Just, just_reads, reads_as, reads_then}
use Rattle.qsg_msg.proofs.FieldForms.{Choice, choice_reads, Number, number_reads, wide32, wide64}
use Rattle.qsg_msg.proofs.Messages.{Spelled, message_reads, structure_reads, structure_is, one_byte}
use Rattle.qsg_logrec.specs.declared.record.LogMark.{LogMark}
use Rattle.qsg_logrec.specs.declared.record.LogMark.TheVariants as m
use Rattle.qsg_logrec.specs.declared.record.LogRecord.{LogRecord}
use Rattle.qsg_logrec.specs.declared.record.LogRecord.TheVariants as r
use Rattle.qsg_logrec.specs.Sets.{set_byte}
use Rattle.qsg_logrec.specs.Spelling.{unit_text, mark_text, low_text, record_text, IsUnit, IsMark, ArePages, IsRecord}
use Rattle.qsg_logrec.specs.Reading as read
use Rattle.qsg_logrec.proofs.SetBytes.{set_is, set_back}

abbrev none : {A : Type 0} → Option A
none = None

none_no_some : {A : Type 0} (a : A) → none ≡ Some a → ⊥
none_no_some a e = cc

some_is : (a b : ℕ) → Some a ≡ Some b → a ≡ b
some_is a b e = cc

-- ---- units

pub member_is : (n : ℕ) (x : Member) → member_at n ≡ Some x → n ≡ member_number x
member_is zero x e = absurd (none_no_some x e)
member_is (suc zero) x e = ap member_number (some-same _ _ e)
member_is (suc (suc zero)) x e = ap member_number (some-same _ _ e)
member_is (suc (suc (suc zero))) x e = ap member_number (some-same _ _ e)
member_is (suc (suc (suc (suc zero)))) x e = ap member_number (some-same _ _ e)
member_is (suc (suc (suc (suc (suc zero))))) x e = ap member_number (some-same _ _ e)
member_is (suc (suc (suc (suc (suc (suc zero)))))) x e = ap member_number (some-same _ _ e)
member_is (suc (suc (suc (suc (suc (suc (suc zero))))))) x e = ap member_number (some-same _ _ e)
member_is (suc (suc (suc (suc (suc (suc (suc (suc zero)))))))) x e = ap member_number (some-same _ _ e)
member_is (suc (suc (suc (suc (suc (suc (suc (suc (suc n))))))))) x e = absurd (none_no_some x e)

abbrev pub Named : UnitName → List ℕ → Type 0
Named u text = IsUnit u × (text ≡ unit_text u)

pub unit_reads : Reads Named read.unit_at
unfolding read.unit_at
unit_reads =
    reads_as (Then (Choice member_at) (λ x. Then (Number w32 (2 ^ 32)) (λ i. Then (Number w32 (2 ^ 32)) (λ s. Just (unit_at x i s))))) Named read.unit_at
    (reads_then _ _ _ _ (choice_reads member_at (1, _, omega arith, refl)) (λ x _ _.
    reads_then _ _ _ _ (number_reads w32 (2 ^ 32) wide32) (λ i _ _.
    reads_then _ _ _ _ (number_reads w32 (2 ^ 32) wide32) (λ s _ _. just_reads (unit_at x i s)))))
    to from
  where
    to : (u : UnitName) (text : List ℕ) → Then (Choice member_at) (λ x. Then (Number w32 (2 ^ 32)) (λ i. Then (Number w32 (2 ^ 32)) (λ s. Just (unit_at x i s)))) u text → Named u text
    to u text (x, x1, y1, f1, (i, x2, y2, f2, (s, x3, y3, f3, is, e3), e2), e1) =
        let l3 : y2 ≡ to_be_bytes w32 s = e3 ∙ (λ j. f3.1 j ++ is.1 j) ∙ append-nil (to_be_bytes w32 s) in
        let l2 : y1 ≡ to_be_bytes w32 i ++ to_be_bytes w32 s = e2 ∙ (λ j. f2.1 j ++ l3 j) in
        let l1 : text ≡ unit_text (unit_at x i s) = e1 ∙ (λ j. one_byte member_at member_number member_is x x1 f1 j ++ l2 j) in
        subst (λ v. Named v text) (sym is.0) (record { incarnation = f2.0; seq = f3.0 }, l1)

    from : (u : UnitName) (text : List ℕ) → Named u text → Then (Choice member_at) (λ x. Then (Number w32 (2 ^ 32)) (λ i. Then (Number w32 (2 ^ 32)) (λ s. Just (unit_at x i s)))) u text
    from u text (is, e) =
        let third = to_be_bytes w32 u.seq in
        let second = to_be_bytes w32 u.incarnation.number in (
          u.member,
          member_number u.member ∷ [],
          second ++ third,
          (member_number u.member, omega (arith, member-bounds u.member), member-back u.member, refl),
          (u.incarnation.number, second, third, (is.incarnation, refl), (u.seq, third, [], (is.seq, refl), (refl, refl), sym (append-nil third)), refl),
          e,
        )

-- ---- marks

put_mark_reads : Reads (Then Named (λ u. Just (m.PutBy u))) read.put_mark_at
unfolding read.put_mark_at
put_mark_reads = reads_then _ _ _ _ unit_reads (λ u _ _. just_reads (m.PutBy u))

got_mark_reads : Reads (Then Named (λ u. Just (m.GotBy u))) read.got_mark_at
unfolding read.got_mark_at
got_mark_reads = reads_then _ _ _ _ unit_reads (λ u _ _. just_reads (m.GotBy u))

abbrev After_mark : ℕ → LogMark → List ℕ → Type 0
After_mark zero = Just m.Visible
After_mark (suc zero) = Then Named (λ u. Just (m.PutBy u))
After_mark (suc (suc n)) = Then Named (λ u. Just (m.GotBy u))

after_mark_reads : (tag : ℕ) → Reads (After_mark tag) (read.mark_after tag)
after_mark_reads zero = just_reads m.Visible
after_mark_reads (suc zero) = put_mark_reads
after_mark_reads (suc (suc n)) = got_mark_reads

mark_tag_is : (n tag : ℕ) → read.mark_tag n ≡ Some tag → (n ≡ tag) × (tag ≤ 2)
mark_tag_is zero tag e = (some_is 0 tag e, omega (arith, some_is 0 tag e))
mark_tag_is (suc zero) tag e = (some_is 1 tag e, omega (arith, some_is 1 tag e))
mark_tag_is (suc (suc zero)) tag e = (some_is 2 tag e, omega (arith, some_is 2 tag e))
mark_tag_is (suc (suc (suc n))) tag e = absurd (none_no_some tag e)

abbrev pub Marked : LogMark → List ℕ → Type 0
Marked mark text = IsMark mark × (text ≡ mark_text mark)

mark_is : (tag : ℕ) (mark : LogMark) (y : List ℕ) → tag ≤ 2 → After_mark tag mark y → Marked mark (tag ∷ y)
mark_is zero mark y le (is, e) = subst (λ k. Marked k (0 ∷ y)) (sym is) (tt, ap (λ (l : List ℕ). 0 ∷ l) e)
mark_is (suc zero) mark y le (u, x, z, f, is, e) =
    subst (λ k. Marked k (1 ∷ y)) (sym is.0) (f.0, ap (λ (l : List ℕ). 1 ∷ l) (e ∙ (λ i. f.1 i ++ is.1 i) ∙ append-nil (unit_text u)))
mark_is (suc (suc n)) mark y le (u, x, z, f, is, e) =
    let two : suc (suc n) ≡ 2 = omega (arith, le) in
    subst (λ k. Marked k (suc (suc n) ∷ y)) (sym is.0) (f.0, ap (λ (l : List ℕ). suc (suc n) ∷ l) (e ∙ (λ i. f.1 i ++ is.1 i) ∙ append-nil (unit_text u)) ∙ ap (λ k. k ∷ unit_text u) two)

mark_from : (mark : LogMark) (text : List ℕ) → Marked mark text → Then (Choice read.mark_tag) After_mark mark text
mark_from m.Visible text (is, e) = (0, 0 ∷ [], [], (0, omega arith, refl, refl), (refl, refl), e)
mark_from (m.PutBy u) text (is, e) = (1, 1 ∷ [], unit_text u, (1, omega arith, refl, refl), (u, unit_text u, [], (is, refl), (refl, refl), sym (append-nil (unit_text u))), e)
mark_from (m.GotBy u) text (is, e) = (2, 2 ∷ [], unit_text u, (2, omega arith, refl, refl), (u, unit_text u, [], (is, refl), (refl, refl), sym (append-nil (unit_text u))), e)

pub mark_reads : Reads Marked read.mark_at
unfolding read.mark_at
mark_reads =
    reads_as (Then (Choice read.mark_tag) After_mark) Marked read.mark_at
    (reads_then _ _ _ _ (choice_reads read.mark_tag (0, _, omega arith, refl)) (λ tag _ _. after_mark_reads tag))
    (λ mark text t.
    let tag = mark_tag_is t.3.0 t.0 t.3.2 in
    let known = mark_is t.0 mark t.2 tag.1 t.4 in
    (known.0, t.5 ∙ (λ i. t.3.3 i ++ t.2) ∙ ap (λ k. k ∷ t.2) tag.0 ∙ known.1))
    mark_from

-- ---- low pages

abbrev Page_no : PageNo → List ℕ → Type 0
Page_no page text = (page.number < 2 ^ 32) × (text ≡ to_be_bytes w32 page.number)

page_no_reads : Reads Page_no read.page_no_at
unfolding read.page_no_at
page_no_reads =
    reads_as (Then (Number w32 (2 ^ 32)) (λ n. Just (page n))) Page_no read.page_no_at
    (reads_then _ _ _ _ (number_reads w32 (2 ^ 32) wide32) (λ n _ _. just_reads (page n)))
    (λ p text t. subst (λ q. Page_no q text) (sym t.4.0) (t.3.0, t.5 ∙ (λ i. t.3.1 i ++ t.4.1 i) ∙ append-nil (to_be_bytes w32 t.0)))
    (λ p text t. (p.number, to_be_bytes w32 p.number, [], (t.0, refl), (refl, refl), t.1 ∙ sym (append-nil (to_be_bytes w32 p.number))))
  where
    page : ℕ → PageNo
    page n = record { number = n }

abbrev pub Pages : ℕ → List PageNo → List ℕ → Type 0
Pages n pages text = (length pages ≡ n) × ArePages pages × (text ≡ low_text pages)

no_pages : (pages : List PageNo) (text : List ℕ) → Pages 0 pages text → Just [] pages text
no_pages [] text t = (refl, t.2)
no_pages (p ∷ pages) text t = absurd (omega (arith, t.0))

abbrev One_more : ℕ → List PageNo → List ℕ → Type 0
One_more n = Then Page_no (λ p. Then (Pages n) (λ ps. Just (p ∷ ps)))

to_pages : (n : ℕ) (pages : List PageNo) (text : List ℕ) → One_more n pages text → Pages (suc n) pages text
to_pages n pages text (p, x, y, f, (ps, z, w, g, is, e2), e1) =
    let rest : y ≡ low_text ps = e2 ∙ (λ i. g.2 i ++ is.1 i) ∙ append-nil (low_text ps) in
    subst (λ q. Pages (suc n) q text) (sym is.0) (omega (arith, g.0), (f.0, g.1), e1 ∙ (λ i. f.1 i ++ rest i))

from_pages : (n : ℕ) (pages : List PageNo) (text : List ℕ) → Pages (suc n) pages text → One_more n pages text
from_pages n [] text t = absurd (omega (arith, t.0))
from_pages n (p ∷ ps) text t =
    (p, to_be_bytes w32 p.number, low_text ps, (t.1.0, refl), (ps, low_text ps, [], (omega (arith, t.0), t.1.1, refl), (refl, refl), sym (append-nil (low_text ps))), t.2)

pub pages_read : (n : ℕ) → Reads (Pages n) (read.pages_at n)
pages_read zero = reads_as (Just []) (Pages 0) (read.pages_at 0) (just_reads []) (λ pages text t. subst (λ q. Pages 0 q text) (sym t.0) (refl, tt, t.1)) no_pages
pages_read (suc n) =
    reads_as (One_more n) (Pages (suc n)) (read.pages_at (suc n))
    (reads_then _ _ _ _ page_no_reads (λ p _ _. reads_then _ _ _ _ (pages_read n) (λ ps _ _. just_reads (p ∷ ps))))
    (to_pages n) (from_pages n)

-- ---- records, behind their tags

abbrev Put_form : LogRecord → List ℕ → Type 0
Put_form = Then Named (λ u. Then Spelled (λ x. Just (r.Put u x)))

abbrev Got_form : LogRecord → List ℕ → Type 0
Got_form = Then Named (λ u. Then (Number w64 (2 ^ 64)) (λ id. Then (Choice structure_at) (λ s. Just (r.Got u (record { number = id }) s))))

abbrev Commit_form : LogRecord → List ℕ → Type 0
Commit_form = Then Named (λ u. Just (r.Commit u))

abbrev Start_form : LogRecord → List ℕ → Type 0
Start_form = Then Named (λ u. Then (Choice structure_at) (λ s. Then (Number w64 (2 ^ 64)) (λ top. Then (Pages 8) (λ low. Just (r.BackupStart u s (record { number = top }) low)))))

abbrev Entry_form : LogRecord → List ℕ → Type 0
Entry_form = Then Named (λ u. Then Marked (λ mark. Then Spelled (λ x. Just (r.BackupEntry u mark x))))

abbrev End_form : LogRecord → List ℕ → Type 0
End_form = Then Named (λ u. Then (Choice structure_at) (λ s. Then (Number w32 (2 ^ 32)) (λ count. Just (r.BackupEnd u s count))))

abbrev Commit_in_form : LogRecord → List ℕ → Type 0
Commit_in_form = Then Named (λ u. Then (Choice read.set_at) (λ set. Just (r.CommitIn u set)))

put_reads : Reads Put_form read.put_at
unfolding read.put_at
put_reads = reads_then _ _ _ _ unit_reads (λ u _ _. reads_then _ _ _ _ message_reads (λ x _ _. just_reads (r.Put u x)))

got_reads : Reads Got_form read.got_at
unfolding read.got_at
got_reads = reads_then _ _ _ _ unit_reads (λ u _ _. reads_then _ _ _ _ (number_reads w64 (2 ^ 64) wide64) (λ id _ _. reads_then _ _ _ _ structure_reads (λ s _ _. just_reads (r.Got u (record { number = id }) s))))

commit_reads : Reads Commit_form read.commit_at
unfolding read.commit_at
commit_reads = reads_then _ _ _ _ unit_reads (λ u _ _. just_reads (r.Commit u))

start_reads : Reads Start_form read.start_at
unfolding read.start_at
start_reads = reads_then _ _ _ _ unit_reads (λ u _ _. reads_then _ _ _ _ structure_reads (λ s _ _. reads_then _ _ _ _ (number_reads w64 (2 ^ 64) wide64) (λ top _ _.
    reads_then _ _ _ _ (pages_read 8) (λ low _ _. just_reads (r.BackupStart u s (record { number = top }) low)))))

entry_reads : Reads Entry_form read.entry_at
unfolding read.entry_at
entry_reads = reads_then _ _ _ _ unit_reads (λ u _ _. reads_then _ _ _ _ mark_reads (λ mark _ _. reads_then _ _ _ _ message_reads (λ x _ _. just_reads (r.BackupEntry u mark x))))

end_reads : Reads End_form read.end_at
unfolding read.end_at
end_reads = reads_then _ _ _ _ unit_reads (λ u _ _. reads_then _ _ _ _ structure_reads (λ s _ _. reads_then _ _ _ _ (number_reads w32 (2 ^ 32) wide32) (λ count _ _. just_reads (r.BackupEnd u s count))))

commit_in_reads : Reads Commit_in_form read.commit_in_at
unfolding read.commit_in_at
commit_in_reads = reads_then _ _ _ _ unit_reads (λ u _ _. reads_then _ _ _ _ (choice_reads read.set_at (1, _, omega arith, refl)) (λ set _ _. just_reads (r.CommitIn u set)))

abbrev pub Recorded : LogRecord → List ℕ → Type 0
Recorded record_ text = IsRecord record_ × (text ≡ record_text record_)

put_is : (k : LogRecord) (y : List ℕ) → Put_form k y → Recorded k (1 ∷ y)
unfolding record_text
put_is k y (u, x1, y1, f1, (x, x2, y2, f2, is, e2), e1) =
    subst (λ q. Recorded q (1 ∷ y)) (sym is.0)
    ((f1.0, f2.0), ap (λ (l : List ℕ). 1 ∷ l) (e1 ∙ (λ i. f1.1 i ++ (e2 ∙ (λ j. f2.1 j ++ is.1 j) ∙ append-nil (spelling x)) i)))

got_is : (k : LogRecord) (y : List ℕ) → Got_form k y → Recorded k (2 ∷ y)
unfolding record_text
got_is k y (u, x1, y1, f1, (id, x2, y2, f2, (s, x3, y3, f3, is, e3), e2), e1) =
    let l3 : y2 ≡ structure_number s ∷ [] = e3 ∙ (λ i. one_byte structure_at structure_number structure_is s x3 f3 i ++ is.1 i) in
    let l2 : y1 ≡ to_be_bytes w64 id ++ (structure_number s ∷ []) = e2 ∙ (λ i. f2.1 i ++ l3 i) in
    subst (λ q. Recorded q (2 ∷ y)) (sym is.0) ((f1.0, f2.0), ap (λ (l : List ℕ). 2 ∷ l) (e1 ∙ (λ i. f1.1 i ++ l2 i)))

commit_is : (k : LogRecord) (y : List ℕ) → Commit_form k y → Recorded k (3 ∷ y)
unfolding record_text
commit_is k y (u, x1, y1, f1, is, e1) = subst (λ q. Recorded q (3 ∷ y)) (sym is.0) (f1.0, ap (λ (l : List ℕ). 3 ∷ l) (e1 ∙ (λ i. f1.1 i ++ is.1 i) ∙ append-nil (unit_text u)))

start_is : (k : LogRecord) (y : List ℕ) → Start_form k y → Recorded k (4 ∷ y)
unfolding record_text
start_is k y (u, x1, y1, f1, (s, x2, y2, f2, (top, x3, y3, f3, (low, x4, y4, f4, is, e4), e3), e2), e1) =
    let l4 : y3 ≡ low_text low = e4 ∙ (λ i. f4.2 i ++ is.1 i) ∙ append-nil (low_text low) in
    let l3 : y2 ≡ to_be_bytes w64 top ++ low_text low = e3 ∙ (λ i. f3.1 i ++ l4 i) in
    let l2 : y1 ≡ structure_number s ∷ (to_be_bytes w64 top ++ low_text low) = e2 ∙ (λ i. one_byte structure_at structure_number structure_is s x2 f2 i ++ l3 i) in
    subst (λ q. Recorded q (4 ∷ y)) (sym is.0) ((f1.0, f3.0, f4.0, f4.1), ap (λ (l : List ℕ). 4 ∷ l) (e1 ∙ (λ i. f1.1 i ++ l2 i)))

entry_is : (k : LogRecord) (y : List ℕ) → Entry_form k y → Recorded k (5 ∷ y)
unfolding record_text
entry_is k y (u, x1, y1, f1, (mark, x2, y2, f2, (x, x3, y3, f3, is, e3), e2), e1) =
    let l3 : y2 ≡ spelling x = e3 ∙ (λ i. f3.1 i ++ is.1 i) ∙ append-nil (spelling x) in
    let l2 : y1 ≡ mark_text mark ++ spelling x = e2 ∙ (λ i. f2.1 i ++ l3 i) in
    subst (λ q. Recorded q (5 ∷ y)) (sym is.0) ((f1.0, f2.0, f3.0), ap (λ (l : List ℕ). 5 ∷ l) (e1 ∙ (λ i. f1.1 i ++ l2 i)))

end_is : (k : LogRecord) (y : List ℕ) → End_form k y → Recorded k (6 ∷ y)
unfolding record_text
end_is k y (u, x1, y1, f1, (s, x2, y2, f2, (count, x3, y3, f3, is, e3), e2), e1) =
    let l3 : y2 ≡ to_be_bytes w32 count = e3 ∙ (λ i. f3.1 i ++ is.1 i) ∙ append-nil (to_be_bytes w32 count) in
    let l2 : y1 ≡ structure_number s ∷ to_be_bytes w32 count = e2 ∙ (λ i. one_byte structure_at structure_number structure_is s x2 f2 i ++ l3 i) in
    subst (λ q. Recorded q (6 ∷ y)) (sym is.0) ((f1.0, f3.0), ap (λ (l : List ℕ). 6 ∷ l) (e1 ∙ (λ i. f1.1 i ++ l2 i)))

commit_in_is : (k : LogRecord) (y : List ℕ) → Commit_in_form k y → Recorded k (7 ∷ y)
unfolding record_text
commit_in_is k y (u, x1, y1, f1, (set, x2, y2, f2, is, e2), e1) =
    let known = set_is f2.0 set f2.2 in
    let l2 : y1 ≡ set_byte set ∷ [] = e2 ∙ (λ i. f2.3 i ++ is.1 i) ∙ ap (λ n. n ∷ []) known.1 in
    subst (λ q. Recorded q (7 ∷ y)) (sym is.0) ((f1.0, known.0), ap (λ (l : List ℕ). 7 ∷ l) (e1 ∙ (λ i. f1.1 i ++ l2 i)))

abbrev After_tag : ℕ → LogRecord → List ℕ → Type 0
After_tag zero k text = ⊥
After_tag (suc zero) k text = Put_form k text
After_tag (suc (suc zero)) k text = Got_form k text
After_tag (suc (suc (suc zero))) k text = Commit_form k text
After_tag (suc (suc (suc (suc zero)))) k text = Start_form k text
After_tag (suc (suc (suc (suc (suc zero))))) k text = Entry_form k text
After_tag (suc (suc (suc (suc (suc (suc zero)))))) k text = End_form k text
After_tag (suc (suc (suc (suc (suc (suc (suc n))))))) k text = Commit_in_form k text

after_tag_reads : (tag : ℕ) → 1 ≤ tag → Reads (After_tag tag) (read.record_after tag)
after_tag_reads zero le = absurd (omega (arith, le))
after_tag_reads (suc zero) le = put_reads
after_tag_reads (suc (suc zero)) le = got_reads
after_tag_reads (suc (suc (suc zero))) le = commit_reads
after_tag_reads (suc (suc (suc (suc zero)))) le = start_reads
after_tag_reads (suc (suc (suc (suc (suc zero))))) le = entry_reads
after_tag_reads (suc (suc (suc (suc (suc (suc zero)))))) le = end_reads
after_tag_reads (suc (suc (suc (suc (suc (suc (suc n))))))) le = commit_in_reads

record_tag_is : (n tag : ℕ) → read.record_tag n ≡ Some tag → (n ≡ tag) × (1 ≤ tag) × (tag ≤ 7)
record_tag_is zero tag e = absurd (none_no_some tag e)
record_tag_is (suc zero) tag e = (some_is 1 tag e, omega (arith, some_is 1 tag e), omega (arith, some_is 1 tag e))
record_tag_is (suc (suc zero)) tag e = (some_is 2 tag e, omega (arith, some_is 2 tag e), omega (arith, some_is 2 tag e))
record_tag_is (suc (suc (suc zero))) tag e = (some_is 3 tag e, omega (arith, some_is 3 tag e), omega (arith, some_is 3 tag e))
record_tag_is (suc (suc (suc (suc zero)))) tag e = (some_is 4 tag e, omega (arith, some_is 4 tag e), omega (arith, some_is 4 tag e))
record_tag_is (suc (suc (suc (suc (suc zero))))) tag e = (some_is 5 tag e, omega (arith, some_is 5 tag e), omega (arith, some_is 5 tag e))
record_tag_is (suc (suc (suc (suc (suc (suc zero)))))) tag e = (some_is 6 tag e, omega (arith, some_is 6 tag e), omega (arith, some_is 6 tag e))
record_tag_is (suc (suc (suc (suc (suc (suc (suc zero))))))) tag e = (some_is 7 tag e, omega (arith, some_is 7 tag e), omega (arith, some_is 7 tag e))
record_tag_is (suc (suc (suc (suc (suc (suc (suc (suc n)))))))) tag e = absurd (none_no_some tag e)

tagged_is : (tag : ℕ) (k : LogRecord) (y : List ℕ) → 1 ≤ tag → tag ≤ 7 → After_tag tag k y → Recorded k (tag ∷ y)
tagged_is zero k y low high t = absurd t
tagged_is (suc zero) k y low high t = put_is k y t
tagged_is (suc (suc zero)) k y low high t = got_is k y t
tagged_is (suc (suc (suc zero))) k y low high t = commit_is k y t
tagged_is (suc (suc (suc (suc zero)))) k y low high t = start_is k y t
tagged_is (suc (suc (suc (suc (suc zero))))) k y low high t = entry_is k y t
tagged_is (suc (suc (suc (suc (suc (suc zero)))))) k y low high t = end_is k y t
tagged_is (suc (suc (suc (suc (suc (suc (suc n))))))) k y low high t =
    let seven : 7 ≡ suc (suc (suc (suc (suc (suc (suc n)))))) = omega (arith, high) in
    subst (λ tag. Recorded k (tag ∷ y)) seven (commit_in_is k y t)

abbrev Tagged : LogRecord → List ℕ → Type 0
Tagged = Then (Choice read.record_tag) After_tag

from_record : (k : LogRecord) (text : List ℕ) → Recorded k text → Tagged k text
unfolding record_text
from_record (r.Put u x) text (is, e) =
    (1, 1 ∷ [], unit_text u ++ spelling x, (1, omega arith, refl, refl), (u, unit_text u, spelling x, (is.0, refl), (x, spelling x, [], (is.1, refl), (refl, refl), sym (append-nil (spelling x))), refl), e)
from_record (r.Got u id s) text (is, e) =
    let l3 = structure_number s ∷ [] in
    let l2 = to_be_bytes w64 id.number ++ l3 in (
      2,
      2 ∷ [],
      unit_text u ++ l2,
      (2, omega arith, refl, refl),
      (
        u,
        unit_text u,
        l2,
        (is.0, refl),
        (
          id.number,
          to_be_bytes w64 id.number,
          l3,
          (is.1, refl),
          (s, l3, [], (structure_number s, omega (arith, structure-bounds s), structure-back s, refl), (refl, refl), refl),
          refl,
        ),
        refl,
      ),
      e,
    )
from_record (r.Commit u) text (is, e) =
    (3, 3 ∷ [], unit_text u, (3, omega arith, refl, refl), (u, unit_text u, [], (is, refl), (refl, refl), sym (append-nil (unit_text u))), e)
from_record (r.BackupStart u s top low) text (is, e) =
    let l4 = low_text low in
    let l3 = to_be_bytes w64 top.number ++ l4 in
    let l2 = structure_number s ∷ l3 in (
      4,
      4 ∷ [],
      unit_text u ++ l2,
      (4, omega arith, refl, refl),
      (
        u,
        unit_text u,
        l2,
        (is.0, refl),
        (
          s,
          structure_number s ∷ [],
          l3,
          (structure_number s, omega (arith, structure-bounds s), structure-back s, refl),
          (top.number, to_be_bytes w64 top.number, l4, (is.1, refl), (low, l4, [], (is.2, is.3, refl), (refl, refl), sym (append-nil l4)), refl),
          refl,
        ),
        refl,
      ),
      e,
    )
from_record (r.BackupEntry u mark x) text (is, e) =
    let l3 = spelling x in
    let l2 = mark_text mark ++ l3 in (
      5,
      5 ∷ [],
      unit_text u ++ l2,
      (5, omega arith, refl, refl),
      (u, unit_text u, l2, (is.0, refl), (mark, mark_text mark, l3, (is.1, refl), (x, l3, [], (is.2, refl), (refl, refl), sym (append-nil l3)), refl), refl),
      e,
    )
from_record (r.BackupEnd u s count) text (is, e) =
    let l3 = to_be_bytes w32 count in
    let l2 = structure_number s ∷ l3 in (
      6,
      6 ∷ [],
      unit_text u ++ l2,
      (6, omega arith, refl, refl),
      (
        u,
        unit_text u,
        l2,
        (is.0, refl),
        (
          s,
          structure_number s ∷ [],
          l3,
          (structure_number s, omega (arith, structure-bounds s), structure-back s, refl),
          (count, l3, [], (is.1, refl), (refl, refl), sym (append-nil l3)),
          refl,
        ),
        refl,
      ),
      e,
    )
from_record (r.CommitIn u set) text (is, e) =
    let back = set_back set is.1 in
    let l2 = set_byte set ∷ [] in
    (7, 7 ∷ [], unit_text u ++ l2, (7, omega arith, refl, refl), (u, unit_text u, l2, (is.0, refl), (set, l2, [], (set_byte set, back.0, back.1, refl), (refl, refl), refl), refl), e)

pub record_reads : Reads Recorded read.record_at
unfolding read.record_at
record_reads =
    reads_as Tagged Recorded read.record_at
    (reads_then _ _ _ _ (choice_reads read.record_tag (1, _, omega arith, refl)) (λ tag x t. after_tag_reads tag (record_tag_is t.0 tag t.2).1))
    (λ k text t.
    let tag = record_tag_is t.3.0 t.0 t.3.2 in
    let known = tagged_is t.0 k t.2 tag.1 tag.2 t.4 in
    (known.0, t.5 ∙ (λ i. t.3.3 i ++ t.2) ∙ ap (λ n. n ∷ t.2) tag.0 ∙ known.1))
    from_record
