-- logged operations one by one, and the sets of structures
use Rattle.std.proofs.Common.{◌≡◌, ◌⊎◌, inl, inr, ℕ, zero, suc, ◌+◌, ◌<◌, ◌≤◌, Bool, true, false, cond, List, [], ◌∷◌, ◌++◌, length, drop, get_or, Option, None, refl, sym, ap, ◌∙◌, subst, arith, append_assoc}
use Rattle.std.specs.Prelude.{Result, Ok, Err, OnOk}
use Rattle.std.specs.List.{filter}
use Rattle.qsg_num.specs.declared.ids.UnitName.{UnitName}
use Rattle.qsg_num.specs.declared.seats.StructNo.{StructNo}
use Rattle.qsg_num.specs.declared.seats.StructNo.TheVariants.{One, Two, Three, Four}
use Rattle.qsg_model.specs.declared.history.Op.{Op}
use Rattle.qsg_logrec.specs.declared.record.LogRecord.{LogRecord}
use Rattle.qsg_logrec.specs.Cutting.{ArePagesOf, all_pieces, joined_from, Joined}
use Rattle.qsg_logrec.specs.declared.piece.Piece.{Piece}
use Rattle.qsg_logrec.specs.Spelling.{record_text, IsRecord}
use Rattle.qsg_logrec.specs.Sets.{structures_in}
use Rattle.qsg_logread.specs.Records.{AreRecords, texts_of, PagesJoin}
use Rattle.qsg_group.specs.declared.tasks.Claim.{Claim}
use Rattle.qsg_group.specs.Observers.{logged_ops}
use Rattle.qsg_unitlog.specs.Units.{op_record, op_records, run_records, run_pages}
use Rattle.qsg_unitlog.specs.Sets.{uses, structures_of}
use Rattle.qsg_unitlog.proofs.Lists.{no_head}
use Rattle.qsg_unitlog.proofs.Beside.{whole_joins}

pub are_push : (rs qs : List LogRecord) → AreRecords rs → AreRecords qs → AreRecords (rs ++ qs)
are_push [] qs are more = more
are_push (r ∷ rs) qs are more = (are.0, are_push rs qs are.1 more)

-- a run has a page
some_pages : (pages : List (List ℕ)) (first : LogRecord) (more : List LogRecord) (begun after : Option (List ℕ)) → PagesJoin None pages (first ∷ more) after → 0 < length pages
some_pages (page ∷ pages) first more begun after joins = omega arith
some_pages [] first more begun after joins = no_pages joins.pieces joins.pages_are joins.joins.joined
  where
    no_pages : {A : Type 0} (pieces : List (List Piece)) → ArePagesOf pieces [] → joined_from (record { records = []; begun = None }) (all_pieces pieces) ≡ record { records = texts_of (first ∷ more); begun = after } → A
    no_pages [] are is = no_head (record_text first) (texts_of more) (ap (λ (j : Joined). j.records) is)
    no_pages (p ∷ ps) are is = absurd are

pub run_some : (u : UnitName) (told : List (StructNo × Op)) (structures : List StructNo) → AreRecords (run_records u told structures) → 0 < length (run_pages u told structures)
run_some u [] structures are = some_pages (run_pages u [] structures) _ _ None None (whole_joins u [] structures None are)
run_some u (w ∷ told) structures are = some_pages (run_pages u (w ∷ told) structures) _ _ None None (whole_joins u (w ∷ told) structures None are)

-- ---- what is logged from an operation on

pub logged_take : (ops : List (StructNo × Op)) (claims : List Claim) (i : ℕ) (d : StructNo × Op) (e : Claim) → i < length ops → i < length claims → (get_or claims i e).persistent ≡ true
    → logged_ops (drop i ops) (drop i claims) ≡ get_or ops i d ∷ logged_ops (drop (suc i) ops) (drop (suc i) claims)
logged_take [] claims i d e a b is = absurd (omega (arith, a))
logged_take (w ∷ ops) [] i d e a b is = absurd (omega (arith, b))
logged_take (w ∷ ops) (c ∷ claims) zero d e a b is = ap (λ (t : Bool). cond t (w ∷ logged_ops ops claims) (logged_ops ops claims)) is
logged_take (w ∷ ops) (c ∷ claims) (suc i) d e a b is = logged_take ops claims i d e (omega (arith, a)) (omega (arith, b)) is

pub logged_skip : (ops : List (StructNo × Op)) (claims : List Claim) (i : ℕ) (e : Claim) → i < length ops → i < length claims → (get_or claims i e).persistent ≡ false
    → logged_ops (drop i ops) (drop i claims) ≡ logged_ops (drop (suc i) ops) (drop (suc i) claims)
logged_skip [] claims i e a b is = absurd (omega (arith, a))
logged_skip (w ∷ ops) [] i e a b is = absurd (omega (arith, b))
logged_skip (w ∷ ops) (c ∷ claims) zero e a b is = ap (λ (t : Bool). cond t (w ∷ logged_ops ops claims) (logged_ops ops claims)) is
logged_skip (w ∷ ops) (c ∷ claims) (suc i) e a b is = logged_skip ops claims i e (omega (arith, a)) (omega (arith, b)) is

no_claims : (ops : List (StructNo × Op)) → logged_ops ops [] ≡ []
no_claims [] = refl
no_claims (w ∷ ops) = refl

pub logged_none : (ops : List (StructNo × Op)) (claims : List Claim) (i : ℕ) → length claims ≤ i → logged_ops (drop i ops) (drop i claims) ≡ logged_ops (drop (suc i) ops) (drop (suc i) claims)
logged_none ops [] zero less = no_claims ops ∙ sym (no_claims (drop 1 ops))
logged_none ops [] (suc i) less = no_claims (drop (suc i) ops) ∙ sym (no_claims (drop (suc (suc i)) ops))
logged_none ops (c ∷ claims) zero less = absurd (omega (arith, less))
logged_none [] (c ∷ claims) (suc i) less = refl
logged_none (w ∷ ops) (c ∷ claims) (suc i) less = logged_none ops claims i (omega (arith, less))

-- what the loop keeps
abbrev pub IsLoggedSoFar : UnitName → List (StructNo × Op) → List (StructNo × Op) → List (List ℕ) → Type 0
IsLoggedSoFar u all rest texts =
    (texts ++ texts_of (op_records u rest) ≡ texts_of (op_records u all)) × (AreRecords (op_records u rest) → AreRecords (op_records u all))

pub logged_pass : (u : UnitName) (all now rest : List (StructNo × Op)) (texts : List (List ℕ)) → now ≡ rest → IsLoggedSoFar u all now texts → IsLoggedSoFar u all rest texts
logged_pass u all now rest texts is so_far = subst (λ (l : List (StructNo × Op)). IsLoggedSoFar u all l texts) is so_far

pub logged_add : (u : UnitName) (all now rest : List (StructNo × Op)) (texts : List (List ℕ)) (w : StructNo × Op) (text : List ℕ) → now ≡ w ∷ rest → text ≡ record_text (op_record u w) → IsRecord (op_record u w)
    → IsLoggedSoFar u all now texts → IsLoggedSoFar u all rest (texts ++ text ∷ [])
logged_add u all now rest texts w text is spelled good so_far = (
  append_assoc texts (text ∷ []) (texts_of (op_records u rest))
      ∙ (λ i. texts ++ spelled i ∷ texts_of (op_records u rest))
      ∙ ap (λ (l : List (StructNo × Op)). texts ++ texts_of (op_records u l)) (sym is)
      ∙ so_far.0,
  λ are. so_far.1 (subst (λ (l : List (StructNo × Op)). AreRecords (op_records u l)) (sym is) (good, are)),
)

pub logged_adds : (u : UnitName) (ops : List (StructNo × Op)) (claims : List Claim) (i j : ℕ) (texts : List (List ℕ)) (w : StructNo × Op) (d : Claim) (text : List ℕ)
    → j ≡ suc i → i < length ops → w ≡ get_or ops i w → i < length claims → (get_or claims i d).persistent ≡ true → text ≡ record_text (op_record u w) → IsRecord (op_record u w)
    → IsLoggedSoFar u (logged_ops ops claims) (logged_ops (drop i ops) (drop i claims)) texts → IsLoggedSoFar u (logged_ops ops claims) (logged_ops (drop j ops) (drop j claims)) (texts ++ text ∷ [])
logged_adds u ops claims i j texts w d text next a at b is spelled good so_far =
    subst (λ (n : ℕ). IsLoggedSoFar u (logged_ops ops claims) (logged_ops (drop n ops) (drop n claims)) (texts ++ text ∷ [])) (sym next)
    (logged_add u (logged_ops ops claims) (logged_ops (drop i ops) (drop i claims)) (logged_ops (drop (suc i) ops) (drop (suc i) claims)) texts w text
    (logged_take ops claims i w d a b is ∙ (λ k. sym at k ∷ logged_ops (drop (suc i) ops) (drop (suc i) claims))) spelled good so_far)

pub logged_passes : (u : UnitName) (ops : List (StructNo × Op)) (claims : List Claim) (i j : ℕ) (texts : List (List ℕ)) (d : Claim)
    → j ≡ suc i → i < length ops → (length claims ≤ i) ⊎ ((i < length claims) × ((get_or claims i d).persistent ≡ false))
    → IsLoggedSoFar u (logged_ops ops claims) (logged_ops (drop i ops) (drop i claims)) texts → IsLoggedSoFar u (logged_ops ops claims) (logged_ops (drop j ops) (drop j claims)) texts
logged_passes u ops claims i j texts d next a none so_far =
    subst (λ (n : ℕ). IsLoggedSoFar u (logged_ops ops claims) (logged_ops (drop n ops) (drop n claims)) texts) (sym next)
    (logged_pass u (logged_ops ops claims) (logged_ops (drop i ops) (drop i claims)) (logged_ops (drop (suc i) ops) (drop (suc i) claims)) texts (same none) so_far)
  where
    same : (length claims ≤ i) ⊎ ((i < length claims) × ((get_or claims i d).persistent ≡ false)) → logged_ops (drop i ops) (drop i claims) ≡ logged_ops (drop (suc i) ops) (drop (suc i) claims)
    same (inl over) = logged_none ops claims i over
    same (inr at) = logged_skip ops claims i d a at.0 at.1

-- ---- sets of structures

-- the bits of four tests
pub four_bits : (a b c d : Bool) → structures_in (cond a 1 0 + cond b 2 0 + (cond c 4 0 + cond d 8 0))
    ≡ filter (λ s. elim s [ One ↦ a | Two ↦ b | Three ↦ c | Four ↦ d ]) (One ∷ Two ∷ Three ∷ Four ∷ [])
four_bits true true true true = refl
four_bits true true true false = refl
four_bits true true false true = refl
four_bits true true false false = refl
four_bits true false true true = refl
four_bits true false true false = refl
four_bits true false false true = refl
four_bits true false false false = refl
four_bits false true true true = refl
four_bits false true true false = refl
four_bits false true false true = refl
four_bits false true false false = refl
four_bits false false true true = refl
four_bits false false true false = refl
four_bits false false false true = refl
four_bits false false false false = refl

abbrev pub bits : (StructNo → Bool) → ℕ
bits test = cond (test One) 1 0 + cond (test Two) 2 0 + (cond (test Three) 4 0 + cond (test Four) 8 0)

pub bits_of : (ops : List (StructNo × Op)) → structures_in (bits (uses ops)) ≡ structures_of ops
bits_of ops = four_bits (uses ops One) (uses ops Two) (uses ops Three) (uses ops Four)

most : (b : Bool) (n : ℕ) → cond b n 0 ≤ n
most true n = omega arith
most false n = omega arith

pub bits_most : (test : StructNo → Bool) → bits test ≤ 15
bits_most test = omega (arith, most (test One) 1, most (test Two) 2, most (test Three) 4, most (test Four) 8)

pub bits_some : (ops : List (StructNo × Op)) → 0 < length ops → 1 ≤ bits (uses ops)
bits_some [] some = absurd (omega (arith, some))
bits_some ((One, o) ∷ ops) some = omega arith
bits_some ((Two, o) ∷ ops) some = omega arith
bits_some ((Three, o) ∷ ops) some = omega arith
bits_some ((Four, o) ∷ ops) some = omega arith

pub bits_back : (ops : List (StructNo × Op)) → 1 ≤ bits (uses ops) → 0 < length ops
bits_back [] some = absurd (omega (arith, some))
bits_back (w ∷ ops) some = omega arith

pub always_ok : {T E P : Type 0} (r : Result T E) → P → OnOk r P
always_ok (Ok x) p = p
always_ok (Err e) p = tt
