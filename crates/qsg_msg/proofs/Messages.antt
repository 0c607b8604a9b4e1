-- A message is read exactly as it is spelled.
use Rattle.std.proofs.Common.{◌≡◌, ℕ, zero, suc, ◌+◌, ◌*◌, ◌/◌, ◌%◌, ◌^◌, ◌<◌, ◌≤◌, Bool, true, false, List, [], ◌∷◌, ◌++◌, length, Option, Some, None, Ok, refl, sym, ap, subst, ◌∙◌, append_assoc, arith}
use Rattle.std.specs.Prelude.{nat_le, ◌&&◌}
use Rattle.std.specs.List.{list_all}
use Rattle.std.specs.Int.{w32, w64, to_be_bytes}
use Rattle.std.proofs.lemmas.Bool.{leb-true, le-leb}
use Rattle.std.proofs.lemmas.List.{append-nil}
use Rattle.qsg_num.specs.declared.seats.StructNo.{StructNo}
use Rattle.qsg_num.specs.declared.seats.Priority.{Priority}
use Rattle.qsg_num.specs.Seats.{structure_at, structure_number, priority_at, priority_number}
use Rattle.qsg_num.specs.Names.{is_queue_byte, is_queue_name}
use Rattle.qsg_num.proofs.Ranges.{some-same, structure-back, structure-bounds, priority-back, priority-bounds}
use Rattle.qsg_msg.specs.declared.message.Message.{Message}
use Rattle.qsg_msg.specs.Spelling.{bit, queue_text, body_text, descriptor_text, spelling, IsMessage}
use Rattle.qsg_msg.specs.Reading.{◌>>=◌, choice_at, tested, bytes_at, passing_at, is_digit, digit_at, length_at, body_at, is_name_length, queue_at, bit_at, message_at}
use Rattle.qsg_msg.proofs.Forms.{Reads, Then, Just, just_reads, reads_as, reads_then}
use Rattle.qsg_msg.proofs.FieldForms.{Choice, choice_reads, tested_is, tested_some, Some_bytes, bytes_reads, Passing, passing_reads, Number, number_reads, wide64}

-- ---- numbers within a limit

abbrev pub Digit : ℕ → ℕ → ℕ → ℕ → List ℕ → Type 0
Digit limit unit before v text = (byte : ℕ) × (byte < 256) × (v ≡ before * 256 + byte) × (v * unit ≤ limit) × (text ≡ byte ∷ [])

digit_reads : (limit unit before : ℕ) → before * 256 * unit ≤ limit → Reads (Digit limit unit before) (digit_at limit unit before)
unfolding digit_at
digit_reads limit unit before fits =
    reads_as (Then (Choice test) (λ byte. Just (before * 256 + byte))) (Digit limit unit before) (digit_at limit unit before)
    (reads_then (Choice test) (λ byte. Just (before * 256 + byte)) (choice_at test) (λ byte rest. Ok (before * 256 + byte, rest))
    (choice_reads test (0, 0, omega arith, tested_some (is_digit limit unit before) 0 (le-leb _ _ zero_fits))) (λ byte x is. just_reads (before * 256 + byte)))
    (λ v text t.
    let known = tested_is (is_digit limit unit before) t.3.0 t.0 t.3.2 in
    (t.0, subst (λ n. n < 256) known.0 t.3.1, t.4.0, subst (λ n. n * unit ≤ limit) (sym t.4.0) (leb-true _ _ known.1), t.5 ∙ (λ i. t.3.3 i ++ t.4.1 i) ∙ ap (λ n. n ∷ []) known.0))
    (λ v text t. (t.0, t.0 ∷ [], [], (t.0, t.1, tested_some (is_digit limit unit before) t.0 (le-leb _ _ (subst (λ n. n * unit ≤ limit) t.2 t.3)), refl), (t.2, refl), t.4))
  where
    test : ℕ → Option ℕ
    test = tested (is_digit limit unit before)

    zero_fits : (before * 256 + 0) * unit ≤ limit
    zero_fits = subst (λ n. n * unit ≤ limit) (omega arith) fits

abbrev pub Length : ℕ → ℕ → List ℕ → Type 0
Length limit n text = (n ≤ limit) × (text ≡ to_be_bytes w32 n)

pub length_reads : (limit : ℕ) → limit < 2 ^ 32 → Reads (Length limit) (length_at limit)
unfolding length_at
length_reads limit small =
    reads_as (Then (Digit limit 16777216 0) (λ a. Then (Digit limit 65536 a) (λ b. Then (Digit limit 256 b) (λ c. Digit limit 1 c)))) (Length limit) (length_at limit)
    (reads_then (Digit limit 16777216 0) (λ a. Then (Digit limit 65536 a) (λ b. Then (Digit limit 256 b) (λ c. Digit limit 1 c)))
    (digit_at limit 16777216 0) (λ a l. digit_at limit 65536 a l >>= λ b. digit_at limit 256 b.0 b.1 >>= λ c. digit_at limit 1 c.0 c.1)
    (digit_reads limit 16777216 0 (omega arith)) (λ a x ta.
    reads_then (Digit limit 65536 a) (λ b. Then (Digit limit 256 b) (λ c. Digit limit 1 c))
    (digit_at limit 65536 a) (λ b l. digit_at limit 256 b l >>= λ c. digit_at limit 1 c.0 c.1)
    (digit_reads limit 65536 a (omega (arith, ta.3))) (λ b y tb.
    reads_then (Digit limit 256 b) (λ c. Digit limit 1 c) (digit_at limit 256 b) (λ c l. digit_at limit 1 c l)
    (digit_reads limit 256 b (omega (arith, tb.3))) (λ c z tc. digit_reads limit 1 c (omega (arith, tc.3))))))
    to from
  where
    to : (n : ℕ) (text : List ℕ) → Then (Digit limit 16777216 0) (λ a. Then (Digit limit 65536 a) (λ b. Then (Digit limit 256 b) (λ c. Digit limit 1 c))) n text → Length limit n text
    to n text (a, x, r, (a0, la, ea, ma, xa), (b, y, s, (b0, lb, eb, mb, xb), (c, z, d, (c0, lc, ec, mc, xc), (d0, ld, ed, md, xd), wc), wb), wa) =
        let n_is : n ≡ a0 * 16777216 + b0 * 65536 + c0 * 256 + d0 = omega (arith, ea, eb, ec, ed) in
        let one : a0 ≡ n / 16777216 % 256 = omega (arith, n_is, la, lb, lc, ld) in
        let two : b0 ≡ n / 65536 % 256 = omega (arith, n_is, la, lb, lc, ld) in
        let three : c0 ≡ n / 256 % 256 = omega (arith, n_is, la, lb, lc, ld) in
        let four : d0 ≡ n % 256 = omega (arith, n_is, la, lb, lc, ld) in
        let rest : s ≡ c0 ∷ d0 ∷ [] = wc ∙ (λ i. xc i ++ xd i) in
        let more : r ≡ b0 ∷ c0 ∷ d0 ∷ [] = wb ∙ (λ i. xb i ++ rest i) in
        let all : text ≡ a0 ∷ b0 ∷ c0 ∷ d0 ∷ [] = wa ∙ (λ i. xa i ++ more i) in
        (omega (arith, md), all ∙ (λ i. one i ∷ two i ∷ three i ∷ four i ∷ []))

    from : (n : ℕ) (text : List ℕ) → Length limit n text → Then (Digit limit 16777216 0) (λ a. Then (Digit limit 65536 a) (λ b. Then (Digit limit 256 b) (λ c. Digit limit 1 c))) n text
    from n text (le, is) =
        let a = n / 16777216 in
        let b = n / 65536 in
        let c = n / 256 in (
          a,
          (a % 256) ∷ [],
          (b % 256) ∷ (c % 256) ∷ (n % 256) ∷ [],
          (a % 256, omega arith, omega (arith, le, small), omega (arith, le), refl),
          (
            b,
            (b % 256) ∷ [],
            (c % 256) ∷ (n % 256) ∷ [],
            (b % 256, omega arith, omega arith, omega (arith, le), refl),
            (
              c,
              (c % 256) ∷ [],
              (n % 256) ∷ [],
              (c % 256, omega arith, omega arith, omega (arith, le), refl),
              (n % 256, omega arith, omega arith, omega (arith, le), refl),
              refl,
            ),
            refl,
          ),
          is,
        )

-- ---- bodies and names

abbrev pub Body_form : List ℕ → List ℕ → Type 0
Body_form body text = (length body ≤ 4194304) × (text ≡ body_text body)

pub body_reads : Reads Body_form body_at
unfolding body_at
body_reads =
    reads_as (Then (Length 4194304) (λ n. Some_bytes n)) Body_form body_at
    (reads_then (Length 4194304) (λ n. Some_bytes n) (length_at 4194304) (λ n l. bytes_at n l) (length_reads 4194304 (omega arith)) (λ n x is. bytes_reads n))
    (λ body text t. (subst (λ n. n ≤ 4194304) (sym t.4.0) t.3.0, t.5 ∙ (λ i. (t.3.1 ∙ ap (to_be_bytes w32) (sym t.4.0)) i ++ t.4.1 i)))
    (λ body text t. (length body, to_be_bytes w32 (length body), body, (t.0, refl), (refl, refl), t.1))

abbrev pub Queue : List ℕ → List ℕ → Type 0
Queue name text = (is_queue_name name ≡ true) × (text ≡ queue_text name)

queue_whole : (name : List ℕ) → is_name_length (length name) ≡ true → list_all is_queue_byte name ≡ true → is_queue_name name ≡ true
queue_whole name len all = joined (nat_le 1 (length name)) (nat_le (length name) 48) (list_all is_queue_byte name) len all
  where
    joined : (a b c : Bool) → (a && b) ≡ true → c ≡ true → (a && b && c) ≡ true
    joined true true true x y = refl
    joined true true false x y = y
    joined true false c x y = absurd cc
    joined false b c x y = absurd cc

queue_parts : (name : List ℕ) → is_queue_name name ≡ true → (is_name_length (length name) ≡ true) × (list_all is_queue_byte name ≡ true)
queue_parts name is = parts (nat_le 1 (length name)) (nat_le (length name) 48) (list_all is_queue_byte name) is
  where
    parts : (a b c : Bool) → (a && b && c) ≡ true → ((a && b) ≡ true) × (c ≡ true)
    parts true true true x = (refl, refl)
    parts true true false x = absurd cc
    parts true false c x = absurd cc
    parts false b c x = absurd cc

name_length_small : (n : ℕ) → is_name_length n ≡ true → n < 256
name_length_small n is = bound (nat_le 1 n) (nat_le n 48) is refl
  where
    bound : (a b : Bool) → (a && b) ≡ true → nat_le n 48 ≡ b → n < 256
    bound true true x e = omega (arith, leb-true _ _ e)
    bound true false x e = absurd cc
    bound false b x e = absurd cc

pub queue_reads : Reads Queue queue_at
unfolding queue_at
queue_reads =
    reads_as (Then (Choice (tested is_name_length)) (λ n. Passing is_queue_byte n)) Queue queue_at
    (reads_then (Choice (tested is_name_length)) (λ n. Passing is_queue_byte n) (choice_at (tested is_name_length)) (λ n l. passing_at is_queue_byte n l)
    (choice_reads (tested is_name_length) (1, 1, omega arith, refl)) (λ n x is. passing_reads is_queue_byte n 65 refl))
    (λ name text t.
    let known = tested_is is_name_length t.3.0 t.0 t.3.2 in
    (queue_whole name (ap is_name_length t.4.0 ∙ known.1) t.4.1, t.5 ∙ (λ i. t.3.3 i ++ t.4.2 i) ∙ ap (λ n. n ∷ name) (known.0 ∙ sym t.4.0)))
    (λ name text t.
    let parts = queue_parts name t.0 in
    (length name, length name ∷ [], name, (length name, name_length_small (length name) parts.0, tested_some is_name_length (length name) parts.0, refl), (refl, parts.1, refl), t.1))

-- ---- bytes that are the number of a value

abbrev none : {A : Type 0} → Option A
none = None

none_no_some : {A : Type 0} (a : A) → none ≡ Some a → ⊥
none_no_some a e = cc

pub structure_is : (n : ℕ) (s : StructNo) → structure_at n ≡ Some s → n ≡ structure_number s
structure_is zero s e = absurd (none_no_some s e)
structure_is (suc zero) s e = ap structure_number (some-same _ _ e)
structure_is (suc (suc zero)) s e = ap structure_number (some-same _ _ e)
structure_is (suc (suc (suc zero))) s e = ap structure_number (some-same _ _ e)
structure_is (suc (suc (suc (suc zero)))) s e = ap structure_number (some-same _ _ e)
structure_is (suc (suc (suc (suc (suc n))))) s e = absurd (none_no_some s e)

pub priority_is : (n : ℕ) (p : Priority) → priority_at n ≡ Some p → n ≡ priority_number p
priority_is zero p e = ap priority_number (some-same _ _ e)
priority_is (suc zero) p e = ap priority_number (some-same _ _ e)
priority_is (suc (suc zero)) p e = ap priority_number (some-same _ _ e)
priority_is (suc (suc (suc zero))) p e = ap priority_number (some-same _ _ e)
priority_is (suc (suc (suc (suc zero)))) p e = ap priority_number (some-same _ _ e)
priority_is (suc (suc (suc (suc (suc zero))))) p e = ap priority_number (some-same _ _ e)
priority_is (suc (suc (suc (suc (suc (suc zero)))))) p e = ap priority_number (some-same _ _ e)
priority_is (suc (suc (suc (suc (suc (suc (suc zero))))))) p e = ap priority_number (some-same _ _ e)
priority_is (suc (suc (suc (suc (suc (suc (suc (suc zero)))))))) p e = ap priority_number (some-same _ _ e)
priority_is (suc (suc (suc (suc (suc (suc (suc (suc (suc zero))))))))) p e = ap priority_number (some-same _ _ e)
priority_is (suc (suc (suc (suc (suc (suc (suc (suc (suc (suc n)))))))))) p e = absurd (none_no_some p e)

bit_is : (n : ℕ) (b : Bool) → bit_at n ≡ Some b → n ≡ bit b
bit_is zero b e = ap bit (some-same _ _ e)
bit_is (suc zero) b e = ap bit (some-same _ _ e)
bit_is (suc (suc n)) b e = absurd (none_no_some b e)

bit_back : (b : Bool) → bit_at (bit b) ≡ Some b
bit_back true = refl
bit_back false = refl

bit_small : (b : Bool) → bit b < 256
bit_small true = omega arith
bit_small false = omega arith

-- a byte and a value whose number it is
pub one_byte : {A : Type 0} (of : ℕ → Option A) (number : A → ℕ) → ((n : ℕ) (a : A) → of n ≡ Some a → n ≡ number a) → (a : A) (text : List ℕ) → Choice of a text → text ≡ number a ∷ []
one_byte of number back a text t = t.3 ∙ ap (λ n. n ∷ []) (back t.0 a t.2)

-- ---- messages

abbrev pub made : ℕ → StructNo → List ℕ → Priority → Bool → List ℕ → List ℕ → List ℕ → Message
made id s q p b mi ci body = record { id = record { number = id }; structure = s; queue = q; priority = p; persistent = b; msg_id = mi; correl_id = ci; body = body }

abbrev pub Spelled : Message → List ℕ → Type 0
Spelled m text = IsMessage m × (text ≡ spelling m)

abbrev After_correl_id : ℕ → StructNo → List ℕ → Priority → Bool → List ℕ → List ℕ → Message → List ℕ → Type 0
After_correl_id id s q p b mi ci = Then Body_form (λ body. Just (made id s q p b mi ci body))

abbrev After_msg_id : ℕ → StructNo → List ℕ → Priority → Bool → List ℕ → Message → List ℕ → Type 0
After_msg_id id s q p b mi = Then (Some_bytes 24) (λ ci. After_correl_id id s q p b mi ci)

abbrev After_persistent : ℕ → StructNo → List ℕ → Priority → Bool → Message → List ℕ → Type 0
After_persistent id s q p b = Then (Some_bytes 24) (λ mi. After_msg_id id s q p b mi)

abbrev After_priority : ℕ → StructNo → List ℕ → Priority → Message → List ℕ → Type 0
After_priority id s q p = Then (Choice bit_at) (λ b. After_persistent id s q p b)

abbrev After_queue : ℕ → StructNo → List ℕ → Message → List ℕ → Type 0
After_queue id s q = Then (Choice priority_at) (λ p. After_priority id s q p)

abbrev After_structure : ℕ → StructNo → Message → List ℕ → Type 0
After_structure id s = Then Queue (λ q. After_queue id s q)

abbrev After_id : ℕ → Message → List ℕ → Type 0
After_id id = Then (Choice structure_at) (λ s. After_structure id s)

abbrev In_order : Message → List ℕ → Type 0
In_order = Then (Number w64 (2 ^ 64)) (λ id. After_id id)

pub structure_reads : Reads (Choice structure_at) (choice_at structure_at)
structure_reads = choice_reads structure_at (1, _, omega arith, refl)

in_order_reads : Reads In_order message_at
unfolding message_at
in_order_reads =
    reads_then _ _ _ _ (number_reads w64 (2 ^ 64) wide64) (λ id _ _.
    reads_then _ _ _ _ structure_reads (λ s _ _.
    reads_then _ _ _ _ queue_reads (λ q _ _.
    reads_then _ _ _ _ (choice_reads priority_at (0, _, omega arith, refl)) (λ p _ _.
    reads_then _ _ _ _ (choice_reads bit_at (0, _, omega arith, refl)) (λ b _ _.
    reads_then _ _ _ _ (bytes_reads 24) (λ mi _ _.
    reads_then _ _ _ _ (bytes_reads 24) (λ ci _ _.
    reads_then _ _ _ _ body_reads (λ body _ _. just_reads (made id s q p b mi ci body)))))))))

-- the fields one after another are the three parts of the spelling
regroup : (m : Message) → to_be_bytes w64 m.id.number ++ (structure_number m.structure ∷ (queue_text m.queue ++ (priority_number m.priority ∷ (bit m.persistent ∷ (m.msg_id ++ (m.correl_id ++ body_text m.body)))))) ≡ spelling m
unfolding spelling
regroup m =
    let ids : m.msg_id ++ (m.correl_id ++ body_text m.body) ≡ (m.msg_id ++ m.correl_id) ++ body_text m.body = sym (append_assoc m.msg_id m.correl_id (body_text m.body)) in
    ap (λ l. to_be_bytes w64 m.id.number ++ (structure_number m.structure ∷ (queue_text m.queue ++ (priority_number m.priority ∷ (bit m.persistent ∷ l))))) ids
    ∙ sym (append_assoc (to_be_bytes w64 m.id.number) (structure_number m.structure ∷ queue_text m.queue) (descriptor_text m ++ body_text m.body))

to_spelled : (m : Message) (text : List ℕ) → In_order m text → Spelled m text
to_spelled m text (id, x1, y1, f1, (s, x2, y2, f2, (q, x3, y3, f3, (p, x4, y4, f4, (b, x5, y5, f5, (mi, x6, y6, f6, (ci, x7, y7, f7, (body, x8, y8, f8, is, e8), e7), e6), e5), e4), e3), e2), e1) =
    let l8 : y7 ≡ body_text body = e8 ∙ (λ i. f8.1 i ++ is.1 i) ∙ append-nil (body_text body) in
    let l7 : y6 ≡ ci ++ body_text body = e7 ∙ (λ i. f7.1 i ++ l8 i) in
    let l6 : y5 ≡ mi ++ (ci ++ body_text body) = e6 ∙ (λ i. f6.1 i ++ l7 i) in
    let l5 : y4 ≡ bit b ∷ (mi ++ (ci ++ body_text body)) = e5 ∙ (λ i. one_byte bit_at bit bit_is b x5 f5 i ++ l6 i) in
    let l4 : y3 ≡ priority_number p ∷ (bit b ∷ (mi ++ (ci ++ body_text body))) = e4 ∙ (λ i. one_byte priority_at priority_number priority_is p x4 f4 i ++ l5 i) in
    let l3 : y2 ≡ queue_text q ++ (priority_number p ∷ (bit b ∷ (mi ++ (ci ++ body_text body)))) = e3 ∙ (λ i. f3.1 i ++ l4 i) in
    let l2 : y1 ≡ structure_number s ∷ (queue_text q ++ (priority_number p ∷ (bit b ∷ (mi ++ (ci ++ body_text body))))) = e2 ∙ (λ i. one_byte structure_at structure_number structure_is s x2 f2 i ++ l3 i) in
    let l1 = e1 ∙ (λ i. f1.1 i ++ l2 i) ∙ regroup (made id s q p b mi ci body) in
    subst (λ n. Spelled n text) (sym is.0) (record { id = f1.0; queue = f3.0; msg_id = f6.0; correl_id = f7.0; body = f8.0 }, l1)

from_spelled : (m : Message) (text : List ℕ) → Spelled m text → In_order m text
from_spelled m text (is, e) =
    let r8 = body_text m.body in
    let r7 = m.correl_id ++ r8 in
    let r6 = m.msg_id ++ r7 in
    let r5 = bit m.persistent ∷ r6 in
    let r4 = priority_number m.priority ∷ r5 in
    let r3 = queue_text m.queue ++ r4 in
    let r2 = structure_number m.structure ∷ r3 in (
      m.id.number,
      to_be_bytes w64 m.id.number,
      r2,
      (is.id, refl),
      (
        m.structure,
        structure_number m.structure ∷ [],
        r3,
        (structure_number m.structure, omega (arith, structure-bounds m.structure), structure-back m.structure, refl),
        (
          m.queue,
          queue_text m.queue,
          r4,
          (is.queue, refl),
          (
            m.priority,
            priority_number m.priority ∷ [],
            r5,
            (priority_number m.priority, omega (arith, priority-bounds m.priority), priority-back m.priority, refl),
            (
              m.persistent,
              bit m.persistent ∷ [],
              r6,
              (bit m.persistent, bit_small m.persistent, bit_back m.persistent, refl),
              (m.msg_id, m.msg_id, r7, (is.msg_id, refl), (m.correl_id, m.correl_id, r8, (is.correl_id, refl), (m.body, body_text m.body, [], (is.body, refl), (refl, refl), sym (append-nil (body_text m.body))), refl), refl),
              refl,
            ),
            refl,
          ),
          refl,
        ),
        refl,
      ),
      e ∙ sym (regroup m),
    )

pub message_reads : Reads Spelled message_at
message_reads = reads_as In_order Spelled message_at in_order_reads to_spelled from_spelled
