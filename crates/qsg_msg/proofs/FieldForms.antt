-- Each reader of a field reads exactly its form.
use Rattle.std.proofs.Common.{◌≡◌, ℕ, zero, suc, ◌-◌, ◌^◌, ◌<◌, ◌≤◌, Bool, true, false, cond, ltb, List, [], ◌∷◌, ◌++◌, length, get_or, take, drop, replicate, Option, Some, None, Result, Ok, Err, refl, sym, ap, subst, ◌∙◌, arith, inl, inr}
use Rattle.std.specs.List.{prefix_len, list_all}
use Rattle.std.specs.Int.{Width, w32, w64, byte_len, from_be_bytes, to_be_bytes}
use Rattle.std.proofs.lemmas.Bool.{cases_lt, ltb-false, ltb-true, le-ltb}
use Rattle.std.proofs.lemmas.List.{append-nil, take_at, drop_at, take-append-drop, length-append, length-take, length-take-le, length-drop, length-replicate, get_or-take, get_or_past}
use Rattle.std.proofs.lemmas.List.Folds.{list_all-append}
use Rattle.std.proofs.lemmas.Nat.{be_bytes_4, be_bytes_8, from_be_bytes-to_be_bytes_4, from_be_bytes-to_be_bytes_8}
use Rattle.qsg_msg.specs.Reading.{choice_at, tested, bytes_at, passing_at, number_at}
use Rattle.qsg_msg.proofs.Passing.{passes_within, all_pass, passes_all, front_passes, front_within}
use Rattle.qsg_msg.proofs.Forms.{IsBytes, Stops, Reads, ok_is, err_is, ok_no_err, err_no_ok}

-- ---- fronts of lists

pub taken_fits : (n : ℕ) (bytes : List ℕ) → IsBytes bytes → IsBytes (take n bytes)
taken_fits n bytes fits i =
    elim (cases_lt i n) [
      | inl lt ↦ rw (get_or-take n bytes i 0 lt) (fits i)
      | inr le ↦ rw (get_or_past (take n bytes) i 0 (omega (arith, le, length-take n bytes))) (omega arith)
    ]

zeros_fit : (n i : ℕ) → get_or (replicate n 0) i 0 < 256
zeros_fit zero i = omega arith
zeros_fit (suc n) zero = omega arith
zeros_fit (suc n) (suc i) = zeros_fit n i

pub padded_fits : (bytes : List ℕ) (n : ℕ) → IsBytes bytes → IsBytes (bytes ++ replicate n 0)
padded_fits [] n fits i = zeros_fit n i
padded_fits (b ∷ bytes) n fits zero = fits 0
padded_fits (b ∷ bytes) n fits (suc i) = padded_fits bytes n (λ j. fits (suc j)) i

pub take_shorter : (k n : ℕ) (xs : List ℕ) → k ≤ n → take k (take n xs) ≡ take k xs
take_shorter zero n xs le = refl
take_shorter (suc k) zero xs le = absurd (omega (arith, le))
take_shorter (suc k) (suc n) [] le = refl
take_shorter (suc k) (suc n) (x ∷ xs) le = ap (λ l. x ∷ l) (take_shorter k n xs (omega (arith, le)))

pub take_past : (g b : List ℕ) (n : ℕ) → length g ≤ n → take n (g ++ b) ≡ g ++ take (n - length g) b
take_past [] b n le = ap (λ k. take k b) (omega arith)
take_past (x ∷ g) b zero le = absurd (omega (arith, le))
take_past (x ∷ g) b (suc n) le = ap (λ l. x ∷ l) (take_past g b n (omega (arith, le)) ∙ ap (λ k. g ++ take k b) (omega arith))

pub front_all : (test : ℕ → Bool) (g r : List ℕ) → list_all test (g ++ r) ≡ true → list_all test g ≡ true
front_all test [] r all = refl
front_all test (x ∷ g) r all = by_test (front_all test g r) (test x) refl
  where
    by_test : (list_all test (g ++ r) ≡ true → list_all test g ≡ true) → (b : Bool) → test x ≡ b → list_all test (x ∷ g) ≡ true
    by_test step true e = let now = rw e at all in rw e (step now)
    by_test step false e = let now = rw e at all in absurd cc

abbrev pub guarded : {A : Type 0} → Bool → ℕ → A → Result A ℕ
guarded b n x = cond b (Err n) (Ok x)

-- ---- a byte that stands for a value

abbrev pub Choice : {A : Type 0} → (ℕ → Option A) → A → List ℕ → Type 0
Choice of a text = (byte : ℕ) × (byte < 256) × (of byte ≡ Some a) × (text ≡ byte ∷ [])

abbrev some : {A : Type 0} → A → Option A
some a = Some a

abbrev chosen : {A : Type 0} → List ℕ → List ℕ → Option A → Result (A × List ℕ) ℕ
chosen bytes rest o = elim o [ None ↦ Err (length bytes) | Some a ↦ Ok (a, rest) ]

none_no_some : {A : Type 0} (a : A) → None ≡ some a → ⊥
none_no_some a e = cc

choice_takes : {A : Type 0} (of : ℕ → Option A) (byte : ℕ) → byte < 256 → (rest : List ℕ) (x : A × List ℕ) (o : Option A) → of byte ≡ o → chosen (byte ∷ rest) rest o ≡ Ok x
    → (text : List ℕ) × Choice of x.0 text × (byte ∷ rest ≡ text ++ x.1)
choice_takes of byte small rest x None is e = absurd (err_no_ok x (length (byte ∷ rest)) e)
choice_takes of byte small rest x (Some a) is e =
    let same = ok_is (a, rest) x e in
    (byte ∷ [], (byte, small, is ∙ ap (λ p. Some p.0) same, refl), ap (λ p. byte ∷ p.1) same)

choice_stops : {A : Type 0} (of : ℕ → Option A) (byte : ℕ) (rest : List ℕ) (left : ℕ) (o : Option A) → of byte ≡ o → chosen (byte ∷ rest) rest o ≡ Err left
    → ((a : A) × (text : List ℕ) × Choice of a text) → Stops (Choice of) (byte ∷ rest) left
choice_stops of byte rest left (Some a) is e any = absurd (ok_no_err (a, rest) left e)
choice_stops {A} of byte rest left None is e any = record {
  good = [];
  bad = byte ∷ rest;
  split = refl;
  left_is = err_is {A = A × List ℕ} (length (byte ∷ rest)) left e;
  begins = any;
  greatest = λ g b r a whole t. at_front g b r a whole t;
}
  where
    at_front : (g b r : List ℕ) (a : A) → byte ∷ rest ≡ g ++ b → Choice of a (g ++ r) → length g ≤ 0
    at_front [] b r a whole t = omega arith
    at_front (c ∷ g) b r a whole t =
        let heads : byte ≡ c = ap (λ l. get_or l 0 0) whole in
        let there : c ≡ t.0 = ap (λ l. get_or l 0 0) t.3 in
        absurd (none_no_some a (sym is ∙ ap of (heads ∙ there) ∙ t.2))

pub choice_reads : {A : Type 0} (of : ℕ → Option A) → ((byte : ℕ) × (a : A) × (byte < 256) × (of byte ≡ Some a)) → Reads (Choice of) (choice_at of)
choice_reads {A} of any = record {
  takes = λ bytes x fits e. takes bytes x fits e;
  again = λ a text rest t. ap (λ l. choice_at of (l ++ rest)) t.3 ∙ ap (chosen (t.0 ∷ rest) rest) t.2;
  stops = λ bytes left fits e. stops bytes left e;
  some = one;
}
  where
    one : (a : A) × (text : List ℕ) × Choice of a text
    one = (any.1, any.0 ∷ [], (any.0, any.2, any.3, refl))

    takes : (bytes : List ℕ) (x : A × List ℕ) → IsBytes bytes → choice_at of bytes ≡ Ok x → (text : List ℕ) × Choice of x.0 text × (bytes ≡ text ++ x.1)
    takes [] x fits e = absurd (err_no_ok x 0 e)
    takes (byte ∷ rest) x fits e = choice_takes of byte (fits 0) rest x (of byte) refl e

    stops : (bytes : List ℕ) (left : ℕ) → choice_at of bytes ≡ Err left → Stops (Choice of) bytes left
    stops [] left e = record {
      good = [];
      bad = [];
      split = refl;
      left_is = err_is {A = A × List ℕ} 0 left e;
      begins = one;
      greatest = λ g b r a whole t. omega (arith, ap length whole, length-append g b);
    }
    stops (byte ∷ rest) left e = choice_stops of byte rest left (of byte) refl e one

pub tested_is : (test : ℕ → Bool) (byte n : ℕ) → tested test byte ≡ Some n → (byte ≡ n) × (test n ≡ true)
tested_is test byte n e = by_test (test byte) refl e
  where
    by_test : (b : Bool) → test byte ≡ b → cond b (Some byte) None ≡ Some n → (byte ≡ n) × (test n ≡ true)
    by_test true is made =
        let same : byte ≡ n = cc in
        (same, ap test (sym same) ∙ is)
    by_test false is made = absurd (none_no_some n made)

pub tested_some : (test : ℕ → Bool) (n : ℕ) → test n ≡ true → tested test n ≡ Some n
tested_some test n e = rw e refl

-- ---- so many bytes

abbrev pub Some_bytes : ℕ → List ℕ → List ℕ → Type 0
Some_bytes n xs text = (length xs ≡ n) × (text ≡ xs)

pub bytes_reads : (n : ℕ) → Reads (Some_bytes n) (bytes_at n)
bytes_reads n = record {
  takes = λ bytes x fits e. takes bytes x (ltb (length bytes) n) refl e;
  again = λ xs text rest t.
      let long : ltb (length (xs ++ rest)) n ≡ false = le-ltb _ _ (omega (arith, t.0, length-append xs rest)) in
      ap (λ l. bytes_at n (l ++ rest)) t.1 ∙ rw (long, take_at xs rest n t.0, drop_at xs rest n t.0) refl;
  stops = λ bytes left fits e. stops bytes left (ltb (length bytes) n) refl e;
  some = (replicate n 0, replicate n 0, (length-replicate {A = ℕ} n 0, refl));
}
  where
    takes : (bytes : List ℕ) (x : List ℕ × List ℕ) (b : Bool) → ltb (length bytes) n ≡ b → guarded {A = List ℕ × List ℕ} b 0 (take n bytes, drop n bytes) ≡ Ok x
        → (text : List ℕ) × Some_bytes n x.0 text × (bytes ≡ text ++ x.1)
    takes bytes x true is e = absurd (err_no_ok x 0 e)
    takes bytes x false is e =
        let same = ok_is (take n bytes, drop n bytes) x e in
        let long : n ≤ length bytes = ltb-false _ _ is in
        (take n bytes, (ap (λ p. length p.0) (sym same) ∙ length-take-le n bytes long, ap (λ p. p.0) same), sym (take-append-drop n bytes) ∙ ap (λ p. take n bytes ++ p.1) same)

    stops : (bytes : List ℕ) (left : ℕ) (b : Bool) → ltb (length bytes) n ≡ b → guarded {A = List ℕ × List ℕ} b 0 (take n bytes, drop n bytes) ≡ Err left → Stops (Some_bytes n) bytes left
    stops bytes left false is e = absurd (ok_no_err (take n bytes, drop n bytes) left e)
    stops bytes left true is e =
        let short : length bytes < n = ltb-true _ _ is in record {
          good = bytes;
          bad = [];
          split = sym (append-nil bytes);
          left_is = err_is {A = List ℕ × List ℕ} 0 left e;
          begins = (
            bytes ++ replicate (n - length bytes) 0,
            replicate (n - length bytes) 0,
            (omega (arith, length-append bytes (replicate (n - length bytes) 0), length-replicate {A = ℕ} (n - length bytes) 0), refl),
          );
          greatest = λ g b r a whole t. omega (arith, ap length whole, length-append g b);
        }

-- ---- so many bytes that pass a test

abbrev pub Passing : (ℕ → Bool) → ℕ → List ℕ → List ℕ → Type 0
Passing test n xs text = (length xs ≡ n) × (list_all test xs ≡ true) × (text ≡ xs)

all_replicate : (test : ℕ → Bool) (n byte : ℕ) → test byte ≡ true → list_all test (replicate n byte) ≡ true
all_replicate test zero byte e = refl
all_replicate test (suc n) byte e = rw e (all_replicate test n byte e)

pub passing_reads : (test : ℕ → Bool) (n byte : ℕ) → test byte ≡ true → Reads (Passing test n) (passing_at test n)
passing_reads test n byte ok = record {
  takes = λ bytes x fits e. takes bytes x (ltb (prefix_len test (take n bytes)) n) refl e;
  again = λ xs text rest t.
      let front = take_at xs rest n t.0 in
      let most : ltb (prefix_len test (take n (xs ++ rest))) n ≡ false = le-ltb _ _ (rw front (omega (arith, passes_all test xs t.1, t.0))) in
      ap (λ l. passing_at test n (l ++ rest)) t.2 ∙ rw (most, front, drop_at xs rest n t.0) refl;
  stops = λ bytes left fits e. stops bytes left (ltb (prefix_len test (take n bytes)) n) refl e;
  some = (replicate n byte, replicate n byte, (length-replicate n byte, all_replicate test n byte ok, refl));
}
  where
    takes : (bytes : List ℕ) (x : List ℕ × List ℕ) (b : Bool) → ltb (prefix_len test (take n bytes)) n ≡ b
        → guarded {A = List ℕ × List ℕ} b (length bytes - prefix_len test (take n bytes)) (take n bytes, drop n bytes) ≡ Ok x → (text : List ℕ) × Passing test n x.0 text × (bytes ≡ text ++ x.1)
    takes bytes x true is e = absurd (err_no_ok x (length bytes - prefix_len test (take n bytes)) e)
    takes bytes x false is e =
        let same = ok_is (take n bytes, drop n bytes) x e in
        let all = all_pass test n (take n bytes) (omega (arith, length-take n bytes)) (ltb-false _ _ is) in
        (take n bytes, (ap (λ p. length p.0) (sym same) ∙ all.0, ap (λ p. list_all test p.0) (sym same) ∙ all.1, ap (λ p. p.0) same), sym (take-append-drop n bytes) ∙ ap (λ p. take n bytes ++ p.1) same)

    stops : (bytes : List ℕ) (left : ℕ) (b : Bool) → ltb (prefix_len test (take n bytes)) n ≡ b
        → guarded {A = List ℕ × List ℕ} b (length bytes - prefix_len test (take n bytes)) (take n bytes, drop n bytes) ≡ Err left → Stops (Passing test n) bytes left
    stops bytes left false is e = absurd (ok_no_err (take n bytes, drop n bytes) left e)
    stops bytes left true is e =
        let k = prefix_len test (take n bytes) in
        let short : k < n = ltb-true _ _ is in
        let within : k ≤ length (take n bytes) = passes_within test (take n bytes) in
        let fits : k ≤ length bytes = omega (arith, within, length-take n bytes) in
        let front : take k bytes ≡ take k (take n bytes) = sym (take_shorter k n bytes (omega (arith, short))) in
        let passes : list_all test (take k bytes) ≡ true = ap (list_all test) front ∙ front_passes test (take n bytes) in
        let pad = replicate (n - k) byte in record {
          good = take k bytes;
          bad = drop k bytes;
          split = sym (take-append-drop k bytes);
          left_is = length-drop k bytes ∙ err_is {A = List ℕ × List ℕ} (length bytes - k) left e;
          begins = (
            take k bytes ++ pad,
            pad,
            (
              omega (arith, short, length-append (take k bytes) pad, length-take-le k bytes fits, length-replicate (n - k) byte),
              list_all-append test (take k bytes) pad ∙ rw (passes, all_replicate test (n - k) byte ok) refl,
              refl,
            ),
          );
          greatest = λ g b r xs whole t.
              let both : list_all test (g ++ r) ≡ true = ap (list_all test) t.2 ∙ t.1 in
              let mine : list_all test g ≡ true = front_all test g r both in
              let size : length g ≤ n = omega (arith, ap length t.2, t.0, length-append g r) in
              let there : take n bytes ≡ g ++ take (n - length g) b = ap (take n) whole ∙ take_past g b n size in
              let most = front_within test g (take (n - length g) b) mine in
              omega (arith, most, ap (prefix_len test) there, length-take-le k bytes fits);
        }

-- ---- numbers

pub record IsWide (w : Width) (limit : ℕ) : Type 0 where
  pub len : (n : ℕ) → length (to_be_bytes w n) ≡ byte_len w
  pub back : (bytes : List ℕ) → length bytes ≡ byte_len w → IsBytes bytes → to_be_bytes w (from_be_bytes w bytes) ≡ bytes
  pub again : (n : ℕ) → n < limit → from_be_bytes w (to_be_bytes w n) ≡ n
  pub below : (bytes : List ℕ) → IsBytes bytes → from_be_bytes w bytes < limit
  pub some : 0 < limit

pub wide32 : IsWide w32 (2 ^ 32)
wide32 = record {
  len = λ n. refl;
  back = λ bytes len fits. be_bytes_4 bytes _ len fits refl;
  again = λ n lt. from_be_bytes-to_be_bytes_4 n lt;
  below = λ bytes fits. omega (arith, fits 0, fits 1, fits 2, fits 3);
  some = omega arith;
}

pub wide64 : IsWide w64 (2 ^ 64)
wide64 = record {
  len = λ n. refl;
  back = λ bytes len fits. be_bytes_8 bytes _ len fits refl;
  again = λ n lt. from_be_bytes-to_be_bytes_8 n lt;
  below = λ bytes fits. omega (arith, fits 0, fits 1, fits 2, fits 3, fits 4, fits 5, fits 6, fits 7);
  some = omega arith;
}

abbrev pub Number : Width → ℕ → ℕ → List ℕ → Type 0
Number w limit n text = (n < limit) × (text ≡ to_be_bytes w n)

pub number_reads : (w : Width) (limit : ℕ) → IsWide w limit → Reads (Number w limit) (number_at w)
number_reads w limit wide = record {
  takes = λ bytes x fits e. takes bytes x fits (ltb (length bytes) (byte_len w)) refl e;
  again = λ n text rest t.
      let len = wide.len n in
      let long : ltb (length (to_be_bytes w n ++ rest)) (byte_len w) ≡ false = le-ltb _ _ (omega (arith, len, length-append (to_be_bytes w n) rest)) in
      ap (λ l. number_at w (l ++ rest)) t.1 ∙ rw (long, take_at (to_be_bytes w n) rest (byte_len w) len, drop_at (to_be_bytes w n) rest (byte_len w) len, wide.again n t.0) refl;
  stops = λ bytes left fits e. stops bytes left fits (ltb (length bytes) (byte_len w)) refl e;
  some = (0, to_be_bytes w 0, (wide.some, refl));
}
  where
    takes : (bytes : List ℕ) (x : ℕ × List ℕ) → IsBytes bytes → (b : Bool) → ltb (length bytes) (byte_len w) ≡ b
        → guarded {A = ℕ × List ℕ} b 0 (from_be_bytes w (take (byte_len w) bytes), drop (byte_len w) bytes) ≡ Ok x → (text : List ℕ) × Number w limit x.0 text × (bytes ≡ text ++ x.1)
    takes bytes x fits true is e = absurd (err_no_ok x 0 e)
    takes bytes x fits false is e =
        let front = take (byte_len w) bytes in
        let same = ok_is (from_be_bytes w front, drop (byte_len w) bytes) x e in
        let long : byte_len w ≤ length bytes = ltb-false _ _ is in
        let each : IsBytes front = taken_fits (byte_len w) bytes fits in (
          front,
          (subst (λ n. n < limit) (ap (λ p. p.0) same) (wide.below front each), sym (wide.back front (length-take-le (byte_len w) bytes long) each) ∙ ap (λ p. to_be_bytes w p.0) same),
          sym (take-append-drop (byte_len w) bytes) ∙ ap (λ p. front ++ p.1) same,
        )

    stops : (bytes : List ℕ) (left : ℕ) → IsBytes bytes → (b : Bool) → ltb (length bytes) (byte_len w) ≡ b
        → guarded {A = ℕ × List ℕ} b 0 (from_be_bytes w (take (byte_len w) bytes), drop (byte_len w) bytes) ≡ Err left → Stops (Number w limit) bytes left
    stops bytes left fits false is e = absurd (ok_no_err (from_be_bytes w (take (byte_len w) bytes), drop (byte_len w) bytes) left e)
    stops bytes left fits true is e =
        let short : length bytes < byte_len w = ltb-true _ _ is in
        let pad : List ℕ = replicate (byte_len w - length bytes) 0 in
        let whole : List ℕ = bytes ++ pad in
        let long : length whole ≡ byte_len w = omega (arith, short, length-append bytes pad, length-replicate {A = ℕ} (byte_len w - length bytes) 0) in
        let each : IsBytes whole = padded_fits bytes (byte_len w - length bytes) fits in record {
          good = bytes;
          bad = [];
          split = sym (append-nil bytes);
          left_is = err_is {A = ℕ × List ℕ} 0 left e;
          begins = (from_be_bytes w whole, pad, (wide.below whole each, sym (wide.back whole long each)));
          greatest = λ g b r a is_whole t. omega (arith, ap length is_whole, length-append g b);
        }
