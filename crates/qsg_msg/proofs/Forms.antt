-- Forms of fields, and reading functions that read exactly them. A form says which bytes spell which value.
use Rattle.std.proofs.Common.{◌≡◌, ℕ, suc, ◌+◌, ◌-◌, ◌<◌, ◌≤◌, List, [], ◌∷◌, ◌++◌, length, take, drop, get_or, Result, Ok, Err, refl, sym, ap, subst, ◌∙◌, append_assoc, arith, ◌⊎◌, inl, inr}
use Rattle.std.proofs.lemmas.List.{take_at, length-append, take-append-drop, length-take}
use Rattle.qsg_msg.specs.Prefix.{IsFaultPlace}
use Rattle.qsg_msg.specs.Reading.{◌>>=◌}

abbrev pub IsBytes : List ℕ → Type 0
IsBytes bytes = (i : ℕ) → get_or bytes i 0 < 256

abbrev pub Read : Type 0 → Type 0
Read A = List ℕ → Result (A × List ℕ) ℕ

abbrev pub done : {A : Type 0} → A → Result A ℕ
done x = Ok x

abbrev pub stopped : {A : Type 0} → ℕ → Result A ℕ
stopped n = Err n

pub ok_is : {A : Type 0} (x y : A) → done x ≡ done y → x ≡ y
ok_is x y e = cc

pub err_is : {A : Type 0} (m n : ℕ) → stopped {A = A} m ≡ stopped n → m ≡ n
err_is m n e = cc

pub ok_no_err : {A : Type 0} (x : A) (n : ℕ) → done x ≡ stopped n → ⊥
ok_no_err x n e = cc

pub err_no_ok : {A : Type 0} (x : A) (n : ℕ) → stopped n ≡ done x → ⊥
err_no_ok x n e = cc

pub rest_fits : (x r bytes : List ℕ) → IsBytes bytes → bytes ≡ x ++ r → IsBytes r
rest_fits [] r bytes fits e = subst IsBytes e fits
rest_fits (b ∷ x) r bytes fits e = rest_fits x r (x ++ r) (λ i. (subst IsBytes e fits) (suc i)) refl

-- reading stops where so many bytes are left: what is before them begins a spelling, and no longer front does
pub record Stops {A : Type 0} (F : A → List ℕ → Type 0) (bytes : List ℕ) (left : ℕ) : Type 0 where
  pub good : List ℕ
  pub bad : List ℕ
  pub split : bytes ≡ good ++ bad
  pub left_is : length bad ≡ left
  pub begins : (a : A) × (rest : List ℕ) × F a (good ++ rest)
  pub greatest : (g b r : List ℕ) (a : A) → bytes ≡ g ++ b → F a (g ++ r) → length g ≤ length good

-- a function reads exactly the values of a form
pub record Reads {A : Type 0} (F : A → List ℕ → Type 0) (f : List ℕ → Result (A × List ℕ) ℕ) : Type 0 where
  pub takes : (bytes : List ℕ) (x : A × List ℕ) → IsBytes bytes → f bytes ≡ Ok x → (text : List ℕ) × F x.0 text × (bytes ≡ text ++ x.1)
  pub again : (a : A) (text rest : List ℕ) → F a text → f (text ++ rest) ≡ Ok (a, rest)
  pub stops : (bytes : List ℕ) (left : ℕ) → IsBytes bytes → f bytes ≡ Err left → Stops F bytes left
  pub some : (a : A) × (text : List ℕ) × F a text

-- one value after another, whose form may depend on the first
abbrev pub Then : {A C : Type 0} → (A → List ℕ → Type 0) → (A → C → List ℕ → Type 0) → C → List ℕ → Type 0
Then {A} F G c text = (a : A) × (x : List ℕ) × (y : List ℕ) × F a x × G a c y × (text ≡ x ++ y)

-- this value, and no bytes
abbrev pub Just : {A : Type 0} → A → A → List ℕ → Type 0
Just a b text = (b ≡ a) × (text ≡ [])

-- of two fronts of a list one begins the other
pub two_fronts : (g b x r : List ℕ) → g ++ b ≡ x ++ r → ((z : List ℕ) × (x ≡ g ++ z)) ⊎ ((z : List ℕ) × (g ≡ x ++ z) × (r ≡ z ++ b))
two_fronts [] b x r e = inl (x, refl)
two_fronts (c ∷ g) b [] r e = inr (c ∷ g, refl, sym e)
two_fronts (c ∷ g) b (d ∷ x) r e =
    let heads : c ≡ d = ap (λ l. get_or l 0 0) e in
    let tails : g ++ b ≡ x ++ r = ap (drop 1) e in
    elim (two_fronts g b x r tails) [
      | inl h ↦ inl (h.0, λ i. sym heads i ∷ h.1 i)
      | inr h ↦ inr (h.0, (λ i. heads i ∷ h.1 i), h.2)
    ]

pub just_reads : {A : Type 0} (a : A) → Reads (Just a) (λ bytes. Ok (a, bytes))
just_reads a = record {
  takes = λ bytes x fits e. ([], (ap (λ p. p.0) (sym (ok_is (a, bytes) x e)), refl), ap (λ p. p.1) (ok_is (a, bytes) x e));
  again = λ b text rest is. λ i. Ok (sym is.0 i, is.1 i ++ rest);
  stops = λ bytes left fits e. absurd (ok_no_err (a, bytes) left e);
  some = (a, [], (refl, refl));
}

-- a form that says the same is read by the same function
pub reads_as : {A : Type 0} (F G : A → List ℕ → Type 0) (f : List ℕ → Result (A × List ℕ) ℕ) → Reads F f → ((a : A) (text : List ℕ) → F a text → G a text) → ((a : A) (text : List ℕ) → G a text → F a text) → Reads G f
reads_as F G f r to from = record {
  takes = λ bytes x fits e. let t = r.takes bytes x fits e in (t.0, to x.0 t.0 t.1, t.2);
  again = λ a text rest is. r.again a text rest (from a text is);
  stops = λ bytes left fits e. let s = r.stops bytes left fits e in record {
    good = s.good;
    bad = s.bad;
    split = s.split;
    left_is = s.left_is;
    begins = (s.begins.0, s.begins.1, to s.begins.0 (s.good ++ s.begins.1) s.begins.2);
    greatest = λ g b rest a is spelled. s.greatest g b rest a is (from a (g ++ rest) spelled);
  };
  some = (r.some.0, r.some.1, to r.some.0 r.some.1 r.some.2);
}

-- ---- one field after another

stops_first : {A C : Type 0} (F : A → List ℕ → Type 0) (G : A → C → List ℕ → Type 0) (f : List ℕ → Result (A × List ℕ) ℕ) (g : A → List ℕ → Result (C × List ℕ) ℕ)
    → Reads F f → ((a : A) (x : List ℕ) → F a x → Reads (G a) (g a)) → (bytes : List ℕ) (left : ℕ) → f bytes ≡ Err left → Stops F bytes left → Stops (Then F G) bytes left
stops_first F G f g r more bytes left e s =
    let first = s.begins in
    let next = (more first.0 (s.good ++ first.1) first.2).some in record {
      good = s.good;
      bad = s.bad;
      split = s.split;
      left_is = s.left_is;
      begins = (next.0, first.1 ++ next.1, (first.0, s.good ++ first.1, next.1, first.2, next.2, sym (append_assoc s.good first.1 next.1)));
      greatest = λ front b rest c is t. elim (two_fronts front rest t.1 t.2 t.5) [
        | inl h ↦ s.greatest front b h.0 t.0 is (subst (F t.0) h.1 t.3)
        | inr h ↦ absurd (ok_no_err (t.0, h.0 ++ b) left (sym (r.again t.0 t.1 (h.0 ++ b) t.3) ∙ ap f (sym (is ∙ ap (λ l. l ++ b) h.1 ∙ append_assoc t.1 h.0 b)) ∙ e))
      ];
    }

stops_second : {A C : Type 0} (F : A → List ℕ → Type 0) (G : A → C → List ℕ → Type 0) (f : List ℕ → Result (A × List ℕ) ℕ)
    → Reads F f → (bytes rest : List ℕ) (left : ℕ) (a : A) (x : List ℕ) → F a x → bytes ≡ x ++ rest → Stops (G a) rest left → Stops (Then F G) bytes left
stops_second {A = A} F G f r bytes rest left a x first is s = record {
  good = x ++ s.good;
  bad = s.bad;
  split = is ∙ ap (λ l. x ++ l) s.split ∙ sym (append_assoc x s.good s.bad);
  left_is = s.left_is;
  begins = (s.begins.0, s.begins.1, (a, x, s.good ++ s.begins.1, first, s.begins.2, append_assoc x s.good s.begins.1));
  greatest = λ front b more c whole t. elim (two_fronts front b x rest (sym whole ∙ is)) [
    | inl h ↦ omega (arith, ap length h.1, length-append front h.0, length-append x s.good)
    | inr h ↦
        let both : x ++ (h.0 ++ more) ≡ t.1 ++ t.2 = sym (append_assoc x h.0 more) ∙ ap (λ l. l ++ more) (sym h.1) ∙ t.5 in
        let same : (a, h.0 ++ more) ≡ (t.0, t.2) = ok_is (a, h.0 ++ more) (t.0, t.2) (sym (r.again a x (h.0 ++ more) first) ∙ ap f both ∙ r.again t.0 t.1 t.2 t.3) in
        let next : G a c (h.0 ++ more) = subst (λ (p : A × List ℕ). G p.0 c p.1) (sym same) t.4 in
        let within = s.greatest h.0 b more c h.2 next in
        omega (arith, ap length h.1, length-append x h.0, length-append x s.good, within)
  ];
}

takes_then : {A C : Type 0} (F : A → List ℕ → Type 0) (G : A → C → List ℕ → Type 0) (f : List ℕ → Result (A × List ℕ) ℕ) (g : A → List ℕ → Result (C × List ℕ) ℕ)
    → Reads F f → ((a : A) (x : List ℕ) → F a x → Reads (G a) (g a)) → (bytes : List ℕ) (x : C × List ℕ) → IsBytes bytes
    → (r : Result (A × List ℕ) ℕ) → f bytes ≡ r → (r >>= λ p. g p.0 p.1) ≡ Ok x → (text : List ℕ) × Then F G x.0 text × (bytes ≡ text ++ x.1)
takes_then F G f g first more bytes x fits (Err n) e made = absurd (err_no_ok x n made)
takes_then F G f g first more bytes x fits (Ok p) e made =
    let t = first.takes bytes p fits e in
    let u = (more p.0 t.0 t.1).takes p.1 x (rest_fits t.0 p.1 bytes fits t.2) made in
    (t.0 ++ u.0, (p.0, t.0, u.0, t.1, u.1, refl), t.2 ∙ ap (λ l. t.0 ++ l) u.2 ∙ sym (append_assoc t.0 u.0 x.1))

stops_then : {A C : Type 0} (F : A → List ℕ → Type 0) (G : A → C → List ℕ → Type 0) (f : List ℕ → Result (A × List ℕ) ℕ) (g : A → List ℕ → Result (C × List ℕ) ℕ)
    → Reads F f → ((a : A) (x : List ℕ) → F a x → Reads (G a) (g a)) → (bytes : List ℕ) (left : ℕ) → IsBytes bytes
    → (r : Result (A × List ℕ) ℕ) → f bytes ≡ r → (r >>= λ p. g p.0 p.1) ≡ Err left → Stops (Then F G) bytes left
stops_then F G f g first more bytes left fits (Err n) e made =
    let same = err_is n left made in
    let here : f bytes ≡ Err left = e ∙ ap stopped same in
    stops_first F G f g first more bytes left here (first.stops bytes left fits here)
stops_then F G f g first more bytes left fits (Ok p) e made =
    let t = first.takes bytes p fits e in
    let s = (more p.0 t.0 t.1).stops p.1 left (rest_fits t.0 p.1 bytes fits t.2) made in
    stops_second F G f first bytes p.1 left p.0 t.0 t.1 t.2 s

pub reads_then : {A C : Type 0} (F : A → List ℕ → Type 0) (G : A → C → List ℕ → Type 0) (f : List ℕ → Result (A × List ℕ) ℕ) (g : A → List ℕ → Result (C × List ℕ) ℕ)
    → Reads F f → ((a : A) (x : List ℕ) → F a x → Reads (G a) (g a)) → Reads (Then F G) (λ bytes. f bytes >>= λ p. g p.0 p.1)
reads_then F G f g first more = record {
  takes = λ bytes x fits e. takes_then F G f g first more bytes x fits (f bytes) refl e;
  again = λ c text rest t.
      ap (λ l. f l >>= λ p. g p.0 p.1) (ap (λ l. l ++ rest) t.5 ∙ append_assoc t.1 t.2 rest)
      ∙ ap (λ r. r >>= λ p. g p.0 p.1) (first.again t.0 t.1 (t.2 ++ rest) t.3)
      ∙ (more t.0 t.1 t.3).again c t.2 rest t.4;
  stops = λ bytes left fits e. stops_then F G f g first more bytes left fits (f bytes) refl e;
  some =
      let next = (more first.some.0 first.some.1 first.some.2).some in
      (next.0, first.some.1 ++ next.1, (first.some.0, first.some.1, next.1, first.some.2, next.2, refl));
}

-- ---- what readers tell

-- no spelling begins another
pub apart : {A : Type 0} (F : A → List ℕ → Type 0) (f : List ℕ → Result (A × List ℕ) ℕ) → Reads F f → (a b : A) (x y r s : List ℕ) → F a x → F b y → x ++ r ≡ y ++ s → (a ≡ b) × (r ≡ s)
apart F f reads a b x y r s fa fb e =
    let same = ok_is (a, r) (b, s) (sym (reads.again a x r fa) ∙ ap f e ∙ reads.again b y s fb) in
    (ap (λ p. p.0) same, ap (λ p. p.1) same)

-- where a reader stops, no spelling begins the bytes
pub begins_none : {A : Type 0} (F : A → List ℕ → Type 0) (f : List ℕ → Result (A × List ℕ) ℕ) → Reads F f → (bytes : List ℕ) (left : ℕ) → f bytes ≡ Err left → (a : A) (text rest : List ℕ) → F a text → bytes ≡ text ++ rest → ⊥
begins_none F f reads bytes left e a text rest is whole = ok_no_err (a, rest) left (sym (reads.again a text rest is) ∙ ap f (sym whole) ∙ e)

-- the place where a reader stops
pub fault_place : {A : Type 0} (F : A → List ℕ → Type 0) (bytes : List ℕ) (left at : ℕ) → Stops F bytes left → at ≡ length bytes - left → IsFaultPlace (λ text. (a : A) × F a text) bytes at
fault_place {A} F bytes left at s at_is =
    let long : length bytes ≡ length s.good + length s.bad = ap length s.split ∙ length-append s.good s.bad in
    let here : length s.good ≡ at = omega (arith, at_is, s.left_is, long) in
    let front : take at bytes ≡ s.good = ap (take at) s.split ∙ take_at s.good s.bad at here in record {
      within = omega (arith, here, long);
      begins = (s.begins.1, (s.begins.0, subst (λ l. F s.begins.0 (l ++ s.begins.1)) (sym front) s.begins.2));
      greatest = λ n fits b.
          let most = s.greatest (take n bytes) (drop n bytes) b.0 b.1.0 (sym (take-append-drop n bytes)) b.1.1 in
          omega (arith, here, most, length_taken n bytes fits);
    }
  where
    length_taken : (n : ℕ) (l : List ℕ) → n ≤ length l → length (take n l) ≡ n
    length_taken n l fits = omega (arith, length-append (take n l) (drop n l), length-take n l)
