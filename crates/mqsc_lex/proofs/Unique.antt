-- Bytes are read in one way alone.
use Rattle.std.proofs.Common.{◌≡◌, ℕ, ◌<◌, Bool, true, false, not, cond, ◌&&◌, ◌||◌, List, [], ◌∷◌, ◌++◌, length, map, Option, Some, None, inl, inr, refl, sym, ap, subst, ◌∙◌, arith, append_assoc}
use Rattle.std.specs.List.{list_all}
use Rattle.std.specs.Char.{to_ascii_uppercase}
use Rattle.std.proofs.lemmas.Bool.Decides.{nat_tests}
use Rattle.mqsc_lex.specs.Texts.{is_blank, is_plain, is_apostrophe, AreAll, BeginsOther, doubled, IsTextAt, IsUnclosed}
use Rattle.mqsc_lex.specs.Words.{is_open, IsAfterBlanks, IsClosed, IsTextInside, IsEmptyInside, IsValueAt, IsWordAt, EndsWord, IsWordsThen}
use Rattle.mqsc_lex.specs.Faults.{is_parenthesis, StandsAt, IsOpenInside, IsFaultAt}
use Rattle.mqsc_lex.specs.declared.faults.LexFault.{LexFault}
use Rattle.mqsc_lex.specs.declared.faults.LexFault.TheVariants.{UnclosedText, UnclosedParen, EmptyValue, BadByte}
use Rattle.mqsc_lex.specs.declared.words.Word.{Word}
use Rattle.mqsc_lex.specs.declared.words.Text.{Text}
use Rattle.mqsc_lex.proofs.Extend.{Ending}

-- tests

pub both : (s t : Bool) → (s && t) ≡ true → (s ≡ true) × (t ≡ true)
both true true e = (refl, refl)
both true false e = absurd cc
both false t e = absurd cc

pub not-both : {t : Bool} → t ≡ true → t ≡ false → ⊥
not-both e f = absurd cc

pub apostrophe_is : (b : ℕ) → is_apostrophe b ≡ true → b ≡ 39
apostrophe_is b e = grind (arith, nat_tests)

apostrophe_not : (b : ℕ) → is_apostrophe b ≡ false → 39 ≡ b → ⊥
apostrophe_not b e h = not-both {t = true} refl (subst (λ z. is_apostrophe z ≡ false) (sym h) e)

cons : {A : Type 0} {a b : A} {c d : List A} → a ≡ b → c ≡ d → a ∷ c ≡ b ∷ d
cons e f = λ i. e i ∷ f i

-- as far as all pass

pub same_cut : (p : ℕ → Bool) (a b x y : List ℕ) → AreAll p a → AreAll p b → BeginsOther p x → BeginsOther p y → a ++ x ≡ b ++ y → (a ≡ b) × (x ≡ y)
same_cut p [] [] x y f g k l e = (refl, e)
same_cut p [] (b ∷ bs) x y f g k l e = absurd (not-both (both (p b) (list_all p bs) g).0 (subst (BeginsOther p) e k))
same_cut p (a ∷ as') [] x y f g k l e = absurd (not-both (both (p a) (list_all p as') f).0 (subst (BeginsOther p) (sym e) l))
same_cut p (a ∷ as') (b ∷ bs) x y f g k l e =
    let h : a ≡ b = cc in
    let t : as' ++ x ≡ bs ++ y = cc in
    let r = same_cut p as' bs x y (both (p a) (list_all p as') f).1 (both (p b) (list_all p bs) g).1 k l t in
    (cons h r.0, r.1)

-- quoted texts

pub same_quoted : (c d x y : List ℕ) → BeginsOther is_apostrophe x → BeginsOther is_apostrophe y → doubled c ++ 39 ∷ x ≡ doubled d ++ 39 ∷ y → (c ≡ d) × (x ≡ y)
same_quoted [] [] x y k l e = (refl, cc)
same_quoted [] (b ∷ d) x y k l e = by (is_apostrophe b) refl e
  where
    by : (t : Bool) → is_apostrophe b ≡ t → 39 ∷ x ≡ cond t (39 ∷ 39 ∷ doubled d) (b ∷ doubled d) ++ 39 ∷ y → ([] ≡ b ∷ d) × (x ≡ y)
    by true p e = let h : x ≡ 39 ∷ (doubled d ++ 39 ∷ y) = cc in absurd (not-both {t = true} refl (subst (BeginsOther is_apostrophe) h k))
    by false p e = let h : 39 ≡ b = cc in absurd (apostrophe_not b p h)
same_quoted (a ∷ c) [] x y k l e = by (is_apostrophe a) refl e
  where
    by : (t : Bool) → is_apostrophe a ≡ t → cond t (39 ∷ 39 ∷ doubled c) (a ∷ doubled c) ++ 39 ∷ x ≡ 39 ∷ y → (a ∷ c ≡ []) × (x ≡ y)
    by true p e = let h : y ≡ 39 ∷ (doubled c ++ 39 ∷ x) = cc in absurd (not-both {t = true} refl (subst (BeginsOther is_apostrophe) h l))
    by false p e = let h : 39 ≡ a = cc in absurd (apostrophe_not a p h)
same_quoted (a ∷ c) (b ∷ d) x y k l e = by (is_apostrophe a) (is_apostrophe b) refl refl e (λ h. same_quoted c d x y k l h)
  where
    by : (s t : Bool) → is_apostrophe a ≡ s → is_apostrophe b ≡ t → cond s (39 ∷ 39 ∷ doubled c) (a ∷ doubled c) ++ 39 ∷ x ≡ cond t (39 ∷ 39 ∷ doubled d) (b ∷ doubled d) ++ 39 ∷ y
        → (doubled c ++ 39 ∷ x ≡ doubled d ++ 39 ∷ y → (c ≡ d) × (x ≡ y)) → (a ∷ c ≡ b ∷ d) × (x ≡ y)
    by true true p q e r =
        let h : doubled c ++ 39 ∷ x ≡ doubled d ++ 39 ∷ y = cc in
        (cons (apostrophe_is a p ∙ sym (apostrophe_is b q)) (r h).0, (r h).1)
    by true false p q e r = let h : 39 ≡ b = cc in absurd (apostrophe_not b q h)
    by false true p q e r = let h : 39 ≡ a = cc in absurd (apostrophe_not a p h)
    by false false p q e r =
        let h : doubled c ++ 39 ∷ x ≡ doubled d ++ 39 ∷ y = cc in
        let f : a ≡ b = cc in
        (cons f (r h).0, (r h).1)

pub closed_or_not : (c d y : List ℕ) → BeginsOther is_apostrophe y → doubled c ≡ doubled d ++ 39 ∷ y → ⊥
closed_or_not [] [] y l e = absurd cc
closed_or_not [] (b ∷ d) y l e = by (is_apostrophe b) e
  where
    by : (t : Bool) → [] ≡ cond t (39 ∷ 39 ∷ doubled d) (b ∷ doubled d) ++ 39 ∷ y → ⊥
    by true e = absurd cc
    by false e = absurd cc
closed_or_not (a ∷ c) [] y l e = by (is_apostrophe a) refl e
  where
    by : (t : Bool) → is_apostrophe a ≡ t → cond t (39 ∷ 39 ∷ doubled c) (a ∷ doubled c) ≡ 39 ∷ y → ⊥
    by true p e = let h : y ≡ 39 ∷ doubled c = cc in not-both {t = true} refl (subst (BeginsOther is_apostrophe) h l)
    by false p e = let h : 39 ≡ a = cc in apostrophe_not a p h
closed_or_not (a ∷ c) (b ∷ d) y l e = by (is_apostrophe a) (is_apostrophe b) refl refl e (λ h. closed_or_not c d y l h)
  where
    by : (s t : Bool) → is_apostrophe a ≡ s → is_apostrophe b ≡ t → cond s (39 ∷ 39 ∷ doubled c) (a ∷ doubled c) ≡ cond t (39 ∷ 39 ∷ doubled d) (b ∷ doubled d) ++ 39 ∷ y
        → (doubled c ≡ doubled d ++ 39 ∷ y → ⊥) → ⊥
    by true true p q e r = let h : doubled c ≡ doubled d ++ 39 ∷ y = cc in r h
    by true false p q e r = let h : 39 ≡ b = cc in apostrophe_not b q h
    by false true p q e r = let h : 39 ≡ a = cc in apostrophe_not a p h
    by false false p q e r = let h : doubled c ≡ doubled d ++ 39 ∷ y = cc in r h

-- texts

pub quoted_bytes : (t bytes x : List ℕ) → IsTextAt true t bytes x → bytes ≡ 39 ∷ (doubled t ++ 39 ∷ x)
quoted_bytes t bytes x at = at.split ∙ ap (λ l. l ++ x) at.spelled ∙ ap (λ l. 39 ∷ l) (append_assoc (doubled t) (39 ∷ []) x)

-- a byte with which a text may begin
abbrev pub begins_text : ℕ → Bool
begins_text b = is_apostrophe b || is_plain b

pub record Begins (p : ℕ → Bool) (bytes : List ℕ) : Type 0 where
  pub first : ℕ
  pub others : List ℕ
  pub is : bytes ≡ first ∷ others
  pub passes : p first ≡ true

plain_begins : (spelling x : List ℕ) → 0 < length spelling → AreAll is_plain spelling → Begins is_plain (spelling ++ x)
plain_begins [] x some all = absurd (omega arith)
plain_begins (b ∷ bs) x some all = record { first = b; others = bs ++ x; is = refl; passes = (both (is_plain b) (list_all is_plain bs) all).0 }

pub text_begins : (q : Bool) (t bytes x : List ℕ) → IsTextAt q t bytes x → Begins begins_text bytes
text_begins true t bytes x at = record { first = 39; others = doubled t ++ 39 ∷ x; is = quoted_bytes t bytes x at; passes = refl }
text_begins false t bytes x at =
    let h = plain_begins at.spelling x at.spelled.0 at.spelled.1 in
    record { first = h.first; others = h.others; is = at.split ∙ h.is; passes = or-right (is_apostrophe h.first) (is_plain h.first) h.passes }
  where
    or-right : (s t : Bool) → t ≡ true → (s || t) ≡ true
    or-right true t e = refl
    or-right false t e = e

plain_or_quoted : (spelling x rest : List ℕ) → 0 < length spelling → AreAll is_plain spelling → spelling ++ x ≡ 39 ∷ rest → ⊥
plain_or_quoted [] x rest some all e = absurd (omega arith)
plain_or_quoted (b ∷ bs) x rest some all e =
    let h : b ≡ 39 = cc in
    not-both (subst (λ z. is_plain z ≡ true) h (both (is_plain b) (list_all is_plain bs) all).0) refl

pub same_text : (q r : Bool) (t u bytes x y : List ℕ) → IsTextAt q t bytes x → IsTextAt r u bytes y → (q ≡ r) × (t ≡ u) × (x ≡ y)
same_text true true t u bytes x y a b =
    let e : 39 ∷ (doubled t ++ 39 ∷ x) ≡ 39 ∷ (doubled u ++ 39 ∷ y) = sym (quoted_bytes t bytes x a) ∙ quoted_bytes u bytes y b in
    let f : doubled t ++ 39 ∷ x ≡ doubled u ++ 39 ∷ y = cc in
    let r = same_quoted t u x y a.ends b.ends f in
    (refl, r.0, r.1)
same_text false false t u bytes x y a b =
    let h = same_cut is_plain a.spelling b.spelling x y a.spelled.1 b.spelled.1 a.ends b.ends (sym a.split ∙ b.split) in
    (refl, a.spelled.2 ∙ ap (map to_ascii_uppercase) h.0 ∙ sym b.spelled.2, h.1)
same_text true false t u bytes x y a b = absurd (plain_or_quoted b.spelling y _ b.spelled.0 b.spelled.1 (sym b.split ∙ quoted_bytes t bytes x a))
same_text false true t u bytes x y a b = absurd (plain_or_quoted a.spelling x _ a.spelled.0 a.spelled.1 (sym a.split ∙ quoted_bytes u bytes y b))

pub unclosed_or_text : (q : Bool) (t bytes x : List ℕ) → IsUnclosed bytes → IsTextAt q t bytes x → ⊥
unclosed_or_text true t bytes x left at =
    let e : 39 ∷ doubled left.0 ≡ 39 ∷ (doubled t ++ 39 ∷ x) = sym left.1 ∙ quoted_bytes t bytes x at in
    let f : doubled left.0 ≡ doubled t ++ 39 ∷ x = cc in
    closed_or_not left.0 t x at.ends f
unclosed_or_text false t bytes x left at = plain_or_quoted at.spelling x _ at.spelled.0 at.spelled.1 (sym at.split ∙ left.1)

-- values

pub unblank : (b : ℕ) → begins_text b ≡ true → is_blank b ≡ false
unblank b e = grind (arith, nat_tests)

pub unparenthesis : (b : ℕ) → begins_text b ≡ true → is_parenthesis b ≡ false
unparenthesis b e = grind (arith, nat_tests)

pub begins_other : {p q : ℕ → Bool} (bytes : List ℕ) → ((b : ℕ) → p b ≡ true → q b ≡ false) → Begins p bytes → BeginsOther q bytes
begins_other {p} {q} bytes differ h = subst (BeginsOther q) (sym h.is) (differ h.first h.passes)

pub same_back : {P Q : List ℕ → Type 0} (bytes : List ℕ) (a : IsAfterBlanks P bytes) (b : IsAfterBlanks Q bytes) → BeginsOther is_blank a.back → BeginsOther is_blank b.back → a.back ≡ b.back
same_back bytes a b k l = (same_cut is_blank a.blanks b.blanks a.back b.back a.blank b.blank k l (sym a.split ∙ b.split)).1

pub same_close : (bytes x y : List ℕ) → IsAfterBlanks (IsClosed x) bytes → IsAfterBlanks (IsClosed y) bytes → x ≡ y
same_close bytes x y a b =
    let e = same_back bytes a b (subst (BeginsOther is_blank) (sym a.then) refl) (subst (BeginsOther is_blank) (sym b.then) refl) in
    let f : 41 ∷ x ≡ 41 ∷ y = sym a.then ∙ e ∙ b.then in
    cc

pub text_unblank : (q : Bool) (t bytes x : List ℕ) → IsTextAt q t bytes x → BeginsOther is_blank bytes
text_unblank q t bytes x at = begins_other bytes unblank (text_begins q t bytes x at)

pub same_inside : (v w : Text) (inside x y : List ℕ) → IsTextInside v inside x → IsTextInside w inside y → (v ≡ w) × (x ≡ y)
same_inside v w inside x y a b =
    let e = same_back inside a b (text_unblank v.quoted v.text a.back a.then.0 a.then.1) (text_unblank w.quoted w.text b.back b.then.0 b.then.1) in
    let h = same_text v.quoted w.quoted v.text w.text b.back a.then.0 b.then.0 (subst (λ l. IsTextAt v.quoted v.text l a.then.0) e a.then.1) b.then.1 in
    (λ i. record { text = h.1 i; quoted = h.0 i }, same_close b.then.0 x y (subst (IsAfterBlanks (IsClosed x)) h.2 a.then.2) b.then.2)

closes : (rest bytes : List ℕ) → bytes ≡ 41 ∷ rest → Begins begins_text bytes → ⊥
closes rest bytes e h =
    let f : 41 ≡ h.first = cc in
    not-both {t = true} refl (subst (λ z. is_parenthesis z ≡ false) (sym f) (unparenthesis h.first h.passes))

pub empty_or_text : (v : Text) (inside x : List ℕ) → IsEmptyInside inside → IsTextInside v inside x → ⊥
empty_or_text v inside x (rest, a) b =
    let e = same_back inside a b (subst (BeginsOther is_blank) (sym a.then) refl) (text_unblank v.quoted v.text b.back b.then.0 b.then.1) in
    closes rest b.back (sym e ∙ a.then) (text_begins v.quoted v.text b.back b.then.0 b.then.1)

not_open : (inside x behind : List ℕ) → behind ≡ x → BeginsOther is_open x → behind ≡ 40 ∷ inside → ⊥
not_open inside x behind e f g = not-both {t = true} refl (subst (BeginsOther is_open) (sym e ∙ g) f)

pub same_value : (o p : Option Text) (behind x y : List ℕ) → IsValueAt o behind x → IsValueAt p behind y → (o ≡ p) × (x ≡ y)
same_value None None behind x y a b = (refl, sym a.0 ∙ b.0)
same_value None (Some w) behind x y a b = absurd (not_open b.0 x behind a.0 a.1 b.1)
same_value (Some v) None behind x y a b = absurd (not_open a.0 y behind b.0 b.1 a.1)
same_value (Some v) (Some w) behind x y (i, e, a) (j, f, b) =
    let g : 40 ∷ i ≡ 40 ∷ j = sym e ∙ f in
    let h : i ≡ j = cc in
    let r = same_inside v w j x y (subst (λ l. IsTextInside v l x) h a) b in
    (ap Some r.0, r.1)

pub value_or_open : (o : Option Text) (inside behind x : List ℕ) → behind ≡ 40 ∷ inside → IsOpenInside inside → IsValueAt o behind x → ⊥
value_or_open None inside behind x e left a = not_open inside x behind a.0 a.1 e
value_or_open (Some v) inside behind x e left (i, f, a) =
    let g : 40 ∷ i ≡ 40 ∷ inside = sym f ∙ e in
    let h : i ≡ inside = cc in
    left.not_text v x (subst (λ l. IsTextInside v l x) h a)

pub value_or_empty : (o : Option Text) (inside behind x : List ℕ) → behind ≡ 40 ∷ inside → IsEmptyInside inside → IsValueAt o behind x → ⊥
value_or_empty None inside behind x e empty a = not_open inside x behind a.0 a.1 e
value_or_empty (Some v) inside behind x e empty (i, f, a) =
    let g : 40 ∷ i ≡ 40 ∷ inside = sym f ∙ e in
    let h : i ≡ inside = cc in
    empty_or_text v inside x empty (subst (λ l. IsTextInside v l x) h a)

-- words

pub same_word : (total : ℕ) (w v : Word) (bytes x y : List ℕ) → IsWordAt total w bytes x → IsWordAt total v bytes y → (w ≡ v) × (x ≡ y)
same_word total w v bytes x y a b =
    let k = same_text w.key_quoted v.key_quoted w.key v.key bytes a.behind b.behind a.key b.key in
    let r = same_value w.value v.value b.behind x y (subst (λ l. IsValueAt w.value l x) k.2 a.value) b.value in
    let s : w.start ≡ v.start = omega (arith, a.starts, b.starts) in
    let n : length x ≡ length y = ap length r.1 in
    let t : w.end ≡ v.end = omega (arith, a.ends, b.ends, n) in
    (λ i. record { start = s i; end = t i; key = k.1 i; key_quoted = k.0 i; value = r.0 i }, r.1)

-- faults

-- a fault behind a key
abbrev pub IsFaultBehind : ℕ → LexFault → List ℕ → Type 0
IsFaultBehind total (UnclosedText place) behind = ⊥
IsFaultBehind total (UnclosedParen place) behind = (inside : List ℕ) × (behind ≡ 40 ∷ inside) × StandsAt total place (40 ∷ inside) × IsOpenInside inside
IsFaultBehind total (EmptyValue place) behind = (inside : List ℕ) × (behind ≡ 40 ∷ inside) × StandsAt total place (40 ∷ inside) × IsEmptyInside inside
IsFaultBehind total (BadByte place) behind = (o : Option Text) × (b : ℕ) × (back : List ℕ) × IsValueAt o behind (b ∷ back) × StandsAt total place (b ∷ back) × (is_blank b ≡ false)

pub data Kind (total : ℕ) (fault : LexFault) (bytes : List ℕ) : Type 0 where
  unclosed : (place : ℕ) → fault ≡ UnclosedText place → StandsAt total place bytes → IsUnclosed bytes → Kind total fault bytes
  alone : (place b : ℕ) (back : List ℕ) → fault ≡ BadByte place → StandsAt total place bytes → bytes ≡ b ∷ back → is_parenthesis b ≡ true → Kind total fault bytes
  keyed : (q : Bool) (t behind : List ℕ) → IsTextAt q t bytes behind → IsFaultBehind total fault behind → Kind total fault bytes

pub kind_of : (total : ℕ) (f : LexFault) (bytes : List ℕ) → IsFaultAt total f bytes → Kind total f bytes
kind_of total (UnclosedText place) bytes (at, left) = unclosed place refl at left
kind_of total (UnclosedParen place) bytes (inside, at, (q, t, key), left) = keyed q t (40 ∷ inside) key (inside, refl, at, left)
kind_of total (EmptyValue place) bytes (inside, at, (q, t, key), empty) = keyed q t (40 ∷ inside) key (inside, refl, at, empty)
kind_of total (BadByte place) bytes (b, back, at, inl (e, p)) = alone place b back refl (subst (StandsAt total place) (sym e) at) e p
kind_of total (BadByte place) bytes (b, back, at, inr (w, word, p)) = keyed w.key_quoted w.key word.behind word.key (w.value, b, back, word.value, at, p)

same_place : (total p q : ℕ) (a b : List ℕ) → a ≡ b → StandsAt total p a → StandsAt total q b → p ≡ q
same_place total p q a b e f g = let n : length a ≡ length b = ap length e in omega (arith, f, g, n)

same_inside_bytes : (i j behind : List ℕ) → behind ≡ 40 ∷ i → behind ≡ 40 ∷ j → i ≡ j
same_inside_bytes i j behind e f = cc

same_behind : (total : ℕ) (f g : LexFault) (behind : List ℕ) → IsFaultBehind total f behind → IsFaultBehind total g behind → f ≡ g
same_behind total (UnclosedText p) g behind a b = absurd a
same_behind total (UnclosedParen p) (UnclosedText q) behind a b = absurd b
same_behind total (EmptyValue p) (UnclosedText q) behind a b = absurd b
same_behind total (BadByte p) (UnclosedText q) behind a b = absurd b
same_behind total (UnclosedParen p) (UnclosedParen q) behind (i, e, at, left) (j, f, at', left') = ap UnclosedParen (same_place total p q (40 ∷ i) (40 ∷ j) (sym e ∙ f) at at')
same_behind total (EmptyValue p) (EmptyValue q) behind (i, e, at, empty) (j, f, at', empty') = ap EmptyValue (same_place total p q (40 ∷ i) (40 ∷ j) (sym e ∙ f) at at')
same_behind total (BadByte p) (BadByte q) behind (o, b, back, v, at, x) (o', b', back', v', at', x') = ap BadByte (same_place total p q (b ∷ back) (b' ∷ back') (same_value o o' behind (b ∷ back) (b' ∷ back') v v').1 at at')
same_behind total (UnclosedParen p) (EmptyValue q) behind (i, e, at, left) (j, f, at', empty) = absurd (left.not_empty (subst IsEmptyInside (same_inside_bytes j i behind f e) empty))
same_behind total (EmptyValue p) (UnclosedParen q) behind (j, f, at', empty) (i, e, at, left) = absurd (left.not_empty (subst IsEmptyInside (same_inside_bytes j i behind f e) empty))
same_behind total (UnclosedParen p) (BadByte q) behind (i, e, at, left) (o, b, back, v, at', x) = absurd (value_or_open o i behind (b ∷ back) e left v)
same_behind total (BadByte q) (UnclosedParen p) behind (o, b, back, v, at', x) (i, e, at, left) = absurd (value_or_open o i behind (b ∷ back) e left v)
same_behind total (EmptyValue p) (BadByte q) behind (i, e, at, empty) (o, b, back, v, at', x) = absurd (value_or_empty o i behind (b ∷ back) e (empty) v)
same_behind total (BadByte q) (EmptyValue p) behind (o, b, back, v, at', x) (i, e, at, empty) = absurd (value_or_empty o i behind (b ∷ back) e (empty) v)

alone_or_text : (q : Bool) (t bytes x : List ℕ) (b : ℕ) (back : List ℕ) → bytes ≡ b ∷ back → is_parenthesis b ≡ true → IsTextAt q t bytes x → ⊥
alone_or_text q t bytes x b back e p at =
    let h = text_begins q t bytes x at in
    let k : h.first ≡ b = cons-head (sym h.is ∙ e) in
    not-both (subst (λ z. is_parenthesis z ≡ true) (sym k) p) (unparenthesis h.first h.passes)
  where
    cons-head : {a c : ℕ} {l m : List ℕ} → a ∷ l ≡ c ∷ m → a ≡ c
    cons-head e = cc

unclosed_or_alone : (bytes : List ℕ) (b : ℕ) (back : List ℕ) → IsUnclosed bytes → bytes ≡ b ∷ back → is_parenthesis b ≡ true → ⊥
unclosed_or_alone bytes b back left e p =
    let f : 39 ∷ doubled left.0 ≡ b ∷ back = sym left.1 ∙ e in
    let k : b ≡ 39 = cc in
    not-both (subst (λ z. is_parenthesis z ≡ true) k p) refl

same_kind : (total : ℕ) (f g : LexFault) (bytes : List ℕ) → Kind total f bytes → Kind total g bytes → f ≡ g
same_kind total f g bytes (unclosed p e at left) (unclosed q e' at' left') = e ∙ ap UnclosedText (same_place total p q bytes bytes refl at at') ∙ sym e'
same_kind total f g bytes (alone p b back e at h x) (alone q b' back' e' at' h' x') = e ∙ ap BadByte (same_place total p q bytes bytes refl at at') ∙ sym e'
same_kind total f g bytes (keyed q t behind key a) (keyed q' t' behind' key' a') =
    same_behind total f g behind' (subst (IsFaultBehind total f) (same_text q q' t t' bytes behind behind' key key').2 a) a'
same_kind total f g bytes (unclosed p e at left) (alone q b back e' at' h x) = absurd (unclosed_or_alone bytes b back left h x)
same_kind total f g bytes (alone q b back e' at' h x) (unclosed p e at left) = absurd (unclosed_or_alone bytes b back left h x)
same_kind total f g bytes (unclosed p e at left) (keyed q t behind key a) = absurd (unclosed_or_text q t bytes behind left key)
same_kind total f g bytes (keyed q t behind key a) (unclosed p e at left) = absurd (unclosed_or_text q t bytes behind left key)
same_kind total f g bytes (alone p b back e at h x) (keyed q t behind key a) = absurd (alone_or_text q t bytes behind b back h x key)
same_kind total f g bytes (keyed q t behind key a) (alone p b back e at h x) = absurd (alone_or_text q t bytes behind b back h x key)

pub same_fault : (total : ℕ) (f g : LexFault) (bytes : List ℕ) → IsFaultAt total f bytes → IsFaultAt total g bytes → f ≡ g
same_fault total f g bytes a b = same_kind total f g bytes (kind_of total f bytes a) (kind_of total g bytes b)

value_or_behind : (total : ℕ) (f : LexFault) (o : Option Text) (behind x : List ℕ) → IsValueAt o behind x → EndsWord x → IsFaultBehind total f behind → ⊥
value_or_behind total (UnclosedText p) o behind x v ends a = a
value_or_behind total (UnclosedParen p) o behind x v ends (i, e, at, left) = value_or_open o i behind x e left v
value_or_behind total (EmptyValue p) o behind x v ends (i, e, at, empty) = value_or_empty o i behind x e (empty) v
value_or_behind total (BadByte p) o behind x v ends (o', b, back, v', at, y) =
    let e = (same_value o o' behind x (b ∷ back) v v').1 in
    let k = subst EndsWord e ends in
    not-both (ap not y) k

pub word_or_fault : (total : ℕ) (w : Word) (f : LexFault) (bytes x : List ℕ) → IsWordAt total w bytes x → EndsWord x → IsFaultAt total f bytes → ⊥
word_or_fault total w f bytes x a ends b = by (kind_of total f bytes b)
  where
    by : Kind total f bytes → ⊥
    by (unclosed p e at left) = unclosed_or_text w.key_quoted w.key bytes a.behind left a.key
    by (alone p c back e at h y) = alone_or_text w.key_quoted w.key bytes a.behind c back h y a.key
    by (keyed q t behind key c) =
        let k = (same_text w.key_quoted q w.key t bytes a.behind behind a.key key).2 in
        value_or_behind total f w.value behind x (subst (λ l. IsValueAt w.value l x) k a.value) ends c

parenthesis-unblank : (b : ℕ) → is_parenthesis b ≡ true → is_blank b ≡ false
parenthesis-unblank b e = grind (arith, nat_tests)

pub fault_begins : (total : ℕ) (f : LexFault) (bytes : List ℕ) → IsFaultAt total f bytes → Begins (λ b. not (is_blank b)) bytes
fault_begins total f bytes a = by (kind_of total f bytes a)
  where
    of_text : (q : Bool) (t behind : List ℕ) → IsTextAt q t bytes behind → Begins (λ b. not (is_blank b)) bytes
    of_text q t behind key =
        let h = text_begins q t bytes behind key in
        record { first = h.first; others = h.others; is = h.is; passes = ap not (unblank h.first h.passes) }

    by : Kind total f bytes → Begins (λ b. not (is_blank b)) bytes
    by (unclosed p e at left) = record { first = 39; others = doubled left.0; is = left.1; passes = refl }
    by (alone p c back e at h y) = record { first = c; others = back; is = h; passes = ap not (parenthesis-unblank c y) }
    by (keyed q t behind key c) = of_text q t behind key

-- texts as a whole

not-true : (t : Bool) → not t ≡ true → t ≡ false
not-true true e = absurd cc
not-true false e = refl

ending_unblank : (total : ℕ) (e : Option LexFault) (back : List ℕ) → Ending total e back → BeginsOther is_blank back
ending_unblank total None back a = subst (BeginsOther is_blank) (sym a) tt
ending_unblank total (Some f) back a = begins_other back (λ b h. not-true (is_blank b) h) (fault_begins total f back a)

empty_or_begins : {p : ℕ → Bool} (bytes : List ℕ) → bytes ≡ [] → Begins p bytes → ⊥
empty_or_begins bytes e h = let f : [] ≡ h.first ∷ h.others = sym e ∙ h.is in absurd cc

same_ending : (total : ℕ) (e g : Option LexFault) (back : List ℕ) → Ending total e back → Ending total g back → e ≡ g
same_ending total None None back a b = refl
same_ending total None (Some g) back a b = absurd (empty_or_begins back a (fault_begins total g back b))
same_ending total (Some f) None back a b = absurd (empty_or_begins back b (fault_begins total f back a))
same_ending total (Some f) (Some g) back a b = ap Some (same_fault total f g back a b)

word_or_ending : (total : ℕ) (w : Word) (e : Option LexFault) (bytes x : List ℕ) → IsWordAt total w bytes x → EndsWord x → Ending total e bytes → ⊥
word_or_ending total w None bytes x a ends b = empty_or_begins bytes b (text_begins w.key_quoted w.key bytes a.behind a.key)
word_or_ending total w (Some f) bytes x a ends b = word_or_fault total w f bytes x a ends b

word_unblank : (total : ℕ) (w : Word) (bytes x : List ℕ) → IsWordAt total w bytes x → BeginsOther is_blank bytes
word_unblank total w bytes x a = text_unblank w.key_quoted w.key bytes a.behind a.key

pub same_reading : (total : ℕ) (ws vs : List Word) (e g : Option LexFault) (bytes : List ℕ) → IsWordsThen (Ending total e) total ws bytes → IsWordsThen (Ending total g) total vs bytes → (ws ≡ vs) × (e ≡ g)
same_reading total [] [] e g bytes a b =
    let k = same_back bytes a b (ending_unblank total e a.back a.then) (ending_unblank total g b.back b.then) in
    (refl, same_ending total e g b.back (subst (Ending total e) k a.then) b.then)
same_reading total [] (v ∷ vs) e g bytes a b =
    let k = same_back bytes a b (ending_unblank total e a.back a.then) (word_unblank total v b.back b.then.0 b.then.1) in
    absurd (word_or_ending total v e b.back b.then.0 b.then.1 b.then.2 (subst (Ending total e) k a.then))
same_reading total (w ∷ ws) [] e g bytes a b =
    let k = same_back bytes a b (word_unblank total w a.back a.then.0 a.then.1) (ending_unblank total g b.back b.then) in
    absurd (word_or_ending total w g a.back a.then.0 a.then.1 a.then.2 (subst (Ending total g) (sym k) b.then))
same_reading total (w ∷ ws) (v ∷ vs) e g bytes a b =
    let k = same_back bytes a b (word_unblank total w a.back a.then.0 a.then.1) (word_unblank total v b.back b.then.0 b.then.1) in
    let h = same_word total w v b.back a.then.0 b.then.0 (subst (λ l. IsWordAt total w l a.then.0) k a.then.1) b.then.1 in
    let r = same_reading total ws vs e g b.then.0 (subst (IsWordsThen (Ending total e) total ws) h.1 a.then.3) b.then.3 in
    (cons h.0 r.0, r.1)
