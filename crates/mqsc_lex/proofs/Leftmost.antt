-- The leftmost fault, of those by form and of bytes that have no place anywhere.
use Rattle.std.proofs.Common.{◌≡◌, ℕ, zero, suc, ◌+◌, ◌<◌, ◌≤◌, Bool, true, false, not, cond, ◌&&◌, List, [], ◌∷◌, ◌++◌, length, get_or, take, drop, Option, Some, None, inl, inr, refl, sym, ap, subst, ◌∙◌, arith, length-append, append_assoc}
use Rattle.std.specs.Prelude.{nat_lt, nat_le}
use Rattle.std.specs.List.{position, position_or_len, prefix_len, list_all}
use Rattle.std.proofs.lemmas.Bool.Decides.{nat_tests}
use Rattle.std.proofs.lemmas.List.Sums.{prefix_len_stops, prefix_len_passes}
use Rattle.mqsc_lex.specs.Texts.{is_bad, AreAll, doubled}
use Rattle.mqsc_lex.specs.Words.{IsValueAt, IsWordAt, IsWordsThen, AreWordsOf}
use Rattle.mqsc_lex.specs.Faults.{StandsAt, IsFaultAt, IsBadAt, HasForm, Stands, place_of, earlier, IsLeftmost}
use Rattle.mqsc_lex.specs.declared.faults.LexFault.{LexFault}
use Rattle.mqsc_lex.specs.declared.faults.LexFault.TheVariants.{UnclosedText, UnclosedParen, EmptyValue, BadByte}
use Rattle.mqsc_lex.specs.declared.words.Word.{Word}
use Rattle.mqsc_lex.specs.declared.words.Text.{Text}
use Rattle.mqsc_lex.proofs.Unique.{both, not-both, same_reading}

lt-of : (a b : ℕ) → nat_lt a b ≡ true → a < b
lt-of a b e = grind (arith, nat_tests)

le-of : (a b : ℕ) → nat_lt a b ≡ false → b ≤ a
le-of a b e = grind (arith, nat_tests)

le-if : (a b : ℕ) → nat_le a b ≡ true → a ≤ b
le-if a b e = grind (arith, nat_tests)

le-if-not : (a b : ℕ) → nat_le a b ≡ false → b ≤ a
le-if-not a b e = grind (arith, nat_tests)

-- the first bad byte

pub split_at : (text : List ℕ) (n : ℕ) → n < length text → text ≡ take n text ++ get_or text n 0 ∷ drop (suc n) text
split_at [] n lt = absurd (omega arith)
split_at (b ∷ text) zero lt = refl
split_at (b ∷ text) (suc n) lt = ap (λ l. b ∷ l) (split_at text n (omega arith))

pub at_front : (front back : List ℕ) (b : ℕ) → get_or (front ++ b ∷ back) (length front) 0 ≡ b
at_front [] back b = refl
at_front (a ∷ front) back b = at_front front back b

length-take : (text : List ℕ) (n : ℕ) → n ≤ length text → length (take n text) ≡ n
length-take text zero le = refl
length-take [] (suc n) le = absurd (omega arith)
length-take (b ∷ text) (suc n) le = ap suc (length-take text n (omega arith))

all_from : (p : ℕ → Bool) (text : List ℕ) → length text ≤ prefix_len p text → AreAll p text
all_from p [] le = refl
all_from p (b ∷ text) le = by (p b) le (λ h. all_from p text h)
  where
    by : (t : Bool) → suc (length text) ≤ cond t (1 + prefix_len p text) 0 → (length text ≤ prefix_len p text → AreAll p text) → (t && list_all p text) ≡ true
    by true h r = r (omega arith)
    by false h r = absurd (omega arith)

pub clean_from : (text : List ℕ) → position is_bad text ≡ None → AreAll (λ b. not (is_bad b)) text
clean_from text e = by (nat_lt (position_or_len is_bad text) (length text)) refl e
  where
    by : (t : Bool) → nat_lt (position_or_len is_bad text) (length text) ≡ t → cond t (Some (position_or_len is_bad text)) None ≡ None → AreAll (λ b. not (is_bad b)) text
    by true h k = absurd cc
    by false h k = all_from (λ b. not (is_bad b)) text (le-of (position_or_len is_bad text) (length text) h)

not-false : (t : Bool) → not t ≡ false → t ≡ true
not-false true e = refl
not-false false e = absurd cc

not-true : (t : Bool) → not t ≡ true → t ≡ false
not-true true e = absurd cc
not-true false e = refl

order : (a b : ℕ) → (b < a → ⊥) → a ≤ b
order zero b f = omega arith
order (suc a) zero f = absurd (f (omega arith))
order (suc a) (suc b) f = let r = order a b (λ lt. f (omega arith)) in omega arith

pub bad_from : (text : List ℕ) (at : ℕ) → position is_bad text ≡ Some at → IsBadAt at text × ((q : ℕ) → IsBadAt q text → at ≤ q)
bad_from text at e = by (position_or_len is_bad text) refl (nat_lt (position_or_len is_bad text) (length text)) refl e
  where
    first : (q : ℕ) → IsBadAt q text → (q < position_or_len is_bad text) → ⊥
    first q (front, b, back, split, bad, place) lt =
        let k = prefix_len_passes (λ b. not (is_bad b)) text q 0 lt in
        let h : get_or text q 0 ≡ b = (λ i. get_or (split i) (place i) 0) ∙ at_front front back b in
        not-both (subst (λ z. not (is_bad z) ≡ true) h k) (ap not bad)

    stops : (n : ℕ) → position_or_len is_bad text ≡ n → n < length text → is_bad (get_or text n 0) ≡ true
    stops n e lt =
        subst (λ m. is_bad (get_or text m 0) ≡ true) e
        (not-false (is_bad (get_or text (position_or_len is_bad text) 0)) (prefix_len_stops (λ b. not (is_bad b)) text 0 (subst (λ m. m < length text) (sym e) lt)))

    by : (n : ℕ) → position_or_len is_bad text ≡ n → (t : Bool) → nat_lt n (length text) ≡ t → cond t (Some n) None ≡ Some at → IsBadAt at text × ((q : ℕ) → IsBadAt q text → at ≤ q)
    by n f true h k =
        let m : n ≡ at = cc in
        let lt = lt-of n (length text) h in
        subst (λ p. IsBadAt p text × ((q : ℕ) → IsBadAt q text → p ≤ q)) m (
          (take n text, get_or text n 0, drop (suc n) text, split_at text n lt, stops n f lt, sym (length-take text n (omega arith))),
          λ q h. order n q (λ less. first q h (subst (λ p. q < p) (sym f) less)),
        )
    by n f false h k = absurd cc

not_clean : (text : List ℕ) (q : ℕ) → AreAll (λ b. not (is_bad b)) text → IsBadAt q text → ⊥
not_clean text q all (front, b, back, split, bad, place) = by front (subst (AreAll (λ b. not (is_bad b))) split all)
  where
    by : (front : List ℕ) → AreAll (λ b. not (is_bad b)) (front ++ b ∷ back) → ⊥
    by [] h = not-both bad (not-true (is_bad b) (both (not (is_bad b)) (list_all (λ b. not (is_bad b)) back) h).0)
    by (a ∷ front) h = by front (both (not (is_bad a)) (list_all (λ b. not (is_bad b)) (front ++ b ∷ back)) h).1

-- what stands

pub of_form : (text : List ℕ) (g : LexFault) → HasForm g text → Stands text g
of_form text (UnclosedText p) h = h
of_form text (UnclosedParen p) h = h
of_form text (EmptyValue p) h = h
of_form text (BadByte p) h = inl h

pub data Way (text : List ℕ) (g : LexFault) : Type 0 where
  form : HasForm g text → Way text g
  byte : (p : ℕ) → g ≡ BadByte p → IsBadAt p text → Way text g

pub way_of : (text : List ℕ) (g : LexFault) → Stands text g → Way text g
way_of text (UnclosedText p) h = form h
way_of text (UnclosedParen p) h = form h
way_of text (EmptyValue p) h = form h
way_of text (BadByte p) (inl h) = form h
way_of text (BadByte p) (inr h) = byte p refl h

pub one_form : (text : List ℕ) (f g : LexFault) → HasForm f text → HasForm g text → f ≡ g
one_form text f g (ws, a) (vs, b) = let h = (same_reading (length text) ws vs (Some f) (Some g) text a b).1 in cc

pub form_or_words : (text : List ℕ) (f : LexFault) (words : List Word) → HasForm f text → IsWordsThen (λ back. back ≡ []) (length text) words text → ⊥
form_or_words text f words (ws, a) b = let h = (same_reading (length text) ws words (Some f) None text a b).1 in absurd cc

-- no byte is bad
pub leftmost_form : (text : List ℕ) (f : LexFault) → HasForm f text → position is_bad text ≡ None → IsLeftmost f text
leftmost_form text f h e = record { stands = of_form text f h; first = λ g s. by g (way_of text g s) }
  where
    by : (g : LexFault) → Way text g → place_of f ≤ place_of g
    by g (form k) = let p = ap place_of (one_form text f g h k) in omega arith
    by g (byte p k bad) = absurd (not_clean text p (clean_from text e) bad)

-- the form is right
pub leftmost_byte : (text : List ℕ) (at : ℕ) (words : List Word) → IsWordsThen (λ back. back ≡ []) (length text) words text → position is_bad text ≡ Some at → IsLeftmost (BadByte at) text
leftmost_byte text at words h e = record { stands = inr (bad_from text at e).0; first = λ g s. by g (way_of text g s) }
  where
    by : (g : LexFault) → Way text g → at ≤ place_of g
    by g (form k) = absurd (form_or_words text g words k h)
    by g (byte p k bad) = let o = (bad_from text at e).1 p bad in let q : place_of g ≡ p = ap place_of k in omega arith

-- neither is
pub leftmost_both : (text : List ℕ) (at : ℕ) (f : LexFault) → HasForm f text → position is_bad text ≡ Some at → IsLeftmost (earlier (Some at) f) text
leftmost_both text at f h e = by (nat_le at (place_of f)) refl
  where
    before : at ≤ place_of f → (g : LexFault) → Way text g → at ≤ place_of g
    before le g (form k) = let p = ap place_of (one_form text f g h k) in omega arith
    before le g (byte p k bad) = let o = (bad_from text at e).1 p bad in let q : place_of g ≡ p = ap place_of k in omega arith

    after : place_of f ≤ at → (g : LexFault) → Way text g → place_of f ≤ place_of g
    after le g (form k) = let p = ap place_of (one_form text f g h k) in omega arith
    after le g (byte p k bad) = let o = (bad_from text at e).1 p bad in let q : place_of g ≡ p = ap place_of k in omega arith

    by : (t : Bool) → nat_le at (place_of f) ≡ t → IsLeftmost (cond t (BadByte at) f) text
    by true k = record { stands = inr (bad_from text at e).0; first = λ g s. before (le-if at (place_of f) k) g (way_of text g s) }
    by false k = record { stands = of_form text f h; first = λ g s. after (le-if-not at (place_of f) k) g (way_of text g s) }

-- words or a fault

pub same_words : (text : List ℕ) (ws vs : List Word) → AreWordsOf ws text → AreWordsOf vs text → ws ≡ vs
same_words text ws vs a b = (same_reading (length text) ws vs None None text a.form b.form).0

pub words_or_leftmost : (text : List ℕ) (ws : List Word) (f : LexFault) → AreWordsOf ws text → IsLeftmost f text → ⊥
words_or_leftmost text ws f a b = by (way_of text f b.stands)
  where
    by : Way text f → ⊥
    by (form h) = form_or_words text f ws h a.form
    by (byte p k bad) = not_clean text p a.clean bad

-- A fault by form other than BadByte doesn't stand at a bad byte.

record Splits (total : ℕ) (f : LexFault) (bytes : List ℕ) : Type 0 where
  pub front : List ℕ
  pub b : ℕ
  pub back : List ℕ
  pub split : bytes ≡ front ++ b ∷ back
  pub stands : StandsAt total (place_of f) (b ∷ back)
  pub good : is_bad b ≡ false

fault_splits : (total : ℕ) (f : LexFault) (bytes : List ℕ) → IsFaultAt total f bytes → ((p : ℕ) → f ≡ BadByte p → ⊥) → Splits total f bytes
fault_splits total (UnclosedText p) bytes (at, (text, e)) other = record { front = []; b = 39; back = doubled text; split = e; stands = subst (StandsAt total p) e at; good = refl }
fault_splits total (UnclosedParen p) bytes (inside, at, (q, t, key), left) other = record { front = key.spelling; b = 40; back = inside; split = key.split; stands = at; good = refl }
fault_splits total (EmptyValue p) bytes (inside, at, (q, t, key), empty) other = record { front = key.spelling; b = 40; back = inside; split = key.split; stands = at; good = refl }
fault_splits total (BadByte p) bytes h other = absurd (other p refl)

-- what stands before the rest
abbrev pub IsBehind : List ℕ → List ℕ → Type 0
IsBehind rest bytes = (front : List ℕ) × (bytes ≡ front ++ rest)

onto : (a bytes back rest : List ℕ) → bytes ≡ a ++ back → IsBehind rest back → IsBehind rest bytes
onto a bytes back rest e (front, f) = (a ++ front, e ∙ ap (λ l. a ++ l) f ∙ sym (append_assoc a front rest))

value_behind : (o : Option Text) (behind rest : List ℕ) → IsValueAt o behind rest → IsBehind rest behind
value_behind None behind rest a = ([], a.0)
value_behind (Some v) behind rest (inside, e, a) =
    onto (40 ∷ []) behind inside rest e (onto a.blanks inside a.back rest a.split (onto a.then.1.spelling a.back a.then.0 rest a.then.1.split (onto a.then.2.blanks a.then.0 a.then.2.back rest a.then.2.split (41 ∷ [], a.then.2.then))))

word_behind : (total : ℕ) (w : Word) (bytes rest : List ℕ) → IsWordAt total w bytes rest → IsBehind rest bytes
word_behind total w bytes rest a = onto a.key.spelling bytes a.behind rest a.key.split (value_behind w.value a.behind rest a.value)

form_splits : (total : ℕ) (f : LexFault) (ws : List Word) (bytes : List ℕ) → IsWordsThen (IsFaultAt total f) total ws bytes → ((p : ℕ) → f ≡ BadByte p → ⊥) → Splits total f bytes
form_splits total f [] bytes a other = past a.blanks bytes a.back a.split (fault_splits total f a.back a.then other)
  where
    past : (blanks bytes back : List ℕ) → bytes ≡ blanks ++ back → Splits total f back → Splits total f bytes
    past blanks bytes back e s = record { front = blanks ++ s.front; b = s.b; back = s.back; split = e ∙ ap (λ l. blanks ++ l) s.split ∙ sym (append_assoc blanks s.front (s.b ∷ s.back)); stands = s.stands; good = s.good }
form_splits total f (w ∷ ws) bytes a other = past (onto a.blanks bytes a.back a.then.0 a.split (word_behind total w a.back a.then.0 a.then.1)) (form_splits total f ws a.then.0 a.then.3 other)
  where
    past : IsBehind a.then.0 bytes → Splits total f a.then.0 → Splits total f bytes
    past (front, e) s = record { front = front ++ s.front; b = s.b; back = s.back; split = e ∙ ap (λ l. front ++ l) s.split ∙ sym (append_assoc front s.front (s.b ∷ s.back)); stands = s.stands; good = s.good }

form_or_byte : (text : List ℕ) (f : LexFault) (q : ℕ) → HasForm f text → ((p : ℕ) → f ≡ BadByte p → ⊥) → IsBadAt q text → place_of f ≡ q → ⊥
form_or_byte text f q (ws, a) other (front, b, back, split, bad, place) e =
    let s = form_splits (length text) f ws text a other in
    let n = length-append s.front (s.b ∷ s.back) in
    let m = ap length s.split in
    let st : place_of f + length (s.b ∷ s.back) ≡ length text = s.stands in
    let k : length s.front ≡ q = omega (arith, n, m, st, e) in
    let one : get_or text q 0 ≡ s.b = (λ i. get_or (s.split i) (sym k i) 0) ∙ at_front s.front s.back s.b in
    let two : get_or text q 0 ≡ b = (λ i. get_or (split i) (place i) 0) ∙ at_front front back b in
    not-both bad (subst (λ z. is_bad z ≡ false) (sym one ∙ two) s.good)

mixed : (text : List ℕ) (f : LexFault) (q : ℕ) → HasForm f text → IsBadAt q text → place_of f ≡ q → f ≡ BadByte q
mixed text (BadByte p) q h bad e = ap BadByte e
mixed text (UnclosedText p) q h bad e = absurd (form_or_byte text (UnclosedText p) q h (λ r k. absurd cc) bad e)
mixed text (UnclosedParen p) q h bad e = absurd (form_or_byte text (UnclosedParen p) q h (λ r k. absurd cc) bad e)
mixed text (EmptyValue p) q h bad e = absurd (form_or_byte text (EmptyValue p) q h (λ r k. absurd cc) bad e)

pub same_leftmost : (text : List ℕ) (f g : LexFault) → IsLeftmost f text → IsLeftmost g text → f ≡ g
same_leftmost text f g a b = by (way_of text f a.stands) (way_of text g b.stands)
  where
    same : place_of f ≡ place_of g
    same = let p = a.first g b.stands in let q = b.first f a.stands in omega arith

    by : Way text f → Way text g → f ≡ g
    by (form h) (form k) = one_form text f g h k
    by (form h) (byte q e bad) = mixed text f q h bad (same ∙ ap place_of e) ∙ sym e
    by (byte p e bad) (form k) = e ∙ sym (mixed text g p k bad (sym same ∙ ap place_of e))
    by (byte p e bad) (byte q f' bad') = e ∙ ap BadByte (ap place_of (sym e) ∙ same ∙ ap place_of f') ∙ sym f'

pub words_are : (text : List ℕ) (ws vs : List Word) → IsWordsThen (λ back. back ≡ []) (length text) ws text → position is_bad text ≡ None → vs ≡ ws → AreWordsOf vs text
words_are text ws vs h e k = subst (λ l. AreWordsOf l text) (sym k) (record { form = h; clean = clean_from text e })

pub leftmost_either : (text : List ℕ) (o : Option ℕ) (f : LexFault) → o ≡ position is_bad text → HasForm f text → IsLeftmost (earlier o f) text
leftmost_either text None f e h = leftmost_form text f h (sym e)
leftmost_either text (Some at) f e h = leftmost_both text at f h (sym e)
