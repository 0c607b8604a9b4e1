-- what isn't a value, and what isn't the end of a word
use Rattle.std.proofs.Common.{◌≡◌, ℕ, ◌+◌, ◌≤◌, Bool, true, false, not, ◌||◌, List, [], ◌∷◌, ◌++◌, length, Option, Some, None, inl, inr, refl, sym, ap, subst, ◌∙◌, arith, length-append}
use Rattle.std.proofs.lemmas.List.{append-nil}
use Rattle.mqsc_lex.specs.Texts.{is_blank, is_plain, is_apostrophe, BeginsOther, IsTextAt}
use Rattle.mqsc_lex.specs.Words.{IsAfterBlanks, IsClosed, IsEmptyInside, IsValueAt, EndsWord, IsWordsThen}
use Rattle.mqsc_lex.specs.Faults.{IsOpenInside, IsFaultAt, HasForm, Says}
use Rattle.mqsc_lex.specs.Reading.{IsCut, HasNoText}
use Rattle.mqsc_lex.specs.declared.faults.LexFault.TheVariants.{BadByte}
use Rattle.mqsc_lex.specs.declared.faults.LexError.{LexError}
use Rattle.mqsc_lex.specs.declared.faults.LexError.TheVariants as errors
use Rattle.mqsc_lex.specs.declared.words.Word.{Word}
use Rattle.mqsc_lex.specs.declared.words.Text.{Text}
use Rattle.mqsc_lex.proofs.Unique.{same_cut, same_text, text_begins, text_unblank, unclosed_or_text}
use Rattle.mqsc_lex.proofs.Extend.{Extends}

pub cut_short : (p : ℕ → Bool) (bytes front back : List ℕ) → IsCut p bytes front back → length back ≤ length bytes
cut_short p bytes front back cut = let n : length bytes ≡ length front + length back = ap length cut.split ∙ length-append front back in omega arith

-- What stands behind the blanks is what the reader finds there.
found : {P : List ℕ → Type 0} (bytes blanks front : List ℕ) → IsCut is_blank bytes blanks front → (a : IsAfterBlanks P bytes) → BeginsOther is_blank a.back → a.back ≡ front
found bytes blanks front cut a k = (same_cut is_blank a.blanks blanks a.back front a.blank cut.all k cut.ends (sym a.split ∙ cut.split)).1

neither : (s t : Bool) → s ≡ false → t ≡ false → (s || t) ≡ true → ⊥
neither s t e f h = cc

no_text_or_text : (q : Bool) (t bytes x : List ℕ) → HasNoText bytes → IsTextAt q t bytes x → ⊥
no_text_or_text q t bytes x (inl u) a = unclosed_or_text q t bytes x u a
no_text_or_text q t bytes x (inr (plain, quote)) a =
    let h = text_begins q t bytes x a in
    neither (is_apostrophe h.first) (is_plain h.first) (subst (BeginsOther is_apostrophe) h.is quote) (subst (BeginsOther is_plain) h.is plain) h.passes

no_close : (front : List ℕ) → ((r : List ℕ) × (front ≡ 41 ∷ r) → ⊥) → {inside blanks : List ℕ} → IsCut is_blank inside blanks front → IsEmptyInside inside → ⊥
no_close front other {inside} {blanks} cut (rest, a) = other (rest, sym (found inside blanks front cut a (subst (BeginsOther is_blank) (sym a.then) refl)) ∙ a.then)

pub open_none : (inside blanks front : List ℕ) → IsCut is_blank inside blanks front → HasNoText front → ((r : List ℕ) × (front ≡ 41 ∷ r) → ⊥) → IsOpenInside inside
open_none inside blanks front cut none other = record {
  not_text = λ v rest a.
      let e = found inside blanks front cut a (text_unblank v.quoted v.text a.back a.then.0 a.then.1) in
      no_text_or_text v.quoted v.text front a.then.0 none (subst (λ l. IsTextAt v.quoted v.text l a.then.0) e a.then.1);
  not_empty = no_close front other cut;
}

pub open_some : (inside blanks front after blanks' close : List ℕ) (q : Bool) (t : List ℕ) → IsCut is_blank inside blanks front → ((r : List ℕ) × (front ≡ 41 ∷ r) → ⊥)
    → IsTextAt q t front after → IsCut is_blank after blanks' close → ((r : List ℕ) × (close ≡ 41 ∷ r) → ⊥) → IsOpenInside inside
open_some inside blanks front after blanks' close q t cut other is cut' other' = record {
  not_text = λ v rest a.
      let e = found inside blanks front cut a (text_unblank v.quoted v.text a.back a.then.0 a.then.1) in
      let h = same_text v.quoted q v.text t front a.then.0 after (subst (λ l. IsTextAt v.quoted v.text l a.then.0) e a.then.1) is in
      no_close close other' cut' (rest, subst (IsAfterBlanks (IsClosed rest)) h.2 a.then.2);
  not_empty = no_close front other cut;
}

-- A word goes on with a byte that isn't its own.
pub fault_behind : (total start end : ℕ) (q : Bool) (t : List ℕ) (o : Option Text) (bytes behind rest : List ℕ) → IsTextAt q t bytes behind → IsValueAt o behind rest
    → start + length bytes ≡ total → end + length rest ≡ total → (EndsWord rest → ⊥) → IsFaultAt total (BadByte end) bytes
fault_behind total start end q t o bytes behind [] key value at stop ends = absurd (ends tt)
fault_behind total start end q t o bytes behind (b ∷ back) key value at stop ends = by (is_blank b) refl
  where
    by : (s : Bool) → is_blank b ≡ s → IsFaultAt total (BadByte end) bytes
    by true e = absurd (ends (ap not e))
    by false e = (b, back, stop, inr (record { start = start; end = end; key = t; key_quoted = q; value = o }, record { behind = behind; key = key; value = value; starts = at; ends = stop }, e))

pub says_form : (total : ℕ) (ws : List Word) (rest text : List ℕ) (e : LexError) → total ≡ length text → Extends total ws rest text → Says (λ f. IsFaultAt total f rest) e → Says (λ f. HasForm f text) e
says_form total ws rest text errors.NoMemory n so_far h = tt
says_form total ws rest text (errors.Fault f) n so_far h = (ws ++ [], subst (λ m. IsWordsThen (IsFaultAt m f) m (ws ++ []) text) n (so_far (Some f) [] h))

pub all_read : (total : ℕ) (ws : List Word) (rest text : List ℕ) → total ≡ length text → rest ≡ [] → Extends total ws rest text → IsWordsThen (λ back. back ≡ []) (length text) ws text
all_read total ws rest text n e so_far = subst (λ m. IsWordsThen (λ back. back ≡ []) m ws text) n (subst (λ l. IsWordsThen (λ back. back ≡ []) total l text) (append-nil ws) (so_far None [] e))
