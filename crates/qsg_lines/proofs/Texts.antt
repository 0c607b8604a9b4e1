-- Bytes that are a text.
use Rattle.std.proofs.Common.{◌≡◌, ℕ, false, List, Result, Ok, Err, sym}
use Rattle.std.specs.Result.{MatchResult, is_ok}
use Rattle.std.specs.Str.{IsUtf8, is_utf8}
use Rattle.std.proofs.lemmas.Bool.{false_from_ne_true}
use Rattle.std.proofs.lemmas.Str.{IsUtf8-from_is_utf8, is_utf8-from_IsUtf8}

pub no_text : (bs : List ℕ) → ¬ (IsUtf8 bs) → is_utf8 bs ≡ false
no_text bs h = false_from_ne_true _ (λ t. h (IsUtf8-from_is_utf8 bs t))

pub ok_is_text : {X E : Type 0} → (r : Result X E) (bs : List ℕ) (P : X → Type 0) (Q : E → Type 0) → MatchResult r (λ x. P x × IsUtf8 bs) (λ e. ¬ (IsUtf8 bs) × Q e) → is_ok r ≡ is_utf8 bs
ok_is_text (Ok x) bs P Q h = sym (is_utf8-from_IsUtf8 bs h.1)
ok_is_text (Err e) bs P Q h = sym (no_text bs h.0)
