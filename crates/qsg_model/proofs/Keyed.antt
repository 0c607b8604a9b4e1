-- messages by their keys
use Rattle.std.proofs.Common.{◌≡◌, ℕ, Bool, true, false, List, [], ◌∷◌, ◌++◌, refl, sym, ap, ◌∙◌, inl, inr, Some, None, cond}
use Rattle.std.specs.Prelude.{◌||◌}
use Rattle.std.proofs.lemmas.Bool.{cases_Bool}
use Rattle.qsg_msg.specs.declared.message.Message.{Message}
use Rattle.qsg_model.specs.History.{key, same_key, has_key}
use Rattle.qsg_model.specs.Past.{message_at, keys_of, or_else}

pub message_at-append : (k : ℕ × ℕ) (ms ns : List Message) → message_at k (ms ++ ns) ≡ or_else (message_at k ms) (message_at k ns)
message_at-append k [] ns = refl
message_at-append k (m ∷ ms) ns = by (same_key k (key m)) (message_at-append k ms ns)
  where
    by : (b : Bool) → message_at k (ms ++ ns) ≡ or_else (message_at k ms) (message_at k ns) → cond b (Some m) (message_at k (ms ++ ns)) ≡ or_else (cond b (Some m) (message_at k ms)) (message_at k ns)
    by true rest = refl
    by false rest = rest

pub message_at-none : (k : ℕ × ℕ) (ms : List Message) → has_key (keys_of ms) k ≡ false → message_at k ms ≡ None
message_at-none k [] none = refl
message_at-none k (m ∷ ms) none = by (same_key k (key m)) none (message_at-none k ms)
  where
    by : (b : Bool) → (b || has_key (keys_of ms) k) ≡ false → (has_key (keys_of ms) k ≡ false → message_at k ms ≡ None) → cond b (Some m) (message_at k ms) ≡ None
    by true none rest = absurd cc
    by false none rest = rest none

pub message_at-some : (k : ℕ × ℕ) (ms : List Message) → has_key (keys_of ms) k ≡ true → (m : Message) × (message_at k ms ≡ Some m)
message_at-some k [] has = absurd cc
message_at-some k (m ∷ ms) has = by (same_key k (key m)) has (message_at-some k ms)
  where
    by : (b : Bool) → (b || has_key (keys_of ms) k) ≡ true → (has_key (keys_of ms) k ≡ true → (x : Message) × (message_at k ms ≡ Some x)) → (x : Message) × (cond b (Some m) (message_at k ms) ≡ Some x)
    by true has rest = (m, refl)
    by false has rest = rest has

pub message_at-key : (k : ℕ × ℕ) (ms : List Message) (x : Message) → message_at k ms ≡ Some x → (same_key k (key x) ≡ true) × (has_key (keys_of ms) k ≡ true)
message_at-key k [] x found = absurd cc
message_at-key k (m ∷ ms) x found = by (same_key k (key m)) refl found (message_at-key k ms x)
  where
    by : (b : Bool) → same_key k (key m) ≡ b → cond b (Some m) (message_at k ms) ≡ Some x → (message_at k ms ≡ Some x → (same_key k (key x) ≡ true) × (has_key (keys_of ms) k ≡ true)) → (same_key k (key x) ≡ true) × ((same_key k (key m) || has_key (keys_of ms) k) ≡ true)
    by true is found rest = let e : m ≡ x = cc in (ap (λ (y : Message). same_key k (key y)) (sym e) ∙ is, ap (λ b. b || has_key (keys_of ms) k) is)
    by false is found rest = let r = rest found in (r.0, ap (λ b. b || has_key (keys_of ms) k) is ∙ r.1)

pub has_message : (k : ℕ × ℕ) (ms : List Message) → message_at k ms ≡ None → has_key (keys_of ms) k ≡ false
has_message k ms none = elim (cases_Bool (has_key (keys_of ms) k)) [
  | inl has ↦ let m = message_at-some k ms has in absurd cc
  | inr lacks ↦ lacks
]
