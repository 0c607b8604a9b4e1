-- the maps' look-ups, and those of the lists that contracts see
use Rattle.std.proofs.Common.{◌≡◌, ℕ, Bool, cond, List, [], ◌∷◌, Option, Some, refl, ap}
use Rattle.std.specs.Prelude.{find, map, string_bytes, String}
use Rattle.std.specs.List.{AllByRecursion}
use Rattle.std.specs.Str.{bytes_eq}
use Rattle.std.specs.Map.{lookup}
use Rattle.std.specs.declared.alloc.Global.{Global}
use Rattle.qsg_objects.specs.Registry.{is_name}

step : {V : Type 0} (b b2 : Bool) → b ≡ b2 → (v : V) (o o2 : Option V) → o ≡ o2 → cond b (Some v) o ≡ cond b2 (Some v) o2
step b b2 same v o o2 rest = rw (same, rest) refl

-- a look-up by key is one by the name of the value, where each value stands under its name
pub looked_up : {V : Type 0} (name_of : V → List ℕ) (name : List ℕ) (es : List (String Global × V)) → AllByRecursion (λ e. string_bytes e.0 ≡ name_of e.1) es → lookup (λ (k : String Global). bytes_eq name (string_bytes k)) es ≡ find (λ v. is_name name (name_of v)) (map (λ e. e.1) es)
looked_up name_of name [] named = refl
looked_up name_of name (e ∷ es) named = step (bytes_eq name (string_bytes e.0)) (is_name name (name_of e.1)) (ap (λ k. bytes_eq name k) named.0) e.1 _ _ (looked_up name_of name es named.1)
