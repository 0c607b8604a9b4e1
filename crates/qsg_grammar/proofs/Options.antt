-- one fault or another
use Rattle.std.proofs.Common.{◌≡◌, Option, Some, None, refl}
use Rattle.std.specs.Option.{option_or}

pub neither : {A : Type 0} (a b : Option A) → option_or a b ≡ None → (a ≡ None) × (b ≡ None)
neither None b e = (refl, e)
neither (Some x) b e = absurd cc

pub or_none : {A : Type 0} (a b : Option A) → a ≡ None → b ≡ None → option_or a b ≡ None
or_none a b e f = rw (e, f) refl

pub or_first : {A : Type 0} (a b : Option A) (x : A) → a ≡ Some x → option_or a b ≡ Some x
or_first a b x e = rw e refl

pub or_second : {A : Type 0} (a b o : Option A) → a ≡ None → b ≡ o → option_or a b ≡ o
or_second a b o e f = rw (e, f) refl
