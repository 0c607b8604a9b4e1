-- faults that are absent
use Rattle.std.proofs.Common.{◌≡◌, Bool, true, false, cond, Option, Some, None, refl}
use Rattle.std.specs.Option.{option_or}
use Rattle.mqsc_define.specs.declared.faults.DefineFault.{DefineFault}

pub either_none : (a b : Option DefineFault) → option_or a b ≡ None → (a ≡ None) × (b ≡ None)
either_none None b e = (refl, e)
either_none (Some f) b e = absurd (cc)

pub second_none : (b : Bool) (f : DefineFault) (x : Option DefineFault) → cond b (Some f) x ≡ None → x ≡ None
second_none true f x e = absurd (cc)
second_none false f x e = e

pub first_none : (b : Bool) (f : DefineFault) (x : Option DefineFault) → cond b x (Some f) ≡ None → x ≡ None
first_none true f x e = e
first_none false f x e = absurd (cc)
