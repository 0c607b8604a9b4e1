-- errors that are handed on
use Rattle.std.proofs.Common.{◌≡◌, ap, sym, ◌∙◌, Result, Ok, Err}
use Rattle.std.specs.Prelude.{IsErrOf}

abbrev fault_or : {T E : Type 0} → Result T E → E → E
fault_or (Ok x) other = other
fault_or (Err e) other = e

pub carried : {T U E : Type 0} (r : Result T E) (y e f : E) → r ≡ Err y → y ≡ e → IsErrOf r f → IsErrOf {T = U} {E = E} (Err e) f
carried r y e f came same is = ap Err (sym same ∙ ap (λ z. fault_or z f) (sym came ∙ is))
