use Rattle.std.proofs.Common.{◌≡◌, Bool, true, false, refl}
use Rattle.qsg_num.specs.Names.{is_queue_name}
use Rattle.mqsc_values.proofs.Texts.{IsUtf8-queue_name}
use Rattle.mqsc_values.proofs.names.is_queue_name.Goals as goal

not_true : (b : Bool) → (b ≡ true → ⊥) → false ≡ b
not_true true never = absurd (never refl)
not_true false never = refl

pub returns-in-Err : goal.returns-in-Err
returns-in-Err c = not_true (is_queue_name c.args.text.now) (λ named. c.in-Err.ensures.cases.0 (IsUtf8-queue_name c.args.text.now named))
