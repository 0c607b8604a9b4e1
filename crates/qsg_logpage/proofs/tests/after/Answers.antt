use Rattle.std.proofs.Common.{◌≡◌, ◌++◌, [], ◌∷◌, Option, None, Some, IsSome, is_some, true, false, true≢false, refl, ap, sym, ◌∙◌, arith}
use Rattle.std.specs.Prelude.{Result, Ok, Err, OnOk, is_err}
use Rattle.qsg_num.specs.declared.ids.UnitName.{UnitName}
use Rattle.qsg_num.specs.declared.seats.Member.TheVariants.{One}
use Rattle.qsg_logpage.specs.Reserved.{besides, pages_for}
use Rattle.qsg_logpage.specs.Log.{Hand, LogState, in_hand_of}
use Rattle.qsg_logpage.proofs.tests.after.Goals as goal

done : {T E P : Type 0} (r : Result T E) → is_err r ≡ false → OnOk r P → P
done (Ok x) is p = p
done (Err e) is p = absurd (cc)

abbrev unit : UnitName
unit = record { member = One; incarnation = record { number = 1 }; seq = 1 }

pub begin-requires-clause-idle : goal.begin-requires-clause-idle
begin-requires-clause-idle c =
    let after = done c.reserve.result (sym c.is_err.ensures.value ∙ c.if-is_err.false) c.reserve.ensures.reserved in
    ap (λ (l : LogState). l.hand) after ∙ ap (λ (l : LogState). l.hand) c.new-log.ensures

pub begin-requires-clause-some : goal.begin-requires-clause-some
begin-requires-clause-some c = omega (arith, c.in_ok-two_pages.ensures)

pub begin-requires-clause-fits : goal.begin-requires-clause-fits
begin-requires-clause-fits c =
    let after = done c.reserve.result (sym c.is_err.ensures.value ∙ c.if-is_err.false) c.reserve.ensures.reserved in
    let two : pages_for unit c.reserve.new.self.reserved ≡ 2 =
    ap (λ (l : LogState). pages_for unit l.reserved) after
    ∙ ap (λ (l : LogState). pages_for unit (besides unit l.reserved ++ record { unit = unit; pages = 2 } ∷ [])) c.new-log.ensures in
    omega (arith, two, c.in_ok-two_pages.ensures)

is_held : (log : LogState) (hand : Option Hand) → is_some (in_hand_of (record log { hand = hand })) ≡ true → IsSome hand
is_held log None is = absurd (true≢false (sym is))
is_held log (Some hand) is = refl

pub next_step-requires-clause-in_hand : goal.next_step-requires-clause-in_hand
next_step-requires-clause-in_hand c = is_held c.loop-step.log c.loop-step.log.hand (ap is_some (sym c.in_hand.ensures.value) ∙ c.if-is_none.ensures)

pub loop-step-init : goal.loop-step-init
loop-step-init c =
    let after = done c.reserve.result (sym c.is_err.ensures.value ∙ c.if-is_err.false) c.reserve.ensures.reserved in
    ap (λ (l : LogState). l.size) c.begin.ensures.begun ∙ ap (λ (l : LogState). l.size) after ∙ ap (λ (l : LogState). l.size) c.new-log.ensures
