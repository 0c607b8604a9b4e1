use Rattle.std.proofs.Common.{◌≡◌, Some, sym, subst, ◌∙◌, arith}
use Rattle.qsg_lines.specs.Lines.{sign_of, EndsAt}
use Rattle.qsg_lines.proofs.Signs.{blank_line, sign_at_end, front_at_end, front_without}
use Rattle.qsg_lines.proofs.kinds.split_sign.Goals as goal

pub returns-then-end-eq0-clause-front : goal.returns-then-end-eq0-clause-front
returns-then-end-eq0-clause-front c =
    let none = blank_line c.args.line.now (subst (EndsAt c.args.line.now) c.if-end-eq0.true c.text_end-end.ensures) in
    sym (front_without c.args.line.now none)

pub returns-then-end-eq0-clause-sign : goal.returns-then-end-eq0-clause-sign
returns-then-end-eq0-clause-sign c =
    sym (blank_line c.args.line.now (subst (EndsAt c.args.line.now) c.if-end-eq0.true c.text_end-end.ensures))

pub returns-in-Some-clause-front : goal.returns-in-Some-clause-front
returns-in-Some-clause-front c =
    let sign : sign_of c.args.line.now ≡ Some c.in-Some.sign = sign_at_end _ _ c.text_end-end.ensures (omega arith) ∙ sym c.in-Some.ensures in
    sym (front_at_end _ _ c.in-Some.sign c.text_end-end.ensures (omega arith) sign)

pub returns-in-Some-clause-sign : goal.returns-in-Some-clause-sign
returns-in-Some-clause-sign c = sym (sign_at_end _ _ c.text_end-end.ensures (omega arith) ∙ sym c.in-Some.ensures)

pub returns-in-None-clause-front : goal.returns-in-None-clause-front
returns-in-None-clause-front c = sym (front_without _ (sign_at_end _ _ c.text_end-end.ensures (omega arith) ∙ sym c.in-None.ensures))

pub returns-in-None-clause-sign : goal.returns-in-None-clause-sign
returns-in-None-clause-sign c = sym (sign_at_end _ _ c.text_end-end.ensures (omega arith) ∙ sym c.in-None.ensures)
