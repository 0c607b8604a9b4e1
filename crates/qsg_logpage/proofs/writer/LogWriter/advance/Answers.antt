use Rattle.std.proofs.Common.{◌+◌, List, length, Some, ap, sym, ◌∙◌, subst, arith}
use Rattle.std.proofs.Common.{None, drop}
use Rattle.qsg_logpage.specs.declared.step.Phase.TheVariants.{Fresh}
use Rattle.qsg_logpage.specs.declared.table.Reservation.{Reservation}
use Rattle.qsg_logpage.specs.Reserved.{total, pages_for}
use Rattle.qsg_logpage.specs.Writer.{IsRun}
use Rattle.qsg_logpage.proofs.Totals.{total-lowered, length-lowered, pages_for-lowered}
use Rattle.qsg_logpage.proofs.Fields.{last_page, more_pages}
use Rattle.qsg_logpage.proofs.writer.LogWriter.advance.Goals as goal

pub invariant_of-self-then-left-eq1 : goal.invariant_of-self-then-left-eq1
invariant_of-self-then-left-eq1 c =
    let fits = subst (IsRun c.self.inside.table) c.in-Some.is c.self.invariant.run in
    record {
      some = c.self.invariant.some;
      left = omega (arith, ap total c.lower.ensures, total-lowered c.in-Some.run'.unit c.self.inside.table (omega (arith, fits.0, fits.1)), c.self.invariant.left);
      few = omega (arith, ap (λ (l : List Reservation). length l) c.lower.ensures, length-lowered c.in-Some.run'.unit c.self.inside.table, c.self.invariant.few);
      run = tt;
    }

pub invariant_of-self-in-GateWritten : goal.invariant_of-self-in-GateWritten
invariant_of-self-in-GateWritten c =
    let fits = subst (IsRun c.self.inside.table) c.in-Some.is c.self.invariant.run in
    record {
      some = c.self.invariant.some;
      left = omega (arith, ap total c.lower.ensures, total-lowered c.in-Some.run'.unit c.self.inside.table (omega (arith, fits.0, fits.1)), c.self.invariant.left);
      few = omega (arith, ap (λ (l : List Reservation). length l) c.lower.ensures, length-lowered c.in-Some.run'.unit c.self.inside.table, c.self.invariant.few);
      run = (omega (arith, fits.0), omega (arith, fits.0, fits.1, ap (pages_for c.in-Some.run'.unit) c.lower.ensures, pages_for-lowered c.in-Some.run'.unit c.self.inside.table));
    }

pub returns-then-left-eq1-clause-advanced : goal.returns-then-left-eq1-clause-advanced
returns-then-left-eq1-clause-advanced c =
    ap (λ (l : List Reservation). record { size = c.self.inside.size; next = c.self.inside.next.number + 1; reserved = l; hand = None }) c.lower.ensures
    ∙ sym (last_page c.self.inside c.in-Some.run' c.args.self.now c.self.view_is c.in-Some.is c.self.invariant c.in-GateWritten.is (omega arith))

pub returns-else-left-eq1-clause-advanced : goal.returns-else-left-eq1-clause-advanced
returns-else-left-eq1-clause-advanced c =
    let fits = subst (IsRun c.self.inside.table) c.in-Some.is c.self.invariant.run in
    ap (λ (l : List Reservation). record { size = c.self.inside.size; next = c.self.inside.next.number + 1; reserved = l; hand = Some (record { unit = c.in-Some.run'.unit; pages = drop (c.in-Some.run'.at + 1) c.in-Some.run'.pages; phase = Fresh }) }) c.lower.ensures
    ∙ sym (more_pages c.self.inside c.in-Some.run' c.args.self.now c.self.view_is c.in-Some.is c.self.invariant c.in-GateWritten.is (omega (arith, fits.0)))
