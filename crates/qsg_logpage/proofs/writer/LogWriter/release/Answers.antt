use Rattle.std.proofs.Common.{◌≡◌, List, length, false, ap, sym, ◌∙◌, subst, arith}
use Rattle.qsg_logpage.specs.declared.table.Reservation.{Reservation}
use Rattle.qsg_logpage.specs.Reserved.{total, besides, pages_for}
use Rattle.qsg_logpage.specs.Log.{LogState, IsTied, has_run}
use Rattle.qsg_logpage.proofs.Totals.{total-besides-le, length-besides, pages_for-besides}
use Rattle.qsg_logpage.proofs.Fields.{run_kept, tied_reserved}
use Rattle.qsg_logpage.specs.Writer.{state_of}
use Rattle.qsg_logpage.proofs.writer.LogWriter.release.Goals as goal

pub invariant_of-self : goal.invariant_of-self
invariant_of-self c =
    let idle : has_run c.args.unit (state_of c.self.inside) ≡ false = subst (λ (l : LogState). has_run c.args.unit l ≡ false) (sym c.self.view_is) c.requires.idle in
    let now : besides c.args.unit c.self.inside.table ≡ c.remove.new.self = sym c.remove.ensures in
    record {
      some = c.self.invariant.some;
      left = omega (arith, ap total c.remove.ensures, total-besides-le c.args.unit c.self.inside.table, c.self.invariant.left);
      few = omega (arith, ap (λ (l : List Reservation). length l) c.remove.ensures, length-besides c.args.unit c.self.inside.table, c.self.invariant.few);
      run = run_kept c.self.inside.run c.args.unit c.self.inside.table c.remove.new.self idle
          (λ u apart. ap (pages_for u) c.remove.ensures ∙ pages_for-besides u c.args.unit c.self.inside.table apart) c.self.invariant.run;
    }

pub returns-clause-tied : goal.returns-clause-tied
returns-clause-tied c = λ keep bytes tied.
    let here = subst (λ (l : LogState). IsTied keep l bytes) (sym c.self.view_is) tied in
    tied_reserved keep (state_of c.self.inside) c.remove.new.self bytes
    (omega (arith, ap total c.remove.ensures, total-besides-le c.args.unit c.self.inside.table, here.room)) here
