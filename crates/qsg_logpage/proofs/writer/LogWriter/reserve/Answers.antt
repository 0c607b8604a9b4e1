use Rattle.std.proofs.Common.{◌≡◌, ◌<◌, List, length, false, ap, sym, ◌∙◌, subst, arith}
use Rattle.qsg_logpage.specs.declared.table.Reservation.{Reservation}
use Rattle.qsg_logpage.specs.Reserved.{total, besides, pages_for}
use Rattle.qsg_logpage.specs.Log.{LogState, IsTied, has_run, free}
use Rattle.qsg_logpage.proofs.Totals.{total-besides-le, total-push, length-push, pages_for-set}
use Rattle.qsg_logpage.proofs.Fields.{run_kept, tied_reserved}
use Rattle.qsg_logpage.specs.Writer.{state_of}
use Rattle.qsg_logpage.proofs.writer.LogWriter.reserve.Goals as goal

pub invariant_of-self : goal.invariant_of-self
invariant_of-self c =
    let idle : has_run c.args.unit (state_of c.self.inside) ≡ false = subst (λ (l : LogState). has_run c.args.unit l ≡ false) (sym c.self.view_is) c.requires.idle in
    let small : length (besides c.args.unit c.self.inside.table) < 8 = subst (λ (l : LogState). length (besides c.args.unit l.reserved) < 8) (sym c.self.view_is) c.requires.few in
    let found : c.free_for-free.result ≡ free c.args.unit c.args.keep.number (state_of c.self.inside) = c.free_for-free.ensures ∙ ap (free c.args.unit c.args.keep.number) (sym c.self.view_is) in
    let r : Reservation = record { unit = c.args.unit; pages = c.args.need } in
    record {
      some = c.self.invariant.some;
      left = omega (arith, ap total c.set.ensures, total-push (besides c.args.unit c.self.inside.table) r, total-besides-le c.args.unit c.self.inside.table, c.self.invariant.left, found, c.if-need-free.false);
      few = omega (arith, ap (λ (l : List Reservation). length l) c.set.ensures, length-push (besides c.args.unit c.self.inside.table) r, small);
      run = run_kept c.self.inside.run c.args.unit c.self.inside.table c.set.new.self idle
          (λ u apart. ap (pages_for u) c.set.ensures ∙ pages_for-set u c.args.unit c.args.need c.self.inside.table apart) c.self.invariant.run;
    }

pub returns-clause-tied : goal.returns-clause-tied
returns-clause-tied c = λ bytes tied.
    let here = subst (λ (l : LogState). IsTied c.args.keep.number l bytes) (sym c.self.view_is) tied in
    let found : c.free_for-free.result ≡ free c.args.unit c.args.keep.number (state_of c.self.inside) = c.free_for-free.ensures ∙ ap (free c.args.unit c.args.keep.number) (sym c.self.view_is) in
    let r : Reservation = record { unit = c.args.unit; pages = c.args.need } in
    tied_reserved c.args.keep.number (state_of c.self.inside) c.set.new.self bytes
    (omega (arith, ap total c.set.ensures, total-push (besides c.args.unit c.self.inside.table) r, total-besides-le c.args.unit c.self.inside.table, here.room, here.from, found, c.if-need-free.false)) here
