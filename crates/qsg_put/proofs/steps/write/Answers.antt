use Rattle.std.proofs.Common.{ap}
use Rattle.qsg_logs.specs.Kept.{log_in}
use Rattle.qsg_parts.specs.Owned.{Owned}
use Rattle.qsg_put.specs.Messages.{logged}
use Rattle.qsg_put.proofs.Pages.{less_after, fits_after}
use Rattle.qsg_put.proofs.steps.write.Goals as goal

pub fall_back-requires-clause-less : goal.fall_back-requires-clause-less
fall_back-requires-clause-less g c =
    less_after c.args.task (logged c.args.words.now c.args.terms) c.args.unit
    (log_in c.args.unit.member c.args.parts.now.logs) (log_in c.args.unit.member c.write_entry.new.parts.logs)
    (ap (λ x. log_in c.args.unit.member x.logs) c.in-Err.ensures.unchanged) c.requires.may.ready.reserved

pub add_record-requires-clause-fits : goal.add_record-requires-clause-fits
add_record-requires-clause-fits g c =
    fits_after c.args.task (logged c.args.words.now c.args.terms) c.logged.result c.args.unit
    (log_in c.args.unit.member c.args.parts.now.logs) (log_in c.args.unit.member c.write_entry.new.parts.logs)
    (ap (λ (x : Owned). log_in c.args.unit.member x.logs) c.in-Ok.ensures.written) c.logged.ensures.value c.requires.may.ready.reserved (c.what_is_reserved_fits.ensures (log_in c.args.unit.member c.write_entry.new.parts.logs) c.args.unit c.kept.ensures.within)
