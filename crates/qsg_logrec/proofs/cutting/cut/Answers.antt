use Rattle.std.proofs.Common.{rules, ◌≡◌, sym, subst}
use Rattle.qsg_logrec.specs.Cutting.{run_pieces, cut_bodies, Fit, HaveRecords}
use Rattle.qsg_logrec.proofs.Cuts.{run_fits, cut_joins}
use Rattle.qsg_logrec.proofs.cutting.cut.Goals as goal

pub page_run-requires : goal.page_run-requires
page_run-requires c =
    let pieces : c.deref.result.now ≡ run_pieces 4088 c.args.records.now = search rules in
    subst (Fit 4088) (sym pieces) (run_fits 4088 c.args.records.now)

pub returns-clause-joins : goal.returns-clause-joins
unfolding cut_bodies
returns-clause-joins c some =
    let exact : c.from_vec.result ≡ cut_bodies c.args.records.now = search rules in
    subst (HaveRecords c.args.records.now) (sym exact) (cut_joins c.args.records.now some)
