use Rattle.std.proofs.Common.{rules, ◌≡◌, ◌<◌, ℕ, List, length, sym, subst}
use Rattle.std.specs.Prelude.{IfOk}
use Rattle.std.proofs.lemmas.Result.{IfOk-weaker}
use Rattle.qsg_group.specs.Observers.{logged_ops}
use Rattle.qsg_unitlog.specs.Units.{run_pages}
use Rattle.qsg_unitlog.proofs.Logged.{run_some}
use Rattle.qsg_unitlog.proofs.cutting.cut_unit.Goals as goal

pub returns-clause-some : goal.returns-clause-some
returns-clause-some c =
    let exact : IfOk c.cut-2.result (λ pages. pages ≡ run_pages c.args.unit (logged_ops c.args.ops.now c.args.claims.now) c.args.structures) = search rules in
    IfOk-weaker c.cut-2.result (λ pages. pages ≡ run_pages c.args.unit (logged_ops c.args.ops.now c.args.claims.now) c.args.structures) (λ pages. 0 < length pages)
    (λ pages is. subst (λ (l : List (List ℕ)). 0 < length l) (sym is) (run_some c.args.unit (logged_ops c.args.ops.now c.args.claims.now) c.args.structures c.in_ok-texts.ensures.ranges)) exact
