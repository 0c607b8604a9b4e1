use Rattle.std.proofs.Common.{◌∙◌, ℕ, map, sym, ap}
use Rattle.std.proofs.lemmas.Result.{on_ok_weaker}
use Rattle.qsg_disk.specs.Byte.{written, part}
use Rattle.qsg_logpage.specs.Page.{with_lap}
use Rattle.qsg_logpage.proofs.lap.write_body.Goals as goal

pub returns-clause-written : goal.returns-clause-written
returns-clause-written g c = on_ok_weaker c.write.result (λ put told.
    ap (λ (n : ℕ). part c.args.at n (g.D.Disk.bytes c.write.new.self)) (sym c.lapped.ensures.length)
    ∙ put told
    ∙ ap (map written) (c.lapped.ensures.body ∙ ap (with_lap c.args.lap) c.as_slice.ensures.bytes)) c.write.ensures.written
