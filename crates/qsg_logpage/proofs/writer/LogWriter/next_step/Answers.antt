use Rattle.std.proofs.Common.{◌≡◌, ◌++◌, ap, sym, ◌∙◌, subst}
use Rattle.qsg_logpage.specs.Log.{LogState, IsTied, made_safe, pages_written}
use Rattle.qsg_logpage.proofs.Fields.{advanced-size, asked_ok, asked_err, made_ok}
use Rattle.qsg_logpage.proofs.Made.{pages_made}
use Rattle.qsg_logpage.proofs.writer.LogWriter.next_step.Goals as goal

pub returns-in_err-ask-clause-tied : goal.returns-in_err-ask-clause-tied
returns-in_err-ask-clause-tied g c = λ told keep tied. asked_err keep c.args.self.now c.ask.result _ _ _ c.in_err-ask.was (c.ask.ensures.asked told keep tied)

pub returns-in_err-ask-clause-earlier : goal.returns-in_err-ask-clause-earlier
returns-in_err-ask-clause-earlier g c = λ told keep tied. (c.ask.ensures.asked told keep tied).earlier

pub returns-clause-tied : goal.returns-clause-tied
returns-clause-tied g c = λ told keep tied. subst (λ (l : LogState). IsTied keep l (g.D.Disk.bytes c.ask.new.device)) (sym c.advance.ensures.advanced) (asked_ok keep c.args.self.now c.ask.result _ _ _ c.in_ok-ask.was (c.ask.ensures.asked told keep tied))

pub returns-clause-earlier : goal.returns-clause-earlier
returns-clause-earlier g c = λ told keep tied. (c.ask.ensures.asked told keep tied).earlier

pub returns-clause-size : goal.returns-clause-size
returns-clause-size g c = ap (λ (l : LogState). l.size) c.advance.ensures.advanced ∙ advanced-size c.args.self.now

pub returns-clause-pages : goal.returns-clause-pages
returns-clause-pages g c = λ told keep tied.
    subst (λ (l : LogState). pages_written keep l (g.D.Disk.bytes c.ask.new.device) ≡ pages_written keep c.args.self.now (g.D.Disk.bytes c.args.device.now) ++ made_safe c.args.self.now) (sym c.advance.ensures.advanced)
    (pages_made keep c.args.self.now _ _ tied (c.ask.ensures.asked told keep tied).earlier (made_ok c.args.self.now c.ask.result _ _ c.in_ok-ask.was (c.ask.ensures.made told keep tied)))
