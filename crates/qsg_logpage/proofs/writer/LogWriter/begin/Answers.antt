use Rattle.std.proofs.Common.{◌≡◌, ◌/◌, ap, sym, ◌∙◌, subst}
use Rattle.std.proofs.Common.{Option, None}
use Rattle.qsg_logpage.specs.Page.{page_at}
use Rattle.qsg_logpage.specs.Log.{Hand, LogState, AtNext, IsTied}
use Rattle.qsg_logpage.specs.Writer.{state_of}
use Rattle.qsg_logpage.proofs.writer.LogWriter.begin.Goals as goal

pub returns-clause-tied : goal.returns-clause-tied
returns-clause-tied c = λ keep bytes tied.
    let here = subst (λ (l : LogState). IsTied keep l bytes) (sym c.self.view_is) tied in
    let idle : (state_of c.self.inside).hand ≡ None = ap (λ (l : LogState). l.hand) c.self.view_is ∙ c.requires.idle in
    let size = c.self.inside.size in
    let next = c.self.inside.next.number in
    record {
      from = here.from;
      room = here.room;
      stands = here.stands;
      at_next = subst (λ (h : Option Hand). AtNext (next / size) h (page_at bytes size next)) idle here.at_next;
      later = here.later;
    }
