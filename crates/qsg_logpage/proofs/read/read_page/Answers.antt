use Rattle.std.proofs.Common.{◌≡◌, ◌*◌, ◌/◌, ◌%◌, ℕ, ap, ◌∙◌, subst}
use Rattle.std.specs.Prelude.{IfSome}
use Rattle.qsg_disk.specs.Byte.{values, part}
use Rattle.qsg_logpage.specs.Page.{page_at, page_read, lap_of}
use Rattle.qsg_logpage.proofs.read.read_page.Goals as goal

pub returns-clause-lap : goal.returns-clause-lap
returns-clause-lap g c = subst (λ (n : ℕ). IfSome c.opened.result (λ body. lap_of body ≡ c.args.no.number / (n / 4096))) c.size-size.ensures c.opened.ensures.lap

pub returns-clause-page : goal.returns-clause-page
returns-clause-page g c told =
    let device = g.D.Disk.bytes c.args.device.now in
    let number = c.args.no.number in
    let is : c.fill.new.bytes.items ≡ values (page_at device (c.size-size.result / 4096) number) =
    c.in_ok-fill.ensures.read told ∙ ap (λ (n : ℕ). values (part (4096 * (number % (c.size-size.result / 4096))) n device)) c.requires.room in
    subst (λ (n : ℕ). c.opened.result ≡ page_read (number / (n / 4096)) (values (page_at device (n / 4096) number))) c.size-size.ensures
    (c.opened.ensures.page ∙ ap (page_read (number / (c.size-size.result / 4096))) is)
