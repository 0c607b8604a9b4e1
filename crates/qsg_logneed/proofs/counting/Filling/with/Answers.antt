use Rattle.std.proofs.Common.{◌≡◌, ◌-◌, sym, ap, ◌∙◌, arith}
use Rattle.qsg_logneed.specs.Filled.{with_record}
use Rattle.qsg_logneed.proofs.Places.{fits_is, none_is, new_pages}
use Rattle.qsg_logneed.proofs.counting.Filling.with.Goals as goal

pub returns-then-bytes-eq0-clause-value : goal.returns-then-bytes-eq0-clause-value
returns-then-bytes-eq0-clause-value c = sym (ap (with_record c.args.self) c.if-bytes-eq0.true ∙ none_is c.args.self)

pub returns-then-bytes-room-clause-value : goal.returns-then-bytes-room-clause-value
returns-then-bytes-room-clause-value c =
    let room : c.saturating_sub-room.result ≡ c.args.self.left - 3 = c.saturating_sub-room.ensures in
    (λ i. record { pages = c.args.self.pages; left = room i - c.args.bytes }) ∙ sym (fits_is c.args.self c.args.bytes (omega arith) (omega (arith, room)))

pub returns-clause-value : goal.returns-clause-value
returns-clause-value c = new_pages c.args.self c.args.bytes c.saturating_sub-room.result c.saturating_sub-room.ensures (omega arith)
