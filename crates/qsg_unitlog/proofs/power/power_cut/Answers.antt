use Rattle.std.proofs.Common.{ℕ, ◌*◌, ◌%◌, sym, ap, ◌∙◌}
use Rattle.std.specs.Prelude.{slice_index}
use Rattle.qsg_disk.specs.Byte.{values}
use Rattle.qsg_logpage.proofs.Cuts.{cut_short}
use Rattle.qsg_unitlog.proofs.Gates.{page_decides, no_page}
use Rattle.qsg_unitlog.proofs.power.power_cut.Goals as goal

pub returns-in_default-clause-cut : goal.returns-in_default-clause-cut
returns-in_default-clause-cut g c = λ told keep tied. cut_short keep c.args.log.now _ _ c.in_hand.ensures.some c.in_hand.ensures.held tied (c.power_cut.ensures.cut told)

pub returns-clause-cut : goal.returns-clause-cut
returns-clause-cut g c = λ told keep tied. cut_short keep c.args.log.now _ _ c.in_hand.ensures.some c.in_hand.ensures.held tied (c.power_cut-gate.ensures.cut told)

pub returns-clause-whole : goal.returns-clause-whole
returns-clause-whole g c = λ told keep tied.
    c.is_left.ensures
    ∙ page_decides keep c.args.log.now (g.D.Disk.bytes c.args.device.now) (g.D.Disk.bytes c.power_cut-gate.new.self) c.in-Some.page c.power_cut-gate.result (sym c.in_hand.ensures.value ∙ c.in-Some.is) c.in_hand.ensures.held tied
    (c.power_cut-gate.ensures.cut told)
    (cut_short keep c.args.log.now _ _ c.in_hand.ensures.some c.in_hand.ensures.held tied (c.power_cut-gate.ensures.cut told))
    (c.power_cut-gate.ensures.answer told ∙ ap (λ (n : ℕ). slice_index (values (g.D.Disk.bytes c.power_cut-gate.new.self)) (4096 * (c.in-Some.page.page.number % n))) c.requires.size)

pub returns-in_default-clause-whole : goal.returns-in_default-clause-whole
returns-in_default-clause-whole g c = λ told keep tied.
    no_page keep c.args.log.now (g.D.Disk.bytes c.args.device.now) (g.D.Disk.bytes c.power_cut.new.self) (sym c.in_hand.ensures.value ∙ c.in_default.is) tied
    (cut_short keep c.args.log.now _ _ c.in_hand.ensures.some c.in_hand.ensures.held tied (c.power_cut.ensures.cut told))
