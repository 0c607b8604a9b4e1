use Rattle.std.proofs.Common.{◌≡◌, ap, sym, ◌∙◌, arith}
use Rattle.qsg_dataset.specs.Headers.{spelling}
use Rattle.qsg_dataset.proofs.Spelling.{read_back}
use Rattle.qsg_dataset.proofs.Blocks.{no_both}
use Rattle.qsg_dataset.proofs.header.saved_map.Goals as goal

pub returns-else-is_spelled-clause-none : goal.returns-else-is_spelled-clause-none
returns-else-is_spelled-clause-none c used size spelled =
    let made = c.read_map-map.ensures.size in
    let same : c.read_map-map.result ≡ used = read_back c.args.epoch c.args.rest.now used c.read_map-map.result (made ∙ sym size) (omega (arith, size, c.requires.blocks)) spelled (λ k low. c.read_map-map.ensures.bits k (omega (arith, size, low))) in
    let is = c.is_spelled.ensures.1 (spelled ∙ ap (spelling c.args.epoch) (sym same)) in
    no_both _ is c.if-is_spelled.false
