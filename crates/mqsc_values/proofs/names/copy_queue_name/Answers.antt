use Rattle.std.proofs.Common.{◌∙◌}
use Rattle.mqsc_values.proofs.Texts.{IsUtf8-queue_name}
use Rattle.mqsc_values.proofs.names.copy_queue_name.Goals as goal

pub unreachable-requires : goal.unreachable-requires
unreachable-requires c =
    let same = c.from_string-name.ensures ∙ c.in_ok-from_utf8_lossy.ensures.ok (IsUtf8-queue_name c.args.text.now c.requires) in
    let named = c.in-Err.ensures.named.1 (rw same c.requires) in absurd cc

pub returns : goal.returns
returns c = c.in-Ok.ensures.ok ∙ c.from_string-name.ensures ∙ c.in_ok-from_utf8_lossy.ensures.ok (IsUtf8-queue_name c.args.text.now c.requires)
