use Rattle.std.proofs.Common.{◌∙◌}
use Rattle.mqsc_values.proofs.Texts.{IsUtf8-name}
use Rattle.mqsc_values.proofs.names.copy_name.Goals as goal

pub returns : goal.returns
returns c = c.from_string.ensures ∙ c.in_ok-from_utf8_lossy.ensures.ok (IsUtf8-name c.args.text.now c.requires)
