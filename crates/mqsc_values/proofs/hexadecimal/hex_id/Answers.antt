use Rattle.std.proofs.Common.{◌∙◌, ap}
use Rattle.std.specs.Result.{result_ok}
use Rattle.mqsc_values.proofs.Pairs.{id_of-decode_sized}
use Rattle.mqsc_values.proofs.hexadecimal.hex_id.Goals as goal

pub returns : goal.returns
returns c = c.ok.ensures.value ∙ ap result_ok c.from_hex.ensures ∙ id_of-decode_sized c.args.text.now
