use Rattle.qsg_lines.proofs.Texts.{ok_is_text}
use Rattle.qsg_lines.proofs.items.is_text.Goals as goal

pub returns : goal.returns
returns c = rw c.is_ok.ensures.value (ok_is_text _ c.args.bytes.now _ _ c.from_utf8.ensures.cases)
