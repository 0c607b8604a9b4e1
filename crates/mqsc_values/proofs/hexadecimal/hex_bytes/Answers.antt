use Rattle.std.proofs.Common.{◌∙◌, ap, sym, Some, inl, inr}
use Rattle.std.specs.Result.{result_ok}
use Rattle.mqsc_values.proofs.Pairs.{bytes_of-decode_of}
use Rattle.mqsc_values.proofs.hexadecimal.hex_bytes.Goals as goal

pub returns-in-Ok : goal.returns-in-Ok
returns-in-Ok c = ap Some c.from_vec.ensures ∙ ap result_ok (sym c.in-Ok.ensures.ok) ∙ bytes_of-decode_of c.args.text.now

pub returns-in_default : goal.returns-in_default
returns-in_default c = elim c.in-Err.ensures.err [
  | inl memory ↦ absurd (c.in_default.not-OutOfMemory memory)
  | inr refused ↦ ap result_ok (sym refused) ∙ bytes_of-decode_of c.args.text.now
]
