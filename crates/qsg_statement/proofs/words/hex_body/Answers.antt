use Rattle.std.proofs.Common.{◌≡◌, ◌+◌, ◌≤◌, Some, length, arith, sym, ◌∙◌}
use Rattle.mqsc_values.specs.Hexadecimal.{bytes_of}
use Rattle.qsg_statement.proofs.Bodies.{half}
use Rattle.qsg_statement.proofs.words.hex_body.Goals as goal

pub from_bytes-requires : goal.from_bytes-requires
from_bytes-requires c =
    let read : bytes_of c.args.text.now ≡ Some c.in-Some.bytes = sym c.in_ok-bytes.ensures ∙ c.in-Some.is in
    let twice = half c.args.text.now c.in-Some.bytes read in
    let short = c.requires in
    omega (arith, twice, short)
