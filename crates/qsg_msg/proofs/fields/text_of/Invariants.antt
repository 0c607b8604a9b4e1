use Rattle.std.proofs.Common.{◌≡◌, ◌++◌, drop, true, string_bytes}
use Rattle.std.specs.List.{list_all}
use Rattle.qsg_num.specs.Names.{is_queue_byte}
use Rattle.qsg_msg.proofs.fields.text_of.Given as goal

abbrev pub invariant-loop-byte : goal.invariant-loop-byte
invariant-loop-byte l = (string_bytes l.text ++ drop l.byte-index l.bytes ≡ l.bytes) × (list_all is_queue_byte (drop l.byte-index l.bytes) ≡ true)
