-- The bytes of the records of a unit.
use Rattle.std.proofs.Common.{◌≡◌, ℕ, ◌+◌, ◌*◌, ◌≤◌, Bool, true, false, List, [], ◌∷◌, ◌++◌, length, refl, arith}
use Rattle.std.specs.Prelude.{nat_le, ◌&&◌}
use Rattle.std.specs.List.{list_all}
use Rattle.std.proofs.lemmas.Bool.{leb-true}
use Rattle.std.proofs.lemmas.List.{length-append}
use Rattle.qsg_num.specs.Names.{is_queue_byte, is_queue_name}
use Rattle.qsg_num.specs.declared.ids.EntryId.{EntryId}
use Rattle.qsg_num.specs.declared.ids.PageNo.{PageNo}
use Rattle.qsg_num.specs.declared.ids.UnitName.{UnitName}
use Rattle.qsg_num.specs.declared.seats.StructNo.{StructNo}
use Rattle.qsg_msg.specs.declared.message.Message.{Message}
use Rattle.qsg_msg.specs.Spelling.{key_text, descriptor_text, body_text, spelling, IsMessage}
use Rattle.qsg_logrec.specs.declared.record.LogMark.{LogMark}
use Rattle.qsg_logrec.specs.declared.record.LogMark.TheVariants as m
use Rattle.qsg_logrec.specs.declared.record.LogRecord.{LogRecord}
use Rattle.qsg_logrec.specs.declared.record.LogRecord.TheVariants as r
use Rattle.qsg_logrec.specs.Spelling.{unit_text, mark_text, low_text, record_text, IsRecord}

message_long : (m : Message) → IsMessage m → length (spelling m) ≡ 64 + length m.queue + length m.body
unfolding spelling
message_long m is =
    omega (arith, is.msg_id, is.correl_id, length-append (key_text m) (descriptor_text m ++ body_text m.body), length-append (descriptor_text m) (body_text m.body), length-append m.msg_id m.correl_id)

pub put_long : (u : UnitName) (m : Message) → IsMessage m → length (record_text (r.Put u m)) ≡ 74 + length m.queue + length m.body
unfolding record_text
put_long u m is = omega (arith, length-append (unit_text u) (spelling m), message_long m is)

pub got_long : (u : UnitName) (id : EntryId) (s : StructNo) → length (record_text (r.Got u id s)) ≡ 19
unfolding record_text
got_long u id s = refl

pub commit_long : (u : UnitName) (set : List StructNo) → length (record_text (r.CommitIn u set)) ≡ 11
unfolding record_text
commit_long u set = refl

-- ---- the longest record

name_fits : (name : List ℕ) → is_queue_name name ≡ true → length name ≤ 48
name_fits name is = by_tests (nat_le 1 (length name)) (nat_le (length name) 48) (list_all is_queue_byte name) refl is
  where
    by_tests : (a b c : Bool) → nat_le (length name) 48 ≡ b → (a && b && c) ≡ true → length name ≤ 48
    by_tests true true c test e = leb-true _ _ test
    by_tests true false c test e = absurd cc
    by_tests false b c test e = absurd cc

message_fits : (m : Message) → IsMessage m → length (spelling m) ≤ 4194416
message_fits m is = omega (arith, message_long m is, name_fits m.queue is.queue, is.body)

mark_fits : (mark : LogMark) → length (mark_text mark) ≤ 10
mark_fits m.Visible = omega arith
mark_fits (m.PutBy u) = omega arith
mark_fits (m.GotBy u) = omega arith

low_long : (low : List PageNo) → length (low_text low) ≡ 4 * length low
low_long [] = refl
low_long (page ∷ pages) = omega (arith, low_long pages)

pub record_fits : (written : LogRecord) → IsRecord written → length (record_text written) ≤ 4194436
unfolding record_text
record_fits (r.Put u message) is = omega (arith, length-append (unit_text u) (spelling message), message_fits message is.1)
record_fits (r.Got u id s) is = omega arith
record_fits (r.Commit u) is = omega arith
record_fits (r.BackupStart u s top low) is = omega (arith, low_long low, is.2)
record_fits (r.BackupEntry u mark message) is = omega (arith, length-append (mark_text mark) (spelling message), mark_fits mark, message_fits message is.2)
record_fits (r.BackupEnd u s count) is = omega arith
record_fits (r.CommitIn u set) is = omega arith
