-- How long the spelling of a record is at most.
use Rattle.std.proofs.Common.{◌≡◌, ℕ, ◌*◌, ◌^◌, ◌<◌, ◌≤◌, Bool, true, false, List, [], ◌∷◌, ◌++◌, length, take, refl, ap, arith}
use Rattle.std.specs.Prelude.{nat_le, ◌&&◌}
use Rattle.std.specs.List.{list_all}
use Rattle.std.proofs.lemmas.Bool.{leb-true}
use Rattle.std.proofs.lemmas.List.{length-append, length-take-le}
use Rattle.qsg_num.specs.declared.ids.UnitName.{UnitName}
use Rattle.qsg_num.specs.declared.ids.PageNo.{PageNo}
use Rattle.qsg_num.specs.Names.{is_queue_byte, is_queue_name}
use Rattle.qsg_msg.specs.declared.message.Message.{Message}
use Rattle.qsg_msg.specs.Spelling.{key_text, descriptor_text, body_text, spelling, IsMessage}
use Rattle.qsg_msg.specs.Prefix.{IsFaultPlace}
use Rattle.qsg_logrec.specs.declared.record.LogMark.{LogMark}
use Rattle.qsg_logrec.specs.declared.record.LogMark.TheVariants as m
use Rattle.qsg_logrec.specs.declared.record.LogRecord.{LogRecord}
use Rattle.qsg_logrec.specs.declared.record.LogRecord.TheVariants as r
use Rattle.qsg_logrec.specs.Spelling.{unit_text, mark_text, low_text, record_text, IsRecord, IsSpelling}

name_fits : (name : List ℕ) → is_queue_name name ≡ true → length name ≤ 48
name_fits name is = by_tests (nat_le 1 (length name)) (nat_le (length name) 48) (list_all is_queue_byte name) refl is
  where
    by_tests : (a b c : Bool) → nat_le (length name) 48 ≡ b → (a && b && c) ≡ true → length name ≤ 48
    by_tests true true c x e = leb-true _ _ x
    by_tests true false c x e = absurd cc
    by_tests false b c x e = absurd cc

message_long : (m : Message) → IsMessage m → length (spelling m) ≤ 4194416
unfolding spelling
message_long m is =
    omega (arith, name_fits m.queue is.queue, is.msg_id, is.correl_id, is.body, length-append (key_text m) (descriptor_text m ++ body_text m.body), length-append (descriptor_text m) (body_text m.body), length-append m.msg_id m.correl_id)

unit_long : (u : UnitName) → length (unit_text u) ≡ 9
unit_long u = refl

mark_long : (mark : LogMark) → length (mark_text mark) ≤ 10
mark_long m.Visible = omega arith
mark_long (m.PutBy u) = omega (arith, unit_long u)
mark_long (m.GotBy u) = omega (arith, unit_long u)

low_long : (low : List PageNo) → length (low_text low) ≡ 4 * length low
low_long [] = refl
low_long (page ∷ pages) = omega (arith, low_long pages)

record_long : (record_ : LogRecord) → IsRecord record_ → length (record_text record_) ≤ 4194436
unfolding record_text
record_long (r.Put u message) is = omega (arith, unit_long u, length-append (unit_text u) (spelling message), message_long message is.1)
record_long (r.Got u id s) is = omega arith
record_long (r.Commit u) is = omega arith
record_long (r.BackupStart u s top low) is = omega (arith, low_long low, is.2)
record_long (r.BackupEntry u mark message) is = omega (arith, length-append (mark_text mark) (spelling message), mark_long mark, message_long message is.2)
record_long (r.BackupEnd u s count) is = omega arith
record_long (r.CommitIn u set) is = omega arith

-- no fault stands behind the longest record
pub place_long : (input : List ℕ) (at : ℕ) → IsFaultPlace IsSpelling input at → at < 2 ^ 32
place_long input at p =
    let front = take at input in
    let rest = p.begins.0 in
    let known = p.begins.1 in
    omega (arith, length-take-le at input p.within, length-append front rest, ap length known.2, record_long known.0 known.1)
