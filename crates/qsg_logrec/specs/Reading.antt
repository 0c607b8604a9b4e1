-- What readers of records give: a value and the bytes after it, or how many bytes are left where the
-- grammar is left.
use Rattle.std.specs.Prelude.{ℕ, zero, suc, List, [], ◌∷◌, length, Option, Some, None, Result, Ok, Err, nat_le, ◌&&◌, if◌then◌else◌}
use Rattle.std.specs.Int.{w32, w64}
use Rattle.qsg_num.specs.declared.ids.UnitName.{UnitName}
use Rattle.qsg_num.specs.declared.ids.PageNo.{PageNo}
use Rattle.qsg_num.specs.declared.seats.StructNo.{StructNo}
use Rattle.qsg_num.specs.Seats.{member_at, structure_at}
use Rattle.qsg_msg.specs.Reading.{◌>>=◌, choice_at, number_at, message_at}
use Rattle.qsg_logrec.specs.declared.record.LogMark.{LogMark}
use Rattle.qsg_logrec.specs.declared.record.LogMark.TheVariants as m
use Rattle.qsg_logrec.specs.declared.record.LogRecord.{LogRecord}
use Rattle.qsg_logrec.specs.declared.record.LogRecord.TheVariants as r
use Rattle.qsg_logrec.specs.Sets.{structures_in}

unfoldable pub unit_at : List ℕ → Result (UnitName × List ℕ) ℕ
unit_at bytes = do
  member ← choice_at member_at bytes
  incarnation ← number_at w32 member.1
  seq ← number_at w32 incarnation.1
  Ok (record { member = member.0; incarnation = record { number = incarnation.0 }; seq = seq.0 }, seq.1)

-- a tag that is known
abbrev pub mark_tag : ℕ → Option ℕ
mark_tag zero = Some 0
mark_tag (suc zero) = Some 1
mark_tag (suc (suc zero)) = Some 2
mark_tag (suc (suc (suc n))) = None

unfoldable pub put_mark_at : List ℕ → Result (LogMark × List ℕ) ℕ
put_mark_at bytes = do
  u ← unit_at bytes
  Ok (m.PutBy u.0, u.1)

unfoldable pub got_mark_at : List ℕ → Result (LogMark × List ℕ) ℕ
got_mark_at bytes = do
  u ← unit_at bytes
  Ok (m.GotBy u.0, u.1)

abbrev pub mark_after : ℕ → List ℕ → Result (LogMark × List ℕ) ℕ
mark_after zero bytes = Ok (m.Visible, bytes)
mark_after (suc zero) bytes = put_mark_at bytes
mark_after (suc (suc n)) bytes = got_mark_at bytes

unfoldable pub mark_at : List ℕ → Result (LogMark × List ℕ) ℕ
mark_at bytes = do
  tag ← choice_at mark_tag bytes
  mark_after tag.0 tag.1

unfoldable pub page_no_at : List ℕ → Result (PageNo × List ℕ) ℕ
page_no_at bytes = do
  n ← number_at w32 bytes
  Ok (record { number = n.0 }, n.1)

-- so many pages
abbrev pub pages_at : ℕ → List ℕ → Result (List PageNo × List ℕ) ℕ
pages_at zero bytes = Ok ([], bytes)
pages_at (suc n) bytes = do
  page ← page_no_at bytes
  pages ← pages_at n page.1
  Ok (page.0 ∷ pages.0, pages.1)

abbrev pub set_at : ℕ → Option (List StructNo)
set_at byte = if nat_le 1 byte && nat_le byte 15 then Some (structures_in byte) else None

unfoldable pub put_at : List ℕ → Result (LogRecord × List ℕ) ℕ
put_at bytes = do
  u ← unit_at bytes
  message ← message_at u.1
  Ok (r.Put u.0 message.0, message.1)

unfoldable pub got_at : List ℕ → Result (LogRecord × List ℕ) ℕ
got_at bytes = do
  u ← unit_at bytes
  id ← number_at w64 u.1
  s ← choice_at structure_at id.1
  Ok (r.Got u.0 (record { number = id.0 }) s.0, s.1)

unfoldable pub commit_at : List ℕ → Result (LogRecord × List ℕ) ℕ
commit_at bytes = do
  u ← unit_at bytes
  Ok (r.Commit u.0, u.1)

unfoldable pub start_at : List ℕ → Result (LogRecord × List ℕ) ℕ
start_at bytes = do
  u ← unit_at bytes
  s ← choice_at structure_at u.1
  top ← number_at w64 s.1
  low ← pages_at 8 top.1
  Ok (r.BackupStart u.0 s.0 (record { number = top.0 }) low.0, low.1)

unfoldable pub entry_at : List ℕ → Result (LogRecord × List ℕ) ℕ
entry_at bytes = do
  u ← unit_at bytes
  mark ← mark_at u.1
  message ← message_at mark.1
  Ok (r.BackupEntry u.0 mark.0 message.0, message.1)

unfoldable pub end_at : List ℕ → Result (LogRecord × List ℕ) ℕ
end_at bytes = do
  u ← unit_at bytes
  s ← choice_at structure_at u.1
  count ← number_at w32 s.1
  Ok (r.BackupEnd u.0 s.0 count.0, count.1)

unfoldable pub commit_in_at : List ℕ → Result (LogRecord × List ℕ) ℕ
commit_in_at bytes = do
  u ← unit_at bytes
  set ← choice_at set_at u.1
  Ok (r.CommitIn u.0 set.0, set.1)

-- a tag that is known
abbrev pub record_tag : ℕ → Option ℕ
record_tag zero = None
record_tag (suc zero) = Some 1
record_tag (suc (suc zero)) = Some 2
record_tag (suc (suc (suc zero))) = Some 3
record_tag (suc (suc (suc (suc zero)))) = Some 4
record_tag (suc (suc (suc (suc (suc zero))))) = Some 5
record_tag (suc (suc (suc (suc (suc (suc zero)))))) = Some 6
record_tag (suc (suc (suc (suc (suc (suc (suc zero))))))) = Some 7
record_tag (suc (suc (suc (suc (suc (suc (suc (suc n)))))))) = None

abbrev pub record_after : ℕ → List ℕ → Result (LogRecord × List ℕ) ℕ
record_after zero bytes = Err (length bytes)
record_after (suc zero) bytes = put_at bytes
record_after (suc (suc zero)) bytes = got_at bytes
record_after (suc (suc (suc zero))) bytes = commit_at bytes
record_after (suc (suc (suc (suc zero)))) bytes = start_at bytes
record_after (suc (suc (suc (suc (suc zero))))) bytes = entry_at bytes
record_after (suc (suc (suc (suc (suc (suc zero)))))) bytes = end_at bytes
record_after (suc (suc (suc (suc (suc (suc (suc n))))))) bytes = commit_in_at bytes

unfoldable pub record_at : List ℕ → Result (LogRecord × List ℕ) ℕ
record_at bytes = do
  tag ← choice_at record_tag bytes
  record_after tag.0 tag.1
