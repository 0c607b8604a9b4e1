-- the bytes of records; numbers have their highest byte first
use Rattle.std.specs.Prelude.{◌≡◌, ℕ, ◌<◌, ◌^◌, List, [], ◌∷◌, ◌++◌, length}
use Rattle.std.specs.Int.{w32, w64, to_be_bytes}
use Rattle.qsg_num.specs.declared.ids.UnitName.{UnitName}
use Rattle.qsg_num.specs.declared.ids.PageNo.{PageNo}
use Rattle.qsg_num.specs.Seats.{member_number, structure_number}
use Rattle.qsg_msg.specs.Spelling.{spelling, IsMessage}
use Rattle.qsg_logrec.specs.declared.record.LogMark.{LogMark}
use Rattle.qsg_logrec.specs.declared.record.LogMark.TheVariants as m
use Rattle.qsg_logrec.specs.declared.record.LogRecord.{LogRecord}
use Rattle.qsg_logrec.specs.declared.record.LogRecord.TheVariants as r
use Rattle.qsg_logrec.specs.Sets.{set_byte, IsSet}

-- member, incarnation and number: 9 bytes
abbrev pub unit_text : UnitName → List ℕ
unit_text u = member_number u.member ∷ (to_be_bytes w32 u.incarnation.number ++ to_be_bytes w32 u.seq)

abbrev pub mark_text : LogMark → List ℕ
mark_text m.Visible = 0 ∷ []
mark_text (m.PutBy u) = 1 ∷ unit_text u
mark_text (m.GotBy u) = 2 ∷ unit_text u

-- four bytes for each page
abbrev pub low_text : List PageNo → List ℕ
low_text [] = []
low_text (page ∷ pages) = to_be_bytes w32 page.number ++ low_text pages

-- a tag, and the fields
unfoldable pub record_text : LogRecord → List ℕ
record_text (r.Put u message) = 1 ∷ (unit_text u ++ spelling message)
record_text (r.Got u id s) = 2 ∷ (unit_text u ++ (to_be_bytes w64 id.number ++ (structure_number s ∷ [])))
record_text (r.Commit u) = 3 ∷ unit_text u
record_text (r.BackupStart u s top low) = 4 ∷ (unit_text u ++ (structure_number s ∷ (to_be_bytes w64 top.number ++ low_text low)))
record_text (r.BackupEntry u mark message) = 5 ∷ (unit_text u ++ (mark_text mark ++ spelling message))
record_text (r.BackupEnd u s count) = 6 ∷ (unit_text u ++ (structure_number s ∷ to_be_bytes w32 count))
record_text (r.CommitIn u set) = 7 ∷ (unit_text u ++ (set_byte set ∷ []))

-- the ranges that the types keep
pub record IsUnit (u : UnitName) : Type 0 where
  pub incarnation : u.incarnation.number < 2 ^ 32
  pub seq : u.seq < 2 ^ 32

abbrev pub IsMark : LogMark → Type 0
IsMark m.Visible = Unit {0}
IsMark (m.PutBy u) = IsUnit u
IsMark (m.GotBy u) = IsUnit u

abbrev pub ArePages : List PageNo → Type 0
ArePages [] = Unit {0}
ArePages (page ∷ pages) = (page.number < 2 ^ 32) × ArePages pages

abbrev pub IsRecord : LogRecord → Type 0
IsRecord (r.Put u message) = IsUnit u × IsMessage message
IsRecord (r.Got u id s) = IsUnit u × (id.number < 2 ^ 64)
IsRecord (r.Commit u) = IsUnit u
IsRecord (r.BackupStart u s top low) = IsUnit u × (top.number < 2 ^ 64) × (length low ≡ 8) × ArePages low
IsRecord (r.BackupEntry u mark message) = IsUnit u × IsMark mark × IsMessage message
IsRecord (r.BackupEnd u s count) = IsUnit u × (count < 2 ^ 32)
IsRecord (r.CommitIn u set) = IsUnit u × IsSet set

-- the bytes are those of a record
abbrev pub IsSpelling : List ℕ → Type 0
IsSpelling bytes = (record_ : LogRecord) × IsRecord record_ × (bytes ≡ record_text record_)
