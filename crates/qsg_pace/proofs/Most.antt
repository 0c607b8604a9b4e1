-- a work of a system task is less than a whole one
use Rattle.std.proofs.Common.{ℕ, zero, suc, ◌-◌, ◌^◌, ◌<◌, ◌≤◌, List, [], ◌∷◌, length, get_or, cond, Bool, true, false, arith}
use Rattle.std.proofs.lemmas.List.Sums.{sum_by-cons}
use Rattle.qsg_num.specs.declared.ids.Incarnation.{Incarnation}
use Rattle.qsg_num.specs.declared.seats.Member.{Member}
use Rattle.qsg_num.specs.declared.seats.StructNo.{StructNo}
use Rattle.qsg_num.specs.declared.seats.StructNo.TheVariants as structure
use Rattle.qsg_num.specs.Seats.{member_number, structure_number}
use Rattle.qsg_lists.specs.declared.parts.Entry.{Entry}
use Rattle.qsg_lists.specs.declared.parts.Place.{Place}
use Rattle.qsg_lists.specs.declared.parts.Place.TheVariants.{Inline, Offloaded}
use Rattle.qsg_lists.specs.Entries.{cost_of, used_of}
use Rattle.qsg_lists.specs.Marks.{names_member}
use Rattle.qsg_lists.specs.Structures.{ListStructure, IsSound as IsStructureSound}
use Rattle.qsg_manager.specs.Facilities.{structure_in}
use Rattle.qsg_manager.specs.Marked.{marks_in, marks_of}
use Rattle.qsg_logs.specs.Kept.{KeptLog, no_log, log_in}
use Rattle.qsg_parts.specs.Owned.{Owned}
use Rattle.qsg_steady.proofs.Places.{member_some}
use Rattle.qsg_peer.specs.declared.phases.FailedLife.{FailedLife}
use Rattle.qsg_peer.specs.Pace.{whole_of}
use Rattle.qsg_sound.specs.Sound.{AreLogsKept, AreStructuresKept}
use Rattle.qsg_pace.specs.Pace.{whole}

-- ---- marks

cost_some : (place : Place) → 1 ≤ cost_of place
cost_some (Inline body) = omega arith
cost_some (Offloaded owner blocks bytes) = omega arith

abbrev one_if : Bool → ℕ
one_if b = cond b 1 0

one_most : (b : Bool) → one_if b ≤ 1
one_most true = omega arith
one_most false = omega arith

-- each entry uses an element
marks_used : (m : Member) (i : Incarnation) (entries : List Entry) → marks_in m i entries ≤ used_of entries
marks_used m i [] = omega arith
marks_used m i (e ∷ entries) =
    let mark = sum_by-cons (λ (x : Entry). cond (names_member m i x.mark) 1 0) e entries in
    let used = sum_by-cons (λ (x : Entry). cost_of x.place) e entries in
    omega (arith, mark, used, one_most (names_member m i e.mark), cost_some e.place, marks_used m i entries)

structure_few : (m : Member) (i : Incarnation) (s : ListStructure) → IsStructureSound s → marks_in m i s.entries < 2 ^ 32
structure_few m i s sound = omega (arith, marks_used m i s.entries, sound.within, sound.capacity_fits)

abbrev AreSound : List ListStructure → Type 0
AreSound ss = (s : StructNo) → structure_number s ≤ length ss → IsStructureSound (structure_in s ss)

marks_few : (m : Member) (i : Incarnation) (ss : List ListStructure) → length ss ≤ 4 → AreSound ss → marks_of m i ss < 2 ^ 34
marks_few m i [] four each = omega arith
marks_few m i (a ∷ []) four each =
    omega (arith, sum_by-cons (λ (s : ListStructure). marks_in m i s.entries) a [], structure_few m i a (each structure.One (omega arith)))
marks_few m i (a ∷ b ∷ []) four each = omega (
  arith,
  sum_by-cons (λ (s : ListStructure). marks_in m i s.entries) a (b ∷ []),
  sum_by-cons (λ (s : ListStructure). marks_in m i s.entries) b [],
  structure_few m i a (each structure.One (omega arith)),
  structure_few m i b (each structure.Two (omega arith)),
)
marks_few m i (a ∷ b ∷ c ∷ []) four each = omega (
  arith,
  sum_by-cons (λ (s : ListStructure). marks_in m i s.entries) a (b ∷ c ∷ []),
  sum_by-cons (λ (s : ListStructure). marks_in m i s.entries) b (c ∷ []),
  sum_by-cons (λ (s : ListStructure). marks_in m i s.entries) c [],
  structure_few m i a (each structure.One (omega arith)),
  structure_few m i b (each structure.Two (omega arith)),
  structure_few m i c (each structure.Three (omega arith)),
)
marks_few m i (a ∷ b ∷ c ∷ d ∷ []) four each = omega (
  arith,
  sum_by-cons (λ (s : ListStructure). marks_in m i s.entries) a (b ∷ c ∷ d ∷ []),
  sum_by-cons (λ (s : ListStructure). marks_in m i s.entries) b (c ∷ d ∷ []),
  sum_by-cons (λ (s : ListStructure). marks_in m i s.entries) c (d ∷ []),
  sum_by-cons (λ (s : ListStructure). marks_in m i s.entries) d [],
  structure_few m i a (each structure.One (omega arith)),
  structure_few m i b (each structure.Two (omega arith)),
  structure_few m i c (each structure.Three (omega arith)),
  structure_few m i d (each structure.Four (omega arith)),
)
marks_few m i (a ∷ b ∷ c ∷ d ∷ e ∷ ss) four each = absurd (omega (arith, four))

-- ---- pages

abbrev pages_at : List KeptLog → ℕ → ℕ
pages_at logs i = (get_or logs i no_log).writer.size

pages_few : (logs : List KeptLog) (i : ℕ) → (i < length logs → pages_at logs i < 2 ^ 20) → pages_at logs i < 2 ^ 20
pages_few [] i each = omega arith
pages_few (log ∷ logs) zero each = each (omega arith)
pages_few (log ∷ logs) (suc i) each = pages_few logs i (λ less. each (omega (arith, less)))

pub log_few : (k : Member) (p : Owned) → AreLogsKept p → (log_in k p.logs).writer.size < 2 ^ 20
log_few k p kept = pages_few p.logs (member_number k - 1) (λ less. (kept k (omega (arith, less, member_some k))).within.small)

-- ---- a work

pub work_few : (life : FailedLife) (p : Owned) → length p.structures ≤ 4 → AreLogsKept p → AreStructuresKept p → whole_of life p < whole
work_few life p four logs structures = omega (arith, log_few life.member p logs, marks_few life.member life.incarnation p.structures four structures)
