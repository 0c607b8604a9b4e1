-- what each step of a get makes of the work and of the group
use Rattle.std.specs.Prelude.{ℕ, Bool, true, nat_lt, if◌then◌else◌, List, length, Option, Some, None, Result, Ok, Err}
use Rattle.qsg_num.specs.declared.seats.Member.{Member}
use Rattle.qsg_num.specs.declared.seats.StructNo.{StructNo}
use Rattle.qsg_num.specs.declared.seats.TaskNo.{TaskNo}
use Rattle.qsg_num.specs.declared.ids.UnitName.{UnitName}
use Rattle.qsg_lists.specs.declared.parts.Connection.{Connection}
use Rattle.qsg_lists.specs.declared.parts.Entry.{Entry}
use Rattle.qsg_lists.specs.declared.parts.Lost.{Lost}
use Rattle.qsg_lists.specs.declared.parts.Seen.{Seen}
use Rattle.qsg_lists.specs.declared.parts.Selector.{Selector}
use Rattle.qsg_lists.specs.Structures.{connect_answer, lost_of}
use Rattle.qsg_logpage.specs.declared.writer.NoLog.{NoLog as NoPages}
use Rattle.qsg_repo.specs.Keeping.{keep}
use Rattle.qsg_requests.specs.declared.replies.Reason.{Reason}
use Rattle.qsg_requests.specs.declared.replies.Reason.TheVariants.{StructureFailed, NoMessage, NoLog, NotYet}
use Rattle.qsg_requests.specs.declared.replies.Reply.{Reply}
use Rattle.qsg_requests.specs.declared.replies.Reply.TheVariants.{Got, Refused}
use Rattle.qsg_requests.specs.declared.replies.Turn.{Turn}
use Rattle.qsg_requests.specs.declared.replies.Turn.TheVariants.{More, Ended}
use Rattle.qsg_manager.specs.declared.managers.Manager.{Manager}
use Rattle.qsg_manager.specs.declared.taken.Taken.{Taken}
use Rattle.qsg_manager.specs.declared.taken.TakenBody.{TakenBody}
use Rattle.qsg_manager.specs.declared.taken.TakenBody.TheVariants.{Inside, Outside}
use Rattle.qsg_manager.specs.Facilities.{structure_in}
use Rattle.qsg_manager.specs.Getting.{found_in, with_taken, with_found, taken_of}
use Rattle.qsg_manager.specs.Storage.{task_at, next_name}
use Rattle.qsg_manager.specs.Units.{with_name}
use Rattle.qsg_manager.specs.Views.{message_of}
use Rattle.qsg_logs.specs.Kept.{KeptLog, log_in, with_log, need_of, with_reserved, with_record_of, fallen_back}
use Rattle.qsg_logs.specs.Writers.{reserve_answer}
use Rattle.qsg_parts.specs.Owned.{Owned}
use Rattle.qsg_get.specs.declared.checking.Terms.{Terms}
use Rattle.qsg_get.specs.declared.phases.Phase.{Phase}
use Rattle.qsg_get.specs.declared.phases.Phase.TheVariants.{Check, Connect, Take}
use Rattle.qsg_get.specs.Checking.{check_answer}
use Rattle.qsg_get.specs.Works.{Work}

-- how a step ended, how far the get has come, and the parts of the group
pub record Next : Type 0 where
  pub turn : Turn
  pub phase : Phase
  pub parts : Owned

abbrev pub refused : Reason → Phase → Owned → Next
refused reason phase p = record { turn = Ended (Refused reason); phase = phase; parts = p }

abbrev pub goes_on : Phase → Owned → Next
goes_on phase p = record { turn = More; phase = phase; parts = p }

-- ---- the log of the member

-- the bytes of the record of a get
abbrev pub got_record : Option ℕ
got_record = Some 19

abbrev pub at_log : Member → (KeptLog → KeptLog) → Owned → Owned
at_log m f p = record p { logs = with_log m (f (log_in m p.logs)) p.logs }

abbrev pub has_operations : Member → TaskNo → List Manager → Bool
has_operations m t managers = nat_lt 0 (length (task_at m t managers).ops)

-- what is reserved is what the unit needs without this get
abbrev pub fallen : Member → TaskNo → UnitName → Owned → Owned
fallen m t u p = at_log m (fallen_back t u (has_operations m t p.managers)) p

-- ---- the check, which reserves pages for the record of a get, whatever message comes

-- the name that a task holds, or else the one that it draws next
abbrev pub name_or_next : Option UnitName → Member → List Manager → UnitName
name_or_next (Some u) m managers = u
name_or_next None m managers = next_name m managers

abbrev pub unit_of : Member → TaskNo → List Manager → UnitName
unit_of m t managers = name_or_next (task_at m t managers).unit m managers

abbrev pub named : Option UnitName → Member → TaskNo → List Manager → List Manager
named (Some u) m t managers = managers
named None m t managers = with_name m t managers

abbrev pub need : Member → TaskNo → Owned → ℕ
need m t p = need_of t got_record (log_in m p.logs)

-- the pages are reserved, and the task holds a name
abbrev pub with_pages : Member → TaskNo → UnitName → ℕ → Owned → Owned
with_pages m t u pages p = at_log m (with_reserved u pages) (record p { managers = named (task_at m t p.managers).unit m t p.managers })

abbrev pub after_reserve : Member → TaskNo → Terms → Owned → Result (Unit {0}) NoPages → Next
after_reserve m t terms p (Err why) = refused (NoLog why.need why.free) Check p
after_reserve m t terms p (Ok done) = goes_on (Connect (unit_of m t p.managers) terms) (with_pages m t (unit_of m t p.managers) (need m t p) p)

abbrev pub after_check : Member → TaskNo → Owned → Result Terms Reason → Next
after_check m t p (Err reason) = refused reason Check p
after_check m t p (Ok terms) = after_reserve m t terms p (reserve_answer (unit_of m t p.managers) (need m t p) (keep m p.repo) (log_in m p.logs).writer)

-- ---- the connection

abbrev pub after_connect : Member → TaskNo → UnitName → Terms → Owned → Result Seen Lost → Next
after_connect m t u terms p (Err lost) = refused StructureFailed (Connect u terms) (fallen m t u p)
after_connect m t u terms p (Ok seen) = goes_on (Take u terms seen.connection.epoch) p

-- ---- the entry

-- the use of the structure by this get
abbrev pub use_of : Terms → ℕ → Connection
use_of terms epoch = record { structure = terms.structure; epoch = epoch }

-- the record of a get of an entry, where it is logged
abbrev pub logged : Bool → Option ℕ
logged persistent = if persistent then got_record else None

-- the record is among those of the unit, which has reserved what they need
abbrev pub with_operation : Member → TaskNo → UnitName → Bool → Owned → Owned
with_operation m t u persistent p = at_log m (λ log. fallen_back t u true (with_record_of t (logged persistent) log)) p

-- the entry is marked, and the operation is in its unit
abbrev pub with_message : Member → TaskNo → UnitName → Connection → Entry → Owned → Owned
with_message m t u c e p = with_operation m t u e.head.persistent (record p {
  structures = with_taken u c (Some e) p.structures;
  managers = with_found u.member t c (Some e) p.managers;
})

-- the answer: the whole message, which a body outside its entry isn't told with yet
abbrev pub told_of : StructNo → Taken → TakenBody → Reply
told_of s taken (Inside body) = Got (message_of s taken.id taken.head body)
told_of s taken (Outside owner blocks length) = Refused NotYet

abbrev pub reply_of : StructNo → Taken → Reply
reply_of s taken = told_of s taken taken.body

abbrev pub after_take : Member → TaskNo → UnitName → Terms → ℕ → Owned → Option Lost → Option Entry → Next
after_take m t u terms epoch p (Some lost) found = refused StructureFailed (Take u terms epoch) (fallen m t u p)
after_take m t u terms epoch p None None = refused NoMessage (Take u terms epoch) (fallen m t u p)
after_take m t u terms epoch p None (Some e) =
    record { turn = Ended (reply_of terms.structure (taken_of e)); phase = Take u terms epoch; parts = with_message m t u (use_of terms epoch) e p }

-- ---- a step, by the phase

abbrev pub next_at : Member → TaskNo → List ℕ → Selector → Owned → Phase → Next
next_at m t queue select p Check = after_check m t p (check_answer p.objects queue (length (task_at m t p.managers).ops))
next_at m t queue select p (Connect u terms) = after_connect m t u terms p (connect_answer (structure_in terms.structure p.structures))
next_at m t queue select p (Take u terms epoch) =
    after_take m t u terms epoch p (lost_of (structure_in terms.structure p.structures) (use_of terms epoch)) (found_in (use_of terms epoch) queue terms.order select p.structures)

abbrev pub next_get : Work → Owned → Next
next_get work p = next_at work.member work.task work.queue work.select p work.phase

-- a step that goes on to a phase, or is refused
abbrev pub stepped : Result Phase Reason → Phase → Owned → Next
stepped (Ok phase) at p = goes_on phase p
stepped (Err reason) at p = refused reason at p

abbrev pub phase_after : Result Phase Reason → Phase → Phase
phase_after (Ok phase) at = phase
phase_after (Err reason) at = at
