-- the texts of answers. Each word has its blank before it, and each line ends with a line feed.
use Rattle.std.specs.Prelude.{ℕ, ◌+◌, Bool, List, [], ◌∷◌, ◌++◌, codes, Some, None}
use Rattle.std.specs.Fmt.{decimal}
use Rattle.qsg_num.specs.declared.ids.PageNo.{PageNo}
use Rattle.qsg_num.specs.declared.seats.Priority.{Priority}
use Rattle.qsg_num.specs.declared.words.LogWhy.{LogWhy}
use Rattle.qsg_num.specs.declared.words.LogWhy.TheVariants as log
use Rattle.qsg_num.specs.Seats.{priority_number}
use Rattle.qsg_msg.specs.declared.message.Message.{Message}
use Rattle.qsg_offload.specs.declared.rule.Placed.{Placed}
use Rattle.qsg_offload.specs.declared.rule.Placed.TheVariants as placed
use Rattle.qsg_requests.specs.declared.replies.Short.{Short}
use Rattle.qsg_requests.specs.declared.replies.Short.TheVariants as short
use Rattle.qsg_requests.specs.declared.replies.Reason.{Reason}
use Rattle.qsg_requests.specs.declared.replies.Reason.TheVariants as reason
use Rattle.qsg_requests.specs.declared.replies.Reply.{Reply}
use Rattle.qsg_requests.specs.declared.replies.Reply.TheVariants as reply
use Rattle.qsg_requests.specs.declared.transcript.Answer.{Answer}
use Rattle.qsg_requests.specs.declared.transcript.Verb.{Verb}
use Rattle.qsg_requests.specs.declared.transcript.Verb.TheVariants as verb
use Rattle.qsg_answers.specs.Labels.{Labelling, member_text, incarnation_text, unit_text}
use Rattle.qsg_answers.specs.Texts.{id_text, identifier_text, body_text, flag_text}

-- a directive is its first word; what a system task does has none
abbrev pub verb_text : Verb → List ℕ
verb_text verb.Put = codes " PUT"
verb_text verb.Get = codes " GET"
verb_text verb.Commit = codes " COMMIT"
verb_text verb.Backout = codes " BACKOUT"
verb_text verb.Wait = codes " WAIT"
verb_text verb.Backup = codes " BACKUP"
verb_text verb.Recover = codes " RECOVER"
verb_text verb.Reset = codes " RESET"
verb_text verb.Display = codes " DISPLAY"
verb_text verb.Crash = codes " CRASH"
verb_text verb.Start = codes " START"
verb_text verb.Stop = codes " STOP"
verb_text verb.Lose = codes " LOSE"
verb_text verb.System = []

abbrev pub placed_text : Placed → List ℕ
placed_text placed.Inside = codes " inside"
placed_text placed.Always = codes " always"
placed_text placed.Rule1 = codes " rule1"
placed_text placed.Rule2 = codes " rule2"
placed_text placed.Rule3 = codes " rule3"

abbrev pub short_text : Short → List ℕ
short_text short.Dataset = codes " dataset"
short_text short.Structure = codes " structure"

-- the messages that a queue has
abbrev pub depth_text : ℕ → List ℕ
depth_text depth = codes " depth " ++ decimal depth

-- what is needed, and what is free
abbrev pub need_text : ℕ → ℕ → List ℕ
need_text need free = codes " need " ++ decimal need ++ codes " free " ++ decimal free

-- the place of a fault: a page, and a byte of it or of a record that ends in it
abbrev pub place_at : PageNo → ℕ → List ℕ
place_at page at = decimal page.number ++ codes " at " ++ decimal at

-- why a log can't be read on
abbrev pub why_text : LogWhy → List ℕ
why_text log.Device = codes " device"
why_text (log.BadPage page at) = codes " page " ++ place_at page at
why_text (log.BadRecord page at) = codes " record " ++ place_at page at

-- a reason is its code, or its word where it has none
abbrev pub reason_text : Labelling → Reason → List ℕ
reason_text labels reason.ConnectionBroken = codes " 2009"
reason_text labels reason.GetInhibited = codes " 2016"
reason_text labels reason.SyncpointLimit = codes " 2024"
reason_text labels reason.BodyTooLong = codes " 2030"
reason_text labels reason.NoMessage = codes " 2033"
reason_text labels reason.PersistentNotAllowed = codes " 2048"
reason_text labels reason.PutInhibited = codes " 2051"
reason_text labels (reason.QueueFull depth) = codes " 2053" ++ depth_text depth
reason_text labels reason.UnknownObject = codes " 2085"
reason_text labels (reason.StorageFull place need free) = codes " 2192" ++ short_text place ++ need_text need free
reason_text labels reason.StructureFailed = codes " 2373"
reason_text labels (reason.NoLog need free) = codes " NOLOG" ++ need_text need free
reason_text labels reason.DataSetFault = codes " DSFAULT"
reason_text labels reason.Down = codes " DOWN"
reason_text labels reason.Up = codes " UP"
reason_text labels (reason.LogFault m why) = codes " LOGFAULT " ++ member_text labels m ++ why_text why
reason_text labels (reason.GaveUp m i why) = codes " GAVEUP " ++ incarnation_text labels m i ++ why_text why
reason_text labels reason.NotYet = codes " NOTYET"

-- the kind of a message is its priority, and whether it is persistent
unfoldable pub kind_text : Priority → Bool → List ℕ
kind_text priority persistent = codes " pri " ++ decimal (priority_number priority) ++ codes " pers " ++ flag_text persistent

unfoldable pub identifiers_text : Message → List ℕ
identifiers_text m = codes " msgid " ++ identifier_text m.msg_id ++ codes " correlid " ++ identifier_text m.correl_id

-- a message is its id, its kind, its identifiers and its body
unfoldable pub message_text : Message → List ℕ
message_text m = id_text m.id ++ kind_text m.priority m.persistent ++ identifiers_text m ++ codes " body " ++ body_text m.body

abbrev pub reply_text : Labelling → Reply → List ℕ
reply_text labels (reply.PutOk id placed) = codes " OK " ++ id_text id ++ placed_text placed
reply_text labels (reply.Unit None count) = codes " OK - " ++ decimal count
reply_text labels (reply.Unit (Some u) count) = codes " OK " ++ unit_text labels u ++ codes " " ++ decimal count
reply_text labels (reply.Got m) = codes " OK " ++ message_text m
reply_text labels (reply.Started i) = codes " OK " ++ decimal i.number
reply_text labels (reply.Resolved m i settled) = codes " RESOLVED " ++ incarnation_text labels m i ++ codes " " ++ decimal settled
reply_text labels reply.Done = codes " OK"
reply_text labels (reply.Refused reason) = reason_text labels reason

-- a line feed alone
abbrev pub line_end : List ℕ
line_end = 10 ∷ []

-- an answer is a line: its number, its directive and how it ended
unfoldable pub answer_text : Labelling → ℕ → Answer → List ℕ
answer_text labels n a = decimal n ++ verb_text a.verb ++ reply_text labels a.reply ++ line_end

-- answers, numbered from n
abbrev pub answers_from : Labelling → ℕ → List Answer → List ℕ
answers_from labels n [] = []
answers_from labels n (a ∷ answers) = answer_text labels n a ++ answers_from labels (n + 1) answers
