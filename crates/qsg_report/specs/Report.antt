-- the report of a run
use Rattle.std.specs.Prelude.{ℕ, List, ◌++◌, codes}
use Rattle.std.specs.List.{flat_map}
use Rattle.qsg_num.specs.declared.ids.Actor.{Actor}
use Rattle.qsg_model.specs.declared.history.Item.{Item}
use Rattle.qsg_requests.specs.declared.transcript.Answer.{Answer}
use Rattle.qsg_answers.specs.Answers.{line_end}
use Rattle.qsg_answers.specs.Labels.{Labelling}
use Rattle.qsg_report.specs.declared.shown.Shown.{Shown}
use Rattle.qsg_report.specs.Answered.{transcripts_text, item_text}
use Rattle.qsg_report.specs.Kept.{dataset_text, log_text, member_line, end_text}
use Rattle.qsg_report.specs.Shared.{failure_text, structure_line, entries_text, queue_text}
use Rattle.qsg_report.specs.Words.{labels_of}

-- failures, structures, the entries of each structure, queues
unfoldable pub shared_text : Labelling → Shown → List ℕ
shared_text labels s = flat_map (failure_text labels) s.failed.items ++ flat_map (structure_line labels) s.structures.items ++ flat_map (entries_text labels) s.structures.items ++ flat_map queue_text s.queues.items

-- data sets, logs, members
unfoldable pub kept_text : Labelling → Shown → List ℕ
kept_text labels s = flat_map (dataset_text labels) s.datasets.items ++ flat_map log_text s.members.items ++ flat_map member_line s.members.items

-- the group, what each actor was answered, what happened, the state, and how the run ended
unfoldable pub lines_text : Labelling → List Actor → (Actor → List Answer) → List Item → Shown → List ℕ
lines_text labels actors told history s =
    codes "group " ++ s.group ++ line_end
    ++ transcripts_text labels told actors
    ++ flat_map (item_text labels) history
    ++ shared_text labels s
    ++ kept_text labels s
    ++ end_text labels s.waits.items

abbrev pub report_text : List Actor → (Actor → List Answer) → List Item → Shown → List ℕ
report_text actors told history s = lines_text (labels_of s) actors told history s
