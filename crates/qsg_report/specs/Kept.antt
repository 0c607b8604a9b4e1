-- what members keep, and what actors wait for
use Rattle.std.specs.Prelude.{ℕ, Bool, true, false, List, [], ◌∷◌, ◌++◌, codes}
use Rattle.std.specs.List.{flat_map}
use Rattle.std.specs.Fmt.{decimal}
use Rattle.qsg_answers.specs.Answers.{line_end}
use Rattle.qsg_answers.specs.Labels.{Labelling, member_text, structure_text}
use Rattle.qsg_answers.specs.Waits.{actor_text, cause_text}
use Rattle.qsg_report.specs.declared.shown.ShownDataSet.{ShownDataSet}
use Rattle.qsg_report.specs.declared.shown.ShownMember.{ShownMember}
use Rattle.qsg_report.specs.declared.shown.ShownWait.{ShownWait}
use Rattle.qsg_report.specs.Words.{of_text, number_or_dash}

-- a data set is its member, its structure and how many of its blocks are used
unfoldable pub dataset_text : Labelling → ShownDataSet → List ℕ
dataset_text labels d = codes "dataset " ++ member_text labels d.member ++ codes " " ++ structure_text labels d.structure ++ codes " used " ++ number_or_dash d.used ++ codes " of " ++ decimal d.blocks ++ line_end

-- a log is its member and how many of its pages are written
abbrev pub log_text : ShownMember → List ℕ
log_text m = codes "log " ++ m.name ++ codes " pages " ++ of_text m.pages m.size

abbrev pub up_text : Bool → List ℕ
up_text true = codes " up "
up_text false = codes " down "

abbrev pub member_line : ShownMember → List ℕ
member_line m = codes "member " ++ m.name ++ up_text m.up ++ decimal m.last.number ++ line_end

unfoldable pub wait_text : Labelling → ShownWait → List ℕ
wait_text labels w = codes "waits " ++ actor_text labels w.actor ++ codes " " ++ cause_text labels w.cause ++ line_end

-- a group is stuck where an actor with work left waits
abbrev pub end_text : Labelling → List ShownWait → List ℕ
end_text labels [] = codes "finished" ++ line_end
end_text labels (w ∷ waits) = flat_map (wait_text labels) (w ∷ waits) ++ codes "stuck" ++ line_end
