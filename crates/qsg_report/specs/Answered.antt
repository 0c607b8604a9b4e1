-- what actors answered, and what happened
use Rattle.std.specs.Prelude.{ℕ, ◌==◌, if◌then◌else◌, List, [], ◌++◌, length, codes}
use Rattle.std.specs.List.{flat_map}
use Rattle.qsg_num.specs.declared.ids.Actor.{Actor}
use Rattle.qsg_num.specs.declared.ids.Actor.TheVariants.{Task, Operator}
use Rattle.qsg_num.specs.declared.seats.StructNo.{StructNo}
use Rattle.qsg_model.specs.declared.history.Op.{Op}
use Rattle.qsg_model.specs.declared.history.Op.TheVariants.{Put, Got}
use Rattle.qsg_model.specs.declared.history.Item.{Item}
use Rattle.qsg_model.specs.declared.history.Item.TheVariants.{Unit as UnitOf, Lost, Purged}
use Rattle.qsg_requests.specs.declared.transcript.Answer.{Answer}
use Rattle.qsg_answers.specs.Answers.{answers_from, line_end}
use Rattle.qsg_answers.specs.Labels.{Labelling, structure_text, unit_text}
use Rattle.qsg_answers.specs.Texts.{id_text}
use Rattle.qsg_answers.specs.Waits.{actor_text}

abbrev pub heading_text : Labelling → Actor → List ℕ
heading_text labels (Task m t) = codes "task " ++ actor_text labels (Task m t) ++ line_end
heading_text labels Operator = codes "operator" ++ line_end

-- an actor that has answers is its heading and they
abbrev pub transcript_text : Labelling → Actor → List Answer → List ℕ
transcript_text labels a answers = if length answers == 0 then [] else heading_text labels a ++ answers_from labels 1 answers

-- what each of these actors was answered, in their order
abbrev pub transcripts_text : Labelling → (Actor → List Answer) → List Actor → List ℕ
transcripts_text labels told actors = flat_map (λ a. transcript_text labels a (told a)) actors

abbrev pub op_text : Op → List ℕ
op_text (Put m) = codes " put " ++ id_text m.id
op_text (Got id) = codes " got " ++ id_text id

abbrev pub ops_text : List (StructNo × Op) → List ℕ
ops_text ops = flat_map (λ o. op_text o.1) ops

abbrev pub item_text : Labelling → Item → List ℕ
item_text labels (UnitOf u ops) = codes "unit " ++ unit_text labels u ++ ops_text ops ++ line_end
item_text labels (Lost s) = codes "lost " ++ structure_text labels s ++ line_end
item_text labels (Purged s) = codes "purged " ++ structure_text labels s ++ line_end
