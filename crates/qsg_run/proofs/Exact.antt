-- which status comes
use Rattle.std.proofs.Common.{◌≡◌, ℕ, List, Option, Some, None, take, refl, sym, subst, ◌∙◌}
use Rattle.qsg_objects.specs.declared.plans.Plan.{Plan}
use Rattle.qsg_script.specs.declared.faults.ScriptFault.{ScriptFault}
use Rattle.qsg_script.specs.Script.{IsPlan, IsFirstFault}
use Rattle.qsg_script.proofs.Once.{plan-or-fault}
use Rattle.qsg_script.proofs.Texts.{one_thing}
use Rattle.qsg_words.specs.declared.command.Command.{Command}
use Rattle.qsg_words.specs.declared.command.Command.TheVariants.{Replay, Check}
use Rattle.qsg_words.specs.Table.{command_of}
use Rattle.qsg_run.specs.declared.status.Status.{Status}
use Rattle.qsg_run.specs.declared.status.Status.TheVariants.{Finished, Usage, Script, Stuck, ReadFault, WriteFault, NoMemory, RigFault}
use Rattle.qsg_run.specs.Outside.{Reads, read_limit}
use Rattle.qsg_run.specs.Replays.{GivenBack}
use Rattle.qsg_run.specs.Top.{Met, IsAsked, IsScript, IsBadScript, IsObeyed, IsDue, Ends, IsUsage, HasRun, IsUnlessFailed}

read_is : (left : Option (List ℕ)) (all bytes : List ℕ) → left ≡ Some all → Reads left bytes → bytes ≡ take read_limit all
read_is left all bytes e r = let told : Reads (Some all) bytes = subst (λ (o : Option (List ℕ)). Reads o bytes) e r in told

one_command : (o : Option Command) (c d : Command) → o ≡ Some c → o ≡ Some d → c ≡ d
one_command o c d a b = let same : Some c ≡ Some d = sym a ∙ b in cc

no_command : (o : Option Command) (c : Command) → o ≡ None → o ≡ Some c → ⊥
no_command o c a b = let same : None ≡ Some c = sym a ∙ b in cc

-- bytes that are a script have no fault
script_or_fault : (left : Option (List ℕ)) (all : List ℕ) (plan : Plan) (fault : ScriptFault) → left ≡ Some all → IsPlan (take read_limit all) plan → IsBadScript left fault → ⊥
script_or_fault left all plan fault told script bad =
    plan-or-fault one_thing bad.bytes plan fault (subst (λ (b : List ℕ). IsPlan b plan) (sym (read_is left all bad.bytes told bad.read)) script) bad.bad

fault_or_script : (left : Option (List ℕ)) (all : List ℕ) (plan : Plan) (fault : ScriptFault) → left ≡ Some all → IsFirstFault (take read_limit all) fault → IsScript left plan → ⊥
fault_or_script left all plan fault told first script =
    plan-or-fault one_thing script.bytes plan fault script.script (subst (λ (b : List ℕ). IsFirstFault b fault) (sym (read_is left all script.bytes told script.read)) first)

due_is : (met : Met) (text : List ℕ) (s t : Status) → s ≡ t → IsDue met s text → IsDue met t text
due_is met text s t e d = subst (λ (u : Status). IsDue met u text) e d

-- ---- the words ask for nothing

pub usage : (met : Met) (old new : Option (List ℕ)) (b n : ℕ) (result : Status) → Ends met old new b n result → command_of met.words ≡ None → IsUsage result
usage met old new b n Usage e none = tt
usage met old new b n NoMemory e none = tt
usage met old new b n WriteFault e none = tt
usage met old new b n Finished e none = let d = due_is met e.text e.status Finished e.sent.0 e.due in no_command (command_of met.words) d.command none d.asked
usage met old new b n Stuck e none = let d = due_is met e.text e.status Stuck e.sent.0 e.due in no_command (command_of met.words) d.command none d.asked
usage met old new b n Script e none = let d = due_is met e.text e.status Script e.sent.0 e.due in no_command (command_of met.words) d.asked.command none d.asked.asked
usage met old new b n ReadFault e none = let d = due_is met e.text e.status ReadFault e.sent.0 e.due in no_command (command_of met.words) d.0.command none d.0.asked
usage met old new b n RigFault e none = let d = due_is met e.text e.status RigFault e.sent.0 e.due in no_command (command_of met.words) (Replay d.0.seed) none d.0.asked

no_usage : (met : Met) (old new : Option (List ℕ)) (b n : ℕ) (c : Command) → command_of met.words ≡ Some c → Ends met old new b n Usage → ⊥
no_usage met old new b n c asked e = let d = due_is met e.text e.status Usage e.sent.0 e.due in no_command (command_of met.words) c d.0 asked

no_script : (met : Met) (old new : Option (List ℕ)) (b n : ℕ) (all : List ℕ) (plan : Plan) → met.left ≡ Some all → IsPlan (take read_limit all) plan → Ends met old new b n Script → ⊥
no_script met old new b n all plan told script e =
    let d = due_is met e.text e.status Script e.sent.0 e.due in script_or_fault met.left all plan d.fault told script d.bad

-- ---- a script is replayed, or its definitions are printed

pub ran : (met : Met) (old new : Option (List ℕ)) (b n : ℕ) (result : Status) → Ends met old new b n result → (seed : Option ℕ) → command_of met.words ≡ Some (Replay seed)
    → (all : List ℕ) (plan : Plan) → met.left ≡ Some all → IsPlan (take read_limit all) plan → HasRun result
ran met old new b n Usage e seed asked all plan told script = no_usage met old new b n (Replay seed) asked e
ran met old new b n Script e seed asked all plan told script = no_script met old new b n all plan told script e
ran met old new b n Finished e seed asked all plan told script = tt
ran met old new b n Stuck e seed asked all plan told script = tt
ran met old new b n ReadFault e seed asked all plan told script = tt
ran met old new b n WriteFault e seed asked all plan told script = tt
ran met old new b n NoMemory e seed asked all plan told script = tt
ran met old new b n RigFault e seed asked all plan told script = tt

not_stuck : (c : Command) (plan : Plan) (back : GivenBack) (text : List ℕ) → c ≡ Check → IsObeyed c plan back Stuck text → ⊥
not_stuck (Replay seed) plan back text e h = absurd cc
not_stuck Check plan back text e h = let same : Stuck ≡ Finished = h.0 in cc

other_command : (seed : Option ℕ) → Replay seed ≡ Check → ⊥
other_command seed e = cc

pub checked : (met : Met) (old new : Option (List ℕ)) (b n : ℕ) (result : Status) → Ends met old new b n result → command_of met.words ≡ Some Check
    → (all : List ℕ) (plan : Plan) → met.left ≡ Some all → IsPlan (take read_limit all) plan → IsUnlessFailed Finished result
checked met old new b n Usage e asked all plan told script = absurd (no_usage met old new b n Check asked e)
checked met old new b n Script e asked all plan told script = absurd (no_script met old new b n all plan told script e)
checked met old new b n Stuck e asked all plan told script =
    let d = due_is met e.text e.status Stuck e.sent.0 e.due in absurd (not_stuck d.command d.plan met.back e.text (one_command (command_of met.words) d.command Check d.asked asked) d.obeyed)
checked met old new b n RigFault e asked all plan told script =
    let d = due_is met e.text e.status RigFault e.sent.0 e.due in absurd (other_command d.0.seed (one_command (command_of met.words) (Replay d.0.seed) Check d.0.asked asked))
checked met old new b n Finished e asked all plan told script = refl
checked met old new b n ReadFault e asked all plan told script = tt
checked met old new b n WriteFault e asked all plan told script = tt
checked met old new b n NoMemory e asked all plan told script = tt

-- ---- the first fault of bytes that are no script

pub script : (met : Met) (old new : Option (List ℕ)) (b n : ℕ) (result : Status) → Ends met old new b n result → IsAsked met.words
    → (all : List ℕ) (fault : ScriptFault) → met.left ≡ Some all → IsFirstFault (take read_limit all) fault → IsUnlessFailed Script result
script met old new b n Usage e asked all fault told first = absurd (no_usage met old new b n asked.command asked.asked e)
script met old new b n Finished e asked all fault told first =
    let d = due_is met e.text e.status Finished e.sent.0 e.due in absurd (fault_or_script met.left all d.plan fault told first d.script)
script met old new b n Stuck e asked all fault told first =
    let d = due_is met e.text e.status Stuck e.sent.0 e.due in absurd (fault_or_script met.left all d.plan fault told first d.script)
script met old new b n RigFault e asked all fault told first =
    let d = due_is met e.text e.status RigFault e.sent.0 e.due in absurd (fault_or_script met.left all d.0.plan fault told first d.0.script)
script met old new b n Script e asked all fault told first = refl
script met old new b n ReadFault e asked all fault told first = tt
script met old new b n WriteFault e asked all fault told first = tt
script met old new b n NoMemory e asked all fault told first = tt
