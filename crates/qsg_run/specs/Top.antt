-- How a call ends: its status, the status's cause, and the bytes that it wrote.
use Rattle.std.specs.Prelude.{◌≡◌, ℕ, List, Option, Some, None}
use Rattle.std.specs.Io.KnownBytes.{Appends}
use Rattle.qsg_num.specs.Faults.{Rose}
use Rattle.qsg_io.specs.Writes.{AppendsFront}
use Rattle.qsg_objects.specs.declared.plans.Plan.{Plan}
use Rattle.qsg_report.specs.Check.{definitions_text}
use Rattle.qsg_script.specs.declared.faults.ScriptFault.{ScriptFault}
use Rattle.qsg_script.specs.Script.{IsPlan, IsFirstFault}
use Rattle.qsg_words.specs.declared.command.Command.{Command}
use Rattle.qsg_words.specs.declared.command.Command.TheVariants.{Replay, Check}
use Rattle.qsg_words.specs.Table.{command_of}
use Rattle.qsg_run.specs.declared.dues.Stop.{Stop}
use Rattle.qsg_run.specs.declared.dues.Stop.TheVariants as stop
use Rattle.qsg_run.specs.declared.status.Status.{Status}
use Rattle.qsg_run.specs.declared.status.Status.TheVariants.{Finished, Usage, Script, Stuck, ReadFault, WriteFault, NoMemory, RigFault}
use Rattle.qsg_run.specs.Outside.{Reads}
use Rattle.qsg_run.specs.Replays.{GivenBack, IsReplayed}
use Rattle.qsg_run.specs.Texts.{usage_text, fault_text, read_fault_text, rig_fault_text, no_memory_text}

-- What a call met: the words, the bytes that the source had left, the counts of faults of the source and of the rig before
-- and after it, and what the rig was given back.
pub record Met : Type 0 where
  pub words : List (List ℕ)
  pub left : Option (List ℕ)
  pub read_before : ℕ
  pub read_now : ℕ
  pub rig_before : ℕ
  pub rig_now : ℕ
  pub back : GivenBack

-- the words ask for something
pub record IsAsked (words : List (List ℕ)) : Type 0 where
  pub command : Command
  pub asked : command_of words ≡ Some command

-- the bytes read are the script of this plan
pub record IsScript (left : Option (List ℕ)) (plan : Plan) : Type 0 where
  pub bytes : List ℕ
  pub read : Reads left bytes
  pub script : IsPlan bytes plan

-- the bytes read have that first fault
pub record IsBadScript (left : Option (List ℕ)) (fault : ScriptFault) : Type 0 where
  pub bytes : List ℕ
  pub read : Reads left bytes
  pub bad : IsFirstFault bytes fault

-- what a command makes of a plan: the report of its replay, or its definitions
abbrev pub IsObeyed : Command → Plan → GivenBack → Status → List ℕ → Type 0
IsObeyed (Replay seed) plan back status text = IsReplayed seed plan back status text
IsObeyed Check plan back status text = (status ≡ Finished) × (text ≡ definitions_text plan.objects plan.sizes)

-- the bytes read are a script, and the text is what the command makes of its plan
pub record IsReport (met : Met) (status : Status) (text : List ℕ) : Type 0 where
  pub command : Command
  pub asked : command_of met.words ≡ Some command
  pub plan : Plan
  pub script : IsScript met.left plan
  pub obeyed : IsObeyed command plan met.back status text

-- a script was to be replayed, and the rig failed to make a device of its group
pub record IsRigFault (met : Met) : Type 0 where
  pub seed : Option ℕ
  pub asked : command_of met.words ≡ Some (Replay seed)
  pub plan : Plan
  pub script : IsScript met.left plan
  pub rose : Rose met.rig_before met.rig_now

-- why there is nothing to report
abbrev pub IsStop : Met → Stop → Type 0
IsStop met stop.Usage = command_of met.words ≡ None
IsStop met (stop.Script fault) = IsAsked met.words × IsBadScript met.left fault
IsStop met stop.Read = IsAsked met.words × Rose met.read_before met.read_now
IsStop met stop.Rig = IsRigFault met
IsStop met stop.NoMemory = Unit {0}

-- the line of a script's first fault
pub record IsFaultLine (met : Met) (text : List ℕ) : Type 0 where
  pub asked : IsAsked met.words
  pub fault : ScriptFault
  pub bad : IsBadScript met.left fault
  pub line : text ≡ fault_text fault

-- The status and the text that are due, by their cause.
abbrev pub IsDue : Met → Status → List ℕ → Type 0
IsDue met Finished text = IsReport met Finished text
IsDue met Stuck text = IsReport met Stuck text
IsDue met Usage text = (command_of met.words ≡ None) × (text ≡ usage_text)
IsDue met Script text = IsFaultLine met text
IsDue met ReadFault text = IsAsked met.words × Rose met.read_before met.read_now × (text ≡ read_fault_text)
IsDue met RigFault text = IsRigFault met × (text ≡ rig_fault_text)
IsDue met NoMemory text = text ≡ no_memory_text
IsDue met WriteFault text = ⊥

-- The text was written whole, and the status is the one that was due; or the sink failed behind some front of
-- the text. `old` and `new` are the bytes that the sink had written, `before` and `now` its counts of faults.
abbrev pub Sent : Status → List ℕ → Option (List ℕ) → Option (List ℕ) → ℕ → ℕ → Status → Type 0
Sent due text old new before now WriteFault = Rose before now × AppendsFront old new text
Sent due text old new before now other = (due ≡ other) × Appends old new text

-- a call ended with the status: some status and text were due, and the text was sent
pub record Ends (met : Met) (old new : Option (List ℕ)) (before now : ℕ) (result : Status) : Type 0 where
  pub status : Status
  pub text : List ℕ
  pub due : IsDue met status text
  pub sent : Sent status text old new before now result

-- the usage, unless memory was wanting or a write failed
abbrev pub IsUsage : Status → Type 0
IsUsage Usage = Unit {0}
IsUsage NoMemory = Unit {0}
IsUsage WriteFault = Unit {0}
IsUsage other = ⊥

-- the end of a run, unless memory was wanting or a read, a write or the rig failed
abbrev pub HasRun : Status → Type 0
HasRun Usage = ⊥
HasRun Script = ⊥
HasRun other = Unit {0}

-- the status is this one, unless memory was wanting or a read or a write failed
abbrev pub IsUnlessFailed : Status → Status → Type 0
IsUnlessFailed due ReadFault = Unit {0}
IsUnlessFailed due WriteFault = Unit {0}
IsUnlessFailed due NoMemory = Unit {0}
IsUnlessFailed due other = due ≡ other

-- ---- parts of a call

-- why the words give no command
abbrev pub IsNoCommand : Option Command → Stop → Type 0
IsNoCommand wanted stop.Usage = wanted ≡ None
IsNoCommand wanted stop.NoMemory = Unit {0}
IsNoCommand wanted other = ⊥

-- why a source gives no plan
abbrev pub IsNoPlan : Option (List ℕ) → ℕ → ℕ → Stop → Type 0
IsNoPlan left before now (stop.Script fault) = IsBadScript left fault
IsNoPlan left before now stop.Read = Rose before now
IsNoPlan left before now stop.NoMemory = Unit {0}
IsNoPlan left before now other = ⊥

-- why a command makes nothing of a plan
abbrev pub IsNoRun : Command → ℕ → ℕ → Stop → Type 0
IsNoRun command before now stop.NoMemory = Unit {0}
IsNoRun (Replay seed) before now stop.Rig = Rose before now
IsNoRun command before now other = ⊥
