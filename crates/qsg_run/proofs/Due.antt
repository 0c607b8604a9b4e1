-- what is due
use Rattle.std.proofs.Common.{◌≡◌, ◌≢◌, ℕ, ◌⊎◌, inl, inr, List, Some, refl, sym, subst, ◌∙◌}
use Rattle.qsg_objects.specs.declared.plans.Plan.{Plan}
use Rattle.qsg_step.specs.States.{State}
use Rattle.qsg_words.specs.declared.command.Command.{Command}
use Rattle.qsg_words.specs.declared.command.Command.TheVariants.{Replay, Check}
use Rattle.qsg_words.specs.Table.{command_of}
use Rattle.qsg_run.specs.declared.dues.Stop.{Stop}
use Rattle.qsg_run.specs.declared.dues.Stop.TheVariants as stop
use Rattle.qsg_run.specs.declared.status.Status.{Status}
use Rattle.qsg_run.specs.declared.status.Status.TheVariants.{Finished, Usage, Script, Stuck, ReadFault, WriteFault, NoMemory, RigFault}
use Rattle.qsg_run.specs.Replays.{GivenBack, IsEnd}
use Rattle.qsg_run.specs.Top.{Met, IsAsked, IsScript, IsObeyed, IsReport, IsStop, IsDue, IsNoCommand, IsNoPlan, IsNoRun}

end_is : (s : State) (status : Status) → IsEnd s status → (status ≡ Finished) ⊎ (status ≡ Stuck)
end_is s Finished h = inl refl
end_is s Stuck h = inr refl
end_is s Usage h = absurd h
end_is s Script h = absurd h
end_is s ReadFault h = absurd h
end_is s WriteFault h = absurd h
end_is s NoMemory h = absurd h
end_is s RigFault h = absurd h

obeyed_is : (command : Command) (plan : Plan) (back : GivenBack) (status : Status) (text : List ℕ) → IsObeyed command plan back status text → (status ≡ Finished) ⊎ (status ≡ Stuck)
obeyed_is (Replay seed) plan back status text h = end_is h.after status h.reported.ended
obeyed_is Check plan back status text h = inl h.0

pub writes : (met : Met) (status : Status) (text : List ℕ) → IsReport met status text → status ≢ WriteFault
writes met status text h e = by (obeyed_is h.command h.plan met.back status text h.obeyed)
  where
    by : (status ≡ Finished) ⊎ (status ≡ Stuck) → ⊥
    by (inl f) = let same : Finished ≡ WriteFault = sym f ∙ e in cc
    by (inr f) = let same : Stuck ≡ WriteFault = sym f ∙ e in cc

pub report_due : (met : Met) (status : Status) (text : List ℕ) → IsReport met status text → IsDue met status text
report_due met status text h = by (obeyed_is h.command h.plan met.back status text h.obeyed)
  where
    by : (status ≡ Finished) ⊎ (status ≡ Stuck) → IsDue met status text
    by (inl f) = subst (λ (s : Status). IsDue met s text) (sym f) (subst (λ (s : Status). IsReport met s text) f h)
    by (inr f) = subst (λ (s : Status). IsDue met s text) (sym f) (subst (λ (s : Status). IsReport met s text) f h)

-- why there is nothing to report, by the part of the call that stopped
pub words_stop : (met : Met) (e : Stop) → IsNoCommand (command_of met.words) e → IsStop met e
words_stop met stop.Usage h = h
words_stop met stop.NoMemory h = tt
words_stop met (stop.Script fault) h = absurd h
words_stop met stop.Read h = absurd h
words_stop met stop.Rig h = absurd h

pub plan_stop : (met : Met) (e : Stop) → IsAsked met.words → IsNoPlan met.left met.read_before met.read_now e → IsStop met e
plan_stop met (stop.Script fault) asked h = (asked, h)
plan_stop met stop.Read asked h = (asked, h)
plan_stop met stop.NoMemory asked h = tt
plan_stop met stop.Usage asked h = absurd h
plan_stop met stop.Rig asked h = absurd h

pub run_stop : (met : Met) (command : Command) (plan : Plan) (e : Stop) → command_of met.words ≡ Some command → IsScript met.left plan → IsNoRun command met.rig_before met.rig_now e → IsStop met e
run_stop met command plan stop.NoMemory asked script h = tt
run_stop met (Replay seed) plan stop.Rig asked script h = record { seed = seed; asked = asked; plan = plan; script = script; rose = h }
run_stop met Check plan stop.Rig asked script h = absurd h
run_stop met (Replay seed) plan stop.Usage asked script h = absurd h
run_stop met Check plan stop.Usage asked script h = absurd h
run_stop met (Replay seed) plan stop.Read asked script h = absurd h
run_stop met Check plan stop.Read asked script h = absurd h
run_stop met (Replay seed) plan (stop.Script fault) asked script h = absurd h
run_stop met Check plan (stop.Script fault) asked script h = absurd h
