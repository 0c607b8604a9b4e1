-- a step of a cleaning is an action of the machine
use Rattle.std.proofs.Common.{◌≡◌, true, false, Bool, cond, Option, Some, None, Result, Ok, refl, sym, ap, subst, ◌∙◌, true≢false, inl, inr}
use Rattle.std.specs.Prelude.{◌⊎◌, ◌&&◌}
use Rattle.qsg_num.specs.declared.ids.EntryId.{EntryId}
use Rattle.qsg_num.specs.declared.seats.Member.{Member}
use Rattle.qsg_lists.specs.declared.parts.Connection.{Connection}
use Rattle.qsg_lists.specs.declared.parts.Entry.{Entry}
use Rattle.qsg_lists.specs.declared.parts.Lost.{Lost}
use Rattle.qsg_lists.specs.declared.parts.Settled.{Settled}
use Rattle.qsg_lists.specs.declared.parts.Settled.TheVariants.{Done}
use Rattle.qsg_lists.specs.Entries.{entry_at, is_owned}
use Rattle.qsg_lists.specs.Marks.{is_cleanup}
use Rattle.qsg_lists.specs.Settling.{told_by, forget_answer, revised_if_done, deleted}
use Rattle.qsg_lists.specs.Structures.{ListStructure, lost_of, unless}
use Rattle.qsg_group.specs.Group.{Group}
use Rattle.qsg_group.specs.Changes.{Change}
use Rattle.qsg_manager.specs.Facilities.{with_structure}
use Rattle.qsg_manager.specs.Groups.{Rest, group_of}
use Rattle.qsg_manager.proofs.Ungets.{forget_is_forget}
use Rattle.qsg_parts.specs.Owned.{Owned}
use Rattle.qsg_cleaning.specs.declared.phases.Phase.{Phase}
use Rattle.qsg_cleaning.specs.declared.phases.Phase.TheVariants.{Connect, Search, Forget}
use Rattle.qsg_cleaning.specs.declared.work.CleaningWork.{CleaningWork}
use Rattle.qsg_cleaning.specs.Needs.{MayClean}
use Rattle.qsg_cleaning.specs.Steps.{structure_of, connection_of, is_to_clean, after_step, next_of}
use Rattle.qsg_cleaning.specs.Forgetting.{HasForgotten, HasCleaned}
use Rattle.qsg_cleaning.specs.Machine.{group_in, IsStep}
use Rattle.qsg_cleaning.proofs.Forgetting.{has_cleaned}

-- an entry that was forgotten may be
is_done : (m : Member) (c : Connection) (id : EntryId) (p q : Owned) → HasForgotten m c id p q → forget_answer (structure_of c.structure p) c id ≡ Ok Done
is_done m c id p q has = let is = marked has.entry has.to_clean in rw (has.served, has.there, is) refl
  where
    marked : (e : Entry) → is_to_clean m e ≡ true → is_cleanup e.mark ≡ true
    marked e is = by (is_cleanup e.mark) is
      where
        by : (b : Bool) → (b && is_owned m e.place) ≡ true → b ≡ true
        by true holds = refl
        by false fails = fails

forgotten_step : (rest : Rest) (m : Member) (c : Connection) (id : EntryId) (p q : Owned) → MayClean m c.structure p → HasForgotten m c id p q → Change (group_in rest p) (group_in rest q)
forgotten_step rest m c id p q may has =
    let old = structure_of c.structure p in
    let done = is_done m c id p q has in
    subst (λ (x : Owned). Change (group_in rest p) (group_in rest x)) (sym has.parts)
    (subst (λ (l : ListStructure). Change (group_in rest p) (group_of rest (with_structure c.structure l p.structures) p.managers)) (ap (λ (a : Result Settled Lost). revised_if_done a id deleted old) done)
    (forget_is_forget rest p.structures p.managers c id (record { within = may.structure; done = done })))

cleaned_step : (rest : Rest) (phase : Phase) (w : CleaningWork) (p q : Owned) → MayClean w.member w.structure p → HasCleaned phase w p q → IsStep (group_in rest p) (group_in rest q)
cleaned_step rest Connect w p q may same = inl (ap (group_in rest) same)
cleaned_step rest (Search epoch) w p q may same = inl (ap (group_in rest) same)
cleaned_step rest (Forget epoch id) w p q may (inl same) = inl (ap (group_in rest) same)
cleaned_step rest (Forget epoch id) w p q may (inr has) = inr (forgotten_step rest w.member (connection_of w epoch) id p q may has)

pub is_step : (rest : Rest) (w : CleaningWork) (p : Owned) → MayClean w.member w.structure p → IsStep (group_in rest p) (group_in rest (next_of w p).parts)
is_step rest w p may = cleaned_step rest w.phase w p (next_of w p).parts may (has_cleaned w p)
