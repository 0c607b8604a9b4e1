-- a step of a work whose log failed leaves the structures
use Rattle.std.proofs.Common.{◌≡◌, Err, ap}
use Rattle.qsg_commit.specs.declared.phases.Phase.{Phase}
use Rattle.qsg_commit.specs.declared.phases.Phase.TheVariants.{Latch, Pages, Settle, Publish, GiveUp, Undo}
use Rattle.qsg_commit.specs.declared.phases.StepError.TheVariants.{LogFailed}
use Rattle.qsg_commit.specs.Next.{NextAt}
use Rattle.qsg_parts.specs.Owned.{Owned}
use Rattle.qsg_works.specs.declared.work.Work.{Work}
use Rattle.qsg_works.specs.declared.work.Work.TheVariants as work
use Rattle.qsg_works.specs.Steps.{NextWork}
use Rattle.qsg_num.specs.declared.seats.Member.{Member}
use Rattle.qsg_num.specs.declared.seats.TaskNo.{TaskNo}

page_structures : (m : Member) (t : TaskNo) (at new : Phase) (p q : Owned) → NextAt m t at p (Err LogFailed) new q → q.structures ≡ p.structures
page_structures m t Latch new p q next = absurd next
page_structures m t (Pages u count) new p q next = ap (λ (o : Owned). o.structures) next.1.parts
page_structures m t (Settle u count) new p q next = absurd next
page_structures m t (Publish u count) new p q next = absurd next
page_structures m t GiveUp new p q next = absurd next
page_structures m t (Undo u count) new p q next = absurd next

pub failed_structures : (before v : Work) (p q : Owned) → NextWork before p (Err LogFailed) v q → q.structures ≡ p.structures
failed_structures (work.Put w) (work.Put v) p q next = absurd next
failed_structures (work.Put w) (work.Get v) p q next = absurd next
failed_structures (work.Put w) (work.Commit v) p q next = absurd next
failed_structures (work.Get w) (work.Put v) p q next = absurd next
failed_structures (work.Get w) (work.Get v) p q next = absurd next
failed_structures (work.Get w) (work.Commit v) p q next = absurd next
failed_structures (work.Commit w) (work.Put v) p q next = absurd next
failed_structures (work.Commit w) (work.Get v) p q next = absurd next
failed_structures (work.Commit w) (work.Commit v) p q next = page_structures w.member w.task w.phase v.phase p q next.next
