use Rattle.qsg_step.specs.States.{State}
use Rattle.qsg_sound.specs.Sound.{AreTypesKept}
use Rattle.qsg_working.specs.Views.{state_of}
use Rattle.qsg_sysplex.proofs.Stepping.{have_ids, types_kept, stays_kept}
use Rattle.qsg_sysplex.proofs.sysplex.Sysplex.step.Goals as goal

pub invariant_of-self : goal.invariant_of-self
invariant_of-self g c =
    let s : State = state_of c.self.inside.working in
    let r : State = state_of c.step-made.new.self in
    let types : AreTypesKept r = types_kept r c.logs_are_kept.ensures c.structures_are_kept.ensures c.peers_are_kept.ensures c.start_is_kept.ensures in
    stays_kept s r c.args.actor c.step-made.result
    (λ step made. c.a_step_keeps_a_group.ensures s r c.args.actor step c.self.invariant (have_ids c.args.actor s c.next_has_ids.ensures) types made)
    (λ unmade. c.a_step_that_wants_memory_keeps_a_group.ensures s r c.self.invariant types unmade)
    c.step-made.ensures.next
    c.step-made.ensures.unmade
