use Rattle.std.proofs.Common.{ap, sym, subst, ◌∙◌}
use Rattle.qsg_parts.specs.Owned.{owned}
use Rattle.qsg_peers.specs.Peers.{Peer, peer_of, with_peer, Steps}
use Rattle.qsg_peers.specs.Rooms.{peer_in}
use Rattle.qsg_peers.proofs.Places.{held, stored, found, own, on_err}
use Rattle.qsg_peers.proofs.peers.Peers.step.Goals as goal

pub step-requires-clause-may : goal.step-requires-clause-may
step-requires-clause-may g c =
    let here = held c.args.member c.index.result c.self.inside.items.items c.index_mut.result.now c.args.self.now c.index.ensures.value c.index.ensures.bound c.self.invariant.0 c.index_mut.ensures.value c.self.view_is in
    λ work is. c.requires.may work (sym (ap (λ (p : Peer). p.work) here) ∙ is)

pub returns-clause-steps : goal.returns-clause-steps
returns-clause-steps g c =
    let here = held c.args.member c.index.result c.self.inside.items.items c.index_mut.result.now c.args.self.now c.index.ensures.value c.index.ensures.bound c.self.invariant.0 c.index_mut.ensures.value c.self.view_is in
    let there = found c.args.member c.index.result c.self.inside.items.items c.step.new.self c.args.self.now c.index.ensures.value c.index.ensures.bound c.self.invariant.0 c.self.view_is in
    λ work is. subst (λ (p : Peer). Steps c.args.at work (owned c.args.parts.now) c.step.result (peer_of c.args.member c.args.self.now) p (owned c.step.new.parts)) (sym there)
    (subst (λ (p : Peer). Steps c.args.at work (owned c.args.parts.now) c.step.result p (peer_in c.step.new.self) (owned c.step.new.parts)) here
    (c.step.ensures.steps work (ap (λ (p : Peer). p.work) here ∙ is)))

pub returns-clause-others : goal.returns-clause-others
returns-clause-others g c =
    stored c.args.member c.index.result c.self.inside.items.items c.step.new.self c.args.self.now c.index.ensures.value c.self.view_is
    ∙ ap (λ (p : Peer). with_peer c.args.member p c.args.self.now) (sym (found c.args.member c.index.result c.self.inside.items.items c.step.new.self c.args.self.now c.index.ensures.value c.index.ensures.bound c.self.invariant.0 c.self.view_is))

pub returns-clause-memory : goal.returns-clause-memory
returns-clause-memory g c =
    let here = held c.args.member c.index.result c.self.inside.items.items c.index_mut.result.now c.args.self.now c.index.ensures.value c.index.ensures.bound c.self.invariant.0 c.index_mut.ensures.value c.self.view_is in
    λ work is. c.step.ensures.memory work (ap (λ (p : Peer). p.work) here ∙ is)

pub returns-clause-unmade : goal.returns-clause-unmade
returns-clause-unmade g c =
    let here = held c.args.member c.index.result c.self.inside.items.items c.index_mut.result.now c.args.self.now c.index.ensures.value c.index.ensures.bound c.self.invariant.0 c.index_mut.ensures.value c.self.view_is in
    on_err c.step.result (λ left. (
      stored c.args.member c.index.result c.self.inside.items.items c.step.new.self c.args.self.now c.index.ensures.value c.self.view_is
          ∙ ap (λ (p : Peer). with_peer c.args.member p c.args.self.now) (left.0 ∙ here) ∙ own c.args.member c.args.self.now,
      left.1,
    )) c.step.ensures.unmade
