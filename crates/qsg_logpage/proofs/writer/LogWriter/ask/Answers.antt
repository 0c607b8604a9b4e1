use Rattle.std.proofs.Common.{◌%◌, ◌<◌, ap, refl, ◌∙◌, arith}
use Rattle.std.proofs.lemmas.Result.{on_ok_weaker}
use Rattle.std.proofs.Math.Nat.{mod-lt}
use Rattle.qsg_logpage.specs.Log.{LogState}
use Rattle.qsg_logpage.proofs.Fields.{asked_first_body, asked_next_body, asked_shut, asked_shut_sync, asked_body_sync, asked_gate, asked_gate_sync, made_none, made_whole}
use Rattle.qsg_logpage.specs.declared.step.Phase.TheVariants.{Fresh, GateShut, ShutSafe, BodyWritten, BodySafe}
use Rattle.qsg_logpage.proofs.writer.LogWriter.ask.Goals as goal

pub returns-then-lap-eq0-clause-asked : goal.returns-then-lap-eq0-clause-asked
returns-then-lap-eq0-clause-asked g c = λ told keep tied. asked_first_body c.self.inside c.in-Some.run' c.in-Some.is c.self.invariant c.args.self.now c.self.view_is keep _ _ c.write_body.result tied c.in-Fresh.is c.if-lap-eq0.true c.page.result.now c.page.ensures c.write_body.ensures.lap (c.write_body.ensures.beside told) (on_ok_weaker c.write_body.result (λ put. put told) c.write_body.ensures.written)

pub returns-else-lap-eq0-clause-asked : goal.returns-else-lap-eq0-clause-asked
returns-else-lap-eq0-clause-asked g c = λ told keep tied.
    let long = g.met.D.Disk.whole c.shut_gate.new.device (c.shut_gate.ensures.told ∙ told) in
    let below : c.self.inside.next.number % c.self.inside.size < c.self.inside.size = mod-lt c.self.inside.next.number c.self.invariant.some in
    let size = ap (λ (l : LogState). l.size) c.self.view_is in
    asked_shut c.self.inside c.in-Some.run' c.in-Some.is c.self.invariant c.args.self.now c.self.view_is keep _ _ c.shut_gate.result tied c.in-Fresh.is (λ e. omega (arith, c.if-lap-eq0.false, e)) (omega (arith, long, c.shut_gate.ensures.extent, c.requires.room, below, size)) (c.shut_gate.ensures.shut told)

pub returns-in-GateShut-clause-asked : goal.returns-in-GateShut-clause-asked
returns-in-GateShut-clause-asked g c = λ told keep tied. asked_shut_sync c.self.inside c.in-Some.run' c.in-Some.is c.self.invariant c.args.self.now c.self.view_is keep _ _ c.sync.result tied c.in-GateShut.is (c.sync.ensures.kept told) (on_ok_weaker c.sync.result (λ all. all told) c.sync.ensures.synced)

pub returns-in-ShutSafe-clause-asked : goal.returns-in-ShutSafe-clause-asked
returns-in-ShutSafe-clause-asked g c = λ told keep tied. asked_next_body c.self.inside c.in-Some.run' c.in-Some.is c.self.invariant c.args.self.now c.self.view_is keep _ _ c.write_body-in-ShutSafe.result tied c.in-ShutSafe.is c.page-in-ShutSafe.result.now c.page-in-ShutSafe.ensures c.write_body-in-ShutSafe.ensures.lap (c.write_body-in-ShutSafe.ensures.beside told) (on_ok_weaker c.write_body-in-ShutSafe.result (λ put. put told) c.write_body-in-ShutSafe.ensures.written)

pub returns-in-BodyWritten-clause-asked : goal.returns-in-BodyWritten-clause-asked
returns-in-BodyWritten-clause-asked g c = λ told keep tied. asked_body_sync c.self.inside c.in-Some.run' c.in-Some.is c.self.invariant c.args.self.now c.self.view_is keep _ _ c.sync-in-BodyWritten.result tied c.in-BodyWritten.is (c.sync-in-BodyWritten.ensures.kept told) (on_ok_weaker c.sync-in-BodyWritten.result (λ all. all told) c.sync-in-BodyWritten.ensures.synced)

pub returns-in-BodySafe-clause-asked : goal.returns-in-BodySafe-clause-asked
returns-in-BodySafe-clause-asked g c = λ told keep tied.
    let long = g.met.D.Disk.whole c.write.new.self (c.write.ensures.told ∙ told) in
    let below : c.self.inside.next.number % c.self.inside.size < c.self.inside.size = mod-lt c.self.inside.next.number c.self.invariant.some in
    let size = ap (λ (l : LogState). l.size) c.self.view_is in
    asked_gate c.self.inside c.in-Some.run' c.in-Some.is c.self.invariant c.args.self.now c.self.view_is keep _ _ c.write.result tied c.in-BodySafe.is (omega (arith, long, c.write.ensures.extent, c.requires.room, below, size)) (c.write.ensures.beside told) (c.write.ensures.torn told) (on_ok_weaker c.write.result (λ put. put told) c.write.ensures.written)

pub returns-in-GateWritten-clause-asked : goal.returns-in-GateWritten-clause-asked
returns-in-GateWritten-clause-asked g c = λ told keep tied. asked_gate_sync c.self.inside c.in-Some.run' c.in-Some.is c.self.invariant c.args.self.now c.self.view_is keep _ _ c.sync-in-GateWritten.result tied c.in-GateWritten.is (c.sync-in-GateWritten.ensures.kept told) (on_ok_weaker c.sync-in-GateWritten.result (λ all. all told) c.sync-in-GateWritten.ensures.synced)

pub returns-then-lap-eq0-clause-made : goal.returns-then-lap-eq0-clause-made
returns-then-lap-eq0-clause-made g c = λ told keep tied. made_none c.self.inside c.in-Some.run' c.in-Some.is c.self.invariant c.args.self.now c.self.view_is keep _ _ c.write_body.result tied Fresh c.in-Fresh.is refl

pub returns-else-lap-eq0-clause-made : goal.returns-else-lap-eq0-clause-made
returns-else-lap-eq0-clause-made g c = λ told keep tied. made_none c.self.inside c.in-Some.run' c.in-Some.is c.self.invariant c.args.self.now c.self.view_is keep _ _ c.shut_gate.result tied Fresh c.in-Fresh.is refl

pub returns-in-GateShut-clause-made : goal.returns-in-GateShut-clause-made
returns-in-GateShut-clause-made g c = λ told keep tied. made_none c.self.inside c.in-Some.run' c.in-Some.is c.self.invariant c.args.self.now c.self.view_is keep _ _ c.sync.result tied GateShut c.in-GateShut.is refl

pub returns-in-ShutSafe-clause-made : goal.returns-in-ShutSafe-clause-made
returns-in-ShutSafe-clause-made g c = λ told keep tied. made_none c.self.inside c.in-Some.run' c.in-Some.is c.self.invariant c.args.self.now c.self.view_is keep _ _ c.write_body-in-ShutSafe.result tied ShutSafe c.in-ShutSafe.is refl

pub returns-in-BodyWritten-clause-made : goal.returns-in-BodyWritten-clause-made
returns-in-BodyWritten-clause-made g c = λ told keep tied. made_none c.self.inside c.in-Some.run' c.in-Some.is c.self.invariant c.args.self.now c.self.view_is keep _ _ c.sync-in-BodyWritten.result tied BodyWritten c.in-BodyWritten.is refl

pub returns-in-BodySafe-clause-made : goal.returns-in-BodySafe-clause-made
returns-in-BodySafe-clause-made g c = λ told keep tied. made_none c.self.inside c.in-Some.run' c.in-Some.is c.self.invariant c.args.self.now c.self.view_is keep _ _ c.write.result tied BodySafe c.in-BodySafe.is refl

pub returns-in-GateWritten-clause-made : goal.returns-in-GateWritten-clause-made
returns-in-GateWritten-clause-made g c = λ told keep tied. made_whole c.self.inside c.in-Some.run' c.in-Some.is c.self.invariant c.args.self.now c.self.view_is keep _ _ c.sync-in-GateWritten.result tied c.in-GateWritten.is (on_ok_weaker c.sync-in-GateWritten.result (λ all. all told) c.sync-in-GateWritten.ensures.synced)
