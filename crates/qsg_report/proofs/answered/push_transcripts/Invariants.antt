use Rattle.std.proofs.Common.{◌≡◌, ◌++◌, take}
use Rattle.qsg_report.specs.Answered.{transcripts_text}
use Rattle.qsg_report.proofs.answered.push_transcripts.Given as goal

abbrev pub invariant-loop-actor : goal.invariant-loop-actor
invariant-loop-actor g l = l.out.items ≡ l.fn.out.items ++ transcripts_text l.labels (g.T.Transcripts.told l.transcripts) (take l.actor-index l.actors)
