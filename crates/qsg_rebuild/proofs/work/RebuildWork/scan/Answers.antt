use Rattle.qsg_lists.specs.Structures.{lost_of}
use Rattle.qsg_manager.specs.Facilities.{structure_in}
use Rattle.qsg_rebuild.proofs.Needing.{lent_within}
use Rattle.qsg_rebuild.proofs.work.RebuildWork.scan.Goals as goal

pub claim-requires-clause-within : goal.claim-requires-clause-within
claim-requires-clause-within g c = lent_within c.in-Ok-Some.entry c.in-Ok-Some.field-0 (lost_of (structure_in c.args.self.now.structure c.args.parts.now.structures) (record { structure = c.args.self.now.structure; epoch = c.args.epoch })) c.args.after c.args.self.now.member _
    (structure_in c.args.self.now.structure c.args.parts.now.structures) c.in-Ok-Some.field-0-is c.in-Ok-Some.ensures c.requires.may.within
