use Rattle.mqsc_define.proofs.Names.{structure_named_at, defined_structure}
use Rattle.mqsc_define.proofs.building.definition_of.Goals as goal

pub queue_of-requires : goal.queue_of-requires
queue_of-requires c = structure_named_at c.args.words.now c.word-item.result c.in-len2-up.len_at_least c.word-item.is c.requires (cc)

pub returns-in_ok-structure_of-in-Some-Cfstruct : goal.returns-in_ok-structure_of-in-Some-Cfstruct
returns-in_ok-structure_of-in-Some-Cfstruct c = defined_structure c.args.words.now c.word-item.result c.in-Some.name.now _ _ c.in-len2-up.len_at_least c.word-item.is (cc) (cc) c.in_ok-name-in-Some-Cfstruct.ensures c.in_ok-structure_of-in-Some-Cfstruct.ensures
