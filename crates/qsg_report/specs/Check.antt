-- the definitions of a group
use Rattle.std.specs.Prelude.{ℕ, ◌-◌, ◌*◌, Bool, true, false, List, [], ◌∷◌, ◌++◌, slice_get, slice_index, codes, Option, Some, None}
use Rattle.std.specs.List.{flat_map}
use Rattle.std.specs.Fmt.{decimal}
use Rattle.qsg_num.specs.declared.seats.StructNo.{StructNo}
use Rattle.qsg_num.specs.declared.seats.StructNo.TheVariants as s
use Rattle.qsg_num.specs.declared.words.Delivery.{Delivery}
use Rattle.qsg_num.specs.declared.words.Delivery.TheVariants.{Priority, Fifo}
use Rattle.qsg_num.specs.declared.words.Rules.{Rules}
use Rattle.qsg_num.specs.Seats.{structure_number, priority_number}
use Rattle.qsg_objects.specs.declared.plans.Size.{Size}
use Rattle.qsg_objects.specs.declared.registry.Cfstruct.{Cfstruct}
use Rattle.qsg_objects.specs.declared.registry.Queue.{Queue}
use Rattle.qsg_objects.specs.Registry.{Registry, structure_numbered}
use Rattle.qsg_answers.specs.Answers.{line_end}

abbrev pub yes_text : Bool → List ℕ
yes_text true = codes "YES"
yes_text false = codes "NO"

abbrev pub enabled_text : Bool → List ℕ
enabled_text true = codes "ENABLED"
enabled_text false = codes "DISABLED"

abbrev pub order_text : Delivery → List ℕ
order_text Priority = codes "PRIORITY"
order_text Fifo = codes "FIFO"

-- an offload rule is its threshold in percent, and its size in bytes
abbrev pub rule_text : ℕ → ℕ → List ℕ
rule_text threshold size_k = codes " " ++ decimal threshold ++ codes "/" ++ decimal (size_k * 1024)

unfoldable pub rules_text : Rules → List ℕ
rules_text r = codes " rules" ++ rule_text (slice_index r.threshold 0) (slice_index r.size_k 0) ++ rule_text (slice_index r.threshold 1) (slice_index r.size_k 1) ++ rule_text (slice_index r.threshold 2) (slice_index r.size_k 2)

unfoldable pub cfstruct_text : Cfstruct → Size → List ℕ
cfstruct_text c size =
    codes "cfstruct " ++ c.definition.name
    ++ codes " recover " ++ yes_text c.definition.recover
    ++ codes " dsblock " ++ decimal c.definition.dsblock
    ++ rules_text c.definition.rules
    ++ codes " elements " ++ decimal size.elements
    ++ codes " blocks " ++ decimal size.blocks ++ line_end

abbrev pub sized_text : Option Cfstruct → Option Size → List ℕ
sized_text None size = []
sized_text (Some c) None = []
sized_text (Some c) (Some size) = cfstruct_text c size

abbrev pub every_structure : List StructNo
every_structure = s.One ∷ s.Two ∷ s.Three ∷ s.Four ∷ []

-- the structure of a number, with its size
abbrev pub numbered_text : Registry → List Size → StructNo → List ℕ
numbered_text o sizes n = sized_text (structure_numbered n o) (slice_get sizes (structure_number n - 1))

-- where a queue is, and whether it is open
unfoldable pub access_text : Queue → List ℕ
access_text q =
    codes "queue " ++ q.definition.name
    ++ codes " structure " ++ q.definition.cfstruct
    ++ codes " put " ++ enabled_text q.definition.put
    ++ codes " get " ++ enabled_text q.definition.get

-- what a queue gives a message, in which order it delivers, and its limits
unfoldable pub limits_text : Queue → List ℕ
limits_text q =
    codes " pri " ++ decimal (priority_number q.definition.defprty)
    ++ codes " pers " ++ yes_text q.definition.defpsist
    ++ codes " order " ++ order_text q.definition.msgdlvsq
    ++ codes " depth " ++ decimal q.definition.maxdepth
    ++ codes " length " ++ decimal q.definition.maxmsgl ++ line_end

abbrev pub qlocal_text : Queue → List ℕ
qlocal_text q = access_text q ++ limits_text q

abbrev pub placed_text : Option Queue → List ℕ
placed_text None = []
placed_text (Some q) = qlocal_text q

-- the structures in order of their numbers, and the queues in order of definition
abbrev pub definitions_text : Registry → List Size → List ℕ
definitions_text o sizes = flat_map (numbered_text o sizes) every_structure ++ flat_map qlocal_text o.queues
