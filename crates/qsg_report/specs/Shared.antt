-- what all members share: failures, structures, entries and queues
use Rattle.std.specs.Prelude.{ℕ, ◌-◌, ◌==◌, Bool, true, false, if◌then◌else◌, List, [], ◌∷◌, ◌++◌, length, slice_index, codes}
use Rattle.std.specs.List.{flat_map}
use Rattle.std.specs.Fmt.{decimal}
use Rattle.qsg_num.specs.declared.ids.Block.{Block}
use Rattle.qsg_num.specs.declared.seats.Member.{Member}
use Rattle.qsg_num.specs.declared.seats.Member.TheVariants as m
use Rattle.qsg_num.specs.Seats.{member_number}
use Rattle.qsg_lists.specs.declared.parts.Entry.{Entry}
use Rattle.qsg_lists.specs.declared.parts.Mark.{Mark}
use Rattle.qsg_lists.specs.declared.parts.Mark.TheVariants.{Visible, PutBy, GotBy, Cleanup}
use Rattle.qsg_lists.specs.declared.parts.Place.{Place}
use Rattle.qsg_lists.specs.declared.parts.Place.TheVariants.{Inline, Offloaded}
use Rattle.qsg_answers.specs.Answers.{kind_text, line_end}
use Rattle.qsg_answers.specs.Labels.{Labelling, member_text, incarnation_text, unit_text, state_text}
use Rattle.qsg_answers.specs.Texts.{id_text}
use Rattle.qsg_report.specs.declared.shown.ShownFailure.{ShownFailure}
use Rattle.qsg_report.specs.declared.shown.ShownStructure.{ShownStructure}
use Rattle.qsg_report.specs.declared.shown.ShownQueue.{ShownQueue}
use Rattle.qsg_report.specs.Words.{of_text}

abbrev pub every_member : List Member
every_member = m.One ∷ m.Two ∷ m.Three ∷ m.Four ∷ m.Five ∷ m.Six ∷ m.Seven ∷ m.Eight ∷ []

-- a member that settled entries is its name and how many they are
abbrev pub count_text : Labelling → Member → ℕ → List ℕ
count_text labels m count = if count == 0 then [] else codes " " ++ member_text labels m ++ codes " " ++ decimal count

abbrev pub counts_text : Labelling → List ℕ → List Member → List ℕ
counts_text labels counts members = flat_map (λ m. count_text labels m (slice_index counts (member_number m - 1))) members

abbrev pub resolved_text : Bool → List ℕ
resolved_text true = codes " resolved"
resolved_text false = codes " unresolved"

-- an incarnation that failed, and who settled how many of its entries
unfoldable pub failure_text : Labelling → ShownFailure → List ℕ
failure_text labels f = codes "failed " ++ incarnation_text labels f.member f.incarnation ++ resolved_text f.resolved ++ counts_text labels f.counts every_member ++ line_end

unfoldable pub structure_line : Labelling → ShownStructure → List ℕ
structure_line labels s = codes "structure " ++ s.name ++ codes " " ++ state_text labels s.state ++ codes " epoch " ++ decimal s.epoch ++ codes " used " ++ of_text s.used s.capacity

abbrev pub mark_text : Labelling → Mark → List ℕ
mark_text labels Visible = codes " visible"
mark_text labels (PutBy u) = codes " put " ++ unit_text labels u
mark_text labels (GotBy u) = codes " got " ++ unit_text labels u
mark_text labels Cleanup = codes " cleanup"

abbrev pub blocks_text : List Block → List ℕ
blocks_text blocks = flat_map (λ b. codes " " ++ decimal b.number) blocks

-- a body in the entry is its length; one outside its member, its length and its blocks
abbrev pub place_text : Labelling → Place → List ℕ
place_text labels (Inline body) = codes " inside " ++ decimal (length body)
place_text labels (Offloaded owner blocks length) = codes " at " ++ member_text labels owner ++ codes " length " ++ decimal length ++ codes " blocks" ++ blocks_text blocks

-- an entry is its id, its queue, its kind, who may have it, and where its body is
unfoldable pub entry_text : Labelling → Entry → List ℕ
entry_text labels e = codes "entry " ++ id_text e.id ++ codes " " ++ e.head.queue ++ kind_text e.head.priority e.head.persistent ++ mark_text labels e.mark ++ place_text labels e.place ++ line_end

abbrev pub entries_text : Labelling → ShownStructure → List ℕ
entries_text labels s = flat_map (entry_text labels) s.entries.items

abbrev pub queue_text : ShownQueue → List ℕ
queue_text q = codes "queue " ++ q.name ++ codes " depth " ++ decimal q.depth ++ line_end
