-- how many entries an incarnation has marked
use Rattle.std.proofs.Common.{◌≤◌, Bool, true, false, cond, List, arith}
use Rattle.std.proofs.lemmas.List.Sums.{sum_by-le-sum_by}
use Rattle.qsg_num.specs.declared.seats.Member.{Member}
use Rattle.qsg_num.specs.declared.ids.Incarnation.{Incarnation}
use Rattle.qsg_lists.specs.declared.parts.Entry.{Entry}
use Rattle.qsg_lists.specs.declared.parts.Place.{Place}
use Rattle.qsg_lists.specs.declared.parts.Place.TheVariants.{Inline, Offloaded}
use Rattle.qsg_lists.specs.Entries.{cost_of, used_of}
use Rattle.qsg_lists.specs.Marks.{names_member}
use Rattle.qsg_manager.specs.Marked.{marks_in}

counts_at_most : (marked : Bool) (place : Place) → cond marked 1 0 ≤ cost_of place
counts_at_most true (Inline body) = omega arith
counts_at_most true (Offloaded owner blocks length) = omega arith
counts_at_most false place = omega arith

-- as each entry takes an element
pub marks_in-le-used_of : (m : Member) (i : Incarnation) (entries : List Entry) → marks_in m i entries ≤ used_of entries
marks_in-le-used_of m i entries = sum_by-le-sum_by (λ (e : Entry). cond (names_member m i e.mark) 1 0) (λ (e : Entry). cost_of e.place) entries (λ e. counts_at_most (names_member m i e.mark) e.place)
