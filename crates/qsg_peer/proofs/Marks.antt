-- what a search finds
use Rattle.std.proofs.Common.{◌≡◌, true, List, Option, Some, None, Result, Ok, refl, sym, ap, ◌∙◌}
use Rattle.std.specs.Prelude.{find}
use Rattle.std.specs.Option.{option_and_then}
use Rattle.std.proofs.lemmas.Bool.{and_parts}
use Rattle.std.proofs.lemmas.Option.{none-some, same_Some}
use Rattle.qsg_num.specs.declared.ids.EntryId.{EntryId}
use Rattle.qsg_num.specs.declared.ids.Incarnation.{Incarnation}
use Rattle.qsg_num.specs.declared.seats.Member.{Member}
use Rattle.qsg_lists.specs.declared.parts.Connection.{Connection}
use Rattle.qsg_lists.specs.declared.parts.Entry.{Entry}
use Rattle.qsg_lists.specs.declared.parts.Lost.{Lost}
use Rattle.qsg_lists.specs.declared.parts.Mark.{Mark}
use Rattle.qsg_lists.specs.declared.parts.Mark.TheVariants.{Visible, PutBy, GotBy, Cleanup}
use Rattle.qsg_lists.specs.Entries.{is_above, is_marked_above}
use Rattle.qsg_lists.specs.Marks.{is_unit_of, names_member}
use Rattle.qsg_lists.specs.Structures.{lost_of, unless}
use Rattle.qsg_lists.proofs.Found.{find-passes}
use Rattle.qsg_manager.specs.Facilities.{structure_in}
use Rattle.qsg_parts.specs.Owned.{Owned}
use Rattle.qsg_manager.specs.declared.structures.MarkedEntry.{MarkedEntry}
use Rattle.qsg_manager.specs.Marked.{marked_by, marked_entry, marked_above}
use Rattle.qsg_peer.specs.declared.phases.FailedLife.{FailedLife}
use Rattle.qsg_peer.specs.Steps.{search_answer}

mark_unit : (m : Member) (i : Incarnation) (id : EntryId) (mark : Mark) (found : MarkedEntry) → names_member m i mark ≡ true → marked_by id mark ≡ Some found → is_unit_of m i found.unit ≡ true
mark_unit m i id Visible found names is = absurd (cc names)
mark_unit m i id (PutBy u) found names is = ap (λ (x : MarkedEntry). is_unit_of m i x.unit) (sym (same_Some _ found is)) ∙ names
mark_unit m i id (GotBy u) found names is = ap (λ (x : MarkedEntry). is_unit_of m i x.unit) (sym (same_Some _ found is)) ∙ names
mark_unit m i id Cleanup found names is = absurd (cc names)

-- the mark that is found names a unit of the incarnation
above_unit : (m : Member) (i : Incarnation) (after : EntryId) (es : List Entry) (found : MarkedEntry) → marked_above m i after es ≡ Some found → is_unit_of m i found.unit ≡ true
above_unit m i after es found is = by (find (is_marked_above m i after) es) refl is
  where
    by : (first : Option Entry) → find (is_marked_above m i after) es ≡ first → option_and_then marked_entry first ≡ Some found → is_unit_of m i found.unit ≡ true
    by None at same = absurd (none-some found same)
    by (Some e) at same = mark_unit m i e.id e.mark found (and_parts (is_above after e) (names_member m i e.mark) (find-passes (is_marked_above m i after) es e at)).1 same

pub served_answer : {A : Type 0} (lost : Option Lost) (answer x : A) → unless lost answer ≡ Ok x → answer ≡ x
served_answer None answer x is = cc is
served_answer (Some lost) answer x is = absurd (cc is)

pub found_unit : (life : FailedLife) (connection : Connection) (after : EntryId) (p : Owned) (found : MarkedEntry) → search_answer life connection after p ≡ Ok (Some found) → is_unit_of life.member life.incarnation found.unit ≡ true
found_unit life connection after p found is =
    above_unit life.member life.incarnation after (structure_in connection.structure p.structures).entries found
    (served_answer (lost_of (structure_in connection.structure p.structures) connection) _ (Some found) is)

-- the same of an answer by its parts
pub found_there : (life : FailedLife) (connection : Connection) (after : EntryId) (p : Owned) (answer : Result (Option MarkedEntry) Lost) (mark : Option MarkedEntry) (found : MarkedEntry) → answer ≡ search_answer life connection after p → answer ≡ Ok mark
    → mark ≡ Some found → is_unit_of life.member life.incarnation found.unit ≡ true
found_there life connection after p answer mark found is same some = found_unit life connection after p found (sym is ∙ same ∙ ap (λ (m : Option MarkedEntry). Ok m) some)
