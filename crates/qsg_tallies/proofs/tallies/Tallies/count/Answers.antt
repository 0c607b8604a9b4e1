use Rattle.std.proofs.Common.{◌≡◌, ◌∙◌, ap, sym, Some, None}
use Rattle.std.specs.Prelude.{position, slice_set}
use Rattle.qsg_tallies.specs.Tallies.{is_tally_of, with_one}
use Rattle.qsg_tallies.proofs.Counting.{at_place, no_place}
use Rattle.qsg_tallies.proofs.tallies.Tallies.count.Goals as goal

pub returns-in-Some : goal.returns-in-Some
returns-in-Some c =
    let found : position (is_tally_of c.args.member c.args.incarnation) c.self.inside.items.items ≡ Some c.in-Some.place = rw (← c.as_slice.ensures.value) (sym c.place_of.ensures ∙ c.in-Some.is) in
    let placed = at_place c.args.member c.args.incarnation c.args.by c.self.inside.items.items c.in-Some.place c.index.result.now found in
    let row = c.with_one.ensures ∙ ap (with_one c.args.by) c.index.ensures in
    rw (← c.self.view_is) (ap (λ rows. record { limit = c.self.inside.limit; rows = rows }) (ap (slice_set c.self.inside.items.items c.in-Some.place) row ∙ placed))

pub returns-in_default : goal.returns-in_default
returns-in_default c =
    let none : position (is_tally_of c.args.member c.args.incarnation) c.self.inside.items.items ≡ None = rw (← c.as_slice.ensures.value) (sym c.place_of.ensures ∙ c.in_default.is) in
    rw (← c.self.view_is) (ap (λ rows. record { limit = c.self.inside.limit; rows = rows }) (no_place c.args.member c.args.incarnation c.args.by c.self.inside.items.items none))
