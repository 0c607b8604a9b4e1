use Rattle.std.proofs.Common.{◌≡◌, take, drop}
use Rattle.qsg_model.specs.History.{held_from, held}
use Rattle.qsg_model.proofs.holding.held.Given as goal

abbrev pub invariant-loop-turn : goal.invariant-loop-turn
invariant-loop-turn l = held_from (take l.turn l.items) l.messages.items (drop l.turn l.items) ≡ held l.items
