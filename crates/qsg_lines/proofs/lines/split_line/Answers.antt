use Rattle.std.proofs.Common.{◌≡◌, ◌-◌, ◌+◌, [], length, take, drop, arith}
use Rattle.std.proofs.lemmas.List.{take_rest, drop_all}
use Rattle.qsg_lines.proofs.Splits.{line_to_feed, line_to_end}
use Rattle.qsg_lines.proofs.lines.split_line.Goals as goal

pub returns-then-byte-eq-LINE_FEED-clause-lines : goal.returns-then-byte-eq-LINE_FEED-clause-lines
returns-then-byte-eq-LINE_FEED-clause-lines c =
    let bs = c.args.bytes.now in
    rw (c.drop_return.ensures.value, take_rest bs (c.loop-at.at + 1)) (line_to_feed bs c.loop-at.at (omega arith) c.if-byte-eq-LINE_FEED.true c.loop-at.invariant)

pub returns-clause-lines : goal.returns-clause-lines
returns-clause-lines c =
    let bs = c.args.bytes.now in
    let e : take (length bs - length bs) (drop (length bs) bs) ≡ [] = rw (take_rest bs (length bs)) (drop_all (length bs) bs (omega arith)) in
    rw e (line_to_end bs (omega arith) (λ k l. c.loop-at.invariant k (omega arith)))
