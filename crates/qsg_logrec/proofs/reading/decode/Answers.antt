use Rattle.std.proofs.Common.{rules, ◌≡◌, ◌-◌, ◌<◌, length, arith}
use Rattle.qsg_logrec.proofs.Whole.{rest_within, left_within, whole_found, whole_only, whole_none, over_none, over_place, stop_place}
use Rattle.qsg_logrec.specs.Reading.{record_at}
use Rattle.qsg_logrec.proofs.RecordForms.{Recorded, record_reads}
use Rattle.qsg_logrec.proofs.Decoded.{place_is, same_record}
use Rattle.qsg_logrec.proofs.Sizes.{place_long}
use Rattle.qsg_logrec.proofs.reading.decode.Goals as goal

pub overflow_sub-result : goal.overflow_sub-result
overflow_sub-result c = rest_within Recorded record_at record_reads c.args.input.now c.in-Ok.record c.in-Ok.rest.now (λ i. omega (arith, c.type_inv.input i)) c.in-Ok.ensures

pub returns-then-not-is_empty-clause-reads_back : goal.returns-then-not-is_empty-clause-reads_back
returns-then-not-is_empty-clause-reads_back c =
    let more : 0 < length c.in-Ok.rest.now = search rules in
    λ r is e. over_none Recorded record_at record_reads c.args.input.now c.in-Ok.record c.in-Ok.rest.now c.in-Ok.ensures more r (is, e)

pub returns-then-not-is_empty-clause-bad : goal.returns-then-not-is_empty-clause-bad
returns-then-not-is_empty-clause-bad c =
    let more : 0 < length c.in-Ok.rest.now = search rules in
    λ at is spelled. over_none Recorded record_at record_reads c.args.input.now c.in-Ok.record c.in-Ok.rest.now c.in-Ok.ensures more spelled.0 (spelled.1, spelled.2)

pub returns-then-not-is_empty-clause-place : goal.returns-then-not-is_empty-clause-place
returns-then-not-is_empty-clause-place c = λ at is. place_is c.args.input.now at (over_place Recorded record_at record_reads c.args.input.now c.in-Ok.record c.in-Ok.rest.now at (λ i. omega (arith, c.type_inv.input i)) c.in-Ok.ensures (same_record at (length c.args.input.now - length c.in-Ok.rest.now) is))

pub returns-then-not-is_empty-clause-small : goal.returns-then-not-is_empty-clause-small
returns-then-not-is_empty-clause-small c = λ at is. place_long c.args.input.now at (place_is c.args.input.now at (over_place Recorded record_at record_reads c.args.input.now c.in-Ok.record c.in-Ok.rest.now at (λ i. omega (arith, c.type_inv.input i)) c.in-Ok.ensures (same_record at (length c.args.input.now - length c.in-Ok.rest.now) is)))

pub overflow_sub-result-in-Err-Bad : goal.overflow_sub-result-in-Err-Bad
overflow_sub-result-in-Err-Bad c =
    let bad = rw c.in-Err-Bad.field-0-is at c.in-Err-Bad.ensures in
    left_within Recorded record_at record_reads c.args.input.now c.in-Err-Bad.left (λ i. omega (arith, c.type_inv.input i)) bad

pub returns-else-not-is_empty-clause-found : goal.returns-else-not-is_empty-clause-found
returns-else-not-is_empty-clause-found c =
    let none : length c.in-Ok.rest.now ≡ 0 = search rules in
    whole_found Recorded record_at record_reads c.args.input.now c.in-Ok.record c.in-Ok.rest.now (λ i. omega (arith, c.type_inv.input i)) c.in-Ok.ensures none

pub returns-else-not-is_empty-clause-reads_back : goal.returns-else-not-is_empty-clause-reads_back
returns-else-not-is_empty-clause-reads_back c = λ r is e. (whole_only Recorded record_at record_reads c.args.input.now c.in-Ok.record c.in-Ok.rest.now c.in-Ok.ensures r (is, e)).0

pub returns-in-Err-Bad-clause-reads_back : goal.returns-in-Err-Bad-clause-reads_back
returns-in-Err-Bad-clause-reads_back c =
    let bad = rw c.in-Err-Bad.field-0-is at c.in-Err-Bad.ensures in
    λ r is e. whole_none Recorded record_at record_reads c.args.input.now c.in-Err-Bad.left bad r (is, e)

pub returns-in-Err-Bad-clause-bad : goal.returns-in-Err-Bad-clause-bad
returns-in-Err-Bad-clause-bad c =
    let bad = rw c.in-Err-Bad.field-0-is at c.in-Err-Bad.ensures in
    λ at is spelled. whole_none Recorded record_at record_reads c.args.input.now c.in-Err-Bad.left bad spelled.0 (spelled.1, spelled.2)

pub returns-in-Err-Bad-clause-place : goal.returns-in-Err-Bad-clause-place
returns-in-Err-Bad-clause-place c =
    let bad = rw c.in-Err-Bad.field-0-is at c.in-Err-Bad.ensures in
    λ at is. place_is c.args.input.now at (stop_place Recorded record_at record_reads c.args.input.now c.in-Err-Bad.left at (λ i. omega (arith, c.type_inv.input i)) bad (same_record at (length c.args.input.now - c.in-Err-Bad.left) is))

pub returns-in-Err-Bad-clause-small : goal.returns-in-Err-Bad-clause-small
returns-in-Err-Bad-clause-small c =
    let bad = rw c.in-Err-Bad.field-0-is at c.in-Err-Bad.ensures in
    λ at is. place_long c.args.input.now at (place_is c.args.input.now at (stop_place Recorded record_at record_reads c.args.input.now c.in-Err-Bad.left at (λ i. omega (arith, c.type_inv.input i)) bad (same_record at (length c.args.input.now - c.in-Err-Bad.left) is)))
