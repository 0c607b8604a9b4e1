use Rattle.std.proofs.Common.{rules, ◌≡◌, ◌-◌, ◌<◌, length, arith, sym, subst, ◌∙◌}
use Rattle.qsg_logrec.proofs.Whole.{rest_within, left_within, whole_found, whole_only, whole_none, over_none, over_place, stop_place}
use Rattle.qsg_logrec.specs.Pages.{IsPageOf}
use Rattle.qsg_logrec.specs.PageReading.{page_at}
use Rattle.qsg_logrec.proofs.Areas.{page_reads}
use Rattle.qsg_logrec.proofs.Decoded.{same_page}
use Rattle.qsg_logrec.proofs.page.decode_page.Goals as goal

pub overflow_sub-result : goal.overflow_sub-result
overflow_sub-result c = rest_within IsPageOf page_at page_reads c.args.body.now c.in-Ok.pieces.items c.in-Ok.rest.now (λ i. omega (arith, c.type_inv.body i)) c.in-Ok.ensures

pub returns-then-not-is_empty-clause-reads_back : goal.returns-then-not-is_empty-clause-reads_back
returns-then-not-is_empty-clause-reads_back c =
    let more : 0 < length c.in-Ok.rest.now = search rules in
    λ ps is. over_none IsPageOf page_at page_reads c.args.body.now c.in-Ok.pieces.items c.in-Ok.rest.now c.in-Ok.ensures more ps is

pub returns-then-not-is_empty-clause-bad : goal.returns-then-not-is_empty-clause-bad
returns-then-not-is_empty-clause-bad c =
    let more : 0 < length c.in-Ok.rest.now = search rules in
    λ at is spelled. over_none IsPageOf page_at page_reads c.args.body.now c.in-Ok.pieces.items c.in-Ok.rest.now c.in-Ok.ensures more spelled.0 spelled.1

pub returns-then-not-is_empty-clause-place : goal.returns-then-not-is_empty-clause-place
returns-then-not-is_empty-clause-place c = λ at is. over_place IsPageOf page_at page_reads c.args.body.now c.in-Ok.pieces.items c.in-Ok.rest.now at (λ i. omega (arith, c.type_inv.body i)) c.in-Ok.ensures (same_page at (length c.args.body.now - length c.in-Ok.rest.now) is)

pub overflow_sub-result-in-Err-Bad : goal.overflow_sub-result-in-Err-Bad
overflow_sub-result-in-Err-Bad c =
    let bad = rw c.in-Err-Bad.field-0-is at c.in-Err-Bad.ensures in
    left_within IsPageOf page_at page_reads c.args.body.now c.in-Err-Bad.left (λ i. omega (arith, c.type_inv.body i)) bad

pub returns-else-not-is_empty-clause-found : goal.returns-else-not-is_empty-clause-found
returns-else-not-is_empty-clause-found c =
    let from : c.from_vec.result ≡ c.in-Ok.pieces.items = c.from_vec.ensures in
    let none : length c.in-Ok.rest.now ≡ 0 = search rules in
    subst (λ ps. IsPageOf ps c.args.body.now) (sym from) (whole_found IsPageOf page_at page_reads c.args.body.now c.in-Ok.pieces.items c.in-Ok.rest.now (λ i. omega (arith, c.type_inv.body i)) c.in-Ok.ensures none)

pub returns-else-not-is_empty-clause-reads_back : goal.returns-else-not-is_empty-clause-reads_back
returns-else-not-is_empty-clause-reads_back c =
    let from : c.from_vec.result ≡ c.in-Ok.pieces.items = c.from_vec.ensures in
    λ ps is. from ∙ (whole_only IsPageOf page_at page_reads c.args.body.now c.in-Ok.pieces.items c.in-Ok.rest.now c.in-Ok.ensures ps is).0

pub returns-in-Err-Bad-clause-reads_back : goal.returns-in-Err-Bad-clause-reads_back
returns-in-Err-Bad-clause-reads_back c =
    let bad = rw c.in-Err-Bad.field-0-is at c.in-Err-Bad.ensures in
    λ ps is. whole_none IsPageOf page_at page_reads c.args.body.now c.in-Err-Bad.left bad ps is

pub returns-in-Err-Bad-clause-bad : goal.returns-in-Err-Bad-clause-bad
returns-in-Err-Bad-clause-bad c =
    let bad = rw c.in-Err-Bad.field-0-is at c.in-Err-Bad.ensures in
    λ at is spelled. whole_none IsPageOf page_at page_reads c.args.body.now c.in-Err-Bad.left bad spelled.0 spelled.1

pub returns-in-Err-Bad-clause-place : goal.returns-in-Err-Bad-clause-place
returns-in-Err-Bad-clause-place c =
    let bad = rw c.in-Err-Bad.field-0-is at c.in-Err-Bad.ensures in
    λ at is. stop_place IsPageOf page_at page_reads c.args.body.now c.in-Err-Bad.left at (λ i. omega (arith, c.type_inv.body i)) bad (same_page at (length c.args.body.now - c.in-Err-Bad.left) is)
