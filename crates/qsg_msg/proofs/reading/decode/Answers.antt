use Rattle.std.proofs.Common.{◌≡◌, ℕ, length, ap, arith, ◌-◌}
use Rattle.std.proofs.lemmas.List.{length-append}
use Rattle.std.specs.Prelude.{Result, Err}
use Rattle.qsg_msg.specs.declared.message.Message.{Message}
use Rattle.qsg_msg.specs.declared.fault.MessageFault.{MessageFault}
use Rattle.qsg_msg.specs.declared.fault.MessageFault.TheVariants.{BadMessage}
use Rattle.qsg_msg.specs.Spelling.{spelling}
use Rattle.qsg_msg.proofs.Decoded.{found, is_found, is_only, is_none, left_within, is_place}
use Rattle.qsg_msg.proofs.reading.decode.Goals as goal

abbrev faulty : ℕ → Result (Message × ℕ) MessageFault
faulty at = Err (BadMessage at)

same_place : (a b : ℕ) → faulty b ≡ faulty a → a ≡ b
same_place a b e = cc

pub overflow_sub-result : goal.overflow_sub-result
overflow_sub-result c =
    let f = found c.args.input.now c.in-Ok.message c.in-Ok.rest.now (λ i. omega (arith, c.type_inv.input i)) c.in-Ok.ensures in
    omega (arith, ap length f.1, length-append (spelling c.in-Ok.message) c.in-Ok.rest.now)

pub overflow_sub-result-in-Err-Bad : goal.overflow_sub-result-in-Err-Bad
overflow_sub-result-in-Err-Bad c =
    let bad = rw c.in-Err-Bad.field-0-is at c.in-Err-Bad.ensures in
    left_within c.args.input.now c.in-Err-Bad.left (λ i. omega (arith, c.type_inv.input i)) bad

pub returns-in-Ok-clause-found : goal.returns-in-Ok-clause-found
returns-in-Ok-clause-found c = is_found c.args.input.now c.in-Ok.message c.in-Ok.rest.now (λ i. omega (arith, c.type_inv.input i)) c.in-Ok.ensures

pub returns-in-Ok-clause-reads_back : goal.returns-in-Ok-clause-reads_back
returns-in-Ok-clause-reads_back c = is_only c.args.input.now c.in-Ok.message c.in-Ok.rest.now (λ i. omega (arith, c.type_inv.input i)) c.in-Ok.ensures

pub returns-in-Err-Bad-clause-reads_back : goal.returns-in-Err-Bad-clause-reads_back
returns-in-Err-Bad-clause-reads_back c =
    let bad = rw c.in-Err-Bad.field-0-is at c.in-Err-Bad.ensures in
    λ m rest is whole. is_none c.args.input.now c.in-Err-Bad.left bad (spelling m) rest (m, is, λ i. spelling m) whole

pub returns-in-Err-Bad-clause-bad : goal.returns-in-Err-Bad-clause-bad
returns-in-Err-Bad-clause-bad c =
    let bad = rw c.in-Err-Bad.field-0-is at c.in-Err-Bad.ensures in
    λ at is. is_none c.args.input.now c.in-Err-Bad.left bad

pub returns-in-Err-Bad-clause-place : goal.returns-in-Err-Bad-clause-place
returns-in-Err-Bad-clause-place c =
    let bad = rw c.in-Err-Bad.field-0-is at c.in-Err-Bad.ensures in
    λ at is. is_place c.args.input.now c.in-Err-Bad.left at (λ i. omega (arith, c.type_inv.input i)) bad (same_place at (length c.args.input.now - c.in-Err-Bad.left) is)
