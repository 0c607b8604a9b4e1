use Rattle.std.proofs.Common.{◌≡◌, ◌%◌, length, arith, ◌∙◌}
use Rattle.std.proofs.lemmas.Bool.Decides.{nat_tests}
use Rattle.qsg_grammar.proofs.Digits.{even_digits, odd_digits}
use Rattle.qsg_grammar.proofs.values.are_bytes.Goals as goal

pub returns-then-text-eq0 : goal.returns-then-text-eq0
returns-then-text-eq0 c =
    let even : length c.args.text.now % 2 ≡ 0 = grind (arith, nat_tests) in
    c.are_digits.ensures ∙ even_digits c.args.text.now even

pub returns-else-text-eq0 : goal.returns-else-text-eq0
returns-else-text-eq0 c =
    let odd : length c.args.text.now % 2 ≡ 1 = grind (arith, nat_tests) in
    rw odd (odd_digits c.args.text.now odd)
