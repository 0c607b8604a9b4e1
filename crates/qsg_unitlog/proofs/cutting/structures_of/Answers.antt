use Rattle.std.proofs.Common.{◌≡◌, ◌≤◌, ◌+◌, ℕ, Bool, cond, sym, ap, subst, ◌∙◌}
use Rattle.std.proofs.lemmas.Option.{IfSome_then}
use Rattle.qsg_num.specs.declared.seats.StructNo.TheVariants.{One, Two, Three, Four}
use Rattle.qsg_logrec.specs.Sets.{structures_in}
use Rattle.qsg_unitlog.specs.Sets.{uses}
use Rattle.qsg_unitlog.proofs.Logged.{bits, bits_of, bits_most, bits_some, bits_back}
use Rattle.qsg_unitlog.proofs.cutting.structures_of.Goals as goal

pub returns-clause-some : goal.returns-clause-some
returns-clause-some c =
    let one : c.worth.result ≡ cond (uses c.args.ops.now One) 1 0 = c.worth.ensures ∙ ap (λ (b : Bool). cond b 1 0) c.uses.ensures in
    let two : c.worth-2.result ≡ cond (uses c.args.ops.now Two) 2 0 = c.worth-2.ensures ∙ ap (λ (b : Bool). cond b 2 0) c.uses-2.ensures in
    let three : c.worth-3.result ≡ cond (uses c.args.ops.now Three) 4 0 = c.worth-3.ensures ∙ ap (λ (b : Bool). cond b 4 0) c.uses-3.ensures in
    let four : c.worth-4.result ≡ cond (uses c.args.ops.now Four) 8 0 = c.worth-4.ensures ∙ ap (λ (b : Bool). cond b 8 0) c.uses-4.ensures in
    let same : c.worth.result + c.worth-2.result + (c.worth-3.result + c.worth-4.result) ≡ bits (uses c.args.ops.now) = (λ i. one i + two i + (three i + four i)) in (
      (λ some. bits_back c.args.ops.now (subst (λ (n : ℕ). 1 ≤ n) same (c.new.ensures.valid.0 some).0)),
      (λ some. c.new.ensures.valid.1 (subst (λ (n : ℕ). 1 ≤ n) (sym same) (bits_some c.args.ops.now some), subst (λ (n : ℕ). n ≤ 15) (sym same) (bits_most (uses c.args.ops.now)))),
    )

pub returns-clause-set : goal.returns-clause-set
returns-clause-set c =
    let one : c.worth.result ≡ cond (uses c.args.ops.now One) 1 0 = c.worth.ensures ∙ ap (λ (b : Bool). cond b 1 0) c.uses.ensures in
    let two : c.worth-2.result ≡ cond (uses c.args.ops.now Two) 2 0 = c.worth-2.ensures ∙ ap (λ (b : Bool). cond b 2 0) c.uses-2.ensures in
    let three : c.worth-3.result ≡ cond (uses c.args.ops.now Three) 4 0 = c.worth-3.ensures ∙ ap (λ (b : Bool). cond b 4 0) c.uses-3.ensures in
    let four : c.worth-4.result ≡ cond (uses c.args.ops.now Four) 8 0 = c.worth-4.ensures ∙ ap (λ (b : Bool). cond b 8 0) c.uses-4.ensures in
    let same : c.worth.result + c.worth-2.result + (c.worth-3.result + c.worth-4.result) ≡ bits (uses c.args.ops.now) = (λ i. one i + two i + (three i + four i)) in
    IfSome_then c.new.result c.new.ensures.set (λ set is. is ∙ ap structures_in same ∙ bits_of c.args.ops.now)
