use Rattle.std.proofs.Common.{ap, refl, sym, codes, true, map, string_bytes, ◌≡◌, ◌∙◌}
use Rattle.clap.specs.Words.{App, fault_of, first_of, found_of, is_simple, is_simple_and_free, matches_of}
use Rattle.clap.proofs.WalkLemmas.{first_value-rows}
use Rattle.clap.proofs.OnLiterals.{clap_on_literals}
use Rattle.qsg_words.specs.Form.{form}
use Rattle.qsg_words.proofs.form.read.Goals as goal

is_free : is_simple_and_free form ≡ true
unfolding clap_on_literals
is_free = refl

is_plain : is_simple form ≡ true
unfolding clap_on_literals
is_plain = refl

pub returns-in-Ok-clause-ok : goal.returns-in-Ok-clause-ok
returns-in-Ok-clause-ok c =
    let words = map string_bytes c.args.words.now in
    let found = found_of c.in-Ok.matches in
    let rows = (c.in-Ok.ensures.matches (ap is_simple c.requires ∙ is_plain)).0 ∙ ap (λ (a : App). matches_of a words) c.requires in
    let word = c.found.ensures.word ∙ first_value-rows found (codes "word") ∙ ap (first_of (codes "word")) rows in
    let number = c.found.ensures.number ∙ first_value-rows found (codes "number") ∙ ap (first_of (codes "number")) rows in
    let seed = c.found.ensures.seed ∙ first_value-rows found (codes "seed") ∙ ap (first_of (codes "seed")) rows in record {
      right = sym (ap (λ (a : App). fault_of a words) c.requires) ∙ c.in-Ok.ensures.kinds (ap is_simple_and_free c.requires ∙ is_free);
      given = λ i. record { word = word i; number = number i; seed = seed i };
    }
