use Rattle.std.proofs.Common.{rules, ap, ap₂, true, ◌≡◌, ◌∙◌}
use Rattle.std.proofs.lemmas.Result.{IfOk-weaker}
use Rattle.clap.specs.Words.{App, app_of, rule_of, with_rule}
use Rattle.clap.specs.Simple.{app_of_fields}
use Rattle.qsg_words.specs.Form.{bare, word_rule, number_rule, seed_rule}
use Rattle.qsg_words.proofs.form.form.Goals as goal

pub returns : goal.returns
returns c =
    let word_is : rule_of c.required-word.result ≡ word_rule = search rules in
    let number_is : rule_of c.new-number.result ≡ number_rule = search rules in
    let seed_is : rule_of c.long-seed.result ≡ seed_rule = search rules in
    let bare_is : app_of c.disable_version_flag.result ≡ bare =
    ap app_of_fields c.disable_version_flag.ensures
    ∙ ap (λ (a : App). record a { top = record a.top { disable_version_flag = true } })
    (ap app_of_fields c.disable_help_flag.ensures
    ∙ ap (λ (a : App). record a { top = record a.top { disable_help_flag = true } })
    (ap app_of_fields c.no_binary_name.ensures
    ∙ ap (λ (a : App). record a { top = record a.top { no_binary_name = true } }) c.new-3.ensures.app)) in
    IfOk-weaker c.arg-3.result _ _ (λ r h. h.shape (search rules)
    ∙ ap₂ with_rule (c.in_ok-arg-2.ensures.shape (search rules)
    ∙ ap₂ with_rule (c.in_ok-arg.ensures.shape (search rules) ∙ ap₂ with_rule bare_is word_is) number_is) seed_is)
    c.arg-3.ensures
