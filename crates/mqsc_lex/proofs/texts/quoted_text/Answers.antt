use Rattle.std.proofs.Common.{◌≡◌, ◌++◌, [], string_bytes, rules, ap, is_ok}
use Rattle.std.proofs.ResultArms.{chosen}
use Rattle.std.proofs.lemmas.List.{nil_from_length}
use Rattle.mqsc_lex.proofs.Quoted.{ended, closed, going}
use Rattle.mqsc_lex.proofs.texts.quoted_text.Goals as goal

pub returns-then-is_empty : goal.returns-then-is_empty
returns-then-is_empty c =
    let none : c.cut_quoted.result.1.now ≡ [] = nil_from_length _ (search rules) in
    (string_bytes c.loop-rest.text ++ c.cut_quoted.result.0.now, ended (string_bytes c.loop-rest.text) c.loop-rest.invariant.1 c.cut_quoted.ensures none)

pub returns-then-not-begins_with : goal.returns-then-not-begins_with
returns-then-not-begins_with c =
    rw (chosen _ _ _ _ c.push_str.ensures.bytes (ap is_ok c.in_ok-push_str.was)) (closed (string_bytes c.loop-rest.text) c.loop-rest.invariant.1 c.cut_quoted.ensures _ c.behind_first-after.result.now c.behind_first-after.ensures
    (λ h. let t = c.begins_with.ensures.1 h in absurd cc))

pub loop-rest-preserved : goal.loop-rest-preserved
unfolding lib.Utf8.encode
loop-rest-preserved c = (
  c.behind_first-rest.utf8,
  rw (chosen _ _ _ _ c.push.ensures.bytes (ap is_ok c.in_ok-push.was), chosen _ _ _ _ c.push_str.ensures.bytes (ap is_ok c.in_ok-push_str.was)) (going (string_bytes c.loop-rest.text) c.loop-rest.invariant.1 c.cut_quoted.ensures _ _ c.behind_first-after.result.now c.behind_first-rest.result.now
      c.behind_first-after.ensures c.behind_first-rest.ensures (c.begins_with.ensures.0 (search rules))),
)
