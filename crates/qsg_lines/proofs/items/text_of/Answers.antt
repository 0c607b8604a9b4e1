use Rattle.std.proofs.Common.{◌≡◌, string_bytes, ap, subst, refl, false}
use Rattle.std.specs.Str.{IsUtf8, is_utf8}
use Rattle.std.proofs.lemmas.Str.{is_utf8-from_IsUtf8, IsUtf8-had}
use Rattle.qsg_lines.proofs.Texts.{no_text}
use Rattle.qsg_lines.proofs.items.text_of.Goals as goal

pub returns-in-Ok-clause-value : goal.returns-in-Ok-clause-value
returns-in-Ok-clause-value c =
    let same : string_bytes c.in-Ok.text ≡ c.args.bytes.items = ap (λ v. v.items) c.in-Ok.ensures.ok in
    let text : IsUtf8 c.args.bytes.items = subst IsUtf8 same (IsUtf8-had _ c.in-Ok.text.ok) in
    rw (c.from_string.ensures, is_utf8-from_IsUtf8 _ text, same) refl

pub returns-clause-value : goal.returns-clause-value
returns-clause-value c =
    let no_text : is_utf8 c.args.bytes.items ≡ false = no_text _ (λ u. let ok = c.in-Err.ensures.succeeds u in absurd cc) in
    rw no_text refl
