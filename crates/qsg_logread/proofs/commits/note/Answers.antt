use Rattle.std.proofs.Common.{◌≡◌, Bool, true, false, not, ◌&&◌, Option, None, Some, is_some, List, ap, sym, refl, ◌∙◌, true≢false}
use Rattle.std.specs.Map.{lookup}
use Rattle.qsg_num.specs.declared.seats.StructNo.{StructNo}
use Rattle.qsg_logread.specs.declared.commits.UnitKey.{UnitKey}
use Rattle.qsg_logread.specs.Fed.{with_commit}
use Rattle.qsg_logread.specs.Table.{commits_in}
use Rattle.qsg_logread.proofs.Noted.{Entries, same_key, keep_none, insert_noted}
use Rattle.qsg_logread.proofs.commits.note.Goals as goal
use Rattle.qsg_logread.proofs.commits.note.Goals.{else-is_none-via-then-is_none+else-contains_key, else-is_none-via-else-is_none}

keeps : (es : Entries) (k : UnitKey) (set : Option (List StructNo)) → is_some set ≡ false → is_some (lookup (same_key k) es) ≡ true → commits_in es ≡ with_commit (commits_in es) (record { unit = k.unit; structures = set })
keeps es k None none has = keep_none es k has
keeps es k (Some set) none has = absurd (true≢false none)

pub returns-then-contains_key-clause-noted : goal.returns-then-contains_key-clause-noted
returns-then-contains_key-clause-noted c =
    keeps c.args.units.now.entries (record { unit = c.args.unit }) c.args.set c.if-is_none.ensures (sym c.contains_key.ensures ∙ c.if-contains_key.true)

absent : (set : Option (List StructNo)) (b : Bool) → b ≡ false → (not (is_some set) && b) ≡ false
absent None b none = none
absent (Some set) b none = refl

named : (set : Option (List StructNo)) (b : Bool) → is_some set ≡ true → (not (is_some set) && b) ≡ false
named None b some = absurd (true≢false (sym some))
named (Some set) b some = refl

pub returns-clause-noted : goal.returns-clause-noted
returns-clause-noted c =
    ap commits_in c.in_ok-insert.ensures.entries
    ∙ insert_noted c.args.units.now.entries (record { unit = c.args.unit }) c.args.set
    (elim c.else-is_none.branch [
      | else-is_none-via-then-is_none+else-contains_key w ↦ absent c.args.set (is_some (lookup (same_key (record { unit = c.args.unit })) c.args.units.now.entries)) (sym w.contains_key.ensures ∙ w.if-contains_key.false)
      | else-is_none-via-else-is_none w ↦ named c.args.set (is_some (lookup (same_key (record { unit = c.args.unit })) c.args.units.now.entries)) w.if-is_none.ensures
    ])
