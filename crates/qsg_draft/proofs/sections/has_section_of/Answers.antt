use Rattle.std.proofs.Common.{sym, ◌∙◌}
use Rattle.qsg_draft.proofs.Kept.{any_seen}
use Rattle.qsg_draft.proofs.sections.has_section_of.Goals as goal

pub returns : goal.returns
returns c = c.is_any.ensures ∙ sym (any_seen c.args.actor c.args.sections.now)
