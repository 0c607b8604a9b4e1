use Rattle.std.proofs.Common.{rules, ◌∙◌, filter}
use Rattle.std.specs.Prelude.{not}
use Rattle.std.specs.List.{list_any}
use Rattle.std.proofs.lemmas.Fn.{filter_same}
use Rattle.qsg_num.specs.declared.seats.StructNo.{StructNo}
use Rattle.qsg_msg.specs.declared.message.Message.{Message}
use Rattle.qsg_model.specs.declared.history.Op.{Op}
use Rattle.qsg_model.specs.History.{key, has_key, got_by}
use Rattle.qsg_model.proofs.Filling.{any_got}
use Rattle.qsg_model.proofs.holding.take_out.Goals as goal

pub returns : goal.returns
returns c =
    filter_same _ (λ (m : Message). not (list_any (λ (w : StructNo × Op). has_key (got_by w.0 w.1) (key m)) c.args.ops.now)) _ (λ x b f' k. search rules) _ _ c.retain.ensures.filtered
    ∙ (λ i. filter (λ (m : Message). not (any_got (key m) c.args.ops.now i)) c.args.messages.now.items)
