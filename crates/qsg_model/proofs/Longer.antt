-- what a longer history holds
use Rattle.std.proofs.Common.{◌≡◌, List, [], ◌∷◌, ◌++◌, ap, sym, ◌∙◌, append_assoc}
use Rattle.std.proofs.lemmas.List.{append-nil}
use Rattle.qsg_msg.specs.declared.message.Message.{Message}
use Rattle.qsg_model.specs.declared.history.Item.{Item}
use Rattle.qsg_model.specs.History.{held_after, held_from, held}

pub held_from-push : (before : List Item) (ms : List Message) (h : List Item) (i : Item) → held_from before ms (h ++ i ∷ []) ≡ held_after (before ++ h) (held_from before ms h) i
held_from-push before ms [] i = ap (λ (b : List Item). held_after b ms i) (sym (append-nil before))
held_from-push before ms (j ∷ h) i = held_from-push (before ++ j ∷ []) (held_after before ms j) h i
    ∙ ap (λ (b : List Item). held_after b (held_from (before ++ j ∷ []) (held_after before ms j) h) i) (append_assoc before (j ∷ []) h)

pub held-push : (h : List Item) (i : Item) → held (h ++ i ∷ []) ≡ held_after h (held h) i
held-push h i = held_from-push [] [] h i
