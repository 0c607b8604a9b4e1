-- the summary of a run
use Rattle.std.specs.Prelude.{ℕ, Bool, true, false, not, List, ◌++◌, length, count_by, sum_by, codes}
use Rattle.std.specs.Fmt.{decimal}
use Rattle.qsg_model.specs.declared.history.Op.{Op}
use Rattle.qsg_model.specs.declared.history.Op.TheVariants.{Put, Got}
use Rattle.qsg_model.specs.declared.history.Item.{Item}
use Rattle.qsg_model.specs.declared.history.Item.TheVariants.{Unit as UnitOf, Lost, Purged}
use Rattle.qsg_model.specs.History.{held}
use Rattle.qsg_answers.specs.Answers.{line_end}

abbrev pub is_unit : Item → Bool
is_unit (UnitOf u ops) = true
is_unit (Lost s) = false
is_unit (Purged s) = false

abbrev pub is_lost : Item → Bool
is_lost (UnitOf u ops) = false
is_lost (Lost s) = true
is_lost (Purged s) = false

abbrev pub is_purged : Item → Bool
is_purged (UnitOf u ops) = false
is_purged (Lost s) = false
is_purged (Purged s) = true

-- whether an operation is a put, or else a get
abbrev pub is_kind : Bool → Op → Bool
is_kind put (Put m) = put
is_kind put (Got id) = not put

-- the operations of that kind, of an item and of a history
abbrev pub operations_in : Bool → Item → ℕ
operations_in put (UnitOf u ops) = count_by (λ o. is_kind put o.1) ops
operations_in put (Lost s) = 0
operations_in put (Purged s) = 0

abbrev pub operations : Bool → List Item → ℕ
operations put history = sum_by (operations_in put) history

abbrev pub total_text : List ℕ → ℕ → List ℕ
total_text name n = name ++ decimal n ++ line_end

abbrev pub ending_text : Bool → List ℕ
ending_text true = codes "finished" ++ line_end
ending_text false = codes "stuck" ++ line_end

unfoldable pub summary_text : List Item → Bool → List ℕ
summary_text history finished =
    total_text (codes "units ") (count_by is_unit history)
    ++ total_text (codes "put ") (operations true history)
    ++ total_text (codes "got ") (operations false history)
    ++ total_text (codes "lost ") (count_by is_lost history)
    ++ total_text (codes "purged ") (count_by is_purged history)
    ++ total_text (codes "held ") (length (held history))
    ++ ending_text finished
