-- the entry of an id, and what a revision makes of a list at its head
use Rattle.std.proofs.Common.{◌≡◌, ◌≢◌, List, ◌∷◌, Option, Some, arith}
use Rattle.std.specs.List.{cons_option}
use Rattle.std.proofs.lemmas.Bool.Decides.{nat_tests}
use Rattle.qsg_num.specs.declared.ids.EntryId.{EntryId}
use Rattle.qsg_lists.specs.declared.parts.Entry.{Entry}
use Rattle.qsg_lists.specs.Entries.{entry_at, revise}

-- ids are the same where their numbers are
pub same_id : (a b : EntryId) → a.number ≡ b.number → a ≡ b
same_id a b e = λ i. record { number = e i }

pub revise-head : (id : EntryId) (f : Entry → Option Entry) (e : Entry) (es : List Entry) → e.id.number ≡ id.number → revise id f (e ∷ es) ≡ cons_option (f e) es
revise-head id f e es same = grind (arith, nat_tests)

pub revise-tail : (id : EntryId) (f : Entry → Option Entry) (e : Entry) (es : List Entry) → e.id.number ≢ id.number → revise id f (e ∷ es) ≡ e ∷ revise id f es
revise-tail id f e es differ = grind (arith, nat_tests)

pub entry_at-head : (id : EntryId) (e : Entry) (es : List Entry) → e.id.number ≡ id.number → entry_at id (e ∷ es) ≡ Some e
entry_at-head id e es same = grind (arith, nat_tests)

pub entry_at-tail : (id : EntryId) (e : Entry) (es : List Entry) → e.id.number ≢ id.number → entry_at id (e ∷ es) ≡ entry_at id es
entry_at-tail id e es differ = grind (arith, nat_tests)
