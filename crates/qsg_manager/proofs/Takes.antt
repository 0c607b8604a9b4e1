-- what a take lends, leaves and adds
use Rattle.std.proofs.Common.{◌≡◌, ℕ, ◌-◌, Bool, true, cond, List, [], ◌++◌, length, take, Option, Some, None, Result, Ok, Err, refl, sym, ap, subst, ◌∙◌}
use Rattle.std.specs.Prelude.{OnOk, option_map, option_copied, ◌&&◌, min, if◌then◌else◌}
use Rattle.std.specs.Borrow.{Bor}
use Rattle.std.specs.Cmp.Lexicographic.{same_text}
use Rattle.std.proofs.lemmas.Bool.{and_parts}
use Rattle.std.proofs.lemmas.List.{set-get_or, take_min}
use Rattle.std.proofs.lemmas.Option.{same_Some}
use Rattle.qsg_num.specs.declared.ids.Block.{Block}
use Rattle.qsg_num.specs.declared.ids.UnitName.{UnitName}
use Rattle.qsg_num.specs.declared.seats.StructNo.{StructNo}
use Rattle.qsg_num.specs.declared.words.Delivery.{Delivery}
use Rattle.qsg_num.specs.Seats.{structure_number}
use Rattle.qsg_model.specs.declared.history.Op.{Op}
use Rattle.qsg_lists.specs.declared.parts.Connection.{Connection}
use Rattle.qsg_lists.specs.declared.parts.Lost.{Lost}
use Rattle.qsg_lists.specs.declared.parts.Entry.{Entry}
use Rattle.qsg_lists.specs.declared.parts.Selector.{Selector}
use Rattle.qsg_lists.specs.Marks.{is_visible}
use Rattle.qsg_lists.specs.Entries.{first_of, is_name, meets}
use Rattle.qsg_lists.specs.Structures.{ListStructure, lost_of, unless, Answers}
use Rattle.qsg_lists.specs.Taking.{got_by, taken, if_served, mark_found}
use Rattle.qsg_lists.proofs.First.{first-waits}
use Rattle.qsg_group.specs.declared.tasks.Claim.{Claim}
use Rattle.qsg_group.specs.declared.tasks.Stage.{Stage}
use Rattle.qsg_group.specs.declared.tasks.Task.{Task}
use Rattle.qsg_manager.specs.declared.taken.Taken.{Taken}
use Rattle.qsg_manager.specs.Facilities.{no_structure, structure_in, with_structure}
use Rattle.qsg_manager.specs.Getting.{found_in, with_taken, with_get, ops_with, claims_with, taken_of}

first_has_name : (queue : List ℕ) (order : Delivery) (select : Selector) (es : List Entry) (e : Entry) → first_of queue order select es ≡ Some e → e.head.queue ≡ queue
first_has_name queue order select es e found =
    let waits = first-waits queue order select es e found in
    let named = (and_parts (is_visible e.mark) (is_name e.head.queue queue && meets select e.head) waits).1 in
    same_text e.head.queue queue (sym (and_parts (is_name e.head.queue queue) (meets select e.head) named).0)

one_has_name : (unit : UnitName) (queue : List ℕ) (order : Delivery) (select : Selector) (es : List Entry) (lent : Bor Entry) (found : Option Entry)
    → first_of queue order select es ≡ found → option_copied (Some lent) ≡ option_map (got_by unit) found → lent.now.head.queue ≡ queue
one_has_name unit queue order select es lent None is same = absurd cc
one_has_name unit queue order select es lent (Some e) is same = ap (λ (x : Entry). x.head.queue) (same_Some lent.now (got_by unit e) same) ∙ first_has_name queue order select es e is

served_has_name : (unit : UnitName) (queue : List ℕ) (order : Delivery) (select : Selector) (es : List Entry) (lost : Option Lost) (lent : Bor Entry)
    → Answers (Ok (Some lent)) lost (option_map (got_by unit) (first_of queue order select es)) → lent.now.head.queue ≡ queue
served_has_name unit queue order select es (Some l) lent told = absurd told
served_has_name unit queue order select es None lent told = one_has_name unit queue order select es lent (first_of queue order select es) refl told

-- the entry that is lent is of the queue that was asked for
pub lent_has_name : (unit : UnitName) (queue asked : List ℕ) (order : Delivery) (select : Selector) (es : List Entry) (lost : Option Lost) (answer : Option (Bor Entry)) (lent : Bor Entry)
    → answer ≡ Some lent → asked ≡ queue → Answers (Ok answer) lost (option_map (got_by unit) (first_of asked order select es)) → lent.now.head.queue ≡ queue
lent_has_name unit queue asked order select es lost answer lent is same told =
    served_has_name unit queue order select es lost lent
    (subst (λ q. Answers (Ok (Some lent)) lost (option_map (got_by unit) (first_of q order select es))) same (subst (λ a. Answers (Ok a) lost (option_map (got_by unit) (first_of asked order select es))) is told))

-- a list of blocks, copied as far as the longest one goes
pub front_copied : (limit few : ℕ) (xs old new : List Block) (copied : Bool) → new ≡ (if copied then old ++ take few xs else old) → few ≡ min limit (length xs) → old ≡ [] → true ≡ copied → new ≡ take limit xs
front_copied limit few xs old new copied is count empty done =
    is ∙ ap (λ b. cond b (old ++ take few xs) old) (sym done) ∙ ap (λ (l : List Block). l ++ take few xs) empty ∙ ap (λ n. take n xs) count ∙ take_min limit xs

copied_found : (unit : UnitName) (found : Option Entry) → option_map taken_of (option_map (got_by unit) found) ≡ option_map taken_of found
copied_found unit None = refl
copied_found unit (Some e) = refl

-- a copy of what is lent is the answer
pub answer_some : (unit : UnitName) (found : Option Entry) (lost : Option Lost) (lent : Bor Entry) (copy : Taken) → Answers (Ok (Some lent)) lost (option_map (got_by unit) found) → copy ≡ taken_of lent.now
    → Ok (Some copy) ≡ unless lost (option_map taken_of found)
answer_some unit found (Some l) lent copy told is = absurd told
answer_some unit found None lent copy told is = ap (λ (o : Option Taken). Ok o) (ap (λ x. Some x) is ∙ ap (option_map taken_of) told ∙ copied_found unit found)

pub answer_none : (unit : UnitName) (found : Option Entry) (lost : Option Lost) → Answers (Ok None) lost (option_map (got_by unit) found) → Ok None ≡ unless lost (option_map taken_of found)
answer_none unit found (Some l) told = absurd told
answer_none unit found None told = ap (λ (o : Option Taken). Ok o) (ap (option_map taken_of) told ∙ copied_found unit found)

pub answer_lost : (unit : UnitName) (found : Option Entry) (lost : Option Lost) (l : Lost) → Answers (Err l) lost (option_map (got_by unit) found) → Err l ≡ unless lost (option_map taken_of found)
answer_lost unit found (Some x) l told = λ i. Err (told i)
answer_lost unit found None l told = absurd told

-- what a take of a served connection leaves of the structures
pub taken_is : (c : Connection) (unit : UnitName) (queue : List ℕ) (order : Delivery) (select : Selector) (ls : List ListStructure) → lost_of (structure_in c.structure ls) c ≡ None
    → with_structure c.structure (taken (structure_in c.structure ls) c unit queue order select) ls ≡ with_taken unit c (found_in c queue order select ls) ls
taken_is c unit queue order select ls served =
    ap (λ lost. with_structure c.structure (if_served lost (structure_in c.structure ls) (record (structure_in c.structure ls) { entries = mark_found unit (found_in c queue order select ls) (structure_in c.structure ls).entries })) ls) served
    ∙ by (found_in c queue order select ls)
  where
    by : (found : Option Entry) → with_structure c.structure (record (structure_in c.structure ls) { entries = mark_found unit found (structure_in c.structure ls).entries }) ls ≡ with_taken unit c found ls
    by None = set-get_or ls (structure_number c.structure - 1) no_structure
    by (Some e) = refl

-- a structure that isn't served stays
pub taken_stays : (c : Connection) (unit : UnitName) (queue : List ℕ) (order : Delivery) (select : Selector) (ls : List ListStructure) (lost : Lost) → lost_of (structure_in c.structure ls) c ≡ Some lost
    → with_structure c.structure (taken (structure_in c.structure ls) c unit queue order select) ls ≡ ls
taken_stays c unit queue order select ls lost is =
    ap (λ l. with_structure c.structure (if_served l (structure_in c.structure ls) (record (structure_in c.structure ls) { entries = mark_found unit (found_in c queue order select ls) (structure_in c.structure ls).entries })) ls) is
    ∙ set-get_or ls (structure_number c.structure - 1) no_structure

-- a task made anew from its parts
pub got_made : {T E : Type 0} (r : Result T E) (task : Task) (c : Connection) (found : Option Entry) (u : Option UnitName) (ops : List (StructNo × Op)) (claims : List Claim) (s : Stage)
    → u ≡ task.unit → s ≡ task.stage → OnOk r (ops ≡ ops_with c found task.ops) → OnOk r (claims ≡ claims_with c found task.claims)
    → OnOk r (record { unit = u; ops = ops; claims = claims; stage = s } ≡ with_get c found task)
got_made (Err e) task c found u ops claims s unit stage o cl = tt
got_made (Ok x) task c None u ops claims s unit stage o cl = λ i. record { unit = unit i; ops = o i; claims = cl i; stage = stage i }
got_made (Ok x) task c (Some e) u ops claims s unit stage o cl = λ i. record { unit = unit i; ops = o i; claims = cl i; stage = stage i }
