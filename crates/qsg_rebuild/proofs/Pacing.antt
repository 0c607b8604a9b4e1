-- each step that doesn't end a rebuild lowers how many are left
use Rattle.std.proofs.Common.{◌≡◌, ℕ, ◌+◌, ◌<◌, ◌≤◌, Bool, true, false, List, [], ◌∷◌, length, Option, Some, None, Result, Ok, Err, inl, inr, refl, sym, ap, ◌∙◌, arith}
use Rattle.std.specs.Prelude.{if◌then◌else◌, count_by, find, nat_lt, cond}
use Rattle.std.proofs.lemmas.Bool.{cases_Bool, true≢false}
use Rattle.std.proofs.lemmas.Bool.Decides.{nat_tests}
use Rattle.std.proofs.lemmas.List.Sums.{sum_by-cons, sum_by-le-sum_by}
use Rattle.std.proofs.lemmas.Option.{none-some, same_Some}
use Rattle.qsg_num.specs.declared.seats.StructNo.{StructNo}
use Rattle.qsg_num.specs.declared.ids.EntryId.{EntryId}
use Rattle.qsg_lists.specs.declared.parts.Entry.{Entry}
use Rattle.qsg_lists.specs.declared.parts.Lost.{Lost}
use Rattle.qsg_lists.specs.declared.parts.Seen.{Seen}
use Rattle.qsg_lists.specs.Entries.{is_above}
use Rattle.qsg_lists.specs.Structures.{connect_answer, lost_of, unless}
use Rattle.qsg_lists.proofs.Found.{find-passes}
use Rattle.qsg_manager.specs.Facilities.{structure_in}
use Rattle.qsg_parts.specs.Owned.{Owned}
use Rattle.qsg_datasets.specs.declared.member_data_set.Found.{Found}
use Rattle.qsg_rebuild.specs.declared.phases.Phase.{Phase}
use Rattle.qsg_rebuild.specs.declared.phases.Phase.TheVariants.{Connect, Load, Scan, Shut, Sync}
use Rattle.qsg_rebuild.specs.declared.phases.RebuildTurn.TheVariants.{More}
use Rattle.qsg_rebuild.specs.declared.work.RebuildWork.{RebuildWork}
use Rattle.qsg_rebuild.specs.Steps.{structure_of, connection_of, loading, after_connect, shutting, loaded_phase, scan_answer, scanned, after_scan, NextAt, NextRebuild}
use Rattle.qsg_rebuild.specs.Needs.{MayStep}
use Rattle.qsg_rebuild.proofs.Leaving.{work_is, step_leaves, step_place}
use Rattle.qsg_rebuild.specs.Pace.{entries_above, left_at, left_of_rebuild}

open_left : (b : Bool) (entries : List Entry) → left_at (shutting b) entries ≤ 2
open_left true entries = omega arith
open_left false entries = omega arith

loading_left : (answer : Result Seen Lost) (entries : List Entry) → left_at (loading answer) entries ≡ length entries + 4
loading_left (Ok seen) entries = refl
loading_left (Err lost) entries = refl

-- ---- entries above an id

abbrev one_if : Bool → ℕ
one_if b = cond b 1 0

one_most : (b : Bool) → one_if b ≤ 1
one_most true = omega arith
one_most false = omega arith

one_fewer : (x y : Bool) → (x ≡ true → y ≡ true) → one_if x ≤ one_if y
one_fewer true true more = omega arith
one_fewer true false more = absurd (true≢false (sym (more refl)))
one_fewer false y more = omega arith

count-cons : (p : Entry → Bool) (e : Entry) (es : List Entry) → count_by p (e ∷ es) ≡ one_if (p e) + count_by p es
count-cons p e es = sum_by-cons (λ (x : Entry). cond (p x) 1 0) e es

above_all : (id : EntryId) (entries : List Entry) → entries_above id entries ≤ length entries
above_all id [] = omega arith
above_all id (e ∷ es) = let rest = above_all id es in omega (arith, rest, count-cons (is_above id) e es, one_most (is_above id e))

fewer : (q p : Entry → Bool) (es : List Entry) → ((e : Entry) → q e ≡ true → p e ≡ true) → count_by q es ≤ count_by p es
fewer q p es more = sum_by-le-sum_by (λ (e : Entry). cond (q e) 1 0) (λ (e : Entry). cond (p e) 1 0) es (λ e. one_fewer (q e) (p e) (more e))

-- the first one that passes doesn't any more
first_less : (q p : Entry → Bool) (es : List Entry) (e : Entry) → ((x : Entry) → q x ≡ true → p x ≡ true) → find p es ≡ Some e → q e ≡ false → count_by q es < count_by p es
first_less q p [] e more is not_it = absurd (none-some e is)
first_less q p (x ∷ es) e more is not_it = by (p x) refl is (first_less q p es e more)
  where
    fails_too : p x ≡ false → q x ≡ false
    fails_too fails = elim (cases_Bool (q x)) [ inl holds ↦ absurd (true≢false (sym (more x holds) ∙ fails)) | inr is ↦ is ]

    by : (b : Bool) → p x ≡ b → cond b (Some x) (find p es) ≡ Some e → (find p es ≡ Some e → q e ≡ false → count_by q es < count_by p es) → count_by q (x ∷ es) < count_by p (x ∷ es)
    by true holds same rest = omega (arith, count-cons p x es, count-cons q x es, ap one_if holds, ap one_if (ap q (same_Some x e same) ∙ not_it), fewer q p es more)
    by false fails same rest = omega (arith, count-cons p x es, count-cons q x es, ap one_if fails, ap one_if (fails_too fails), rest same not_it)

higher : (low high n : ℕ) → nat_lt low high ≡ true → nat_lt high n ≡ true → nat_lt low n ≡ true
higher low high n one two = grind (arith, nat_tests)

not_itself : (a : ℕ) → nat_lt a a ≡ false
not_itself a = grind (arith, nat_tests)

found_fewer : (after : EntryId) (entries : List Entry) (e : Entry) → find (is_above after) entries ≡ Some e → entries_above e.id entries < entries_above after entries
found_fewer after entries e found = first_less (is_above e.id) (is_above after) entries e
    (λ x above. higher after.number e.id.number x.id.number (find-passes (is_above after) entries e found) above) found (not_itself e.id.number)

-- ---- each step

fork_left : (b : Bool) (epoch : ℕ) (found : Found) (entries : List Entry) → left_at (if b then shutting found.gate_open else Scan epoch (record { number = 0 }) found.gate_open) entries < length entries + 4
fork_left true epoch found entries = let two = open_left found.gate_open entries in omega (arith, two)
fork_left false epoch found entries = let most = above_all (record { number = 0 }) entries in omega (arith, most)

loaded_left : (served : Bool) (epoch : ℕ) (found : Found) (entries : List Entry) → left_at (loaded_phase served epoch found) entries < length entries + 4
loaded_left true epoch found entries = fork_left found.has_map epoch found entries
loaded_left false epoch found entries = let two = open_left found.gate_open entries in omega (arith, two)

scanned_left : (answer : Result (Option Entry) Lost) (epoch : ℕ) (after : EntryId) (open_gate : Bool) (w : RebuildWork) (p : Owned) (entries : List Entry) → ((e : Entry) → answer ≡ Ok (Some e) → entries_above e.id entries < entries_above after entries)
    → left_at (scanned answer epoch open_gate w p).work.phase entries < entries_above after entries + 3
scanned_left (Ok (Some e)) epoch after open_gate w p entries fewer_are = let less = fewer_are e refl in omega (arith, less)
scanned_left (Ok None) epoch after open_gate w p entries fewer_are = let two = open_left open_gate entries in omega (arith, two)
scanned_left (Err lost) epoch after open_gate w p entries fewer_are = let two = open_left open_gate entries in omega (arith, two)

unless_found : (lost : Option Lost) (found : Option Entry) (e : Entry) → unless lost found ≡ Ok (Some e) → found ≡ Some e
unless_found None found e is = cc
unless_found (Some lost) found e is = absurd cc

lowers_at : (phase : Phase) (w : RebuildWork) (p : Owned) (v : RebuildWork) (q : Owned) → NextAt phase w p (Ok More) v q → left_at v.phase (structure_of w p).entries < left_at phase (structure_of w p).entries
lowers_at Connect w p v q next =
    let same = ap (λ (x : RebuildWork). left_at x.phase (structure_of w p).entries) (work_is (after_connect w p) More v q next) in
    let is = loading_left (connect_answer (structure_of w p)) (structure_of w p).entries in
    omega (arith, same, is)
lowers_at (Load epoch served) w p v q next =
    let same = ap (λ (x : RebuildWork). left_at x.phase (structure_of w p).entries) next.work_is in
    let less = loaded_left served epoch next.found (structure_of w p).entries in
    omega (arith, same, less)
lowers_at (Scan epoch after open_gate) w p v q next =
    let same = ap (λ (x : RebuildWork). left_at x.phase (structure_of w p).entries) (work_is (after_scan epoch after open_gate w p) More v q next) in
    let less = scanned_left (scan_answer w epoch after p) epoch after open_gate w p (structure_of w p).entries
    (λ e is. found_fewer after (structure_of w p).entries e (unless_found (lost_of (structure_of w p) (connection_of w epoch)) (find (is_above after) (structure_of w p).entries) e is)) in
    omega (arith, same, less)
lowers_at Shut w p v q next = let same = ap (λ (x : RebuildWork). left_at x.phase (structure_of w p).entries) next.1.1 in omega (arith, same)
lowers_at Sync w p v q next = absurd (cc next.1.0)

pub lowers : (w : RebuildWork) (p : Owned) (v : RebuildWork) (q : Owned) → MayStep w p → NextRebuild w p (Ok More) v q → left_of_rebuild v q < left_of_rebuild w p
lowers w p v q may next =
    let leaves = step_leaves w p (Ok More) v q may next in
    let same : (structure_of v q).entries ≡ (structure_of w p).entries =
    ap (λ (s : StructNo). (structure_in s q.structures).entries) (step_place w p (Ok More) v q next).structure
    ∙ ap (λ (x : Owned). (structure_in w.structure x.structures).entries) leaves.others in
    let is = ap (left_at v.phase) same in
    let less = lowers_at w.phase w p v q next in
    omega (arith, is, less)

most_at : (phase : Phase) (entries : List Entry) → left_at phase entries ≤ length entries + 5
most_at Connect entries = omega arith
most_at (Load epoch served) entries = omega arith
most_at (Scan epoch after open_gate) entries = let most = above_all after entries in omega (arith, most)
most_at Shut entries = omega arith
most_at Sync entries = omega arith

pub most : (w : RebuildWork) (p : Owned) → left_of_rebuild w p ≤ length (structure_of w p).entries + 5
most w p = most_at w.phase (structure_of w p).entries
