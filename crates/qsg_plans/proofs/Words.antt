-- the members and tasks of sections without a fault, and the bodies of puts
use Rattle.std.proofs.Common.{◌≡◌, ℕ, ◌+◌, ◌≤◌, Bool, true, false, List, [], ◌∷◌, length, Option, Some, None, refl, arith}
use Rattle.std.specs.Prelude.{is_some, unwrap_or}
use Rattle.std.specs.List.{position}
use Rattle.std.specs.Option.{option_or, option_and_then}
use Rattle.mqsc_lex.specs.declared.words.Word.{Word}
use Rattle.mqsc_values.specs.Numbers.{number_of}
use Rattle.mqsc_define.specs.Definitions.{number_or}
use Rattle.mqsc_define.specs.Values.{is_at_least}
use Rattle.qsg_num.specs.declared.seats.Member.{Member}
use Rattle.qsg_num.specs.declared.seats.Member.TheVariants.{One}
use Rattle.qsg_num.specs.declared.ids.Actor.TheVariants.{Task}
use Rattle.qsg_num.specs.declared.seats.StructNo.{StructNo}
use Rattle.qsg_num.specs.declared.seats.StructNo.TheVariants.{One as First}
use Rattle.qsg_num.specs.Seats.{member_number, member_at, structure_number}
use Rattle.qsg_objects.specs.Registry.{AreNumbered, number_named}
use Rattle.qsg_objects.proofs.Kept.{number-counted}
use Rattle.qsg_directives.specs.Bodies.{IsSized}
use Rattle.qsg_draft.specs.Contents.{Contents}
use Rattle.qsg_draft.specs.Lookups.{is_member, member_named}
use Rattle.qsg_draft.proofs.Kept.{placed}
use Rattle.qsg_grammar.specs.declared.kinds.Row.TheVariants as row
use Rattle.qsg_grammar.specs.declared.slots.Slot.{Slot}
use Rattle.qsg_grammar.specs.declared.slots.Slot.TheVariants as slot
use Rattle.qsg_grammar.specs.Values.{bad_number_unless, name_fault, text_fault, is_repeated, task_of}
use Rattle.qsg_grammar.specs.Faults.{subject_of, unknown_if, repeated_if, slot_fault, word_fault, words_fault, missing_fault, row_fault}
use Rattle.qsg_statement.specs.Words.{key_at, member_of, structure_of, body_by}
use Rattle.qsg_statement.proofs.Bodies.{neither}
use Rattle.qsg_plans.specs.Plans.{IsActorOf}
use Rattle.qsg_plans.proofs.Numbers.{number-most, number-least, member-at, task-at}

-- a member that is named is one of those there are
named-within : (name : List ℕ) (c : Contents) (m : Member) → member_named name c ≡ Some m → member_number m ≤ length c.members
named-within name c m e = by (position (is_member name) c.members) refl e
  where
    by : (o : Option ℕ) → position (is_member name) c.members ≡ o → option_and_then (λ at. member_at (at + 1)) o ≡ Some m → member_number m ≤ length c.members
    by None is f = absurd cc
    by (Some at) is f = let below = placed (is_member name) c.members at is in let number = member-at (at + 1) m f in omega (arith, below.0, number)

some-within : (o : Option Member) (most : ℕ) → is_some o ≡ true → ((m : Member) → o ≡ Some m → member_number m ≤ most) → member_number (unwrap_or o One) ≤ most
some-within None most is each = absurd cc
some-within (Some m) most is each = each m refl

is-defined : (place : ℕ) (good defined : Bool) → name_fault place good defined ≡ None → defined ≡ true
is-defined place true true e = refl
is-defined place true false e = absurd cc
is-defined place false defined e = absurd cc

is-good : (place : ℕ) (b : Bool) → bad_number_unless place b ≡ None → b ≡ true
is-good place true e = refl
is-good place false e = absurd cc

text-right : (c : Contents) (before : List Word) (s : Slot) (word : Word) → slot_fault c before s word ≡ None → text_fault c (1 + length before) s word.key ≡ None
text-right c before s word e =
    (neither (text_fault c (1 + length before) s word.key) (option_or (unknown_if (1 + length before) (is_some word.value)) (repeated_if (1 + length before) (is_repeated c s (subject_of before) word.key))) e).0

pub task-within : (c : Contents) (words : List Word) → row_fault c row.Task words ≡ None → IsActorOf (length c.members) (Task (member_of (key_at 1 words) c) (task_of (key_at 2 words)))
task-within c [] e = absurd cc
task-within c (w0 ∷ []) e = absurd cc
task-within c (w0 ∷ w1 ∷ []) e =
    let missing = (neither (words_fault c row.Task [] (w1 ∷ [])) (missing_fault row.Task (w1 ∷ [])) e).1 in
    let said : missing_fault row.Task (w1 ∷ []) ≡ None = missing in
    absurd cc
task-within c (w0 ∷ w1 ∷ w2 ∷ ws) e =
    let all = neither (words_fault c row.Task [] (w1 ∷ w2 ∷ ws)) (missing_fault row.Task (w1 ∷ w2 ∷ ws)) e in
    let first = neither (word_fault c row.Task [] w1) (words_fault c row.Task (w1 ∷ []) (w2 ∷ ws)) all.0 in
    let second = neither (word_fault c row.Task (w1 ∷ []) w2) (words_fault c row.Task (w1 ∷ w2 ∷ []) ws) first.1 in
    let some = is-defined 1 _ (is_some (member_named w1.key c)) (text-right c [] slot.Member w1 first.0) in
    let number = is-good 2 (is_at_least 1 (number_of w2.key 4)) (text-right c (w1 ∷ []) slot.NewTask w2 second.0) in (
      some-within (member_named w1.key c) (length c.members) some (named-within w1.key c),
      task-at (number_or 0 (number_of w2.key 4)) (number-least 0 1 (number_of w2.key 4) number) (number-most 0 4 w2.key (omega arith)),
    )

-- a member that crashes or starts is one of those there are
pub crash-within : (c : Contents) (words : List Word) → row_fault c row.Crash words ≡ None → member_number (member_of (key_at 1 words) c) ≤ length c.members
crash-within c [] e = absurd cc
crash-within c (w0 ∷ []) e =
    let missing = (neither (words_fault c row.Crash [] []) (missing_fault row.Crash []) e).1 in
    let said : missing_fault row.Crash [] ≡ None = missing in
    absurd cc
crash-within c (w0 ∷ w1 ∷ ws) e =
    let all = neither (words_fault c row.Crash [] (w1 ∷ ws)) (missing_fault row.Crash (w1 ∷ ws)) e in
    let first = neither (word_fault c row.Crash [] w1) (words_fault c row.Crash (w1 ∷ []) ws) all.0 in
    let some = is-defined 1 _ (is_some (member_named w1.key c)) (text-right c [] slot.Member w1 first.0) in
    some-within (member_named w1.key c) (length c.members) some (named-within w1.key c)

pub start-within : (c : Contents) (words : List Word) → row_fault c row.Start words ≡ None → member_number (member_of (key_at 1 words) c) ≤ length c.members
start-within c [] e = absurd cc
start-within c (w0 ∷ []) e =
    let missing = (neither (words_fault c row.Start [] []) (missing_fault row.Start []) e).1 in
    let said : missing_fault row.Start [] ≡ None = missing in
    absurd cc
start-within c (w0 ∷ w1 ∷ ws) e =
    let all = neither (words_fault c row.Start [] (w1 ∷ ws)) (missing_fault row.Start (w1 ∷ ws)) e in
    let first = neither (word_fault c row.Start [] w1) (words_fault c row.Start (w1 ∷ []) ws) all.0 in
    let some = is-defined 1 _ (is_some (member_named w1.key c)) (text-right c [] slot.Member w1 first.0) in
    some-within (member_named w1.key c) (length c.members) some (named-within w1.key c)

-- the structure of a FACILITY is one of those there are
some-counted : (o : Option StructNo) (most : ℕ) → is_some o ≡ true → ((s : StructNo) → o ≡ Some s → structure_number s ≤ most) → structure_number (unwrap_or o First) ≤ most
some-counted None most is each = absurd cc
some-counted (Some s) most is each = each s refl

pub facility-within : (c : Contents) (words : List Word) → AreNumbered 1 c.objects.structures → row_fault c row.Facility words ≡ None → structure_number (structure_of (key_at 1 words) c) ≤ length c.objects.structures
facility-within c [] numbered e = absurd cc
facility-within c (w0 ∷ []) numbered e =
    let missing = (neither (words_fault c row.Facility [] []) (missing_fault row.Facility []) e).1 in
    let said : missing_fault row.Facility [] ≡ None = missing in
    absurd cc
facility-within c (w0 ∷ w1 ∷ ws) numbered e =
    let all = neither (words_fault c row.Facility [] (w1 ∷ ws)) (missing_fault row.Facility (w1 ∷ ws)) e in
    let first = neither (word_fault c row.Facility [] w1) (words_fault c row.Facility (w1 ∷ []) ws) all.0 in
    let some = is-defined 1 _ (is_some (number_named w1.key c.objects)) (text-right c [] slot.NewFacility w1 first.0) in
    some-counted (number_named w1.key c.objects) (length c.objects.structures) some (λ s is. number-counted w1.key c.objects.structures s numbered is)

-- a body by its size is at most the longest
pub body-sized : (body hex size : Option (List ℕ)) → IsSized (body_by body hex size)
body-sized (Some text) hex size = tt
body-sized None (Some text) size = tt
body-sized None None (Some text) = number-most 0 4194304 text (omega arith)
body-sized None None None = tt
