-- the works of a plan stand in order
use Rattle.std.proofs.Common.{◌≡◌, ℕ, ◌+◌, Bool, true, false, List, [], ◌∷◌, length, Option, Some, None, refl, ap, sym, subst, ◌∙◌, arith}
use Rattle.std.specs.Prelude.{is_some, unwrap_or}
use Rattle.std.specs.List.{list_any}
use Rattle.std.specs.Option.{option_or}
use Rattle.mqsc_lex.specs.declared.words.Word.{Word}
use Rattle.mqsc_admin.specs.Admins.{admin_of}
use Rattle.qsg_lines.specs.declared.items.Item.{Item}
use Rattle.qsg_lines.specs.Items.{script_of}
use Rattle.qsg_num.specs.declared.seats.Member.{Member}
use Rattle.qsg_num.specs.declared.seats.Member.TheVariants.{One}
use Rattle.qsg_num.specs.declared.ids.Actor.TheVariants.{Task, Operator}
use Rattle.qsg_objects.specs.declared.directives.Directive.{Directive}
use Rattle.qsg_objects.specs.declared.plans.Plan.{Plan}
use Rattle.qsg_draft.specs.declared.stages.Stage.{Stage}
use Rattle.qsg_draft.specs.declared.stages.Stage.TheVariants as stage
use Rattle.qsg_draft.specs.Contents.{Contents, nothing_read}
use Rattle.qsg_draft.specs.Lookups.{member_named, is_section}
use Rattle.qsg_draft.specs.Additions.{with_directive_in}
use Rattle.qsg_draft.specs.Order.{AreInOrder, IsOperatorLast}
use Rattle.qsg_draft.proofs.Order.{rising-inserted, rising-extended, rising-works, operator-last}
use Rattle.qsg_grammar.specs.declared.kinds.Kind.{Kind}
use Rattle.qsg_grammar.specs.declared.kinds.Kind.TheVariants.{Define, Command, Listed}
use Rattle.qsg_grammar.specs.declared.kinds.Row.{Row}
use Rattle.qsg_grammar.specs.declared.kinds.Row.TheVariants as row
use Rattle.qsg_grammar.specs.declared.slots.Slot.{Slot}
use Rattle.qsg_grammar.specs.declared.slots.Slot.TheVariants as slot
use Rattle.qsg_grammar.specs.Values.{task_of, has_task, name_fault, text_fault, is_repeated}
use Rattle.qsg_grammar.specs.Faults.{unknown_if, repeated_if, subject_of, slot_fault, word_fault, words_fault, missing_fault, behind, verb_fault, row_fault, kind_fault}
use Rattle.qsg_statement.specs.Statements.{command_directive, directive_by, statement_of}
use Rattle.qsg_statement.specs.Words.{key_at, member_of}
use Rattle.qsg_statement.specs.Taking.{taken}
use Rattle.qsg_script.specs.Script.{Takes, TakesAll, IsPlan}

none-each : {A : Type 0} (a b : Option A) → option_or a b ≡ None → (a ≡ None) × (b ≡ None)
none-each None b e = (refl, e)
none-each (Some x) b e = absurd (cc)

no-repeat : (place : ℕ) (b : Bool) → repeated_if place b ≡ None → b ≡ false
no-repeat place true e = absurd (cc)
no-repeat place false e = refl

named : (place : ℕ) (good defined : Bool) → name_fault place good defined ≡ None → defined ≡ true
named place true true e = refl
named place true false e = absurd (cc)
named place false defined e = absurd (cc)

slot-right : (c : Contents) (before : List Word) (s : Slot) (word : Word) → slot_fault c before s word ≡ None → (text_fault c (1 + length before) s word.key ≡ None) × (is_repeated c s (subject_of before) word.key ≡ false)
slot-right c before s word e =
    let place = 1 + length before in
    let rest : Option _ = option_or (unknown_if place (is_some word.value)) (repeated_if place (is_repeated c s (subject_of before) word.key)) in
    let f = none-each (text_fault c place s word.key) rest e in
    let g = none-each (unknown_if place (is_some word.value)) (repeated_if place (is_repeated c s (subject_of before) word.key)) f.1 in
    (f.0, no-repeat place (is_repeated c s (subject_of before) word.key) g.1)

-- A TASK that isn't at fault has no section yet, and neither has an OPERATOR.

new-task : (c : Contents) (words : List Word) → row_fault c row.Task words ≡ None → list_any (is_section (Task (member_of (key_at 1 words) c) (task_of (key_at 2 words)))) c.sections ≡ false
new-task c [] e = absurd (cc)
new-task c (w0 ∷ []) e = absurd (cc)
new-task c (w0 ∷ w1 ∷ []) e =
    let f = none-each (words_fault c row.Task [] (w1 ∷ [])) (missing_fault row.Task (w1 ∷ [])) e in
    let g : missing_fault row.Task (w1 ∷ []) ≡ None = f.1 in
    absurd (cc)
new-task c (w0 ∷ w1 ∷ w2 ∷ ws) e =
    let f = none-each (words_fault c row.Task [] (w1 ∷ w2 ∷ ws)) (missing_fault row.Task (w1 ∷ w2 ∷ ws)) e in
    let g = none-each (word_fault c row.Task [] w1) (words_fault c row.Task (w1 ∷ []) (w2 ∷ ws)) f.0 in
    let h = none-each (word_fault c row.Task (w1 ∷ []) w2) (words_fault c row.Task (w1 ∷ w2 ∷ []) ws) g.1 in
    let member = slot-right c [] slot.Member w1 g.0 in
    let task = slot-right c (w1 ∷ []) slot.NewTask w2 h.0 in
    by (member_named w1.key c) (named 1 _ (is_some (member_named w1.key c)) member.0) task.1
  where
    by : (o : Option Member) → is_some o ≡ true → has_task o w2.key c ≡ false → list_any (is_section (Task (unwrap_or o One) (task_of w2.key))) c.sections ≡ false
    by None some new = absurd (cc)
    by (Some m) some new = new

new-operator : (c : Contents) (words : List Word) → row_fault c row.Operator words ≡ None → list_any (is_section Operator) c.sections ≡ false
new-operator c words e =
    let f = none-each (verb_fault c row.Operator) (option_or (words_fault c row.Operator [] (behind words)) (missing_fault row.Operator (behind words))) e in
    by (list_any (is_section Operator) c.sections) f.0
  where
    by : (b : Bool) → repeated_if 0 b ≡ None → b ≡ false
    by b h = no-repeat 0 b h

-- Each statement that isn't at fault keeps the sections in order.

directive-keeps : (s : Stage) (d : Directive) (c : Contents) → AreInOrder c.sections → AreInOrder (with_directive_in s d c).sections
directive-keeps stage.Start d c rising = rising
directive-keeps stage.Definitions d c rising = rising
directive-keeps (stage.Section a) d c rising = rising-extended 0 a d c.sections rising
directive-keeps stage.Schedule d c rising = rising
directive-keeps stage.Ended d c rising = rising

row-keeps : (c : Contents) (r : Row) (words : List Word) → row_fault c r words ≡ None → AreInOrder c.sections → AreInOrder (taken (statement_of c (Listed r) words) c).sections
row-keeps c row.Group words right rising = rising
row-keeps c row.Member words right rising = rising
row-keeps c row.Facility words right rising = rising
row-keeps c row.Task words right rising = rising-inserted 0 (Task (member_of (key_at 1 words) c) (task_of (key_at 2 words))) c.sections (omega arith) rising (new-task c words right)
row-keeps c row.Operator words right rising = rising-inserted 0 Operator c.sections (omega arith) rising (new-operator c words right)
row-keeps c row.Put words right rising = directive-keeps c.stage (directive_by c row.Put words) c rising
row-keeps c row.Get words right rising = directive-keeps c.stage (directive_by c row.Get words) c rising
row-keeps c row.Commit words right rising = directive-keeps c.stage (directive_by c row.Commit words) c rising
row-keeps c row.Backout words right rising = directive-keeps c.stage (directive_by c row.Backout words) c rising
row-keeps c row.WaitTask words right rising = directive-keeps c.stage (directive_by c row.WaitTask words) c rising
row-keeps c row.WaitOperator words right rising = directive-keeps c.stage (directive_by c row.WaitOperator words) c rising
row-keeps c row.Crash words right rising = directive-keeps c.stage (directive_by c row.Crash words) c rising
row-keeps c row.Start words right rising = directive-keeps c.stage (directive_by c row.Start words) c rising
row-keeps c row.Stop words right rising = directive-keeps c.stage (directive_by c row.Stop words) c rising
row-keeps c row.Lose words right rising = directive-keeps c.stage (directive_by c row.Lose words) c rising
row-keeps c row.Schedule words right rising = rising
row-keeps c row.TurnTask words right rising = rising
row-keeps c row.TurnOperator words right rising = rising
row-keeps c row.End words right rising = rising

kind-keeps : (c : Contents) (kind : Kind) (words : List Word) → kind_fault c kind words ≡ None → AreInOrder c.sections → AreInOrder (taken (statement_of c kind words) c).sections
kind-keeps c Define words right rising = rising
kind-keeps c Command words right rising = directive-keeps c.stage (command_directive c (admin_of words)) c rising
kind-keeps c (Listed r) words right rising = row-keeps c r words right rising

takes-keeps : (c next : Contents) (item : Item) → Takes c item next → AreInOrder c.sections → AreInOrder next.sections
takes-keeps c next item t rising =
    let m = t.reads.means in
    let e : next ≡ taken (statement_of c m.kind t.reads.words) c = t.leads ∙ ap (λ s. taken s c) m.means in
    subst (λ (x : Contents). AreInOrder x.sections) (sym e) (kind-keeps c m.kind t.reads.words m.right rising)

all-keep : (items : List Item) (c last : Contents) → TakesAll c items last → AreInOrder c.sections → AreInOrder last.sections
all-keep [] c last e rising = subst (λ (x : Contents). AreInOrder x.sections) e rising
all-keep (item ∷ items) c last t rising = all-keep items t.0 last t.2 (takes-keeps c t.0 item t.1 rising)

sections-in-order : (bytes : List ℕ) (plan : Plan) (p : IsPlan bytes plan) → AreInOrder p.contents.sections
sections-in-order bytes plan p = all-keep (script_of bytes).items nothing_read p.contents p.read.takes tt

pub works-in-order : (bytes : List ℕ) (plan : Plan) → IsPlan bytes plan → AreInOrder plan.works
works-in-order bytes plan p = subst (λ (x : Plan). AreInOrder x.works) (sym p.means) (rising-works p.contents.sections (sections-in-order bytes plan p))

pub operator-is-last : (bytes : List ℕ) (plan : Plan) → IsPlan bytes plan → IsOperatorLast plan.works
operator-is-last bytes plan p = subst (λ (x : Plan). IsOperatorLast x.works) (sym p.means) (operator-last p.contents.sections (sections-in-order bytes plan p))
