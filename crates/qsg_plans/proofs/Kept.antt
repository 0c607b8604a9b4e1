-- what is kept of a script as far as it was read, by each statement without a fault
use Rattle.std.proofs.Common.{◌≡◌, ℕ, ◌+◌, ◌<◌, ◌≤◌, Bool, true, false, List, [], ◌∷◌, ◌++◌, length, drop, Option, Some, None, refl, ap, sym, subst, ◌∙◌, arith}
use Rattle.std.specs.Prelude.{nat_le, if◌then◌else◌}
use Rattle.std.specs.List.{AllByRecursion}
use Rattle.std.specs.Option.{option_or}
use Rattle.std.proofs.lemmas.Bool.Decides.{nat_tests}
use Rattle.mqsc_lex.specs.declared.words.Word.{Word}
use Rattle.mqsc_admin.specs.declared.admins.Admin.{Admin}
use Rattle.mqsc_admin.specs.declared.admins.Admin.TheVariants as admin
use Rattle.mqsc_admin.specs.Admins.{admin_of}
use Rattle.mqsc_define.specs.Definitions.{definition_of}
use Rattle.mqsc_define.specs.Ranges.{IsInRange as IsDefinitionInRange}
use Rattle.mqsc_define.proofs.Ranges.{definition_in_range}
use Rattle.qsg_lines.specs.declared.items.Item.{Item}
use Rattle.qsg_num.specs.declared.seats.StructNo.{StructNo}
use Rattle.qsg_num.specs.Seats.{structure_at}
use Rattle.qsg_num.specs.declared.ids.Actor.{Actor}
use Rattle.qsg_num.specs.declared.ids.Actor.TheVariants.{Task, Operator}
use Rattle.qsg_objects.specs.declared.directives.Directive.{Directive}
use Rattle.qsg_objects.specs.declared.directives.Directive.TheVariants as directive
use Rattle.qsg_objects.specs.declared.plans.MemberDef.{MemberDef}
use Rattle.qsg_objects.specs.declared.plans.Size.{Size}
use Rattle.qsg_objects.specs.declared.definitions.CfstructDef.{CfstructDef}
use Rattle.qsg_objects.specs.declared.definitions.QlocalDef.{QlocalDef}
use Rattle.qsg_objects.specs.declared.definitions.Definition.{Definition}
use Rattle.qsg_objects.specs.declared.definitions.Definition.TheVariants.{Cfstruct as a_structure, Qlocal as a_queue}
use Rattle.qsg_objects.specs.declared.registry.Cfstruct.{Cfstruct}
use Rattle.qsg_objects.specs.Registry.{Registry, number_named, with_structure, with_queue, defined}
use Rattle.qsg_objects.proofs.Kept.{all-append, all-imp}
use Rattle.qsg_directives.specs.Asking.{IsRight}
use Rattle.qsg_draft.specs.declared.stages.Stage.{Stage}
use Rattle.qsg_draft.specs.declared.stages.Stage.TheVariants as stage
use Rattle.qsg_draft.specs.Contents.{Contents, nothing_read}
use Rattle.qsg_draft.specs.Additions.{with_member, with_definition, with_facility, with_section, with_directive_in}
use Rattle.qsg_grammar.specs.declared.kinds.Kind.{Kind}
use Rattle.qsg_grammar.specs.declared.kinds.Kind.TheVariants.{Define, Command, Listed}
use Rattle.qsg_grammar.specs.declared.kinds.Row.{Row}
use Rattle.qsg_grammar.specs.declared.kinds.Row.TheVariants as row
use Rattle.qsg_grammar.specs.declared.faults.Fault.TheVariants.{TooMany}
use Rattle.qsg_grammar.specs.declared.keywords.Keyword.TheVariants as keyword
use Rattle.qsg_grammar.specs.Values.{task_of}
use Rattle.qsg_grammar.specs.Faults.{verb_fault, words_fault, missing_fault, behind, row_fault, kind_fault}
use Rattle.qsg_statement.specs.Statements.{member_def, facility_size, command_directive, directive_by, statement_of}
use Rattle.qsg_statement.specs.Taking.{taken}
use Rattle.qsg_statement.specs.Words.{key_at, text_behind, member_of, structure_of}
use Rattle.qsg_statement.proofs.Bodies.{neither}
use Rattle.qsg_script.specs.Script.{Takes, TakesAll}
use Rattle.qsg_sound.specs.Sound.{IsDirectiveWithin}
use Rattle.qsg_devices.specs.Logs.{IsLogSized}
use Rattle.qsg_sysplex.specs.Plans.{AreRight, AreWithin, directives_of}
use Rattle.qsg_plans.specs.Plans.{HasElements, IsActorOf, IsWorkOf}
use Rattle.qsg_plans.proofs.Facilities.{IsSetRight, IsNamed, facility-rights, new-right}
use Rattle.qsg_plans.proofs.Keywords.{log-right, elements-right, blocks-right}
use Rattle.qsg_plans.proofs.Numbers.{count-most, count-least, structure-at}
use Rattle.qsg_plans.proofs.Objects.{AreDefined, defined-keeps}
use Rattle.qsg_plans.proofs.Sections.{inserted-all, extended-all, inserted-count, extended-count}
use Rattle.qsg_plans.proofs.Words.{task-within, crash-within, start-within, facility-within, body-sized}

abbrev pub IsFacilitySized : StructNo × Size → Type 0
IsFacilitySized f = HasElements f.1

-- what n statements keep of members, objects, facilities and sections
pub record AreInBounds (n : ℕ) (members : List MemberDef) (objects : Registry) (facilities : List (StructNo × Size)) (sections : List (Actor × List Directive)) : Type 0 where
  pub few : length members ≤ 8
  pub logs : AllByRecursion IsLogSized members
  pub defined : AreDefined objects
  pub elements : AllByRecursion IsFacilitySized facilities
  pub named : AllByRecursion (IsNamed (length objects.structures)) facilities
  pub sets : AllByRecursion (IsSetRight facilities) objects.structures
  pub actors : AllByRecursion (IsWorkOf (length members)) sections
  pub right : AllByRecursion AreRight sections
  pub within : AllByRecursion (AreWithin (length members)) sections
  pub directives : directives_of sections ≤ n

-- what contents of n statements keep
abbrev pub IsInBounds : ℕ → Contents → Type 0
IsInBounds n c = AreInBounds n c.members c.objects c.facilities c.sections

-- One statement more may add nothing.
more : (n : ℕ) (members : List MemberDef) (objects : Registry) (facilities : List (StructNo × Size)) (sections : List (Actor × List Directive))
    → AreInBounds n members objects facilities sections → AreInBounds (n + 1) members objects facilities sections
more n members objects facilities sections kept =
    record {
      few = kept.few;
      logs = kept.logs;
      defined = kept.defined;
      elements = kept.elements;
      named = kept.named;
      sets = kept.sets;
      actors = kept.actors;
      right = kept.right;
      within = kept.within;
      directives = let h = kept.directives in omega (arith, h);
    }

unchanged : (n : ℕ) (c : Contents) → IsInBounds n c → IsInBounds (n + 1) c
unchanged n c kept = more n c.members c.objects c.facilities c.sections kept

none-kept : IsInBounds 0 nothing_read
none-kept = record { few = omega arith; logs = tt; defined = record { numbered = tt; placed = tt }; elements = tt; named = tt; sets = tt; actors = tt; right = tt; within = tt; directives = omega arith }

-- MEMBER.

length-push : {X : Type 0} (xs : List X) (x : X) → length (xs ++ x ∷ []) ≡ length xs + 1
length-push [] x = refl
length-push (y ∷ ys) x = let h = length-push ys x in omega (arith, h)

fewer-than : (n : ℕ) → (if nat_le 8 n then Some (TooMany 8) else None) ≡ None → n < 8
fewer-than n e = by (nat_le 8 n) refl e
  where
    by : (b : Bool) → nat_le 8 n ≡ b → (if b then Some (TooMany 8) else None) ≡ None → n < 8
    by true is f = absurd cc
    by false is f = grind (arith, nat_tests, is)

more-actors : (n m : ℕ) (a : Actor) → n ≤ m → IsActorOf n a → IsActorOf m a
more-actors n m (Task x t) le is = (omega (arith, le, is.0), is.1)
more-actors n m Operator le is = tt

directive-more : (n m : ℕ) (d : Directive) → n ≤ m → IsDirectiveWithin n d → IsDirectiveWithin m d
directive-more n m (directive.Put queue body priority persistent msg_id correl_id) le is = tt
directive-more n m (directive.Get queue msg_id correl_id) le is = tt
directive-more n m directive.Commit le is = tt
directive-more n m directive.Backout le is = tt
directive-more n m (directive.Wait other answers) le is = tt
directive-more n m (directive.Backup structure) le is = tt
directive-more n m (directive.Recover structure kind) le is = tt
directive-more n m (directive.ResetSmds member structure wanted) le is = tt
directive-more n m (directive.DisplayCfstatus structure) le is = tt
directive-more n m (directive.DisplayQueue queue) le is = tt
directive-more n m (directive.DisplaySmds structure) le is = tt
directive-more n m (directive.Crash member pick) le is = omega (arith, le, is)
directive-more n m (directive.Start member) le is = omega (arith, le, is)
directive-more n m (directive.Stop member) le is = tt
directive-more n m (directive.Lose structure) le is = tt

more-within : (n m : ℕ) (ds : List Directive) → n ≤ m → AllByRecursion (IsDirectiveWithin n) ds → AllByRecursion (IsDirectiveWithin m) ds
more-within n m ds le each = all-imp (IsDirectiveWithin n) (IsDirectiveWithin m) (λ d is. directive-more n m d le is) ds each

log-sized : (c : Contents) (words : List Word) → row_fault c row.Member words ≡ None → IsLogSized (member_def (key_at 1 words) (drop 2 words))
log-sized c words e =
    let text = text_behind keyword.Log (drop 2 words) in
    (count-least 8192 1 8192 text (omega arith) (log-right c words e), count-most 8192 8192 text (omega arith))

member-keeps : (n : ℕ) (c : Contents) (words : List Word) → row_fault c row.Member words ≡ None → IsInBounds n c → IsInBounds (n + 1) (with_member (member_def (key_at 1 words) (drop 2 words)) c)
member-keeps n c words e kept =
    let m : MemberDef = member_def (key_at 1 words) (drop 2 words) in
    let verb = (neither (verb_fault c row.Member) (option_or (words_fault c row.Member [] (behind words)) (missing_fault row.Member (behind words))) e).0 in
    let room = fewer-than (length c.members) verb in
    let one = length-push c.members m in
    record {
      few = omega (arith, room, one);
      logs = all-append IsLogSized c.members m kept.logs (log-sized c words e);
      defined = kept.defined;
      elements = kept.elements;
      named = kept.named;
      sets = kept.sets;
      actors = all-imp (IsWorkOf (length c.members)) (IsWorkOf (length (c.members ++ m ∷ []))) (λ s is. more-actors (length c.members) (length (c.members ++ m ∷ [])) s.0 (omega (arith, one)) is) c.sections kept.actors;
      right = kept.right;
      within = all-imp (AreWithin (length c.members)) (AreWithin (length (c.members ++ m ∷ []))) (λ s is. more-within (length c.members) (length (c.members ++ m ∷ [])) s.1 (omega (arith, one)) is) c.sections kept.within;
      directives = let h = kept.directives in omega (arith, h);
    }

-- FACILITY.

facility-elements : (c : Contents) (words : List Word) → row_fault c row.Facility words ≡ None → HasElements (facility_size c (key_at 1 words) (drop 2 words))
facility-elements c words e =
    let text = text_behind keyword.Elements (drop 2 words) in
    (count-least 65536 1 1048576 text (omega arith) (elements-right c words e), count-most 65536 1048576 text (omega arith))

facility-keeps : (n : ℕ) (c : Contents) (words : List Word) → row_fault c row.Facility words ≡ None → IsInBounds n c → IsInBounds (n + 1) (with_facility (structure_of (key_at 1 words) c) (facility_size c (key_at 1 words) (drop 2 words)) c)
facility-keeps n c words e kept =
    let s : StructNo = structure_of (key_at 1 words) c in
    let size : Size = facility_size c (key_at 1 words) (drop 2 words) in
    record {
      few = kept.few;
      logs = kept.logs;
      defined = kept.defined;
      elements = all-append IsFacilitySized c.facilities (s, size) kept.elements (facility-elements c words e);
      named = all-append (IsNamed (length c.objects.structures)) c.facilities (s, size) kept.named (facility-within c words kept.defined.numbered e);
      sets = facility-rights c s size.elements (text_behind keyword.Blocks (drop 2 words)) kept.defined.numbered (blocks-right c words e) kept.sets;
      actors = kept.actors;
      right = kept.right;
      within = kept.within;
      directives = let h = kept.directives in omega (arith, h);
    }

-- TASK and OPERATOR.

section-keeps : (n : ℕ) (c : Contents) (a : Actor) → IsActorOf (length c.members) a → IsInBounds n c → IsInBounds (n + 1) (with_section a c)
section-keeps n c a is kept =
    record {
      few = kept.few;
      logs = kept.logs;
      defined = kept.defined;
      elements = kept.elements;
      named = kept.named;
      sets = kept.sets;
      actors = inserted-all (IsWorkOf (length c.members)) a c.sections is kept.actors;
      right = inserted-all AreRight a c.sections tt kept.right;
      within = inserted-all (AreWithin (length c.members)) a c.sections tt kept.within;
      directives = let h = kept.directives in let same = inserted-count a c.sections in omega (arith, h, same);
    }

-- A directive.

directive-keeps : (n : ℕ) (c : Contents) (s : Stage) (d : Directive) → IsRight d → IsDirectiveWithin (length c.members) d → IsInBounds n c → IsInBounds (n + 1) (with_directive_in s d c)
directive-keeps n c stage.Start d is within kept = unchanged n c kept
directive-keeps n c stage.Definitions d is within kept = unchanged n c kept
directive-keeps n c (stage.Section a) d is within kept =
    record {
      few = kept.few;
      logs = kept.logs;
      defined = kept.defined;
      elements = kept.elements;
      named = kept.named;
      sets = kept.sets;
      actors = extended-all (IsWorkOf (length c.members)) a d c.sections (λ s h. h) kept.actors;
      right = extended-all AreRight a d c.sections (λ s h. all-append IsRight s.1 d h is) kept.right;
      within = extended-all (AreWithin (length c.members)) a d c.sections (λ s h. all-append (IsDirectiveWithin (length c.members)) s.1 d h within) kept.within;
      directives = let h = kept.directives in let one = extended-count a d c.sections in omega (arith, h, one);
    }
directive-keeps n c stage.Schedule d is within kept = unchanged n c kept
directive-keeps n c stage.Ended d is within kept = unchanged n c kept

command-right : (c : Contents) (a : Admin) → IsRight (command_directive c a)
command-right c (admin.Backup structure) = tt
command-right c (admin.Recover structure kind) = tt
command-right c (admin.ResetSmds member structure wanted) = tt
command-right c (admin.DisplayCfstatus structure) = tt
command-right c (admin.DisplayQueue queue) = tt
command-right c (admin.DisplaySmds structure) = tt

command-within : (c : Contents) (a : Admin) → IsDirectiveWithin (length c.members) (command_directive c a)
command-within c (admin.Backup structure) = tt
command-within c (admin.Recover structure kind) = tt
command-within c (admin.ResetSmds member structure wanted) = tt
command-within c (admin.DisplayCfstatus structure) = tt
command-within c (admin.DisplayQueue queue) = tt
command-within c (admin.DisplaySmds structure) = tt

put-right : (c : Contents) (words : List Word) → IsRight (directive_by c row.Put words)
put-right c words = body-sized (text_behind keyword.Body (drop 2 words)) (text_behind keyword.Hex (drop 2 words)) (text_behind keyword.Size (drop 2 words))

-- DEFINE.

-- one structure more, which has the next number
structure-more : (facilities : List (StructNo × Size)) (o : Registry) (number : Option StructNo) (d : CfstructDef) → structure_at (length o.structures + 1) ≡ number → IsDefinitionInRange (a_structure d)
    → AllByRecursion (IsNamed (length o.structures)) facilities → AllByRecursion (IsSetRight facilities) o.structures
    → AllByRecursion (IsNamed (length (with_structure number d o).structures)) facilities × AllByRecursion (IsSetRight facilities) (with_structure number d o).structures
structure-more facilities o None d is range named sets = (named, sets)
structure-more facilities o (Some number) d is range named sets =
    let s : Cfstruct = record { number = number; definition = d } in
    let one = length-push o.structures s in
    let at = structure-at (length o.structures + 1) number is in (
      all-imp (IsNamed (length o.structures)) (IsNamed (length (o.structures ++ s ∷ []))) (λ f h. omega (arith, h, one)) facilities named,
      all-append (IsSetRight facilities) o.structures s sets (new-right facilities s (length o.structures) named (omega (arith, at)) (record { smallest = range.smallest_block; largest = range.largest_block })),
    )

queue-same : (facilities : List (StructNo × Size)) (o : Registry) (number : Option StructNo) (d : QlocalDef)
    → AllByRecursion (IsNamed (length o.structures)) facilities → AllByRecursion (IsSetRight facilities) o.structures
    → AllByRecursion (IsNamed (length (with_queue number d o).structures)) facilities × AllByRecursion (IsSetRight facilities) (with_queue number d o).structures
queue-same facilities o None d named sets = (named, sets)
queue-same facilities o (Some number) d named sets = (named, sets)

sets-defined : (facilities : List (StructNo × Size)) (o : Registry) (d : Definition) → IsDefinitionInRange d
    → AllByRecursion (IsNamed (length o.structures)) facilities → AllByRecursion (IsSetRight facilities) o.structures
    → AllByRecursion (IsNamed (length (defined d o).structures)) facilities × AllByRecursion (IsSetRight facilities) (defined d o).structures
sets-defined facilities o (a_structure d) range named sets = structure-more facilities o (structure_at (length o.structures + 1)) d refl range named sets
sets-defined facilities o (a_queue d) range named sets = queue-same facilities o (number_named d.cfstruct o) d named sets

definition-keeps : (n : ℕ) (c : Contents) (d : Definition) → IsDefinitionInRange d → IsInBounds n c → IsInBounds (n + 1) (with_definition d c)
definition-keeps n c d range kept =
    let sets = sets-defined c.facilities c.objects d range kept.named kept.sets in
    record {
      few = kept.few;
      logs = kept.logs;
      defined = defined-keeps d c.objects kept.defined;
      elements = kept.elements;
      named = sets.0;
      sets = sets.1;
      actors = kept.actors;
      right = kept.right;
      within = kept.within;
      directives = let h = kept.directives in omega (arith, h);
    }

-- Each statement without a fault.

row-keeps : (n : ℕ) (c : Contents) (r : Row) (words : List Word) → row_fault c r words ≡ None → IsInBounds n c → IsInBounds (n + 1) (taken (statement_of c (Listed r) words) c)
row-keeps n c row.Group words right kept = unchanged n c kept
row-keeps n c row.Member words right kept = member-keeps n c words right kept
row-keeps n c row.Facility words right kept = facility-keeps n c words right kept
row-keeps n c row.Task words right kept = section-keeps n c (Task (member_of (key_at 1 words) c) (task_of (key_at 2 words))) (task-within c words right) kept
row-keeps n c row.Operator words right kept = section-keeps n c Operator tt kept
row-keeps n c row.Put words right kept = directive-keeps n c c.stage (directive_by c row.Put words) (put-right c words) tt kept
row-keeps n c row.Get words right kept = directive-keeps n c c.stage (directive_by c row.Get words) tt tt kept
row-keeps n c row.Commit words right kept = directive-keeps n c c.stage (directive_by c row.Commit words) tt tt kept
row-keeps n c row.Backout words right kept = directive-keeps n c c.stage (directive_by c row.Backout words) tt tt kept
row-keeps n c row.WaitTask words right kept = directive-keeps n c c.stage (directive_by c row.WaitTask words) tt tt kept
row-keeps n c row.WaitOperator words right kept = directive-keeps n c c.stage (directive_by c row.WaitOperator words) tt tt kept
row-keeps n c row.Crash words right kept = directive-keeps n c c.stage (directive_by c row.Crash words) tt (crash-within c words right) kept
row-keeps n c row.Start words right kept = directive-keeps n c c.stage (directive_by c row.Start words) tt (start-within c words right) kept
row-keeps n c row.Stop words right kept = directive-keeps n c c.stage (directive_by c row.Stop words) tt tt kept
row-keeps n c row.Lose words right kept = directive-keeps n c c.stage (directive_by c row.Lose words) tt tt kept
row-keeps n c row.Schedule words right kept = unchanged n c kept
row-keeps n c row.TurnTask words right kept = unchanged n c kept
row-keeps n c row.TurnOperator words right kept = unchanged n c kept
row-keeps n c row.End words right kept = unchanged n c kept

kind-keeps : (n : ℕ) (c : Contents) (kind : Kind) (words : List Word) → kind_fault c kind words ≡ None → IsInBounds n c → IsInBounds (n + 1) (taken (statement_of c kind words) c)
kind-keeps n c Define words right kept = definition-keeps n c (definition_of words) (definition_in_range words) kept
kind-keeps n c Command words right kept = directive-keeps n c c.stage (command_directive c (admin_of words)) (command-right c (admin_of words)) (command-within c (admin_of words)) kept
kind-keeps n c (Listed r) words right kept = row-keeps n c r words right kept

item-keeps : (n : ℕ) (c next : Contents) (item : Item) → Takes c item next → IsInBounds n c → IsInBounds (n + 1) next
item-keeps n c next item t kept =
    let m = t.reads.means in
    let e : next ≡ taken (statement_of c m.kind t.reads.words) c = t.leads ∙ ap (λ s. taken s c) m.means in
    subst (λ (x : Contents). IsInBounds (n + 1) x) (sym e) (kind-keeps n c m.kind t.reads.words m.right kept)

items-keep : (items : List Item) (n : ℕ) (c last : Contents) → TakesAll c items last → IsInBounds n c → IsInBounds (n + length items) last
items-keep [] n c last e kept = let same : n ≡ n + 0 = omega arith in subst (λ (k : ℕ). IsInBounds k last) same (subst (λ (x : Contents). IsInBounds n x) e kept)
items-keep (item ∷ items) n c last t kept =
    let same : n + 1 + length items ≡ n + length (item ∷ items) = omega arith in
    subst (λ (k : ℕ). IsInBounds k last) same (items-keep items (n + 1) t.0 last t.2 (item-keeps n c t.0 item t.1 kept))

-- A script as far as it was read keeps its bounds, with at most one directive an item.
pub script-in-bounds : (items : List Item) (last : Contents) → TakesAll nothing_read items last → IsInBounds (length items) last
script-in-bounds items last t =
    let same : 0 + length items ≡ length items = omega arith in
    subst (λ (k : ℕ). IsInBounds k last) same (items-keep items 0 nothing_read last t none-kept)
