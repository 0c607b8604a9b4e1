-- what was delivered is shown, and a structure at rest has no pending entry
use Rattle.std.proofs.Common.{◌≡◌, ℕ, List, [], ◌∷◌, map, drop, Bool, true, false, cond, Option, Some, None, inl, inr, refl, sym, ap, subst, ◌∙◌, arith, true≢false}
use Rattle.std.specs.Prelude.{◌==◌, ◌&&◌, ◌||◌, not, option_map, Contains}
use Rattle.std.specs.List.{AllByRecursion, list_any}
use Rattle.std.specs.Option.{option_and_then}
use Rattle.std.proofs.lemmas.Bool.{and_parts, both_ways, ne_eqb}
use Rattle.std.proofs.lemmas.Option.{none-some, same_Some}
use Rattle.qsg_num.specs.declared.seats.Member.{Member}
use Rattle.qsg_num.specs.declared.seats.StructNo.{StructNo}
use Rattle.qsg_num.specs.declared.seats.TaskNo.{TaskNo}
use Rattle.qsg_num.specs.declared.ids.EntryId.{EntryId}
use Rattle.qsg_num.specs.declared.ids.UnitName.{UnitName}
use Rattle.qsg_num.specs.Seats.{structure_number}
use Rattle.qsg_msg.specs.declared.message.Message.{Message}
use Rattle.qsg_model.specs.declared.history.Item.{Item}
use Rattle.qsg_model.specs.declared.history.Item.TheVariants.{Unit as UnitOf, Lost, Purged}
use Rattle.qsg_num.specs.Ids.{same_unit}
use Rattle.qsg_model.proofs.Differing.{at_head, in_tail}
use Rattle.qsg_repo.specs.Calls.{is_unresolved}
use Rattle.qsg_group.proofs.Pages.{same_name, unwritten}
use Rattle.qsg_manager.specs.Groups.{group_of}
use Rattle.qsg_lists.proofs.Found.{all-find}
use Rattle.qsg_model.specs.declared.history.Op.{Op}
use Rattle.qsg_model.specs.History.{key, has_key, puts, Legal}
use Rattle.qsg_model.specs.Past.{held_at, is_unit, is_put, is_got}
use Rattle.qsg_model.proofs.Keyed.{message_at-key}
use Rattle.qsg_model.proofs.Past.{got_is_unheld}
use Rattle.qsg_lists.specs.declared.parts.Entry.{Entry}
use Rattle.qsg_lists.specs.declared.parts.Mark.{Mark}
use Rattle.qsg_lists.specs.declared.parts.Mark.TheVariants.{Visible, PutBy, GotBy, Cleanup}
use Rattle.qsg_lists.specs.declared.parts.Place.{Place}
use Rattle.qsg_lists.specs.declared.parts.Place.TheVariants.{Inline, Offloaded}
use Rattle.qsg_lists.specs.Entries as lists
use Rattle.qsg_lists.specs.Structures.{is_active}
use Rattle.qsg_group.specs.declared.tasks.Claim.{Claim}
use Rattle.qsg_group.specs.declared.tasks.Stage.{Stage}
use Rattle.qsg_group.specs.declared.tasks.Stage.TheVariants.{Open, Hardening, Committed, BackedOut}
use Rattle.qsg_group.specs.declared.tasks.Task.{Task}
use Rattle.qsg_group.specs.Group.{Log}
use Rattle.qsg_group.specs.Laws.{is_pending, PutsBy, GetsBy, Names, MarkNames, AreMatched}
use Rattle.qsg_group.proofs.Purging.{unput_elsewhere, ungot_elsewhere}
use Rattle.qsg_group.specs.Observers.{is_committed, counted_by, counted, entry_at, is_hardened, is_undecided, key_of_op, keys_claimed, IsElsewhere}
use Rattle.qsg_manager.specs.Facilities.{structure_in}
use Rattle.qsg_manager.specs.Storage.{task_at}
use Rattle.qsg_manager.specs.Views.{body_of, is_outside, message_of, held_of}
use Rattle.qsg_manager.proofs.Bridges.{found}
use Rattle.qsg_steady.specs.Steady.{IsLawful}
use Rattle.qsg_step.specs.States.{State}
use Rattle.qsg_sound.specs.Sound.{IsSound}
use Rattle.qsg_answered.specs.Telling.{pending_of}
use Rattle.qsg_answered.specs.Cutting.{works_on, is_told_of, put_is_told, IsToldOf}
use Rattle.qsg_answered.specs.Fits.{IsInside, commits_of, AreFitting}
use Rattle.qsg_answered.specs.Fresh.{IsNamed, IsDelivered, is_shown, IsShown, AreShown, IsAtRest, is_unsettled, AreQuiet}
use Rattle.qsg_answered.proofs.Deciding.{decides, unanswered, cut_unanswered}
use Rattle.qsg_answered.proofs.Frames.{inside_in}
use Rattle.qsg_answered.proofs.Gets.{found_inside}
use Rattle.qsg_answered.proofs.Histories.{once, put_or_got, left_claimed, unit_got, put_once}

-- ---- a unit that is committed, and whose mark is left, isn't answered

-- a committed unit whose mark is left has claimed the key
claimed_by : (stage : Stage) (ops : List (StructNo × Op)) (claims : List Claim) (k : ℕ × ℕ) (m : Message) → is_hardened stage ≡ true → PutsBy stage ops claims k m → has_key (keys_claimed claims) k ≡ true
claimed_by Open ops claims k m hardened due = absurd (true≢false (sym hardened))
claimed_by (Hardening first) ops claims k m hardened due = absurd (true≢false (sym hardened))
claimed_by (Committed first n) ops claims k m hardened due = left_claimed n k claims due
claimed_by (BackedOut n) ops claims k m hardened due = absurd (true≢false (sym hardened))

marked_live : (s : State) (t : TaskNo) (v : UnitName) (m : Message) (sound : IsSound s) (l : IsLawful s.parts) (fits : AreFitting s) → is_committed l.rest.logs v ≡ true → IsDelivered m s.parts.history.items s.courses → (task_at v.member t s.parts.managers).unit ≡ Some v
    → PutsBy (task_at v.member t s.parts.managers).stage (task_at v.member t s.parts.managers).ops (task_at v.member t s.parts.managers).claims (key m) m → ⊥
marked_live s t v m sound l fits committed given holds due =
    let h = s.parts.history.items in
    let task = task_at v.member t s.parts.managers in
    let hardened = sym (l.laws.in_hand v t holds).in_log ∙ committed in
    let deciding = decides s t v sound l fits holds hardened in
    let legal : Legal h = subst Legal l.mirrored.history l.laws.legal in
    let ops = pending_of s.parts.objects v.member t s.courses in
    let claimed = ap (λ ks. has_key ks (key m)) (sym deciding.settled.claims) ∙ claimed_by task.stage task.ops task.claims (key m) m hardened due in
    elim (put_or_got (key m) ops claimed) [
      | inl put ↦
          let same = put_once (key m) h v given.unit ops given.ops legal.puts_differ deciding.settled.committed.there given.there put given.put in
          unanswered s v.member t v sound l fits deciding.commits (subst (λ (x : UnitName). IsNamed x s.courses) (sym same) given.answered)
      | inr got ↦ none-some m (sym (got_is_unheld (key m) h legal (unit_got (key m) h v ops deciding.settled.committed.there got)) ∙ given.held)
    ]

-- what works on the message of a key is a unit of the history
works_found : (u : UnitName) (k : ℕ × ℕ) (h : List Item) → list_any (works_on u k) h ≡ true → (ops : List (StructNo × Op)) × Contains h (UnitOf u ops) × (has_key (map key_of_op ops) k ≡ true)
works_found u k [] any = absurd (true≢false (sym any))
works_found u k (i ∷ h) any = by (works_on u k i) refl any (works_found u k h)
  where
    here : (j : Item) → works_on u k j ≡ true → (ops : List (StructNo × Op)) × Contains (j ∷ h) (UnitOf u ops) × (has_key (map key_of_op ops) k ≡ true)
    here (UnitOf v ops) is =
        let both = and_parts (same_unit u v) (has_key (map key_of_op ops) k) is in
        (ops, subst (λ (x : UnitName). Contains (UnitOf v ops ∷ h) (UnitOf x ops)) (sym (same_name u v both.0)) (at_head (UnitOf v ops) h), both.1)
    here (Lost s) is = absurd (true≢false (sym is))
    here (Purged s) is = absurd (true≢false (sym is))

    by : (b : Bool) → works_on u k i ≡ b → (b || list_any (works_on u k) h) ≡ true → (list_any (works_on u k) h ≡ true → (ops : List (StructNo × Op)) × Contains h (UnitOf u ops) × (has_key (map key_of_op ops) k ≡ true))
        → (ops : List (StructNo × Op)) × Contains (i ∷ h) (UnitOf u ops) × (has_key (map key_of_op ops) k ≡ true)
    by true is any rest = here i is
    by false is any rest = let found = rest any in (found.0, in_tail i (UnitOf u found.0) h found.1, found.2)

-- a unit whose run is in its member's log is in the history
committed_unit : (s : State) (v : UnitName) (l : IsLawful s.parts) → is_committed l.rest.logs v ≡ true → is_unit v s.parts.history.items ≡ true
committed_unit s v l committed = by (is_unit v l.rest.history) refl
  where
    by : (b : Bool) → is_unit v l.rest.history ≡ b → is_unit v s.parts.history.items ≡ true
    by true is = ap (is_unit v) (sym l.mirrored.history) ∙ is
    by false is = absurd (true≢false (sym committed ∙ unwritten (group_of l.rest s.parts.structures s.parts.managers) v is l.laws))

-- a put of a unit that was cut off wasn't delivered
marked_cut : (s : State) (v : UnitName) (m : Message) (sound : IsSound s) (l : IsLawful s.parts) (fits : AreFitting s) → is_committed l.rest.logs v ≡ true → IsDelivered m s.parts.history.items s.courses → is_unresolved v.member v.incarnation s.parts.repo ≡ true
    → is_told_of fits.cut_off s.parts (key m) v ≡ true → ⊥
marked_cut s v m sound l fits committed given failed told =
    let h = s.parts.history.items in
    let legal : Legal h = subst Legal l.mirrored.history l.laws.legal in
    let both = and_parts (fits.cut_off v) (list_any (works_on v (key m)) h) (told_then (is_unresolved v.member v.incarnation s.parts.repo) (is_unit v h) (fits.cut_off v && list_any (works_on v (key m)) h) failed (committed_unit s v l committed) told) in
    let found = works_found v (key m) h both.1 in
    elim (put_or_got (key m) found.0 found.2) [
      | inl put ↦
          let same = put_once (key m) h v given.unit found.0 given.ops legal.puts_differ found.1 given.there put given.put in
          cut_unanswered s v sound l fits both.0 (subst (λ (x : UnitName). IsNamed x s.courses) (sym same) given.answered)
      | inr got ↦ none-some m (sym (got_is_unheld (key m) h legal (unit_got (key m) h v found.0 found.1 got)) ∙ given.held)
    ]
  where
    told_then : (a b c : Bool) → a ≡ true → b ≡ true → (not a || (not b || c)) ≡ true → c ≡ true
    told_then true true c one two is = is
    told_then true false c one two is = absurd (true≢false (sym two))
    told_then false b c one two is = absurd (true≢false (sym one))

marked_put : (s : State) (v : UnitName) (m : Message) (sound : IsSound s) (l : IsLawful s.parts) (fits : AreFitting s) → is_committed l.rest.logs v ≡ true → IsDelivered m s.parts.history.items s.courses → is_told_of fits.cut_off s.parts (key m) v ≡ true
    → MarkNames l.rest.failed (λ k w. task_at k w s.parts.managers) (key m) m (PutBy v) → ⊥
marked_put s v m sound l fits committed given told names = elim names [
  | inl failed ↦ marked_cut s v m sound l fits committed given (sym (l.mirrored.failed v.member v.incarnation.number) ∙ failed) told
  | inr live ↦ marked_live s live.0 v m sound l fits committed given live.1 live.2
]

-- ---- an entry that counts

cond_some : (b : Bool) (x m : Message) → cond b (Some x) None ≡ Some m → (b ≡ true) × (x ≡ m)
cond_some true x m is = (refl, same_Some x m is)
cond_some false x m is = absurd (none-some m is)

cond_none : (b : Bool) (x m : Message) → cond b None (Some x) ≡ Some m → x ≡ m
cond_none true x m is = absurd (none-some m is)
cond_none false x m is = same_Some x m is

-- an entry that counts has the message, and shows it unless a committed unit put it
shown_by : (logs : Member → Log) (x m : Message) (mark : Mark) → counted_by logs x mark ≡ Some m → ((v : UnitName) → mark ≡ PutBy v → is_committed logs v ≡ true → x ≡ m → ⊥) → (x ≡ m) × (is_shown mark ≡ true)
shown_by logs x m Visible is apart = (same_Some x m is, refl)
shown_by logs x m (PutBy v) is apart = let both = cond_some (is_committed logs v) x m is in absurd (apart v refl both.0 both.1)
shown_by logs x m (GotBy v) is apart = (cond_none (is_committed logs v) x m is, refl)
shown_by logs x m Cleanup is apart = absurd (none-some m is)

-- an entry of an inside body
inline_is : (e : Entry) (place : Place) → e.place ≡ place → IsInside e → (body : List ℕ) × (e.place ≡ Inline body)
inline_is e (Inline body) is inside = (body, is)
inline_is e (Offloaded owner blocks long) is inside = absurd (true≢false (sym (ap is_outside is) ∙ inside))

-- the machine's entry of an id
entry_is : (s : State) (sound : IsSound s) (l : IsLawful s.parts) (x : StructNo) (id : EntryId) (o : Option Entry) → lists.entry_at id (structure_in x s.parts.structures).entries ≡ o
    → entry_at id.number (map (held_of l.rest.outside x) (structure_in x s.parts.structures).entries) ≡ option_map (held_of l.rest.outside x) o
entry_is s sound l x id o is = found l.rest.outside x id (structure_in x s.parts.structures).entries ∙ ap (option_map (held_of l.rest.outside x)) is

-- what counts under the id of a message that is held is that message
counts_there : (s : State) (sound : IsSound s) (l : IsLawful s.parts) (m : Message) (o : Option Entry) → is_active (structure_in m.structure s.parts.structures).state ≡ true → held_at (key m) s.parts.history.items ≡ Some m → lists.entry_at m.id (structure_in m.structure s.parts.structures).entries ≡ o
    → option_and_then (counted l.rest.logs) (option_map (held_of l.rest.outside m.structure) o) ≡ Some m
counts_there s sound l m o active held is =
    ap (option_and_then (counted l.rest.logs)) (sym (entry_is s sound l m.structure m.id o is))
    ∙ l.laws.good m.structure active m.id.number ∙ ap (held_at (key m)) l.mirrored.history ∙ held

shows : (s : State) (sound : IsSound s) (l : IsLawful s.parts) (m : Message) (e : Entry) → AreFitting s → is_active (structure_in m.structure s.parts.structures).state ≡ true → IsDelivered m s.parts.history.items s.courses
    → lists.entry_at m.id (structure_in m.structure s.parts.structures).entries ≡ Some e → IsShown m (structure_in m.structure s.parts.structures)
shows s sound l m e fits active given is =
    let structure = structure_in m.structure s.parts.structures in
    let outside = l.rest.outside in
    let msg = message_of m.structure e.id e.head (body_of (outside m.structure) e.place) in
    let named = l.laws.marked m.structure m.id.number (held_of outside m.structure e) (entry_is s sound l m.structure m.id (Some e) is) in
    let both = shown_by l.rest.logs msg m e.mark (counts_there s sound l m (Some e) active given.held is)
    (λ v mark committed same.
    marked_put s v m sound l fits committed given
    (subst (λ (y : Message). is_told_of fits.cut_off s.parts (key y) v ≡ true) same
    (sym (ap (put_is_told (is_told_of fits.cut_off s.parts) (structure_number m.structure, e.id.number)) mark)
    ∙ all-find (IsToldOf (is_told_of fits.cut_off s.parts) (structure_number m.structure)) (lists.has_id m.id) structure.entries e (fits.told m.structure) is))
    (subst (λ (y : Message). MarkNames l.rest.failed (λ k w. task_at k w s.parts.managers) (key m) y (PutBy v)) same
    (subst (λ (y : Mark). MarkNames l.rest.failed (λ k w. task_at k w s.parts.managers) (key m) msg y) mark named))) in
    let inline = inline_is e e.place refl (found_inside (lists.has_id m.id) structure.entries e (inside_in m.structure s.parts.structures fits.inside) is) in
    let same : message_of m.structure e.id e.head inline.0 ≡ m = ap (λ (y : Place). message_of m.structure e.id e.head (body_of (outside m.structure) y)) (sym inline.1) ∙ both.0 in
    let body : inline.0 ≡ m.body = ap (λ (y : Message). y.body) same in
    record {
      entry = e;
      there = is;
      says = ap (message_of m.structure e.id e.head) (sym body) ∙ same;
      body = inline.1 ∙ ap Inline body;
      shown = both.1;
    }

pub delivered_shown : (s : State) → IsSound s → IsLawful s.parts → AreFitting s → AreShown s
delivered_shown s sound l fits m active given = by (lists.entry_at m.id (structure_in m.structure s.parts.structures).entries) refl
  where
    by : (o : Option Entry) → lists.entry_at m.id (structure_in m.structure s.parts.structures).entries ≡ o → IsShown m (structure_in m.structure s.parts.structures)
    by None is = absurd (none-some m (counts_there s sound l m None active given.held is))
    by (Some e) is = shows s sound l m e fits active given is

-- ---- a structure at rest

elsewhere_lacks : (x : StructNo) (id : ℕ) (claims : List Claim) → AllByRecursion (IsElsewhere x) claims → has_key (keys_claimed claims) (structure_number x, id) ≡ false
elsewhere_lacks x id [] all = refl
elsewhere_lacks x id (c ∷ claims) all =
    let apart : (structure_number x == structure_number c.connection.structure) ≡ false = ne_eqb (structure_number x) (structure_number c.connection.structure) (λ e. all.0 (sym e)) in
    let rest = elsewhere_lacks x id claims all.1 in
    grind (arith, apart, rest)

unclaimed : (x : StructNo) (id n : ℕ) (claims : List Claim) → AllByRecursion (IsElsewhere x) claims → has_key (keys_claimed (drop n claims)) (structure_number x, id) ≡ true → ⊥
unclaimed x id n claims all has = both_ways (has_key (keys_claimed claims) (structure_number x, id)) (elsewhere_lacks x id claims all) (left_claimed n (structure_number x, id) claims has)

-- a unit without work on the structure put nothing there, and got nothing
puts_none : (h : List Item) (x : StructNo) (id : ℕ) (m : Message) (stage : Stage) (ops : List (StructNo × Op)) (claims : List Claim) → (is_undecided stage ≡ true → AreMatched h ops claims) → AllByRecursion (IsElsewhere x) claims → PutsBy stage ops claims (structure_number x, id) m → ⊥
puts_none h x id m Open ops claims matched all due = both_ways (is_put (structure_number x, id) ops) (unput_elsewhere h x id ops claims (matched refl) all) (message_at-key (structure_number x, id) (puts ops) m due).1
puts_none h x id m (Hardening first) ops claims matched all due = both_ways (is_put (structure_number x, id) ops) (unput_elsewhere h x id ops claims (matched refl) all) (message_at-key (structure_number x, id) (puts ops) m due).1
puts_none h x id m (Committed first n) ops claims matched all due = unclaimed x id n claims all due
puts_none h x id m (BackedOut n) ops claims matched all due = unclaimed x id n claims all due

gets_none : (h : List Item) (x : StructNo) (id : ℕ) (stage : Stage) (ops : List (StructNo × Op)) (claims : List Claim) → (is_undecided stage ≡ true → AreMatched h ops claims) → AllByRecursion (IsElsewhere x) claims → GetsBy stage ops claims (structure_number x, id) → ⊥
gets_none h x id Open ops claims matched all due = both_ways (is_got (structure_number x, id) ops) (ungot_elsewhere h x id ops claims (matched refl) all) due
gets_none h x id (Hardening first) ops claims matched all due = both_ways (is_got (structure_number x, id) ops) (ungot_elsewhere h x id ops claims (matched refl) all) due
gets_none h x id (Committed first n) ops claims matched all due = unclaimed x id n claims all due
gets_none h x id (BackedOut n) ops claims matched all due = unclaimed x id n claims all due

-- what names a unit without work there names one of an incarnation that failed
only_failed : (s : State) (v : UnitName) (Due : Task → Type 0) (l : IsLawful s.parts) → ((t : TaskNo) → (task_at v.member t s.parts.managers).unit ≡ Some v → Due (task_at v.member t s.parts.managers) → ⊥)
    → Names l.rest.failed (λ k w. task_at k w s.parts.managers) v Due → is_unresolved v.member v.incarnation s.parts.repo ≡ true
only_failed s v Due l none names = elim names [
  | inl failed ↦ sym (l.mirrored.failed v.member v.incarnation.number) ∙ failed
  | inr live ↦ absurd (none live.0 live.1 live.2)
]

quiet_by : (s : State) (x : StructNo) (id : ℕ) (m : Message) (mark : Mark) (sound : IsSound s) (l : IsLawful s.parts) → IsAtRest x s → MarkNames l.rest.failed (λ k w. task_at k w s.parts.managers) (structure_number x, id) m mark → is_pending mark ≡ true → is_unsettled mark s.parts.repo ≡ true
quiet_by s x id m Visible sound l rest named pending = absurd (true≢false (sym pending))
quiet_by s x id m (PutBy v) sound l rest named pending = only_failed s v (λ task. PutsBy task.stage task.ops task.claims (structure_number x, id) m) l
    (λ t has due.
    let task = task_at v.member t s.parts.managers in
    puts_none l.rest.history x id m task.stage task.ops task.claims (λ open_yet. (l.laws.ready v t has open_yet).matched) (rest v.member t) due) named
quiet_by s x id m (GotBy v) sound l rest named pending = only_failed s v (λ task. GetsBy task.stage task.ops task.claims (structure_number x, id)) l
    (λ t has due.
    let task = task_at v.member t s.parts.managers in
    gets_none l.rest.history x id task.stage task.ops task.claims (λ open_yet. (l.laws.ready v t has open_yet).matched) (rest v.member t) due) named
quiet_by s x id m Cleanup sound l rest named pending = absurd (true≢false (sym pending))

pub quiet_at_rest : (s : State) → IsSound s → IsLawful s.parts → AreFitting s → AreQuiet s
quiet_at_rest s sound l fits x rest id e is =
    let outside = l.rest.outside in
    quiet_by s x id.number (held_of outside x e).message e.mark sound l rest (l.laws.marked x id.number (held_of outside x e) (entry_is s sound l x id (Some e) is))

-- ---- a unit of the history

-- it belongs to exactly one COMMIT
pub one_commit : (s : State) (u : UnitName) (ops : List (StructNo × Op)) → IsSound s → IsLawful s.parts → (fits : AreFitting s) → Contains s.parts.history.items (UnitOf u ops) → commits_of fits.cut_off u s.courses s.works ≡ 1
one_commit s u ops sound l fits there = fits.once u ∙ once s.parts.history.items u ops (subst Legal l.mirrored.history l.laws.legal) there
