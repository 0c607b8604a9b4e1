-- each step of a get
use Rattle.std.proofs.Common.{◌≡◌, ℕ, List, [], ◌∷◌, ◌++◌, length, map, Bool, true, false, cond, Option, Some, None, Result, Ok, Err, inl, refl, sym, ap, subst, ◌∙◌, arith, true≢false}
use Rattle.qsg_model.specs.declared.history.Op.TheVariants.{Got}
use Rattle.std.proofs.Math.Seq.{take-length}
use Rattle.std.specs.Prelude.{not, nat_le, ◌&&◌, find, option_map}
use Rattle.std.specs.List.{AllByRecursion}
use Rattle.std.specs.Option.{option_and_then}
use Rattle.std.proofs.lemmas.Bool.{and_parts}
use Rattle.std.proofs.lemmas.Option.{none-some, same_Some}
use Rattle.qsg_num.specs.declared.seats.Member.{Member}
use Rattle.qsg_num.specs.declared.seats.StructNo.{StructNo}
use Rattle.qsg_num.specs.declared.seats.TaskNo.{TaskNo}
use Rattle.qsg_num.specs.declared.ids.UnitName.{UnitName}
use Rattle.qsg_num.specs.Seats.{structure_number}
use Rattle.qsg_num.specs.declared.words.Delivery.{Delivery}
use Rattle.qsg_model.specs.declared.history.Op.{Op}
use Rattle.qsg_model.specs.History.{key}
use Rattle.qsg_model.specs.Past.{held_at}
use Rattle.qsg_lists.specs.declared.parts.Entry.{Entry}
use Rattle.qsg_lists.specs.declared.parts.Lost.{Lost}
use Rattle.qsg_lists.specs.declared.parts.Mark.{Mark}
use Rattle.qsg_lists.specs.declared.parts.Mark.TheVariants.{Visible, PutBy, GotBy, Cleanup}
use Rattle.qsg_lists.specs.declared.parts.Place.{Place}
use Rattle.qsg_lists.specs.declared.parts.Place.TheVariants.{Inline, Offloaded}
use Rattle.qsg_lists.specs.declared.parts.Seen.{Seen}
use Rattle.qsg_lists.specs.declared.parts.Selector.{Selector}
use Rattle.qsg_lists.specs.Entries as lists
use Rattle.qsg_lists.specs.Marks.{is_visible}
use Rattle.qsg_lists.specs.Structures.{lost_of, connect_answer}
use Rattle.qsg_lists.specs.Taking.{got_by}
use Rattle.qsg_lists.proofs.First.{first-waits}
use Rattle.qsg_lists.proofs.Found.{find-entry_at}
use Rattle.qsg_logpage.specs.declared.writer.NoLog.{NoLog}
use Rattle.qsg_repo.specs.Keeping.{keep}
use Rattle.qsg_objects.specs.declared.registry.Queue.{Queue}
use Rattle.qsg_objects.specs.Registry.{queue_named}
use Rattle.qsg_requests.specs.declared.replies.Reason.{Reason}
use Rattle.qsg_requests.specs.declared.replies.Reason.TheVariants.{GetInhibited, SyncpointLimit}
use Rattle.qsg_requests.specs.declared.replies.Reply.TheVariants.{Refused}
use Rattle.qsg_group.specs.declared.tasks.Task.{Task}
use Rattle.qsg_group.specs.Observers.{counted, entry_at}
use Rattle.qsg_manager.specs.Facilities.{structure_in}
use Rattle.qsg_manager.specs.Getting.{found_in, with_got, body_taken, taken_of}
use Rattle.qsg_manager.specs.Storage.{manager_in, task_at}
use Rattle.qsg_manager.specs.Views.{body_of, is_outside, message_of, held_of}
use Rattle.qsg_manager.proofs.Acting.{served_active}
use Rattle.qsg_manager.proofs.Bridges.{found}
use Rattle.qsg_manager.proofs.Gets.{shelf_order}
use Rattle.qsg_logs.specs.Kept.{log_in}
use Rattle.qsg_logs.specs.Writers.{reserve_answer}
use Rattle.qsg_parts.specs.Owned.{Owned, HasMember}
use Rattle.qsg_steady.specs.Steady.{IsLawful, IsSteady}
use Rattle.qsg_steady.proofs.Acting.{member_five}
use Rattle.qsg_get.specs.declared.checking.Terms.{Terms}
use Rattle.qsg_get.specs.declared.phases.Phase.{Phase}
use Rattle.qsg_get.specs.declared.phases.Phase.TheVariants.{Check, Connect, Take}
use Rattle.qsg_get.specs.Checking.{terms_of, answer_at, check_answer}
use Rattle.qsg_get.specs.Steps.{Next, refused, unit_of, named, need, after_reserve, after_check, after_connect, use_of, told_of, after_take, next_at, next_get}
use Rattle.qsg_get.specs.Works.{Work, IsOwn}
use Rattle.qsg_works.specs.declared.work.Work.TheVariants as work
use Rattle.qsg_fit.proofs.Opened.{task_stored, drawn_task}
use Rattle.qsg_answered.specs.Telling.{is_broken}
use Rattle.qsg_answered.specs.Fits.{IsRead, IsInside, AreInside}
use Rattle.qsg_answered.proofs.Frames.{IsFrame, frame_same, frame_stored, frame_named, inside_in, inside_with, inside_got, told_with, told_got}
use Rattle.qsg_answered.proofs.Told.{kept_refused}
use Rattle.qsg_answered.proofs.Outcomes.{still, logs_alone, Answered, Moves}

abbrev in_phase : Member → TaskNo → List ℕ → Selector → Phase → Work
in_phase m t queue select phase = record { member = m; task = t; queue = queue; select = select; phase = phase }

abbrev GetMoves : Member → TaskNo → List (StructNo × Op) → List ℕ → Selector → Phase → Owned → Next → Type 0
GetMoves m t ops queue select phase p next = Moves m t ops (work.Get (in_phase m t queue select phase)) (work.Get (in_phase m t queue select next.phase)) p next.parts next.turn

-- ---- refusals are no 2009

abbrev IsWholeAnswer : Result Terms Reason → Type 0
IsWholeAnswer (Ok terms) = Unit {0}
IsWholeAnswer (Err reason) = is_broken (Refused reason) ≡ false

chosen : (b : Bool) (reason : Reason) (rest : Result Terms Reason) → is_broken (Refused reason) ≡ false → IsWholeAnswer rest → IsWholeAnswer (cond b (Err reason) rest)
chosen true reason rest own others = own
chosen false reason rest own others = others

found_whole : (operations : ℕ) (found : Option Queue) → IsWholeAnswer (answer_at operations found)
found_whole operations None = refl
found_whole operations (Some queue) =
    let last : Result Terms Reason = Ok (terms_of queue) in
    chosen (not queue.definition.get) GetInhibited (cond (nat_le 1000 operations) (Err SyncpointLimit) last) refl (chosen (nat_le 1000 operations) SyncpointLimit last refl tt)

-- ---- where nothing but logs changes

answer_refused : (m : Member) (t : TaskNo) (ops : List (StructNo × Op)) (queue : List ℕ) (select : Selector) (phase : Phase) (p q : Owned) (reason : Reason) (at : Phase) → is_broken (Refused reason) ≡ false → (task_at m t p.managers).ops ≡ ops
    → q.objects ≡ p.objects → q.repo ≡ p.repo → q.managers ≡ p.managers → q.structures ≡ p.structures → q.history ≡ p.history → GetMoves m t ops queue select phase p (refused reason at q)
answer_refused m t ops queue select phase p q reason at whole held objects repo managers structures history = record {
  move = logs_alone m t p q objects repo managers structures;
  history = ap (λ h. h.items) history;
  holds = ap (λ ms. (task_at m t ms).ops) managers ∙ held ∙ sym (kept_refused ops (is_broken (Refused reason)) whole);
  ends = tt;
  whole = whole;
  out = tt;
  counts = λ u. refl;
}

-- ---- the check

named_frame : (m : Member) (t : TaskNo) (p : Owned) (held : Option UnitName) → HasMember m p → length (manager_in m p.managers).tasks ≡ 5 → IsFrame m t p.managers (named held m t p.managers)
named_frame m t p None has five = frame_named m t p.managers has.manager five
named_frame m t p (Some u) has five = frame_same m t p.managers

named_ops : (a b : ℕ) (m : Member) (t : TaskNo) (p : Owned) (held : Option UnitName) → IsSteady a b p → HasMember m p → (task_at m t p.managers).unit ≡ held → (task_at m t (named held m t p.managers)).ops ≡ (task_at m t p.managers).ops
named_ops a b m t p None s has is = ap (λ (z : Task). z.ops) (drawn_task m t p.managers has.manager (member_five a b p m s has)) ∙ sym (ap (λ (z : Task). z.ops) (s.named m t is))
named_ops a b m t p (Some u) s has is = refl

reserving : (a b : ℕ) (m : Member) (t : TaskNo) (ops : List (StructNo × Op)) (queue : List ℕ) (select : Selector) (terms : Terms) (p : Owned) (answer : Result (Unit {0}) NoLog) → IsSteady a b p → HasMember m p → (task_at m t p.managers).ops ≡ ops
    → GetMoves m t ops queue select Check p (after_reserve m t terms p answer)
reserving a b m t ops queue select terms p (Err why) s has held = answer_refused m t ops queue select Check p p _ Check refl held refl refl refl refl refl
reserving a b m t ops queue select terms p (Ok done) s has held = record {
  move = record {
    objects = refl;
    lives = refl;
    frame = named_frame m t p (task_at m t p.managers).unit has (member_five a b p m s has);
    inside = λ each. each;
    told = λ is_told own each. each;
  };
  history = inl refl;
  holds = named_ops a b m t p (task_at m t p.managers).unit s has refl ∙ held;
  counts = λ u. refl;
}

checking : (a b : ℕ) (m : Member) (t : TaskNo) (ops : List (StructNo × Op)) (queue : List ℕ) (select : Selector) (p : Owned) (answer : Result Terms Reason) → IsSteady a b p → HasMember m p → (task_at m t p.managers).ops ≡ ops
    → IsWholeAnswer answer → GetMoves m t ops queue select Check p (after_check m t p answer)
checking a b m t ops queue select p (Err reason) s has held whole = answer_refused m t ops queue select Check p p reason Check whole held refl refl refl refl refl
checking a b m t ops queue select p (Ok terms) s has held whole =
    reserving a b m t ops queue select terms p (reserve_answer (unit_of m t p.managers) (need m t p) (keep m p.repo) (log_in m p.logs).writer) s has held

-- ---- the connection

connecting : (m : Member) (t : TaskNo) (ops : List (StructNo × Op)) (queue : List ℕ) (select : Selector) (u : UnitName) (terms : Terms) (p : Owned) (answer : Result Seen Lost) → (task_at m t p.managers).ops ≡ ops
    → GetMoves m t ops queue select (Connect u terms) p (after_connect m t u terms p answer)
connecting m t ops queue select u terms p (Err lost) held = answer_refused m t ops queue select (Connect u terms) p _ _ (Connect u terms) refl held refl refl refl refl refl
connecting m t ops queue select u terms p (Ok seen) held = record { move = still m t p; history = inl refl; holds = held; counts = λ v. refl }

-- ---- the entry

visible_is : (mark : Mark) → is_visible mark ≡ true → mark ≡ Visible
visible_is Visible is = refl
visible_is (PutBy u) is = absurd (true≢false (sym is))
visible_is (GotBy u) is = absurd (true≢false (sym is))
visible_is Cleanup is = absurd (true≢false (sym is))

-- an entry that is found counts
counts_there : (p : Owned) (l : IsLawful p) (c : StructNo) (queue : List ℕ) (order : Delivery) (select : Selector) (e : Entry) → lists.first_of queue order select (structure_in c p.structures).entries ≡ Some e
    → option_and_then (counted l.rest.logs) (entry_at e.id.number (map (held_of l.rest.outside c) (structure_in c p.structures).entries)) ≡ Some (message_of c e.id e.head (body_of (l.rest.outside c) e.place))
counts_there p l c queue order select e first =
    let es = (structure_in c p.structures).entries in
    let ordered = shelf_order l.rest.outside c (structure_in c p.structures) (l.laws.shelves c) in
    let mark = visible_is e.mark (and_parts (is_visible e.mark) (lists.is_name e.head.queue queue && lists.meets select e.head) (first-waits queue order select es e first)).0 in
    ap (option_and_then (counted l.rest.logs))
    (found l.rest.outside c e.id es
    ∙ ap (option_map (held_of l.rest.outside c)) (find-entry_at (lists.is_first queue order select es) es e ordered first)
    ∙ ap (λ x. Some (record (held_of l.rest.outside c e) { mark = x })) mark)

-- a message that is got is held
read_is : (p : Owned) (l : IsLawful p) (terms : Terms) (epoch : ℕ) (queue : List ℕ) (select : Selector) (e : Entry) (body : List ℕ) → lost_of (structure_in terms.structure p.structures) (use_of terms epoch) ≡ None
    → found_in (use_of terms epoch) queue terms.order select p.structures ≡ Some e → e.place ≡ Inline body → IsRead p.history.items (length p.history.items) (message_of terms.structure e.id e.head body)
read_is p l terms epoch queue select e body served first inline =
    let m = message_of terms.structure e.id e.head body in
    let h = p.history.items in
    let active = served_active (structure_in terms.structure p.structures) (use_of terms epoch) served in
    let there = ap (λ (x : Place). Some (message_of terms.structure e.id e.head (body_of (l.rest.outside terms.structure) x))) (sym inline) in
    let held : held_at (key m) h ≡ Some m =
    ap (held_at (key m)) (sym l.mirrored.history) ∙ sym (l.laws.good terms.structure active e.id.number) ∙ counts_there p l terms.structure queue terms.order select e first ∙ sym there in
    record { past = omega arith; held = ap (held_at (key m)) (take-length h) ∙ held }

pub found_inside : (p : Entry → Bool) (es : List Entry) (e : Entry) → AllByRecursion IsInside es → find p es ≡ Some e → IsInside e
found_inside p [] e each is = absurd (none-some e is)
found_inside p (x ∷ es) e each is = by (p x) is (found_inside p es e each.1)
  where
    by : (b : Bool) → cond b (Some x) (find p es) ≡ Some e → (find p es ≡ Some e → IsInside e) → IsInside e
    by true is rest = subst IsInside (same_Some x e is) each.0
    by false is rest = rest is

took : (a b : ℕ) (t : TaskNo) (ops : List (StructNo × Op)) (queue : List ℕ) (select : Selector) (u : UnitName) (terms : Terms) (epoch : ℕ) (p : Owned) (e : Entry) (place : Place) → IsSteady a b p → IsLawful p → HasMember u.member p → (task_at u.member t p.managers).ops ≡ ops
    → AllByRecursion AreInside p.structures → lost_of (structure_in terms.structure p.structures) (use_of terms epoch) ≡ None → found_in (use_of terms epoch) queue terms.order select p.structures ≡ Some e → e.place ≡ place
    → Answered u.member t ops (work.Get (in_phase u.member t queue select (Take u terms epoch))) (told_of terms.structure (taken_of e) (body_taken place)) p (after_take u.member t u terms epoch p None (Some e)).parts
took a b t ops queue select u terms epoch p e (Offloaded owner blocks long) s l has held inside served first place =
    absurd (true≢false (sym (ap is_outside place) ∙ found_inside (lists.is_first queue terms.order select (structure_in terms.structure p.structures).entries) (structure_in terms.structure p.structures).entries e (inside_in terms.structure p.structures inside) first))
took a b t ops queue select u terms epoch p e (Inline body) s l has held inside served first place =
    let m = u.member in
    let task = task_at m t p.managers in
    let structure = structure_in terms.structure p.structures in
    let y = with_got (use_of terms epoch) e task in
    let five = member_five a b p m s has in
    record {
      move = record {
        objects = refl;
        lives = refl;
        frame = frame_stored m t y p.managers has.manager five (λ v holds. holds);
        inside = λ each. inside_with terms.structure (record structure { entries = lists.revise e.id (λ x. Some (got_by u x)) structure.entries }) p.structures each (inside_got u e.id structure (inside_in terms.structure p.structures each));
        told = λ is_told own each. told_with is_told terms.structure (record structure { entries = lists.revise e.id (λ x. Some (got_by u x)) structure.entries }) p.structures each
            (told_got is_told (structure_number terms.structure) u e.id structure.entries (each terms.structure));
      };
      history = refl;
      holds = ap (λ (z : Task). z.ops) (task_stored m t y p.managers has.manager five) ∙ ap (λ l. l ++ (terms.structure, Got e.id) ∷ []) held;
      ends = read_is p l terms epoch queue select e body served first place;
      whole = refl;
      out = tt;
      counts = λ v. refl;
    }

taking : (a b : ℕ) (t : TaskNo) (ops : List (StructNo × Op)) (queue : List ℕ) (select : Selector) (u : UnitName) (terms : Terms) (epoch : ℕ) (p : Owned) (lost : Option Lost) (first : Option Entry) → IsSteady a b p → IsLawful p → HasMember u.member p
    → (task_at u.member t p.managers).ops ≡ ops → AllByRecursion AreInside p.structures → lost_of (structure_in terms.structure p.structures) (use_of terms epoch) ≡ lost → found_in (use_of terms epoch) queue terms.order select p.structures ≡ first
    → GetMoves u.member t ops queue select (Take u terms epoch) p (after_take u.member t u terms epoch p lost first)
taking a b t ops queue select u terms epoch p (Some lost) first s l has held inside served is = answer_refused u.member t ops queue select (Take u terms epoch) p _ _ (Take u terms epoch) refl held refl refl refl refl refl
taking a b t ops queue select u terms epoch p None None s l has held inside served is = answer_refused u.member t ops queue select (Take u terms epoch) p _ _ (Take u terms epoch) refl held refl refl refl refl refl
taking a b t ops queue select u terms epoch p None (Some e) s l has held inside served is = took a b t ops queue select u terms epoch p e e.place s l has held inside served is refl

-- ---- each step

get_at : (a b : ℕ) (m : Member) (t : TaskNo) (ops : List (StructNo × Op)) (queue : List ℕ) (select : Selector) (p : Owned) (phase : Phase) → IsSteady a b p → IsLawful p → HasMember m p → IsOwn m phase → (task_at m t p.managers).ops ≡ ops → AllByRecursion AreInside p.structures
    → GetMoves m t ops queue select phase p (next_at m t queue select p phase)
get_at a b m t ops queue select p Check s l has own held inside = checking a b m t ops queue select p (check_answer p.objects queue (length (task_at m t p.managers).ops)) s has held (found_whole (length (task_at m t p.managers).ops) (queue_named queue p.objects))
get_at a b m t ops queue select p (Connect u terms) s l has own held inside = connecting m t ops queue select u terms p (connect_answer (structure_in terms.structure p.structures)) held
get_at a b m t ops queue select p (Take u terms epoch) s l has own held inside =
    subst (λ (k : Member). HasMember k p → (task_at k t p.managers).ops ≡ ops → GetMoves k t ops queue select (Take u terms epoch) p (next_at k t queue select p (Take u terms epoch))) own
    (λ there ready. taking a b t ops queue select u terms epoch p (lost_of (structure_in terms.structure p.structures) (use_of terms epoch)) (found_in (use_of terms epoch) queue terms.order select p.structures) s l there ready inside refl refl)
    has held

pub get_moves : (a b : ℕ) (ops : List (StructNo × Op)) (p : Owned) (w : Work) → IsSteady a b p → IsLawful p → HasMember w.member p → IsOwn w.member w.phase → (task_at w.member w.task p.managers).ops ≡ ops → AllByRecursion AreInside p.structures
    → Moves w.member w.task ops (work.Get w) (work.Get (record w { phase = (next_get w p).phase })) p (next_get w p).parts (next_get w p).turn
get_moves a b ops p w s l has own held inside = get_at a b w.member w.task ops w.queue w.select p w.phase s l has own held inside
