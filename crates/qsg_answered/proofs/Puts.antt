-- each step of a put
use Rattle.std.proofs.Common.{◌≡◌, ℕ, Bool, true, false, cond, List, [], ◌++◌, length, Option, Some, None, Result, Ok, Err, inl, refl, sym, ap, subst, ◌∙◌}
use Rattle.qsg_lists.specs.declared.parts.Place.TheVariants.{Inline}
use Rattle.std.specs.Prelude.{IsSome, option_map, not, ◌&&◌, nat_lt, nat_le}
use Rattle.std.specs.List.{cons_option}
use Rattle.std.proofs.lemmas.Option.{none-some, same_Some}
use Rattle.qsg_num.specs.declared.seats.Member.{Member}
use Rattle.qsg_num.specs.declared.seats.StructNo.{StructNo}
use Rattle.qsg_num.specs.declared.seats.TaskNo.{TaskNo}
use Rattle.qsg_num.specs.declared.ids.EntryId.{EntryId}
use Rattle.qsg_num.specs.declared.ids.UnitName.{UnitName}
use Rattle.qsg_num.specs.Seats.{structure_number}
use Rattle.qsg_model.specs.declared.history.Op.{Op}
use Rattle.qsg_model.specs.declared.history.Op.TheVariants as op
use Rattle.qsg_lists.specs.declared.parts.Lost.{Lost}
use Rattle.qsg_lists.specs.declared.parts.Seen.{Seen}
use Rattle.qsg_lists.specs.declared.parts.WriteWhy.{WriteWhy}
use Rattle.qsg_lists.specs.declared.parts.WriteWhy.TheVariants as why
use Rattle.qsg_lists.specs.Structures.{connect_answer}
use Rattle.qsg_lists.specs.Writing.{next_id, written}
use Rattle.qsg_logpage.specs.declared.writer.NoLog.{NoLog}
use Rattle.qsg_objects.specs.declared.registry.Queue.{Queue}
use Rattle.qsg_objects.specs.Registry.{Registry, queue_named, structure_numbered}
use Rattle.qsg_repo.specs.Keeping.{keep}
use Rattle.qsg_requests.specs.declared.replies.Reason.{Reason}
use Rattle.qsg_requests.specs.declared.replies.Reason.TheVariants.{PutInhibited, BodyTooLong, PersistentNotAllowed, SyncpointLimit, NotYet}
use Rattle.qsg_requests.specs.declared.replies.Reply.TheVariants.{Refused}
use Rattle.qsg_requests.specs.declared.words.PutWords.{PutWords}
use Rattle.qsg_group.specs.declared.tasks.Task.{Task}
use Rattle.qsg_manager.specs.Facilities.{structure_in}
use Rattle.qsg_manager.specs.Putting.{with_put}
use Rattle.qsg_manager.specs.Storage.{manager_in, task_at}
use Rattle.qsg_logs.specs.Kept.{log_in}
use Rattle.qsg_logs.specs.Writers.{reserve_answer}
use Rattle.qsg_parts.specs.Owned.{Owned, HasMember}
use Rattle.qsg_steady.specs.Steady.{IsSteady}
use Rattle.qsg_steady.proofs.Acting.{member_five}
use Rattle.qsg_put.specs.declared.checking.Terms.{Terms}
use Rattle.qsg_put.specs.declared.phases.Phase.{Phase}
use Rattle.qsg_put.specs.declared.phases.Phase.TheVariants.{Check, Connect, Write}
use Rattle.qsg_put.specs.Checking.{said_or, terms_of, recovers, put_refusal, unless_refused, answer_at, check_answer}
use Rattle.qsg_put.specs.Messages.{no_id, message_of, head_of}
use Rattle.qsg_put.specs.Steps.{Next, refused, goes_on, unit_of, named, need, after_reserve, after_check, after_connect, use_of, reason_of, after_refusal, after_write, refusal_of, next_at, next_put}
use Rattle.qsg_put.specs.Works.{Work}
use Rattle.qsg_put.proofs.Results.{terms_are}
use Rattle.qsg_works.specs.declared.work.Work.TheVariants as work
use Rattle.qsg_fit.proofs.Opened.{task_stored, drawn_task}
use Rattle.qsg_answered.specs.Telling.{is_broken, put_of}
use Rattle.qsg_answered.specs.Fits.{HasTerms}
use Rattle.qsg_answered.proofs.Frames.{IsFrame, frame_same, frame_stored, frame_named, inside_in, inside_with, inside_written, told_with, told_written}
use Rattle.qsg_answered.proofs.Told.{kept_refused}
use Rattle.qsg_answered.proofs.Outcomes.{still, logs_alone, Moves}

abbrev in_phase : Member → TaskNo → PutWords → Phase → Work
in_phase m t words phase = record { member = m; task = t; words = words; phase = phase }

abbrev PutMoves : Member → TaskNo → List (StructNo × Op) → PutWords → Phase → Owned → Next → Type 0
PutMoves m t ops words phase p next = Moves m t ops (work.Put (in_phase m t words phase)) (work.Put (in_phase m t words next.phase)) p next.parts next.turn

-- ---- refusals are no 2009

abbrev IsWhole : Option Reason → Type 0
IsWhole None = Unit {0}
IsWhole (Some reason) = is_broken (Refused reason) ≡ false

abbrev IsWholeAnswer : Result Terms Reason → Type 0
IsWholeAnswer (Ok terms) = Unit {0}
IsWholeAnswer (Err reason) = is_broken (Refused reason) ≡ false

chosen : (b : Bool) (reason : Reason) (rest : Option Reason) → is_broken (Refused reason) ≡ false → IsWhole rest → IsWhole (cond b (Some reason) rest)
chosen true reason rest own others = own
chosen false reason rest own others = others

refusal_whole : (words : PutWords) (operations : ℕ) (queue : Queue) (recovered : Bool) → IsWhole (put_refusal words operations queue recovered)
refusal_whole words operations queue recovered =
    let long = nat_lt 64512 (length words.body) in
    let many = nat_le 1000 operations in
    let lasting = said_or words.persistent queue.definition.defpsist && not recovered in
    let last = cond long (Some NotYet) None in
    let fourth = cond many (Some SyncpointLimit) last in
    let third = cond lasting (Some PersistentNotAllowed) fourth in
    let second = cond (nat_lt queue.definition.maxmsgl (length words.body)) (Some BodyTooLong) third in
    chosen (not queue.definition.put) PutInhibited second refl
    (chosen (nat_lt queue.definition.maxmsgl (length words.body)) BodyTooLong third refl (chosen lasting PersistentNotAllowed fourth refl (chosen many SyncpointLimit last refl (chosen long NotYet None refl tt))))

unless_whole : (refusal : Option Reason) (terms : Terms) → IsWhole refusal → IsWholeAnswer (unless_refused refusal terms)
unless_whole None terms whole = tt
unless_whole (Some reason) terms whole = whole

found_whole : (objects : Registry) (words : PutWords) (operations : ℕ) (found : Option Queue) → IsWholeAnswer (answer_at objects words operations found)
found_whole objects words operations None = refl
found_whole objects words operations (Some queue) =
    let recovered = recovers (structure_numbered queue.structure objects) in
    unless_whole (put_refusal words operations queue recovered) (terms_of words queue) (refusal_whole words operations queue recovered)

check_whole : (objects : Registry) (words : PutWords) (operations : ℕ) (reason : Reason) → check_answer objects words operations ≡ Err reason → is_broken (Refused reason) ≡ false
check_whole objects words operations reason is = subst IsWholeAnswer is (found_whole objects words operations (queue_named words.queue objects))

why_whole : (w : WriteWhy) → IsWhole (reason_of w)
why_whole (why.Lost lost) = refl
why_whole (why.Full need free) = refl
why_whole (why.QueueFull depth) = refl
why_whole why.NoMemory = tt

-- a put that is about to write has its unit
abbrev pub HasPutUnit : Task → Phase → Type 0
HasPutUnit task Check = Unit {0}
HasPutUnit task (Connect u terms) = Unit {0}
HasPutUnit task (Write u terms epoch) = task.unit ≡ Some u

-- ---- where nothing but logs changes

answer_refused : (m : Member) (t : TaskNo) (ops : List (StructNo × Op)) (words : PutWords) (phase : Phase) (p q : Owned) (reason : Reason) (at : Phase) → is_broken (Refused reason) ≡ false → (task_at m t p.managers).ops ≡ ops
    → q.objects ≡ p.objects → q.repo ≡ p.repo → q.managers ≡ p.managers → q.structures ≡ p.structures → q.history ≡ p.history → PutMoves m t ops words phase p (refused reason at q)
answer_refused m t ops words phase p q reason at whole held objects repo managers structures history = record {
  move = logs_alone m t p q objects repo managers structures;
  history = ap (λ h. h.items) history;
  holds = ap (λ ms. (task_at m t ms).ops) managers ∙ held ∙ sym (kept_refused ops (is_broken (Refused reason)) whole);
  ends = tt;
  whole = whole;
  out = tt;
  counts = λ u. refl;
}

goes_still : (m : Member) (t : TaskNo) (ops : List (StructNo × Op)) (words : PutWords) (phase at : Phase) (p : Owned) → (task_at m t p.managers).ops ≡ ops → HasTerms p.objects words at → PutMoves m t ops words phase p (goes_on at p)
goes_still m t ops words phase at p held terms = record {
  move = still m t p;
  history = inl refl;
  holds = (held, terms);
  counts = λ u. refl;
}

-- ---- the check

named_frame : (m : Member) (t : TaskNo) (p : Owned) (held : Option UnitName) → HasMember m p → length (manager_in m p.managers).tasks ≡ 5 → IsFrame m t p.managers (named held m t p.managers)
named_frame m t p None has five = frame_named m t p.managers has.manager five
named_frame m t p (Some u) has five = frame_same m t p.managers

named_ops : (a b : ℕ) (m : Member) (t : TaskNo) (p : Owned) (held : Option UnitName) → IsSteady a b p → HasMember m p → (task_at m t p.managers).unit ≡ held → (task_at m t (named held m t p.managers)).ops ≡ (task_at m t p.managers).ops
named_ops a b m t p None s has is = ap (λ (z : Task). z.ops) (drawn_task m t p.managers has.manager (member_five a b p m s has)) ∙ sym (ap (λ (z : Task). z.ops) (s.named m t is))
named_ops a b m t p (Some u) s has is = refl

reserving : (a b : ℕ) (m : Member) (t : TaskNo) (ops : List (StructNo × Op)) (words : PutWords) (terms : Terms) (p : Owned) (answer : Result (Unit {0}) NoLog) → IsSteady a b p → HasMember m p → (task_at m t p.managers).ops ≡ ops
    → option_map (terms_of words) (queue_named words.queue p.objects) ≡ Some terms → PutMoves m t ops words Check p (after_reserve m t words terms p answer)
reserving a b m t ops words terms p (Err why) s has held is = answer_refused m t ops words Check p p _ Check refl held refl refl refl refl refl
reserving a b m t ops words terms p (Ok done) s has held is = record {
  move = record {
    objects = refl;
    lives = refl;
    frame = named_frame m t p (task_at m t p.managers).unit has (member_five a b p m s has);
    inside = λ each. each;
    told = λ is_told own each. each;
  };
  history = inl refl;
  holds = (named_ops a b m t p (task_at m t p.managers).unit s has refl ∙ held, is);
  counts = λ u. refl;
}

checking : (a b : ℕ) (m : Member) (t : TaskNo) (ops : List (StructNo × Op)) (words : PutWords) (p : Owned) (answer : Result Terms Reason) → IsSteady a b p → HasMember m p → (task_at m t p.managers).ops ≡ ops
    → check_answer p.objects words (length (task_at m t p.managers).ops) ≡ answer → PutMoves m t ops words Check p (after_check m t words p answer)
checking a b m t ops words p (Err reason) s has held is = answer_refused m t ops words Check p p reason Check (check_whole p.objects words (length (task_at m t p.managers).ops) reason is) held refl refl refl refl refl
checking a b m t ops words p (Ok terms) s has held is =
    let are = terms_are p.objects words (length (task_at m t p.managers).ops) terms is in
    reserving a b m t ops words terms p (reserve_answer (unit_of m t p.managers) (need m t words terms p) (keep m p.repo) (log_in m p.logs).writer) s has held
    (ap (option_map (terms_of words)) are.named ∙ ap (λ (x : Terms). Some x) (sym are.terms_are))

-- ---- the connection

connecting : (m : Member) (t : TaskNo) (ops : List (StructNo × Op)) (words : PutWords) (u : UnitName) (terms : Terms) (p : Owned) (answer : Result Seen Lost) → (task_at m t p.managers).ops ≡ ops
    → HasTerms p.objects words (Connect u terms) → PutMoves m t ops words (Connect u terms) p (after_connect m t u terms p answer)
connecting m t ops words u terms p (Err lost) held is = answer_refused m t ops words (Connect u terms) p _ _ (Connect u terms) refl held refl refl refl refl refl
connecting m t ops words u terms p (Ok seen) held is = goes_still m t ops words (Connect u terms) (Write u terms seen.connection.epoch) p held is

-- ---- the entry

-- the operation that the answer tells of is that of the put
put_is : (words : PutWords) (terms : Terms) (id : EntryId) (found : Option Queue) → option_map (terms_of words) found ≡ Some terms → option_map (put_of words id) found ≡ Some (terms.structure, op.Put (message_of words terms id))
put_is words terms id None is = absurd (none-some terms is)
put_is words terms id (Some queue) is = ap (λ (x : Terms). Some (x.structure, op.Put (message_of words x id))) (same_Some (terms_of words queue) terms is)

is_there : (words : PutWords) (terms : Terms) (found : Option Queue) → option_map (terms_of words) found ≡ Some terms → IsSome found
is_there words terms None is = absurd (none-some terms is)
is_there words terms (Some queue) is = refl

refusing : (m : Member) (t : TaskNo) (ops : List (StructNo × Op)) (words : PutWords) (u : UnitName) (terms : Terms) (epoch : ℕ) (p : Owned) (reason : Option Reason) → (task_at m t p.managers).ops ≡ ops
    → HasTerms p.objects words (Write u terms epoch) → IsWhole reason → PutMoves m t ops words (Write u terms epoch) p (after_refusal m t u terms epoch p reason)
refusing m t ops words u terms epoch p (Some reason) held is whole = answer_refused m t ops words (Write u terms epoch) p _ reason (Write u terms epoch) whole held refl refl refl refl refl
refusing m t ops words u terms epoch p None held is whole = goes_still m t ops words (Write u terms epoch) (Write u terms epoch) p held is

writing : (a b : ℕ) (m : Member) (t : TaskNo) (ops : List (StructNo × Op)) (words : PutWords) (u : UnitName) (terms : Terms) (epoch : ℕ) (p : Owned) (why : Option WriteWhy) → IsSteady a b p → HasMember m p → (task_at m t p.managers).ops ≡ ops
    → HasTerms p.objects words (Write u terms epoch) → (task_at m t p.managers).unit ≡ Some u → PutMoves m t ops words (Write u terms epoch) p (after_write m t words u terms epoch p why)
writing a b m t ops words u terms epoch p (Some why) s has held is unit = refusing m t ops words u terms epoch p (reason_of why) held is (why_whole why)
writing a b m t ops words u terms epoch p None s has held is unit =
    let structure = structure_in terms.structure p.structures in
    let id = next_id structure in
    let task = task_at m t p.managers in
    let y = with_put (use_of terms epoch) (message_of words terms no_id) id task in
    let five = member_five a b p m s has in
    record {
      move = record {
        objects = refl;
        lives = refl;
        frame = frame_stored m t y p.managers has.manager five (λ v holds. holds);
        inside = λ each. inside_with terms.structure (written structure u (head_of words terms) (Inline words.body)) p.structures each
            (inside_written structure u (head_of words terms) words.body (inside_in terms.structure p.structures each));
        told = λ is_told own each. told_with is_told terms.structure (written structure u (head_of words terms) (Inline words.body)) p.structures each
            (told_written is_told (structure_number terms.structure) structure u (head_of words terms) words.body (own u (structure_number terms.structure, id.number) unit) (each terms.structure));
      };
      history = refl;
      holds = ap (λ (z : Task). z.ops) (task_stored m t y p.managers has.manager five) ∙ (λ i. held i ++ cons_option (sym (put_is words terms id (queue_named words.queue p.objects) is) i) []);
      ends = is_there words terms (queue_named words.queue p.objects) is;
      whole = refl;
      out = tt;
      counts = λ v. refl;
    }

-- ---- each step

put_at : (a b : ℕ) (m : Member) (t : TaskNo) (ops : List (StructNo × Op)) (words : PutWords) (p : Owned) (phase : Phase) → IsSteady a b p → HasMember m p → (task_at m t p.managers).ops ≡ ops → HasTerms p.objects words phase → HasPutUnit (task_at m t p.managers) phase
    → PutMoves m t ops words phase p (next_at m t words p phase)
put_at a b m t ops words p Check s has held is unit = checking a b m t ops words p (check_answer p.objects words (length (task_at m t p.managers).ops)) s has held refl
put_at a b m t ops words p (Connect u terms) s has held is unit = connecting m t ops words u terms p (connect_answer (structure_in terms.structure p.structures)) held is
put_at a b m t ops words p (Write u terms epoch) s has held is unit = writing a b m t ops words u terms epoch p (refusal_of words terms epoch p) s has held is unit

pub put_moves : (a b : ℕ) (ops : List (StructNo × Op)) (p : Owned) (w : Work) → IsSteady a b p → HasMember w.member p → (task_at w.member w.task p.managers).ops ≡ ops → HasTerms p.objects w.words w.phase → HasPutUnit (task_at w.member w.task p.managers) w.phase
    → Moves w.member w.task ops (work.Put w) (work.Put (record w { phase = (next_put w p).phase })) p (next_put w p).parts (next_put w p).turn
put_moves a b ops p w s has held is unit = put_at a b w.member w.task ops w.words p w.phase s has held is unit
