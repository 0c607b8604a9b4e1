-- each step that takes the marks of a unit off, and its end
use Rattle.std.proofs.Common.{◌≡◌, ℕ, ◌+◌, ◌-◌, ◌<◌, ◌≤◌, List, length, Bool, true, false, cond, Option, Some, None, inl, inr, refl, sym, ap, subst, ◌∙◌, arith, length-set}
use Rattle.std.specs.Prelude.{◌==◌}
use Rattle.std.proofs.lemmas.Bool.{and_parts}
use Rattle.std.proofs.lemmas.Bool.Decides.{nat_tests}
use Rattle.std.proofs.lemmas.Option.{none-some}
use Rattle.qsg_num.specs.declared.seats.Member.{Member}
use Rattle.qsg_num.specs.declared.seats.StructNo.{StructNo}
use Rattle.qsg_num.specs.declared.seats.TaskNo.{TaskNo}
use Rattle.qsg_num.specs.declared.ids.PageNo.{PageNo}
use Rattle.qsg_num.specs.declared.ids.UnitName.{UnitName}
use Rattle.qsg_num.specs.Ids.{same_unit}
use Rattle.qsg_num.specs.Seats.{member_number, structure_number, task_number}
use Rattle.qsg_model.specs.declared.history.Op.{Op}
use Rattle.qsg_model.specs.Past.{is_unit}
use Rattle.qsg_lists.specs.Settling.{settle_answer, settled_entry, revised_if_done}
use Rattle.qsg_repo.specs.Calls.{has_failed, later_page, published as told_low}
use Rattle.qsg_repo.specs.Tables.{Repository, low_of, with_low}
use Rattle.qsg_requests.specs.declared.replies.Turn.{Turn}
use Rattle.qsg_requests.specs.declared.replies.Turn.TheVariants.{More}
use Rattle.qsg_group.specs.declared.tasks.Claim.{Claim}
use Rattle.qsg_group.specs.declared.tasks.Stage.TheVariants.{BackedOut}
use Rattle.qsg_group.specs.declared.tasks.Task.{Task}
use Rattle.qsg_group.specs.Group.{Seat, idle}
use Rattle.qsg_group.specs.Laws.{IsDrawn}
use Rattle.qsg_group.specs.Observers.{is_hardened, is_live, keys_claimed}
use Rattle.qsg_group.proofs.Tables.{cases_member, cases_task}
use Rattle.qsg_manager.specs.declared.managers.Manager.{Manager}
use Rattle.qsg_manager.specs.Facilities.{structure_in}
use Rattle.qsg_manager.specs.Groups.{seat_of}
use Rattle.qsg_manager.specs.Settles.{next_claim, commits, further}
use Rattle.qsg_manager.specs.Storage.{manager_in, task_at, with_task}
use Rattle.qsg_manager.specs.Units.{decided}
use Rattle.qsg_manager.proofs.Grouping.{manager_same}
use Rattle.qsg_logs.specs.Held.{is_open}
use Rattle.qsg_parts.specs.Owned.{Owned, HasMember}
use Rattle.qsg_steady.specs.Steady.{IsLawful, IsSteady}
use Rattle.qsg_steady.proofs.Acting.{tasked, member_five}
use Rattle.qsg_commit.specs.declared.phases.Phase.{Phase}
use Rattle.qsg_commit.specs.declared.phases.Phase.TheVariants.{Settle, Publish, GiveUp, Undo}
use Rattle.qsg_commit.specs.Ending.{settled_by, settled, is_settled, ended, low_page, published, given_up}
use Rattle.qsg_commit.specs.Next.{Next, unit_ended, after_settle, after_publish, after_undo, after_give_up}
use Rattle.qsg_commit.specs.Pending.{pending}
use Rattle.qsg_fit.proofs.Opened.{opened, task_stored}
use Rattle.qsg_fit.proofs.Settling.{pending_unit}
use Rattle.qsg_answered.specs.Cutting.{AreToldBy}
use Rattle.qsg_answered.specs.Fits.{IsCountOf, IsCommitted, IsSettled, IsLeftOut}
use Rattle.qsg_answered.proofs.Committing.{EndMoves, nothing_pending, some_pending}
use Rattle.qsg_answered.proofs.Frames.{IsFrame, frame_stored, frame_more, inside_in, inside_with, inside_settled, IsTelling, told_with, told_settled}
use Rattle.qsg_answered.proofs.Outcomes.{IsMove, still, one_if, named_in}

-- the member is one of the group, with its five tasks
record IsThere (m : Member) (ms : List Manager) : Type 0 where
  pub within : member_number m ≤ length ms
  pub five : length (manager_in m ms).tasks ≡ 5

there_of : (a b : ℕ) (m : Member) (p : Owned) → IsSteady a b p → HasMember m p → IsThere m p.managers
there_of a b m p s has = record { within = has.manager; five = member_five a b p m s has }

still_there : (m : Member) (t : TaskNo) (y : Task) (ms : List Manager) → IsThere m ms → IsThere m (with_task m t y ms)
still_there m t y ms there =
    let x = tasked t y (manager_in m ms) in
    record {
      within = subst (λ (n : ℕ). member_number m ≤ n) (sym (length-set ms (member_number m - 1) x)) there.within;
      five = ap (λ (z : Manager). length z.tasks) (manager_same m x ms there.within) ∙ length-set (manager_in m ms).tasks (task_number t) y ∙ there.five;
    }

-- puts of incarnations that failed are told whatever the task does
abbrev KeepsTold : Owned → Owned → Type 0
KeepsTold p q = (is_told : IsTelling) → AreToldBy is_told p → AreToldBy is_told q

move_more : (m : Member) (t : TaskNo) (p q r : Owned) → IsMove m t p q → IsMove m t q r → KeepsTold q r → IsMove m t p r
move_more m t p q r first then told = record {
  objects = then.objects ∙ first.objects;
  lives = then.lives ∙ first.lives;
  frame = frame_more m t p.managers q.managers r.managers first.frame then.frame;
  inside = λ each. then.inside (first.inside each);
  told = λ is_told own each. told is_told (first.told is_told own each);
}

-- ---- a mark

record IsOff (m : Member) (t : TaskNo) (p q : Owned) : Type 0 where
  pub move : IsMove m t p q
  pub told : KeepsTold p q
  pub history : q.history ≡ p.history
  pub there : IsThere m q.managers
  pub unit : (task_at m t q.managers).unit ≡ (task_at m t p.managers).unit
  pub claims : (task_at m t q.managers).claims ≡ (task_at m t p.managers).claims

off_by : (t : TaskNo) (u : UnitName) (p : Owned) (next : Option Claim) → IsThere u.member p.managers → IsOff u.member t p (settled_by u t next p)
off_by t u p None there = record { move = still u.member t p; told = λ is_told each. each; history = refl; there = there; unit = refl; claims = refl }
off_by t u p (Some c) there =
    let m = u.member in
    let task = task_at m t p.managers in
    let y = record task { stage = further task.stage } in
    let s = c.connection.structure in
    let structure = structure_in s p.structures in
    let answer = settle_answer structure c.connection c.id u in
    let told : KeepsTold p (settled_by u t (Some c) p) = λ is_told each. told_with is_told s (revised_if_done answer c.id (settled_entry (commits task.stage)) structure) p.structures each
    (told_settled is_told (structure_number s) answer c.id (commits task.stage) structure (each s)) in
    record {
      move = record {
        objects = refl;
        lives = refl;
        frame = frame_stored m t y p.managers there.within there.five (λ v holds. holds);
        inside = λ each. inside_with s (revised_if_done answer c.id (settled_entry (commits task.stage)) structure) p.structures each (inside_settled answer c.id (commits task.stage) structure (inside_in s p.structures each));
        told = λ is_told own each. told is_told each;
      };
      told = told;
      history = refl;
      there = still_there m t y p.managers there;
      unit = ap (λ (z : Task). z.unit) (task_stored m t y p.managers there.within there.five);
      claims = ap (λ (z : Task). z.claims) (task_stored m t y p.managers there.within there.five);
    }

mark_off : (t : TaskNo) (u : UnitName) (p : Owned) → IsThere u.member p.managers → IsOff u.member t p (settled u t p)
mark_off t u p there = off_by t u p (next_claim (task_at u.member t p.managers)) there

settle_by : (t : TaskNo) (ops : List (StructNo × Op)) (u : UnitName) (count : ℕ) (p : Owned) (z : Bool) → IsOff u.member t p (settled u t p) → IsSettled p.history.items (task_at u.member t p.managers) u ops count
    → EndMoves u.member t ops (Settle u count) p More (cond z (Publish u count) (Settle u count)) (settled u t p)
settle_by t ops u count p true off is = record { move = off.move; history = inl (ap (λ h. h.items) off.history); holds = record { committed = subst (λ h. IsCommitted h.items u ops count) (sym off.history) is.committed; claims = ap keys_claimed off.claims ∙ is.claims }; counts = λ v. ap (λ h. one_if (same_unit v u) + named_in v h.items) (sym off.history) }
settle_by t ops u count p false off is = record { move = off.move; history = inl (ap (λ h. h.items) off.history); holds = record { committed = subst (λ h. IsCommitted h.items u ops count) (sym off.history) is.committed; claims = ap keys_claimed off.claims ∙ is.claims }; counts = λ v. ap (λ h. one_if (same_unit v u) + named_in v h.items) (sym off.history) }

-- ---- the end

end_there : (t : TaskNo) (u : UnitName) (p : Owned) → IsThere u.member p.managers → IsMove u.member t p (ended u t p)
end_there t u p there = record {
  objects = refl;
  lives = refl;
  frame = frame_stored u.member t idle p.managers there.within there.five (λ v holds. absurd (none-some v holds));
  inside = λ each. each;
  told = λ is_told own each. each;
}

end_idle : (t : TaskNo) (u : UnitName) (p : Owned) → IsThere u.member p.managers → task_at u.member t (ended u t p).managers ≡ idle
end_idle t u p there = task_stored u.member t idle p.managers there.within there.five

-- a low page that is told leaves the lives of members
told_lives : (m : Member) (page : PageNo) (repo : Repository) → (told_low m page repo).lives ≡ repo.lives
told_lives m page repo = by (has_failed m repo)
  where
    by : (b : Bool) → (cond b repo (with_low m (later_page (low_of m repo) page) repo)).lives ≡ repo.lives
    by true = refl
    by false = refl

publish_there : (t : TaskNo) (ops : List (StructNo × Op)) (u : UnitName) (count : ℕ) (p : Owned) → IsThere u.member p.managers → IsCommitted p.history.items u ops count
    → EndMoves u.member t ops (Publish u count) p (unit_ended u count) (Publish u count) (published u t p)
publish_there t ops u count p there is =
    let move = end_there t u p there in
    record {
      move = record { objects = refl; lives = told_lives u.member (low_page u.member (ended u t p)) p.repo; frame = move.frame; inside = λ each. each; told = λ is_told own each. each };
      history = refl;
      holds = ap (λ (z : Task). z.ops) (end_idle t u p there);
      ends = is;
      whole = refl;
      out = tt;
      counts = λ v. refl;
    }

-- ---- BACKOUT

-- a unit of the seat that is up was drawn
drawn_by : (u : UnitName) (old new : Seat) → is_live u old ≡ true → u.seq < old.next → new.incarnation ≡ old.incarnation → old.next ≤ new.next → IsDrawn u new
drawn_by u old new live drawn same grows =
    let is : (u.incarnation.number == old.incarnation) ≡ true = (and_parts old.up (u.incarnation.number == old.incarnation) live).1 in
    let at : u.incarnation.number ≡ old.incarnation = grind (arith, nat_tests, is) in
    record { past = omega (arith, at, same); below = λ e. omega (arith, drawn, grows) }

-- a unit that its task had, and has no more, is one that no task has
unheld_by : (a b : ℕ) (t : TaskNo) (u : UnitName) (p q : Owned) → IsSteady a b p → IsLawful p → (task_at u.member t p.managers).unit ≡ Some u → IsFrame u.member t p.managers q.managers → task_at u.member t q.managers ≡ idle
    → (k : Member) (w : TaskNo) → (task_at k w q.managers).unit ≡ Some u → ⊥
unheld_by a b t u p q s l holds frame free k w has = elim (cases_member k u.member) [
  | inl same ↦ elim (cases_task w t) [
    | inl here ↦ none-some u (sym (ap (λ (z : Task). z.unit) free) ∙ subst (λ (x : TaskNo). (task_at u.member x q.managers).unit ≡ Some u) here (subst (λ (x : Member). (task_at x w q.managers).unit ≡ Some u) same has))
    | inr differ ↦
        let held = subst (λ (x : Member). (task_at x w p.managers).unit ≡ Some u) same (ap (λ (z : Task). z.unit) (sym (frame.others k w (λ e f. differ f))) ∙ has) in
        differ (ap task_number (l.laws.once u w t held holds))
  ]
  | inr differ ↦
      let held = ap (λ (z : Task). z.unit) (sym (frame.others k w (λ e f. differ e))) ∙ has in
      differ (ap member_number (sym (s.own k w u held)))
]

left_out_by : (a b : ℕ) (t : TaskNo) (u : UnitName) (p q : Owned) → IsSteady a b p → IsLawful p → (task_at u.member t p.managers).unit ≡ Some u → is_unit u p.history.items ≡ false → IsFrame u.member t p.managers q.managers
    → q.history ≡ p.history → task_at u.member t q.managers ≡ idle → IsLeftOut q u
left_out_by a b t u p q s l holds out frame history free =
    let hand = l.laws.in_hand u t holds in
    let grows = frame.grows u.member in
    record {
      out = ap (λ h. is_unit u h.items) history ∙ out;
      drawn = drawn_by u (seat_of (manager_in u.member p.managers)) (seat_of (manager_in u.member q.managers)) hand.live hand.drawn (ap (λ i. i.number) grows.incarnation) grows.next;
      unheld = unheld_by a b t u p q s l holds frame free;
    }

-- a step of BACKOUT takes a mark off, of parts r in which the unit is given up
undo_by : (a b : ℕ) (t : TaskNo) (ops : List (StructNo × Op)) (u : UnitName) (count : ℕ) (before at : Phase) (p r : Owned) (z : Bool) → IsSteady a b p → (task_at u.member t p.managers).unit ≡ Some u → is_unit u p.history.items ≡ false → IsCountOf ops count
    → IsOff u.member t p r → ((q : Owned) (move : IsMove u.member t p q) → q.history ≡ p.history → task_at u.member t q.managers ≡ idle → EndMoves u.member t ops before p (unit_ended u count) at q)
    → ((q : Owned) (move : IsMove u.member t p q) → q.history ≡ p.history → EndMoves u.member t ops before p More (Undo u count) q)
    → EndMoves u.member t ops before p (cond z (unit_ended u count) More) (cond z at (Undo u count)) (cond z (ended u t r) r)
undo_by a b t ops u count before at p r true s holds out counted off finish go =
    finish (ended u t r) (move_more u.member t p r (ended u t r) off.move (end_there t u r off.there) (λ is_told each. each)) off.history (end_idle t u r off.there)
undo_by a b t ops u count before at p r false s holds out counted off finish go = go r off.move off.history

gave_up : (a b : ℕ) (t : TaskNo) (ops : List (StructNo × Op)) (u : UnitName) (count : ℕ) (p q : Owned) → IsSteady a b p → IsLawful p → (task_at u.member t p.managers).unit ≡ Some u → is_unit u p.history.items ≡ false → IsCountOf ops count
    → IsMove u.member t p q → q.history ≡ p.history → task_at u.member t q.managers ≡ idle → EndMoves u.member t ops GiveUp p (unit_ended u count) GiveUp q
gave_up a b t ops u count p q s l holds out counted move history free = record {
  move = move;
  history = ap (λ h. h.items) history;
  holds = ap (λ (z : Task). z.ops) free;
  ends = counted;
  whole = refl;
  out = left_out_by a b t u p q s l holds out move.frame history free;
  counts = λ v. refl;
}

undid : (a b : ℕ) (t : TaskNo) (ops : List (StructNo × Op)) (u : UnitName) (count : ℕ) (p q : Owned) → IsSteady a b p → IsLawful p → (task_at u.member t p.managers).unit ≡ Some u → is_unit u p.history.items ≡ false → IsCountOf ops count
    → IsMove u.member t p q → q.history ≡ p.history → task_at u.member t q.managers ≡ idle → EndMoves u.member t ops (Undo u count) p (unit_ended u count) (Undo u count) q
undid a b t ops u count p q s l holds out counted move history free = record {
  move = move;
  history = ap (λ h. h.items) history;
  holds = ap (λ (z : Task). z.ops) free;
  ends = counted;
  whole = refl;
  out = left_out_by a b t u p q s l holds out move.frame history free;
  counts = λ v. refl;
}

gives_up : (t : TaskNo) (ops : List (StructNo × Op)) (u : UnitName) (count : ℕ) (p q : Owned) → is_unit u p.history.items ≡ false → IsCountOf ops count → IsMove u.member t p q → q.history ≡ p.history
    → EndMoves u.member t ops GiveUp p More (Undo u count) q
gives_up t ops u count p q out counted move history = record {
  move = move;
  history = inl (ap (λ h. h.items) history);
  holds = (ap (λ h. is_unit u h.items) history ∙ out, counted);
  counts = λ v. ap (λ h. one_if false + named_in v h.items) (sym history);
}

undoes : (t : TaskNo) (ops : List (StructNo × Op)) (u : UnitName) (count : ℕ) (p q : Owned) → is_unit u p.history.items ≡ false → IsCountOf ops count → IsMove u.member t p q → q.history ≡ p.history
    → EndMoves u.member t ops (Undo u count) p More (Undo u count) q
undoes t ops u count p q out counted move history = record {
  move = move;
  history = inl (ap (λ h. h.items) history);
  holds = (ap (λ h. is_unit u h.items) history ∙ out, counted);
  counts = λ v. ap (λ h. one_if false + named_in v h.items) (sym history);
}

-- ---- each step

-- the three parts of a step that is known are those of the definition
pub end_is : (m : Member) (t : TaskNo) (ops : List (StructNo × Op)) (before : Phase) (p : Owned) (turn : Turn) (phase : Phase) (q : Owned) (next : Next) → record { turn = turn; phase = phase; parts = q } ≡ next
    → EndMoves m t ops before p next.turn next.phase next.parts → EndMoves m t ops before p turn phase q
end_is m t ops before p turn phase q next is moves = subst (λ (x : Next). EndMoves m t ops before p x.turn x.phase x.parts) (sym is) moves

pub settle_moves : (a b : ℕ) (m : Member) (t : TaskNo) (ops : List (StructNo × Op)) (p : Owned) (u : UnitName) (count : ℕ) → IsSteady a b p → HasMember m p → u.member ≡ m → IsSettled p.history.items (task_at m t p.managers) u ops count
    → EndMoves m t ops (Settle u count) p (after_settle t u count p).turn (after_settle t u count p).phase (after_settle t u count p).parts
settle_moves a b m t ops p u count s has own is =
    subst (λ (k : Member). HasMember k p → IsSettled p.history.items (task_at k t p.managers) u ops count → EndMoves k t ops (Settle u count) p (after_settle t u count p).turn (after_settle t u count p).phase (after_settle t u count p).parts) own
    (λ here left. settle_by t ops u count p (is_settled u t (settled u t p)) (mark_off t u p (there_of a b u.member p s here)) left) has is

pub publish_moves : (a b : ℕ) (m : Member) (t : TaskNo) (ops : List (StructNo × Op)) (p : Owned) (u : UnitName) (count : ℕ) → IsSteady a b p → HasMember m p → u.member ≡ m → IsCommitted p.history.items u ops count
    → EndMoves m t ops (Publish u count) p (after_publish t u count p).turn (after_publish t u count p).phase (after_publish t u count p).parts
publish_moves a b m t ops p u count s has own is =
    subst (λ (k : Member). HasMember k p → EndMoves k t ops (Publish u count) p (after_publish t u count p).turn (after_publish t u count p).phase (after_publish t u count p).parts) own
    (λ here. publish_there t ops u count p (there_of a b u.member p s here) is) has

pub undo_moves : (a b : ℕ) (m : Member) (t : TaskNo) (ops : List (StructNo × Op)) (p : Owned) (u : UnitName) (count : ℕ) → IsSteady a b p → IsLawful p → HasMember m p → u.member ≡ m → (task_at m t p.managers).unit ≡ Some u → is_unit u p.history.items ≡ false → IsCountOf ops count
    → EndMoves m t ops (Undo u count) p (after_undo t u count (Undo u count) p).turn (after_undo t u count (Undo u count) p).phase (after_undo t u count (Undo u count) p).parts
undo_moves a b m t ops p u count s l has own holds out counted =
    subst (λ (k : Member). HasMember k p → (task_at k t p.managers).unit ≡ Some u → EndMoves k t ops (Undo u count) p (after_undo t u count (Undo u count) p).turn (after_undo t u count (Undo u count) p).phase (after_undo t u count (Undo u count) p).parts) own
    (λ here held. undo_by a b t ops u count (Undo u count) (Undo u count) p (settled u t p) (is_settled u t (settled u t p)) s held out counted (mark_off t u p (there_of a b u.member p s here))
    (λ q move history free. undid a b t ops u count p q s l held out counted move history free) (λ q move history. undoes t ops u count p q out counted move history)) has holds

-- the unit is given up, and loses its first mark
off_given_up : (t : TaskNo) (u : UnitName) (p : Owned) → IsThere u.member p.managers → IsOff u.member t p (settled u t (given_up u t p))
off_given_up t u p there =
    let m = u.member in
    let y = decided (BackedOut 0) (task_at m t p.managers) in
    let first : IsMove m t p (given_up u t p) = record { objects = refl; lives = refl; frame = frame_stored m t y p.managers there.within there.five (λ v holds. holds); inside = λ each. each; told = λ is_told own each. each } in
    let off = mark_off t u (given_up u t p) (still_there m t y p.managers there) in
    record {
      move = move_more m t p (given_up u t p) (settled u t (given_up u t p)) first off.move off.told;
      told = λ is_told each. off.told is_told each;
      history = off.history;
      there = off.there;
      unit = off.unit ∙ ap (λ (z : Task). z.unit) (task_stored m t y p.managers there.within there.five);
      claims = off.claims ∙ ap (λ (z : Task). z.claims) (task_stored m t y p.managers there.within there.five);
    }

-- a unit that is open isn't in the history
open_is_out : (t : TaskNo) (u : UnitName) (p : Owned) → IsLawful p → (task_at u.member t p.managers).unit ≡ Some u → is_open (task_at u.member t p.managers).stage ≡ true → is_unit u p.history.items ≡ false
open_is_out t u p l holds ready =
    ap (is_unit u) (sym l.mirrored.history) ∙ (l.laws.in_hand u t holds).in_history ∙ ap (λ (z : Task). is_hardened z.stage) (opened (task_at u.member t p.managers) u holds ready)

give_up_there : (a b : ℕ) (t : TaskNo) (ops : List (StructNo × Op)) (p : Owned) (u : UnitName) (count : ℕ) → IsSteady a b p → IsLawful p → HasMember u.member p → (task_at u.member t p.managers).unit ≡ Some u → is_open (task_at u.member t p.managers).stage ≡ true
    → IsCountOf ops count → EndMoves u.member t ops GiveUp p (after_give_up t (Some (u, count)) p).turn (after_give_up t (Some (u, count)) p).phase (after_give_up t (Some (u, count)) p).parts
give_up_there a b t ops p u count s l has holds ready counted =
    let out = open_is_out t u p l holds ready in
    let r = settled u t (given_up u t p) in
    undo_by a b t ops u count GiveUp GiveUp p r (is_settled u t r) s holds out counted (off_given_up t u p (there_of a b u.member p s has))
    (λ q move history free. gave_up a b t ops u count p q s l holds out counted move history free) (λ q move history. gives_up t ops u count p q out counted move history)

give_up_by : (a b : ℕ) (m : Member) (t : TaskNo) (ops : List (StructNo × Op)) (p : Owned) (found : Option (UnitName × ℕ)) → IsSteady a b p → IsLawful p → HasMember m p → is_open (task_at m t p.managers).stage ≡ true → (task_at m t p.managers).ops ≡ ops → pending (task_at m t p.managers) ≡ found
    → EndMoves m t ops GiveUp p (after_give_up t found p).turn (after_give_up t found p).phase (after_give_up t found p).parts
give_up_by a b m t ops p None s l has ready held is =
    let none = nothing_pending a b m t p s is in
    record { move = still m t p; history = refl; holds = none; ends = record { pending = sym held ∙ none; none = refl }; whole = refl; out = tt; counts = λ u. refl }
give_up_by a b m t ops p (Some (u, count)) s l has ready held is =
    let holds = pending_unit (task_at m t p.managers) u count is in
    let counted = subst (λ l. IsCountOf l count) held (some_pending (task_at m t p.managers) u count is) in
    subst (λ (k : Member). HasMember k p → (task_at k t p.managers).unit ≡ Some u → is_open (task_at k t p.managers).stage ≡ true
    → EndMoves k t ops GiveUp p (after_give_up t (Some (u, count)) p).turn (after_give_up t (Some (u, count)) p).phase (after_give_up t (Some (u, count)) p).parts) (s.own m t u holds)
    (λ h o r. give_up_there a b t ops p u count s l h o r counted) has holds ready

pub give_up_moves : (a b : ℕ) (m : Member) (t : TaskNo) (ops : List (StructNo × Op)) (p : Owned) → IsSteady a b p → IsLawful p → HasMember m p → is_open (task_at m t p.managers).stage ≡ true → (task_at m t p.managers).ops ≡ ops
    → EndMoves m t ops GiveUp p (after_give_up t (pending (task_at m t p.managers)) p).turn (after_give_up t (pending (task_at m t p.managers)) p).phase (after_give_up t (pending (task_at m t p.managers)) p).parts
give_up_moves a b m t ops p s l has ready held = give_up_by a b m t ops p (pending (task_at m t p.managers)) s l has ready held refl
