-- each step of a COMMIT up to where its unit is in the history
use Rattle.std.proofs.Common.{◌≡◌, ℕ, ◌+◌, ◌<◌, List, [], ◌∷◌, ◌++◌, length, map, Bool, true, false, cond, Option, Some, None, inl, inr, refl, sym, ap, subst, ◌∙◌, arith, true≢false}
use Rattle.std.specs.Prelude.{nat_lt, option_map, count_by, Contains}
use Rattle.std.proofs.lemmas.Bool.Decides.{nat_tests}
use Rattle.std.proofs.lemmas.List.Elements.{Contains-append_right}
use Rattle.std.proofs.lemmas.List.Sums.{sum_by-append, sum_by-cons}
use Rattle.std.proofs.lemmas.Option.{none-some, same_Some}
use Rattle.qsg_num.specs.declared.seats.Member.{Member}
use Rattle.qsg_num.specs.declared.seats.StructNo.{StructNo}
use Rattle.qsg_num.specs.declared.seats.TaskNo.{TaskNo}
use Rattle.qsg_num.specs.declared.ids.UnitName.{UnitName}
use Rattle.qsg_num.specs.Ids.{same_unit}
use Rattle.qsg_model.specs.declared.history.Item.{Item}
use Rattle.qsg_model.specs.declared.history.Item.TheVariants.{Unit as UnitOf}
use Rattle.qsg_model.specs.declared.history.Op.{Op}
use Rattle.qsg_model.specs.History.{names}
use Rattle.qsg_model.specs.Past.{is_unit}
use Rattle.qsg_model.proofs.Differing.{at_head}
use Rattle.qsg_model.proofs.Growing.{names-push}
use Rattle.qsg_requests.specs.declared.replies.Turn.{Turn}
use Rattle.qsg_requests.specs.declared.replies.Turn.TheVariants.{More}
use Rattle.qsg_group.specs.declared.tasks.Claim.{Claim}
use Rattle.qsg_group.specs.declared.tasks.Stage.TheVariants.{Hardening}
use Rattle.qsg_group.specs.declared.tasks.Task.{Task}
use Rattle.qsg_group.specs.Laws.{AreMatched}
use Rattle.qsg_group.specs.Observers.{is_hardened, is_undecided, key_of_op, keys_claimed}
use Rattle.qsg_manager.specs.Latches.{latch_of}
use Rattle.qsg_manager.specs.Storage.{manager_in, task_at}
use Rattle.qsg_manager.specs.Units.{decided, safe_stage}
use Rattle.qsg_logs.specs.Kept.{log_in}
use Rattle.qsg_parts.specs.Owned.{Owned, HasMember}
use Rattle.qsg_steady.specs.Steady.{IsLawful, IsSteady}
use Rattle.qsg_steady.proofs.Acting.{member_five}
use Rattle.qsg_commit.specs.declared.phases.Phase.{Phase}
use Rattle.qsg_commit.specs.declared.phases.Phase.TheVariants.{Latch, Pages, Settle}
use Rattle.qsg_commit.specs.declared.phases.Taken.{Taken}
use Rattle.qsg_commit.specs.declared.phases.Taken.TheVariants.{Nothing, Busy, Begun}
use Rattle.qsg_commit.specs.Committing.{take_of, take_answer, IsLatched, IsPageStep}
use Rattle.qsg_commit.specs.Next.{nothing_ended, LatchStep, after_page, PageStep}
use Rattle.qsg_commit.specs.Pending.{pending}
use Rattle.qsg_commit.specs.Works.{Work}
use Rattle.qsg_works.specs.declared.work.Work.TheVariants as work
use Rattle.qsg_fit.specs.Outcomes.{IsHardening}
use Rattle.qsg_fit.proofs.Opened.{task_stored}
use Rattle.qsg_answered.specs.Fits.{IsCountOf}
use Rattle.qsg_answered.proofs.Frames.{frame_stored, frame_same}
use Rattle.qsg_answered.proofs.Outcomes.{still, one_if, named_in, Moves}

abbrev pub in_phase : Member → TaskNo → Phase → Work
in_phase m t phase = record { member = m; task = t; phase = phase }

abbrev pub EndMoves : Member → TaskNo → List (StructNo × Op) → Phase → Owned → Turn → Phase → Owned → Type 0
EndMoves m t ops before p turn phase q = Moves m t ops (work.Commit (in_phase m t before)) (work.Commit (in_phase m t phase)) p q turn

pub end_moved : (m : Member) (t : TaskNo) (ops : List (StructNo × Op)) (before : Phase) (p : Owned) (turn then : Turn) (phase at : Phase) (q r : Owned) → turn ≡ then → phase ≡ at → q ≡ r → EndMoves m t ops before p then at r → EndMoves m t ops before p turn phase q
end_moved m t ops before p turn then phase at q r same_turn same_phase same_parts moves =
    subst (λ x. EndMoves m t ops before p x phase q) (sym same_turn) (subst (λ x. EndMoves m t ops before p then x q) (sym same_phase) (subst (λ x. EndMoves m t ops before p then at x) (sym same_parts) moves))

-- ---- what a task has to end

none_pending : {X : Type 0} (ops : List X) → nat_lt 0 (length ops) ≡ false → ops ≡ []
none_pending [] is = refl
none_pending (x ∷ ops) is = absurd (grind (arith, nat_tests, is))

-- nothing is to be ended where the task has no operation
pub nothing_pending : (a b : ℕ) (m : Member) (t : TaskNo) (p : Owned) → IsSteady a b p → pending (task_at m t p.managers) ≡ None → (task_at m t p.managers).ops ≡ []
nothing_pending a b m t p s is = by (nat_lt 0 (length (task_at m t p.managers).ops)) (task_at m t p.managers).unit refl refl is
  where
    by : (c : Bool) (unit : Option UnitName) → nat_lt 0 (length (task_at m t p.managers).ops) ≡ c → (task_at m t p.managers).unit ≡ unit
        → cond c (option_map {U = UnitName × ℕ} (λ (v : UnitName). (v, length (task_at m t p.managers).ops)) unit) None ≡ None → (task_at m t p.managers).ops ≡ []
    by false unit some holds is = none_pending (task_at m t p.managers).ops some
    by true None some holds is = ap (λ (z : Task). z.ops) (s.named m t holds)
    by true (Some u) some holds is = absurd (none-some (u, length (task_at m t p.managers).ops) (sym is))

pub some_pending : (task : Task) (u : UnitName) (n : ℕ) → pending task ≡ Some (u, n) → IsCountOf task.ops n
some_pending task u n is = by (nat_lt 0 (length task.ops)) task.unit refl is
  where
    by : (c : Bool) (unit : Option UnitName) → nat_lt 0 (length task.ops) ≡ c → cond c (option_map {U = UnitName × ℕ} (λ (v : UnitName). (v, length task.ops)) unit) None ≡ Some (u, n) → IsCountOf task.ops n
    by false unit some is = absurd (none-some (u, n) is)
    by true None some is = absurd (none-some (u, n) is)
    by true (Some v) some is =
        let same : length task.ops ≡ n = ap (λ (x : UnitName × ℕ). x.1) (same_Some (v, length task.ops) (u, n) is) in
        let more : 0 < length task.ops = grind (arith, nat_tests, some) in
        record { counted = sym same; some = omega (arith, same, more) }

-- ---- the latch

begun_count : Taken → ℕ
begun_count Nothing = 0
begun_count (Busy busy) = 0
begun_count (Begun u count) = count

begun_unit : UnitName → Taken → UnitName
begun_unit d Nothing = d
begun_unit d (Busy busy) = d
begun_unit d (Begun u count) = u

is_begun : Taken → Bool
is_begun Nothing = false
is_begun (Busy busy) = false
is_begun (Begun u count) = true

is_nothing : Taken → Bool
is_nothing Nothing = true
is_nothing (Busy busy) = false
is_nothing (Begun u count) = false

begun_is : (found : Option (UnitName × ℕ)) (latch : Option TaskNo) (u : UnitName) (count : ℕ) → take_of found latch ≡ Begun u count → found ≡ Some (u, count)
unfolding begun_count begun_unit is_begun
begun_is None latch u count is = absurd (true≢false (sym (ap is_begun is)))
begun_is (Some (v, n)) (Some busy) u count is = absurd (true≢false (sym (ap is_begun is)))
begun_is (Some (v, n)) None u count is = λ i. Some (ap (begun_unit v) is i, ap begun_count is i)

nothing_is : (found : Option (UnitName × ℕ)) (latch : Option TaskNo) → take_of found latch ≡ Nothing → found ≡ None
unfolding is_nothing
nothing_is None latch is = refl
nothing_is (Some (v, n)) (Some busy) is = absurd (true≢false (sym (ap is_nothing is)))
nothing_is (Some (v, n)) None is = absurd (true≢false (sym (ap is_nothing is)))

nothing_moves : (a b : ℕ) (m : Member) (t : TaskNo) (ops : List (StructNo × Op)) (p : Owned) → IsSteady a b p → (task_at m t p.managers).ops ≡ ops → pending (task_at m t p.managers) ≡ None → EndMoves m t ops Latch p nothing_ended Latch p
nothing_moves a b m t ops p s held is =
    let none = nothing_pending a b m t p s is in
    record { move = still m t p; history = refl; holds = none; ends = record { pending = sym held ∙ none; none = refl }; whole = refl; out = tt; counts = λ u. refl }

latched_moves : (a b : ℕ) (m : Member) (t : TaskNo) (ops : List (StructNo × Op)) (p q : Owned) (u : UnitName) (count : ℕ) → IsSteady a b p → HasMember m p → (task_at m t p.managers).ops ≡ ops → pending (task_at m t p.managers) ≡ Some (u, count)
    → IsLatched m t u p q → EndMoves m t ops Latch p More (Pages u count) q
latched_moves a b m t ops p q u count s has held is latch =
    let task = task_at m t p.managers in
    let y = record task { stage = Hardening (record { number = (log_in m p.logs).writer.next }) } in
    let five = member_five a b p m s has in
    subst (λ x. EndMoves m t ops Latch p More (Pages u count) x) (sym latch.parts) (record {
      move = record { objects = refl; lives = refl; frame = frame_stored m t y p.managers has.manager five (λ v holds. holds); inside = λ each. each; told = λ is_told own each. each };
      history = inl refl;
      holds = (ap (λ (z : Task). z.ops) (task_stored m t y p.managers has.manager five) ∙ held, subst (λ l. IsCountOf l count) held (some_pending task u count is));
      counts = λ v. refl;
    })

latch_by : (a b : ℕ) (m : Member) (t : TaskNo) (ops : List (StructNo × Op)) (p q : Owned) (turn : Turn) (phase : Phase) (taken : Taken) → IsSteady a b p → HasMember m p → (task_at m t p.managers).ops ≡ ops
    → take_answer m t p ≡ taken → LatchStep m t taken p turn phase q → EndMoves m t ops Latch p turn phase q
latch_by a b m t ops p q turn phase Nothing s has held is step =
    end_moved m t ops Latch p turn nothing_ended phase Latch q p step.0 step.1 step.2 (nothing_moves a b m t ops p s held (nothing_is (pending (task_at m t p.managers)) (latch_of (manager_in m p.managers).tasks) is))
latch_by a b m t ops p q turn phase (Busy busy) s has held is step = subst (λ x. EndMoves m t ops Latch p x phase q) (sym step.0) tt
latch_by a b m t ops p q turn phase (Begun u count) s has held is step =
    end_moved m t ops Latch p turn More phase (Pages u count) q q step.0 step.1 refl
    (latched_moves a b m t ops p q u count s has held (begun_is (pending (task_at m t p.managers)) (latch_of (manager_in m p.managers).tasks) u count is) step.2)

pub latch_moves : (a b : ℕ) (m : Member) (t : TaskNo) (ops : List (StructNo × Op)) (p q : Owned) (turn : Turn) (phase : Phase) → IsSteady a b p → HasMember m p → (task_at m t p.managers).ops ≡ ops
    → LatchStep m t (take_answer m t p) p turn phase q → EndMoves m t ops Latch p turn phase q
latch_moves a b m t ops p q turn phase s has held step = latch_by a b m t ops p q turn phase (take_answer m t p) s has held refl step

-- ---- a page

-- the history has a unit more
pub named_more : (u v : UnitName) (h : List Item) (ops : List (StructNo × Op)) → named_in u (h ++ UnitOf v ops ∷ []) ≡ named_in u h + one_if (same_unit u v)
named_more u v h ops =
    let f : UnitName → ℕ = λ x. cond (same_unit u x) 1 0 in
    ap (count_by (same_unit u)) (names-push h v ops) ∙ sum_by-append f (names h) (v ∷ []) ∙ ap (λ n. named_in u h + n) (sum_by-cons f v [] ∙ plus_none (f v))
  where
    plus_none : (n : ℕ) → n + 0 ≡ n
    plus_none n = omega arith

-- a unit whose run is being written isn't in the history
not_yet : (t : TaskNo) (u : UnitName) (p : Owned) → IsLawful p → IsHardening u (task_at u.member t p.managers) → is_unit u p.history.items ≡ false
not_yet t u p l hard =
    ap (is_unit u) (sym l.mirrored.history) ∙ (l.laws.in_hand u t (ap (λ (z : Task). z.unit) hard.is)).in_history ∙ ap (λ (z : Task). is_hardened z.stage) hard.is

-- the claims of a unit are those of its operations
keys_matched : (h : List Item) (ops : List (StructNo × Op)) (claims : List Claim) → AreMatched h ops claims → keys_claimed claims ≡ map key_of_op ops
keys_matched h [] [] are = refl
keys_matched h [] (c ∷ claims) are = absurd are
keys_matched h (w ∷ ops) [] are = absurd are
keys_matched h (w ∷ ops) (c ∷ claims) are = λ i. are.0 i ∷ keys_matched h ops claims are.2 i

claims_match : (t : TaskNo) (u : UnitName) (p : Owned) → IsLawful p → IsHardening u (task_at u.member t p.managers) → AreMatched p.history.items (task_at u.member t p.managers).ops (task_at u.member t p.managers).claims
claims_match t u p l hard =
    subst (λ h. AreMatched h (task_at u.member t p.managers).ops (task_at u.member t p.managers).claims) l.mirrored.history
    (l.laws.ready u t (ap (λ (z : Task). z.unit) hard.is) (ap (λ (z : Task). is_undecided z.stage) hard.is)).matched

page_by : (a b : ℕ) (t : TaskNo) (ops : List (StructNo × Op)) (p q : Owned) (u : UnitName) (count : ℕ) (done : Bool) → IsSteady a b p → IsLawful p → HasMember u.member p → IsHardening u (task_at u.member t p.managers) → (task_at u.member t p.managers).ops ≡ ops → IsCountOf ops count
    → IsPageStep u t done p q → EndMoves u.member t ops (Pages u count) p More (after_page done u count) q
page_by a b t ops p q u count false s l has hard held counted step =
    subst (λ x. EndMoves u.member t ops (Pages u count) p More (Pages u count) x) (sym step.made) (record {
      move = record { objects = refl; lives = refl; frame = frame_same u.member t p.managers; inside = λ each. each; told = λ is_told own each. each };
      history = inl refl;
      holds = (held, counted);
      counts = λ v. refl;
    })
page_by a b t ops p q u count true s l has hard held counted step =
    let m = u.member in
    let task = task_at m t p.managers in
    let y = decided (safe_stage task.stage) task in
    let five = member_five a b p m s has in
    let unit = ap (λ (z : Task). z.unit) hard.is in
    subst (λ x. EndMoves m t ops (Pages u count) p More (Settle u count) x) (sym step.made.parts) (record {
      move = record { objects = refl; lives = refl; frame = frame_stored m t y p.managers has.manager five (λ v holds. holds); inside = λ each. each; told = λ is_told own each. each };
      history = inr (record { unit = u; ops = task.ops; holds = unit; new = not_yet t u p l hard; items = refl });
      holds = record {
        committed = record {
          there = subst (λ l. Contains (p.history.items ++ UnitOf u l ∷ []) (UnitOf u ops)) (sym held) (Contains-append_right p.history.items (UnitOf u ops ∷ []) (UnitOf u ops) (at_head (UnitOf u ops) []));
          counted = counted;
        };
        claims = ap (λ (z : Task). keys_claimed z.claims) (task_stored m t y p.managers has.manager five) ∙ keys_matched p.history.items task.ops task.claims (claims_match t u p l hard) ∙ ap (map key_of_op) held;
      };
      counts = λ v. let h = named_more v u p.history.items task.ops in omega (arith, h);
    })

pub page_moves : (a b : ℕ) (m : Member) (t : TaskNo) (ops : List (StructNo × Op)) (p q : Owned) (u : UnitName) (count : ℕ) (turn : Turn) (phase : Phase) → IsSteady a b p → IsLawful p → HasMember m p → u.member ≡ m → IsHardening u (task_at m t p.managers)
    → (task_at m t p.managers).ops ≡ ops → IsCountOf ops count → PageStep t u count p turn phase q → EndMoves m t ops (Pages u count) p turn phase q
page_moves a b m t ops p q u count turn phase s l has own hard held counted step =
    end_moved m t ops (Pages u count) p turn More phase (after_page step.0 u count) q q step.1 step.2 refl
    (subst (λ (k : Member). HasMember k p → IsHardening u (task_at k t p.managers) → (task_at k t p.managers).ops ≡ ops → EndMoves k t ops (Pages u count) p More (after_page step.0 u count) q) own
    (λ there h o. page_by a b t ops p q u count step.0 s l there h o counted step.3) has hard held)
