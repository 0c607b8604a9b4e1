-- A member that ends or begins: what of tasks, seats and failed incarnations is as it was.
use Rattle.std.proofs.Common.{◌≡◌, ℕ, ◌<◌, Bool, true, false, [], Some, refl, sym, ap, subst, ◌∙◌, arith, inl, inr}
use Rattle.std.specs.Prelude.{◌⊎◌, ◌==◌, ◌&&◌}
use Rattle.std.proofs.lemmas.Bool.{both_ways, or_cases}
use Rattle.std.proofs.lemmas.Bool.Decides.{nat_tests}
use Rattle.std.proofs.lemmas.Option.{none-some}
use Rattle.qsg_num.specs.declared.seats.Member.{Member}
use Rattle.qsg_num.specs.declared.seats.TaskNo.{TaskNo}
use Rattle.qsg_num.specs.declared.ids.UnitName.{UnitName}
use Rattle.qsg_num.specs.Seats.{member_number}
use Rattle.qsg_msg.specs.declared.message.Message.{Message}
use Rattle.qsg_lists.specs.declared.parts.Mark.{Mark}
use Rattle.qsg_lists.specs.declared.parts.Mark.TheVariants.{Visible, PutBy, GotBy, Cleanup}
use Rattle.qsg_group.specs.declared.tasks.Task.{Task}
use Rattle.qsg_group.specs.Tables.{at_member}
use Rattle.qsg_group.specs.Group.{Seat, Group, idle}
use Rattle.qsg_group.specs.Observers.{is_live, names_incarnation}
use Rattle.qsg_group.specs.Laws.{Has, Names, PutsBy, GetsBy, MarkNames, IsInHand, IsDrawn, HasEnded, HaveEnded, Laws}
use Rattle.qsg_group.specs.Changes.{open_task, ended_seat, next_seat, with_failed, without_failed, idle_tasks, MayCrash, MayStop}
use Rattle.qsg_group.proofs.Tables.{change-same, change-other, cases_member, moved}
use Rattle.qsg_group.proofs.Holding.{Every}

-- ---- tasks after a crash

-- a unit that is in hand after a crash was in hand, at another member
pub has_crashed : (tasks : Member → TaskNo → Task) (m : Member) (u : UnitName) (t : TaskNo) → Has (at_member m idle_tasks tasks) u t
    → (member_number u.member ≡ member_number m → ⊥) × Has tasks u t × (at_member m idle_tasks tasks u.member ≡ tasks u.member)
has_crashed tasks m u t has = elim (cases_member u.member m) [
  | inl same ↦
      let own : at_member m idle_tasks tasks u.member ≡ idle_tasks (tasks u.member) = subst (λ x. at_member m idle_tasks tasks x ≡ idle_tasks (tasks x)) (sym same) (change-same member_number m idle_tasks tasks) in
      absurd (none-some u (ap (λ (row : TaskNo → Task). (row t).unit) (sym own) ∙ has))
  | inr differ ↦
      let e : at_member m idle_tasks tasks u.member ≡ tasks u.member = change-other member_number m idle_tasks tasks u.member differ in
      (differ, ap (λ (row : TaskNo → Task). (row t).unit) (sym e) ∙ has, e)
]

pub every_crashed : (tasks : Member → TaskNo → Task) (m : Member) (P : UnitName → Task → Type 0) → Every tasks P → Every (at_member m idle_tasks tasks) P
every_crashed tasks m P every u t has = let h = has_crashed tasks m u t has in subst (λ (row : TaskNo → Task). P u (row t)) (sym h.2) (every u t h.1)

-- each task is idle, or as it was
pub task_crashed : (tasks : Member → TaskNo → Task) (m x : Member) (t : TaskNo) → (at_member m idle_tasks tasks x t ≡ idle) ⊎ (at_member m idle_tasks tasks x t ≡ tasks x t)
task_crashed tasks m x t = elim (cases_member x m) [
  | inl same ↦ inl (ap (λ (row : TaskNo → Task). row t) (subst (λ y. at_member m idle_tasks tasks y ≡ idle_tasks (tasks y)) (sym same) (change-same member_number m idle_tasks tasks)))
  | inr differ ↦ inr (ap (λ (row : TaskNo → Task). row t) (change-other member_number m idle_tasks tasks x differ))
]

-- ---- units in hand, and incarnations that failed

down_isnt_live : (u : UnitName) (seat : Seat) → is_live u seat ≡ true → (u.incarnation.number ≡ seat.incarnation → seat.up ≡ false) → ⊥
down_isnt_live u seat live down =
    let up : seat.up ≡ true = grind (arith, nat_tests, live) in
    let same : u.incarnation.number ≡ seat.incarnation = grind (arith, nat_tests, live) in
    both_ways seat.up (down same) up

-- the incarnation of a unit in hand didn't fail
pub unfailed : (g : Group) (u : UnitName) (t : TaskNo) → Has g.tasks u t → Laws g → g.failed u.member u.incarnation.number ≡ true → ⊥
unfailed g u t has laws gone = down_isnt_live u (g.seats u.member) (laws.in_hand u t has).live (laws.ended u.member u.incarnation.number gone).down

-- a member that is down holds no unit
pub none_down : (g : Group) (u : UnitName) (t : TaskNo) → (g.seats u.member).up ≡ false → Laws g → Has g.tasks u t → ⊥
none_down g u t down laws has = down_isnt_live u (g.seats u.member) (laws.in_hand u t has).live (λ same. down)

pub in_hand_elsewhere : (g : Group) (m : Member) (f : Seat → Seat) (u : UnitName) (task : Task) → (member_number u.member ≡ member_number m → ⊥) → IsInHand g.history g.logs g.seats u task → IsInHand g.history g.logs (at_member m f g.seats) u task
in_hand_elsewhere g m f u task differ was =
    let e : at_member m f g.seats u.member ≡ g.seats u.member = change-other member_number m f g.seats u.member differ in
    record {
      live = subst (λ (s : Seat). is_live u s ≡ true) (sym e) was.live;
      drawn = subst (λ (s : Seat). u.seq < s.next) (sym e) was.drawn;
      in_history = was.in_history;
      in_log = was.in_log;
    }

pub drawn_next : (v : UnitName) (seat : Seat) → IsDrawn v seat → IsDrawn v (next_seat seat)
drawn_next v seat was = let le = was.past in record { past = omega (arith, le); below = λ e. absurd (omega (arith, le, e)) }

pub ended_next : (i : ℕ) (seat : Seat) → HasEnded i seat → HasEnded i (next_seat seat)
ended_next i seat was = let le = was.past in record { past = omega (arith, le); down = λ e. absurd (omega (arith, le, e)) }

ended_own : (g : Group) (m : Member) (i : ℕ) → with_failed (g.seats m).incarnation (g.failed m) i ≡ true → Laws g → HasEnded i (ended_seat (g.seats m))
ended_own g m i gone laws = elim (or_cases (i == (g.seats m).incarnation) (g.failed m i) gone) [
  | inl here ↦ let e : i ≡ (g.seats m).incarnation = grind (arith, nat_tests, here) in record { past = omega (arith, e); down = λ same. refl }
  | inr before ↦ record { past = (laws.ended m i before).past; down = λ same. refl }
]

pub ended_crashed : (g : Group) (m : Member) → Laws g → HaveEnded (at_member m (with_failed (g.seats m).incarnation) g.failed) (at_member m ended_seat g.seats)
ended_crashed g m laws x i gone =
    let f = with_failed (g.seats m).incarnation in
    elim (cases_member x m) [
      | inl same ↦
          let row : at_member m f g.failed x ≡ f (g.failed m) = ap (at_member m f g.failed) same ∙ change-same member_number m f g.failed in
          let seat : at_member m ended_seat g.seats x ≡ ended_seat (g.seats m) = ap (at_member m ended_seat g.seats) same ∙ change-same member_number m ended_seat g.seats in
          subst (HasEnded i) (sym seat) (ended_own g m i (ap (λ (r : ℕ → Bool). r i) (sym row) ∙ gone) laws)
      | inr differ ↦
          subst (HasEnded i) (sym (change-other member_number m ended_seat g.seats x differ))
          (laws.ended x i (ap (λ (r : ℕ → Bool). r i) (sym (change-other member_number m f g.failed x differ)) ∙ gone))
    ]

-- what failed stays failed, in a crash; what is failed after a resolve was failed
pub fails_on : (g : Group) (m : Member) (n : ℕ) (x : Member) (i : ℕ) → g.failed x i ≡ true → at_member m (with_failed n) g.failed x i ≡ true
fails_on g m n x i gone = moved (λ (row : ℕ → Bool). row i ≡ true) m (with_failed n) g.failed x (λ same now. grind (arith, now)) gone

pub failed_before : (g : Group) (m : Member) (n : ℕ) (x : Member) (i : ℕ) → at_member m (without_failed n) g.failed x i ≡ true → g.failed x i ≡ true
failed_before g m n x i = moved (λ (row : ℕ → Bool). row i ≡ true → g.failed x i ≡ true) m (without_failed n) g.failed x (λ same now gone. now (grind (arith, gone))) (λ gone. gone)

-- ---- marks

names_crash : (g : Group) (m : Member) (u : UnitName) (Due : Task → Type 0) → MayCrash g m → Laws g → Names g.failed g.tasks u Due → Names (at_member m (with_failed (g.seats m).incarnation) g.failed) (at_member m idle_tasks g.tasks) u Due
names_crash g m u Due may laws names =
    let f = with_failed (g.seats m).incarnation in
    elim names [
      | inl gone ↦ inl (fails_on g m (g.seats m).incarnation u.member u.incarnation.number gone)
      | inr live ↦ elim (cases_member u.member m) [
        | inl same ↦
            let row : at_member m f g.failed u.member ≡ f (g.failed m) = ap (at_member m f g.failed) same ∙ change-same member_number m f g.failed in
            inl (ap (λ (r : ℕ → Bool). r u.incarnation.number) row ∙ own (g.seats m) (g.failed m) (subst (λ x. is_live u (g.seats x) ≡ true) same (laws.in_hand u live.0 live.1).live))
        | inr differ ↦
            let row : at_member m idle_tasks g.tasks u.member ≡ g.tasks u.member = change-other member_number m idle_tasks g.tasks u.member differ in
            inr (live.0, ap (λ (r : TaskNo → Task). (r live.0).unit) row ∙ live.1, subst (λ (r : TaskNo → Task). Due (r live.0)) (sym row) live.2)
      ]
    ]
  where
    own : (seat : Seat) (row : ℕ → Bool) → is_live u seat ≡ true → with_failed seat.incarnation row u.incarnation.number ≡ true
    own seat row live = let e : u.incarnation.number ≡ seat.incarnation = grind (arith, nat_tests, live) in grind (arith, nat_tests, e)

pub mark_crash : (g : Group) (m : Member) (k : ℕ × ℕ) (msg : Message) (mark : Mark) → MayCrash g m → Laws g → MarkNames g.failed g.tasks k msg mark → MarkNames (at_member m (with_failed (g.seats m).incarnation) g.failed) (at_member m idle_tasks g.tasks) k msg mark
mark_crash g m k msg Visible may laws names = tt
mark_crash g m k msg (PutBy u) may laws names = names_crash g m u (λ task. PutsBy task.stage task.ops task.claims k msg) may laws names
mark_crash g m k msg (GotBy u) may laws names = names_crash g m u (λ task. GetsBy task.stage task.ops task.claims k) may laws names
mark_crash g m k msg Cleanup may laws names = tt

-- an orderly end leaves no mark that names one of the member's units
names_stop : (g : Group) (m : Member) (u : UnitName) (Due : Task → Type 0) → MayStop g m → (Due (open_task u [] []) → ⊥) → Names g.failed g.tasks u Due → Names g.failed (at_member m idle_tasks g.tasks) u Due
names_stop g m u Due may none names = elim names [
  | inl gone ↦ inl gone
  | inr live ↦ elim (cases_member u.member m) [
    | inl same ↦
        let has : (g.tasks m live.0).unit ≡ Some u = subst (λ x. (g.tasks x live.0).unit ≡ Some u) same live.1 in
        absurd (none (subst Due (may.unused u live.0 same has) (subst (λ x. Due (g.tasks x live.0)) same live.2)))
    | inr differ ↦
        let row : at_member m idle_tasks g.tasks u.member ≡ g.tasks u.member = change-other member_number m idle_tasks g.tasks u.member differ in
        inr (live.0, ap (λ (r : TaskNo → Task). (r live.0).unit) row ∙ live.1, subst (λ (r : TaskNo → Task). Due (r live.0)) (sym row) live.2)
  ]
]

pub mark_stop : (g : Group) (m : Member) (k : ℕ × ℕ) (msg : Message) (mark : Mark) → MayStop g m → MarkNames g.failed g.tasks k msg mark → MarkNames g.failed (at_member m idle_tasks g.tasks) k msg mark
mark_stop g m k msg Visible may names = tt
mark_stop g m k msg (PutBy u) may names = names_stop g m u (λ task. PutsBy task.stage task.ops task.claims k msg) may (λ due. absurd cc) names
mark_stop g m k msg (GotBy u) may names = names_stop g m u (λ task. GetsBy task.stage task.ops task.claims k) may (λ due. absurd cc) names
mark_stop g m k msg Cleanup may names = tt

names_resolve : (g : Group) (m : Member) (i : ℕ) (u : UnitName) (Due : Task → Type 0) → ((member_number u.member == member_number m) && (u.incarnation.number == i)) ≡ false → Names g.failed g.tasks u Due → Names (at_member m (without_failed i) g.failed) g.tasks u Due
names_resolve g m i u Due other names = elim names [
  | inl gone ↦ inl (moved (λ (row : ℕ → Bool). row u.incarnation.number ≡ true) m (without_failed i) g.failed u.member
      (λ same now. own (g.failed m) (ap member_number same) now) gone)
  | inr live ↦ inr live
]
  where
    own : (row : ℕ → Bool) → member_number u.member ≡ member_number m → row u.incarnation.number ≡ true → without_failed i row u.incarnation.number ≡ true
    own row same now =
        let here : (u.incarnation.number == i) ≡ false = grind (arith, nat_tests, same, other) in
        grind (arith, now, here)

pub mark_resolve : (g : Group) (m : Member) (i : ℕ) (k : ℕ × ℕ) (msg : Message) (mark : Mark) → names_incarnation m i mark ≡ false → MarkNames g.failed g.tasks k msg mark → MarkNames (at_member m (without_failed i) g.failed) g.tasks k msg mark
mark_resolve g m i k msg Visible other names = tt
mark_resolve g m i k msg (PutBy u) other names = names_resolve g m i u (λ task. PutsBy task.stage task.ops task.claims k msg) other names
mark_resolve g m i k msg (GotBy u) other names = names_resolve g m i u (λ task. GetsBy task.stage task.ops task.claims k) other names
mark_resolve g m i k msg Cleanup other names = tt
