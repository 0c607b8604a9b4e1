-- The laws on the latch of a log.
use Rattle.std.proofs.Common.{◌≡◌, ℕ, max, true, false, List, Some, None, refl, sym, ap, subst, ◌∙◌, inl, inr, filter}
use Rattle.std.specs.Prelude.{◌⊎◌, nat_le}
use Rattle.std.proofs.lemmas.Bool.{cases_Bool, both_ways}
use Rattle.qsg_num.specs.declared.seats.Member.{Member}
use Rattle.qsg_num.specs.declared.seats.StructNo.{StructNo}
use Rattle.qsg_num.specs.declared.seats.TaskNo.{TaskNo}
use Rattle.qsg_num.specs.declared.ids.UnitName.{UnitName}
use Rattle.qsg_model.specs.declared.history.Op.{Op}
use Rattle.qsg_group.specs.declared.tasks.Claim.{Claim}
use Rattle.qsg_group.specs.declared.tasks.Stage.{Stage}
use Rattle.qsg_group.specs.declared.tasks.Stage.TheVariants.{Open, Hardening, Committed, BackedOut}
use Rattle.qsg_group.specs.declared.tasks.Task.{Task}
use Rattle.qsg_group.specs.Tables.{at_member}
use Rattle.qsg_group.specs.Group.{Run, Log, Group, idle}
use Rattle.qsg_group.specs.Observers.{is_hardening, logged_ops}
use Rattle.qsg_group.specs.Laws.{IsNext, AreLatched, Laws}
use Rattle.qsg_group.specs.Changes.{hardening_task, settling_task, with_run, idle_tasks, MayBegin, MayHarden, Change, hardened}
use Rattle.qsg_group.specs.Changes.Change.{Draws, Puts, Gets, Ungets, Begins, Hardens, BacksOut, Settles, Finishes, Publishes, GivesUp, Crashes, Stops}
use Rattle.qsg_group.proofs.Tables.{moved, cases_at}
use Rattle.qsg_group.proofs.Holding.{with_task}
use Rattle.qsg_group.proofs.Failing.{task_crashed}

-- a task that isn't hardening may be at any page
idle_next : (next : ℕ) (stage : Stage) → is_hardening stage ≡ false → IsNext next stage
idle_next next Open no_run = tt
idle_next next (Hardening first) no_run = absurd cc
idle_next next (Committed first settled) no_run = tt
idle_next next (BackedOut settled) no_run = tt

-- the new task isn't hardening
quiet_tasks : (g : Group) (m : Member) (t : TaskNo) (new : Task) → is_hardening new.stage ≡ false → Laws g → AreLatched g.logs (with_task m t new g.tasks)
quiet_tasks g m t new quiet laws = record {
  next = λ x w. elim (cases_at m t (λ old. new) g.tasks x w) [
    | inl here ↦ subst (λ (y : Task). IsNext (g.logs x).next y.stage) (sym here.2) (idle_next (g.logs x).next new.stage quiet)
    | inr other ↦ subst (λ (y : Task). IsNext (g.logs x).next y.stage) (sym other.1) (laws.latched.next x w)
  ];
  one = λ x w v a b. laws.latched.one x w v (was x w a) (was x v b);
}
  where
    was : (x : Member) (w : TaskNo) → is_hardening (with_task m t new g.tasks x w).stage ≡ true → is_hardening (g.tasks x w).stage ≡ true
    was x w hard = elim (cases_at m t (λ old. new) g.tasks x w) [
      | inl here ↦ absurd (both_ways (is_hardening new.stage) quiet (ap (λ (y : Task). is_hardening y.stage) (sym here.2) ∙ hard))
      | inr other ↦ ap (λ (y : Task). is_hardening y.stage) (sym other.1) ∙ hard
    ]

latched_begins : (g : Group) (u : UnitName) (t : TaskNo) (ops : List (StructNo × Op)) (claims : List Claim) → MayBegin g u t ops claims → Laws g → AreLatched g.logs (with_task u.member t (hardening_task u ops claims (g.logs u.member).next) g.tasks)
latched_begins g u t ops claims may laws = record {
  next = λ x w. elim (cases_at u.member t (λ old. hardening_task u ops claims (g.logs u.member).next) g.tasks x w) [
    | inl here ↦ subst (λ (y : Task). IsNext (g.logs x).next y.stage) (sym here.2) (ap (λ (y : Member). (g.logs y).next) (sym here.0))
    | inr other ↦ subst (λ (y : Task). IsNext (g.logs x).next y.stage) (sym other.1) (laws.latched.next x w)
  ];
  one = λ x w v a b. elim (own x w a) [
    | inl one ↦ elim (own x v b) [
      | inl two ↦ one.1 ∙ sym two.1
      | inr two ↦ absurd (both_ways _ (subst (λ y. is_hardening (g.tasks y v).stage ≡ false) (sym one.0) (may.latch v)) two)
    ]
    | inr one ↦ elim (own x v b) [
      | inl two ↦ absurd (both_ways _ (subst (λ y. is_hardening (g.tasks y w).stage ≡ false) (sym two.0) (may.latch w)) one)
      | inr two ↦ laws.latched.one x w v one two
    ]
  ];
}
  where
    own : (x : Member) (w : TaskNo) → is_hardening (with_task u.member t (hardening_task u ops claims (g.logs u.member).next) g.tasks x w).stage ≡ true → ((x ≡ u.member) × (w ≡ t)) ⊎ (is_hardening (g.tasks x w).stage ≡ true)
    own x w hard = elim (cases_at u.member t (λ old. hardening_task u ops claims (g.logs u.member).next) g.tasks x w) [
      | inl here ↦ inl (here.0, here.1)
      | inr other ↦ inr (ap (λ (y : Task). is_hardening y.stage) (sym other.1) ∙ hard)
    ]

latched_hardens : (g : Group) (u : UnitName) (t : TaskNo) (ops : List (StructNo × Op)) (claims : List Claim) (first next : ℕ) → MayHarden g u t ops claims first next → Laws g → AreLatched (hardened g u t ops claims next).logs (hardened g u t ops claims next).tasks
latched_hardens g u t ops claims first next may laws =
    let run : Run = record { unit = u; first = (g.logs u.member).next; told = logged_ops ops claims } in
    let new = settling_task u claims (Some (g.logs u.member).next) 0 in
    let quiet = quiet_tasks g u.member t new refl laws in
    record {
      next = λ x w. elim (cases_at u.member t (λ old. new) g.tasks x w) [
        | inl here ↦ subst (λ (y : Task). IsNext (at_member u.member (with_run run next) g.logs x).next y.stage) (sym here.2) tt
        | inr other ↦ subst (λ (y : Task). IsNext (at_member u.member (with_run run next) g.logs x).next y.stage) (sym other.1)
            (moved (λ (l : Log). IsNext l.next (g.tasks x w).stage) u.member (with_run run next) g.logs x
            (λ same was. idle_next next (g.tasks x w).stage (alone x w same (other.0 same))) (laws.latched.next x w))
      ];
      one = quiet.one;
    }
  where
    alone : (x : Member) (w : TaskNo) → x ≡ u.member → (w ≡ t → ⊥) → is_hardening (g.tasks x w).stage ≡ false
    alone x w same apart = elim (cases_Bool (is_hardening (g.tasks x w).stage)) [
      | inl hard ↦ absurd (apart (laws.latched.one u.member w t (subst (λ y. is_hardening (g.tasks y w).stage ≡ true) same hard) (ap (λ (y : Task). is_hardening y.stage) may.has)))
      | inr idle ↦ idle
    ]

hardening_before : (g : Group) (m x : Member) (w : TaskNo) → is_hardening (at_member m idle_tasks g.tasks x w).stage ≡ true → is_hardening (g.tasks x w).stage ≡ true
hardening_before g m x w hard = elim (task_crashed g.tasks m x w) [
  | inl idle_now ↦ absurd (both_ways (is_hardening (at_member m idle_tasks g.tasks x w).stage) (ap (λ (y : Task). is_hardening y.stage) idle_now) hard)
  | inr same ↦ ap (λ (y : Task). is_hardening y.stage) (sym same) ∙ hard
]

pub latched_stays : (g h : Group) → Change g h → Laws g → AreLatched h.logs h.tasks
latched_stays g _ (Draws _ u t may) laws = quiet_tasks g u.member t _ refl laws
latched_stays g _ (Puts _ u t ops claims s m outside may) laws = quiet_tasks g u.member t _ refl laws
latched_stays g _ (Gets _ u t ops claims s m outside may) laws = quiet_tasks g u.member t _ refl laws
latched_stays g _ (Ungets _ u t ops claims c may) laws = quiet_tasks g u.member t _ refl laws
latched_stays g _ (Begins _ u t ops claims may) laws = latched_begins g u t ops claims may laws
latched_stays g _ (Hardens _ u t ops claims first next may) laws = latched_hardens g u t ops claims first next may laws
latched_stays g _ (BacksOut _ u t ops claims may) laws = quiet_tasks g u.member t _ refl laws
latched_stays g _ (Settles _ u t claims None n c may) laws = quiet_tasks g u.member t _ refl laws
latched_stays g _ (Settles _ u t claims (Some first) n c may) laws = quiet_tasks g u.member t _ refl laws
latched_stays g _ (Finishes _ u t claims first n may) laws = quiet_tasks g u.member t _ refl laws
latched_stays g _ (Publishes _ m page may) laws = record { next = λ x w. moved (λ (l : Log). IsNext l.next (g.tasks x w).stage) m (λ log. record log { low = max log.low page }) g.logs x (λ same was. was) (laws.latched.next x w); one = laws.latched.one }
latched_stays g _ (GivesUp _ m page may) laws = record { next = λ x w. moved (λ (l : Log). IsNext l.next (g.tasks x w).stage) m (λ log. record log { runs = filter (λ (run : Run). nat_le page run.first) log.runs; keep = page }) g.logs x (λ same was. was) (laws.latched.next x w); one = laws.latched.one }
latched_stays g _ (Crashes _ m may) laws = record {
  next = λ x w. elim (task_crashed g.tasks m x w) [
    | inl idle_now ↦ subst (λ (y : Task). IsNext (g.logs x).next y.stage) (sym idle_now) tt
    | inr same ↦ subst (λ (y : Task). IsNext (g.logs x).next y.stage) (sym same) (laws.latched.next x w)
  ];
  one = λ x w v a b. laws.latched.one x w v (hardening_before g m x w a) (hardening_before g m x v b);
}
latched_stays g _ (Stops _ m may) laws = record {
  next = λ x w. elim (task_crashed g.tasks m x w) [
    | inl idle_now ↦ subst (λ (y : Task). IsNext (g.logs x).next y.stage) (sym idle_now) tt
    | inr same ↦ subst (λ (y : Task). IsNext (g.logs x).next y.stage) (sym same) (laws.latched.next x w)
  ];
  one = λ x w v a b. laws.latched.one x w v (hardening_before g m x w a) (hardening_before g m x v b);
}
latched_stays g _ _ laws = laws.latched
