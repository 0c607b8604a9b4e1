-- The laws on the names of units.
use Rattle.qsg_group.specs.Changes.Change.{Recovers, Purges, Reopens}
use Rattle.qsg_group.proofs.Purging.{unit_purged}
use Rattle.std.proofs.Common.{◌≡◌, ℕ, ◌+◌, ◌<◌, ◌≤◌, max, Bool, true, false, List, [], ◌∷◌, ◌++◌, Option, Some, None, refl, sym, ap, subst, ◌∙◌, arith, inl, inr, filter}
use Rattle.std.specs.Prelude.{◌||◌, nat_le}
use Rattle.std.proofs.lemmas.Bool.{cases_Bool}
use Rattle.std.proofs.lemmas.Bool.Decides.{nat_tests}
use Rattle.std.proofs.lemmas.Option.{same_Some, none-some}
use Rattle.qsg_num.specs.declared.seats.Member.{Member}
use Rattle.qsg_num.specs.declared.seats.StructNo.{StructNo}
use Rattle.qsg_num.specs.declared.seats.TaskNo.{TaskNo}
use Rattle.qsg_num.specs.declared.ids.UnitName.{UnitName}
use Rattle.qsg_num.specs.Seats.{member_number}
use Rattle.qsg_num.specs.Ids.{same_unit}
use Rattle.qsg_model.specs.declared.history.Op.{Op}
use Rattle.qsg_model.specs.declared.history.Item.TheVariants.{Unit as UnitOf}
use Rattle.qsg_model.specs.Past.{is_unit}
use Rattle.qsg_model.proofs.Growing.{is_unit-push}
use Rattle.qsg_model.proofs.Differing.{same_unit-self}
use Rattle.qsg_group.specs.declared.tasks.Claim.{Claim}
use Rattle.qsg_group.specs.declared.tasks.Task.{Task}
use Rattle.qsg_group.specs.Tables.{at_member}
use Rattle.qsg_group.specs.Group.{Run, Log, Seat, Group, idle}
use Rattle.qsg_group.specs.Observers.{has_run, is_hardened, is_live, logged_ops}
use Rattle.qsg_group.specs.Laws.{Has, IsInHand, AreInHand, AreHeldOnce, IsDrawn, AreDrawn, HasEnded, HaveEnded, Laws}
use Rattle.qsg_group.specs.Changes.{open_task, hardening_task, settling, settling_task, with_run, ended_seat, next_seat, MayDraw, MayHarden, Change, drawn, hardened}
use Rattle.qsg_group.specs.Changes.Change.{Draws, Puts, Gets, Ungets, Forgets, Begins, Hardens, BacksOut, Settles, Finishes, Publishes, GivesUp, Crashes, Stops, Starts, PeerSettles, Resolves, Loses}
use Rattle.qsg_group.proofs.Tables.{every_member, moved, cases_member}
use Rattle.qsg_group.proofs.Losing.{unit_lost}
use Rattle.qsg_group.proofs.Failing.{has_crashed, none_down, in_hand_elsewhere, drawn_next, ended_next, ended_crashed, failed_before}
use Rattle.qsg_group.proofs.Keys.{has_run-push, has_run-later}
use Rattle.qsg_group.proofs.Holding.{with_task, got_task, cases_has, every_after, has_back}
use Rattle.qsg_group.proofs.Pages.{same_name, has_unit, undrawn, undrawn_run}

-- ---- once

-- the task holds the unit that it held
once_same : (g : Group) (m : Member) (t : TaskNo) (new : Task) → new.unit ≡ (g.tasks m t).unit → Laws g → AreHeldOnce (with_task m t new g.tasks)
once_same g m t new same laws = λ u k j a b. laws.once u k j (has_back g.tasks m t new u k same a) (has_back g.tasks m t new u j same b)

-- the task holds a unit that none held, or none
once_new : (g : Group) (m : Member) (t : TaskNo) (new : Task) → ((u : UnitName) (k : TaskNo) → new.unit ≡ Some u → u.member ≡ m → Has g.tasks u k → ⊥) → Laws g → AreHeldOnce (with_task m t new g.tasks)
once_new g m t new fresh laws = λ u k j a b. elim (cases_has g.tasks m t new u k a) [
  | inl one ↦ elim (cases_has g.tasks m t new u j b) [
    | inl two ↦ one.1 ∙ sym two.1
    | inr two ↦ absurd (fresh u j one.2 one.0 two.1)
  ]
  | inr one ↦ elim (cases_has g.tasks m t new u j b) [
    | inl two ↦ absurd (fresh u k two.2 two.0 one.1)
    | inr two ↦ laws.once u k j one.1 two.1
  ]
]

-- a name that is to be drawn is held by none
pub unheld_name : (g : Group) (u : UnitName) (t k : TaskNo) → MayDraw g u t → Laws g → Has g.tasks u k → ⊥
unheld_name g u t k may laws has =
    let d = (laws.in_hand u k has).drawn in
    let n : (g.seats u.member).next ≡ u.seq = ap (λ (x : Seat). x.next) may.seat in
    absurd (omega (arith, d, n))

unit_is : (g : Group) (u : UnitName) (t : TaskNo) (task : Task) → g.tasks u.member t ≡ task → (g.tasks u.member t).unit ≡ task.unit
unit_is g u t task has = ap (λ (x : Task). x.unit) has

pub once_stays : (g h : Group) → Change g h → Laws g → AreHeldOnce h.tasks
once_stays g _ (Draws _ u t may) laws = once_new g u.member t _ (λ v k e m has. unheld_name g u t k may laws (subst (λ (x : UnitName). Has g.tasks x k) (sym (same_Some u v e)) has)) laws
once_stays g _ (Puts _ u t ops claims s m outside may) laws = once_same g u.member t _ (sym (unit_is g u t _ may.has)) laws
once_stays g _ (Gets _ u t ops claims s m outside may) laws = once_same g u.member t _ (sym (unit_is g u t _ may.has)) laws
once_stays g _ (Ungets _ u t ops claims c may) laws = once_same g u.member t _ (sym (unit_is g u t _ may.has)) laws
once_stays g _ (Begins _ u t ops claims may) laws = once_same g u.member t _ (sym (unit_is g u t _ may.has)) laws
once_stays g _ (Hardens _ u t ops claims first next may) laws = once_same g u.member t _ (sym (unit_is g u t _ may.has)) laws
once_stays g _ (BacksOut _ u t ops claims may) laws = once_same g u.member t _ (sym (unit_is g u t _ may.has)) laws
once_stays g _ (Settles _ u t claims first n c may) laws = once_same g u.member t _ (sym (unit_is g u t _ may.has)) laws
once_stays g _ (Finishes _ u t claims first n may) laws = once_new g u.member t idle (λ v k e m has. none-some v e) laws
once_stays g _ (Crashes _ m may) laws = λ u t w a b. laws.once u t w (has_crashed g.tasks m u t a).1 (has_crashed g.tasks m u w b).1
once_stays g _ (Stops _ m may) laws = λ u t w a b. laws.once u t w (has_crashed g.tasks m u t a).1 (has_crashed g.tasks m u w b).1
once_stays g _ _ laws = laws.once

-- ---- in hand

-- the task holds the unit that it held, which is as hardened as it was
in_hand_same : (g : Group) (u : UnitName) (t : TaskNo) (old new : Task) → g.tasks u.member t ≡ old → old.unit ≡ Some u → new.unit ≡ Some u → is_hardened new.stage ≡ is_hardened old.stage → Laws g → AreInHand g.history g.logs g.seats (with_task u.member t new g.tasks)
in_hand_same g u t old new has old_unit new_unit same laws = every_after g.tasks u.member t new (λ v task. IsInHand g.history g.logs g.seats v task)
    (λ v m e.
    let was : IsInHand g.history g.logs g.seats u old = subst (λ (x : Task). IsInHand g.history g.logs g.seats u x) has (laws.in_hand u t (has_unit g u t old has old_unit)) in
    subst (λ (x : UnitName). IsInHand g.history g.logs g.seats x new) (same_Some u v (sym new_unit ∙ e))
    (record { live = was.live; drawn = was.drawn; in_history = was.in_history ∙ sym same; in_log = was.in_log ∙ sym same }))
    laws.in_hand

live_drawn : (u : UnitName) (seat : Seat) → seat ≡ record { up = true; incarnation = u.incarnation.number; next = u.seq } → is_live u (record seat { next = u.seq + 1 }) ≡ true
live_drawn u seat is =
    let up : seat.up ≡ true = ap (λ (x : Seat). x.up) is in
    let i : seat.incarnation ≡ u.incarnation.number = ap (λ (x : Seat). x.incarnation) is in
    grind (arith, nat_tests, up, i)

in_hand_draws : (g : Group) (u : UnitName) (t : TaskNo) → MayDraw g u t → Laws g → AreInHand g.history g.logs (drawn g u t).seats (drawn g u t).tasks
in_hand_draws g u t may laws =
    let f : Seat → Seat = λ seat. record seat { next = u.seq + 1 } in
    every_after g.tasks u.member t (open_task u [] []) (λ v task. IsInHand g.history g.logs (at_member u.member f g.seats) v task)
    (λ v m e. subst (λ (x : UnitName). IsInHand g.history g.logs (at_member u.member f g.seats) x (open_task u [] [])) (same_Some u v e) (record {
      live = moved (λ (s : Seat). is_live u s ≡ true) u.member f g.seats u.member (λ same was. live_drawn u (g.seats u.member) may.seat) (live_now g u t may);
      drawn = moved_always (λ (s : Seat). u.seq < s.next) u.member f g.seats (omega arith);
      in_history = undrawn g u t may laws;
      in_log = undrawn_run g u t may laws;
    }))
    (λ v k has. let was = laws.in_hand v k has in record {
      live = moved (λ (s : Seat). is_live v s ≡ true) u.member f g.seats v.member (λ same now. now) was.live;
      drawn = moved (λ (s : Seat). v.seq < s.next) u.member f g.seats v.member (λ same lt. let n : (g.seats u.member).next ≡ u.seq = ap (λ (x : Seat). x.next) may.seat in omega (arith, lt, n)) was.drawn;
      in_history = was.in_history;
      in_log = was.in_log;
    })
  where
    live_now : (g : Group) (u : UnitName) (t : TaskNo) → MayDraw g u t → is_live u (g.seats u.member) ≡ true
    live_now g u t may =
        let up : (g.seats u.member).up ≡ true = ap (λ (x : Seat). x.up) may.seat in
        let i : (g.seats u.member).incarnation ≡ u.incarnation.number = ap (λ (x : Seat). x.incarnation) may.seat in
        grind (arith, nat_tests, up, i)

    moved_always : (P : Seat → Type 0) (m : Member) (f : Seat → Seat) (table : Member → Seat) → P (f (table m)) → P (at_member m f table m)
    moved_always P m f table own = subst P (sym (Rattle.qsg_group.proofs.Tables.change-same member_number m f table)) own

pub or_false : (a b : Bool) → b ≡ false → (a || b) ≡ a
or_false a b none = grind (arith, none)

in_hand_hardens : (g : Group) (u : UnitName) (t : TaskNo) (ops : List (StructNo × Op)) (claims : List Claim) (first next : ℕ) → MayHarden g u t ops claims first next → Laws g
    → AreInHand (hardened g u t ops claims next).history (hardened g u t ops claims next).logs g.seats (hardened g u t ops claims next).tasks
in_hand_hardens g u t ops claims first next may laws v w has =
    let run : Run = record { unit = u; first = (g.logs u.member).next; told = logged_ops ops claims } in
    let new = settling_task u claims (Some (g.logs u.member).next) 0 in
    let at = has_unit g u t (hardening_task u ops claims first) may.has refl in
    elim (cases_has g.tasks u.member t new v w has) [
      | inl here ↦
          let was = laws.in_hand u t at in
          subst (λ (x : Task). IsInHand (g.history ++ UnitOf u ops ∷ []) (at_member u.member (with_run run next) g.logs) g.seats v x) (sym here.3)
          (subst (λ (x : UnitName). IsInHand (g.history ++ UnitOf u ops ∷ []) (at_member u.member (with_run run next) g.logs) g.seats x new) (same_Some u v here.2) (record {
            live = was.live;
            drawn = was.drawn;
            in_history = is_unit-push u g.history u ops ∙ (let s = same_unit-self u in grind (arith, s));
            in_log = ap (λ (l : Log). has_run u l.runs) (Rattle.qsg_group.proofs.Tables.change-same member_number u.member (with_run run next) g.logs) ∙ has_run-push u (g.logs u.member).runs run ∙ (let s = same_unit-self u in grind (arith, s));
          }))
      | inr other ↦
          let was = laws.in_hand v w other.1 in
          let apart : same_unit v u ≡ false = elim (cases_Bool (same_unit v u)) [
            | inl same ↦ let e = same_name v u same in absurd (other.0 (ap (λ (x : UnitName). x.member) e) (sym (laws.once u t w at (subst (λ (x : UnitName). Has g.tasks x w) e other.1))))
            | inr differ ↦ differ
          ] in
          subst (λ (x : Task). IsInHand (g.history ++ UnitOf u ops ∷ []) (at_member u.member (with_run run next) g.logs) g.seats v x) (sym other.2) (record {
            live = was.live;
            drawn = was.drawn;
            in_history = is_unit-push v g.history u ops ∙ or_false (is_unit v g.history) (same_unit v u) apart ∙ was.in_history;
            in_log = moved (λ (l : Log). has_run v l.runs ≡ is_hardened (g.tasks v.member w).stage) u.member (with_run run next) g.logs v.member
                (λ same now. has_run-push v (g.logs u.member).runs run ∙ or_false (has_run v (g.logs u.member).runs) (same_unit v u) apart ∙ now) was.in_log;
          })
    ]

hardened_next : (first : Option ℕ) (n : ℕ) → is_hardened (settling first (n + 1)) ≡ is_hardened (settling first n)
hardened_next None n = refl
hardened_next (Some first) n = refl

pub in_hand_stays : (g h : Group) → Change g h → Laws g → AreInHand h.history h.logs h.seats h.tasks
in_hand_stays g _ (Draws _ u t may) laws = in_hand_draws g u t may laws
in_hand_stays g _ (Puts _ u t ops claims s m outside may) laws = in_hand_same g u t (open_task u ops claims) _ may.has refl refl refl laws
in_hand_stays g _ (Gets _ u t ops claims s m outside may) laws = in_hand_same g u t (open_task u ops claims) _ may.has refl refl refl laws
in_hand_stays g _ (Ungets _ u t ops claims c may) laws = in_hand_same g u t (got_task u ops claims c) _ may.has refl refl refl laws
in_hand_stays g _ (Forgets _ s id may) laws = laws.in_hand
in_hand_stays g _ (Begins _ u t ops claims may) laws = in_hand_same g u t (open_task u ops claims) _ may.has refl refl refl laws
in_hand_stays g _ (Hardens _ u t ops claims first next may) laws = in_hand_hardens g u t ops claims first next may laws
in_hand_stays g _ (BacksOut _ u t ops claims may) laws = in_hand_same g u t (open_task u ops claims) _ may.has refl refl refl laws
in_hand_stays g _ (Settles _ u t claims first n c may) laws = in_hand_same g u t (settling_task u claims first n) _ may.has refl refl (hardened_next first n) laws
in_hand_stays g _ (Finishes _ u t claims first n may) laws = every_after g.tasks u.member t idle (λ v task. IsInHand g.history g.logs g.seats v task) (λ v m e. absurd (none-some v e)) laws.in_hand
in_hand_stays g _ (Publishes _ m page may) laws = λ u t has. let was = laws.in_hand u t has in record {
  live = was.live;
  drawn = was.drawn;
  in_history = was.in_history;
  in_log = moved (λ (l : Log). has_run u l.runs ≡ is_hardened (g.tasks u.member t).stage) m (λ log. record log { low = max log.low page }) g.logs u.member (λ same now. now) was.in_log;
}
in_hand_stays g _ (Crashes _ m may) laws = λ u t has.
    let h = has_crashed g.tasks m u t has in
    subst (λ (row : TaskNo → Task). IsInHand g.history g.logs (at_member m ended_seat g.seats) u (row t)) (sym h.2) (in_hand_elsewhere g m ended_seat u (g.tasks u.member t) h.0 (laws.in_hand u t h.1))
in_hand_stays g _ (Stops _ m may) laws = λ u t has.
    let h = has_crashed g.tasks m u t has in
    subst (λ (row : TaskNo → Task). IsInHand g.history g.logs (at_member m ended_seat g.seats) u (row t)) (sym h.2) (in_hand_elsewhere g m ended_seat u (g.tasks u.member t) h.0 (laws.in_hand u t h.1))
in_hand_stays g _ (Starts _ m may) laws = λ u t has. elim (cases_member u.member m) [
  | inl same ↦ absurd (none_down g u t (subst (λ x. (g.seats x).up ≡ false) (sym same) may.down) laws has)
  | inr differ ↦ in_hand_elsewhere g m next_seat u (g.tasks u.member t) differ (laws.in_hand u t has)
]
in_hand_stays g _ (PeerSettles _ s id u may) laws = laws.in_hand
in_hand_stays g _ (Resolves _ m i may) laws = laws.in_hand
in_hand_stays g _ (Recovers _ s m i may) laws = laws.in_hand
in_hand_stays g _ (Reopens _ s may) laws = laws.in_hand
in_hand_stays g _ (Purges _ s may) laws = λ u t has. let was = laws.in_hand u t has in record { live = was.live; drawn = was.drawn; in_history = unit_purged u g.history s ∙ was.in_history; in_log = was.in_log }
in_hand_stays g _ (Loses _ s may) laws = λ u t has. let was = laws.in_hand u t has in record { live = was.live; drawn = was.drawn; in_history = unit_lost u g.history s ∙ was.in_history; in_log = was.in_log }
in_hand_stays g _ (GivesUp _ m page may) laws = λ u t has. let was = laws.in_hand u t has in record {
  live = was.live;
  drawn = was.drawn;
  in_history = was.in_history;
  in_log = moved (λ (l : Log). has_run u l.runs ≡ is_hardened (g.tasks u.member t).stage) m (λ log. record log { runs = filter (λ (run : Run). nat_le page run.first) log.runs; keep = page }) g.logs u.member
      (λ same now. has_run-later page u (g.logs m).runs (from_low page (g.logs m).low u (g.logs m).runs may.low (subst (λ x. Rattle.qsg_group.specs.Laws.RunsFrom (g.logs x).low u (g.logs x).runs) same (laws.kept.of_held u t has))) ∙ now) was.in_log;
}
  where
    from_low : (page low : ℕ) (u : UnitName) (runs : List Run) → page ≤ low → Rattle.qsg_group.specs.Laws.RunsFrom low u runs → Rattle.qsg_group.specs.Laws.RunsFrom page u runs
    from_low page low u [] le from = tt
    from_low page low u (run ∷ runs) le from = ((λ same. let x = from.0 same in omega (arith, x)), from_low page low u runs le from.1)

-- ---- drawn and ended

drawn_seat : (v u : UnitName) (seat : Seat) → seat.next ≡ u.seq → IsDrawn v seat → IsDrawn v (record seat { next = u.seq + 1 })
drawn_seat v u seat n was = record { past = was.past; below = λ e. let b = was.below e in omega (arith, b, n) }

live_is_drawn : (u : UnitName) (seat : Seat) → is_live u seat ≡ true → u.seq < seat.next → IsDrawn u seat
live_is_drawn u seat live lt = record { past = grind (arith, nat_tests, live); below = λ e. lt }

pub drawn_stays : (g h : Group) → Change g h → Laws g → AreDrawn h.history h.seats
drawn_stays g _ (Draws _ u t may) laws = λ v was. moved (λ (s : Seat). IsDrawn v s) u.member (λ seat. record seat { next = u.seq + 1 }) g.seats v.member
    (λ same now. drawn_seat v u (g.seats u.member) (ap (λ (x : Seat). x.next) may.seat) now) (laws.drawn v was)
drawn_stays g _ (Hardens _ u t ops claims first next may) laws = λ v was. elim (cases_Bool (same_unit v u)) [
  | inl same ↦ let own = laws.in_hand u t (has_unit g u t (hardening_task u ops claims first) may.has refl) in
      subst (λ (x : UnitName). IsDrawn x (g.seats x.member)) (sym (same_name v u same)) (live_is_drawn u (g.seats u.member) own.live own.drawn)
  | inr differ ↦ laws.drawn v (let p = is_unit-push v g.history u ops in grind (arith, p, was, differ))
]
drawn_stays g _ (Crashes _ m may) laws = λ v was. moved (λ (s : Seat). IsDrawn v s) m ended_seat g.seats v.member (λ same now. record { past = now.past; below = now.below }) (laws.drawn v was)
drawn_stays g _ (Stops _ m may) laws = λ v was. moved (λ (s : Seat). IsDrawn v s) m ended_seat g.seats v.member (λ same now. record { past = now.past; below = now.below }) (laws.drawn v was)
drawn_stays g _ (Starts _ m may) laws = λ v was. moved (λ (s : Seat). IsDrawn v s) m next_seat g.seats v.member (λ same now. drawn_next v (g.seats m) now) (laws.drawn v was)
drawn_stays g _ (Loses _ s may) laws = λ v was. laws.drawn v (sym (unit_lost v g.history s) ∙ was)
drawn_stays g _ (Purges _ s may) laws = λ v was. laws.drawn v (sym (unit_purged v g.history s) ∙ was)
drawn_stays g _ _ laws = laws.drawn

pub ended_stays : (g h : Group) → Change g h → Laws g → HaveEnded h.failed h.seats
ended_stays g _ (Draws _ u t may) laws = λ m i gone. moved (λ (s : Seat). HasEnded i s) u.member (λ seat. record seat { next = u.seq + 1 }) g.seats m
    (λ same now. record { past = now.past; down = now.down }) (laws.ended m i gone)
ended_stays g _ (Crashes _ m may) laws = ended_crashed g m laws
ended_stays g _ (Stops _ m may) laws = λ x i gone. moved (λ (s : Seat). HasEnded i s) m ended_seat g.seats x (λ same now. record { past = now.past; down = λ e. refl }) (laws.ended x i gone)
ended_stays g _ (Starts _ m may) laws = λ x i gone. moved (λ (s : Seat). HasEnded i s) m next_seat g.seats x (λ same now. ended_next i (g.seats m) now) (laws.ended x i gone)
ended_stays g _ (Resolves _ m i may) laws = λ x j gone. laws.ended x j (failed_before g m i x j gone)
ended_stays g _ _ laws = laws.ended
