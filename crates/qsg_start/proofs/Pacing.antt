-- each step that doesn't end a START lowers what is left of it
use Rattle.std.proofs.Common.{◌≡◌, inl, inr, ℕ, ◌+◌, ◌<◌, ◌≤◌, Bool, true, false, List, Option, Some, None, Ok, refl, sym, ap, subst, arith}
use Rattle.std.specs.Prelude.{◌==◌, if◌then◌else◌}
use Rattle.qsg_manager.specs.Storage.{manager_in}
use Rattle.qsg_logs.specs.Kept.{log_in}
use Rattle.qsg_parts.specs.Owned.{Owned}
use Rattle.qsg_walk.specs.Walks.{Walk, after_read}
use Rattle.qsg_start.specs.declared.phases.StartTurn.{StartTurn}
use Rattle.qsg_start.specs.declared.phases.StartTurn.TheVariants.{More}
use Rattle.qsg_start.specs.declared.phases.Phase.{Phase}
use Rattle.qsg_start.specs.declared.phases.Phase.TheVariants.{Check, Low, Read, Begin}
use Rattle.qsg_start.specs.Works.{Work, IsSound}
use Rattle.qsg_start.specs.Steps.{Next, checked, after_low, after_begin, first_walk, walking, Reads, Acts, GoesOn, NextAt, NextStart}
use Rattle.qsg_start.specs.Pace.{left_at, left_of_start, longest_start}
use Rattle.qsg_start.proofs.Following.{fed_leaves, goes_at}

most_at : (phase : Phase) (walk : Walk) → IsSound phase walk → left_at phase walk ≤ longest_start
most_at Check walk sound = omega arith
most_at Low walk sound = omega arith
most_at Read walk sound = omega (arith, sound.few)
most_at (Begin page) walk sound = omega arith

pub most : (w : Work) → IsSound w.phase w.walk → left_of_start w ≤ longest_start
most w sound = most_at w.phase w.walk sound

-- a walk that goes on, or has ended
left_walking : (walk : Walk) → left_at (walking walk) walk ≤ walk.left + 1
left_walking walk = by (walk.left == 0)
  where
    by : (ended : Bool) → left_at (if ended then Begin (record { number = walk.next }) else Read) walk ≤ walk.left + 1
    by true = omega arith
    by false = omega arith

left_after : (found : Option (List ℕ)) (walk : Walk) → 0 < walk.left → left_at (walking (after_read found walk)) (after_read found walk) < walk.left + 1
left_after None walk goes = let most = left_walking (after_read None walk) in omega (arith, most, goes)
left_after (Some body) walk goes = let most = left_walking (after_read (Some body) walk) in omega (arith, most, goes)

-- the work after a step that made this
work_is : (next : Next) (turn : StartTurn) (v : Work) (q : Owned) → record { turn = turn; work = v; parts = q } ≡ next → v ≡ next.work
work_is next turn v q is = ap (λ (n : Next). n.work) is

turn_is : (next : Next) (turn : StartTurn) (v : Work) (q : Owned) → record { turn = turn; work = v; parts = q } ≡ next → turn ≡ next.turn
turn_is next turn v q is = ap (λ (n : Next). n.turn) is

checked_lowers : (up : Bool) (w : Work) (p : Owned) (v : Work) (q : Owned) → record { turn = More; work = v; parts = q } ≡ checked up w p → left_of_start v < longest_start
checked_lowers true w p v q is = absurd (cc (turn_is (checked true w p) More v q is))
checked_lowers false w p v q is = let same = ap left_of_start (work_is (checked false w p) More v q is) in omega (arith, same)

low_lowers : (w : Work) (p : Owned) (v : Work) (q : Owned) → (log_in w.member p.logs).writer.size < 1048576 → record { turn = More; work = v; parts = q } ≡ after_low w p → left_of_start v < 1048577
low_lowers w p v q small is =
    let same = ap left_of_start (work_is (after_low w p) More v q is) in
    let most = left_walking (first_walk w.member p) in
    omega (arith, same, most, small)

reads_lower : (w : Work) (p : Owned) (v : Work) (q : Owned) → 0 < w.walk.left → Reads w p More v q → left_of_start v < w.walk.left + 1
reads_lower w p v q goes (has, inl failed) = absurd (cc failed.turn_is)
reads_lower w p v q goes (has, inr found) =
    let same = ap left_of_start found.work_is in
    let less = left_after found.found w.walk goes in
    omega (arith, same, less)

act_lowers : (phase : Phase) (w : Work) (p : Owned) (v : Work) (q : Owned) → (phase ≡ Read → 0 < w.walk.left) → (log_in w.member p.logs).writer.size < 1048576 → Acts phase w p (Ok More) v q → left_of_start v < left_at phase w.walk
act_lowers Check w p v q goes small acts = checked_lowers (manager_in w.member p.managers).up w p v q acts
act_lowers Low w p v q goes small acts = low_lowers w p v q small acts
act_lowers Read w p v q goes small acts = reads_lower w p v q (goes refl) acts
act_lowers (Begin page) w p v q goes small acts = absurd (cc (turn_is (after_begin page w p) More v q acts))

left_same : (phase : Phase) (old new : Walk) → new.left ≡ old.left → left_at phase new ≡ left_at phase old
left_same Check old new is = refl
left_same Low old new is = refl
left_same Read old new is = ap (λ (n : ℕ). n + 1) is
left_same (Begin page) old new is = refl

on_lowers : (w : Work) (p : Owned) (v : Work) (q : Owned) → (w.phase ≡ Read → 0 < w.walk.left) → (log_in w.member p.logs).writer.size < 1048576 → GoesOn w p (Ok More) v q → left_of_start v < left_of_start w
on_lowers w p v q goes small (inl given) = absurd (cc given.turn_is)
on_lowers w p v q goes small (inr (inl lacks)) = absurd (cc lacks.refused)
on_lowers w p v q goes small (inr (inr acted)) =
    let leaves = fed_leaves w.walk.kept w.walk acted.walk acted.records refl acted.fed in
    let less = act_lowers w.phase (record w { walk = acted.walk }) p v q (λ at. let more = goes at in omega (arith, leaves.1, more)) small acted.acts in
    let same = left_same w.phase w.walk acted.walk leaves.1 in
    omega (arith, less, same)

lowers_at : (phase : Phase) (w : Work) (p : Owned) (v : Work) (q : Owned) → w.phase ≡ phase → (w.phase ≡ Read → 0 < w.walk.left) → (log_in w.member p.logs).writer.size < 1048576 → NextAt phase w p (Ok More) v q → left_of_start v < left_of_start w
lowers_at Check w p v q is goes small next = subst (λ (x : Phase). left_of_start v < left_at x w.walk) (sym is) (act_lowers Check w p v q (λ at. absurd (cc at)) small next)
lowers_at Low w p v q is goes small next = subst (λ (x : Phase). left_of_start v < left_at x w.walk) (sym is) (act_lowers Low w p v q (λ at. absurd (cc at)) small next)
lowers_at Read w p v q is goes small next = on_lowers w p v q goes small next
lowers_at (Begin page) w p v q is goes small next = on_lowers w p v q goes small next

pub lowers : (w : Work) (p : Owned) (v : Work) (q : Owned) → IsSound w.phase w.walk → (log_in w.member p.logs).writer.size < 1048576 → NextStart w p (Ok More) v q → left_of_start v < left_of_start w
lowers w p v q sound small next = lowers_at w.phase w p v q refl (goes_at w.phase w sound) small next
