-- when the number of steps that are left falls
use Rattle.std.proofs.Common.{◌≡◌, ℕ, ◌+◌, ◌*◌, ◌<◌, ◌≤◌, sym, ap, subst, arith}
use Rattle.std.proofs.Math.Nat.{add-mul, mul-add, mul-le-mul_right}
use Rattle.qsg_step.specs.States.{State}
use Rattle.qsg_pace.specs.Pace.{whole, most_added, events_left, work_left, left}

-- so many events fewer are left, and less than what they add is added
fewer_events : (d e f c old new : ℕ) → f + d ≤ e → new < old + d * c → f * c + new < e * c + old
fewer_events d e f c old new less paid =
    let more : (f + d) * c ≤ e * c = mul-le-mul_right c less in
    let apart : (f + d) * c ≡ f * c + d * c = add-mul f d c in
    omega (arith, more, apart, paid)

as_few_events : (e f c old new : ℕ) → f ≤ e → new ≤ old → f * c + new ≤ e * c + old
as_few_events e f c old new less paid =
    let more : f * c ≤ e * c = mul-le-mul_right c less in
    omega (arith, more, paid)

pub goes_down : (s r : State) (d : ℕ) → r.parts.repo.starts ≡ s.parts.repo.starts → events_left r + d ≤ events_left s → work_left r < work_left s + d * most_added s.parts.repo → left r < left s
goes_down s r d starts events work =
    subst (λ (n : ℕ). events_left r * (whole * (n + 9)) + work_left r < left s) (sym starts)
    (fewer_events d (events_left s) (events_left r) (most_added s.parts.repo) (work_left s) (work_left r) events work)

-- no event came
pub works_down : (s r : State) → r.parts.repo.starts ≡ s.parts.repo.starts → events_left r ≤ events_left s → work_left r < work_left s → left r < left s
works_down s r starts events work = goes_down s r 0 starts (omega (arith, events)) (omega (arith, work))

pub stays_down : (s r : State) → r.parts.repo.starts ≡ s.parts.repo.starts → events_left r ≤ events_left s → work_left r ≤ work_left s → left r ≤ left s
stays_down s r starts events work =
    subst (λ (n : ℕ). events_left r * (whole * (n + 9)) + work_left r ≤ left s) (sym starts)
    (as_few_events (events_left s) (events_left r) (most_added s.parts.repo) (work_left s) (work_left r) events work)

-- what events pay for: a work for each incarnation that the repository can give, and nine for each event
pub pays : (d starts : ℕ) → 1 ≤ d → whole * starts + d * (9 * whole) ≤ d * (whole * (starts + 9))
pays d starts some =
    let apart : d * (whole * starts + 9 * whole) ≡ d * (whole * starts) + d * (9 * whole) = mul-add d (whole * starts) (9 * whole) in
    let once : 1 * (whole * starts) ≤ d * (whole * starts) = mul-le-mul_right (whole * starts) some in
    let is : whole * starts + 9 * whole ≡ whole * (starts + 9) = omega arith in
    let same : d * (whole * starts + 9 * whole) ≡ d * (whole * (starts + 9)) = ap (λ (n : ℕ). d * n) is in
    omega (arith, apart, once, same)
