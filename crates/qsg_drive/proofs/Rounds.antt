-- one turn of a run
use Rattle.std.proofs.Common.{◌≡◌, ℕ, ◌+◌, ◌%◌, ◌<◌, ◌≤◌, ◌⊎◌, inl, inr, List, [], ◌∷◌, ◌++◌, length, take, drop, zero, suc, refl, sym, subst, arith}
use Rattle.std.proofs.lemmas.List.{take-append-drop}
use Rattle.std.proofs.Math.Nat.{mod-eq_of_lt, mod_self}
use Rattle.std.proofs.lemmas.Nat.{mod_below}
use Rattle.qsg_num.specs.declared.ids.Actor.{Actor}
use Rattle.qsg_schedule.specs.Course.{Course, listed, seeded, due, pick, rest, pick_of, rest_of, actor_number, draw, drawn}
use Rattle.qsg_step.specs.States.{State}
use Rattle.qsg_drive.specs.Quiet.{IsBehind, IsQuiet}
use Rattle.qsg_drive.specs.Runs.{IsStill, AreStill, IsNewCourse, place_of, round_from}
use Rattle.qsg_drive.specs.Turns.{IsTurn}
use Rattle.qsg_drive.proofs.Trying.{both_still}

-- ---- still actors by their places

still_front : (xs ys : List Actor) (s : State) → AreStill (xs ++ ys) s → AreStill xs s
still_front [] ys s h = tt
still_front (x ∷ xs) ys s h = (h.0, still_front xs ys s h.1)

still_back : (xs ys : List Actor) (s : State) → AreStill (xs ++ ys) s → AreStill ys s
still_back [] ys s h = h
still_back (x ∷ xs) ys s h = still_back xs ys s h.1

-- those from one on, round to the front, are all
pub still_around : (who : Actor) (actors : List Actor) (s : State) → AreStill (round_from who actors) s → AreStill actors s
still_around who actors s h =
    let p = place_of who actors in
    let all = both_still (take p actors) (drop p actors) s (still_back (drop p actors) (take p actors) s h) (still_front (drop p actors) (take p actors) s h) in
    subst (λ (l : List Actor). AreStill l s) (take-append-drop p actors) all

pub still_at : (actors : List Actor) (s : State) → AreStill actors s → (at : ℕ) → at < length actors → IsStill (actor_number actors at) s
still_at [] s h at lt = absurd (omega arith)
still_at (x ∷ xs) s h zero lt = h.0
still_at (x ∷ xs) s h (suc at) lt = still_at xs s h.1 at (omega arith)

pub all_still : (actors : List Actor) (s : State) → ((at : ℕ) → at < length actors → IsStill (actor_number actors at) s) → AreStill actors s
all_still [] s h = tt
all_still (x ∷ xs) s h = (h 0 (omega arith), all_still xs s (λ at lt. h (suc at) (omega arith)))

-- ---- places behind a round

none_behind : (n round at : ℕ) → at < n → IsBehind n round 0 at → ⊥
none_behind n round at lt (inl h) = omega (arith, h.0, h.1)
none_behind n round at lt (inr h) = omega (arith, h.0, h.1)

pub less_or_same : (k n : ℕ) → k ≤ n → (k < n) ⊎ (k ≡ n)
less_or_same zero zero le = inr refl
less_or_same zero (suc n) le = inl (omega arith)
less_or_same (suc k) zero le = absurd (omega arith)
less_or_same (suc k) (suc n) le = up (less_or_same k n (omega arith))
  where
    up : (k < n) ⊎ (k ≡ n) → (suc k < suc n) ⊎ (suc k ≡ suc n)
    up (inl less) = inl (omega arith)
    up (inr same) = inr (omega arith)

either_way : (k n : ℕ) → (k < n) ⊎ (n ≤ k)
either_way k zero = inr (omega arith)
either_way zero (suc n) = inl (omega arith)
either_way (suc k) (suc n) = up (either_way k n)
  where
    up : (k < n) ⊎ (n ≤ k) → (suc k < suc n) ⊎ (suc n ≤ suc k)
    up (inl less) = inl (omega arith)
    up (inr more) = inr (omega arith)

next_round : (n round : ℕ) → round < n → ((round + 1 < n) × ((round + 1) % n ≡ round + 1)) ⊎ ((round + 1 ≡ n) × ((round + 1) % n ≡ 0))
next_round n round lt = by (less_or_same (round + 1) n (omega arith))
  where
    by : (round + 1 < n) ⊎ (round + 1 ≡ n) → ((round + 1 < n) × ((round + 1) % n ≡ round + 1)) ⊎ ((round + 1 ≡ n) × ((round + 1) % n ≡ 0))
    by (inl less) = inl (less, mod-eq_of_lt less)
    by (inr same) = inr (same, subst (λ (m : ℕ). (round + 1) % m ≡ 0) same (mod_self (round + 1)))

-- one quiet round more
behind_more : (n round quiet at : ℕ) → round < n → at < n → IsBehind n ((round + 1) % n) (quiet + 1) at → (at ≡ round) ⊎ IsBehind n round quiet at
behind_more n round quiet at lt within b = by (next_round n round lt) b
  where
    earlier : round ≤ at + quiet → (at < round) ⊎ (at ≡ round) → (at ≡ round) ⊎ IsBehind n round quiet at
    earlier near (inl less) = inr (inl (less, near))
    earlier near (inr same) = inl same

    later : (next : ℕ) → next ≡ round + 1 → ((at < next) × (next ≤ at + (quiet + 1))) ⊎ ((next ≤ at) × (next + n ≤ at + (quiet + 1))) → (at ≡ round) ⊎ IsBehind n round quiet at
    later next is (inl h) = earlier (omega (arith, h.1, is)) (less_or_same at round (omega (arith, h.0, is)))
    later next is (inr h) = inr (inr (omega (arith, h.0, is), omega (arith, h.1, is)))

    again : (next : ℕ) → next ≡ 0 → round + 1 ≡ n → ((at < next) × (next ≤ at + (quiet + 1))) ⊎ ((next ≤ at) × (next + n ≤ at + (quiet + 1))) → (at ≡ round) ⊎ IsBehind n round quiet at
    again next is last (inl h) = absurd (omega (arith, h.0, is))
    again next is last (inr h) = earlier (omega (arith, h.1, is, last)) (less_or_same at round (omega (arith, within, last)))

    by : ((round + 1 < n) × ((round + 1) % n ≡ round + 1)) ⊎ ((round + 1 ≡ n) × ((round + 1) % n ≡ 0)) → IsBehind n ((round + 1) % n) (quiet + 1) at → (at ≡ round) ⊎ IsBehind n round quiet at
    by (inl h) b = later ((round + 1) % n) h.1 b
    by (inr h) b = again ((round + 1) % n) h.1 h.0 b

-- ---- the quiet actors after a turn

quiet_listed : (actors : List Actor) (lines : List (Actor × ℕ)) (round quiet : ℕ) (s : State) (after : ℕ) (r : State) → round < length actors
    → ((at : ℕ) → at < length actors → IsBehind (length actors) round quiet at → IsStill (actor_number actors at) s)
    → IsTurn (pick_of lines actors round) actors quiet s after r → IsQuiet actors (rest_of lines actors round) after r
quiet_listed actors [] round quiet s after r lt still (inl h) =
    (refl, mod_below (round + 1) (length actors) (omega arith), λ at within b. absurd (none_behind (length actors) ((round + 1) % length actors) at within (subst (λ (k : ℕ). IsBehind (length actors) ((round + 1) % length actors) k at) h.0 b)))
quiet_listed actors [] round quiet s after r lt still (inr h) =
    (refl, mod_below (round + 1) (length actors) (omega arith), λ at within b. here at within (behind_more (length actors) round quiet at lt within (subst (λ (k : ℕ). IsBehind (length actors) ((round + 1) % length actors) k at) h.counted b)))
  where
    here : (at : ℕ) → at < length actors → (at ≡ round) ⊎ IsBehind (length actors) round quiet at → IsStill (actor_number actors at) r
    here at within (inl same) = subst (λ (x : State). IsStill (actor_number actors at) x) (sym h.same) (subst (λ (k : ℕ). IsStill (actor_number actors k) s) (sym same) h.still)
    here at within (inr b) = subst (λ (x : State). IsStill (actor_number actors at) x) (sym h.same) (still at within b)
quiet_listed actors (line ∷ lines) round quiet s after r lt still h =
    (refl, lt, λ at within b. absurd (none_behind (length actors) round at within (subst (λ (k : ℕ). IsBehind (length actors) round k at) h.0 b)))

pub quiet_after : (actors : List Actor) (c : Course) (quiet : ℕ) (s : State) (after : ℕ) (r : State)
    → IsQuiet actors c quiet s → IsTurn (pick c) actors quiet s after r → IsQuiet actors (rest c) after r
quiet_after actors (listed turns all round) quiet s after r q turn =
    subst (λ (l : List Actor). IsTurn (pick_of (due turns) l round) actors quiet s after r → IsQuiet actors (rest_of (due turns) l round) after r) (sym q.0)
    (quiet_listed actors (due turns) round quiet s after r q.1 q.2) turn
quiet_after actors (seeded n all) quiet s after r q (inl h) = (q.0, λ some. absurd (omega (arith, some, h.0)))
quiet_after actors (seeded n all) quiet s after r q (inr h) =
    (q.0, λ some at within. subst (λ (x : State). IsStill (actor_number actors at) x) (sym h.same) (still_at actors s (still_around (draw (drawn n) all) actors s h.still) at within))

pub quiet_first : (actors : List Actor) (c : Course) (s : State) → 0 < length actors → IsNewCourse actors c → IsQuiet actors c 0 s
quiet_first actors (listed turns all round) s some new = (new.0, subst (λ (k : ℕ). k < length actors) (sym new.1) some, λ at within b. absurd (none_behind (length actors) round at within b))
quiet_first actors (seeded n all) s some new = (new, λ more. absurd (omega (arith, more)))

-- where as many rounds as there are actors are quiet, all actors are still
pub all_quiet : (actors : List Actor) (c : Course) (quiet : ℕ) (s : State) → 0 < length actors → length actors ≤ quiet → IsQuiet actors c quiet s → AreStill actors s
all_quiet actors (listed turns all round) quiet s some full q = all_still actors s (λ at within. q.2 at within (behind at within))
  where
    behind : (at : ℕ) → at < length actors → IsBehind (length actors) round quiet at
    behind at within = by (either_way at round)
      where
        by : (at < round) ⊎ (round ≤ at) → IsBehind (length actors) round quiet at
        by (inl less) = inl (less, omega (arith, q.1, full))
        by (inr more) = inr (more, omega (arith, full, more))
all_quiet actors (seeded n all) quiet s some full q = all_still actors s (q.1 (omega (arith, some, full)))
