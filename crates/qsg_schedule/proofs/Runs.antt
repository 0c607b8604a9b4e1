-- the picks of a schedule, one after the other
use Rattle.std.proofs.Common.{◌≡◌, ℕ, zero, suc, ◌+◌, ◌-◌, ◌<◌, ◌≤◌, ◌%◌, List, [], ◌∷◌, ◌++◌, length, slice_index_or, refl, ap, sym, ◌∙◌, arith}
use Rattle.std.proofs.Math.Nat.{mod-eq_of_lt, mod-add-mod, mod-lt}
use Rattle.qsg_num.specs.declared.ids.Actor.{Actor}
use Rattle.qsg_num.specs.declared.ids.Actor.TheVariants.{Operator}
use Rattle.qsg_schedule.specs.declared.chooser.Pick.TheVariants.{Exactly, Round}
use Rattle.qsg_schedule.specs.Course.{listed, due, pick_at, pick_of, rest_of, turns_of, times, actor_number}
use Rattle.qsg_schedule.proofs.Dues.{due-spent, due-left}

-- one more turn of a line that has one left
one-turn : (a : Actor) (n : ℕ) (more : List Actor) → 0 < n → times n a ++ more ≡ a ∷ (times (n - 1) a ++ more)
one-turn a zero more some = absurd (omega arith)
one-turn a (suc n) more some = let e : suc n - 1 ≡ n = omega arith in rw e refl

-- what is due, and whose turns it is
due-cases : (list : List (Actor × ℕ)) (P : List (Actor × ℕ) → Type 0) → (turns_of list ≡ [] → P []) → ((line : Actor × ℕ) (lines : List (Actor × ℕ)) → turns_of list ≡ line.0 ∷ turns_of ((line.0, line.1 - 1) ∷ lines) → P (line ∷ lines)) → P (due list)
due-cases [] P none some = none refl
due-cases (x ∷ xs) P none some = by x.1 refl (due-cases xs P)
  where
    by : (n : ℕ) → x.1 ≡ n → ((turns_of xs ≡ [] → P []) → ((line : Actor × ℕ) (lines : List (Actor × ℕ)) → turns_of xs ≡ line.0 ∷ turns_of ((line.0, line.1 - 1) ∷ lines) → P (line ∷ lines)) → P (due xs)) → P (due (x ∷ xs))
    by zero e later = rw (due-spent x xs e) (later (λ t. none (rw e t)) (λ line lines t. some line lines (rw e t)))
    by (suc n) e later = let left : 0 < x.1 = omega arith in rw (due-left x xs left) (some x xs (one-turn x.0 x.1 (turns_of xs) left))

pub line-picks : (k : ℕ) (list : List (Actor × ℕ)) (actors : List Actor) (round : ℕ) → k < length (turns_of list) → pick_at (listed list actors round) k ≡ Exactly (slice_index_or (turns_of list) k Operator)
line-picks zero list actors round lt = due-cases list (λ d. pick_of d actors round ≡ Exactly (slice_index_or (turns_of list) 0 Operator)) (λ e. let h = ap length e in absurd (omega (arith, h, lt))) (λ line lines e. rw e refl)
line-picks (suc k) list actors round lt = due-cases list (λ d. pick_at (rest_of d actors round) k ≡ Exactly (slice_index_or (turns_of list) (suc k) Operator)) (λ e. let h = ap length e in absurd (omega (arith, h, lt))) (λ line lines e. rw e (line-picks k ((line.0, line.1 - 1) ∷ lines) actors round (let h = ap length e in omega (arith, h, lt))))

pub round-picks : (k : ℕ) (list : List (Actor × ℕ)) (actors : List Actor) (round : ℕ) → length (turns_of list) ≤ k → round < length actors → pick_at (listed list actors round) k ≡ Round (actor_number actors ((round + (k - length (turns_of list))) % length actors))
round-picks zero list actors round le lt =
    due-cases list (λ d. pick_of d actors round ≡ Round (actor_number actors ((round + (0 - length (turns_of list))) % length actors)))
    (λ e. let same : round + (0 - length (turns_of list)) ≡ round = omega arith in ap (λ i. Round (actor_number actors i)) (sym (ap (λ x. x % length actors) same ∙ mod-eq_of_lt lt)))
    (λ line lines e. let h = ap length e in absurd (omega (arith, h, le)))
round-picks (suc k) list actors round le lt =
    due-cases list (λ d. pick_at (rest_of d actors round) k ≡ Round (actor_number actors ((round + (suc k - length (turns_of list))) % length actors)))
    (λ e. let h = ap length e in
    let same : round + 1 + (k - 0) ≡ round + (suc k - length (turns_of list)) = omega (arith, h) in
    round-picks k [] actors ((round + 1) % length actors) (omega arith) (mod-lt (round + 1) (omega (arith, lt)))
    ∙ ap (λ i. Round (actor_number actors i)) (mod-add-mod (round + 1) (length actors) (k - 0) ∙ ap (λ x. x % length actors) same))
    (λ line lines e. let h = ap length e in
    let same : round + (k - length (turns_of ((line.0, line.1 - 1) ∷ lines))) ≡ round + (suc k - length (turns_of list)) = omega (arith, h) in
    round-picks k ((line.0, line.1 - 1) ∷ lines) actors round (omega (arith, h, le)) lt
    ∙ ap (λ x. Round (actor_number actors (x % length actors))) same)
