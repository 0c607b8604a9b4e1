-- every run ends
use Rattle.std.proofs.Common.{◌≡◌, ℕ, ◌+◌, ◌-◌, ◌*◌, ◌<◌, ◌≤◌, inl, inr, Bool, true, false, ◌==◌, cond, List, [], ◌∷◌, refl, arith}
use Rattle.std.specs.Prelude.{sum_by}
use Rattle.std.proofs.lemmas.List.Sums.{sum_by-cons}
use Rattle.std.proofs.lemmas.Bool.Decides.{nat_tests}
use Rattle.std.proofs.Math.Nat.{add-mul, mul-le-mul_right}
use Rattle.qsg_num.specs.declared.ids.Actor.{Actor}
use Rattle.qsg_schedule.specs.Course.{Course, listed, seeded, due, pick, rest, pick_of, rest_of}
use Rattle.qsg_drive.specs.Quiet.{turns_left}
use Rattle.qsg_drive.specs.Turns.{IsTurnPace}

abbrev count : Actor × ℕ → ℕ
count line = line.1

-- how far a run has still to go: turns and steps that may come, and rounds that may yet be quiet
abbrev pub way : ℕ → ℕ → ℕ → ℕ
way members steps quiet = steps * (members + 1) + (members - quiet)

fewer_steps : (n a b q p : ℕ) → b < a → way n b p < way n a q
fewer_steps n a b q p less =
    let more : (b + 1) * (n + 1) ≤ a * (n + 1) = mul-le-mul_right (n + 1) (omega (arith, less)) in
    let apart : (b + 1) * (n + 1) ≡ b * (n + 1) + 1 * (n + 1) = add-mul b 1 (n + 1) in
    omega (arith, more, apart)

more_quiet : (n a b q p : ℕ) → b ≡ a → q < n → q < p → way n b p < way n a q
more_quiet n a b q p same less more = rw same (omega (arith, less, more))

due_sum : (turns : List (Actor × ℕ)) → sum_by count (due turns) ≡ sum_by count turns
due_sum [] = refl
due_sum (line ∷ lines) = by (due_sum lines) (line.1 == 0) refl
  where
    by : sum_by count (due lines) ≡ sum_by count lines → (b : Bool) → (line.1 == 0) ≡ b → sum_by count (cond b (due lines) (line ∷ lines)) ≡ sum_by count (line ∷ lines)
    by more true none = let zero_count : line.1 ≡ 0 = grind (arith, nat_tests) in omega (arith, more, zero_count, sum_by-cons count line lines)
    by more false some = refl

-- the first line that is due has a turn left
abbrev HasTurn : List (Actor × ℕ) → Type 0
HasTurn [] = Unit {0}
HasTurn (line ∷ lines) = 0 < line.1

due_some : (turns : List (Actor × ℕ)) → HasTurn (due turns)
due_some [] = tt
due_some (line ∷ lines) = by (due_some lines) (line.1 == 0) refl
  where
    by : HasTurn (due lines) → (b : Bool) → (line.1 == 0) ≡ b → HasTurn (cond b (due lines) (line ∷ lines))
    by more true none = more
    by more false some = grind (arith, nat_tests)

pace_listed : (n : ℕ) (lines : List (Actor × ℕ)) (all : List Actor) (round quiet before after now total : ℕ) → quiet < n → sum_by count lines ≡ total → HasTurn lines
    → IsTurnPace (pick_of lines all round) quiet before after now
    → way n (turns_left (rest_of lines all round) + now) after < way n (total + before) quiet
pace_listed n [] all round quiet before after now total less same some (inl h) =
    let none : sum_by count [] ≡ 0 = refl in fewer_steps n (total + before) (0 + now) quiet after (omega (arith, h, same, none))
pace_listed n [] all round quiet before after now total less same some (inr h) =
    let none : sum_by count [] ≡ 0 = refl in more_quiet n (total + before) (0 + now) quiet after (omega (arith, h.0, same, none)) less h.1
pace_listed n (line ∷ lines) all round quiet before after now total less same some h =
    let first = sum_by-cons count line lines in
    let then = sum_by-cons count (line.0, line.1 - 1) lines in
    fewer_steps n (total + before) (sum_by count ((line.0, line.1 - 1) ∷ lines) + now) quiet after (omega (arith, h, same, some, first, then))

-- each turn shortens the way
pub pace_after : (n : ℕ) (c : Course) (quiet before after now : ℕ) → quiet < n → IsTurnPace (pick c) quiet before after now
    → way n (turns_left (rest c) + now) after < way n (turns_left c + before) quiet
pace_after n (listed turns all round) quiet before after now less h =
    pace_listed n (due turns) all round quiet before after now (sum_by count turns) less (due_sum turns) (due_some turns) h
pace_after n (seeded k all) quiet before after now less (inl h) = fewer_steps n (0 + before) (0 + now) quiet after (omega (arith, h))
pace_after n (seeded k all) quiet before after now less (inr h) = more_quiet n (0 + before) (0 + now) quiet after (omega (arith, h.0)) less h.1
