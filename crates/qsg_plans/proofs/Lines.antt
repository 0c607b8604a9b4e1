-- a script has at most one item a line, and at most one line a byte
use Rattle.std.proofs.Common.{ℕ, ◌+◌, ◌≤◌, Bool, true, false, cond, ◌==◌, List, [], ◌∷◌, length, Option, Some, None, arith}
use Rattle.std.specs.Prelude.{◌&&◌}
use Rattle.qsg_lines.specs.declared.items.Item.{Item}
use Rattle.qsg_lines.specs.Lines.{begins_with, onto, lines_of}
use Rattle.qsg_lines.specs.Items.{item_at, within_after, before, items_from, script_of}

onto-one : (b : ℕ) (ls : List (List ℕ)) (n : ℕ) → length ls ≤ n → length (onto b ls) ≤ n + 1
onto-one b [] n h = omega arith
onto-one b (l ∷ ls) n h = omega arith

lines-few : (bytes : List ℕ) → length (lines_of bytes) ≤ length bytes
lines-few [] = omega arith
lines-few (b ∷ bs) = by (b == 10) ((b == 13) && begins_with 10 bs) (lines-few bs)
  where
    by : (feed return : Bool) → length (lines_of bs) ≤ length bs → length (cond feed ([] ∷ lines_of bs) (cond return (lines_of bs) (onto b (lines_of bs)))) ≤ length (b ∷ bs)
    by true return h = omega arith
    by false true h = omega arith
    by false false h = let k = onto-one b (lines_of bs) (length bs) h in omega (arith, k)

before-one : (o : Option Item) (items : List Item) (n : ℕ) → length items ≤ n → length (before o items) ≤ n + 1
before-one None items n h = omega arith
before-one (Some item) items n h = omega arith

items-few : (n k : ℕ) (lines : List (List ℕ)) → length (items_from n k lines) ≤ length lines
items-few n k [] = omega arith
items-few n k (line ∷ lines) =
    let rest = items-few (n + 1) (within_after k line lines) lines in
    let all = before-one (item_at n k line lines) (items_from (n + 1) (within_after k line lines) lines) (length lines) rest in
    omega (arith, all)

pub items-below : (bytes : List ℕ) → length (script_of bytes).items ≤ length bytes
items-below bytes = let few = items-few 1 0 (lines_of bytes) in let lines = lines-few bytes in omega (arith, few, lines)
