-- The lines of a statement, and those behind them.
use Rattle.std.proofs.Common.{◌≡◌, ℕ, zero, suc, ◌+◌, false, cond, List, [], ◌∷◌, ◌++◌, take, drop, Option, Some, None, refl, ap, ◌∙◌, arith}
use Rattle.qsg_lines.specs.declared.items.Item.{Item}
use Rattle.qsg_lines.specs.Lines.{is_comment, sign_of}
use Rattle.qsg_lines.specs.Items.{taken, comment_at, statement_of, before, comments_from, items_from}

before_append : (o : Option Item) (xs ys : List Item) → before o (xs ++ ys) ≡ before o xs ++ ys
before_append None xs ys = refl
before_append (Some x) xs ys = refl

-- lines of a statement that has begun give the items of their comments
within_is_comments : (n k : ℕ) (lines : List (List ℕ)) → items_from n k lines ≡ comments_from n (take k lines) ++ items_from (n + k) 0 (drop k lines)
within_is_comments n zero lines = ap (λ (m : ℕ). items_from m 0 lines) (let e : n ≡ n + 0 = omega arith in e)
within_is_comments n (suc k) [] = refl
within_is_comments n (suc k) (line ∷ lines) =
    let here : Option Item = cond (is_comment line) (comment_at n line) None in
    let r = within_is_comments (n + 1) k lines in
    let e : n + 1 + k ≡ n + suc k = omega arith in
    ap (before here) (r ∙ ap (λ (m : ℕ). comments_from (n + 1) (take k lines) ++ items_from m 0 (drop k lines)) e)
    ∙ before_append here (comments_from (n + 1) (take k lines)) (items_from (n + suc k) 0 (drop k lines))

pub apart : (n : ℕ) (line : List ℕ) (lines : List (List ℕ)) → is_comment line ≡ false
    → items_from n 0 (line ∷ lines) ≡ before (statement_of n line lines)
    (comments_from (n + 1) (take (taken (sign_of line) lines).lines lines) ++ items_from (n + 1 + (taken (sign_of line) lines).lines) 0 (drop (taken (sign_of line) lines).lines lines))
apart n line lines h = rw h (ap (before (statement_of n line lines)) (within_is_comments (n + 1) (taken (sign_of line) lines).lines lines))
