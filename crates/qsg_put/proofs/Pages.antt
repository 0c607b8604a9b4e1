-- pages that a record more takes
use Rattle.std.proofs.Common.{◌≡◌, ℕ, zero, suc, ◌+◌, ◌-◌, ◌<◌, ◌≤◌, Option, Some, None, sym, ap, subst, arith, inl, inr}
use Rattle.std.proofs.lemmas.Bool.{cases_lt}
use Rattle.qsg_num.specs.declared.seats.TaskNo.{TaskNo}
use Rattle.qsg_num.specs.declared.ids.UnitName.{UnitName}
use Rattle.qsg_logneed.specs.declared.counting.Filling.{Filling}
use Rattle.qsg_logneed.specs.Filled.{with_record}
use Rattle.qsg_logneed.proofs.Places.{fits_is, over_is, none_is}
use Rattle.qsg_logpage.specs.Reserved.{pages_for}
use Rattle.qsg_logs.specs.Kept.{KeptLog, filling_of, with_commit, need_of}

pages_of : Filling → ℕ
pages_of f = f.pages

-- a record that doesn't fit behind the last piece takes a page
takes_a_page : (f : Filling) (bytes : ℕ) → f.left - 3 < bytes → f.pages + 1 ≤ (with_record f bytes).pages
takes_a_page f bytes over = let after = over_is f bytes over in omega (arith, after.total, over)

-- a record never lowers the pages
at_least : (f : Filling) (bytes : ℕ) → f.pages ≤ (with_record f bytes).pages
at_least f zero = omega (arith, ap (λ (x : Filling). x.pages) (none_is f))
at_least f (suc bytes) = elim (cases_lt (f.left - 3) (suc bytes)) [
  | inl over ↦ omega (arith, takes_a_page f (suc bytes) over)
  | inr fits ↦ omega (arith, ap (λ (x : Filling). x.pages) (fits_is f (suc bytes) (omega arith) fits))
]

-- the record of a commit takes at most a page
one_at_most : (f : Filling) → f.left - 3 < 11 → (with_record f 11).pages ≤ f.pages + 1
one_at_most f over = let after = over_is f 11 over in omega (arith, after.total, after.few_left)

-- nor does a commit need fewer pages behind a record more
commit_behind : (f : Filling) (bytes : ℕ) → with_commit f ≤ with_commit (with_record f bytes)
commit_behind f zero = omega (arith, ap with_commit (none_is f))
commit_behind f (suc bytes) = elim (cases_lt (f.left - 3) 11) [
  | inr fits ↦ omega (arith, ap (λ (x : Filling). x.pages) (fits_is f 11 (omega arith) fits), at_least f (suc bytes), at_least (with_record f (suc bytes)) 11)
  | inl over ↦ elim (cases_lt (f.left - 3) (suc bytes)) [
    | inl over_too ↦ omega (arith, one_at_most f over, takes_a_page f (suc bytes) over_too, at_least (with_record f (suc bytes)) 11)
    | inr fits ↦
        let is = fits_is f (suc bytes) (omega arith) fits in
        let g : Filling = record { pages = f.pages; left = f.left - 3 - suc bytes } in
        omega (arith, one_at_most f over, takes_a_page g 11 (omega (arith, over)), ap with_commit is)
  ]
]

-- a unit doesn't need fewer pages for an operation more
pub need_without : (t : TaskNo) (logged : Option ℕ) (log : KeptLog) → need_of t None log ≤ need_of t logged log
need_without t None log = omega arith
need_without t (Some bytes) log = commit_behind (filling_of t log) bytes

-- the same where the log is as it was
pub less_after : (t : TaskNo) (logged : Option ℕ) (u : UnitName) (old new : KeptLog) → new ≡ old → need_of t logged old ≤ pages_for u old.writer.reserved
    → need_of t None new ≤ pages_for u new.writer.reserved
less_after t logged u old new same reserved =
    subst (λ (log : KeptLog). need_of t None log ≤ pages_for u log.writer.reserved) (sym same) (omega (arith, need_without t logged old, reserved))

pub fits_after : (t : TaskNo) (logged told : Option ℕ) (u : UnitName) (old new : KeptLog) → new ≡ old → told ≡ logged → need_of t logged old ≤ pages_for u old.writer.reserved → pages_for u new.writer.reserved ≤ new.writer.size
    → need_of t told new ≤ new.writer.size
fits_after t logged told u old new same is reserved fits =
    subst (λ (x : Option ℕ). need_of t x new ≤ new.writer.size) (sym is)
    (omega (arith, subst (λ (log : KeptLog). need_of t logged log ≤ pages_for u log.writer.reserved) (sym same) reserved, fits))
