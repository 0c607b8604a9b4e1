-- what a text says as a number lies in its range, and so do members, structures and tasks of a number
use Rattle.std.proofs.Common.{◌≡◌, ℕ, zero, suc, ◌<◌, ◌≤◌, Bool, true, false, cond, List, Option, Some, None, refl, arith}
use Rattle.std.specs.Prelude.{nat_le, unwrap_or}
use Rattle.std.specs.Option.{ForSome}
use Rattle.std.proofs.lemmas.Bool.Decides.{nat_tests}
use Rattle.mqsc_values.specs.declared.numbers.Number.{Number}
use Rattle.mqsc_values.specs.declared.numbers.Number.TheVariants.{Value, TooLarge, Bad}
use Rattle.mqsc_values.specs.Numbers.{is_number, value_of, number_of}
use Rattle.mqsc_define.specs.Definitions.{number_or, count_or}
use Rattle.mqsc_define.specs.Values.{is_at_least}
use Rattle.qsg_num.specs.declared.seats.Member.{Member}
use Rattle.qsg_num.specs.declared.seats.StructNo.{StructNo}
use Rattle.qsg_num.specs.declared.seats.TaskNo.TheVariants.{System}
use Rattle.qsg_num.specs.Seats.{member_number, member_at, structure_number, structure_at, task_number, task_at}

-- Numbers that texts say.

most-of : (digits fits : Bool) (default most v : ℕ) → default ≤ most → nat_le v most ≡ fits → number_or default (cond digits (cond fits (Value v) TooLarge) Bad) ≤ most
most-of false fits default most v low is = low
most-of true true default most v low is = grind (arith, nat_tests, is)
most-of true false default most v low is = low

pub number-most : (default most : ℕ) (text : List ℕ) → default ≤ most → number_or default (number_of text most) ≤ most
number-most default most text low = most-of (is_number text) (nat_le (value_of text) most) default most (value_of text) low refl

pub number-least : (default least : ℕ) (n : Number) → is_at_least least n ≡ true → least ≤ number_or default n
number-least default least (Value n) is = grind (arith, nat_tests, is)
number-least default least TooLarge is = absurd cc
number-least default least Bad is = absurd cc

pub count-most : (default most : ℕ) (o : Option (List ℕ)) → default ≤ most → count_or default most o ≤ most
count-most default most None low = low
count-most default most (Some text) low = number-most default most text low

pub count-least : (default least most : ℕ) (o : Option (List ℕ)) → least ≤ default → ForSome o (λ text. is_at_least least (number_of text most) ≡ true) → least ≤ count_or default most o
count-least default least most None low right = low
count-least default least most (Some text) low right = number-least default least (number_of text most) (right text refl)

-- What has a number.

some-same : {A : Type 0} (a b : A) → Some a ≡ Some b → a ≡ b
some-same a b e = cc

none-some : {A : Type 0} (P : Type 0) (b : A) → None ≡ Some b → P
none-some P b e = cc

pub member-at : (k : ℕ) (m : Member) → member_at k ≡ Some m → member_number m ≡ k
member-at zero m e = none-some _ m e
member-at (suc zero) m e = rw (← some-same _ m e) refl
member-at (suc (suc zero)) m e = rw (← some-same _ m e) refl
member-at (suc (suc (suc zero))) m e = rw (← some-same _ m e) refl
member-at (suc (suc (suc (suc zero)))) m e = rw (← some-same _ m e) refl
member-at (suc (suc (suc (suc (suc zero))))) m e = rw (← some-same _ m e) refl
member-at (suc (suc (suc (suc (suc (suc zero)))))) m e = rw (← some-same _ m e) refl
member-at (suc (suc (suc (suc (suc (suc (suc zero))))))) m e = rw (← some-same _ m e) refl
member-at (suc (suc (suc (suc (suc (suc (suc (suc zero)))))))) m e = rw (← some-same _ m e) refl
member-at (suc (suc (suc (suc (suc (suc (suc (suc (suc k))))))))) m e = none-some _ m e

pub structure-at : (k : ℕ) (s : StructNo) → structure_at k ≡ Some s → structure_number s ≡ k
structure-at zero s e = none-some _ s e
structure-at (suc zero) s e = rw (← some-same _ s e) refl
structure-at (suc (suc zero)) s e = rw (← some-same _ s e) refl
structure-at (suc (suc (suc zero))) s e = rw (← some-same _ s e) refl
structure-at (suc (suc (suc (suc zero)))) s e = rw (← some-same _ s e) refl
structure-at (suc (suc (suc (suc (suc k))))) s e = none-some _ s e

-- the task of a number of 1 to 4 isn't the system task
pub task-at : (k : ℕ) → 1 ≤ k → k ≤ 4 → 0 < task_number (unwrap_or (task_at k) System)
task-at zero low high = absurd (omega (arith, low))
task-at (suc zero) low high = omega arith
task-at (suc (suc zero)) low high = omega arith
task-at (suc (suc (suc zero))) low high = omega arith
task-at (suc (suc (suc (suc zero)))) low high = omega arith
task-at (suc (suc (suc (suc (suc k))))) low high = absurd (omega (arith, high))
