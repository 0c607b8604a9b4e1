-- five tasks that are ended one by one
use Rattle.std.proofs.Common.{◌≡◌, ◌∷◌, [], List, length, slice_set, arith}
use Rattle.std.specs.Prelude.{replicate}
use Rattle.qsg_group.specs.declared.tasks.Task.{Task}
use Rattle.qsg_group.specs.Group.{idle}

abbrev all_set : List Task → Task → Task → Task → Task → Task → List Task
all_set tasks a b c d e = slice_set (slice_set (slice_set (slice_set (slice_set tasks 0 a) 1 b) 2 c) 3 d) 4 e

pub cleared : (tasks : List Task) (a b c d e : Task) → length tasks ≡ 5 → a ≡ idle → b ≡ idle → c ≡ idle → d ≡ idle → e ≡ idle → all_set tasks a b c d e ≡ replicate 5 idle
cleared (_ ∷ _ ∷ _ ∷ _ ∷ _ ∷ []) a b c d e five is_a is_b is_c is_d is_e = λ i. is_a i ∷ is_b i ∷ is_c i ∷ is_d i ∷ is_e i ∷ []
cleared tasks a b c d e five is_a is_b is_c is_d is_e = absurd (omega (arith, five))
