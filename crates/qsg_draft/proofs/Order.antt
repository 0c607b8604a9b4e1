-- sections stay in order
use Rattle.std.proofs.Common.{◌≡◌, ℕ, ◌+◌, ◌*◌, ◌<◌, ◌≤◌, Bool, true, false, cond, nat_lt, ◌==◌, ◌||◌, List, [], ◌∷◌, ◌++◌, refl, ap, arith}
use Rattle.std.proofs.lemmas.Bool.Decides.{nat_tests}
use Rattle.std.specs.List.{list_any}
use Rattle.qsg_num.specs.declared.seats.Member.{Member}
use Rattle.qsg_num.specs.declared.seats.TaskNo.{TaskNo}
use Rattle.qsg_num.specs.declared.ids.Actor.{Actor}
use Rattle.qsg_num.specs.declared.ids.Actor.TheVariants.{Task, Operator}
use Rattle.qsg_num.specs.Seats.{member_number, task_number}
use Rattle.qsg_num.proofs.Ranges.{member-bounds, task-bounds}
use Rattle.qsg_objects.specs.declared.directives.Directive.{Directive}
use Rattle.qsg_draft.specs.Lookups.{rank_of, is_section}
use Rattle.qsg_draft.specs.Additions.{inserted, extended}
use Rattle.qsg_draft.specs.Plans.{works_of}
use Rattle.qsg_draft.specs.Order.{AreRisingFrom, AreInOrder, IsOperatorLast}

neither : (b c : Bool) → (b || c) ≡ false → (b ≡ false) × (c ≡ false)
neither true c e = absurd (cc)
neither false c e = (refl, e)

apart : (n m : ℕ) → (n == m) ≡ false → n ≡ m → ⊥
apart n m e f = grind (arith, nat_tests)

pub rising-inserted : (n : ℕ) (a : Actor) (ss : List (Actor × List Directive)) → n ≤ rank_of a → AreRisingFrom n ss → list_any (is_section a) ss ≡ false → AreRisingFrom n (inserted a ss)
rising-inserted n a [] low rising new = (low, tt)
rising-inserted n a (s ∷ ss) low rising new =
    let none = neither (is_section a s) (list_any (is_section a) ss) new in
    by (nat_lt (rank_of a) (rank_of s.0)) refl (apart (rank_of s.0) (rank_of a) none.0) (λ above. rising-inserted (rank_of s.0 + 1) a ss above rising.1 none.1)
  where
    by : (b : Bool) → nat_lt (rank_of a) (rank_of s.0) ≡ b → (rank_of s.0 ≡ rank_of a → ⊥) → (rank_of s.0 + 1 ≤ rank_of a → AreRisingFrom (rank_of s.0 + 1) (inserted a ss)) → AreRisingFrom n (cond b ((a, []) ∷ s ∷ ss) (s ∷ inserted a ss))
    by true is other rest = (low, (grind (arith, nat_tests, is), rising.1))
    by false is other rest = (rising.0, rest (grind (arith, nat_tests, is, other)))

pub rising-extended : (n : ℕ) (a : Actor) (d : Directive) (ss : List (Actor × List Directive)) → AreRisingFrom n ss → AreRisingFrom n (extended a d ss)
rising-extended n a d [] rising = rising
rising-extended n a d (s ∷ ss) rising = by (is_section a s) (rising-extended (rank_of s.0 + 1) a d ss rising.1)
  where
    by : (b : Bool) → AreRisingFrom (rank_of s.0 + 1) (extended a d ss) → AreRisingFrom n (cond b ((s.0, s.1 ++ d ∷ []) ∷ ss) (s ∷ extended a d ss))
    by true rest = rising
    by false rest = (rising.0, rest)

-- The operator's rank is above those of all tasks.

task-rank : (m : Member) (t : TaskNo) → member_number m * 5 + task_number t < 45
task-rank m t = let b = member-bounds m in let c = task-bounds t in omega arith

rank-bound : (a : Actor) → rank_of a ≤ 45
rank-bound (Task m t) = let h = task-rank m t in omega (arith, h)
rank-bound Operator = omega arith

is-operator : (a : Actor) → (rank_of a == 45) ≡ true → a ≡ Operator
is-operator (Task m t) e = let h = task-rank m t in absurd (grind (arith, nat_tests, h, e))
is-operator Operator e = refl

rising-last : (n : ℕ) (ss : List (Actor × List Directive)) → n ≤ 45 → AreRisingFrom n ss → list_any (is_section Operator) ss ≡ false → AreRisingFrom n (ss ++ (Operator, []) ∷ [])
rising-last n [] low rising none = (low, tt)
rising-last n (s ∷ ss) low rising none =
    let each = neither (is_section Operator s) (list_any (is_section Operator) ss) none in
    let below : rank_of s.0 + 1 ≤ 45 = below-operator s.0 each.0 in
    (rising.0, rising-last (rank_of s.0 + 1) ss below rising.1 each.1)
  where
    below-operator : (a : Actor) → (rank_of a == 45) ≡ false → rank_of a + 1 ≤ 45
    below-operator a e = let h = rank-bound a in let f = apart (rank_of a) 45 e in grind (arith, h, f)

pub rising-works : (ss : List (Actor × List Directive)) → AreInOrder ss → AreInOrder (works_of ss)
rising-works ss rising = by (list_any (is_section Operator) ss) refl
  where
    by : (b : Bool) → list_any (is_section Operator) ss ≡ b → AreRisingFrom 0 (cond b ss (ss ++ (Operator, []) ∷ []))
    by true is = rising
    by false is = rising-last 0 ss (omega arith) rising is

none-above : (ss : List (Actor × List Directive)) → AreRisingFrom 46 ss → ss ≡ []
none-above [] rising = refl
none-above (s ∷ ss) rising = let h = rank-bound s.0 in absurd (omega (arith, h, rising.0))

last-of : (n : ℕ) (ss : List (Actor × List Directive)) → AreRisingFrom n ss → list_any (is_section Operator) ss ≡ true → IsOperatorLast ss
last-of n [] rising any = absurd (cc)
last-of n (s ∷ ss) rising any = by (is_section Operator s) refl any (last-of (rank_of s.0 + 1) ss rising.1)
  where
    by : (b : Bool) → is_section Operator s ≡ b → (b || list_any (is_section Operator) ss) ≡ true → (list_any (is_section Operator) ss ≡ true → IsOperatorLast ss) → IsOperatorLast (s ∷ ss)
    by true is any rest =
        let e : s.0 ≡ Operator = is-operator s.0 is in
        let nothing : ss ≡ [] = none-above ss (let h = rising.1 in rw (ap rank_of e) at h) in
        record { front = []; directives = s.1; parts = λ i. (e i, s.1) ∷ nothing i }
    by false is any rest =
        let r = rest any in
        record { front = s ∷ r.front; directives = r.directives; parts = ap (λ xs. s ∷ xs) r.parts }

pub operator-last : (ss : List (Actor × List Directive)) → AreInOrder ss → IsOperatorLast (works_of ss)
operator-last ss rising = by (list_any (is_section Operator) ss) refl
  where
    by : (b : Bool) → list_any (is_section Operator) ss ≡ b → IsOperatorLast (cond b ss (ss ++ (Operator, []) ∷ []))
    by true is = last-of 0 ss rising is
    by false is = record { front = ss; directives = []; parts = refl }
