-- devices that are made, one after the other
use Rattle.std.proofs.Common.{◌≡◌, ◌≤◌, ◌<◌, ◌+◌, ℕ, List, [], ◌∷◌, ◌++◌, length, get_or, take, refl, ap, sym, subst, ◌∙◌, arith, Result, Ok, Err}
use Rattle.std.specs.Prelude.{zero, suc, IsErrOf, OnErr}
use Rattle.std.specs.List.{AllByRecursion}
use Rattle.qsg_objects.specs.declared.plans.MemberDef.{MemberDef}
use Rattle.qsg_num.specs.declared.seats.Member.{Member}
use Rattle.qsg_num.specs.declared.seats.StructNo.{StructNo}
use Rattle.qsg_num.specs.Seats.{member_number, structure_number}
use Rattle.qsg_disk.specs.Places.{kind_number}
use Rattle.qsg_disk.specs.declared.kinds.Kind.{Kind}
use Rattle.qsg_disk.specs.declared.kinds.Kind.TheVariants.{Log}
use Rattle.qsg_logs.specs.Kept.{KeptLog}
use Rattle.qsg_datasets.specs.Kept.{KeptSet}
use Rattle.qsg_devices.specs.declared.shapes.Shape.{Shape}
use Rattle.qsg_devices.specs.Logs.{IsNewLog, AreNewLogs}
use Rattle.qsg_devices.specs.DataSets.{IsNewSet, AreNewSets}
use Rattle.qsg_devices.specs.Places.{IsStopped}
use Rattle.qsg_devices.proofs.Returned.{length_more}

pub counted_more : {X : Type 0} (old new : List X) (x : X) (n : ℕ) → new ≡ old ++ x ∷ [] → length old ≡ n → length new ≡ n + 1
counted_more old new x n added count = ap length added ∙ (length_more old x ∙ ap (λ k. k + 1) count)

-- one log more is new
pub log_made : (members : List MemberDef) (i : ℕ) (m : MemberDef) (logs : List KeptLog) (log : KeptLog) → i < length members → m ≡ get_or members i m → AreNewLogs (take i members) logs → IsNewLog m.log_pages log → AreNewLogs (take (suc i) members) (logs ++ log ∷ [])
log_made [] i m logs log within is are new = absurd (omega (arith, within))
log_made (x ∷ xs) zero m [] log within is are new = (subst (λ (z : MemberDef). IsNewLog z.log_pages log) is new, tt)
log_made (x ∷ xs) zero m (l ∷ logs) log within is are new = absurd are
log_made (x ∷ xs) (suc i) m [] log within is are new = absurd are
log_made (x ∷ xs) (suc i) m (l ∷ logs) log within is are new = (are.0, log_made xs i m logs log (omega (arith, within)) is are.1 new)

-- so is one data set more
pub set_made : (shapes : List Shape) (i : ℕ) (d : Shape) (sets : List KeptSet) (set : KeptSet) → i < length shapes → AreNewSets (take i shapes) sets → IsNewSet (get_or shapes i d) set → AreNewSets (take (suc i) shapes) (sets ++ set ∷ [])
set_made [] i d sets set within are new = absurd (omega (arith, within))
set_made (x ∷ xs) zero d [] set within are new = (new, tt)
set_made (x ∷ xs) zero d (y ∷ sets) set within are new = absurd are
set_made (x ∷ xs) (suc i) d [] set within are new = absurd are
set_made (x ∷ xs) (suc i) d (y ∷ sets) set within are new = (are.0, set_made xs i d sets set (omega (arith, within)) are.1 new)

pub all_more : {X : Type 0} (P : X → Type 0) (xs : List X) (x : X) → AllByRecursion P xs → P x → AllByRecursion P (xs ++ x ∷ [])
all_more P [] x each one = (one, tt)
all_more P (y ∷ ys) x each one = (each.0, all_more P ys x each.1 one)

pub sets_as_many : (shapes : List Shape) (sets : List KeptSet) → AreNewSets shapes sets → length sets ≡ length shapes
sets_as_many [] [] new = refl
sets_as_many [] (x ∷ sets) new = absurd new
sets_as_many (s ∷ shapes) [] new = absurd new
sets_as_many (s ∷ shapes) (x ∷ sets) new = ap suc (sets_as_many shapes sets new.1)

-- ---- errors that are handed on

abbrev fault_or : {T E : Type 0} → Result T E → E → E
fault_or (Ok x) other = other
fault_or (Err e) other = e

pub same_err : {T U E : Type 0} (e f : E) → IsErrOf {T = T} {E = E} (Err e) f → IsErrOf {T = U} {E = E} (Err e) f
same_err e f is = ap Err (ap (λ r. fault_or r f) is)

pub carried : {T U E : Type 0} (r : Result T E) (y e f : E) → r ≡ Err y → y ≡ e → IsErrOf r f → IsErrOf {T = U} {E = E} (Err e) f
carried r y e f came same is = ap Err (sym same ∙ ap (λ z. fault_or z f) (sym came ∙ is))

-- what holds after an error
pub on_err : {T E : Type 0} (P : Type 0) (r : Result T E) (e : E) → IsErrOf r e → OnErr r P → P
on_err P (Ok x) e is holds = absurd cc
on_err P (Err f) e is holds = holds

-- ---- where the rig failed

-- at the log of a member
pub log_stopped : (structures : ℕ) (m : Member) (k : Kind) (logs : List KeptLog) (rows : List (List KeptSet)) → member_number m ≡ length logs + 1 → k ≡ Log → length logs ≡ length rows → IsStopped structures m k logs rows
log_stopped structures m k logs rows at is each = record {
  kind = subst (λ (x : Kind). kind_number x ≤ structures) (sym is) (omega arith);
  next = omega (arith, at, each);
  before = omega (arith, at);
  log = λ some. let none : kind_number k ≡ 0 = ap kind_number is in absurd (omega (arith, none, some));
}

pub log_first : (k : Kind) (s : StructNo) → k ≡ Log → structure_number s < kind_number k → ⊥
log_first k s is before = let none : kind_number k ≡ 0 = ap kind_number is in omega (arith, none, before)

-- at a data set of a member, whose log is made
pub row_stopped : (structures : ℕ) (m : Member) (k : Kind) (logs : List KeptLog) (rows : List (List KeptSet)) → member_number m ≡ length rows + 1 → kind_number k ≤ structures → length logs ≡ length rows + 1 → IsStopped structures m k logs rows
row_stopped structures m k logs rows at kind each = record {
  kind = kind;
  next = at;
  before = omega (arith, at, each);
  log = λ some. omega (arith, at, each);
}
