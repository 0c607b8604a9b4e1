-- where a device isn't made, those before it are there or given back
use Rattle.std.proofs.Common.{◌≡◌, ◌≤◌, ◌<◌, ◌-◌, ℕ, true, false, List, [], ◌∷◌, length, get_or, ap, sym, subst, ◌∙◌, arith, Option, Some, None, inl, inr}
use Rattle.std.specs.Prelude.{zero, suc, ◌≢◌, ◌⊎◌, IsSome, eqb}
use Rattle.std.specs.List.{AllByRecursion}
use Rattle.std.proofs.lemmas.Bool.Decides.{eqb_tells}
use Rattle.qsg_num.specs.declared.seats.Member.{Member}
use Rattle.qsg_num.specs.declared.seats.StructNo.{StructNo}
use Rattle.qsg_num.specs.declared.seats.StructNo.TheVariants as structures
use Rattle.qsg_num.specs.Seats.{member_number, member_at, structure_number}
use Rattle.qsg_num.proofs.Ranges.{member-back}
use Rattle.qsg_disk.specs.Byte.{Byte}
use Rattle.qsg_disk.specs.Places.{kind_number}
use Rattle.qsg_disk.specs.declared.kinds.Kind.{Kind}
use Rattle.qsg_disk.specs.declared.kinds.Kind.TheVariants.{Log, DataSet}
use Rattle.qsg_logs.specs.Kept.{KeptLog}
use Rattle.qsg_datasets.specs.Kept.{KeptSet, sets_of}
use Rattle.qsg_devices.specs.declared.shapes.Shape.{Shape}
use Rattle.qsg_devices.specs.DataSets.{AreNewSets}
use Rattle.qsg_devices.specs.Places.{IsDeviceOf, IsEarlier, IsStopped, HaveFour, IsGivenBack, AreGivenBack, logs_bytes, set_bytes, device_bytes}
use Rattle.qsg_devices.proofs.Made.{sets_as_many}
use Rattle.qsg_devices.proofs.Returned.{some_back, log_there, set_there, read_past, none_of, some_member}

pub stopped_device : (members structures : ℕ) (m : Member) (k : Kind) (logs : List KeptLog) (rows : List (List KeptSet)) → IsStopped structures m k logs rows → length rows < members → IsDeviceOf members structures m k
stopped_device members structures m k logs rows stopped few = record { member = omega (arith, stopped.next, few); kind = stopped.kind }

-- each member has as many data sets as there are shapes
row_long : (shapes : List Shape) (rows : List (List KeptSet)) (i : ℕ) → AllByRecursion (AreNewSets shapes) rows → i < length rows → length (get_or rows i []) ≡ length shapes
row_long shapes [] i each within = absurd (omega (arith, within))
row_long shapes (row ∷ rows) zero each within = sets_as_many shapes row each.0
row_long shapes (row ∷ rows) (suc i) each within = row_long shapes rows i each.1 (omega (arith, within))

pub sets_long : (shapes : List Shape) (rows : List (List KeptSet)) → AllByRecursion (AreNewSets shapes) rows → (m : Member) → member_number m ≤ length rows → length (sets_of m rows) ≡ length shapes
sets_long shapes rows each m within = let some = some_member m in row_long shapes rows (member_number m - 1) each (omega (arith, within, some))

pub have_four : (shapes : List Shape) (rows : List (List KeptSet)) → AllByRecursion (AreNewSets shapes) rows → length shapes ≤ 4 → HaveFour rows
have_four shapes rows each four = λ m within. let long = sets_long shapes rows each m within in omega (arith, long, four)

below_five : (k : Kind) → kind_number k ≤ 4
below_five Log = omega arith
below_five (DataSet structures.One) = omega arith
below_five (DataSet structures.Two) = omega arith
below_five (DataSet structures.Three) = omega arith
below_five (DataSet structures.Four) = omega arith

same_member : (n m : Member) → member_number n ≡ member_number m → n ≡ m
same_member n m same = let both : Some n ≡ Some m = sym (member-back n) ∙ (ap member_at same ∙ member-back m) in cc

-- those before a device that isn't made
pub stopped_back : {X : Type 0} (bytes : X → List Byte) (shapes : List Shape) (logs : List KeptLog) (rows : List (List KeptSet)) (old new : Member → Kind → Option X) (m : Member) (k : Kind)
    → IsStopped (length shapes) m k logs rows → AllByRecursion (AreNewSets shapes) rows
    → ((s : StructNo) → structure_number s < kind_number k → IsSome (old m (DataSet s)))
    → AreGivenBack bytes (device_bytes logs rows) old new
    → (n : Member) (l : Kind) → kind_number l ≤ length shapes → IsEarlier n l m k → IsSome (new n l)
stopped_back bytes shapes logs rows old new m k stopped each before back n Log within earlier =
    some_back bytes (logs_bytes logs n Log) (old n Log) (new n Log) (log_there logs n there) (back n Log)
  where
    there : member_number n ≤ length logs
    there = by (eqb_tells (kind_number k) 0)
      where
        by : ((eqb (kind_number k) 0 ≡ true) × (kind_number k ≡ 0)) ⊎ ((eqb (kind_number k) 0 ≡ false) × (kind_number k ≢ 0)) → member_number n ≤ length logs
        by (inl same) = omega (arith, same.1, earlier, stopped.before)
        by (inr other) = let log = stopped.log (some other.1) in let five = below_five k in omega (arith, log, five, earlier)
          where
            some : kind_number k ≢ 0 → 0 < kind_number k
            some apart = omega (arith, apart)
stopped_back bytes shapes logs rows old new m k stopped each before back n (DataSet s) within earlier = by (eqb_tells (member_number n) (member_number m))
  where
    by : ((eqb (member_number n) (member_number m) ≡ true) × (member_number n ≡ member_number m)) ⊎ ((eqb (member_number n) (member_number m) ≡ false) × (member_number n ≢ member_number m)) → IsSome (new n (DataSet s))
    by (inl same) =
        let past : length rows ≤ member_number n - 1 = omega (arith, same.1, stopped.next) in
        let none : set_bytes (sets_of n rows) s ≡ None = ap (λ (row : List KeptSet). set_bytes row s) (read_past rows (member_number n - 1) past) ∙ none_of s in
        let kept : new n (DataSet s) ≡ old n (DataSet s) = subst (λ o. IsGivenBack bytes o (old n (DataSet s)) (new n (DataSet s))) none (back n (DataSet s)) in
        subst IsSome (sym kept) (subst (λ (x : Member). IsSome (old x (DataSet s))) (sym (same_member n m same.1)) (before s (omega (arith, same.1, earlier))))
    by (inr other) =
        let there : member_number n ≤ length rows = lower other.1 in
        let long = sets_long shapes rows each n there in
        some_back bytes (set_bytes (sets_of n rows) s) (old n (DataSet s)) (new n (DataSet s)) (set_there (sets_of n rows) s (omega (arith, long, within))) (back n (DataSet s))
      where
        lower : member_number n ≢ member_number m → member_number n ≤ length rows
        lower apart = let five = below_five k in omega (arith, apart, five, earlier, stopped.next)
