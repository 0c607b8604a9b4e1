-- devices that are given back, one after the other
use Rattle.std.proofs.Common.{◌≡◌, ◌≤◌, ◌<◌, ◌+◌, ◌-◌, ◌==◌, ℕ, Bool, true, false, List, [], ◌∷◌, ◌++◌, length, refl, ap, sym, subst, ◌∙◌, arith, Option, Some, None, get_or}
use Rattle.std.specs.Prelude.{zero, suc, ◌&&◌, if◌then◌else◌, IsSome, IsSomeAnd, slice_get, option_map}
use Rattle.std.specs.Option.{option_or}
use Rattle.std.proofs.lemmas.List.{length-append}
use Rattle.std.proofs.lemmas.Bool.Decides.{nat_tests}
use Rattle.qsg_num.specs.declared.seats.Member.{Member}
use Rattle.qsg_num.specs.declared.seats.Member.TheVariants as members
use Rattle.qsg_num.specs.declared.seats.StructNo.{StructNo}
use Rattle.qsg_num.specs.declared.seats.StructNo.TheVariants as structures
use Rattle.qsg_num.specs.Seats.{member_number, structure_number}
use Rattle.qsg_disk.specs.Byte.{Byte}
use Rattle.qsg_disk.specs.Places.{is_place}
use Rattle.qsg_disk.specs.declared.kinds.Kind.{Kind}
use Rattle.qsg_disk.specs.declared.kinds.Kind.TheVariants.{Log, DataSet}
use Rattle.qsg_logs.specs.Kept.{KeptLog}
use Rattle.qsg_datasets.specs.Kept.{KeptSet, sets_of}
use Rattle.qsg_devices.specs.Places.{IsGivenBack, AreGivenBack, logs_bytes, set_bytes, row_bytes, rows_bytes, device_bytes}

-- nothing is there
pub none_back : {X : Type 0} (bytes : X → List Byte) (there : Member → Kind → Option (List Byte)) (given : Member → Kind → Option X) → ((m : Member) (k : Kind) → there m k ≡ None) → AreGivenBack bytes there given given
none_back bytes there given none = λ m k. subst (λ o. IsGivenBack bytes o (given m k) (given m k)) (sym (none m k)) refl

-- one device more is given back
pub one_back : {X : Type 0} (bytes : X → List Byte) (there all : Member → Kind → Option (List Byte)) (start old new : Member → Kind → Option X) (member : Member) (kind : Kind) (device : X) (held : List Byte)
    → bytes device ≡ held
    → ((m : Member) (k : Kind) → new m k ≡ (if is_place member kind m k then Some device else old m k))
    → ((m : Member) (k : Kind) → all m k ≡ (if is_place member kind m k then Some held else there m k))
    → AreGivenBack bytes there start old → AreGivenBack bytes all start new
one_back {X} bytes there all start old new member kind device held same gives adds back = λ m k. by m k (is_place member kind m k) (gives m k) (adds m k) (back m k)
  where
    by : (m : Member) (k : Kind) (here : Bool) → new m k ≡ (if here then Some device else old m k) → all m k ≡ (if here then Some held else there m k) → IsGivenBack bytes (there m k) (start m k) (old m k) → IsGivenBack bytes (all m k) (start m k) (new m k)
    by m k true n a was = subst (λ (o : Option (List Byte)). IsGivenBack bytes o (start m k) (new m k)) (sym a) (subst (λ (o : Option X). IsSomeAnd o (λ (d : X). bytes d ≡ held)) (sym n) same)
    by m k false n a was = subst (λ (o : Option (List Byte)). IsGivenBack bytes o (start m k) (new m k)) (sym a) (subst (λ (o : Option X). IsGivenBack bytes (there m k) (start m k) o) (sym n) was)

-- some are given back, and then others
pub both_back : {X : Type 0} (bytes : X → List Byte) (first second all : Member → Kind → Option (List Byte)) (start mid end : Member → Kind → Option X)
    → ((m : Member) (k : Kind) → all m k ≡ option_or (second m k) (first m k))
    → AreGivenBack bytes first start mid → AreGivenBack bytes second mid end → AreGivenBack bytes all start end
both_back {X} bytes first second all start mid end joins before after = λ m k. by m k (second m k) (joins m k) (before m k) (after m k)
  where
    by : (m : Member) (k : Kind) (o : Option (List Byte)) → all m k ≡ option_or o (first m k) → IsGivenBack bytes (first m k) (start m k) (mid m k) → IsGivenBack bytes o (mid m k) (end m k) → IsGivenBack bytes (all m k) (start m k) (end m k)
    by m k None a was is = subst (λ (o : Option (List Byte)). IsGivenBack bytes o (start m k) (end m k)) (sym a) (subst (λ (o : Option X). IsGivenBack bytes (first m k) (start m k) o) (sym is) was)
    by m k (Some b) a was is = subst (λ (o : Option (List Byte)). IsGivenBack bytes o (start m k) (end m k)) (sym a) is

joined : {X : Type 0} (xs : List X) (x : X) (ys : List X) → (xs ++ x ∷ []) ++ ys ≡ xs ++ (x ∷ ys)
joined [] x ys = refl
joined (z ∷ zs) x ys = ap (λ l. z ∷ l) (joined zs x ys)

-- what is behind the part that was gone over, whose first is gone over next
pub split_more : {X : Type 0} (all before : List X) (x : X) (rest after : List X) → all ≡ before ++ rest → rest ≡ x ∷ after → all ≡ (before ++ x ∷ []) ++ after
split_more all before x rest after split first = split ∙ (ap (λ r. before ++ r) first ∙ sym (joined before x after))

pub length_more : {X : Type 0} (xs : List X) (x : X) → length (xs ++ x ∷ []) ≡ length xs + 1
length_more [] x = refl
length_more (y ∷ ys) x = let h = length_more ys x in omega (arith, h)

-- what is gone over is one of them
pub split_within : {X : Type 0} (all before : List X) (x : X) (rest after : List X) → all ≡ before ++ rest → rest ≡ x ∷ after → length before + 1 ≤ length all
split_within all before x rest after split first =
    let more = length_more before x in
    let long : length all ≡ length (before ++ x ∷ []) + length after = ap length (split_more all before x rest after split first) ∙ length-append (before ++ x ∷ []) after in
    omega (arith, more, long)

pub not_none : {X : Type 0} (o : Option X) → o ≡ None → IsSome o → ⊥
not_none None is some = cc
not_none (Some x) is some = cc

-- ---- with one more at the end

behind_none : (i : ℕ) → (suc i == 0) ≡ false
behind_none i = grind (arith, nat_tests)

first_of_some : (n : ℕ) → (0 == suc n) ≡ false
first_of_some n = grind (arith, nat_tests)

both_more : (i n : ℕ) → (suc i == suc n) ≡ (i == n)
both_more i n = grind (arith, nat_tests)

get_more : {X : Type 0} (xs : List X) (x : X) (i : ℕ) → slice_get (xs ++ x ∷ []) i ≡ (if i == length xs then Some x else slice_get xs i)
get_more [] x zero = refl
get_more {X} [] x (suc i) = ap (λ (b : Bool). if b then Some x else slice_get {X = X} [] (suc i)) (sym (behind_none i))
get_more (y ∷ ys) x zero = ap (λ (b : Bool). if b then Some x else Some y) (sym (first_of_some (length ys)))
get_more (y ∷ ys) x (suc i) = get_more ys x i ∙ ap (λ (b : Bool). if b then Some x else slice_get ys i) (sym (both_more i (length ys)))

-- the number of a place that is counted from 1
same_number : (n count : ℕ) → 0 < n → (n - 1 == count) ≡ (n == count + 1)
same_number zero count some = absurd (omega (arith, some))
same_number (suc n) count some = grind (arith, nat_tests)

pub some_member : (m : Member) → 0 < member_number m
some_member members.One = omega arith
some_member members.Two = omega arith
some_member members.Three = omega arith
some_member members.Four = omega arith
some_member members.Five = omega arith
some_member members.Six = omega arith
some_member members.Seven = omega arith
some_member members.Eight = omega arith

some_structure : (s : StructNo) → 0 < structure_number s
some_structure structures.One = omega arith
some_structure structures.Two = omega arith
some_structure structures.Three = omega arith
some_structure structures.Four = omega arith

number_more : {X : Type 0} (xs : List X) (x : X) (n : ℕ) → 0 < n → slice_get (xs ++ x ∷ []) (n - 1) ≡ (if n == length xs + 1 then Some x else slice_get xs (n - 1))
number_more xs x n some = get_more xs x (n - 1) ∙ ap (λ (b : Bool). if b then Some x else slice_get xs (n - 1)) (same_number n (length xs) some)

map_if : {A B : Type 0} (f : A → B) (b : Bool) (x : A) (o : Option A) → option_map f (if b then Some x else o) ≡ (if b then Some (f x) else option_map f o)
map_if f true x o = refl
map_if f false x o = refl

pub set_more : (row : List KeptSet) (set : KeptSet) (s : StructNo) → set_bytes (row ++ set ∷ []) s ≡ (if structure_number s == length row + 1 then Some set.contents.bytes else set_bytes row s)
set_more row set s =
    ap (option_map (λ (x : KeptSet). x.contents.bytes)) (number_more row set (structure_number s) (some_structure s))
    ∙ map_if (λ (x : KeptSet). x.contents.bytes) (structure_number s == length row + 1) set (slice_get row (structure_number s - 1))

log_apart : (b : Bool) (s : StructNo) → (b && (0 == structure_number s)) ≡ false
log_apart false s = refl
log_apart true s = let some = some_structure s in grind (arith, nat_tests)

set_apart : (b : Bool) (s : StructNo) → (b && (structure_number s == 0)) ≡ false
set_apart false s = refl
set_apart true s = let some = some_structure s in grind (arith, nat_tests)

-- the data sets of a member with one more
pub row_more : (member : Member) (row : List KeptSet) (set : KeptSet) (s : StructNo) → structure_number s ≡ length row + 1 → (m : Member) (k : Kind)
    → row_bytes member (row ++ set ∷ []) m k ≡ (if is_place member (DataSet s) m k then Some set.contents.bytes else row_bytes member row m k)
row_more member row set s at m Log = ap (λ (b : Bool). if b then Some set.contents.bytes else None) (sym (log_apart (member_number m == member_number member) s))
row_more member row set s at m (DataSet t) = by (member_number m == member_number member)
  where
    by : (b : Bool) → (if b then set_bytes (row ++ set ∷ []) t else None) ≡ (if b && (structure_number t == structure_number s) then Some set.contents.bytes else if b then set_bytes row t else None)
    by true = set_more row set t ∙ ap (λ (n : ℕ). if structure_number t == n then Some set.contents.bytes else set_bytes row t) (sym at)
    by false = refl

-- logs with one more
pub log_more : (logs : List KeptLog) (log : KeptLog) (member : Member) → member_number member ≡ length logs + 1 → (m : Member) (k : Kind)
    → logs_bytes (logs ++ log ∷ []) m k ≡ (if is_place member Log m k then Some log.bytes else logs_bytes logs m k)
log_more logs log member at m (DataSet t) = ap (λ (b : Bool). if b then Some log.bytes else None) (sym (set_apart (member_number m == member_number member) t))
log_more logs log member at m Log =
    ap (option_map (λ (x : KeptLog). x.bytes)) (number_more logs log (member_number m) (some_member m))
    ∙ (map_if (λ (x : KeptLog). x.bytes) (member_number m == length logs + 1) log (slice_get logs (member_number m - 1))
    ∙ (ap (λ (n : ℕ). if member_number m == n then Some log.bytes else logs_bytes logs m Log) (sym at) ∙ by (member_number m == member_number member)))
  where
    by : (b : Bool) → (if b then Some log.bytes else logs_bytes logs m Log) ≡ (if b && true then Some log.bytes else logs_bytes logs m Log)
    by true = refl
    by false = refl

-- ---- the data sets of one member more

or_none : {X : Type 0} (o : Option X) → option_or o None ≡ o
or_none None = refl
or_none (Some x) = refl

read_more : (rows : List (List KeptSet)) (row : List KeptSet) (i : ℕ) → get_or (rows ++ row ∷ []) i [] ≡ (if i == length rows then row else get_or rows i [])
read_more [] row zero = refl
read_more [] row (suc i) = ap (λ (b : Bool). if b then row else []) (sym (behind_none i))
read_more (r ∷ rows) row zero = ap (λ (b : Bool). if b then row else r) (sym (first_of_some (length rows)))
read_more (r ∷ rows) row (suc i) = read_more rows row i ∙ ap (λ (b : Bool). if b then row else get_or rows i []) (sym (both_more i (length rows)))

pub read_past : (rows : List (List KeptSet)) (i : ℕ) → length rows ≤ i → get_or rows i [] ≡ []
read_past [] i past = refl
read_past (r ∷ rows) zero past = absurd (omega (arith, past))
read_past (r ∷ rows) (suc i) past = read_past rows i (omega (arith, past))

pub none_of : (s : StructNo) → set_bytes [] s ≡ None
none_of structures.One = refl
none_of structures.Two = refl
none_of structures.Three = refl
none_of structures.Four = refl

pub rows_more : (rows : List (List KeptSet)) (row : List KeptSet) (member : Member) → member_number member ≡ length rows + 1 → (m : Member) (k : Kind)
    → rows_bytes (rows ++ row ∷ []) m k ≡ option_or (row_bytes member row m k) (rows_bytes rows m k)
rows_more rows row member at m Log = refl
rows_more rows row member at m (DataSet s) =
    ap (λ (r : List KeptSet). set_bytes r s) (read_more rows row (member_number m - 1))
    ∙ (ap (λ (b : Bool). set_bytes (if b then row else sets_of m rows) s) (same_number (member_number m) (length rows) (some_member m))
    ∙ (ap (λ (n : ℕ). set_bytes (if member_number m == n then row else sets_of m rows) s) (sym at) ∙ by (member_number m == member_number member) refl))
  where
    by : (b : Bool) → (member_number m == member_number member) ≡ b → set_bytes (if b then row else sets_of m rows) s ≡ option_or (if b then set_bytes row s else None) (set_bytes (sets_of m rows) s)
    by true here =
        let past : length rows ≤ member_number m - 1 = grind (arith, nat_tests) in
        sym (ap (λ (o : Option (List Byte)). option_or (set_bytes row s) o) (ap (λ (r : List KeptSet). set_bytes r s) (read_past rows (member_number m - 1) past) ∙ none_of s) ∙ or_none (set_bytes row s))
    by false here = refl

-- logs, and then data sets
pub devices_both : (logs : List KeptLog) (rows : List (List KeptSet)) (m : Member) (k : Kind) → device_bytes logs rows m k ≡ option_or (rows_bytes rows m k) (logs_bytes logs m k)
devices_both logs rows m Log = refl
devices_both logs rows m (DataSet s) = sym (or_none (set_bytes (sets_of m rows) s))

-- ---- what was there is given back

pub some_back : {X : Type 0} (bytes : X → List Byte) (there : Option (List Byte)) (old new : Option X) → IsSome there → IsGivenBack bytes there old new → IsSome new
some_back bytes None old new is back = absurd cc
some_back bytes (Some b) old None is back = absurd back
some_back bytes (Some b) old (Some x) is back = refl

get_some : {X : Type 0} (xs : List X) (i : ℕ) → i < length xs → IsSome (slice_get xs i)
get_some [] i within = absurd (omega (arith, within))
get_some (x ∷ xs) zero within = refl
get_some (x ∷ xs) (suc i) within = get_some xs i (omega (arith, within))

some_map : {A B : Type 0} (f : A → B) (o : Option A) → IsSome o → IsSome (option_map f o)
some_map f None is = absurd cc
some_map f (Some x) is = refl

pub set_there : (row : List KeptSet) (s : StructNo) → structure_number s ≤ length row → IsSome (set_bytes row s)
set_there row s within = let some = some_structure s in some_map (λ (set : KeptSet). set.contents.bytes) (slice_get row (structure_number s - 1)) (get_some row (structure_number s - 1) (omega (arith, within, some)))

pub log_there : (logs : List KeptLog) (m : Member) → member_number m ≤ length logs → IsSome (logs_bytes logs m Log)
log_there logs m within = let some = some_member m in some_map (λ (log : KeptLog). log.bytes) (slice_get logs (member_number m - 1)) (get_some logs (member_number m - 1) (omega (arith, within, some)))

itself : (n : ℕ) → (n == n) ≡ true
itself n = grind (arith, nat_tests)

-- a data set of a member is given back with the others
pub row_back : {X : Type 0} (bytes : X → List Byte) (member : Member) (row : List KeptSet) (s : StructNo) (old new : Member → Kind → Option X) (m : Member) → m ≡ member → structure_number s ≤ length row
    → AreGivenBack bytes (row_bytes member row) old new → IsSome (new m (DataSet s))
row_back bytes member row s old new m is within back =
    some_back bytes (row_bytes member row m (DataSet s)) (old m (DataSet s)) (new m (DataSet s))
    (subst (λ (x : Member). IsSome (if member_number x == member_number member then set_bytes row s else None)) (sym is) (subst (λ (b : Bool). IsSome (if b then set_bytes row s else None)) (sym (itself (member_number member))) (set_there row s within)))
    (back m (DataSet s))
