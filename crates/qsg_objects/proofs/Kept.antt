-- what holds of the entries is kept by one more at the end
use Rattle.std.proofs.Common.{◌≡◌, ℕ, ◌+◌, ◌≤◌, ◌<◌, Bool, true, false, cond, List, [], ◌∷◌, ◌++◌, length, Option, Some, None, refl, ap, sym, ◌∙◌, arith}
use Rattle.std.specs.Prelude.{option_map, find, map, slice_get, string_bytes, String, zero, suc}
use Rattle.std.specs.List.{AllByRecursion}
use Rattle.std.specs.Option.{option_or, option_copied, IfSome}
use Rattle.std.specs.Prelude.{Result, Ok, Err, OnOk, OnErr}
use Rattle.std.specs.Borrow.{Bor}
use Rattle.std.proofs.lemmas.List.{map-append}
use Rattle.std.proofs.lemmas.List.Folds.{find-append}
use Rattle.std.specs.declared.alloc.Global.{Global}
use Rattle.qsg_num.specs.declared.seats.StructNo.{StructNo}
use Rattle.qsg_num.specs.Seats.{structure_number}
use Rattle.qsg_num.proofs.Ranges.{structure-same}
use Rattle.qsg_objects.specs.declared.registry.Cfstruct.{Cfstruct}
use Rattle.qsg_objects.specs.declared.registry.Queue.{Queue}
use Rattle.qsg_objects.specs.Registry.{IsKept, IsPlaced, AreNumbered, number_in, is_structure}

some-same : {A : Type 0} (a b : A) → Some a ≡ Some b → a ≡ b
some-same a b e = cc

none-some : {A : Type 0} (P : Type 0) (b : A) → None ≡ Some b → P
none-some P b e = cc

pub all-append : {X : Type 0} (P : X → Type 0) (xs : List X) (x : X) → AllByRecursion P xs → P x → AllByRecursion P (xs ++ x ∷ [])
all-append P [] x each last = (last, tt)
all-append P (y ∷ ys) x each last = (each.0, all-append P ys x each.1 last)

pub all-imp : {X : Type 0} (P Q : X → Type 0) → ((x : X) → P x → Q x) → (xs : List X) → AllByRecursion P xs → AllByRecursion Q xs
all-imp P Q imp [] each = tt
all-imp P Q imp (x ∷ xs) each = (imp x each.0, all-imp P Q imp xs each.1)

-- what is found has what each has
pub found-has : {X : Type 0} (P : X → Type 0) (test : X → Bool) (xs : List X) (v : X) → AllByRecursion P xs → find test xs ≡ Some v → P v
found-has P test [] v each e = none-some (P v) v e
found-has P test (x ∷ xs) v each e = by (test x) (found-has P test xs v each.1) e
  where
    by : (b : Bool) → (find test xs ≡ Some v → P v) → cond b (Some x) (find test xs) ≡ Some v → P v
    by true rest f = rw (← some-same x v f) each.0
    by false rest f = rest f

pub length-map : {X Y : Type 0} (f : X → Y) (xs : List X) → length (map f xs) ≡ length xs
length-map f [] = refl
length-map f (x ∷ xs) = ap suc (length-map f xs)

length-push : {X : Type 0} (xs : List X) (x : X) → length (xs ++ x ∷ []) ≡ length xs + 1
length-push [] x = refl
length-push (y ∷ ys) x = let h = length-push ys x in omega (arith, h)

pub numbered-append : (n : ℕ) (ss : List Cfstruct) (s : Cfstruct) → AreNumbered n ss → structure_number s.number ≡ n + length ss → AreNumbered n (ss ++ s ∷ [])
numbered-append n [] s numbered e = (omega arith, tt)
numbered-append n (x ∷ xs) s numbered e = (numbered.0, numbered-append (n + 1) xs s numbered.1 (omega arith))

pub numbered-at : (n : ℕ) (ss : List Cfstruct) (i : ℕ) (s : Cfstruct) → AreNumbered n ss → slice_get ss i ≡ Some s → structure_number s.number ≡ n + i
numbered-at n [] i s numbered e = none-some _ s e
numbered-at n (x ∷ xs) zero s numbered e = rw (← some-same x s e) (omega (arith, numbered.0))
numbered-at n (x ∷ xs) (suc i) s numbered e = let h = numbered-at (n + 1) xs i s numbered.1 e in omega (arith, h)

pub numbered-found : (n : ℕ) (ss : List Cfstruct) (test : Cfstruct → Bool) (s : Cfstruct) → AreNumbered n ss → find test ss ≡ Some s → structure_number s.number < n + length ss
numbered-found n [] test s numbered e = none-some _ s e
numbered-found n (x ∷ xs) test s numbered e = by (test x) (numbered-found (n + 1) xs test s numbered.1) e
  where
    by : (b : Bool) → (find test xs ≡ Some s → structure_number s.number < n + 1 + length xs) → cond b (Some x) (find test xs) ≡ Some s → structure_number s.number < n + length (x ∷ xs)
    by true rest f = rw (← some-same x s f) (omega (arith, numbered.0))
    by false rest f = let h = rest f in omega (arith, h)

pub number-counted : (name : List ℕ) (ss : List Cfstruct) (k : StructNo) → AreNumbered 1 ss → number_in name ss ≡ Some k → structure_number k ≤ length ss
number-counted name ss k numbered e = by (find (is_structure name) ss) refl e
  where
    by : (found : Option Cfstruct) → find (is_structure name) ss ≡ found → option_map (λ (s : Cfstruct). s.number) found ≡ Some k → structure_number k ≤ length ss
    by None is f = none-some _ k f
    by (Some s) is f = rw (← some-same s.number k f) (let h = numbered-found 1 ss (is_structure name) s numbered is in omega (arith, h))

-- a structure that is named is named so when one more is there
pub number-stays : (name : List ℕ) (ss : List Cfstruct) (s : Cfstruct) (k : StructNo) → number_in name ss ≡ Some k → number_in name (ss ++ s ∷ []) ≡ Some k
number-stays name ss s k e = ap (option_map (λ (x : Cfstruct). x.number)) (find-append (is_structure name) ss (s ∷ [])) ∙ by (find (is_structure name) ss) e
  where
    by : (found : Option Cfstruct) → option_map (λ (x : Cfstruct). x.number) found ≡ Some k → option_map (λ (x : Cfstruct). x.number) (option_or found (find (is_structure name) (s ∷ []))) ≡ Some k
    by None f = none-some _ k f
    by (Some x) f = f

abbrev pub structures_of : List (String Global × Cfstruct) → List Cfstruct
structures_of es = map (λ e. e.1) es

pub kept-structure : (es : List (String Global × Cfstruct)) (qs : List (String Global × Queue)) (e : String Global × Cfstruct) → IsKept es qs → string_bytes e.0 ≡ e.1.definition.name → structure_number e.1.number ≡ length es + 1 → length es < 4 → IsKept (es ++ e ∷ []) qs
kept-structure es qs e kept named number few =
    record {
      structure_keys = all-append _ es e kept.structure_keys named;
      queue_keys = kept.queue_keys;
      numbered = rw (map-append (λ (x : String Global × Cfstruct). x.1) es (e ∷ [])) (numbered-append 1 (structures_of es) e.1 kept.numbered (let h = length-map (λ (x : String Global × Cfstruct). x.1) es in omega (arith, h, number)));
      placed = rw (map-append (λ (x : String Global × Cfstruct). x.1) es (e ∷ [])) (all-imp (IsPlaced (structures_of es)) (IsPlaced (structures_of es ++ e.1 ∷ [])) (λ q is. number-stays q.definition.cfstruct (structures_of es) e.1 q.structure is) _ kept.placed);
      few_structures = let h = length-push es e in omega (arith, h);
      few_queues = kept.few_queues;
    }

pub kept-queue : (es : List (String Global × Cfstruct)) (qs : List (String Global × Queue)) (e : String Global × Queue) → IsKept es qs → string_bytes e.0 ≡ e.1.definition.name → IsPlaced (structures_of es) e.1 → length qs < 64 → IsKept es (qs ++ e ∷ [])
kept-queue es qs e kept named placed few =
    record {
      structure_keys = kept.structure_keys;
      queue_keys = all-append _ qs e kept.queue_keys named;
      numbered = kept.numbered;
      placed = rw (map-append (λ (x : String Global × Queue). x.1) qs (e ∷ [])) (all-append _ _ e.1 kept.placed placed);
      few_structures = kept.few_structures;
      few_queues = let h = length-push qs e in omega (arith, h);
    }

-- what is found and lent has what each has
pub found-lent : {X : Type 0} (P : X → Type 0) (test : X → Bool) (xs : List X) (r : Option (Bor X)) → AllByRecursion P xs → option_copied r ≡ find test xs → IfSome r (λ b. P b.now)
found-lent P test xs None each e = tt
found-lent P test xs (Some b) each e = found-has P test xs b.now each (sym e)

pub counted-queues : (ss : List Cfstruct) (qs : List Queue) → AreNumbered 1 ss → AllByRecursion (IsPlaced ss) qs → AllByRecursion (λ q. structure_number q.structure ≤ length ss) qs
counted-queues ss qs numbered placed = all-imp (IsPlaced ss) (λ q. structure_number q.structure ≤ length ss) (λ q is. number-counted q.definition.cfstruct ss q.structure numbered is) qs placed

pub kept-structure-if : {T E : Type 0} (r : Result T E) (es es2 : List (String Global × Cfstruct)) (qs : List (String Global × Queue)) (e : String Global × Cfstruct) → OnOk r (es2 ≡ es ++ e ∷ []) → OnErr r (es2 ≡ es) → IsKept es qs → string_bytes e.0 ≡ e.1.definition.name → structure_number e.1.number ≡ length es + 1 → length es < 4 → IsKept es2 qs
kept-structure-if (Ok x) es es2 qs e ok err kept named number few = rw ok (kept-structure es qs e kept named number few)
kept-structure-if (Err x) es es2 qs e ok err kept named number few = rw err kept

pub kept-queue-if : {T E : Type 0} (r : Result T E) (es : List (String Global × Cfstruct)) (qs qs2 : List (String Global × Queue)) (e : String Global × Queue) → OnOk r (qs2 ≡ qs ++ e ∷ []) → OnErr r (qs2 ≡ qs) → IsKept es qs → string_bytes e.0 ≡ e.1.definition.name → IsPlaced (structures_of es) e.1 → length qs < 64 → IsKept es qs2
kept-queue-if (Ok x) es qs qs2 e ok err kept named placed few = rw ok (kept-queue es qs e kept named placed few)
kept-queue-if (Err x) es qs qs2 e ok err kept named placed few = rw err kept

pub numbered-below : (n m : ℕ) (ss : List Cfstruct) → AreNumbered n ss → n + length ss ≤ m + 1 → AllByRecursion (λ s. structure_number s.number ≤ m) ss
numbered-below n m [] numbered fits = tt
numbered-below n m (s ∷ ss) numbered fits = (omega (arith, numbered.0), numbered-below (n + 1) m ss numbered.1 (omega arith))

pub numbered-lent : (ss : List Cfstruct) (i : ℕ) (k : StructNo) (r : Option (Bor Cfstruct)) → AreNumbered 1 ss → option_copied r ≡ slice_get ss i → i + 1 ≡ structure_number k → IfSome r (λ s. s.now.number ≡ k)
numbered-lent ss i k None numbered e at = tt
numbered-lent ss i k (Some s) numbered e at = structure-same s.now.number k (let h = numbered-at 1 ss i s.now numbered (sym e) in omega (arith, h, at))

pub none-named : (name : List ℕ) (ss : List Cfstruct) → number_in name ss ≡ None → find (is_structure name) ss ≡ None
none-named name ss e = by (find (is_structure name) ss) e
  where
    by : (found : Option Cfstruct) → option_map (λ (x : Cfstruct). x.number) found ≡ None → found ≡ None
    by None f = refl
    by (Some x) f = none-some _ x.number (sym f)
