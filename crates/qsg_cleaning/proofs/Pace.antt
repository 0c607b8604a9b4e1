-- each step of a cleaning lowers how many are left
use Rattle.std.proofs.Common.{◌≡◌, ℕ, ◌+◌, ◌-◌, ◌*◌, ◌<◌, ◌≤◌, Bool, true, false, cond, List, [], ◌∷◌, length, Option, Some, None, Result, Ok, Err, refl, sym, ap, subst, ◌∙◌, true≢false, arith}
use Rattle.std.specs.Prelude.{◌&&◌, ◌==◌, count_by, find, is_some}
use Rattle.std.specs.List.{AllByRecursion}
use Rattle.std.proofs.lemmas.Bool.{eq-eqb}
use Rattle.std.proofs.lemmas.Bool.Decides.{nat_tests}
use Rattle.std.proofs.lemmas.Option.{none-some, same_Some}
use Rattle.qsg_num.specs.declared.ids.EntryId.{EntryId}
use Rattle.qsg_num.specs.declared.seats.Member.{Member}
use Rattle.qsg_num.specs.declared.seats.StructNo.{StructNo}
use Rattle.qsg_num.specs.declared.seats.StructNo.TheVariants as s
use Rattle.qsg_num.specs.Seats.{structure_number}
use Rattle.qsg_lists.specs.declared.parts.Entry.{Entry}
use Rattle.qsg_lists.specs.declared.parts.Lost.{Lost}
use Rattle.qsg_lists.specs.declared.parts.Seen.{Seen}
use Rattle.qsg_lists.specs.Entries.{entry_at, AreInOrder, is_cleanup_above, is_above, revise}
use Rattle.qsg_lists.specs.Settling.{deleted}
use Rattle.qsg_lists.specs.Structures.{ListStructure, is_active, seen, connect_answer, lost_of, unless}
use Rattle.qsg_lists.proofs.Found.{find-passes, find-entry_at}
use Rattle.qsg_manager.specs.Facilities.{structure_in, with_structure}
use Rattle.qsg_manager.proofs.Grouping.{structure_same, structure_other}
use Rattle.qsg_parts.specs.Owned.{Owned}
use Rattle.qsg_cleaning.specs.declared.phases.CleaningTurn.TheVariants.{More, Done}
use Rattle.qsg_cleaning.specs.declared.phases.Phase.{Phase}
use Rattle.qsg_cleaning.specs.declared.phases.Phase.TheVariants.{Connect, Search, Forget}
use Rattle.qsg_cleaning.specs.declared.work.CleaningWork.{CleaningWork}
use Rattle.qsg_cleaning.specs.Finding.{no_id, cleanup_in, has_cleanup, has_cleaning_in, first_to_clean, has_cleaning, AreAbove}
use Rattle.qsg_cleaning.specs.Needs.{MayClean}
use Rattle.qsg_cleaning.specs.Steps.{Next, new_work, structure_of, connection_of, going_on, connected, searched, is_to_clean, cleaned, cleaned_if, after_step, next_of}
use Rattle.qsg_cleaning.specs.Forgetting.{count_to_clean}
use Rattle.qsg_cleaning.specs.Pace.{left_in, all_to_clean, serves, is_to_clean_if, left_before, left_if, left_at, left_with}
use Rattle.qsg_cleaning.proofs.Forgetting.{one_if, count-cons, fewer}

-- ---- entries to clean

both : (a b : Bool) → (a && b) ≡ true → (a ≡ true) × (b ≡ true)
both true b is = (refl, is)
both false b is = absurd (true≢false (sym is))

-- a look-up that finds one shows that there is one
some_counts : (q p : Entry → Bool) (es : List Entry) (e : Entry) → find q es ≡ Some e → p e ≡ true → 1 ≤ count_by p es
some_counts q p [] e is holds = absurd (none-some e is)
some_counts q p (x ∷ es) e is holds = by (q x) is (some_counts q p es e)
  where
    by : (b : Bool) → cond b (Some x) (find q es) ≡ Some e → (find q es ≡ Some e → p e ≡ true → 1 ≤ count_by p es) → 1 ≤ count_by p (x ∷ es)
    by true same rest = omega (arith, count-cons p x es, ap one_if (ap p (same_Some x e same) ∙ holds))
    by false later rest = omega (arith, count-cons p x es, rest later holds)

cleanup_counts : (m : Member) (es : List Entry) → is_some (cleanup_in m es) ≡ true → 1 ≤ count_to_clean m es
cleanup_counts m es is = by (cleanup_in m es) refl is
  where
    by : (o : Option Entry) → cleanup_in m es ≡ o → is_some o ≡ true → 1 ≤ count_to_clean m es
    by None at some = absurd (true≢false (sym some))
    by (Some e) at some = some_counts (is_cleanup_above m no_id) (is_to_clean m) es e at (both (is_above no_id e) (is_to_clean m e) (find-passes (is_cleanup_above m no_id) es e at)).1

entry_counts : (m : Member) (id : EntryId) (es : List Entry) → is_to_clean_if m (entry_at id es) ≡ true → 1 ≤ count_to_clean m es
entry_counts m id es is = by (entry_at id es) refl is
  where
    by : (o : Option Entry) → entry_at id es ≡ o → is_to_clean_if m o ≡ true → 1 ≤ count_to_clean m es
    by None at some = absurd (true≢false (sym some))
    by (Some e) at some = some_counts _ (is_to_clean m) es e at some

-- ---- those of all structures

part : (m : Member) (x : StructNo) (p : Owned) → left_in m (structure_of x p) ≤ all_to_clean m p
part m s.One p = omega arith
part m s.Two p = omega arith
part m s.Three p = omega arith
part m s.Four p = omega arith

-- those of an active structure are among them
active_part : (m : Member) (x : StructNo) (p : Owned) → is_active (structure_of x p).state ≡ true → 1 ≤ count_to_clean m (structure_of x p).entries → 4 ≤ left_before m p
active_part m x p active some = let h = part m x p in let k : left_in m (structure_of x p) ≡ count_to_clean m (structure_of x p).entries = rw active refl in omega (arith, h, k, some)

abbrev all_in : Member → List ListStructure → ℕ
all_in m ls = left_in m (structure_in s.One ls) + left_in m (structure_in s.Two ls) + left_in m (structure_in s.Three ls) + left_in m (structure_in s.Four ls)

all_less : (m : Member) (x : StructNo) (new : ListStructure) (ls : List ListStructure) → structure_number x ≤ length ls → left_in m new + 1 ≡ left_in m (structure_in x ls) → all_in m (with_structure x new ls) + 1 ≡ all_in m ls
all_less m x new ls within less = by x within less
  where
    same : (y : StructNo) → structure_number y ≤ length ls → left_in m (structure_in y (with_structure y new ls)) ≡ left_in m new
    same y inside = ap (left_in m) (structure_same y new ls inside)

    other : (y z : StructNo) → (structure_number z ≡ structure_number y → ⊥) → left_in m (structure_in z (with_structure y new ls)) ≡ left_in m (structure_in z ls)
    other y z differ = ap (left_in m) (structure_other y z new ls differ)

    by : (y : StructNo) → structure_number y ≤ length ls → left_in m new + 1 ≡ left_in m (structure_in y ls) → all_in m (with_structure y new ls) + 1 ≡ all_in m ls
    by s.One inside h = omega (arith, same s.One inside, other s.One s.Two (λ e. omega (arith, e)), other s.One s.Three (λ e. omega (arith, e)), other s.One s.Four (λ e. omega (arith, e)), h)
    by s.Two inside h = omega (arith, same s.Two inside, other s.Two s.One (λ e. omega (arith, e)), other s.Two s.Three (λ e. omega (arith, e)), other s.Two s.Four (λ e. omega (arith, e)), h)
    by s.Three inside h = omega (arith, same s.Three inside, other s.Three s.One (λ e. omega (arith, e)), other s.Three s.Two (λ e. omega (arith, e)), other s.Three s.Four (λ e. omega (arith, e)), h)
    by s.Four inside h = omega (arith, same s.Four inside, other s.Four s.One (λ e. omega (arith, e)), other s.Four s.Two (λ e. omega (arith, e)), other s.Four s.Three (λ e. omega (arith, e)), h)

-- ---- a step

-- it leaves fewer than these, whether the work goes on or not
record IsLess (next : Next) (m : Member) (was : ℕ) : Type 0 where
  more : next.turn ≡ More → left_with next.work next.parts < was
  ends : next.turn ≡ Done → left_before m next.parts < was

going_less : (next : Option Phase) (w : CleaningWork) (p : Owned) (was : ℕ) → (next ≡ None → left_before w.member p < was) → ((phase : Phase) → next ≡ Some phase → left_at phase w p < was) → IsLess (going_on next w p) w.member was
going_less None w p was none some = record { more = λ is. absurd cc; ends = λ is. none refl }
going_less (Some phase) w p was none some = record { more = λ is. some phase refl; ends = λ is. absurd cc }

over : (all made : ℕ) → made < 3 → all < left_if false all made
over all made few = omega arith

on_lower : (a b : Bool) (before made : ℕ) → made < 3 → a ≡ b → (b ≡ true → 4 ≤ before) → left_if a before (made + 1) < left_if b before made
on_lower a true before made few same some = rw same (let h = some refl in omega arith)
on_lower a false before made few same some = rw same (omega arith)

connect_less : (w : CleaningWork) (p : Owned) → IsLess (after_step Connect w p) w.member (left_at Connect w p)
connect_less w p = by (is_active l.state) refl
  where
    l : ListStructure
    l = structure_of w.structure p

    has : Bool
    has = is_some (cleanup_in w.member l.entries)

    answer : Bool → Result Seen Lost
    answer b = cond b (Ok (seen l)) (Err (record { state = l.state; epoch = l.epoch }))

    whole : is_active l.state ≡ true → (is_active l.state && has) ≡ true → 4 ≤ left_before w.member p
    whole active is = active_part w.member w.structure p active (cleanup_counts w.member l.entries (both (is_active l.state) has is).1)

    by : (b : Bool) → is_active l.state ≡ b → IsLess (going_on (connected (answer b)) w p) w.member (left_at Connect w p)
    by true active = going_less (Some (Search l.epoch)) w p (left_at Connect w p) (λ none. absurd cc) (λ phase is. subst (λ (x : Phase). left_at x w p < left_at Connect w p) (same_Some (Search l.epoch) phase is)
        (on_lower (serves l.epoch l && has) (is_active l.state && has) (left_before w.member p) 0 (omega arith) (rw (active, eq-eqb l.epoch l.epoch refl) refl) (whole active)))
    by false active = going_less None w p (left_at Connect w p) (λ none. subst (λ (b : Bool). left_before w.member p < left_if (b && has) (left_before w.member p) 0) (sym active) (over (left_before w.member p) 0 (omega arith))) (λ phase is. absurd cc)

search_less : (epoch : ℕ) (w : CleaningWork) (p : Owned) → AreInOrder (structure_of w.structure p).entries → IsLess (after_step (Search epoch) w p) w.member (left_at (Search epoch) w p)
search_less epoch w p ordered = by (serves epoch l) refl
  where
    l : ListStructure
    l = structure_of w.structure p

    was : ℕ
    was = left_at (Search epoch) w p

    lost : Bool → Option Lost
    lost b = cond b None (Some (record { state = l.state; epoch = l.epoch }))

    none_there : (has : Bool) → has ≡ false → left_before w.member p < left_if (serves epoch l && has) (left_before w.member p) 1
    none_there has is = rw is (off (serves epoch l))
      where
        off : (b : Bool) → left_before w.member p < left_if (b && false) (left_before w.member p) 1
        off true = over (left_before w.member p) 1 (omega arith)
        off false = over (left_before w.member p) 1 (omega arith)

    there : (e : Entry) → serves epoch l ≡ true → cleanup_in w.member l.entries ≡ Some e → left_at (Forget epoch e.id) w p < was
    there e serving at =
        let clean = (both (is_above no_id e) (is_to_clean w.member e) (find-passes (is_cleanup_above w.member no_id) l.entries e at)).1 in
        let stands = find-entry_at (is_cleanup_above w.member no_id) l.entries e ordered at in
        on_lower (serves epoch l && is_to_clean_if w.member (entry_at e.id l.entries)) (serves epoch l && is_some (cleanup_in w.member l.entries)) (left_before w.member p) 1 (omega arith)
        (rw (serving, stands, at, clean) refl)
        (λ is. active_part w.member w.structure p (both (is_active l.state) (epoch == l.epoch) serving).0 (cleanup_counts w.member l.entries (ap (λ (o : Option Entry). is_some o) at)))

    found : (o : Option Entry) → serves epoch l ≡ true → cleanup_in w.member l.entries ≡ o → IsLess (going_on (searched epoch (Ok o)) w p) w.member was
    found None serving at = going_less None w p was (λ none. none_there (is_some (cleanup_in w.member l.entries)) (ap (λ (o : Option Entry). is_some o) at)) (λ phase is. absurd cc)
    found (Some e) serving at = going_less (Some (Forget epoch e.id)) w p was (λ none. absurd cc) (λ phase is. subst (λ (x : Phase). left_at x w p < was) (same_Some (Forget epoch e.id) phase is) (there e serving at))

    by : (b : Bool) → serves epoch l ≡ b → IsLess (going_on (searched epoch (unless (lost b) (cleanup_in w.member l.entries))) w p) w.member was
    by true serving = found (cleanup_in w.member l.entries) serving refl
    by false serving = going_less None w p was (λ none. subst (λ (b : Bool). left_before w.member p < left_if (b && is_some (cleanup_in w.member l.entries)) (left_before w.member p) 1) (sym serving) (over (left_before w.member p) 1 (omega arith))) (λ phase is. absurd cc)

-- an entry went, or nothing was there to go
forget_less : (epoch : ℕ) (id : EntryId) (w : CleaningWork) (p : Owned) → MayClean w.member w.structure p → IsLess (after_step (Forget epoch id) w p) w.member (left_at (Forget epoch id) w p)
forget_less epoch id w p may = record { more = λ is. absurd cc; ends = λ is. by (serves epoch l) refl }
  where
    l : ListStructure
    l = structure_of w.structure p

    before : ℕ
    before = left_before w.member p

    lost : Bool → Option Lost
    lost b = cond b None (Some (record { state = l.state; epoch = l.epoch }))

    gone : (e : Entry) → serves epoch l ≡ true → entry_at id l.entries ≡ Some e → is_to_clean w.member e ≡ true → left_before w.member (cleaned w.member (connection_of w epoch) id e p) < before - 2
    gone e serving at clean =
        let active = (both (is_active l.state) (epoch == l.epoch) serving).0 in
        let one = fewer w.member id l.entries e at clean in
        let new : ListStructure = record l { entries = revise id deleted l.entries } in
        let in_one : left_in w.member new + 1 ≡ left_in w.member l = rw active one in
        let all = all_less w.member w.structure new p.structures may.structure in_one in
        let some = active_part w.member w.structure p active (omega (arith, one)) in
        omega (arith, all, some)

    is_off : (b : Bool) → b ≡ false → before < left_if b before 2
    is_off b is = rw is (over before 2 (omega arith))

    off : (b c : Bool) → c ≡ false → (b && c) ≡ false
    off true c is = is
    off false c is = refl

    if_clean : (e : Entry) (b : Bool) → serves epoch l ≡ true → entry_at id l.entries ≡ Some e → is_to_clean w.member e ≡ b
        → left_before w.member (cond b (cleaned w.member (connection_of w epoch) id e p) p) < left_if (serves epoch l && is_to_clean_if w.member (entry_at id l.entries)) before 2
    if_clean e true serving at clean =
        let on : (serves epoch l && is_to_clean_if w.member (entry_at id l.entries)) ≡ true = rw (serving, at, clean) refl in
        rw on (gone e serving at clean)
    if_clean e false serving at clean = is_off (serves epoch l && is_to_clean_if w.member (entry_at id l.entries)) (rw (serving, at, clean) refl)

    found : (o : Option Entry) → serves epoch l ≡ true → entry_at id l.entries ≡ o
        → left_before w.member (cleaned_if w.member (connection_of w epoch) id (Ok o) p) < left_if (serves epoch l && is_to_clean_if w.member (entry_at id l.entries)) before 2
    found None serving at = is_off (serves epoch l && is_to_clean_if w.member (entry_at id l.entries)) (off (serves epoch l) (is_to_clean_if w.member (entry_at id l.entries)) (ap (is_to_clean_if w.member) at))
    found (Some e) serving at = if_clean e (is_to_clean w.member e) serving at refl

    by : (b : Bool) → serves epoch l ≡ b → left_before w.member (cleaned_if w.member (connection_of w epoch) id (unless (lost b) (entry_at id l.entries)) p) < left_at (Forget epoch id) w p
    by true serving = found (entry_at id l.entries) serving refl
    by false serving = is_off (serves epoch l && is_to_clean_if w.member (entry_at id l.entries)) (ap (λ (b : Bool). b && is_to_clean_if w.member (entry_at id l.entries)) serving)

less_at : (phase : Phase) (w : CleaningWork) (p : Owned) → MayClean w.member w.structure p → AreInOrder (structure_of w.structure p).entries → IsLess (after_step phase w p) w.member (left_at phase w p)
less_at Connect w p may ordered = connect_less w p
less_at (Search epoch) w p may ordered = search_less epoch w p ordered
less_at (Forget epoch id) w p may ordered = forget_less epoch id w p may

pub lowers : (w : CleaningWork) (p : Owned) → MayClean w.member w.structure p → AreInOrder (structure_of w.structure p).entries → (next_of w p).turn ≡ More → left_with (next_of w p).work (next_of w p).parts < left_with w p
lowers w p may ordered = (less_at w.phase w p may ordered).more

pub lowers_at_end : (w : CleaningWork) (p : Owned) → MayClean w.member w.structure p → AreInOrder (structure_of w.structure p).entries → (next_of w p).turn ≡ Done → left_before w.member (next_of w p).parts < left_with w p
lowers_at_end w p may ordered = (less_at w.phase w p may ordered).ends

-- ---- before the first step

pub find_holds : {X : Type 0} (p : X → Bool) (xs : List X) (x : X) → find p xs ≡ Some x → p x ≡ true
find_holds p [] x is = absurd (none-some x is)
find_holds p (y ∷ xs) x is = by (p y) refl is (find_holds p xs x)
  where
    by : (b : Bool) → p y ≡ b → cond b (Some y) (find p xs) ≡ Some x → (find p xs ≡ Some x → p x ≡ true) → p x ≡ true
    by true holds same rest = ap p (sym (same_Some y x same)) ∙ holds
    by false fails later rest = rest later

pub begun_less : (m : Member) (x : StructNo) (p : Owned) → first_to_clean m p ≡ Some x → left_with (new_work m x) p ≤ left_before m p
begun_less m x p is = let on = find_holds (has_cleaning_in m p) (s.One ∷ s.Two ∷ s.Three ∷ s.Four ∷ []) x is in subst (λ (b : Bool). left_if b (left_before m p) 0 ≤ left_before m p) (sym on) (omega arith)

-- ---- whether there is one to clean

-- where no look-up finds one, there is none
none_counts : (m : Member) (es : List Entry) → AllByRecursion (λ (e : Entry). 0 < e.id.number) es → is_some (cleanup_in m es) ≡ false → count_to_clean m es ≡ 0
none_counts m [] above is = refl
none_counts m (x ∷ es) above is = by (is_to_clean m x) refl (rw first at is) (none_counts m es above.1)
  where
    first : is_above no_id x ≡ true
    first = let h = above.0 in grind (arith, nat_tests)

    by : (b : Bool) → is_to_clean m x ≡ b → is_some (cond (true && b) (Some x) (cleanup_in m es)) ≡ false → (is_some (cleanup_in m es) ≡ false → count_to_clean m es ≡ 0) → count_to_clean m (x ∷ es) ≡ 0
    by true holds none rest = absurd (true≢false none)
    by false fails none rest = omega (arith, count-cons (is_to_clean m) x es, ap one_if fails, rest none)

none_left : (m : Member) (l : ListStructure) → AllByRecursion (λ (e : Entry). 0 < e.id.number) l.entries → has_cleanup m l ≡ false → left_in m l ≡ 0
none_left m l above none = by (is_active l.state) none
  where
    by : (b : Bool) → (b && is_some (cleanup_in m l.entries)) ≡ false → cond b (count_to_clean m l.entries) 0 ≡ 0
    by true none = none_counts m l.entries above none
    by false none = refl

find_fails : {X : Type 0} (p : X → Bool) (x : X) (xs : List X) → is_some (find p (x ∷ xs)) ≡ false → (p x ≡ false) × (is_some (find p xs) ≡ false)
find_fails p x xs none = by (p x) refl none
  where
    by : (b : Bool) → p x ≡ b → is_some (cond b (Some x) (find p xs)) ≡ false → (p x ≡ false) × (is_some (find p xs) ≡ false)
    by true holds some = absurd (true≢false some)
    by false fails none = (fails, none)

pub none_to_do : (m : Member) (p : Owned) → AreAbove p → has_cleaning m p ≡ false → all_to_clean m p ≡ 0
none_to_do m p above none =
    let one = find_fails (has_cleaning_in m p) s.One (s.Two ∷ s.Three ∷ s.Four ∷ []) none in
    let two = find_fails (has_cleaning_in m p) s.Two (s.Three ∷ s.Four ∷ []) one.1 in
    let three = find_fails (has_cleaning_in m p) s.Three (s.Four ∷ []) two.1 in
    let four = find_fails (has_cleaning_in m p) s.Four [] three.1 in
    omega (
      arith,
      none_left m (structure_of s.One p) (above s.One) one.0,
      none_left m (structure_of s.Two p) (above s.Two) two.0,
      none_left m (structure_of s.Three p) (above s.Three) three.0,
      none_left m (structure_of s.Four p) (above s.Four) four.0,
    )

pub some_to_do : (m : Member) (p : Owned) → has_cleaning m p ≡ true → 0 < all_to_clean m p
some_to_do m p is = by (first_to_clean m p) refl is
  where
    by : (o : Option StructNo) → first_to_clean m p ≡ o → is_some o ≡ true → 0 < all_to_clean m p
    by None at some = absurd (true≢false (sym some))
    by (Some x) at some =
        let l = structure_of x p in
        let on = both (is_active l.state) (is_some (cleanup_in m l.entries)) (find_holds (has_cleaning_in m p) (s.One ∷ s.Two ∷ s.Three ∷ s.Four ∷ []) x at) in
        omega (arith, active_part m x p on.0 (cleanup_counts m l.entries on.1))
