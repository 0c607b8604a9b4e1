-- what a step of a request does to structures: a live unit sets a mark or takes one off, or structures stay
use Rattle.std.proofs.Common.{◌≡◌, inl, inr, ◌⊎◌, ℕ, ◌+◌, ◌*◌, ◌^◌, ◌≤◌, ◌<◌, Bool, true, false, true≢false, List, [], length, Option, Some, Ok, Err, Result, sym, ap, subst, ◌∙◌, arith}
use Rattle.std.specs.Prelude.{IfSome}
use Rattle.std.specs.List.{AllByRecursion}
use Rattle.std.proofs.lemmas.Bool.{cases_Bool}
use Rattle.qsg_num.specs.declared.seats.StructNo.{StructNo}
use Rattle.qsg_num.specs.declared.ids.EntryId.{EntryId}
use Rattle.qsg_num.specs.declared.ids.UnitName.{UnitName}
use Rattle.qsg_num.specs.declared.words.Delivery.{Delivery}
use Rattle.qsg_num.specs.Seats.{structure_number}
use Rattle.qsg_lists.specs.declared.parts.Connection.{Connection}
use Rattle.qsg_lists.specs.declared.parts.Entry.{Entry}
use Rattle.qsg_lists.specs.declared.parts.Head.{Head}
use Rattle.qsg_lists.specs.declared.parts.Lost.{Lost}
use Rattle.qsg_lists.specs.declared.parts.Mark.TheVariants.{GotBy}
use Rattle.qsg_lists.specs.declared.parts.Place.{Place}
use Rattle.qsg_lists.specs.declared.parts.Selector.{Selector}
use Rattle.qsg_lists.specs.declared.parts.Settled.{Settled}
use Rattle.qsg_lists.specs.declared.parts.Settled.TheVariants.{Done, NotYours}
use Rattle.qsg_lists.specs.Entries.{revise, KeepsId}
use Rattle.qsg_lists.specs.Settling.{settle_answer, settled_entry, revised_if_done}
use Rattle.qsg_lists.specs.Structures.{ListStructure, is_active}
use Rattle.qsg_lists.specs.Taking.{got_by}
use Rattle.qsg_lists.specs.Writing.{new_entry, written}
use Rattle.qsg_lists.proofs.Revising.{keeps-settled, keeps-marked}
use Rattle.qsg_manager.specs.declared.structures.MarkedEntry.{MarkedEntry}
use Rattle.qsg_manager.specs.Facilities.{structure_in, with_structure}
use Rattle.qsg_manager.specs.Getting.{found_in, with_taken}
use Rattle.qsg_manager.specs.Storage.{manager_in}
use Rattle.qsg_parts.specs.Owned.{Owned}
use Rattle.qsg_steady.specs.Steady.{IsLive}
use Rattle.qsg_peer.specs.declared.phases.FailedLife.{FailedLife}
use Rattle.qsg_peer.specs.Machine.{is_of, IsOver}
use Rattle.qsg_peer.specs.Pace.{HasNoMoreMarks}
use Rattle.qsg_peer.specs.Sweeping.{AreAbove, AreOrdered}
use Rattle.qsg_lives.specs.Marks.{LeavesMarks, marks_left, IsUp, AreEmptyUnlessActive}
use Rattle.qsg_lives.proofs.Counting.{same_life, live_other}
use Rattle.qsg_lives.proofs.Entries.{one_if, marks-push, marks-revise_few, all-kept, all-pushed}
use Rattle.qsg_lives.proofs.Structures.{one_all, one_no_more, one_counted, none_changed, put_leaves, got_leaves, off_in, settle_counts, settle_no_more, settle_leaves}

-- ---- what is done to one structure of a list

-- an entry with the mark of a unit is added, to a structure that is active
pub record HasPut (u : UnitName) (before after : List ListStructure) : Type 0 where
  pub structure : StructNo
  pub head : Head
  pub place : Place
  pub within : structure_number structure ≤ length before
  pub active : is_active (structure_in structure before).state ≡ true
  pub is : after ≡ with_structure structure (written (structure_in structure before) u head place) before

-- an entry gets the mark of a unit
pub record HasGot (u : UnitName) (before after : List ListStructure) : Type 0 where
  pub connection : Connection
  pub queue : List ℕ
  pub order : Delivery
  pub select : Selector
  pub entry : Entry
  pub within : structure_number connection.structure ≤ length before
  pub found : found_in connection queue order select before ≡ Some entry
  pub is : after ≡ with_taken u connection (Some entry) before

-- a mark of a unit comes off, if it stands
pub record HasOff (u : UnitName) (before after : List ListStructure) : Type 0 where
  pub commits : Bool
  pub connection : Connection
  pub id : EntryId
  pub within : structure_number connection.structure ≤ length before
  pub is : after ≡ with_structure connection.structure (off_in commits connection (record { id = id; unit = u }) (structure_in connection.structure before)) before

-- a mark of a unit comes off, or structures stay
abbrev pub OffOrSame : UnitName → List ListStructure → List ListStructure → Type 0
OffOrSame u before after = (after ≡ before) ⊎ HasOff u before after

-- a mark comes off, or one is set in a step that answers
abbrev pub Touches : ℕ → UnitName → List ListStructure → List ListStructure → Type 0
Touches n u before after = HasOff u before after ⊎ ((n ≡ 1) × (HasPut u before after ⊎ HasGot u before after))

-- the unit is one of an incarnation that is up
pub record IsTouched (n : ℕ) (p : Owned) (after : List ListStructure) : Type 0 where
  pub unit : UnitName
  pub live : IsLive (manager_in unit.member p.managers) unit
  pub touches : Touches n unit p.structures after

abbrev pub Leads : ℕ → Owned → List ListStructure → Type 0
Leads n p after = (after ≡ p.structures) ⊎ IsTouched n p after

pub led_by : (n : ℕ) (u : UnitName) (p : Owned) (after : List ListStructure) → IsLive (manager_in u.member p.managers) u → OffOrSame u p.structures after → Leads n p after
led_by n u p after live (inl same) = inl same
led_by n u p after live (inr off) = inr (record { unit = u; live = live; touches = inl off })

-- ---- how many marks of an incarnation stand then

pub off_few : (life : FailedLife) (u : UnitName) (p q : Owned) → HasOff u p.structures q.structures → marks_left life q ≤ marks_left life p
off_few life u p q off =
    let found : MarkedEntry = record { id = off.id; unit = u } in
    let s = structure_in off.connection.structure p.structures in
    omega (arith, one_counted life off.connection.structure (off_in off.commits off.connection found s) p q off.within off.is, settle_counts life off.commits off.connection found s)

put_few : (life : FailedLife) (u : UnitName) (p q : Owned) → HasPut u p.structures q.structures → marks_left life q ≤ marks_left life p + one_if (is_of life u)
put_few life u p q put =
    let old = structure_in put.structure p.structures in
    omega (arith, one_counted life put.structure (written old u put.head put.place) p q put.within put.is, marks-push life old.entries (new_entry old u put.head put.place))

got_few : (life : FailedLife) (u : UnitName) (p q : Owned) → HasGot u p.structures q.structures → marks_left life q ≤ marks_left life p + one_if (is_of life u)
got_few life u p q got =
    let old = structure_in got.connection.structure p.structures in
    let f : Entry → Option Entry = λ x. Some (got_by u x) in
    omega (
      arith,
      one_counted life got.connection.structure (record old { entries = revise got.entry.id f old.entries }) p q got.within got.is,
      marks-revise_few life got.entry.id f (one_if (is_of life u)) old.entries (λ e. omega arith),
    )

touch_few : (life : FailedLife) (n : ℕ) (u : UnitName) (p q : Owned) → Touches n u p.structures q.structures → marks_left life q ≤ marks_left life p + one_if (is_of life u)
touch_few life n u p q (inl off) = omega (arith, off_few life u p q off)
touch_few life n u p q (inr (one, inl put)) = put_few life u p q put
touch_few life n u p q (inr (one, inr got)) = got_few life u p q got

one_most : (b : Bool) → one_if b ≤ 1
one_most true = omega arith
one_most false = omega arith

touch_most : (life : FailedLife) (n : ℕ) (u : UnitName) (p q : Owned) → Touches n u p.structures q.structures → marks_left life q ≤ marks_left life p + n
touch_most life n u p q (inl off) = omega (arith, off_few life u p q off)
touch_most life n u p q (inr (one, sets)) = omega (arith, one, touch_few life n u p q (inr (one, sets)), one_most (is_of life u))

pub leads_most : (life : FailedLife) (n : ℕ) (p q : Owned) → Leads n p q.structures → marks_left life q ≤ marks_left life p + n
leads_most life n p q (inl same) = omega (arith, (none_changed life p q same).marks)
leads_most life n p q (inr touched) = touch_most life n touched.unit p q touched.touches

-- a unit of the incarnation is one of an incarnation that is up
up_of : (life : FailedLife) (u : UnitName) (p : Owned) → is_of life u ≡ true → IsLive (manager_in u.member p.managers) u → IsUp life p
up_of life u p is live =
    let same = same_life life u is in
    record {
      up = subst (λ m. (manager_in m p.managers).up ≡ true) same.0 live.up;
      incarnation = (λ i. record { number = sym same.1 i }) ∙ live.incarnation ∙ ap (λ m. (manager_in m p.managers).incarnation) same.0;
    }

pub leads_own : (life : FailedLife) (n : ℕ) (p q : Owned) → Leads n p q.structures → marks_left life p < marks_left life q → IsUp life p
leads_own life n p q (inl same) more = absurd (omega (arith, (none_changed life p q same).marks, more))
leads_own life n p q (inr touched) more = elim (cases_Bool (is_of life touched.unit)) [
  | inl is ↦ up_of life touched.unit p is touched.live
  | inr other ↦ absurd (omega (arith, more, touch_few life n touched.unit p q touched.touches, ap one_if other))
]

-- ---- above which ids they stand

pub off_no_more : (life : FailedLife) (u : UnitName) (p q : Owned) → HasOff u p.structures q.structures → HasNoMoreMarks life p q
off_no_more life u p q off =
    let found : MarkedEntry = record { id = off.id; unit = u } in
    let s = structure_in off.connection.structure p.structures in
    one_no_more life off.connection.structure (off_in off.commits off.connection found s) p q off.within off.is (settle_no_more life off.commits off.connection found s)

-- ---- a unit of another incarnation leaves the marks of one

touch_leaves : (life : FailedLife) (n : ℕ) (u : UnitName) (p q : Owned) → is_of life u ≡ false → AreOrdered p → Touches n u p.structures q.structures → LeavesMarks life p q
touch_leaves life n u p q other ordered (inl off) = settle_leaves life off.commits off.connection (record { id = off.id; unit = u }) p q other ordered off.within off.is
touch_leaves life n u p q other ordered (inr (one, inl put)) = put_leaves life put.structure u put.head put.place p q other put.within put.is
touch_leaves life n u p q other ordered (inr (one, inr got)) = got_leaves life u got.connection got.queue got.order got.select got.entry p q other ordered got.within got.found got.is

pub leads_leaves : (life : FailedLife) (n : ℕ) (p q : Owned) → AreOrdered p → IsOver life p → Leads n p q.structures → LeavesMarks life p q
leads_leaves life n p q ordered over (inl same) = none_changed life p q same
leads_leaves life n p q ordered over (inr touched) = touch_leaves life n touched.unit p q (live_other p touched.unit life touched.live over) ordered touched.touches

-- ---- ids stay above 0

abbrev are_above : List Entry → Type 0
are_above es = AllByRecursion (λ (e : Entry). 0 < e.id.number) es

abbrev has_above : ListStructure → Type 0
has_above l = are_above l.entries

keeps_above : (f : Entry → Option Entry) → KeepsId f → (e x : Entry) → f e ≡ Some x → 0 < e.id.number → 0 < x.id.number
keeps_above f keeps e x is above = subst (λ (i : EntryId). 0 < i.number) (sym (subst (λ (o : Option Entry). IfSome o (λ y. y.id ≡ e.id)) is (keeps e))) above

beyond : (a n : ℕ) → 0 < a + (n + 1)
beyond a n = omega arith

settled_above : (commits : Bool) (id : EntryId) (r : Result Settled Lost) (s : ListStructure) → are_above s.entries → are_above (revised_if_done r id (settled_entry commits) s).entries
settled_above commits id (Ok Done) s all = all-kept (λ e. 0 < e.id.number) id (settled_entry commits) s.entries (keeps_above (settled_entry commits) (keeps-settled commits).same_id) all
settled_above commits id (Ok (NotYours mark)) s all = all
settled_above commits id (Err lost) s all = all

pub off_above : (u : UnitName) (p q : Owned) → HasOff u p.structures q.structures → AreAbove p → AreAbove q
off_above u p q off above =
    let s = structure_in off.connection.structure p.structures in
    one_all has_above off.connection.structure (off_in off.commits off.connection (record { id = off.id; unit = u }) s) p.structures q.structures off.within off.is
    (settled_above off.commits off.id (settle_answer s off.connection off.id u) s (above off.connection.structure)) above

put_above : (u : UnitName) (p q : Owned) → HasPut u p.structures q.structures → AreAbove p → AreAbove q
put_above u p q put above =
    let s = structure_in put.structure p.structures in
    one_all has_above put.structure (written s u put.head put.place) p.structures q.structures put.within put.is
    (all-pushed (λ e. 0 < e.id.number) s.entries (new_entry s u put.head put.place) (beyond (s.epoch * 2 ^ 40) s.last) (above put.structure)) above

got_above : (u : UnitName) (p q : Owned) → HasGot u p.structures q.structures → AreAbove p → AreAbove q
got_above u p q got above =
    let s = structure_in got.connection.structure p.structures in
    let f : Entry → Option Entry = λ x. Some (got_by u x) in
    one_all has_above got.connection.structure (record s { entries = revise got.entry.id f s.entries }) p.structures q.structures got.within got.is
    (all-kept (λ e. 0 < e.id.number) got.entry.id f s.entries (keeps_above f (keeps-marked (GotBy u)).same_id) (above got.connection.structure)) above

pub same_above : (p q : Owned) → q.structures ≡ p.structures → AreAbove p → AreAbove q
same_above p q is above = λ x. subst (λ ls. are_above (structure_in x ls).entries) (sym is) (above x)

touch_above : (n : ℕ) (u : UnitName) (p q : Owned) → Touches n u p.structures q.structures → AreAbove p → AreAbove q
touch_above n u p q (inl off) above = off_above u p q off above
touch_above n u p q (inr (one, inl put)) above = put_above u p q put above
touch_above n u p q (inr (one, inr got)) above = got_above u p q got above

pub leads_above : (n : ℕ) (p q : Owned) → Leads n p q.structures → AreAbove p → AreAbove q
leads_above n p q (inl same) above = same_above p q same above
leads_above n p q (inr touched) above = touch_above n touched.unit p q touched.touches above

-- ---- what isn't active stays empty

abbrev is_empty : ListStructure → Type 0
is_empty l = is_active l.state ≡ false → l.entries ≡ []

settled_empty : (commits : Bool) (id : EntryId) (r : Result Settled Lost) (s : ListStructure) → is_empty s → is_empty (revised_if_done r id (settled_entry commits) s)
settled_empty commits id (Ok Done) s was idle = ap (revise id (settled_entry commits)) (was idle)
settled_empty commits id (Ok (NotYours mark)) s was idle = was idle
settled_empty commits id (Err lost) s was idle = was idle

pub off_empty : (u : UnitName) (p q : Owned) → HasOff u p.structures q.structures → AreEmptyUnlessActive p → AreEmptyUnlessActive q
off_empty u p q off empty =
    let s = structure_in off.connection.structure p.structures in
    one_all is_empty off.connection.structure (off_in off.commits off.connection (record { id = off.id; unit = u }) s) p.structures q.structures off.within off.is
    (settled_empty off.commits off.id (settle_answer s off.connection off.id u) s (empty off.connection.structure)) empty

put_empty : (u : UnitName) (p q : Owned) → HasPut u p.structures q.structures → AreEmptyUnlessActive p → AreEmptyUnlessActive q
put_empty u p q put empty =
    one_all is_empty put.structure (written (structure_in put.structure p.structures) u put.head put.place) p.structures q.structures put.within put.is
    (λ idle. absurd (true≢false (sym put.active ∙ idle))) empty

got_empty : (u : UnitName) (p q : Owned) → HasGot u p.structures q.structures → AreEmptyUnlessActive p → AreEmptyUnlessActive q
got_empty u p q got empty =
    let s = structure_in got.connection.structure p.structures in
    let f : Entry → Option Entry = λ x. Some (got_by u x) in
    one_all is_empty got.connection.structure (record s { entries = revise got.entry.id f s.entries }) p.structures q.structures got.within got.is
    (λ idle. ap (revise got.entry.id f) (empty got.connection.structure idle)) empty

pub same_empty : (p q : Owned) → q.structures ≡ p.structures → AreEmptyUnlessActive p → AreEmptyUnlessActive q
same_empty p q is empty = λ x. subst (λ ls. is_empty (structure_in x ls)) (sym is) (empty x)

touch_empty : (n : ℕ) (u : UnitName) (p q : Owned) → Touches n u p.structures q.structures → AreEmptyUnlessActive p → AreEmptyUnlessActive q
touch_empty n u p q (inl off) empty = off_empty u p q off empty
touch_empty n u p q (inr (one, inl put)) empty = put_empty u p q put empty
touch_empty n u p q (inr (one, inr got)) empty = got_empty u p q got empty

pub leads_empty : (n : ℕ) (p q : Owned) → Leads n p q.structures → AreEmptyUnlessActive p → AreEmptyUnlessActive q
leads_empty n p q (inl same) empty = same_empty p q same empty
leads_empty n p q (inr touched) empty = touch_empty n touched.unit p q touched.touches empty
