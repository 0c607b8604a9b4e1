-- The laws on structures and their ids.
use Rattle.qsg_group.specs.Changes.Change.{Recovers, Purges, Reopens}
use Rattle.qsg_group.proofs.Purging.{put_purged, count_purged, top_reopened, connected_reopened, connected_inactive, not_both, recovers_inactive}
use Rattle.qsg_group.specs.Changes.{in_recovery, reopened_shelf}
use Rattle.qsg_group.proofs.Tables.{cases_structure}
use Rattle.qsg_num.specs.declared.seats.Member.{Member}
use Rattle.qsg_num.specs.declared.ids.Incarnation.{Incarnation}
use Rattle.qsg_lists.specs.Recovering.{is_recovering}
use Rattle.qsg_group.specs.Laws.{AreRising}
use Rattle.std.proofs.Common.{◌≡◌, ℕ, ◌+◌, ◌*◌, ◌^◌, ◌<◌, ◌≤◌, Bool, true, false, cond, List, [], ◌∷◌, ◌++◌, Option, Some, None, refl, sym, ap, subst, ◌∙◌, arith, inl, inr}
use Rattle.std.specs.Prelude.{◌⊎◌}
use Rattle.std.specs.List.{AllByRecursion}
use Rattle.std.proofs.lemmas.Bool.{cases_Bool, both_ways}
use Rattle.std.proofs.lemmas.Option.{same_Some}
use Rattle.qsg_num.specs.declared.seats.StructNo.{StructNo}
use Rattle.qsg_num.specs.declared.seats.TaskNo.{TaskNo}
use Rattle.qsg_num.specs.declared.ids.UnitName.{UnitName}
use Rattle.qsg_num.specs.declared.ids.EntryId.{EntryId}
use Rattle.qsg_num.specs.Seats.{structure_number}
use Rattle.qsg_num.specs.Ids.{same_unit, id_at, epoch_of}
use Rattle.qsg_msg.specs.declared.message.Message.{Message}
use Rattle.qsg_model.specs.declared.history.Op.{Op}
use Rattle.qsg_model.specs.declared.history.Op.TheVariants.{Put, Got}
use Rattle.qsg_model.specs.declared.history.Item.TheVariants.{Unit as UnitOf, Lost}
use Rattle.qsg_model.specs.History.{key, same_key, ends_of, count_of}
use Rattle.qsg_model.specs.Past.{is_put}
use Rattle.qsg_model.proofs.Growing.{was_put-push}
use Rattle.qsg_model.proofs.Differing.{fold_push, same_key-true}
use Rattle.qsg_lists.specs.declared.parts.Mark.{Mark}
use Rattle.qsg_lists.specs.declared.parts.Mark.TheVariants.{Visible, PutBy, GotBy, Cleanup}
use Rattle.qsg_lists.specs.Structures.{is_active}
use Rattle.qsg_group.specs.declared.tasks.Claim.{Claim}
use Rattle.qsg_group.specs.declared.tasks.Task.{Task}
use Rattle.qsg_group.specs.Tables.{at_structure}
use Rattle.qsg_group.specs.Group.{Held, Shelf, Group, idle}
use Rattle.qsg_group.specs.Observers.{entry_at, top_of, revise, is_committed}
use Rattle.qsg_group.specs.Laws.{is_pending, IsOfEpoch, IsShelf, AreShelves, AreEpochs, IsFresh, AreGiven, IsConnected, AreConnected, Laws}
use Rattle.qsg_group.specs.Changes.{open_task, hardening_task, settling_task, with_entry, with_entries, marked, removed, settled_entry, settle, forget, is_commit, lost_shelf, claim_of, MayPut, Change}
use Rattle.qsg_group.specs.Changes.Change.{Draws, Puts, Gets, Ungets, Forgets, Begins, Hardens, BacksOut, Settles, Finishes, Crashes, Stops, PeerSettles, Loses}
use Rattle.qsg_group.proofs.Tables.{every_structure, change-same, same_structure}
use Rattle.qsg_group.proofs.Entries.{num, KeepsId, rising_push, rising_revise, all_push, all_revise, forget_before}
use Rattle.qsg_group.proofs.Keys.{put_put, put_got}
use Rattle.qsg_group.proofs.Holding.{Every, got_task, every_after}
use Rattle.qsg_group.proofs.Failing.{every_crashed}
use Rattle.qsg_group.proofs.Losing.{put_lost, count_lost, top_lost, connected_lost}
use Rattle.qsg_group.proofs.Pages.{has_unit}

-- ---- what a settle leaves of an entry

-- it keeps its message, and isn't pending any more, or it stays as it was since another unit marks it
abbrev pub Left : UnitName → Mark → Held → Held → Type 0
Left u mark e x = (x.message ≡ e.message) × ((is_pending x.mark ≡ false) ⊎ ((x ≡ e) × (mark ≡ PutBy u → ⊥) × (mark ≡ GotBy u → ⊥)))

made : (u : UnitName) (mark new : Mark) (e x : Held) → is_pending new ≡ false → marked new e ≡ Some x → Left u mark e x
made u mark new e x quiet is =
    let same : x ≡ record e { mark = new } = sym (same_Some (record e { mark = new }) x is) in
    (ap (λ (y : Held). y.message) same, inl (ap (λ (y : Held). is_pending y.mark) same ∙ quiet))

gone : (u : UnitName) (mark : Mark) (e x : Held) → removed e ≡ Some x → Left u mark e x
gone u mark e x is = by e.outside is
  where
    by : (b : Bool) → cond b (marked Cleanup e) None ≡ Some x → Left u mark e x
    by true is = made u mark Cleanup e x refl is
    by false is = absurd cc

stayed : (u : UnitName) (mark : Mark) (e x : Held) → (mark ≡ PutBy u → ⊥) → (mark ≡ GotBy u → ⊥) → Some e ≡ Some x → Left u mark e x
stayed u mark e x no_put no_got is = let same : x ≡ e = sym (same_Some e x is) in (ap (λ (y : Held). y.message) same, inr (same, no_put, no_got))

put_unit : (u v : UnitName) → PutBy v ≡ PutBy u → u ≡ v
put_unit u v e = cc

got_unit : (u v : UnitName) → GotBy v ≡ GotBy u → u ≡ v
got_unit u v e = cc

pub unit_self : (u v : UnitName) → same_unit u v ≡ false → u ≡ v → ⊥
unit_self u v differ e = both_ways (same_unit u v) differ (ap (same_unit u) (sym e) ∙ Rattle.qsg_model.proofs.Differing.same_unit-self u)

pub left_of : (u : UnitName) (commits : Bool) (mark : Mark) (e x : Held) → settled_entry u commits mark e ≡ Some x → Left u mark e x
left_of u commits Visible e x is = stayed u Visible e x (λ p. absurd cc) (λ p. absurd cc) is
left_of u commits Cleanup e x is = stayed u Cleanup e x (λ p. absurd cc) (λ p. absurd cc) is
left_of u commits (PutBy v) e x is = by (same_unit u v) refl commits is
  where
    by : (b : Bool) → same_unit u v ≡ b → (c : Bool) → cond b (cond c (marked Visible e) (removed e)) (Some e) ≡ Some x → Left u (PutBy v) e x
    by true same true is = made u (PutBy v) Visible e x refl is
    by true same false is = gone u (PutBy v) e x is
    by false differ c is = stayed u (PutBy v) e x (λ p. unit_self u v differ (put_unit u v p)) (λ p. absurd cc) is
left_of u commits (GotBy v) e x is = by (same_unit u v) refl commits is
  where
    by : (b : Bool) → same_unit u v ≡ b → (c : Bool) → cond b (cond c (removed e) (marked Visible e)) (Some e) ≡ Some x → Left u (GotBy v) e x
    by true same true is = gone u (GotBy v) e x is
    by true same false is = made u (GotBy v) Visible e x refl is
    by false differ c is = stayed u (GotBy v) e x (λ p. absurd cc) (λ p. unit_self u v differ (got_unit u v p)) is

abbrev pub settler : UnitName → Bool → Held → Option Held
settler u commits e = settled_entry u commits e.mark e

pub settler_keeps : (u : UnitName) (commits : Bool) → KeepsId (settler u commits)
settler_keeps u commits e x is = ap (λ (m : Message). m.id.number) (left_of u commits e.mark e x is).0

pub marker_keeps : (mark : Mark) → KeepsId (marked mark)
marker_keeps mark e x is = ap num (sym (same_Some (record e { mark = mark }) x is))

pub forgetter_keeps : KeepsId (λ e. None)
forgetter_keeps e x is = absurd cc

-- what is in a structure after an entry went was there before
pub was_there : (g : Group) (s : StructNo) (n : ℕ) → Laws g → (x : StructNo) (id : ℕ) (e : Held) → entry_at id (at_structure s (with_entries (forget n)) g.shelves x).entries ≡ Some e → entry_at id (g.shelves x).entries ≡ Some e
was_there g s n laws = every_structure (λ x shelf. (id : ℕ) (e : Held) → entry_at id shelf.entries ≡ Some e → entry_at id (g.shelves x).entries ≡ Some e) s (with_entries (forget n)) g.shelves
    (λ id e there. forget_before (top_of (g.shelves s)) n id (g.shelves s).entries e (laws.shelves s).rising there)
    (λ x differ id e there. there)

-- ---- structures

epoch_is : (epoch seq : ℕ) → seq < 2 ^ 40 → epoch_of (id_at epoch seq) ≡ epoch
epoch_is epoch seq lt = omega arith

shelf_puts : (g : Group) (u : UnitName) (t : TaskNo) (ops : List (StructNo × Op)) (claims : List Claim) (s : StructNo) (m : Message) (outside : Bool) → MayPut g u t ops claims s m → Laws g
    → IsShelf s (with_entry (record { message = m; mark = PutBy u; outside = outside }) (g.shelves s))
shelf_puts g u t ops claims s m outside may laws =
    let shelf = g.shelves s in
    let old = laws.shelves s in
    let n : m.id.number ≡ shelf.epoch * 2 ^ 40 + (shelf.last + 1) = ap (λ (i : EntryId). i.number) may.id in
    let e : Held = record { message = m; mark = PutBy u; outside = outside } in
    record {
      last_fits = may.fits;
      rising = rising_push (top_of shelf) (shelf.epoch * 2 ^ 40 + (shelf.last + 1)) shelf.entries e old.rising (omega (arith, n)) (omega (arith, n));
      own = all_push (λ x. x.message.structure ≡ s) shelf.entries e old.own may.own;
      present = all_push (IsOfEpoch shelf.epoch) shelf.entries e old.present (λ v is. ap epoch_of may.id ∙ epoch_is shelf.epoch (shelf.last + 1) may.fits);
      quiet = λ idle. absurd (both_ways (is_active shelf.state) idle may.active);
    }

shelf_gets : (g : Group) (u : UnitName) (s : StructNo) (id : ℕ) → is_active (g.shelves s).state ≡ true → Laws g → IsShelf s (with_entries (revise id (marked (GotBy u))) (g.shelves s))
shelf_gets g u s id active laws =
    let shelf = g.shelves s in
    let old = laws.shelves s in
    let f = marked (GotBy u) in
    record {
      last_fits = old.last_fits;
      rising = rising_revise (top_of shelf) id f shelf.entries (marker_keeps (GotBy u)) old.rising;
      own = all_revise (λ x. x.message.structure ≡ s) id f shelf.entries (λ e x own is. ap (λ (y : Held). y.message.structure) (sym (same_Some (record e { mark = GotBy u }) x is)) ∙ own) old.own;
      present = all_revise (IsOfEpoch shelf.epoch) id f shelf.entries (λ e x own is. λ v put. let g : GotBy u ≡ PutBy v = ap (λ (y : Held). y.mark) (same_Some (record e { mark = GotBy u }) x is) ∙ put in absurd cc) old.present;
      quiet = λ idle. absurd (both_ways (is_active shelf.state) idle active);
    }

shelf_settles : (g : Group) (u : UnitName) (s : StructNo) (id : ℕ) (commits : Bool) → Laws g → IsShelf s (with_entries (settle id u commits) (g.shelves s))
shelf_settles g u s id commits laws =
    let shelf = g.shelves s in
    let old = laws.shelves s in
    let f = settler u commits in
    record {
      last_fits = old.last_fits;
      rising = rising_revise (top_of shelf) id f shelf.entries (settler_keeps u commits) old.rising;
      own = all_revise (λ x. x.message.structure ≡ s) id f shelf.entries (λ e x own is. ap (λ (y : Message). y.structure) (left_of u commits e.mark e x is).0 ∙ own) old.own;
      present = all_revise (IsOfEpoch shelf.epoch) id f shelf.entries (λ e x own is. λ v put. elim (left_of u commits e.mark e x is).1 [
        | inl quiet ↦ absurd (both_ways (is_pending x.mark) quiet (ap is_pending put))
        | inr same ↦ ap (λ (y : Held). epoch_of y.message.id) same.0 ∙ own v (ap (λ (y : Held). y.mark) (sym same.0) ∙ put)
      ]) old.present;
      quiet = λ idle. all_revise (λ x. is_pending x.mark ≡ false) id f shelf.entries (λ e x own is. elim (left_of u commits e.mark e x is).1 [
        | inl quiet ↦ quiet
        | inr same ↦ ap (λ (y : Held). is_pending y.mark) same.0 ∙ own
      ]) (old.quiet idle);
    }

shelf_forgets : (g : Group) (s : StructNo) (id : ℕ) → Laws g → IsShelf s (with_entries (forget id) (g.shelves s))
shelf_forgets g s id laws =
    let shelf = g.shelves s in
    let old = laws.shelves s in
    record {
      last_fits = old.last_fits;
      rising = rising_revise (top_of shelf) id (λ e. None) shelf.entries forgetter_keeps old.rising;
      own = all_revise (λ x. x.message.structure ≡ s) id (λ e. None) shelf.entries (λ e x own is. absurd cc) old.own;
      present = all_revise (IsOfEpoch shelf.epoch) id (λ e. None) shelf.entries (λ e x own is. absurd cc) old.present;
      quiet = λ idle. all_revise (λ x. is_pending x.mark ≡ false) id (λ e. None) shelf.entries (λ e x own is. absurd cc) (old.quiet idle);
    }

pub shelves_stay : (g h : Group) → Change g h → Laws g → AreShelves h.shelves
shelves_stay g _ (Puts _ u t ops claims s m outside may) laws = every_structure IsShelf s (with_entry (record { message = m; mark = PutBy u; outside = outside })) g.shelves (shelf_puts g u t ops claims s m outside may laws) (λ x differ. laws.shelves x)
shelves_stay g _ (Gets _ u t ops claims s m outside may) laws = every_structure IsShelf s (with_entries (revise m.id.number (marked (GotBy u)))) g.shelves (shelf_gets g u s m.id.number may.active laws) (λ x differ. laws.shelves x)
shelves_stay g _ (Settles _ u t claims first n c may) laws = every_structure IsShelf c.connection.structure (with_entries (settle c.id.number u (is_commit first))) g.shelves (shelf_settles g u c.connection.structure c.id.number (is_commit first) laws) (λ x differ. laws.shelves x)
shelves_stay g _ (Ungets _ u t ops claims c may) laws = every_structure IsShelf c.connection.structure (with_entries (settle c.id.number u false)) g.shelves (shelf_settles g u c.connection.structure c.id.number false laws) (λ x differ. laws.shelves x)
shelves_stay g _ (Forgets _ s id may) laws = every_structure IsShelf s (with_entries (forget id)) g.shelves (shelf_forgets g s id laws) (λ x differ. laws.shelves x)
shelves_stay g _ (PeerSettles _ s id u may) laws = every_structure IsShelf s (with_entries (settle id u (is_committed g.logs u))) g.shelves (shelf_settles g u s id (is_committed g.logs u) laws) (λ x differ. laws.shelves x)
shelves_stay g _ (Loses _ s may) laws = every_structure IsShelf s lost_shelf g.shelves (record { last_fits = omega arith; rising = tt; own = tt; present = tt; quiet = λ idle_now. tt }) (λ x differ. laws.shelves x)
shelves_stay g _ (Recovers _ s m i may) laws = every_structure IsShelf s (in_recovery m i) g.shelves (record { last_fits = (laws.shelves s).last_fits; rising = tt; own = tt; present = tt; quiet = λ idle_now. tt }) (λ x differ. laws.shelves x)
shelves_stay g _ (Reopens _ s may) laws = every_structure IsShelf s (reopened_shelf (g.tops s)) g.shelves (record {
  last_fits = (laws.shelves s).last_fits;
  rising = subst (AreRising (top_of (reopened_shelf (g.tops s) (g.shelves s)))) (sym may.empty) tt;
  own = subst (AllByRecursion (λ e. e.message.structure ≡ s)) (sym may.empty) tt;
  present = subst (AllByRecursion (IsOfEpoch (reopened_shelf (g.tops s) (g.shelves s)).epoch)) (sym may.empty) tt;
  quiet = λ idle_now. absurd cc;
}) (λ x differ. laws.shelves x)
shelves_stay g _ _ laws = laws.shelves

-- ---- epochs

epochs_at : (g : Group) (s : StructNo) (f : Shelf → Shelf) → ((shelf : Shelf) → ((f shelf).state ≡ shelf.state) × ((f shelf).epoch ≡ shelf.epoch)) → Laws g → AreEpochs g.history (at_structure s f g.shelves)
epochs_at g s f same laws = every_structure (λ x shelf. is_active shelf.state ≡ true → shelf.epoch ≡ count_of (structure_number x) g.history) s f g.shelves
    (λ active. (same (g.shelves s)).1 ∙ laws.epochs s (ap is_active (sym (same (g.shelves s)).0) ∙ active)) (λ x differ. laws.epochs x)

pub epochs_stay : (g h : Group) → Change g h → Laws g → AreEpochs h.history h.shelves
epochs_stay g _ (Puts _ u t ops claims s m outside may) laws = epochs_at g s (with_entry (record { message = m; mark = PutBy u; outside = outside })) (λ shelf. (refl, refl)) laws
epochs_stay g _ (Gets _ u t ops claims s m outside may) laws = epochs_at g s (with_entries (revise m.id.number (marked (GotBy u)))) (λ shelf. (refl, refl)) laws
epochs_stay g _ (Settles _ u t claims first n c may) laws = epochs_at g c.connection.structure (with_entries (settle c.id.number u (is_commit first))) (λ shelf. (refl, refl)) laws
epochs_stay g _ (Ungets _ u t ops claims c may) laws = epochs_at g c.connection.structure (with_entries (settle c.id.number u false)) (λ shelf. (refl, refl)) laws
epochs_stay g _ (Forgets _ s id may) laws = epochs_at g s (with_entries (forget id)) (λ shelf. (refl, refl)) laws
epochs_stay g _ (PeerSettles _ s id u may) laws = epochs_at g s (with_entries (settle id u (is_committed g.logs u))) (λ shelf. (refl, refl)) laws
epochs_stay g _ (Hardens _ u t ops claims first next may) laws = λ s active. laws.epochs s active ∙ sym (fold_push (λ a i. a + ends_of (structure_number s) i) 0 g.history (UnitOf u ops) ∙ zero_more (count_of (structure_number s) g.history))
  where
    zero_more : (n : ℕ) → n + 0 ≡ n
    zero_more n = omega arith
epochs_stay g _ (Loses _ s may) laws = every_structure (λ x shelf. is_active shelf.state ≡ true → shelf.epoch ≡ count_of (structure_number x) (g.history ++ Lost s ∷ [])) s lost_shelf g.shelves
    (λ active. absurd cc) (λ x differ active. laws.epochs x active ∙ sym (count_lost (structure_number x) g.history s differ))
epochs_stay g _ (Recovers _ s m i may) laws = every_structure (λ x shelf. is_active shelf.state ≡ true → shelf.epoch ≡ count_of (structure_number x) g.history) s (in_recovery m i) g.shelves (λ active. absurd cc) (λ x differ. laws.epochs x)
epochs_stay g _ (Purges _ s may) laws = λ x active. elim (cases_structure x s) [
  | inl same ↦ absurd (not_both (g.shelves x).state active (subst (λ y. is_recovering (g.shelves y).state ≡ true) (sym same) may.recovering))
  | inr differ ↦ laws.epochs x active ∙ sym (count_purged (structure_number x) g.history s differ)
]
epochs_stay g _ (Reopens _ s may) laws = every_structure (λ x shelf. is_active shelf.state ≡ true → shelf.epoch ≡ count_of (structure_number x) g.history) s (reopened_shelf (g.tops s)) g.shelves
    (λ active. (laws.noted s).inactive (recovers_inactive (g.shelves s).state may.recovering)) (λ x differ. laws.epochs x)
epochs_stay g _ _ laws = laws.epochs

-- ---- ids

top_after_put : (g : Group) (s : StructNo) (e : Held) (x : StructNo) → top_of (g.shelves x) ≤ top_of (at_structure s (with_entry e) g.shelves x)
top_after_put g s e = every_structure (λ x shelf. top_of (g.shelves x) ≤ top_of shelf) s (with_entry e) g.shelves (omega arith) (λ x differ. omega arith)

top_after_other : (g : Group) (s : StructNo) (f : List Held → List Held) (x : StructNo) → top_of (at_structure s (with_entries f) g.shelves x) ≡ top_of (g.shelves x)
top_after_other g s f = every_structure (λ x shelf. top_of shelf ≡ top_of (g.shelves x)) s (with_entries f) g.shelves refl (λ x differ. refl)

fresh_other : (g : Group) (s : StructNo) (f : List Held → List Held) → Laws g → IsFresh g.history (at_structure s (with_entries f) g.shelves)
fresh_other g s f laws x id lt = laws.fresh x id (subst (λ n. n < id) (top_after_other g s f x) lt)

top_recovers : (g : Group) (s : StructNo) (m : Member) (i : Incarnation) (x : StructNo) → top_of (at_structure s (in_recovery m i) g.shelves x) ≡ top_of (g.shelves x)
top_recovers g s m i = every_structure (λ x shelf. top_of shelf ≡ top_of (g.shelves x)) s (in_recovery m i) g.shelves refl (λ x differ. refl)

pub fresh_stays : (g h : Group) → Change g h → Laws g → IsFresh h.history h.shelves
fresh_stays g _ (Puts _ u t ops claims s m outside may) laws = λ x id lt. let le = top_after_put g s (record { message = m; mark = PutBy u; outside = outside }) x in laws.fresh x id (omega (arith, le, lt))
fresh_stays g _ (Gets _ u t ops claims s m outside may) laws = fresh_other g s (revise m.id.number (marked (GotBy u))) laws
fresh_stays g _ (Settles _ u t claims first n c may) laws = fresh_other g c.connection.structure (settle c.id.number u (is_commit first)) laws
fresh_stays g _ (Ungets _ u t ops claims c may) laws = fresh_other g c.connection.structure (settle c.id.number u false) laws
fresh_stays g _ (Forgets _ s id may) laws = fresh_other g s (forget id) laws
fresh_stays g _ (PeerSettles _ s id u may) laws = fresh_other g s (settle id u (is_committed g.logs u)) laws
fresh_stays g _ (Hardens _ u t ops claims first next may) laws = λ s id lt. elim (cases_Bool (is_put (structure_number s, id) ops)) [
  | inl put ↦
      let le = subst (λ (x : Task). is_put (structure_number s, id) x.ops ≡ true → id ≤ top_of (g.shelves s)) may.has (laws.given u t (has_unit g u t (hardening_task u ops claims first) may.has refl) s id) put in
      absurd (omega (arith, le, lt))
  | inr unput ↦ was_put-push (structure_number s, id) g.history u ops ∙ (let old = laws.fresh s id lt in grind (arith, old, unput))
]
fresh_stays g _ (Loses _ s may) laws = λ x id lt. put_lost (structure_number x, id) g.history s ∙ laws.fresh x id (let le = top_lost g s laws x in omega (arith, le, lt))
fresh_stays g _ (Recovers _ s m i may) laws = λ x id lt. laws.fresh x id (subst (λ n. n < id) (top_recovers g s m i x) lt)
fresh_stays g _ (Purges _ s may) laws = λ x id lt. put_purged (structure_number x, id) g.history s ∙ laws.fresh x id lt
fresh_stays g _ (Reopens _ s may) laws = λ x id lt. laws.fresh x id (let le = top_reopened g s (g.tops s) x in omega (arith, le, lt))
fresh_stays g _ _ laws = laws.fresh

-- ---- given

abbrev IsGiven : (StructNo → Shelf) → Task → Type 0
IsGiven shelves task = (s : StructNo) (id : ℕ) → is_put (structure_number s, id) task.ops ≡ true → id ≤ top_of (shelves s)

given_of : (g : Group) (u : UnitName) (t : TaskNo) (task : Task) → g.tasks u.member t ≡ task → task.unit ≡ Some u → Laws g → IsGiven g.shelves task
given_of g u t task has unit laws = subst (λ (x : Task). IsGiven g.shelves x) has (laws.given u t (has_unit g u t task has unit))

none_given : (shelves : StructNo → Shelf) (s : StructNo) (id : ℕ) → is_put (structure_number s, id) [] ≡ true → id ≤ top_of (shelves s)
none_given shelves s id put = absurd cc

given_puts : (g : Group) (u : UnitName) (t : TaskNo) (ops : List (StructNo × Op)) (claims : List Claim) (s : StructNo) (m : Message) (outside : Bool) → MayPut g u t ops claims s m → Laws g
    → IsGiven (at_structure s (with_entry (record { message = m; mark = PutBy u; outside = outside })) g.shelves) (open_task u (ops ++ (s, Put m) ∷ []) (claims ++ claim_of s (g.shelves s) m ∷ []))
given_puts g u t ops claims s m outside may laws x id put =
    let e : Held = record { message = m; mark = PutBy u; outside = outside } in
    elim (Rattle.std.proofs.lemmas.Bool.or_cases (is_put (structure_number x, id) ops) (same_key (structure_number x, id) (key m)) (sym (put_put (structure_number x, id) ops s m) ∙ put)) [
      | inl old ↦ let a = given_of g u t (open_task u ops claims) may.has refl laws x id old in let b = top_after_put g s e x in omega (arith, a, b)
      | inr same ↦
          let is : (structure_number x, id) ≡ key m = same_key-true (structure_number x, id) (key m) same in
          let at : x ≡ s = same_structure x s (ap (λ (k : ℕ × ℕ). k.0) is ∙ ap structure_number may.own) in
          let n : id ≡ (g.shelves s).epoch * 2 ^ 40 + ((g.shelves s).last + 1) = ap (λ (k : ℕ × ℕ). k.1) is ∙ ap (λ (i : EntryId). i.number) may.id in
          let top : top_of (at_structure s (with_entry e) g.shelves s) ≡ (g.shelves s).epoch * 2 ^ 40 + ((g.shelves s).last + 1) = ap top_of (change-same structure_number s (with_entry e) g.shelves) in
          subst (λ y. id ≤ top_of (at_structure s (with_entry e) g.shelves y)) (sym at) (omega (arith, n, top))
    ]

given_other : (g : Group) (s : StructNo) (f : List Held → List Held) (task : Task) → IsGiven g.shelves task → IsGiven (at_structure s (with_entries f) g.shelves) task
given_other g s f task given x id put = subst (λ n. id ≤ n) (sym (top_after_other g s f x)) (given x id put)

pub given_stays : (g h : Group) → Change g h → Laws g → AreGiven h.tasks h.shelves
given_stays g _ (Draws _ u t may) laws = every_after g.tasks u.member t _ (λ v task. IsGiven g.shelves task) (λ v e is. none_given g.shelves) laws.given
given_stays g _ (Puts _ u t ops claims s m outside may) laws =
    let e : Held = record { message = m; mark = PutBy u; outside = outside } in
    every_after g.tasks u.member t _ (λ v task. IsGiven (at_structure s (with_entry e) g.shelves) task)
    (λ v i is. given_puts g u t ops claims s m outside may laws)
    (λ v w has. λ x id put. let a = laws.given v w has x id put in let b = top_after_put g s e x in omega (arith, a, b))
given_stays g _ (Gets _ u t ops claims s m outside may) laws =
    let f = revise m.id.number (marked (GotBy u)) in
    every_after g.tasks u.member t _ (λ v task. IsGiven (at_structure s (with_entries f) g.shelves) task)
    (λ v i is. given_other g s f (open_task u (ops ++ (s, Got m.id) ∷ []) (claims ++ claim_of s (g.shelves s) m ∷ [])) (λ x id put. given_of g u t (open_task u ops claims) may.has refl laws x id (sym (put_got (structure_number x, id) ops s m.id) ∙ put)))
    (λ v w has. given_other g s f (g.tasks v.member w) (laws.given v w has))
given_stays g _ (Ungets _ u t ops claims c may) laws =
    let f = settle c.id.number u false in
    let s = c.connection.structure in
    every_after g.tasks u.member t _ (λ v task. IsGiven (at_structure s (with_entries f) g.shelves) task)
    (λ v i is. given_other g s f (open_task u ops claims) (λ x id put. given_of g u t (got_task u ops claims c) may.has refl laws x id (put_got (structure_number x, id) ops s c.id ∙ put)))
    (λ v w has. given_other g s f (g.tasks v.member w) (laws.given v w has))
given_stays g _ (Forgets _ s id may) laws = λ v w has. given_other g s (forget id) (g.tasks v.member w) (laws.given v w has)
given_stays g _ (Begins _ u t ops claims may) laws = every_after g.tasks u.member t _ (λ v task. IsGiven g.shelves task) (λ v i is. given_of g u t (open_task u ops claims) may.has refl laws) laws.given
given_stays g _ (Hardens _ u t ops claims first next may) laws = every_after g.tasks u.member t _ (λ v task. IsGiven g.shelves task) (λ v e is. none_given g.shelves) laws.given
given_stays g _ (BacksOut _ u t ops claims may) laws = every_after g.tasks u.member t _ (λ v task. IsGiven g.shelves task) (λ v e is. none_given g.shelves) laws.given
given_stays g _ (Settles _ u t claims first n c may) laws =
    let f = settle c.id.number u (is_commit first) in
    every_after g.tasks u.member t _ (λ v task. IsGiven (at_structure c.connection.structure (with_entries f) g.shelves) task)
    (λ v i is. none_given (at_structure c.connection.structure (with_entries f) g.shelves))
    (λ v w has. given_other g c.connection.structure f (g.tasks v.member w) (laws.given v w has))
given_stays g _ (Finishes _ u t claims first n may) laws = every_after g.tasks u.member t idle (λ v task. IsGiven g.shelves task) (λ v e is. none_given g.shelves) laws.given
given_stays g _ (Crashes _ m may) laws = every_crashed g.tasks m (λ v task. IsGiven g.shelves task) laws.given
given_stays g _ (Stops _ m may) laws = every_crashed g.tasks m (λ v task. IsGiven g.shelves task) laws.given
given_stays g _ (PeerSettles _ s id u may) laws = λ v w has. given_other g s (settle id u (is_committed g.logs u)) (g.tasks v.member w) (laws.given v w has)
given_stays g _ (Loses _ s may) laws = λ v w has x id put. let a = laws.given v w has x id put in let b = top_lost g s laws x in omega (arith, a, b)
given_stays g _ (Recovers _ s m i may) laws = λ v w has x id put. subst (λ n. id ≤ n) (sym (top_recovers g s m i x)) (laws.given v w has x id put)
given_stays g _ (Reopens _ s may) laws = λ v w has x id put. let a = laws.given v w has x id put in let b = top_reopened g s (g.tops s) x in omega (arith, a, b)
given_stays g _ _ laws = laws.given

-- ---- connected

-- the structure's state and epoch are as they were
abbrev SameUse : (StructNo → Shelf) → (StructNo → Shelf) → Type 0
SameUse old new = (s : StructNo) → ((new s).state ≡ (old s).state) × ((new s).epoch ≡ (old s).epoch)

same_use : (g : Group) (s : StructNo) (f : Shelf → Shelf) → ((shelf : Shelf) → ((f shelf).state ≡ shelf.state) × ((f shelf).epoch ≡ shelf.epoch)) → SameUse g.shelves (at_structure s f g.shelves)
same_use g s f same = every_structure (λ x shelf. (shelf.state ≡ (g.shelves x).state) × (shelf.epoch ≡ (g.shelves x).epoch)) s f g.shelves (same (g.shelves s)) (λ x differ. (refl, refl))

still_connected : (old new : StructNo → Shelf) → SameUse old new → (claims : List Claim) → AllByRecursion (IsConnected old) claims → AllByRecursion (IsConnected new) claims
still_connected old new same [] all = tt
still_connected old new same (c ∷ claims) all = (
  (λ active. let s = same c.connection.structure in all.0 (ap is_active (sym s.0) ∙ active) ∙ sym s.1),
  still_connected old new same claims all.1,
)

pub claims_push : (P : Claim → Type 0) (claims : List Claim) (c : Claim) → AllByRecursion P claims → P c → AllByRecursion P (claims ++ c ∷ [])
claims_push P [] c all one = (one, tt)
claims_push P (d ∷ claims) c all one = (all.0, claims_push P claims c all.1 one)

pub claims_front : (P : Claim → Type 0) (claims : List Claim) (c : Claim) → AllByRecursion P (claims ++ c ∷ []) → AllByRecursion P claims
claims_front P [] c all = tt
claims_front P (d ∷ claims) c all = (all.0, claims_front P claims c all.1)

connected_of : (g : Group) (u : UnitName) (t : TaskNo) (task : Task) → g.tasks u.member t ≡ task → task.unit ≡ Some u → Laws g → AllByRecursion (IsConnected g.shelves) task.claims
connected_of g u t task has unit laws = subst (λ (x : Task). AllByRecursion (IsConnected g.shelves) x.claims) has (laws.connected u t (has_unit g u t task has unit))

connected_at : (g : Group) (u : UnitName) (t : TaskNo) (new : Task) (s : StructNo) (f : Shelf → Shelf) → ((shelf : Shelf) → ((f shelf).state ≡ shelf.state) × ((f shelf).epoch ≡ shelf.epoch))
    → AllByRecursion (IsConnected g.shelves) new.claims → Laws g → AreConnected (Rattle.qsg_group.proofs.Holding.with_task u.member t new g.tasks) (at_structure s f g.shelves)
connected_at g u t new s f same own laws = every_after g.tasks u.member t new (λ v task. AllByRecursion (IsConnected (at_structure s f g.shelves)) task.claims)
    (λ v e is. still_connected g.shelves (at_structure s f g.shelves) (same_use g s f same) new.claims own)
    (λ v w has. still_connected g.shelves (at_structure s f g.shelves) (same_use g s f same) (g.tasks v.member w).claims (laws.connected v w has))

pub connected_stays : (g h : Group) → Change g h → Laws g → AreConnected h.tasks h.shelves
connected_stays g _ (Draws _ u t may) laws = every_after g.tasks u.member t _ (λ v task. AllByRecursion (IsConnected g.shelves) task.claims) (λ v e is. tt) laws.connected
connected_stays g _ (Puts _ u t ops claims s m outside may) laws = connected_at g u t _ s (with_entry (record { message = m; mark = PutBy u; outside = outside })) (λ shelf. (refl, refl))
    (claims_push (IsConnected g.shelves) claims (claim_of s (g.shelves s) m) (connected_of g u t (open_task u ops claims) may.has refl laws) (λ active. refl)) laws
connected_stays g _ (Gets _ u t ops claims s m outside may) laws = connected_at g u t _ s (with_entries (revise m.id.number (marked (GotBy u)))) (λ shelf. (refl, refl))
    (claims_push (IsConnected g.shelves) claims (claim_of s (g.shelves s) m) (connected_of g u t (open_task u ops claims) may.has refl laws) (λ active. refl)) laws
connected_stays g _ (Ungets _ u t ops claims c may) laws = connected_at g u t _ c.connection.structure (with_entries (settle c.id.number u false)) (λ shelf. (refl, refl))
    (claims_front (IsConnected g.shelves) claims c (connected_of g u t (got_task u ops claims c) may.has refl laws)) laws
connected_stays g _ (Forgets _ s id may) laws = λ v w has.
    still_connected g.shelves (at_structure s (with_entries (forget id)) g.shelves) (same_use g s (with_entries (forget id)) (λ shelf. (refl, refl))) (g.tasks v.member w).claims (laws.connected v w has)
connected_stays g _ (Begins _ u t ops claims may) laws = every_after g.tasks u.member t _ (λ v task. AllByRecursion (IsConnected g.shelves) task.claims) (λ v e is. connected_of g u t (open_task u ops claims) may.has refl laws) laws.connected
connected_stays g _ (Hardens _ u t ops claims first next may) laws = every_after g.tasks u.member t _ (λ v task. AllByRecursion (IsConnected g.shelves) task.claims) (λ v e is. connected_of g u t (hardening_task u ops claims first) may.has refl laws) laws.connected
connected_stays g _ (BacksOut _ u t ops claims may) laws = every_after g.tasks u.member t _ (λ v task. AllByRecursion (IsConnected g.shelves) task.claims) (λ v e is. connected_of g u t (open_task u ops claims) may.has refl laws) laws.connected
connected_stays g _ (Settles _ u t claims first n c may) laws = connected_at g u t _ c.connection.structure (with_entries (settle c.id.number u (is_commit first))) (λ shelf. (refl, refl)) (connected_of g u t (settling_task u claims first n) may.has refl laws) laws
connected_stays g _ (Finishes _ u t claims first n may) laws = every_after g.tasks u.member t idle (λ v task. AllByRecursion (IsConnected g.shelves) task.claims) (λ v e is. tt) laws.connected
connected_stays g _ (Crashes _ m may) laws = every_crashed g.tasks m (λ v task. AllByRecursion (IsConnected g.shelves) task.claims) laws.connected
connected_stays g _ (Stops _ m may) laws = every_crashed g.tasks m (λ v task. AllByRecursion (IsConnected g.shelves) task.claims) laws.connected
connected_stays g _ (PeerSettles _ s id u may) laws = λ v w has.
    let f : Shelf → Shelf = with_entries (settle id u (is_committed g.logs u)) in
    still_connected g.shelves (at_structure s f g.shelves) (same_use g s f (λ shelf. (refl, refl))) (g.tasks v.member w).claims (laws.connected v w has)
connected_stays g _ (Loses _ s may) laws = λ v w has. connected_lost g s (g.tasks v.member w).claims (laws.connected v w has)
connected_stays g _ (Recovers _ s m i may) laws = λ v w has. connected_inactive g s (in_recovery m i) (g.tasks v.member w).claims refl (laws.connected v w has)
connected_stays g _ (Reopens _ s may) laws = λ v w has. connected_reopened g s (g.tops s) (g.tasks v.member w).claims (laws.resting s may.recovering v w has) (laws.connected v w has)
connected_stays g _ _ laws = laws.connected
