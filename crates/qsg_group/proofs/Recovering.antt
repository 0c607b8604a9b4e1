-- The laws on structures that aren't active: their notes, what a purge leaves, and that nobody works on them.
use Rattle.std.proofs.Common.{◌≡◌, ℕ, ◌+◌, max, true, false, [], ◌∷◌, ◌++◌, Some, None, refl, sym, ap, subst, ◌∙◌, arith, inl, inr}
use Rattle.std.specs.List.{AllByRecursion}
use Rattle.qsg_num.specs.declared.seats.StructNo.{StructNo}
use Rattle.qsg_num.specs.declared.seats.TaskNo.{TaskNo}
use Rattle.qsg_num.specs.declared.ids.UnitName.{UnitName}
use Rattle.qsg_num.specs.Seats.{structure_number}
use Rattle.qsg_msg.specs.declared.message.Message.{Message}
use Rattle.qsg_model.specs.declared.history.Op.TheVariants.{Put, Got}
use Rattle.qsg_model.specs.declared.history.Item.TheVariants.{Unit as UnitOf, Lost, Purged}
use Rattle.qsg_model.specs.History.{count_of}
use Rattle.qsg_lists.specs.declared.parts.Mark.TheVariants.{PutBy, GotBy}
use Rattle.qsg_lists.specs.Structures.{is_active}
use Rattle.qsg_lists.specs.Recovering.{is_recovering}
use Rattle.qsg_group.specs.declared.tasks.Task.{Task}
use Rattle.qsg_group.specs.Tables.{at_structure}
use Rattle.qsg_group.specs.Group.{Shelf, Group, idle}
use Rattle.qsg_group.specs.Observers.{revise, is_committed, IsElsewhere}
use Rattle.qsg_group.specs.Laws.{IsNoted, AreNoted, IsEmptied, AreEmptied, AreResting, Laws}
use Rattle.qsg_group.specs.Changes.{open_task, hardening_task, settling_task, is_commit, with_entry, with_entries, marked, settle, forget, lost_shelf, in_recovery, purged_top, reopened_shelf, claim_of, Change}
use Rattle.qsg_group.specs.Changes.Change.{Draws, Puts, Gets, Ungets, Forgets, Begins, Hardens, BacksOut, Settles, Finishes, Crashes, Stops, PeerSettles, Loses, Recovers, Purges, Reopens}
use Rattle.qsg_group.proofs.Tables.{every_structure, same_structure}
use Rattle.qsg_group.proofs.Holding.{Every, got_task, every_after}
use Rattle.qsg_group.proofs.Failing.{every_crashed}
use Rattle.qsg_group.proofs.Logs.{ready_of}
use Rattle.qsg_group.proofs.Losing.{count_lost}
use Rattle.qsg_group.proofs.Pages.{has_unit}
use Rattle.qsg_group.proofs.Shelves.{claims_push, claims_front}
use Rattle.qsg_group.proofs.Purging.{count_purged, count_purged_own, count_lost_own, count_unit, past_lost, past_purged, lost_own, emptied_same, not_both, recovers_inactive, emptied_begins, emptied_purged, emptied_commits}

-- ---- notes

-- the shelf's state and epoch are as they were
noted_same : (g : Group) (s : StructNo) (f : Shelf → Shelf) → ((shelf : Shelf) → ((f shelf).state ≡ shelf.state) × ((f shelf).epoch ≡ shelf.epoch)) → Laws g → AreNoted g.history (at_structure s f g.shelves) g.tops
noted_same g s f same laws = every_structure (λ x shelf. IsNoted (count_of (structure_number x) g.history) (g.tops x) shelf) s f g.shelves
    (let old = laws.noted s in let e = (same (g.shelves s)).1 in record {
      below = old.below;
      inactive = λ idle. ap (λ n. max n (g.tops s)) e ∙ old.inactive (ap is_active (sym (same (g.shelves s)).0) ∙ idle);
    })
    (λ x differ. laws.noted x)

recount : (n m top : ℕ) (shelf : Shelf) → m ≡ n → IsNoted n top shelf → IsNoted m top shelf
recount n m top shelf same old = subst (λ c. IsNoted c top shelf) (sym same) old

noted_lost : (n top : ℕ) (shelf : Shelf) → shelf.epoch ≡ n → IsNoted n top shelf → IsNoted (n + 1) top (lost_shelf shelf)
noted_lost n top shelf is old = let le = old.below in record { below = omega (arith, le); inactive = λ idle. omega (arith, le, is) }

noted_purged : (n top : ℕ) (shelf : Shelf) → is_active shelf.state ≡ false → IsNoted n top shelf → IsNoted (n + 1) (purged_top shelf.epoch top) shelf
noted_purged n top shelf idle old = let e = old.inactive idle in record { below = omega (arith, e); inactive = λ still. omega (arith, e) }

pub noted_stays : (g h : Group) → Change g h → Laws g → AreNoted h.history h.shelves h.tops
noted_stays g _ (Puts _ u t ops claims s m outside may) laws = noted_same g s (with_entry (record { message = m; mark = PutBy u; outside = outside })) (λ shelf. (refl, refl)) laws
noted_stays g _ (Gets _ u t ops claims s m outside may) laws = noted_same g s (with_entries (revise m.id.number (marked (GotBy u)))) (λ shelf. (refl, refl)) laws
noted_stays g _ (Settles _ u t claims first n c may) laws = noted_same g c.connection.structure (with_entries (settle c.id.number u (is_commit first))) (λ shelf. (refl, refl)) laws
noted_stays g _ (Ungets _ u t ops claims c may) laws = noted_same g c.connection.structure (with_entries (settle c.id.number u false)) (λ shelf. (refl, refl)) laws
noted_stays g _ (Forgets _ s id may) laws = noted_same g s (with_entries (forget id)) (λ shelf. (refl, refl)) laws
noted_stays g _ (PeerSettles _ s id u may) laws = noted_same g s (with_entries (settle id u (is_committed g.logs u))) (λ shelf. (refl, refl)) laws
noted_stays g _ (Hardens _ u t ops claims first next may) laws = λ s. recount (count_of (structure_number s) g.history) (count_of (structure_number s) (g.history ++ UnitOf u ops ∷ [])) (g.tops s) (g.shelves s) (count_unit (structure_number s) g.history u ops) (laws.noted s)
noted_stays g _ (Loses _ s may) laws = every_structure (λ x shelf. IsNoted (count_of (structure_number x) (g.history ++ Lost s ∷ [])) (g.tops x) shelf) s lost_shelf g.shelves
    (recount (count_of (structure_number s) g.history + 1) (count_of (structure_number s) (g.history ++ Lost s ∷ [])) (g.tops s) (lost_shelf (g.shelves s)) (count_lost_own g.history s)
    (noted_lost (count_of (structure_number s) g.history) (g.tops s) (g.shelves s) (laws.epochs s may.active) (laws.noted s)))
    (λ x differ. recount (count_of (structure_number x) g.history) (count_of (structure_number x) (g.history ++ Lost s ∷ [])) (g.tops x) (g.shelves x) (count_lost (structure_number x) g.history s differ) (laws.noted x))
noted_stays g _ (Recovers _ s m i may) laws = every_structure (λ x shelf. IsNoted (count_of (structure_number x) g.history) (g.tops x) shelf) s (in_recovery m i) g.shelves
    (let old = laws.noted s in record { below = old.below; inactive = λ idle. old.inactive may.inactive }) (λ x differ. laws.noted x)
noted_stays g _ (Purges _ s may) laws = every_structure (λ x top. IsNoted (count_of (structure_number x) (g.history ++ Purged s ∷ [])) top (g.shelves x)) s (purged_top (g.shelves s).epoch) g.tops
    (recount (count_of (structure_number s) g.history + 1) (count_of (structure_number s) (g.history ++ Purged s ∷ [])) (purged_top (g.shelves s).epoch (g.tops s)) (g.shelves s) (count_purged_own g.history s)
    (noted_purged (count_of (structure_number s) g.history) (g.tops s) (g.shelves s) (recovers_inactive (g.shelves s).state may.recovering) (laws.noted s)))
    (λ x differ. recount (count_of (structure_number x) g.history) (count_of (structure_number x) (g.history ++ Purged s ∷ [])) (g.tops x) (g.shelves x) (count_purged (structure_number x) g.history s differ) (laws.noted x))
noted_stays g _ (Reopens _ s may) laws = every_structure (λ x shelf. IsNoted (count_of (structure_number x) g.history) (g.tops x) shelf) s (reopened_shelf (g.tops s)) g.shelves
    (record { below = (laws.noted s).below; inactive = λ idle. absurd cc }) (λ x differ. laws.noted x)
noted_stays g _ _ laws = laws.noted

-- ---- what a purge leaves

emptied_at : (g : Group) (s : StructNo) (f : Shelf → Shelf) → ((shelf : Shelf) → (f shelf).state ≡ shelf.state) → Laws g → AreEmptied g.history (at_structure s f g.shelves)
emptied_at g s f same laws = every_structure (λ x shelf. IsEmptied g.history x shelf.state) s f g.shelves (subst (IsEmptied g.history s) (sym (same (g.shelves s))) (laws.emptied s)) (λ x differ. laws.emptied x)

pub emptied_stays : (g h : Group) → Change g h → Laws g → AreEmptied h.history h.shelves
emptied_stays g _ (Puts _ u t ops claims s m outside may) laws = emptied_at g s (with_entry (record { message = m; mark = PutBy u; outside = outside })) (λ shelf. refl) laws
emptied_stays g _ (Gets _ u t ops claims s m outside may) laws = emptied_at g s (with_entries (revise m.id.number (marked (GotBy u)))) (λ shelf. refl) laws
emptied_stays g _ (Settles _ u t claims first n c may) laws = emptied_at g c.connection.structure (with_entries (settle c.id.number u (is_commit first))) (λ shelf. refl) laws
emptied_stays g _ (Ungets _ u t ops claims c may) laws = emptied_at g c.connection.structure (with_entries (settle c.id.number u false)) (λ shelf. refl) laws
emptied_stays g _ (Forgets _ s id may) laws = emptied_at g s (with_entries (forget id)) (λ shelf. refl) laws
emptied_stays g _ (PeerSettles _ s id u may) laws = emptied_at g s (with_entries (settle id u (is_committed g.logs u))) (λ shelf. refl) laws
emptied_stays g _ (Hardens _ u t ops claims first next may) laws = λ s.
    let at = has_unit g u t (hardening_task u ops claims first) may.has refl in
    emptied_commits g.history s (g.shelves s).state u ops claims (ready_of g u t (hardening_task u ops claims first) may.has refl refl laws).matched
    (λ recovers. subst (λ (x : Task). AllByRecursion (IsElsewhere s) x.claims) may.has (laws.resting s recovers u t at)) (laws.emptied s)
emptied_stays g _ (Loses _ s may) laws = every_structure (λ x shelf. IsEmptied (g.history ++ Lost s ∷ []) x shelf.state) s lost_shelf g.shelves
    (lost_own g.history s)
    (λ x differ. emptied_same g.history (g.history ++ Lost s ∷ []) x (g.shelves x).state (λ k same. past_lost k g.history s (λ e. differ (sym same ∙ e))) (laws.emptied x))
emptied_stays g _ (Recovers _ s m i may) laws = every_structure (λ x shelf. IsEmptied g.history x shelf.state) s (in_recovery m i) g.shelves
    (emptied_begins g.history s (g.shelves s).state m i may.inactive (laws.emptied s)) (λ x differ. laws.emptied x)
emptied_stays g _ (Purges _ s may) laws = λ x. elim (Rattle.qsg_group.proofs.Tables.cases_structure x s) [
  | inl same ↦ subst (λ y. IsEmptied (g.history ++ Purged s ∷ []) y (g.shelves y).state) (sym same) (emptied_purged g.history s (g.shelves s).state may.recovering)
  | inr differ ↦ emptied_same g.history (g.history ++ Purged s ∷ []) x (g.shelves x).state (λ k same. past_purged k g.history s (λ e. differ (sym same ∙ e))) (laws.emptied x)
]
emptied_stays g _ (Reopens _ s may) laws = every_structure (λ x shelf. IsEmptied g.history x shelf.state) s (reopened_shelf (g.tops s)) g.shelves tt (λ x differ. laws.emptied x)
emptied_stays g _ _ laws = laws.emptied

-- ---- nobody works on a structure in recovery

abbrev RestsAt : StructNo → UnitName → Task → Type 0
RestsAt s u task = AllByRecursion (IsElsewhere s) task.claims

-- a state that is as it was
still : (g : Group) (s : StructNo) (f : Shelf → Shelf) → ((shelf : Shelf) → (f shelf).state ≡ shelf.state) → (x : StructNo) → is_recovering (at_structure s f g.shelves x).state ≡ true → is_recovering (g.shelves x).state ≡ true
still g s f same = every_structure (λ x shelf. is_recovering shelf.state ≡ true → is_recovering (g.shelves x).state ≡ true) s f g.shelves (λ recovers. ap is_recovering (sym (same (g.shelves s))) ∙ recovers) (λ x differ recovers. recovers)

rests_of : (g : Group) (x : StructNo) (u : UnitName) (t : TaskNo) (task : Task) → g.tasks u.member t ≡ task → task.unit ≡ Some u → is_recovering (g.shelves x).state ≡ true → Laws g → AllByRecursion (IsElsewhere x) task.claims
rests_of g x u t task has unit recovers laws = subst (λ (y : Task). AllByRecursion (IsElsewhere x) y.claims) has (laws.resting x recovers u t (has_unit g u t task has unit))

-- a claim on an active structure isn't on one in recovery
claim_rests : (g : Group) (s x : StructNo) (m : Message) → is_active (g.shelves s).state ≡ true → is_recovering (g.shelves x).state ≡ true → IsElsewhere x (claim_of s (g.shelves s) m)
claim_rests g s x m active recovers e = not_both (g.shelves s).state active (subst (λ y. is_recovering (g.shelves y).state ≡ true) (sym (same_structure s x e)) recovers)

pub resting_stays : (g h : Group) → Change g h → Laws g → AreResting h.tasks h.shelves
resting_stays g _ (Draws _ u t may) laws = λ x recovers. every_after g.tasks u.member t (open_task u [] []) (RestsAt x) (λ v m e. tt) (laws.resting x recovers)
resting_stays g _ (Puts _ u t ops claims s m outside may) laws = λ x now.
    let recovers = still g s (with_entry (record { message = m; mark = PutBy u; outside = outside })) (λ shelf. refl) x now in
    every_after g.tasks u.member t (open_task u (ops ++ (s, Put m) ∷ []) (claims ++ claim_of s (g.shelves s) m ∷ [])) (RestsAt x)
    (λ v i e. claims_push (IsElsewhere x) claims (claim_of s (g.shelves s) m) (rests_of g x u t (open_task u ops claims) may.has refl recovers laws) (claim_rests g s x m may.active recovers))
    (laws.resting x recovers)
resting_stays g _ (Gets _ u t ops claims s m outside may) laws = λ x now.
    let recovers = still g s (with_entries (revise m.id.number (marked (GotBy u)))) (λ shelf. refl) x now in
    every_after g.tasks u.member t (open_task u (ops ++ (s, Got m.id) ∷ []) (claims ++ claim_of s (g.shelves s) m ∷ [])) (RestsAt x)
    (λ v i e. claims_push (IsElsewhere x) claims (claim_of s (g.shelves s) m) (rests_of g x u t (open_task u ops claims) may.has refl recovers laws) (claim_rests g s x m may.active recovers))
    (laws.resting x recovers)
resting_stays g _ (Ungets _ u t ops claims c may) laws = λ x now.
    let recovers = still g c.connection.structure (with_entries (settle c.id.number u false)) (λ shelf. refl) x now in
    every_after g.tasks u.member t (open_task u ops claims) (RestsAt x)
    (λ v i e. claims_front (IsElsewhere x) claims c (rests_of g x u t (got_task u ops claims c) may.has refl recovers laws))
    (laws.resting x recovers)
resting_stays g _ (Forgets _ s id may) laws = λ x now. laws.resting x (still g s (with_entries (forget id)) (λ shelf. refl) x now)
resting_stays g _ (Begins _ u t ops claims may) laws = λ x recovers. every_after g.tasks u.member t (hardening_task u ops claims (g.logs u.member).next) (RestsAt x) (λ v i e. rests_of g x u t (open_task u ops claims) may.has refl recovers laws) (laws.resting x recovers)
resting_stays g _ (Hardens _ u t ops claims first next may) laws = λ x recovers. every_after g.tasks u.member t (settling_task u claims (Some (g.logs u.member).next) 0) (RestsAt x) (λ v i e. rests_of g x u t (hardening_task u ops claims first) may.has refl recovers laws) (laws.resting x recovers)
resting_stays g _ (BacksOut _ u t ops claims may) laws = λ x recovers. every_after g.tasks u.member t (settling_task u claims None 0) (RestsAt x) (λ v i e. rests_of g x u t (open_task u ops claims) may.has refl recovers laws) (laws.resting x recovers)
resting_stays g _ (Settles _ u t claims first n c may) laws = λ x now.
    let recovers = still g c.connection.structure (with_entries (settle c.id.number u (is_commit first))) (λ shelf. refl) x now in
    every_after g.tasks u.member t (settling_task u claims first (n + 1)) (RestsAt x) (λ v i e. rests_of g x u t (settling_task u claims first n) may.has refl recovers laws) (laws.resting x recovers)
resting_stays g _ (Finishes _ u t claims first n may) laws = λ x recovers. every_after g.tasks u.member t idle (RestsAt x) (λ v i e. tt) (laws.resting x recovers)
resting_stays g _ (Crashes _ m may) laws = λ x recovers. every_crashed g.tasks m (RestsAt x) (laws.resting x recovers)
resting_stays g _ (Stops _ m may) laws = λ x recovers. every_crashed g.tasks m (RestsAt x) (laws.resting x recovers)
resting_stays g _ (PeerSettles _ s id u may) laws = λ x now. laws.resting x (still g s (with_entries (settle id u (is_committed g.logs u))) (λ shelf. refl) x now)
resting_stays g _ (Loses _ s may) laws = every_structure (λ x shelf. is_recovering shelf.state ≡ true → Every g.tasks (RestsAt x)) s lost_shelf g.shelves (λ recovers. absurd cc) (λ x differ. laws.resting x)
resting_stays g _ (Recovers _ s m i may) laws = every_structure (λ x shelf. is_recovering shelf.state ≡ true → Every g.tasks (RestsAt x)) s (in_recovery m i) g.shelves (λ recovers. may.unworked) (λ x differ. laws.resting x)
resting_stays g _ (Reopens _ s may) laws = every_structure (λ x shelf. is_recovering shelf.state ≡ true → Every g.tasks (RestsAt x)) s (reopened_shelf (g.tops s)) g.shelves (λ recovers. absurd cc) (λ x differ. laws.resting x)
resting_stays g _ _ laws = laws.resting
