-- epochs, recoverers and ids
use Rattle.std.proofs.Common.{◌≡◌, ◌≢◌, ℕ, ◌+◌, ◌*◌, ◌^◌, ◌<◌, ◌≤◌, Bool, true, false, List, [], ◌∷◌, ◌++◌, Option, Some, None, refl, sym, ap, ◌∙◌, arith, inl, inr, subst, max}
use Rattle.std.specs.Prelude.{IfSome, ◌==◌, if◌then◌else◌, ◌⊎◌}
use Rattle.std.specs.List.{AllByRecursion}
use Rattle.std.proofs.lemmas.Bool.{cases_eq, cases_lt}
use Rattle.qsg_num.specs.declared.seats.Member.{Member}
use Rattle.qsg_num.specs.declared.seats.TaskNo.{TaskNo}
use Rattle.qsg_num.specs.declared.ids.Block.{Block}
use Rattle.qsg_num.specs.declared.ids.EntryId.{EntryId}
use Rattle.qsg_num.specs.declared.ids.Incarnation.{Incarnation}
use Rattle.qsg_num.specs.Seats.{member_number, task_number}
use Rattle.qsg_num.specs.Ids.{id_at}
use Rattle.qsg_lists.specs.declared.parts.Entry.{Entry}
use Rattle.qsg_lists.specs.declared.parts.Place.TheVariants.{Inline, Offloaded}
use Rattle.qsg_lists.specs.declared.parts.State.{State}
use Rattle.qsg_lists.specs.declared.parts.State.TheVariants.{Active, Failed, InRecover}
use Rattle.qsg_lists.specs.Entries.{revise, KeepsId}
use Rattle.qsg_lists.specs.Structures.{ListStructure, is_active}
use Rattle.qsg_lists.specs.Settling.{deleted}
use Rattle.qsg_lists.specs.Writing.{written, lost}
use Rattle.qsg_lists.specs.Recovering.{begun, is_recovering, restored, recovered, abandoned}
use Rattle.qsg_lists.proofs.Appending.{all_push, all_map, order_push}
use Rattle.qsg_lists.proofs.Revising.{all-revise, order-revise}
use Rattle.qsg_space.specs.Spaces.{marked}
use Rattle.qsg_datasets.specs.declared.member_data_set.Hand.{Hand}
use Rattle.qsg_datasets.specs.declared.member_data_set.KeptMap.{KeptMap}
use Rattle.qsg_datasets.specs.Kept.{KeptSet, no_hand, hand_of, with_hand, taken, given, given_back, freed_in, freed}
use Rattle.qsg_datasets.specs.Calls.{IsStorageSame, IsCut}
use Rattle.qsg_group.specs.Tables.{at_member}
use Rattle.qsg_group.proofs.Tables.{same_member, every_member}
use Rattle.qsg_blocks.specs.State.{Post, Ground, AreTold, stands}
use Rattle.qsg_blocks.specs.Laws.{IsTold, IsPast, IsBlank, AreBlank, IsHeldBy, IsTimely, IsBegun, IsEmptied, IsFresh, Laws}
use Rattle.qsg_blocks.specs.Changes.{ended, next, begun_set, without_map, blocks_of, handed_over, KeepsPlaces, MayTake, MayRestore, MayStart, MayEnd, Change}
use Rattle.qsg_blocks.specs.Changes.Change.{Rests, Takes, GivesBack, Writes, Syncs, Reads, PutsInside, PutsOutside, Revises, Forgets, Crashes, Stops, Maps, Saves, Starts, Loses, Begins, RestoresInside, RestoresOutside, Ends, Abandons}
use Rattle.qsg_blocks.proofs.Counting.{hands-mono, hands-set}
use Rattle.qsg_blocks.proofs.Fitting.{set_at, set_other}
use Rattle.qsg_blocks.proofs.Standing.{stands-active, stands-others, stands-own, told_true, true_told, past_low, past_before, past_up, before_past, unlost_blank, down_blank, still_blank}
use Rattle.qsg_blocks.proofs.Counted.{listed-inside, listed-outside, listed-revised}

-- ---- timely

abbrev IsKeptHand : Member → Post → ListStructure → Hand → Type 0
IsKeptHand m post s h = IsBlank h ⊎ IsHeldBy m post s h

timely_by : (m : Member) (post : Post) (s new : ListStructure) (set : KeptSet) → new.state ≡ s.state → new.epoch ≡ s.epoch → IsTimely m post s set → IsTimely m post new set
timely_by m post s new set state epoch timely = record {
  hands = hands-mono (IsKeptHand m post s) (IsKeptHand m post new) held set.hands timely.hands;
  map = λ up. subst (λ st. IfSome set.map (λ (x : KeptMap). IsPast (stands st m post) new.epoch x.epoch)) (sym state) (subst (λ ep. IfSome set.map (λ (x : KeptMap). IsPast (stands s.state m post) ep x.epoch)) (sym epoch) (timely.map up));
}
  where
    held : (h : Hand) → IsKeptHand m post s h → IsKeptHand m post new h
    held h (inl blank) = inl blank
    held h (inr by) = inr (record { up = by.up; told = subst (λ st. IsTold (stands st m post) st new.epoch h.epoch) (sym state) (subst (λ ep. IsTold (stands s.state m post) s.state ep h.epoch) (sym epoch) by.told) })

pub blank_timely : (m : Member) (post : Post) (s : ListStructure) (set : KeptSet) → AreBlank set.hands → (post.up ≡ true → IfSome set.map (λ (x : KeptMap). IsPast (stands s.state m post) s.epoch x.epoch)) → IsTimely m post s set
blank_timely m post s set blank map = record { hands = hands-mono IsBlank (IsKeptHand m post s) (λ h is. inl is) set.hands blank; map = map }

no_up : {X : Type 0} (c : Bool) → c ≡ false → c ≡ true → X
no_up c down up = absurd cc

set_timely : (g : Ground) (m : Member) (set : KeptSet) (s : ListStructure) → IsTimely m (g.posts m) s set → ((k : Member) → (member_number k ≡ member_number m → ⊥) → IsTimely k (g.posts k) s (g.sets k))
    → (k : Member) → IsTimely k (g.posts k) s (at_member m (λ _. set) g.sets k)
set_timely g m set s own others = every_member (λ k x. IsTimely k (g.posts k) s x) m (λ _. set) g.sets own others

post_timely : (g : Ground) (m : Member) (post : Post) (sets : Member → KeptSet) → IsTimely m post g.structure (sets m) → ((k : Member) → (member_number k ≡ member_number m → ⊥) → IsTimely k (g.posts k) g.structure (sets k))
    → (k : Member) → IsTimely k (at_member m (λ _. post) g.posts k) g.structure (sets k)
post_timely g m post sets own others = every_member (λ k (x : Post). IsTimely k x g.structure (sets k)) m (λ _. post) g.posts own others

storage_timely : (g : Ground) (m : Member) (set : KeptSet) → IsStorageSame (g.sets m) set → Laws g → (k : Member) → IsTimely k (g.posts k) g.structure (at_member m (λ _. set) g.sets k)
storage_timely g m set same laws = set_timely g m set g.structure (record {
  hands = subst (AllByRecursion (IsKeptHand m (g.posts m) g.structure)) (sym same.hands) (laws.timely m).hands;
  map = λ up. subst (λ o. IfSome o (λ (x : KeptMap). IsPast (stands g.structure.state m (g.posts m)) g.structure.epoch x.epoch)) (sym same.map) ((laws.timely m).map up);
}) (λ k differ. laws.timely k)

told_past : (c : Bool) (st : State) (now n : ℕ) → IsTold c st now n → IsPast c now n
told_past true st now n told = omega arith
told_past false st now n told = told.0

taken_timely : (g : Ground) (m : Member) (t : TaskNo) (epoch n : ℕ) → MayTake g m t epoch → Laws g → IsTimely m (g.posts m) g.structure (taken t epoch n (g.sets m))
taken_timely g m t epoch n may laws = record {
  hands = hands-set (IsKeptHand m (g.posts m) g.structure) (g.sets m).hands (task_number t) (record { epoch = epoch; blocks = given epoch n (g.sets m) }) (inr (record { up = may.up; told = may.told })) (laws.timely m).hands;
  map = λ up. told_past _ _ _ _ may.told;
}

freed_epoch : (P : ℕ → Type 0) (epoch : ℕ) (bs : List Block) (map : Option KeptMap) → IfSome map (λ (x : KeptMap). P x.epoch) → IfSome (freed_in epoch bs map) (λ (x : KeptMap). P x.epoch)
freed_epoch P epoch bs None all = tt
freed_epoch P epoch bs (Some x) all = by (x.epoch == epoch)
  where
    by : (c : Bool) → P (if c then record x { used = marked false bs x.used } else x).epoch
    by true = all
    by false = all

freed_timely : (g : Ground) (m : Member) (epoch : ℕ) (bs : List Block) (hands : List Hand) → AllByRecursion (IsKeptHand m (g.posts m) g.structure) hands → Laws g
    → IsTimely m (g.posts m) g.structure (record (freed epoch bs (g.sets m)) { hands = hands })
freed_timely g m epoch bs hands kept laws = record { hands = kept; map = λ up. freed_epoch (IsPast (stands g.structure.state m (g.posts m)) g.structure.epoch) epoch bs (g.sets m).map ((laws.timely m).map up) }

given_back_timely : (g : Ground) (m : Member) (t : TaskNo) → Laws g → IsTimely m (g.posts m) g.structure (given_back t (g.sets m))
given_back_timely g m t laws = record {
  hands = hands-set (IsKeptHand m (g.posts m) g.structure) (g.sets m).hands (task_number t) no_hand (inl refl) (laws.timely m).hands;
  map = λ up. freed_epoch (IsPast (stands g.structure.state m (g.posts m)) g.structure.epoch) (hand_of t (g.sets m)).epoch (hand_of t (g.sets m)).blocks (g.sets m).map ((laws.timely m).map up);
}

handed_timely : (g : Ground) (m : Member) (t : TaskNo) (left : Hand) (s : ListStructure) → s.state ≡ g.structure.state → s.epoch ≡ g.structure.epoch → left.blocks ≡ [] → Laws g → (k : Member) → IsTimely k (g.posts k) s ((handed_over m t left g).sets k)
handed_timely g m t left s state epoch blank laws = set_timely g m (with_hand t left (g.sets m)) s
    (timely_by m (g.posts m) g.structure s (with_hand t left (g.sets m)) state epoch (record {
      hands = hands-set (IsKeptHand m (g.posts m) g.structure) (g.sets m).hands (task_number t) left (inl blank) (laws.timely m).hands;
      map = (laws.timely m).map;
    }))
    (λ k differ. timely_by k (g.posts k) g.structure s (g.sets k) state epoch (laws.timely k))

started_past : (c up : Bool) (now n : ℕ) → (c ≡ true → up ≡ true) → IsPast c now n → IsPast up now n
started_past true up now n is past = past_up up now n (is refl) past
started_past false up now n is past = before_past up now n past

if_some : {X : Type 0} (P Q : X → Type 0) → ((x : X) → P x → Q x) → (o : Option X) → IfSome o P → IfSome o Q
if_some P Q f None all = tt
if_some P Q f (Some x) all = f x all

started_timely : (g : Ground) (m : Member) → MayStart g m → AreTold g.sets → Laws g → IsTimely m (next (g.posts m)) g.structure (g.sets m)
started_timely g m may told laws = blank_timely m (next (g.posts m)) g.structure (g.sets m) (down_blank m (g.posts m) g.structure (g.sets m) may.down (laws.timely m))
    (λ up. if_some _ _ (λ (x : KeptMap). started_past (is_active g.structure.state) (stands g.structure.state m (next (g.posts m))) g.structure.epoch x.epoch (λ active. stands-active g.structure.state m (next (g.posts m)) active)) (g.sets m).map (may.made told).past)

lost_timely : (g : Ground) → is_active g.structure.state ≡ true → Laws g → (k : Member) → IsTimely k (g.posts k) (lost g.structure) (g.sets k)
lost_timely g active laws k = record {
  hands = hands-mono (IsKeptHand k (g.posts k) g.structure) (IsKeptHand k (g.posts k) (lost g.structure)) held (g.sets k).hands (laws.timely k).hands;
  map = λ up. if_some _ _ (λ (x : KeptMap) past. let low = past_low _ _ _ past in omega (arith, low)) (g.sets k).map ((laws.timely k).map up);
}
  where
    held : (h : Hand) → IsKeptHand k (g.posts k) g.structure h → IsKeptHand k (g.posts k) (lost g.structure) h
    held h (inl blank) = inl blank
    held h (inr by) =
        let now = told_true _ _ _ _ (stands-active g.structure.state k (g.posts k) active ∙ by.up) by.told in
        inr (record { up = by.up; told = (omega (arith, now), refl) })

begun_timely : (g : Ground) (m : Member) (i : Incarnation) → (g.posts m).up ≡ true → (g.posts m).incarnation ≡ i.number → ((k : Member) → stands g.structure.state k (g.posts k) ≡ false) → ((k : Member) → AreBlank (g.sets k).hands) → Laws g
    → (k : Member) → IsTimely k (g.posts k) (begun g.structure m i) (at_member m (λ _. begun_set g m) g.sets k)
begun_timely g m i up is dead blank laws = set_timely g m (begun_set g m) (begun g.structure m i)
    (blank_timely m (g.posts m) (begun g.structure m i) (begun_set g m) (blank m) (λ _. past_up _ _ _ (stands-own m i (g.posts m) up is) (omega arith)))
    (λ k differ. blank_timely k (g.posts k) (begun g.structure m i) (g.sets k) (blank k) (λ live. if_some _ _ (λ (x : KeptMap) past. before_past _ _ _ (past_before _ _ _ (dead k) past)) (g.sets k).map ((laws.timely k).map live)))

unfailed : (m : Member) (i : Incarnation) (st : State) → st ≡ InRecover m i → st ≢ Failed
unfailed m i st is failed = let e : InRecover m i ≡ Failed = sym is ∙ failed in absurd cc

ended_timely : (g : Ground) (m : Member) (i : Incarnation) (floor : ℕ) → MayEnd g m i floor → Laws g → (k : Member) → IsTimely k (g.posts k) (recovered g.structure floor) (g.sets k)
ended_timely g m i floor may laws k = record { hands = hands; map = λ up. if_some _ _ (λ (x : KeptMap) past. let low = past_low _ _ _ past in past_up _ _ _ up (omega (arith, low))) (g.sets k).map ((laws.timely k).map up) }
  where
    blanks : AreBlank (g.sets k).hands → AllByRecursion (IsKeptHand k (g.posts k) (recovered g.structure floor)) (g.sets k).hands
    blanks blank = hands-mono IsBlank (IsKeptHand k (g.posts k) (recovered g.structure floor)) (λ h is. inl is) (g.sets k).hands blank

    held : stands g.structure.state k (g.posts k) ≡ true → floor ≤ g.structure.epoch → (h : Hand) → IsKeptHand k (g.posts k) g.structure h → IsKeptHand k (g.posts k) (recovered g.structure floor) h
    held live low h (inl blank) = inl blank
    held live low h (inr by) = let now = told_true _ _ _ _ live by.told in inr (record { up = by.up; told = true_told _ _ _ _ by.up (omega (arith, now, low)) })

    hands : AllByRecursion (IsKeptHand k (g.posts k) (recovered g.structure floor)) (g.sets k).hands
    hands = elim (cases_eq (member_number k) (member_number m)) [
      | inl same ↦
          let here = same_member k m same in
          elim (cases_lt g.structure.epoch floor) [
            | inl rises ↦ blanks (subst (λ (x : Member). AreBlank (g.sets x).hands) (sym here) (may.blank rises))
            | inr low ↦ hands-mono (IsKeptHand k (g.posts k) g.structure) (IsKeptHand k (g.posts k) (recovered g.structure floor)) (held (subst (λ (x : Member). stands g.structure.state x (g.posts x) ≡ true) (sym here) may.live) low) (g.sets k).hands (laws.timely k).hands
          ]
      | inr differ ↦ blanks (unlost_blank k (g.posts k) g.structure (g.sets k) (ap (λ st. stands st k (g.posts k)) may.by ∙ stands-others m i k (g.posts k) differ) (unfailed m i g.structure.state may.by) (laws.timely k))
    ]

abandoned_timely : (g : Ground) (m : Member) (i : Incarnation) (k : Member) → g.structure.state ≡ InRecover m i → (member_number k ≡ member_number m → ⊥) → Laws g → IsTimely k (g.posts k) (abandoned g.structure) (g.sets k)
abandoned_timely g m i k by differ laws =
    let isnt : stands g.structure.state k (g.posts k) ≡ false = ap (λ st. stands st k (g.posts k)) by ∙ stands-others m i k (g.posts k) differ in
    blank_timely k (g.posts k) (abandoned g.structure) (g.sets k) (unlost_blank k (g.posts k) g.structure (g.sets k) isnt (unfailed m i g.structure.state by) (laws.timely k))
    (λ up. if_some _ _ (λ (x : KeptMap) past. past_before _ _ _ isnt past) (g.sets k).map ((laws.timely k).map up))

cut_blank : (old new : KeptSet) → IsCut old new → AreBlank new.hands
cut_blank old new cut = subst AreBlank (sym cut.hands) (refl, (refl, (refl, (refl, (refl, tt)))))

pub timely_stays : (g h : Ground) → Change g h → AreTold g.sets → Laws g → (k : Member) → IsTimely k (h.posts k) h.structure (h.sets k)
timely_stays g _ (Takes _ m t epoch n may) told laws = set_timely g m _ g.structure (taken_timely g m t epoch n may laws) (λ k differ. laws.timely k)
timely_stays g _ (GivesBack _ m t) told laws = set_timely g m _ g.structure (given_back_timely g m t laws) (λ k differ. laws.timely k)
timely_stays g _ (Writes _ m t block n set may) told laws = storage_timely g m set may.same laws
timely_stays g _ (Syncs _ m set may) told laws = storage_timely g m set may.same laws
timely_stays g _ (Reads _ m set may) told laws = storage_timely g m set may.same laws
timely_stays g _ (PutsInside _ u head body active) told laws = λ k. timely_by k (g.posts k) g.structure _ (g.sets k) refl refl (laws.timely k)
timely_stays g _ (PutsOutside _ m t u head n left active may) told laws = handed_timely g m t left (written g.structure u head (Offloaded m (blocks_of m t g) n)) refl refl may.emptied laws
timely_stays g _ (Revises _ id f keeps) told laws = λ k. timely_by k (g.posts k) g.structure _ (g.sets k) refl refl (laws.timely k)
timely_stays g _ (Forgets _ m e bs n may) told laws = set_timely g m (freed g.structure.epoch bs (g.sets m)) (record g.structure { entries = revise e.id deleted g.structure.entries })
    (timely_by m (g.posts m) g.structure (record g.structure { entries = revise e.id deleted g.structure.entries }) (freed g.structure.epoch bs (g.sets m)) refl refl (freed_timely g m g.structure.epoch bs (g.sets m).hands (laws.timely m).hands laws))
    (λ k differ. timely_by k (g.posts k) g.structure (record g.structure { entries = revise e.id deleted g.structure.entries }) (g.sets k) refl refl (laws.timely k))
timely_stays g _ (Crashes _ m set may) told laws = post_timely g m (ended (g.posts m)) (at_member m (λ _. set) g.sets)
    (subst (λ (x : KeptSet). IsTimely m (ended (g.posts m)) g.structure x) (sym (set_at m set g.sets)) (blank_timely m (ended (g.posts m)) g.structure set (cut_blank (g.sets m) set may.cut) (λ up. no_up false refl up)))
    (λ k differ. subst (λ (x : KeptSet). IsTimely k (g.posts k) g.structure x) (sym (set_other m set g.sets k differ)) (laws.timely k))
timely_stays g _ (Stops _ m may) told laws = post_timely g m (ended (g.posts m)) g.sets (blank_timely m (ended (g.posts m)) g.structure (g.sets m) may.blank (λ up. no_up false refl up)) (λ k differ. laws.timely k)
timely_stays g _ (Maps _ m set may) told laws = set_timely g m set g.structure (blank_timely m (g.posts m) g.structure set (still_blank m (g.posts m) g.structure (g.sets m) set may.down may.hands (laws.timely m)) (λ up. no_up (g.posts m).up may.down up)) (λ k differ. laws.timely k)
timely_stays g _ (Saves _ m set may) told laws = storage_timely g m set may.same laws
timely_stays g _ (Starts _ m may) told laws = post_timely g m (next (g.posts m)) g.sets (started_timely g m may told laws) (λ k differ. laws.timely k)
timely_stays g _ (Loses _ may) told laws = lost_timely g may.active laws
timely_stays g _ (Begins _ m i may) told laws = begun_timely g m i may.up may.incarnation may.dead may.blank laws
timely_stays g _ (RestoresInside _ e body restore is) told laws = λ k. timely_by k (g.posts k) g.structure _ (g.sets k) refl refl (laws.timely k)
timely_stays g _ (RestoresOutside _ m t e n left restore may is) told laws = handed_timely g m t left (restored g.structure e) refl refl may.emptied laws
timely_stays g _ (Ends _ m i floor may) told laws = ended_timely g m i floor may laws
timely_stays g _ (Abandons _ m i may) told laws = set_timely g m (without_map (g.sets m)) (abandoned g.structure)
    (blank_timely m (g.posts m) (abandoned g.structure) (without_map (g.sets m)) may.blank (λ up. tt))
    (λ k differ. abandoned_timely g m i k may.by differ laws)
timely_stays g _ (Rests _) told laws = laws.timely

-- ---- emptied

active_emptied : (st : State) (es : List Entry) → is_active st ≡ true → IsEmptied st es
active_emptied Active es active = tt
active_emptied Failed es active = absurd cc
active_emptied (InRecover by i) es active = absurd cc

revised_emptied : (st : State) (id : EntryId) (f : Entry → Option Entry) (es : List Entry) → KeepsPlaces f → IsEmptied st es → IsEmptied st (revise id f es)
revised_emptied Active id f es keeps empty = tt
revised_emptied Failed id f es keeps empty = ap (revise id f) empty
revised_emptied (InRecover by i) id f es keeps empty = λ m b differ. listed-revised m b id f es keeps ∙ empty m b differ

inside_emptied : (st : State) (es : List Entry) (e : Entry) (body : List ℕ) → is_recovering st ≡ true → e.place ≡ Inline body → IsEmptied st es → IsEmptied st (es ++ e ∷ [])
inside_emptied Active es e body recovering is empty = tt
inside_emptied Failed es e body recovering is empty = absurd cc
inside_emptied (InRecover by i) es e body recovering is empty = λ m b differ. listed-inside m b es e body is ∙ empty m b differ

outside_emptied : (st : State) (es : List Entry) (e : Entry) (m : Member) (post : Post) (bs : List Block) (n : ℕ) → is_recovering st ≡ true → stands st m post ≡ true → e.place ≡ Offloaded m bs n → IsEmptied st es → IsEmptied st (es ++ e ∷ [])
outside_emptied Active es e m post bs n recovering live is empty = tt
outside_emptied Failed es e m post bs n recovering live is empty = absurd cc
outside_emptied (InRecover by i) es e m post bs n recovering live is empty = λ k b differ.
    listed-outside k b es e m bs n is (λ same. elim (cases_eq (member_number m) (member_number by)) [
      | inl here ↦ differ (same ∙ here)
      | inr apart ↦ let no = stands-others by i m post apart in absurd cc
    ]) ∙ empty k b differ

pub emptied_stays : (g h : Ground) → Change g h → Laws g → IsEmptied h.structure.state h.structure.entries
emptied_stays g _ (PutsInside _ u head body active) laws = active_emptied g.structure.state _ active
emptied_stays g _ (PutsOutside _ m t u head n left active may) laws = active_emptied g.structure.state _ active
emptied_stays g _ (Revises _ id f keeps) laws = revised_emptied g.structure.state id f g.structure.entries keeps laws.emptied
emptied_stays g _ (Forgets _ m e bs n may) laws = active_emptied g.structure.state _ may.active
emptied_stays g _ (Loses _ may) laws = refl
emptied_stays g _ (Begins _ m i may) laws = λ k b differ. refl
emptied_stays g _ (RestoresInside _ e body restore is) laws = inside_emptied g.structure.state g.structure.entries e body restore.recovering is laws.emptied
emptied_stays g _ (RestoresOutside _ m t e n left restore may is) laws = outside_emptied g.structure.state g.structure.entries e m (g.posts m) (blocks_of m t g) n restore.recovering may.writes is laws.emptied
emptied_stays g _ (Ends _ m i floor may) laws = tt
emptied_stays g _ (Abandons _ m i may) laws = refl
emptied_stays g _ _ laws = laws.emptied

-- ---- begun

post_begun : (st : State) (posts : Member → Post) (m : Member) (post : Post) → (posts m).incarnation ≤ post.incarnation → IsBegun st posts → IsBegun st (at_member m (λ _. post) posts)
post_begun Active posts m post later begun = tt
post_begun Failed posts m post later begun = tt
post_begun (InRecover by i) posts m post later begun =
    let low : (k : Member) → (posts k).incarnation ≤ (at_member m (λ _. post) posts k).incarnation = every_member (λ k (x : Post). (posts k).incarnation ≤ x.incarnation) m (λ _. post) posts later (λ k differ. omega arith) in
    let step = low by in omega (arith, step, begun)

pub begun_stays : (g h : Ground) → Change g h → Laws g → IsBegun h.structure.state h.posts
begun_stays g _ (Crashes _ m set may) laws = post_begun g.structure.state g.posts m (ended (g.posts m)) (omega arith) laws.begun
begun_stays g _ (Stops _ m may) laws = post_begun g.structure.state g.posts m (ended (g.posts m)) (omega arith) laws.begun
begun_stays g _ (Starts _ m may) laws = post_begun g.structure.state g.posts m (next (g.posts m)) (omega arith) laws.begun
begun_stays g _ (Loses _ may) laws = tt
begun_stays g _ (Begins _ m i may) laws = let same = may.incarnation in omega (arith, same)
begun_stays g _ (Ends _ m i floor may) laws = tt
begun_stays g _ (Abandons _ m i may) laws = tt
begun_stays g _ _ laws = laws.begun

-- ---- ids

next_fresh : (s : ListStructure) (e : Entry) → e.id ≡ id_at s.epoch (s.last + 1) → IsFresh s → IsFresh (record s { last = s.last + 1; entries = s.entries ++ e ∷ [] })
next_fresh s e is fresh =
    let n : e.id.number ≡ s.epoch * 2 ^ 40 + (s.last + 1) = ap (λ (x : EntryId). x.number) is in
    record {
      first = all_push (λ (x : Entry). 1 ≤ x.id.number) s.entries e fresh.first (omega (arith, n));
      ordered = order_push s.entries e fresh.ordered (all_map (λ (x : Entry). x.id.number ≤ (id_at s.epoch s.last).number) (λ (x : Entry). x.id.number < e.id.number) (λ x low. omega (arith, n, low)) s.entries fresh.topped);
      topped = all_push (λ (x : Entry). x.id.number ≤ (id_at s.epoch (s.last + 1)).number) s.entries e (all_map (λ (x : Entry). x.id.number ≤ (id_at s.epoch s.last).number) (λ (x : Entry). x.id.number ≤ (id_at s.epoch (s.last + 1)).number) (λ x low. omega (arith, low)) s.entries fresh.topped) (omega (arith, n));
    }

restored_fresh : (g : Ground) (e : Entry) → MayRestore g e.id → IsFresh g.structure → IsFresh (restored g.structure e)
restored_fresh g e may fresh = record {
  first = all_push (λ (x : Entry). 1 ≤ x.id.number) g.structure.entries e fresh.first may.first;
  ordered = order_push g.structure.entries e fresh.ordered may.above;
  topped = all_push (λ (x : Entry). x.id.number ≤ (id_at g.structure.epoch g.structure.last).number) g.structure.entries e fresh.topped (let top = may.topped in omega (arith, top));
}

pub keeps_id : (f : Entry → Option Entry) → KeepsPlaces f → KeepsId f
keeps_id f keeps e = by (f e) refl
  where
    by : (o : Option Entry) → f e ≡ o → IfSome o (λ (x : Entry). x.id ≡ e.id)
    by None is = tt
    by (Some x) is = ap (λ (y : Entry). y.id) (keeps.stays e x is)

pub deleted_id : KeepsId deleted
deleted_id e = tt

revised_fresh : (s : ListStructure) (id : EntryId) (f : Entry → Option Entry) → KeepsId f → IsFresh s → IsFresh (record s { entries = revise id f s.entries })
revised_fresh s id f keeps fresh = record {
  first = all-revise (λ n. 1 ≤ n.number) id f keeps s.entries fresh.first;
  ordered = order-revise id f keeps s.entries fresh.ordered;
  topped = all-revise (λ n. n.number ≤ (id_at s.epoch s.last).number) id f keeps s.entries fresh.topped;
}

pub fresh_stays : (g h : Ground) → Change g h → Laws g → IsFresh h.structure
fresh_stays g _ (PutsInside _ u head body active) laws = next_fresh g.structure _ refl laws.fresh
fresh_stays g _ (PutsOutside _ m t u head n left active may) laws = next_fresh g.structure _ refl laws.fresh
fresh_stays g _ (Revises _ id f keeps) laws = revised_fresh g.structure id f (keeps_id f keeps) laws.fresh
fresh_stays g _ (Forgets _ m e bs n may) laws = revised_fresh g.structure e.id deleted deleted_id laws.fresh
fresh_stays g _ (Loses _ may) laws = record { first = tt; ordered = tt; topped = tt }
fresh_stays g _ (Begins _ m i may) laws = record { first = tt; ordered = tt; topped = tt }
fresh_stays g _ (RestoresInside _ e body restore is) laws = restored_fresh g e restore laws.fresh
fresh_stays g _ (RestoresOutside _ m t e n left restore may is) laws = restored_fresh g e restore laws.fresh
fresh_stays g _ (Ends _ m i floor may) laws = record {
  first = laws.fresh.first;
  ordered = laws.fresh.ordered;
  topped = all_map (λ (x : Entry). x.id.number ≤ (id_at g.structure.epoch g.structure.last).number) (λ (x : Entry). x.id.number ≤ (id_at (max g.structure.epoch floor) g.structure.last).number) (λ x low. omega (arith, low)) g.structure.entries laws.fresh.topped;
}
fresh_stays g _ (Abandons _ m i may) laws = record { first = tt; ordered = tt; topped = tt }
fresh_stays g _ _ laws = laws.fresh
