-- each block is free, listed or held, and only one of these
use Rattle.std.proofs.Common.{◌≡◌, ◌≢◌, ℕ, zero, suc, not, ◌+◌, ◌<◌, ◌≤◌, Bool, true, false, List, [], ◌∷◌, ◌++◌, Option, Some, None, refl, sym, ap, ◌∙◌, arith, inl, inr, subst, max, replicate}
use Rattle.std.specs.Prelude.{IfSome, ◌&&◌, if◌then◌else◌, ◌⊎◌, slice_index_or}
use Rattle.std.proofs.lemmas.Bool.{cases_eq, cases_lt, cases_Bool, ne_eqb}
use Rattle.qsg_num.specs.declared.seats.Member.{Member}
use Rattle.qsg_num.specs.declared.seats.TaskNo.{TaskNo}
use Rattle.qsg_num.specs.declared.ids.Block.{Block}
use Rattle.qsg_num.specs.declared.ids.EntryId.{EntryId}
use Rattle.qsg_num.specs.declared.ids.Incarnation.{Incarnation}
use Rattle.qsg_num.specs.Seats.{member_number, task_number}
use Rattle.qsg_lists.specs.declared.parts.Entry.{Entry}
use Rattle.qsg_lists.specs.declared.parts.Place.{Place}
use Rattle.qsg_lists.specs.declared.parts.Place.TheVariants.{Inline, Offloaded}
use Rattle.qsg_lists.specs.declared.parts.State.{State}
use Rattle.qsg_lists.specs.declared.parts.State.TheVariants.{Active, Failed, InRecover}
use Rattle.qsg_lists.specs.Entries.{revise}
use Rattle.qsg_lists.specs.Structures.{ListStructure, is_active}
use Rattle.qsg_lists.specs.Settling.{deleted}
use Rattle.qsg_lists.specs.Writing.{new_entry, written, lost}
use Rattle.qsg_lists.specs.Recovering.{begun, restored, recovered, abandoned}
use Rattle.qsg_space.specs.Spaces.{marked, is_free}
use Rattle.qsg_datasets.specs.declared.member_data_set.Hand.{Hand}
use Rattle.qsg_datasets.specs.declared.member_data_set.KeptMap.{KeptMap}
use Rattle.qsg_datasets.specs.Kept.{KeptSet, no_hand, used_in, hand_of, with_hand, given, taken, given_back, freed, is_of_epoch, stands as map_stands}
use Rattle.qsg_datasets.specs.Calls.{IsStorageSame, IsCut}
use Rattle.qsg_manager.specs.Views.{is_outside}
use Rattle.qsg_group.specs.Tables.{at_member}
use Rattle.qsg_group.proofs.Tables.{same_member, every_member}
use Rattle.qsg_blocks.specs.State.{Post, Ground, AreTold, stands, uses, lists, listed, holds, reserved, used_once, free_once}
use Rattle.qsg_blocks.specs.Laws.{Counts, IsCounted, IsPast, AreBlank, IsBegun, IsEmptied, IsFitting, Laws}
use Rattle.qsg_blocks.specs.Changes.{ended, next, begun_set, without_map, blocks_of, handed_over, KeepsPlaces, MayTake, MayList, MayForget, MayStart, MayEnd, Change}
use Rattle.qsg_blocks.specs.Changes.Change.{Rests, Takes, GivesBack, Writes, Syncs, Reads, PutsInside, PutsOutside, Revises, Forgets, Crashes, Stops, Maps, Saves, Starts, Loses, Begins, RestoresInside, RestoresOutside, Ends, Abandons}
use Rattle.qsg_blocks.proofs.Counting.{used-one, used-blank, used-marked, given-once, given-within, holds-blank, holds-now, holds-other, reserved-set, reserved-at, reserved-none, hands-set, share, tally-push, tally-revise, tally-kept, lists-own, lists-other}
use Rattle.qsg_blocks.proofs.Fitting.{set_at, set_other, task_within}
use Rattle.qsg_blocks.proofs.Standing.{stands-down, stands-up, stands-active, stands-others, stands-own, stands-newer, counts-up, counts-down, up-counts, down-counts, counts-one, counts_if, told_true, told_false, past_before, past_low, unlost_blank, down_blank, still_blank, blank_reserved, idle_hands, early_hands, used_in-now, used_in-old, used_in-same, used-freed_in}

-- ---- what the law says of owners that stand, and of any

-- the equation of an owner that stands
pub owned : (g : Ground) (m : Member) (b : Block) → stands g.structure.state m (g.posts m) ≡ true → Laws g → listed m b g.structure.entries + reserved g.structure.epoch b (g.sets m).hands ≡ used_once (used_in g.structure.epoch (g.sets m)) b
owned g m b is laws = counts-up (stands g.structure.state m (g.posts m)) _ _ _ is (laws.counted m b)

pub unowned : (g : Ground) (m : Member) (b : Block) → stands g.structure.state m (g.posts m) ≡ false → Laws g → (listed m b g.structure.entries ≤ 1) × (reserved g.structure.epoch b (g.sets m).hands ≡ 0)
unowned g m b isnt laws = counts-down (stands g.structure.state m (g.posts m)) _ _ _ isnt (laws.counted m b)

pub apart : (g : Ground) (m : Member) (b : Block) → Laws g → listed m b g.structure.entries + reserved g.structure.epoch b (g.sets m).hands ≤ 1
apart g m b laws = counts-one (stands g.structure.state m (g.posts m)) _ _ _ (used-one (used_in g.structure.epoch (g.sets m)) b) (laws.counted m b)

-- ---- one data set changes

set_counted : (g : Ground) (m : Member) (set : KeptSet) (s : ListStructure) → IsCounted s (g.posts m) set m → ((k : Member) → (member_number k ≡ member_number m → ⊥) → IsCounted s (g.posts k) (g.sets k) k)
    → (k : Member) → IsCounted s (g.posts k) (at_member m (λ _. set) g.sets k) k
set_counted g m set s own others = every_member (λ k x. IsCounted s (g.posts k) x k) m (λ _. set) g.sets own others

-- calls that keep the storage
storage_counted : (g : Ground) (m : Member) (set : KeptSet) → IsStorageSame (g.sets m) set → Laws g → (k : Member) → IsCounted g.structure (g.posts k) (at_member m (λ _. set) g.sets k) k
storage_counted g m set same laws = set_counted g m set g.structure
    (λ b. subst (λ u. Counts (stands g.structure.state m (g.posts m)) u (listed m b g.structure.entries) (reserved g.structure.epoch b set.hands)) (ap (λ l. used_once l b) (sym (used_in-same g.structure.epoch (g.sets m) set same.map same.contents.blocks)))
    (subst (λ (l : List Hand). Counts (stands g.structure.state m (g.posts m)) (used_once (used_in g.structure.epoch (g.sets m)) b) (listed m b g.structure.entries) (reserved g.structure.epoch b l)) (sym same.hands) (laws.counted m b)))
    (λ k differ. laws.counted k)

-- a task takes blocks
taken-now : (g : Ground) (m : Member) (t : TaskNo) (epoch n : ℕ) (b : Block) → MayTake g m t epoch → epoch ≡ g.structure.epoch → IsFitting g → Laws g → stands g.structure.state m (g.posts m) ≡ true
    → listed m b g.structure.entries + reserved g.structure.epoch b (taken t epoch n (g.sets m)).hands ≡ used_once (used_in g.structure.epoch (taken t epoch n (g.sets m))) b
taken-now g m t epoch n b may now fits laws is =
    let kept = fits.kept m (fits.there m may.up) in
    let own = owned g m b is laws in
    let five = kept.five in
    let inside = task_within t in
    let hand : Hand = record { epoch = epoch; blocks = given epoch n (g.sets m) } in
    let r = reserved-set g.structure.epoch b (g.sets m).hands (task_number t) no_hand hand (omega (arith, five, inside)) in
    let z = holds-blank g.structure.epoch b (hand_of t (g.sets m)) may.blank in
    let h = holds-now g.structure.epoch b hand now in
    let c = used-marked (given epoch n (g.sets m)) (used_in epoch (g.sets m)) b (given-once b n (used_in epoch (g.sets m))) (given-within b n (used_in epoch (g.sets m))) in
    let v = ap (λ l. used_once l b) (used_in-now g.structure.epoch (taken t epoch n (g.sets m)) (record { epoch = epoch; used = marked true (given epoch n (g.sets m)) (used_in epoch (g.sets m)) }) refl now) in
    let w = ap (λ ep. used_once (used_in ep (g.sets m)) b) now in
    omega (arith, own, r, z, h, c, v, w)

taken_counted : (g : Ground) (m : Member) (t : TaskNo) (epoch n : ℕ) → MayTake g m t epoch → IsFitting g → Laws g → IsCounted g.structure (g.posts m) (taken t epoch n (g.sets m)) m
taken_counted g m t epoch n may fits laws b = counts_if (stands g.structure.state m (g.posts m)) _ _ _
    (λ is. taken-now g m t epoch n b may (told_true _ _ _ _ is may.told) fits laws is)
    (λ isnt.
    let d = unowned g m b isnt laws in
    let low = (told_false _ _ _ _ isnt may.told).0 in
    let idle = idle_hands m (g.posts m) g.structure (g.sets m) b isnt (laws.timely m) in
    let hand : Hand = record { epoch = epoch; blocks = given epoch n (g.sets m) } in
    (d.0, reserved-none g.structure.epoch b (taken t epoch n (g.sets m)).hands (hands-set (λ (h : Hand). holds g.structure.epoch b h ≡ 0) (g.sets m).hands (task_number t) hand (holds-other g.structure.epoch b hand (λ e. omega (arith, e, low))) idle)))

-- a task gives blocks back
given_back_counted : (g : Ground) (m : Member) (t : TaskNo) → IsFitting g → Laws g → IsCounted g.structure (g.posts m) (given_back t (g.sets m)) m
given_back_counted g m t fits laws b = counts_if (stands g.structure.state m (g.posts m)) _ _ _
    (λ is.
    let kept = fits.kept m (fits.there m (stands-up g.structure.state m (g.posts m) is)) in
    let own = owned g m b is laws in
    let five = kept.five in
    let inside = task_within t in
    let r = reserved-set g.structure.epoch b (g.sets m).hands (task_number t) no_hand no_hand (omega (arith, five, inside)) in
    let z = holds-blank g.structure.epoch b no_hand refl in
    let at = reserved-at g.structure.epoch b (g.sets m).hands (task_number t) no_hand refl in
    let f = used-freed_in g.structure.epoch (hand_of t (g.sets m)) (g.sets m) b (omega (arith, own, at)) in
    let v = ap (λ l. used_once l b) (used_in-same g.structure.epoch (freed (hand_of t (g.sets m)).epoch (hand_of t (g.sets m)).blocks (g.sets m)) (given_back t (g.sets m)) refl refl) in
    omega (arith, own, r, z, f, v))
    (λ isnt.
    let d = unowned g m b isnt laws in
    let idle = idle_hands m (g.posts m) g.structure (g.sets m) b isnt (laws.timely m) in
    (d.0, reserved-none g.structure.epoch b (given_back t (g.sets m)).hands (hands-set (λ (h : Hand). holds g.structure.epoch b h ≡ 0) (g.sets m).hands (task_number t) no_hand (holds-blank g.structure.epoch b no_hand refl) idle)))

-- ---- entries change

listed_counted : (g : Ground) (es : List Entry) (k : Member) → ((b : Block) → listed k b es ≡ listed k b g.structure.entries) → Laws g
    → (b : Block) → Counts (stands g.structure.state k (g.posts k)) (used_once (used_in g.structure.epoch (g.sets k)) b) (listed k b es) (reserved g.structure.epoch b (g.sets k).hands)
listed_counted g es k same laws b = subst (λ l. Counts (stands g.structure.state k (g.posts k)) (used_once (used_in g.structure.epoch (g.sets k)) b) l (reserved g.structure.epoch b (g.sets k).hands)) (sym (same b)) (laws.counted k b)

pub listed-inside : (k : Member) (b : Block) (es : List Entry) (e : Entry) (body : List ℕ) → e.place ≡ Inline body → listed k b (es ++ e ∷ []) ≡ listed k b es
listed-inside k b es e body is = let p = tally-push (λ (x : Entry). lists k b x.place) es e in let z = ap (lists k b) is in omega (arith, p, z)

pub listed-outside : (k : Member) (b : Block) (es : List Entry) (e : Entry) (m : Member) (bs : List Block) (n : ℕ) → e.place ≡ Offloaded m bs n → (member_number k ≡ member_number m → ⊥) → listed k b (es ++ e ∷ []) ≡ listed k b es
listed-outside k b es e m bs n is differ = let p = tally-push (λ (x : Entry). lists k b x.place) es e in let z = ap (lists k b) is ∙ lists-other k m b bs n differ in omega (arith, p, z)

pub listed-added : (b : Block) (es : List Entry) (e : Entry) (m : Member) (bs : List Block) (n : ℕ) → e.place ≡ Offloaded m bs n → listed m b (es ++ e ∷ []) ≡ listed m b es + uses b bs
listed-added b es e m bs n is = let p = tally-push (λ (x : Entry). lists m b x.place) es e in let z = ap (lists m b) is ∙ lists-own m b bs n in omega (arith, p, z)

lists_inside : (k : Member) (b : Block) (place : Place) → is_outside place ≡ false → lists k b place ≡ 0
lists_inside k b (Inline body) is = refl
lists_inside k b (Offloaded owner bs n) is = absurd cc

pub share-kept : (k : Member) (b : Block) (f : Entry → Option Entry) → KeepsPlaces f → (e : Entry) → share (λ (x : Entry). lists k b x.place) (f e) ≡ lists k b e.place
share-kept k b f keeps e = by (f e) refl
  where
    by : (o : Option Entry) → f e ≡ o → share (λ (x : Entry). lists k b x.place) o ≡ lists k b e.place
    by None is = sym (lists_inside k b e.place (keeps.goes e is))
    by (Some x) is = ap (λ (y : Entry). lists k b y.place) (keeps.stays e x is)

pub listed-revised : (k : Member) (b : Block) (id : EntryId) (f : Entry → Option Entry) (es : List Entry) → KeepsPlaces f → listed k b (revise id f es) ≡ listed k b es
listed-revised k b id f es keeps = tally-kept (λ (x : Entry). lists k b x.place) id f es (share-kept k b f keeps)

-- a task's blocks become an entry's
handed_counted : (g : Ground) (m : Member) (t : TaskNo) (n : ℕ) (left : Hand) (e : Entry) (s : ListStructure) → s.state ≡ g.structure.state → s.epoch ≡ g.structure.epoch → s.entries ≡ g.structure.entries ++ e ∷ []
    → e.place ≡ Offloaded m (blocks_of m t g) n → MayList g m t n left → IsFitting g → Laws g
    → (k : Member) → IsCounted s (g.posts k) ((handed_over m t left g).sets k) k
handed_counted g m t n left e s state epoch entries is may fits laws =
    set_counted g m (with_hand t left (g.sets m)) s own others
  where
    own_now : (b : Block) → listed m b (g.structure.entries ++ e ∷ []) + reserved g.structure.epoch b (with_hand t left (g.sets m)).hands ≡ used_once (used_in g.structure.epoch (with_hand t left (g.sets m))) b
    own_now b =
        let kept = fits.kept m (fits.there m (stands-up g.structure.state m (g.posts m) may.writes)) in
        let five = kept.five in
        let inside = task_within t in
        let o = owned g m b may.writes laws in
        let l = listed-added b g.structure.entries e m (blocks_of m t g) n is in
        let r = reserved-set g.structure.epoch b (g.sets m).hands (task_number t) no_hand left (omega (arith, five, inside)) in
        let z = holds-blank g.structure.epoch b left may.emptied in
        let h = holds-now g.structure.epoch b (hand_of t (g.sets m)) may.epoch in
        let v = ap (λ l. used_once l b) (used_in-same g.structure.epoch (g.sets m) (with_hand t left (g.sets m)) refl refl) in
        omega (arith, o, l, r, z, h, v)

    own : IsCounted s (g.posts m) (with_hand t left (g.sets m)) m
    own b = up-counts (stands s.state m (g.posts m)) _ _ _ (ap (λ st. stands st m (g.posts m)) state ∙ may.writes)
        (let q = own_now b in let x = ap (listed m b) entries in let y = ap (λ ep. reserved ep b (with_hand t left (g.sets m)).hands) epoch in let z = ap (λ ep. used_once (used_in ep (with_hand t left (g.sets m))) b) epoch in omega (arith, q, x, y, z))

    others : (k : Member) → (member_number k ≡ member_number m → ⊥) → IsCounted s (g.posts k) (g.sets k) k
    others k differ b = subst (λ st. Counts (stands st k (g.posts k)) (used_once (used_in s.epoch (g.sets k)) b) (listed k b s.entries) (reserved s.epoch b (g.sets k).hands)) (sym state)
        (subst (λ ep. Counts (stands g.structure.state k (g.posts k)) (used_once (used_in ep (g.sets k)) b) (listed k b s.entries) (reserved ep b (g.sets k).hands)) (sym epoch)
        (listed_counted g s.entries k (λ c. ap (listed k c) entries ∙ listed-outside k c g.structure.entries e m (blocks_of m t g) n is differ) laws b))

forgotten_counted : (g : Ground) (m : Member) (e : Entry) (bs : List Block) (n : ℕ) → MayForget g m e bs n → IsFitting g → Laws g
    → (k : Member) → IsCounted (record g.structure { entries = revise e.id deleted g.structure.entries }) (g.posts k) (at_member m (λ _. freed g.structure.epoch bs (g.sets m)) g.sets k) k
forgotten_counted g m e bs n may fits laws =
    set_counted g m (freed g.structure.epoch bs (g.sets m)) (record g.structure { entries = revise e.id deleted g.structure.entries }) own others
  where
    is : stands g.structure.state m (g.posts m) ≡ true
    is = stands-active g.structure.state m (g.posts m) may.active ∙ may.up

    own : IsCounted (record g.structure { entries = revise e.id deleted g.structure.entries }) (g.posts m) (freed g.structure.epoch bs (g.sets m)) m
    own b = up-counts (stands g.structure.state m (g.posts m)) _ _ _ is (
        let o = owned g m b is laws in
        let r = tally-revise (λ (x : Entry). lists m b x.place) e.id deleted g.structure.entries e may.at in
        let p = ap (lists m b) may.place ∙ lists-own m b bs n in
        let hand : Hand = record { epoch = g.structure.epoch; blocks = bs } in
        let h = holds-now g.structure.epoch b hand refl in
        let f = used-freed_in g.structure.epoch hand (g.sets m) b (omega (arith, o, r, p, h)) in
        omega (arith, o, r, p, h, f))

    others : (k : Member) → (member_number k ≡ member_number m → ⊥) → IsCounted (record g.structure { entries = revise e.id deleted g.structure.entries }) (g.posts k) (g.sets k) k
    others k differ = listed_counted g (revise e.id deleted g.structure.entries) k (λ b.
        let r = tally-revise (λ (x : Entry). lists k b x.place) e.id deleted g.structure.entries e may.at in
        let p = ap (lists k b) may.place ∙ lists-other k m b bs n differ in
        omega (arith, r, p)) laws

-- ---- members

at_most_one : (g : Ground) (m : Member) (b : Block) → Laws g → listed m b g.structure.entries ≤ 1
at_most_one g m b laws = let a = apart g m b laws in omega (arith, a)

-- an owner that is down, none of whose tasks has blocks
down_counted : (g : Ground) (m : Member) (post : Post) (set : KeptSet) → post.up ≡ false → AreBlank set.hands → Laws g → IsCounted g.structure post set m
down_counted g m post set down blank laws b = down-counts (stands g.structure.state m post) _ _ _ (stands-down g.structure.state m post down) (at_most_one g m b laws) (blank_reserved g.structure.epoch b set.hands blank)

post_counted : (g : Ground) (m : Member) (post : Post) (sets : Member → KeptSet) → IsCounted g.structure post (sets m) m → ((k : Member) → (member_number k ≡ member_number m → ⊥) → IsCounted g.structure (g.posts k) (sets k) k)
    → (k : Member) → IsCounted g.structure (at_member m (λ _. post) g.posts k) (sets k) k
post_counted g m post sets own others = every_member (λ k (x : Post). IsCounted g.structure x (sets k) k) m (λ _. post) g.posts own others

cut_blank : (old new : KeptSet) → IsCut old new → AreBlank new.hands
cut_blank old new cut = subst AreBlank (sym cut.hands) (refl, (refl, (refl, (refl, (refl, tt)))))

started_counted : (g : Ground) (m : Member) → MayStart g m → AreTold g.sets → Laws g → IsCounted g.structure (next (g.posts m)) (g.sets m) m
started_counted g m may told laws b = by g.structure.state refl
  where
    blank : reserved g.structure.epoch b (g.sets m).hands ≡ 0
    blank = blank_reserved g.structure.epoch b (g.sets m).hands (down_blank m (g.posts m) g.structure (g.sets m) may.down (laws.timely m))

    by : (st : State) → g.structure.state ≡ st → Counts (stands st m (next (g.posts m))) (used_once (used_in g.structure.epoch (g.sets m)) b) (listed m b g.structure.entries) (reserved g.structure.epoch b (g.sets m).hands)
    by Active is = let e = (may.made told).made (ap is_active is) b in omega (arith, blank, e)
    by Failed is = (at_most_one g m b laws, blank)
    by (InRecover k i) is = down-counts (stands (InRecover k i) m (next (g.posts m))) _ _ _ (recoverer (cases_eq (member_number m) (member_number k))) (at_most_one g m b laws) blank
      where
        recoverer : (member_number m ≡ member_number k) ⊎ (member_number m ≡ member_number k → ⊥) → stands (InRecover k i) m (next (g.posts m)) ≡ false
        recoverer (inr differ) = stands-others k i m (next (g.posts m)) differ
        recoverer (inl same) = stands-newer k i m (next (g.posts m)) (λ e. later e)
          where
            had : i.number ≤ (g.posts m).incarnation
            had = subst (λ (x : Member). i.number ≤ (g.posts x).incarnation) (sym (same_member m k same)) (subst (λ st. IsBegun st g.posts) is laws.begun)

            later : (g.posts m).incarnation + 1 ≡ i.number → ⊥
            later e = omega (arith, e, had)

-- ---- the structure

lost_counted : (g : Ground) → is_active g.structure.state ≡ true → Laws g → (k : Member) → IsCounted (lost g.structure) (g.posts k) (g.sets k) k
lost_counted g active laws k b = (omega arith, reserved-none (g.structure.epoch + 1) b (g.sets k).hands (early_hands k (g.posts k) g.structure (g.sets k) (g.structure.epoch + 1) b (omega arith) (laws.timely k)))

begun_counted : (g : Ground) (m : Member) (i : Incarnation) → (g.posts m).up ≡ true → (g.posts m).incarnation ≡ i.number → ((k : Member) → AreBlank (g.sets k).hands)
    → (k : Member) → IsCounted (begun g.structure m i) (g.posts k) (at_member m (λ _. begun_set g m) g.sets k) k
begun_counted g m i up is blank = set_counted g m (begun_set g m) (begun g.structure m i)
    (λ b. up-counts (stands (InRecover m i) m (g.posts m)) _ _ _ (stands-own m i (g.posts m) up is)
    (let r = blank_reserved g.structure.epoch b (g.sets m).hands (blank m) in
    let u = ap (λ l. used_once l b) (used_in-now g.structure.epoch (begun_set g m) (record { epoch = g.structure.epoch; used = replicate (g.sets m).contents.blocks false }) refl refl) ∙ used-blank (g.sets m).contents.blocks b in
    omega (arith, r, u)))
    (λ k differ b. down-counts (stands (InRecover m i) k (g.posts k)) _ _ _ (stands-others m i k (g.posts k) differ) (omega arith) (blank_reserved g.structure.epoch b (g.sets k).hands (blank k)))

unfailed : (m : Member) (i : Incarnation) (s : ListStructure) → s.state ≡ InRecover m i → s.state ≢ Failed
unfailed m i s is failed = let e : InRecover m i ≡ Failed = sym is ∙ failed in absurd cc

-- the recoverer and all others, where a recovery ends
ended_own : (g : Ground) (m : Member) (i : Incarnation) (floor : ℕ) (b : Block) → MayEnd g m i floor → Laws g
    → listed m b g.structure.entries + reserved (max g.structure.epoch floor) b (g.sets m).hands ≡ used_once (used_in (max g.structure.epoch floor) (g.sets m)) b
ended_own g m i floor b may laws = elim (cases_lt g.structure.epoch floor) [
  | inl rises ↦
      let l = ap (listed m b) (may.empty rises) in
      let r = blank_reserved (max g.structure.epoch floor) b (g.sets m).hands (may.blank rises) in
      let u = used_in-old (max g.structure.epoch floor) (g.sets m) b (old rises (g.sets m).map ((laws.timely m).map (stands-up g.structure.state m (g.posts m) may.live))) in
      omega (arith, l, r, u)
  | inr low ↦
      let same : max g.structure.epoch floor ≡ g.structure.epoch = omega (arith, low) in
      let o = owned g m b may.live laws in
      let r = ap (λ ep. reserved ep b (g.sets m).hands) same in
      let u = ap (λ ep. used_once (used_in ep (g.sets m)) b) same in
      omega (arith, o, r, u)
]
  where
    old : g.structure.epoch < floor → (map : Option KeptMap) → IfSome map (λ (x : KeptMap). IsPast (stands g.structure.state m (g.posts m)) g.structure.epoch x.epoch) → IfSome map (λ (x : KeptMap). x.epoch ≢ max g.structure.epoch floor)
    old rises None past = tt
    old rises (Some x) past = λ e. let low = past_low _ _ _ past in omega (arith, e, low, rises)

ended_other : (g : Ground) (m : Member) (i : Incarnation) (floor : ℕ) (k : Member) (b : Block) → MayEnd g m i floor → (member_number k ≡ member_number m → ⊥) → Laws g
    → Counts ((g.posts k).up) (used_once (used_in (max g.structure.epoch floor) (g.sets k)) b) (listed k b g.structure.entries) (reserved (max g.structure.epoch floor) b (g.sets k).hands)
ended_other g m i floor k b may differ laws =
    let isnt : stands g.structure.state k (g.posts k) ≡ false = ap (λ st. stands st k (g.posts k)) may.by ∙ stands-others m i k (g.posts k) differ in
    let r = blank_reserved (max g.structure.epoch floor) b (g.sets k).hands (unlost_blank k (g.posts k) g.structure (g.sets k) isnt (unfailed m i g.structure may.by) (laws.timely k)) in
    let l : listed k b g.structure.entries ≡ 0 = subst (λ st. IsEmptied st g.structure.entries) may.by laws.emptied k b differ in
    counts_if (g.posts k).up _ _ _
    (λ up. let u = used_in-old (max g.structure.epoch floor) (g.sets k) b (old isnt (g.sets k).map ((laws.timely k).map up)) in omega (arith, l, r, u))
    (λ down. (omega (arith, l), r))
  where
    old : stands g.structure.state k (g.posts k) ≡ false → (map : Option KeptMap) → IfSome map (λ (x : KeptMap). IsPast (stands g.structure.state k (g.posts k)) g.structure.epoch x.epoch) → IfSome map (λ (x : KeptMap). x.epoch ≢ max g.structure.epoch floor)
    old isnt None past = tt
    old isnt (Some x) past = λ e. let low = past_before _ _ _ isnt past in omega (arith, e, low)

ended_counted : (g : Ground) (m : Member) (i : Incarnation) (floor : ℕ) → MayEnd g m i floor → Laws g → (k : Member) → IsCounted (recovered g.structure floor) (g.posts k) (g.sets k) k
ended_counted g m i floor may laws k b = elim (cases_eq (member_number k) (member_number m)) [
  | inl same ↦ subst (λ (x : Member). Counts (g.posts x).up (used_once (used_in (max g.structure.epoch floor) (g.sets x)) b) (listed x b g.structure.entries) (reserved (max g.structure.epoch floor) b (g.sets x).hands)) (sym (same_member k m same))
      (up-counts (g.posts m).up _ _ _ (stands-up g.structure.state m (g.posts m) may.live) (ended_own g m i floor b may laws))
  | inr differ ↦ ended_other g m i floor k b may differ laws
]

abandoned_counted : (g : Ground) (m : Member) (i : Incarnation) (k : Member) → g.structure.state ≡ InRecover m i → (member_number k ≡ member_number m → ⊥) → Laws g → IsCounted (abandoned g.structure) (g.posts k) (g.sets k) k
abandoned_counted g m i k by differ laws b =
    let isnt : stands g.structure.state k (g.posts k) ≡ false = ap (λ st. stands st k (g.posts k)) by ∙ stands-others m i k (g.posts k) differ in
    (omega arith, (unowned g k b isnt laws).1)

-- ---- all changes

pub counted_stays : (g h : Ground) → Change g h → AreTold g.sets → IsFitting g → Laws g → (k : Member) → IsCounted h.structure (h.posts k) (h.sets k) k
counted_stays g _ (Takes _ m t epoch n may) told fits laws = set_counted g m _ g.structure (taken_counted g m t epoch n may fits laws) (λ k differ. laws.counted k)
counted_stays g _ (GivesBack _ m t) told fits laws = set_counted g m _ g.structure (given_back_counted g m t fits laws) (λ k differ. laws.counted k)
counted_stays g _ (Writes _ m t block n set may) told fits laws = storage_counted g m set may.same laws
counted_stays g _ (Syncs _ m set may) told fits laws = storage_counted g m set may.same laws
counted_stays g _ (Reads _ m set may) told fits laws = storage_counted g m set may.same laws
counted_stays g _ (PutsInside _ u head body active) told fits laws = λ k. listed_counted g _ k (λ b. listed-inside k b g.structure.entries _ body refl) laws
counted_stays g _ (PutsOutside _ m t u head n left active may) told fits laws = handed_counted g m t n left (new_entry g.structure u head (Offloaded m (blocks_of m t g) n)) (written g.structure u head (Offloaded m (blocks_of m t g) n)) refl refl refl refl may fits laws
counted_stays g _ (Revises _ id f keeps) told fits laws = λ k. listed_counted g _ k (λ b. listed-revised k b id f g.structure.entries keeps) laws
counted_stays g _ (Forgets _ m e bs n may) told fits laws = forgotten_counted g m e bs n may fits laws
counted_stays g _ (Crashes _ m set may) told fits laws = post_counted g m (ended (g.posts m)) (at_member m (λ _. set) g.sets)
    (subst (λ (x : KeptSet). IsCounted g.structure (ended (g.posts m)) x m) (sym (set_at m set g.sets)) (down_counted g m (ended (g.posts m)) set refl (cut_blank (g.sets m) set may.cut) laws))
    (λ k differ. subst (λ (x : KeptSet). IsCounted g.structure (g.posts k) x k) (sym (set_other m set g.sets k differ)) (laws.counted k))
counted_stays g _ (Stops _ m may) told fits laws = post_counted g m (ended (g.posts m)) g.sets (down_counted g m (ended (g.posts m)) (g.sets m) refl may.blank laws) (λ k differ. laws.counted k)
counted_stays g _ (Maps _ m set may) told fits laws = set_counted g m set g.structure (down_counted g m (g.posts m) set may.down (still_blank m (g.posts m) g.structure (g.sets m) set may.down may.hands (laws.timely m)) laws) (λ k differ. laws.counted k)
counted_stays g _ (Saves _ m set may) told fits laws = storage_counted g m set may.same laws
counted_stays g _ (Starts _ m may) told fits laws = post_counted g m (next (g.posts m)) g.sets (started_counted g m may told laws) (λ k differ. laws.counted k)
counted_stays g _ (Loses _ may) told fits laws = lost_counted g may.active laws
counted_stays g _ (Begins _ m i may) told fits laws = begun_counted g m i may.up may.incarnation may.blank
counted_stays g _ (RestoresInside _ e body restore is) told fits laws = λ k. listed_counted g _ k (λ b. listed-inside k b g.structure.entries e body is) laws
counted_stays g _ (RestoresOutside _ m t e n left restore may is) told fits laws = handed_counted g m t n left e (restored g.structure e) refl refl refl is may fits laws
counted_stays g _ (Ends _ m i floor may) told fits laws = ended_counted g m i floor may laws
counted_stays g _ (Abandons _ m i may) told fits laws = set_counted g m (without_map (g.sets m)) (abandoned g.structure)
    (λ b. (omega arith, blank_reserved g.structure.epoch b (g.sets m).hands may.blank))
    (λ k differ. abandoned_counted g m i k may.by differ laws)
counted_stays g _ (Rests _) told fits laws = laws.counted

-- ---- one user at most

-- where the map of an owner that is up is of this epoch
abbrev bit : Bool → ℕ
bit c = if c then 1 else 0

free_is : (up map : Bool) (used : List Bool) (b : Block) → (bit (up && (map && is_free used b)) ≡ 0) ⊎ ((up ≡ true) × ((map ≡ true) × (bit (up && (map && is_free used b)) + used_once used b ≤ 1)))
free_is false map used b = inl refl
free_is true false used b = inl refl
free_is true true used b = inr (refl, (refl, free_once_used used b.number))
  where
    free_once_used : (used : List Bool) (n : ℕ) → bit (not (slice_index_or used n true)) + bit (slice_index_or used n false) ≤ 1
    free_once_used [] n = omega arith
    free_once_used (true ∷ used) zero = omega arith
    free_once_used (false ∷ used) zero = omega arith
    free_once_used (x ∷ used) (suc n) = free_once_used used n

of_epoch : (epoch : ℕ) (map : Option KeptMap) → is_of_epoch epoch map ≡ true → IfSome map (λ (x : KeptMap). x.epoch ≢ epoch) → ⊥
of_epoch epoch None is old = absurd cc
of_epoch epoch (Some x) is old = let e = ne_eqb x.epoch epoch old in absurd cc

past_epoch : (st : State) (m : Member) (post : Post) (epoch : ℕ) (map : Option KeptMap) → stands st m post ≡ false → IfSome map (λ (x : KeptMap). IsPast (stands st m post) epoch x.epoch) → IfSome map (λ (x : KeptMap). x.epoch ≢ epoch)
past_epoch st m post epoch None isnt past = tt
past_epoch st m post epoch (Some x) isnt past = λ e. let low = past_before _ _ _ isnt past in omega (arith, e, low)

pub one_user : (g : Ground) (m : Member) (b : Block) → Laws g → listed m b g.structure.entries + reserved g.structure.epoch b (g.sets m).hands + free_once g.structure.epoch (g.posts m) (g.sets m) b ≤ 1
one_user g m b laws = elim (free_is (g.posts m).up (map_stands g.structure.epoch (g.sets m)) (used_in g.structure.epoch (g.sets m)) b) [
  | inl none ↦ let a = apart g m b laws in omega (arith, a, none)
  | inr free ↦ elim (cases_Bool (stands g.structure.state m (g.posts m))) [
    | inl is ↦ let o = owned g m b is laws in let f = free.1.1 in omega (arith, o, f)
    | inr isnt ↦ absurd (of_epoch g.structure.epoch (g.sets m).map free.1.0 (past_epoch g.structure.state m (g.posts m) g.structure.epoch (g.sets m).map isnt ((laws.timely m).map free.0)))
  ]
]
