-- the bodies of entries, and that they are safe
use Rattle.std.proofs.Common.{◌≡◌, ℕ, ◌<◌, ◌≤◌, List, [], ◌∷◌, refl, sym, ap, arith, inl, inr, subst, map}
use Rattle.std.specs.Prelude.{◌⊎◌}
use Rattle.std.specs.List.{AllByRecursion, AllZip}
use Rattle.std.proofs.lemmas.Bool.{cases_Bool}
use Rattle.qsg_num.specs.declared.seats.Member.{Member}
use Rattle.qsg_num.specs.declared.seats.StructNo.{StructNo}
use Rattle.qsg_num.specs.declared.seats.TaskNo.{TaskNo}
use Rattle.qsg_num.specs.declared.ids.Block.{Block}
use Rattle.qsg_num.specs.Seats.{task_number}
use Rattle.qsg_disk.specs.Byte.{Byte, values, EachPair, IsKeptOrSynced, IsCut as IsCutByte}
use Rattle.qsg_lists.specs.declared.parts.Entry.{Entry}
use Rattle.qsg_lists.specs.declared.parts.Place.{Place}
use Rattle.qsg_lists.specs.declared.parts.Place.TheVariants.{Inline, Offloaded}
use Rattle.qsg_lists.specs.declared.parts.State.{State}
use Rattle.qsg_lists.specs.declared.parts.State.TheVariants.{Active, Failed, InRecover}
use Rattle.qsg_lists.specs.Settling.{deleted}
use Rattle.qsg_lists.specs.Writing.{new_entry}
use Rattle.qsg_lists.proofs.Appending.{all_push}
use Rattle.qsg_datasets.specs.declared.member_data_set.Hand.{Hand}
use Rattle.qsg_datasets.specs.Kept.{KeptSet, no_hand, hand_of, with_hand, freed}
use Rattle.qsg_manager.specs.Views.{Bodies, Outside, body_of, is_outside, message_of, held_of}
use Rattle.qsg_group.specs.Tables.{at_member}
use Rattle.qsg_group.proofs.Tables.{every_member}
use Rattle.qsg_blocks.specs.State.{Ground, AreTold, stands, cells_at, outside_of, uses, lists, listed}
use Rattle.qsg_blocks.specs.Laws.{IsBlank, IsHeldBy, IsEmptied, IsSafe, IsSafePlace, AreBodiesSafe, IsFitting, Laws}
use Rattle.qsg_blocks.specs.Changes.{with_set, blocks_of, handed_over, MayWrite, MayList, Change}
use Rattle.qsg_blocks.specs.Changes.Change.{Rests, Takes, GivesBack, Writes, Syncs, Reads, PutsInside, PutsOutside, Revises, Forgets, Crashes, Stops, Maps, Saves, Starts, Loses, Begins, RestoresInside, RestoresOutside, Ends, Abandons}
use Rattle.qsg_blocks.proofs.Counting.{has-used, holds-now, reserved-at, hands-at, lists-own}
use Rattle.qsg_blocks.proofs.Fitting.{set_at, stays_put, deleted_put, places-revise}
use Rattle.qsg_blocks.proofs.Standing.{told_true, told_false}
use Rattle.qsg_blocks.proofs.Counted.{apart}
use Rattle.qsg_blocks.proofs.Bytes.{Steady, kept_steady, synced_kept, cut_steady, zip_refl, zip_mono, steady_same, cells_same, cells_each, cells_beside, cells_header}

-- ---- no task has a block that an entry lists

emptied_failed : (st : State) (es : List Entry) → st ≡ Failed → IsEmptied st es → es ≡ []
emptied_failed Active es is empty = absurd cc
emptied_failed Failed es is empty = empty
emptied_failed (InRecover by i) es is empty = absurd cc

pub unlisted : (g : Ground) (m : Member) (t : TaskNo) (b : Block) → Laws g → 0 < uses b (blocks_of m t g) → listed m b g.structure.entries ≡ 0
unlisted g m t b laws used = by (hands-at (λ (h : Hand). IsBlank h ⊎ IsHeldBy m (g.posts m) g.structure h) (g.sets m).hands (task_number t) no_hand (inl refl) (laws.timely m).hands)
  where
    by : IsBlank (hand_of t (g.sets m)) ⊎ IsHeldBy m (g.posts m) g.structure (hand_of t (g.sets m)) → listed m b g.structure.entries ≡ 0
    by (inl blank) = let z = ap (uses b) blank in absurd (omega (arith, z, used))
    by (inr held) = elim (cases_Bool (stands g.structure.state m (g.posts m))) [
      | inl is ↦
          let now = told_true _ _ _ _ is held.told in
          let one = apart g m b laws in
          let r = reserved-at g.structure.epoch b (g.sets m).hands (task_number t) no_hand refl in
          let h = holds-now g.structure.epoch b (hand_of t (g.sets m)) now in
          omega (arith, one, r, h, used)
      | inr isnt ↦ ap (listed m b) (emptied_failed g.structure.state g.structure.entries (told_false _ _ _ _ isnt held.told).1 laws.emptied)
    ]

-- ---- the bytes of listed blocks stay

abbrev pub AreListed : Member → List Block → List Entry → Type 0
AreListed m bs es = (b : Block) → uses b bs ≤ listed m b es

abbrev pub StaysAt : (es : List Entry) (k : Member) (old new : KeptSet) → Type 0
StaysAt es k old new = (bs : List Block) (n : ℕ) → AreListed k bs es → AllZip Steady (cells_at old.contents bs n) (cells_at new.contents bs n)

-- listed blocks of every owner
abbrev pub Stays : (es : List Entry) (old new : Member → KeptSet) → Type 0
Stays es old new = (k : Member) → StaysAt es k (old k) (new k)

steady_refl : (x : Byte) → Steady x x
steady_refl x safe = refl

pub stays_refl : (es : List Entry) (k : Member) (set : KeptSet) → StaysAt es k set set
stays_refl es k set bs n listed = zip_refl Steady steady_refl (cells_at set.contents bs n)

set_stays : (g : Ground) (m : Member) (set : KeptSet) → StaysAt g.structure.entries m (g.sets m) set → Stays g.structure.entries g.sets (at_member m (λ _. set) g.sets)
set_stays g m set own = every_member (λ k x. StaysAt g.structure.entries k (g.sets k) x) m (λ _. set) g.sets own (λ k differ. stays_refl g.structure.entries k (g.sets k))

same_stays : (es : List Entry) (k : Member) (old new : KeptSet) → new.contents.block_size ≡ old.contents.block_size → new.contents.bytes ≡ old.contents.bytes → StaysAt es k old new
same_stays es k old new size bytes bs n listed = subst (AllZip Steady (cells_at old.contents bs n)) (sym (cells_same old.contents new.contents bs n size bytes)) (zip_refl Steady steady_refl (cells_at old.contents bs n))

pub synced_steady : (x y : Byte) → IsKeptOrSynced x y → Steady x y
synced_steady x y kept = kept_steady x y (synced_kept x y kept)

each_stays : (R : Byte → Byte → Type 0) → ((x y : Byte) → R x y → Steady x y) → (es : List Entry) (k : Member) (old new : KeptSet) → new.contents.block_size ≡ old.contents.block_size → EachPair R old.contents.bytes new.contents.bytes → StaysAt es k old new
each_stays R f es k old new size each bs n listed = zip_mono R Steady f (cells_at old.contents bs n) (cells_at new.contents bs n) (cells_each R old.contents new.contents size each bs n)

write_stays : (g : Ground) (m : Member) (t : TaskNo) (block : Block) (w : ℕ) (set : KeptSet) → MayWrite g m t block w set → AreTold g.sets → IsFitting g → Laws g → StaysAt g.structure.entries m (g.sets m) set
write_stays g m t block w set may told fits laws bs n listed =
    cells_beside Steady steady_refl (g.sets m).contents set.contents block w may.same.contents.block_size may.fits (may.beside (told m (fits.there m may.up))) bs n
    (let u = unlisted g m t block laws (has-used block (blocks_of m t g) may.has) in let l = listed block in omega (arith, u, l))

pub stays : (g h : Ground) → Change g h → AreTold g.sets → IsFitting g → Laws g → Stays g.structure.entries g.sets h.sets
stays g _ (Takes _ m t epoch n may) told fits laws = set_stays g m _ (stays_refl g.structure.entries m (g.sets m))
stays g _ (GivesBack _ m t) told fits laws = set_stays g m _ (stays_refl g.structure.entries m (g.sets m))
stays g _ (Writes _ m t block n set may) told fits laws = set_stays g m set (write_stays g m t block n set may told fits laws)
stays g _ (Syncs _ m set may) told fits laws = set_stays g m set (each_stays IsKeptOrSynced synced_steady g.structure.entries m (g.sets m) set may.same.contents.block_size (may.kept (told m may.there)))
stays g _ (Reads _ m set may) told fits laws = set_stays g m set (same_stays g.structure.entries m (g.sets m) set may.same.contents.block_size (may.bytes (told m may.there)))
stays g _ (PutsOutside _ m t u head n left active may) told fits laws = set_stays g m _ (stays_refl g.structure.entries m (g.sets m))
stays g _ (Forgets _ m e bs n may) told fits laws = set_stays g m _ (stays_refl g.structure.entries m (g.sets m))
stays g _ (Crashes _ m set may) told fits laws = set_stays g m set (each_stays IsCutByte cut_steady g.structure.entries m (g.sets m) set may.cut.contents.block_size (may.cut.cut (told m (fits.there m may.up))))
stays g _ (Maps _ m set may) told fits laws = set_stays g m set (same_stays g.structure.entries m (g.sets m) set may.same.block_size (may.bytes (told m may.there)))
stays g _ (Saves _ m set may) told fits laws = set_stays g m set (λ bs n listed. cells_header Steady steady_refl (g.sets m).contents set.contents may.same.contents.block_size (may.beside (told m may.there)) bs n)
stays g _ (Begins _ m i may) told fits laws = set_stays g m _ (stays_refl g.structure.entries m (g.sets m))
stays g _ (RestoresOutside _ m t e n left restore may is) told fits laws = set_stays g m _ (stays_refl g.structure.entries m (g.sets m))
stays g _ (Abandons _ m i may) told fits laws = set_stays g m _ (stays_refl g.structure.entries m (g.sets m))
stays g _ (Rests _) told fits laws = λ k. stays_refl g.structure.entries k (g.sets k)
stays g _ (PutsInside _ u head body active) told fits laws = λ k. stays_refl g.structure.entries k (g.sets k)
stays g _ (Revises _ id f keeps) told fits laws = λ k. stays_refl g.structure.entries k (g.sets k)
stays g _ (Stops _ m may) told fits laws = λ k. stays_refl g.structure.entries k (g.sets k)
stays g _ (Starts _ m may) told fits laws = λ k. stays_refl g.structure.entries k (g.sets k)
stays g _ (Loses _ may) told fits laws = λ k. stays_refl g.structure.entries k (g.sets k)
stays g _ (RestoresInside _ e body restore is) told fits laws = λ k. stays_refl g.structure.entries k (g.sets k)
stays g _ (Ends _ m i floor may) told fits laws = λ k. stays_refl g.structure.entries k (g.sets k)

-- ---- so do bodies

-- a body that reads the same, and is safe
abbrev pub IsSamePlace : (old new : Member → KeptSet) → Place → Type 0
IsSamePlace old new place = IsSafePlace new place × (body_of (outside_of new) place ≡ body_of (outside_of old) place)

pub same_place : (old new : Member → KeptSet) (place : Place) → ((k : Member) (bs : List Block) (n : ℕ) → ((b : Block) → uses b bs ≤ lists k b place) → AllZip Steady (cells_at (old k).contents bs n) (cells_at (new k).contents bs n))
    → IsSafePlace old place → IsSamePlace old new place
same_place old new (Inline body) stay safe = (tt, refl)
same_place old new (Offloaded k bs n) stay safe =
    let same = steady_same (cells_at (old k).contents bs n) (cells_at (new k).contents bs n) (stay k bs n (λ b. let e = lists-own k b bs n in omega (arith, e))) safe in
    (subst (AllByRecursion IsSafe) (sym same) safe, ap values same)

pub same_places : (old new : Member → KeptSet) (es : List Entry) → Stays es old new → AreBodiesSafe old es → AllByRecursion (λ (e : Entry). IsSamePlace old new e.place) es
same_places old new [] stay safe = tt
same_places old new (e ∷ es) stay safe = (
  same_place old new e.place (λ k bs n used. stay k bs n (λ b. let u = used b in omega (arith, u))) safe.0,
  same_places old new es (λ k bs n used. stay k bs n (λ b. let u = used b in omega (arith, u))) safe.1,
)

-- an entry whose body a task hands over
handed_place : (g : Ground) (m : Member) (t : TaskNo) (n : ℕ) (left : Hand) (place : Place) → place ≡ Offloaded m (blocks_of m t g) n → MayList g m t n left → AreTold g.sets → IsSamePlace g.sets (handed_over m t left g).sets place
handed_place g m t n left place is may told = subst (IsSamePlace g.sets (handed_over m t left g).sets) (sym is)
    (subst (λ (x : KeptSet). AllByRecursion IsSafe (cells_at x.contents (blocks_of m t g) n) × (values (cells_at x.contents (blocks_of m t g) n) ≡ values (cells_at (g.sets m).contents (blocks_of m t g) n)))
    (sym (set_at m (with_hand t left (g.sets m)) g.sets)) (may.safe told, refl))

inside_place : (old new : Member → KeptSet) (place : Place) (body : List ℕ) → place ≡ Inline body → IsSamePlace old new place
inside_place old new place body is = subst (IsSamePlace old new) (sym is) (tt, refl)

pub places_stay : (g h : Ground) → Change g h → AreTold g.sets → IsFitting g → Laws g → AllByRecursion (λ (e : Entry). IsSamePlace g.sets h.sets e.place) g.structure.entries
places_stay g h change told fits laws = same_places g.sets h.sets g.structure.entries (stays g h change told fits laws) laws.safe

-- of the entries that are there then
pub places_after : (g h : Ground) → Change g h → AreTold g.sets → AllByRecursion (λ (e : Entry). IsSamePlace g.sets h.sets e.place) g.structure.entries → AllByRecursion (λ (e : Entry). IsSamePlace g.sets h.sets e.place) h.structure.entries
places_after g _ (PutsInside _ u head body active) told all = all_push (λ (e : Entry). IsSamePlace g.sets g.sets e.place) g.structure.entries _ all (tt, refl)
places_after g _ (PutsOutside _ m t u head n left active may) told all =
    all_push (λ (e : Entry). IsSamePlace g.sets (handed_over m t left g).sets e.place) g.structure.entries (new_entry g.structure u head (Offloaded m (blocks_of m t g) n)) all (handed_place g m t n left (Offloaded m (blocks_of m t g) n) refl may told)
places_after g _ (Revises _ id f keeps) told all = places-revise (IsSamePlace g.sets g.sets) id f (stays_put f keeps) g.structure.entries all
places_after g _ (Forgets _ m e bs n may) told all = places-revise (IsSamePlace g.sets (with_set m (freed g.structure.epoch bs (g.sets m)) g).sets) e.id deleted deleted_put g.structure.entries all
places_after g _ (Loses _ may) told all = tt
places_after g _ (Begins _ m i may) told all = tt
places_after g _ (RestoresInside _ e body restore is) told all = all_push (λ (x : Entry). IsSamePlace g.sets g.sets x.place) g.structure.entries e all (inside_place g.sets g.sets e.place body is)
places_after g _ (RestoresOutside _ m t e n left restore may is) told all =
    all_push (λ (x : Entry). IsSamePlace g.sets (handed_over m t left g).sets x.place) g.structure.entries e all (handed_place g m t n left e.place is may told)
places_after g _ (Abandons _ m i may) told all = tt
places_after g _ _ told all = all

safe_parts : (old new : Member → KeptSet) (es : List Entry) → AllByRecursion (λ (e : Entry). IsSamePlace old new e.place) es → AreBodiesSafe new es
safe_parts old new [] all = tt
safe_parts old new (e ∷ es) all = (all.0.0, safe_parts old new es all.1)

body_parts : (old new : Member → KeptSet) (es : List Entry) → AllByRecursion (λ (e : Entry). IsSamePlace old new e.place) es → AllByRecursion (λ (e : Entry). body_of (outside_of new) e.place ≡ body_of (outside_of old) e.place) es
body_parts old new [] all = tt
body_parts old new (e ∷ es) all = (all.0.1, body_parts old new es all.1)

pub safe_stays : (g h : Ground) → Change g h → AreTold g.sets → IsFitting g → Laws g → AreBodiesSafe h.sets h.structure.entries
safe_stays g h change told fits laws = safe_parts g.sets h.sets h.structure.entries (places_after g h change told (places_stay g h change told fits laws))

pub bodies_before : (g h : Ground) → Change g h → AreTold g.sets → IsFitting g → Laws g → AllByRecursion (λ (e : Entry). body_of (outside_of h.sets) e.place ≡ body_of (outside_of g.sets) e.place) g.structure.entries
bodies_before g h change told fits laws = body_parts g.sets h.sets g.structure.entries (places_stay g h change told fits laws)

pub bodies_after : (g h : Ground) → Change g h → AreTold g.sets → IsFitting g → Laws g → AllByRecursion (λ (e : Entry). body_of (outside_of h.sets) e.place ≡ body_of (outside_of g.sets) e.place) h.structure.entries
bodies_after g h change told fits laws = body_parts g.sets h.sets h.structure.entries (places_after g h change told (places_stay g h change told fits laws))

-- so entries have the messages that they had
pub same_held : (old new : Outside) (s : StructNo) (es : List Entry) → AllByRecursion (λ (e : Entry). body_of (new s) e.place ≡ body_of (old s) e.place) es → map (held_of new s) es ≡ map (held_of old s) es
same_held old new s [] all = refl
same_held old new s (e ∷ es) all = λ i. record { message = message_of s e.id e.head (all.0 i); mark = e.mark; outside = is_outside e.place } ∷ same_held old new s es all.1 i

bodies_by : (a b c d : Bodies) (es : List Entry) → c ≡ a → d ≡ b → AllByRecursion (λ (e : Entry). body_of b e.place ≡ body_of a e.place) es → AllByRecursion (λ (e : Entry). body_of d e.place ≡ body_of c e.place) es
bodies_by a b c d es was is all = subst (λ y. AllByRecursion (λ (e : Entry). body_of d e.place ≡ body_of y e.place) es) (sym was) (subst (λ x. AllByRecursion (λ (e : Entry). body_of x e.place ≡ body_of a e.place) es) (sym is) all)

pub held_before : (old new : Outside) (s : StructNo) (g h : Ground) → Change g h → AreTold g.sets → IsFitting g → Laws g → old s ≡ outside_of g.sets → new s ≡ outside_of h.sets → map (held_of new s) g.structure.entries ≡ map (held_of old s) g.structure.entries
held_before old new s g h change told fits laws was is = same_held old new s g.structure.entries (bodies_by (outside_of g.sets) (outside_of h.sets) (old s) (new s) g.structure.entries was is (bodies_before g h change told fits laws))

pub held_after : (old new : Outside) (s : StructNo) (g h : Ground) → Change g h → AreTold g.sets → IsFitting g → Laws g → old s ≡ outside_of g.sets → new s ≡ outside_of h.sets → map (held_of new s) h.structure.entries ≡ map (held_of old s) h.structure.entries
held_after old new s g h change told fits laws was is = same_held old new s h.structure.entries (bodies_by (outside_of g.sets) (outside_of h.sets) (old s) (new s) h.structure.entries was is (bodies_after g h change told fits laws))
