-- what a reader has read stays true
use Rattle.std.proofs.Common.{◌≡◌, ℕ, zero, suc, ◌+◌, ◌*◌, ◌-◌, ◌<◌, ◌≤◌, min, true, List, [], ◌∷◌, ◌++◌, Option, Some, None, refl, sym, ap, ◌∙◌, arith, inl, inr, subst, length, take, append_assoc}
use Rattle.std.specs.Prelude.{slice_get, option_and_then}
use Rattle.std.specs.List.{AllByRecursion}
use Rattle.std.proofs.lemmas.Bool.{cases_eq}
use Rattle.std.proofs.lemmas.List.{append-nil}
use Rattle.std.proofs.Math.Seq.{take-length}
use Rattle.qsg_num.specs.declared.seats.Member.{Member}
use Rattle.qsg_num.specs.declared.ids.Block.{Block}
use Rattle.qsg_num.specs.declared.ids.EntryId.{EntryId}
use Rattle.qsg_num.specs.Ids.{id_at}
use Rattle.qsg_disk.specs.Byte.{Byte, values}
use Rattle.qsg_lists.specs.declared.parts.Entry.{Entry}
use Rattle.qsg_lists.specs.declared.parts.Place.TheVariants.{Inline, Offloaded}
use Rattle.qsg_lists.specs.Entries.{AreInOrder, KeepsId, has_id, entry_at, revise}
use Rattle.qsg_lists.specs.Structures.{is_active}
use Rattle.qsg_lists.specs.Settling.{deleted}
use Rattle.qsg_lists.specs.Writing.{new_entry}
use Rattle.qsg_lists.proofs.Found.{entry_at-append_other, entry_at-revise, entry_at-revise_other, all-find}
use Rattle.qsg_lists.proofs.Lookups.{same_id}
use Rattle.qsg_dataset.specs.Contents.{Contents, block_bytes}
use Rattle.qsg_manager.specs.Views.{body_of}
use Rattle.qsg_blocks.specs.State.{Ground, AreTold, cells_at, body_at, outside_of, uses, lists, listed}
use Rattle.qsg_blocks.specs.Laws.{IsSafe, IsSafePlace, IsFitting, Laws}
use Rattle.qsg_blocks.specs.Changes.{blocks_of, Change}
use Rattle.qsg_blocks.specs.Changes.Change.{PutsInside, PutsOutside, Revises, Forgets, Loses, Begins, RestoresInside, RestoresOutside, Abandons}
use Rattle.qsg_blocks.specs.Works.{Reader, HasRead, FitsRead}
use Rattle.qsg_blocks.proofs.Counting.{tally-at, uses-take, lists-own}
use Rattle.qsg_blocks.proofs.Standing.{past_up}
use Rattle.qsg_blocks.proofs.Kept.{keeps_id, deleted_id}
use Rattle.qsg_blocks.proofs.Bytes.{steady_same, safe_append}
use Rattle.qsg_blocks.proofs.Bodies.{stays}
use Rattle.qsg_blocks.proofs.Down.{unrecovered, epoch_cases}

-- ---- the first blocks of a body

pub values-append : (xs ys : List Byte) → values (xs ++ ys) ≡ values xs ++ values ys
values-append [] ys = refl
values-append (x ∷ xs) ys = ap (λ (l : List ℕ). x.value ∷ l) (values-append xs ys)

same_some : {X : Type 0} (x y : X) → Some x ≡ Some y → x ≡ y
same_some x y is = cc

cells_next : (c : Contents) (bs : List Block) (k n : ℕ) (b : Block) → slice_get bs k ≡ Some b → cells_at c (take (suc k) bs) n ≡ cells_at c (take k bs) n ++ block_bytes c b.number (min c.block_size (n - k * c.block_size))
cells_next c [] k n b at = absurd cc
cells_next c (x ∷ bs) zero n b at =
    append-nil (block_bytes c x.number (min c.block_size n))
    ∙ ap (λ (y : Block). block_bytes c y.number (min c.block_size n)) (same_some x b at)
    ∙ ap (λ l. block_bytes c b.number (min c.block_size l)) (omega arith)
cells_next c (x ∷ bs) (suc k) n b at =
    let rest = cells_next c bs k (n - c.block_size) b at in
    let e : (n - c.block_size) - k * c.block_size ≡ n - suc k * c.block_size = grind arith in
    ap (λ l. block_bytes c x.number (min c.block_size n) ++ l) (rest ∙ ap (λ l. cells_at c (take k bs) (n - c.block_size) ++ block_bytes c b.number (min c.block_size l)) e)
    ∙ sym (append_assoc (block_bytes c x.number (min c.block_size n)) (cells_at c (take k bs) (n - c.block_size)) (block_bytes c b.number (min c.block_size (n - suc k * c.block_size))))

pub cells-next : (c : Contents) (bs : List Block) (k n : ℕ) (b : Block) → slice_get bs k ≡ Some b → cells_at c (take (k + 1) bs) n ≡ cells_at c (take k bs) n ++ block_bytes c b.number (min c.block_size (n - k * c.block_size))
cells-next c bs k n b at = let e : k + 1 ≡ suc k = omega arith in ap (λ j. cells_at c (take j bs) n) e ∙ cells_next c bs k n b at

safe_front : (xs ys : List Byte) → AllByRecursion IsSafe (xs ++ ys) → AllByRecursion IsSafe xs
safe_front [] ys all = tt
safe_front (x ∷ xs) ys all = (all.0, safe_front xs ys all.1)

safe_back : (xs ys : List Byte) → AllByRecursion IsSafe (xs ++ ys) → AllByRecursion IsSafe ys
safe_back [] ys all = all
safe_back (x ∷ xs) ys all = safe_back xs ys all.1

pub safe_first : (c : Contents) (bs : List Block) (k n : ℕ) → AllByRecursion IsSafe (cells_at c bs n) → AllByRecursion IsSafe (cells_at c (take k bs) n)
safe_first c bs zero n all = tt
safe_first c [] (suc k) n all = tt
safe_first c (b ∷ bs) (suc k) n all =
    safe_append (block_bytes c b.number (min c.block_size n)) (cells_at c (take k bs) (n - c.block_size))
    (safe_front (block_bytes c b.number (min c.block_size n)) (cells_at c bs (n - c.block_size)) all)
    (safe_first c bs k (n - c.block_size) (safe_back (block_bytes c b.number (min c.block_size n)) (cells_at c bs (n - c.block_size)) all))

-- ---- an entry that stands was there

top_rises : (g h : Ground) → Change g h → h.structure.epoch ≡ g.structure.epoch → is_active g.structure.state ≡ true → g.structure.last ≤ h.structure.last
top_rises g _ (PutsInside _ u head body active) now act = omega arith
top_rises g _ (PutsOutside _ m t u head n left active may) now act = omega arith
top_rises g _ (Loses _ may) now act = absurd (omega (arith, now))
top_rises g _ _ now act = omega arith

-- in the same epoch of an active structure, an entry of an id that was given was there, at its place
pub record WasThere (id : EntryId) (es : List Entry) (e : Entry) : Type 0 where
  pub before : Entry
  pub at : entry_at id es ≡ Some before
  pub place : e.place ≡ before.place

stood : (id : EntryId) (es : List Entry) (e : Entry) → entry_at id es ≡ Some e → WasThere id es e
stood id es e at = record { before = e; at = at; place = refl }

appended : (id : EntryId) (es : List Entry) (new e : Entry) → id.number < new.id.number → entry_at id (es ++ new ∷ []) ≡ Some e → WasThere id es e
appended id es new e low at = stood id es e (sym (entry_at-append_other id es new (λ same. (let n = ap (λ (x : EntryId). x.number) same in omega (arith, n, low)))) ∙ at)

revised_there : (id other : EntryId) (f : Entry → Option Entry) (es : List Entry) (e : Entry) → KeepsId f → ((x y : Entry) → f x ≡ Some y → y.place ≡ x.place) → AreInOrder es → entry_at id (revise other f es) ≡ Some e → WasThere id es e
revised_there id other f es e keeps put ordered at = elim (cases_eq id.number other.number) [
  | inl same ↦
      let here = same_id id other same in
      by (entry_at id es) refl (ap (λ (x : EntryId). option_and_then f (entry_at x es)) here ∙ sym (entry_at-revise other f es keeps ordered) ∙ ap (λ (x : EntryId). entry_at x (revise other f es)) (sym here) ∙ at)
  | inr differ ↦ stood id es e (sym (entry_at-revise_other other id f es keeps (λ same. differ (ap (λ (x : EntryId). x.number) same))) ∙ at)
]
  where
    by : (o : Option Entry) → entry_at id es ≡ o → option_and_then f (entry_at id es) ≡ Some e → WasThere id es e
    by None is made = let n : None ≡ Some e = sym (ap (option_and_then f) is) ∙ made in absurd cc
    by (Some x) is made = record { before = x; at = is; place = put x e (sym (ap (option_and_then f) is) ∙ made) }

was_there : (id : EntryId) (g h : Ground) → Change g h → Laws g → h.structure.epoch ≡ g.structure.epoch → is_active g.structure.state ≡ true → id.number ≤ (id_at g.structure.epoch g.structure.last).number
    → (e : Entry) → entry_at id h.structure.entries ≡ Some e → WasThere id g.structure.entries e
was_there id g _ (PutsInside _ u head body active) laws now act given e at = appended id g.structure.entries (new_entry g.structure u head (Inline body)) e (omega (arith, given)) at
was_there id g _ (PutsOutside _ m t u head n left active may) laws now act given e at = appended id g.structure.entries (new_entry g.structure u head (Offloaded m (blocks_of m t g) n)) e (omega (arith, given)) at
was_there id g _ (Revises _ other f keeps) laws now act given e at = revised_there id other f g.structure.entries e (keeps_id f keeps) (λ x y is. ap (λ (z : Entry). z.place) (keeps.stays x y is)) laws.fresh.ordered at
was_there id g _ (Forgets _ m x bs n may) laws now act given e at = revised_there id x.id deleted g.structure.entries e deleted_id (λ y z is. absurd cc) laws.fresh.ordered at
was_there id g _ (Loses _ may) laws now act given e at = absurd (omega (arith, now))
was_there id g _ (Begins _ m i may) laws now act given e at = absurd cc
was_there id g _ (RestoresInside _ x body restore is) laws now act given e at = absurd (unrecovered g.structure.state act restore.recovering)
was_there id g _ (RestoresOutside _ m t x n left restore may is) laws now act given e at = absurd (unrecovered g.structure.state act restore.recovering)
was_there id g _ (Abandons _ m i may) laws now act given e at = absurd cc
was_there id g _ _ laws now act given e at = stood id g.structure.entries e at

-- ---- the law

has_read : (w : Reader) (g h : Ground) (x e : Entry) → Change g h → AreTold g.sets → IsFitting g → Laws g → entry_at w.id g.structure.entries ≡ Some x → e.place ≡ x.place → HasRead w g.sets x → HasRead w h.sets e
has_read w g h x e change told fits laws at place read =
    let bs = take w.count w.blocks in
    let listed_it : (b : Block) → uses b bs ≤ listed w.owner b g.structure.entries = λ b.
    let t = uses-take b w.count w.blocks in
    let l = tally-at (λ (y : Entry). lists w.owner b y.place) w.id g.structure.entries x at in
    let o = ap (lists w.owner b) read.place ∙ lists-own w.owner b w.blocks w.size in
    omega (arith, t, l, o) in
    let safe : IsSafePlace g.sets (Offloaded w.owner w.blocks w.size) = subst (IsSafePlace g.sets) read.place (all-find (λ (y : Entry). IsSafePlace g.sets y.place) (has_id w.id) g.structure.entries x laws.safe at) in
    let same = steady_same (cells_at (g.sets w.owner).contents bs w.size) (cells_at (h.sets w.owner).contents bs w.size) (stays g h change told fits laws w.owner bs w.size listed_it) (safe_first (g.sets w.owner).contents w.blocks w.count w.size safe) in
    record { place = place ∙ read.place; bytes = read.bytes ∙ sym (ap values same) }

pub reader_stays : (w : Reader) (g h : Ground) → Change g h → AreTold g.sets → IsFitting g → Laws g → FitsRead w g → FitsRead w h
reader_stays w g h change told fits laws fit = let e = epoch_cases w.epoch g h change fit.past in record {
  past = e.0;
  given = λ now.
      let k = e.1 now in
      let top = top_rises g h change k.1.0 k.1.1 in
      let given = fit.given k.0 in
      let same = k.1.0 in
      omega (arith, top, given, same);
  read = λ now x at.
      let k = e.1 now in
      let there = was_there w.id g h change laws k.1.0 k.1.1 (fit.given k.0) x at in
      has_read w g h there.before x change told fits laws there.at there.place (fit.read k.0 there.before there.at);
}

-- ---- its own steps

pub reader_begins : (g : Ground) (e : Entry) (owner : Member) (blocks : List Block) (n : ℕ) → Laws g → is_active g.structure.state ≡ true → entry_at e.id g.structure.entries ≡ Some e → e.place ≡ Offloaded owner blocks n
    → FitsRead (record { epoch = g.structure.epoch; id = e.id; owner = owner; blocks = blocks; size = n; count = 0; bytes = [] }) g
reader_begins g e owner blocks n laws active at place = record {
  past = past_up _ _ _ active (omega arith);
  given = λ now. all-find (λ (y : Entry). y.id.number ≤ (id_at g.structure.epoch g.structure.last).number) (has_id e.id) g.structure.entries e laws.fresh.topped at;
  read = λ now x there. record { place = ap (λ (y : Entry). y.place) (same_some x e (sym there ∙ at)) ∙ place; bytes = refl };
}

pub reader_goes_on : (w : Reader) (g : Ground) (b : Block) (bytes : List ℕ) → FitsRead w g → slice_get w.blocks w.count ≡ Some b
    → bytes ≡ values (block_bytes (g.sets w.owner).contents b.number (min (g.sets w.owner).contents.block_size (w.size - w.count * (g.sets w.owner).contents.block_size)))
    → FitsRead (record w { count = w.count + 1; bytes = w.bytes ++ bytes }) g
reader_goes_on w g b bytes fit at is = record {
  past = fit.past;
  given = fit.given;
  read = λ now x there. let read = fit.read now x there in record {
    place = read.place;
    bytes =
        ap (λ l. l ++ bytes) read.bytes
        ∙ ap (λ l. body_at (g.sets w.owner).contents (take w.count w.blocks) w.size ++ l) is
        ∙ sym (values-append (cells_at (g.sets w.owner).contents (take w.count w.blocks) w.size) (block_bytes (g.sets w.owner).contents b.number (min (g.sets w.owner).contents.block_size (w.size - w.count * (g.sets w.owner).contents.block_size))))
        ∙ sym (ap values (cells-next (g.sets w.owner).contents w.blocks w.count w.size b at));
  };
}

pub reader_whole : (w : Reader) (g : Ground) (e : Entry) → FitsRead w g → w.count ≡ length w.blocks → w.epoch ≡ g.structure.epoch → entry_at w.id g.structure.entries ≡ Some e → w.bytes ≡ body_of (outside_of g.sets) e.place
reader_whole w g e fit all now at =
    let read = fit.read now e at in
    read.bytes ∙ ap (λ l. body_at (g.sets w.owner).contents l w.size) (ap (λ k. take k w.blocks) all ∙ take-length w.blocks) ∙ sym (ap (body_of (outside_of g.sets)) read.place)
