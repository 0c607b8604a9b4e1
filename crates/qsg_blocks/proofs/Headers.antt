-- saved maps
use Rattle.std.proofs.Common.{◌≡◌, ℕ, ◌≤◌, Bool, true, false, List, [], ◌∷◌, refl, sym, ◌∙◌, arith, inl, inr, subst, map}
use Rattle.std.specs.List.{AllZip}
use Rattle.qsg_num.specs.declared.seats.Member.{Member}
use Rattle.qsg_num.specs.Seats.{member_number}
use Rattle.qsg_disk.specs.Byte.{Byte, safe_byte, part, Beside, EachPair, IsKeptOrSynced}
use Rattle.qsg_disk.proofs.Parts.{part_before, zipped_part, safe_kept}
use Rattle.qsg_lists.specs.Structures.{ListStructure}
use Rattle.qsg_dataset.specs.Headers.{spelling}
use Rattle.qsg_dataset.specs.Contents.{Contents, IsShut, IsReady, offset_of}
use Rattle.qsg_dataset.proofs.Saving.{cut-shut, cut-ready}
use Rattle.qsg_datasets.specs.Kept.{KeptSet}
use Rattle.qsg_datasets.specs.Calls.{IsCut}
use Rattle.qsg_group.specs.Tables.{at_member}
use Rattle.qsg_group.proofs.Tables.{every_member}
use Rattle.qsg_blocks.specs.State.{Post, Ground, IsThere, AreTold}
use Rattle.qsg_blocks.specs.Laws.{IsHeader, IsFitting, Laws}
use Rattle.qsg_blocks.specs.Changes.{ended, next, MaySave, Change}
use Rattle.qsg_blocks.specs.Changes.Change.{Rests, Takes, GivesBack, Writes, Syncs, Reads, PutsInside, PutsOutside, Revises, Forgets, Crashes, Stops, Maps, Saves, Starts, Loses, Begins, RestoresInside, RestoresOutside, Ends, Abandons}
use Rattle.qsg_blocks.proofs.Fitting.{set_at, set_other}
use Rattle.qsg_blocks.proofs.Down.{true_stays}

-- ---- the law, up and down

pub header_up : (m : Member) (c : Contents) (s : ListStructure) (up : Bool) → up ≡ true → IsHeader up m c s → IsShut c.bytes
header_up m c s true is law = law
header_up m c s false is law = absurd cc

pub header_down : (m : Member) (c : Contents) (s : ListStructure) (up : Bool) → IsHeader up m c s → IsHeader false m c s
header_down m c s true law = inl law
header_down m c s false law = law

pub up_header : (m : Member) (c : Contents) (s : ListStructure) (up : Bool) → up ≡ true → IsShut c.bytes → IsHeader up m c s
up_header m c s true is law = law
up_header m c s false is law = absurd cc

pub down_header : (m : Member) (c : Contents) (s : ListStructure) (up : Bool) → up ≡ false → IsHeader false m c s → IsHeader up m c s
down_header m c s true is law = absurd cc
down_header m c s false is law = law

-- where neither the member nor its data set changed
pub header_kept : (m : Member) (c : Contents) (g h : Ground) (up : Bool) → up ≡ (g.posts m).up → Change g h → IsHeader up m c g.structure → IsHeader up m c h.structure
header_kept m c g h true is change law = law
header_kept m c g h false is change (inl shut) = inl shut
header_kept m c g h false is change (inr opened) = inr (record { epoch = opened.epoch; used = opened.used; size = opened.size; ready = opened.ready; is_true = true_stays m opened.epoch opened.used g h change (sym is) opened.is_true })

-- ---- what calls leave of a header

-- each header that is shut stays so, and each that has a saved map
pub record KeepsHeader (c d : Contents) : Type 0 where
  pub blocks : d.blocks ≡ c.blocks
  pub shut : IsShut c.bytes → IsShut d.bytes
  pub ready : (epoch : ℕ) (used : List Bool) → IsReady epoch used c.bytes → IsReady epoch used d.bytes

pub header_left : (m : Member) (c d : Contents) (s : ListStructure) (up : Bool) → KeepsHeader c d → IsHeader up m c s → IsHeader up m d s
header_left m c d s true keeps law = keeps.shut law
header_left m c d s false keeps (inl shut) = inl (keeps.shut shut)
header_left m c d s false keeps (inr opened) = inr (record { epoch = opened.epoch; used = opened.used; size = opened.size ∙ sym keeps.blocks; ready = keeps.ready opened.epoch opened.used opened.ready; is_true = opened.is_true })

same_keeps : (c d : Contents) → d.blocks ≡ c.blocks → d.bytes ≡ c.bytes → KeepsHeader c d
same_keeps c d blocks bytes = record { blocks = blocks; shut = λ shut. subst IsShut (sym bytes) shut; ready = λ epoch used ready. subst (IsReady epoch used) (sym bytes) ready }

pub synced_part : (vs : List ℕ) (at n : ℕ) (old new : List Byte) → EachPair IsKeptOrSynced old new → part at n old ≡ map safe_byte vs → part at n new ≡ map safe_byte vs
synced_part vs at n old new each safe = safe_kept vs (part at n new) (subst (λ (l : List Byte). AllZip IsKeptOrSynced l (part at n new)) safe (zipped_part IsKeptOrSynced old new at n each))

pub sync_keeps : (c d : Contents) → d.blocks ≡ c.blocks → EachPair IsKeptOrSynced c.bytes d.bytes → KeepsHeader c d
sync_keeps c d blocks each = record { blocks = blocks; shut = λ shut. synced_part (0 ∷ []) 0 1 c.bytes d.bytes each shut; ready = λ epoch used ready. synced_part (spelling epoch used) 1 4095 c.bytes d.bytes each ready }

cut_keeps : (old new : KeptSet) → IsCut old new → old.contents.tells ≡ true → KeepsHeader old.contents new.contents
cut_keeps old new cut told = record { blocks = cut.contents.blocks; shut = λ shut. cut-shut old.contents.bytes new.contents.bytes (cut.cut told) shut; ready = λ epoch used ready. cut-ready epoch used old.contents.bytes new.contents.bytes (cut.cut told) ready }

write_keeps : (c d : Contents) (block n : ℕ) → d.blocks ≡ c.blocks → Beside (offset_of c block) n c.bytes d.bytes → KeepsHeader c d
write_keeps c d block n blocks beside = record {
  blocks = blocks;
  shut = λ shut. part_before (offset_of c block) n c.bytes d.bytes 0 1 beside (omega arith) ∙ shut;
  ready = λ epoch used ready. part_before (offset_of c block) n c.bytes d.bytes 1 4095 beside (omega arith) ∙ ready;
}

-- ---- changes

-- one data set changes, and each header keeps the law of what was there
set_headers : (g h : Ground) (m : Member) (set : KeptSet) → Change g h → h.posts ≡ g.posts → KeepsHeader (g.sets m).contents set.contents → Laws g → (k : Member) → IsThere (at_member m (λ _. set) g.sets k) → IsHeader (g.posts k).up k (at_member m (λ _. set) g.sets k).contents h.structure
set_headers g h m set change posts keeps laws = every_member (λ k x. IsThere x → IsHeader (g.posts k).up k x.contents h.structure) m (λ _. set) g.sets
    (λ there. header_kept m set.contents g h (g.posts m).up refl change (header_left m (g.sets m).contents set.contents g.structure (g.posts m).up keeps (laws.headers m (subst (λ n. 1 ≤ n) keeps.blocks there))))
    (λ k differ there. header_kept k (g.sets k).contents g h (g.posts k).up refl change (laws.headers k there))

contents_keep : (c : Contents) → KeepsHeader c c
contents_keep c = same_keeps c c refl refl

post_headers : (g : Ground) (m : Member) (post : Post) (sets : Member → KeptSet) → (IsThere (sets m) → IsHeader post.up m (sets m).contents g.structure) → ((k : Member) → (member_number k ≡ member_number m → ⊥) → IsThere (sets k) → IsHeader (g.posts k).up k (sets k).contents g.structure)
    → (k : Member) → IsThere (sets k) → IsHeader (at_member m (λ _. post) g.posts k).up k (sets k).contents g.structure
post_headers g m post sets own others = every_member (λ k (x : Post). IsThere (sets k) → IsHeader x.up k (sets k).contents g.structure) m (λ _. post) g.posts own others

saved_header : (g : Ground) (m : Member) (set : KeptSet) → MaySave g m set → AreTold g.sets → IsHeader (g.posts m).up m set.contents g.structure
saved_header g m set may told = down_header m set.contents g.structure (g.posts m).up may.down (may.header told)

kept_headers : (g h : Ground) → Change g h → Laws g → (k : Member) → IsThere (g.sets k) → IsHeader (g.posts k).up k (g.sets k).contents h.structure
kept_headers g h change laws k there = header_kept k (g.sets k).contents g h (g.posts k).up refl change (laws.headers k there)

pub headers_stay : (g h : Ground) → Change g h → AreTold g.sets → IsFitting g → Laws g → (k : Member) → IsThere (h.sets k) → IsHeader (h.posts k).up k (h.sets k).contents h.structure
headers_stay g _ (Takes _ m t epoch n may) told fits laws = set_headers g _ m _ (Takes g m t epoch n may) refl (contents_keep (g.sets m).contents) laws
headers_stay g _ (GivesBack _ m t) told fits laws = set_headers g _ m _ (GivesBack g m t) refl (contents_keep (g.sets m).contents) laws
headers_stay g _ (Writes _ m t block n set may) told fits laws = set_headers g _ m set (Writes g m t block n set may) refl (write_keeps (g.sets m).contents set.contents block.number n may.same.contents.blocks (may.beside (told m (fits.there m may.up)))) laws
headers_stay g _ (Syncs _ m set may) told fits laws = set_headers g _ m set (Syncs g m set may) refl (sync_keeps (g.sets m).contents set.contents may.same.contents.blocks (may.kept (told m may.there))) laws
headers_stay g _ (Reads _ m set may) told fits laws = set_headers g _ m set (Reads g m set may) refl (same_keeps (g.sets m).contents set.contents may.same.contents.blocks (may.bytes (told m may.there))) laws
headers_stay g _ (PutsInside _ u head body active) told fits laws = kept_headers g _ (PutsInside g u head body active) laws
headers_stay g _ (PutsOutside _ m t u head n left active may) told fits laws = set_headers g _ m _ (PutsOutside g m t u head n left active may) refl (contents_keep (g.sets m).contents) laws
headers_stay g _ (Revises _ id f keeps) told fits laws = kept_headers g _ (Revises g id f keeps) laws
headers_stay g _ (Forgets _ m e bs n may) told fits laws = set_headers g _ m _ (Forgets g m e bs n may) refl (contents_keep (g.sets m).contents) laws
headers_stay g _ (Crashes _ m set may) told fits laws = post_headers g m (ended (g.posts m)) (at_member m (λ _. set) g.sets)
    (λ there. subst (λ (x : KeptSet). IsHeader false m x.contents g.structure) (sym (set_at m set g.sets))
    (header_left m (g.sets m).contents set.contents g.structure false (cut_keeps (g.sets m) set may.cut (told m (fits.there m may.up))) (header_down m (g.sets m).contents g.structure (g.posts m).up (laws.headers m (fits.there m may.up)))))
    (λ k differ there. subst (λ (x : KeptSet). IsHeader (g.posts k).up k x.contents g.structure) (sym (set_other m set g.sets k differ)) (laws.headers k (subst IsThere (set_other m set g.sets k differ) there)))
headers_stay g _ (Stops _ m may) told fits laws = post_headers g m (ended (g.posts m)) g.sets (λ there. header_down m (g.sets m).contents g.structure (g.posts m).up (laws.headers m there)) (λ k differ there. laws.headers k there)
headers_stay g _ (Maps _ m set may) told fits laws = set_headers g _ m set (Maps g m set may) refl (same_keeps (g.sets m).contents set.contents may.same.blocks (may.bytes (told m may.there))) laws
headers_stay g _ (Saves _ m set may) told fits laws = every_member (λ k x. IsThere x → IsHeader (g.posts k).up k x.contents g.structure) m (λ _. set) g.sets (λ there. saved_header g m set may told) (λ k differ there. laws.headers k there)
headers_stay g _ (Starts _ m may) told fits laws = post_headers g m (next (g.posts m)) g.sets (λ there. (may.made told).shut) (λ k differ there. laws.headers k there)
headers_stay g _ (Loses _ may) told fits laws = kept_headers g _ (Loses g may) laws
headers_stay g _ (Begins _ m i may) told fits laws = set_headers g _ m _ (Begins g m i may) refl (contents_keep (g.sets m).contents) laws
headers_stay g _ (RestoresInside _ e body restore is) told fits laws = kept_headers g _ (RestoresInside g e body restore is) laws
headers_stay g _ (RestoresOutside _ m t e n left restore may is) told fits laws = set_headers g _ m _ (RestoresOutside g m t e n left restore may is) refl (contents_keep (g.sets m).contents) laws
headers_stay g _ (Ends _ m i floor may) told fits laws = kept_headers g _ (Ends g m i floor may) laws
headers_stay g _ (Abandons _ m i may) told fits laws = set_headers g _ m _ (Abandons g m i may) refl (contents_keep (g.sets m).contents) laws
headers_stay g _ (Rests _) told fits laws = laws.headers
