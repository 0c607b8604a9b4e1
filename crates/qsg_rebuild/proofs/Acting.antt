-- each step of a rebuild is an action of the machine
use Rattle.std.proofs.Common.{◌≡◌, ◌≢◌, ℕ, Bool, true, false, List, length, drop, Option, Some, None, Result, Ok, Err, inl, inr, refl, sym, ap, subst, ◌∙◌, arith}
use Rattle.std.specs.Prelude.{if◌then◌else◌, ◌==◌, IfSome, slice_index}
use Rattle.std.proofs.lemmas.List.{drop-drop}
use Rattle.qsg_num.specs.declared.seats.Member.{Member}
use Rattle.qsg_num.specs.declared.ids.Block.{Block}
use Rattle.qsg_num.specs.Seats.{member_number}
use Rattle.qsg_disk.specs.Byte.{Byte, values, Beside}
use Rattle.qsg_disk.proofs.Parts.{part_after}
use Rattle.qsg_lists.specs.declared.parts.Entry.{Entry}
use Rattle.qsg_lists.specs.declared.parts.Lost.{Lost}
use Rattle.qsg_lists.specs.declared.parts.Place.{Place}
use Rattle.qsg_lists.specs.declared.parts.Place.TheVariants.{Inline, Offloaded}
use Rattle.qsg_space.proofs.Marking.{length-marked}
use Rattle.qsg_dataset.specs.Contents.{Contents, IsSame, gate_value}
use Rattle.qsg_datasets.specs.declared.member_data_set.KeptMap.{KeptMap}
use Rattle.qsg_datasets.specs.Kept.{KeptSet, IsKept, claimed, claimed_in, unmapped}
use Rattle.qsg_datasets.specs.Calls.{IsStorageSame}
use Rattle.qsg_blocks.specs.State.{Ground, AreTold, IsThere}
use Rattle.qsg_blocks.specs.Laws.{IsHeader}
use Rattle.qsg_blocks.specs.Changes.{Change, MayMap, MaySave, with_set}
use Rattle.qsg_blocks.specs.Changes.Change.{Rests, Maps, Reads, Saves, Syncs}
use Rattle.qsg_parts.specs.Owned.{Owned}
use Rattle.qsg_rebuild.specs.declared.phases.Phase.{Phase}
use Rattle.qsg_rebuild.specs.declared.phases.Phase.TheVariants.{Connect, Load, Scan, Shut, Sync}
use Rattle.qsg_rebuild.specs.declared.phases.RebuildTurn.{RebuildTurn}
use Rattle.qsg_rebuild.specs.declared.phases.RebuildError.{RebuildError}
use Rattle.qsg_rebuild.specs.declared.phases.RebuildError.TheVariants.{NoMemory, Failed}
use Rattle.qsg_rebuild.specs.declared.work.RebuildWork.{RebuildWork}
use Rattle.qsg_rebuild.specs.Steps.{set_of, with_set_of, after_connect, kept_if, HasLoaded, claimed_by, scan_answer, scanned, after_scan, NextAt, NextRebuild}
use Rattle.qsg_rebuild.specs.Needs.{MayStep}
use Rattle.qsg_rebuild.specs.Grounds.{ground_of}
use Rattle.qsg_rebuild.specs.Gates.{KnowsGate}
use Rattle.qsg_rebuild.specs.Fitting.{IsLawful, FitsRebuild, MayAct}
use Rattle.qsg_rebuild.proofs.Leaving.{parts_are}
use Rattle.qsg_rebuild.proofs.Gating.{gate_value-gate}
use Rattle.qsg_rebuild.proofs.Keeping.{knows_gate}
use Rattle.qsg_rebuild.proofs.Going.{put_ground, claimed_bytes, kept_bytes}

-- ---- what each data set keeps

unmapped_kept : (set : KeptSet) → IsKept set → IsKept (unmapped set)
unmapped_kept set kept = record { sized = kept.sized; five = kept.five; map = tt }

kept_kept : (served : Bool) (set : KeptSet) → IsKept set → IsKept (kept_if served set)
kept_kept true set kept = kept
kept_kept false set kept = unmapped_kept set kept

claimed_size : (blocks : List Block) (count : ℕ) (map : Option KeptMap) → IfSome map (λ m. length m.used ≡ count) → IfSome (claimed_in blocks map) (λ m. length m.used ≡ count)
claimed_size blocks count None size = tt
claimed_size blocks count (Some m) size = length-marked true blocks m.used ∙ size

claimed_if : (own : Bool) (blocks : List Block) (set : KeptSet) → IsKept set → IsKept (if own then claimed blocks set else set)
claimed_if true blocks set kept = record { sized = kept.sized; five = kept.five; map = claimed_size blocks set.contents.blocks set.map kept.map }
claimed_if false blocks set kept = kept

claimed_kept : (m : Member) (place : Place) (set : KeptSet) → IsKept set → IsKept (claimed_by m place set)
claimed_kept m (Inline body) set kept = kept
claimed_kept m (Offloaded owner blocks n) set kept = claimed_if (member_number owner == member_number m) blocks set kept

claimed_hands_if : (own : Bool) (blocks : List Block) (set : KeptSet) → (if own then claimed blocks set else set).hands ≡ set.hands
claimed_hands_if true blocks set = refl
claimed_hands_if false blocks set = refl

claimed_hands : (m : Member) (place : Place) (set : KeptSet) → (claimed_by m place set).hands ≡ set.hands
claimed_hands m (Inline body) set = refl
claimed_hands m (Offloaded owner blocks n) set = claimed_hands_if (member_number owner == member_number m) blocks set

kept_hands : (served : Bool) (set : KeptSet) → (kept_if served set).hands ≡ set.hands
kept_hands true set = refl
kept_hands false set = refl

-- ---- another map

same_contents : (old new : Contents) → new ≡ old → IsSame old new
same_contents old new is = record { tells = ap (λ (x : Contents). x.tells) is; block_size = ap (λ (x : Contents). x.block_size) is; blocks = ap (λ (x : Contents). x.blocks) is }

some_blocks : (set : KeptSet) → IsKept set → IsThere set
some_blocks set kept = kept.sized.some_blocks

map_may : (w : RebuildWork) (set : KeptSet) (g : Ground) → MayAct w g → IsKept set → set.hands ≡ (g.sets w.member).hands → IsSame (g.sets w.member).contents set.contents
    → ((g.sets w.member).contents.tells ≡ true → set.contents.bytes ≡ (g.sets w.member).contents.bytes) → MayMap g w.member set
map_may w set g may kept hands same bytes = record {
  down = may.down;
  there = some_blocks (g.sets w.member) may.kept;
  kept = kept;
  hands = inl hands;
  same = same;
  bytes = bytes;
}

-- with the same contents
map_same : (w : RebuildWork) (set : KeptSet) (g : Ground) → MayAct w g → IsKept set → set.hands ≡ (g.sets w.member).hands → set.contents ≡ (g.sets w.member).contents → MayMap g w.member set
map_same w set g may kept hands same = map_may w set g may kept hands (same_contents (g.sets w.member).contents set.contents same) (λ told. ap (λ (x : Contents). x.bytes) same)

-- ---- the gate, written

widened : (old new : List Byte) → Beside 0 1 old new → Beside 0 4096 old new
widened old new beside = record {
  before = beside.before;
  after = sym (drop-drop 4095 1 new) ∙ ap (λ (l : List Byte). drop 4095 l) beside.after ∙ drop-drop 4095 1 old;
  same_length = beside.same_length;
}

header_down : (up : Bool) (m : Member) (set : KeptSet) (g : Ground) → up ≡ false → IsHeader up m set.contents g.structure → IsHeader false m set.contents g.structure
header_down true m set g is header = absurd cc
header_down false m set g is header = header

-- a gate that isn't 0 stands before a map that is saved, which stays
gate_header : (m : Member) (old new : KeptSet) (g : Ground) → IsStorageSame old new → Beside 0 1 old.contents.bytes new.contents.bytes → gate_value old.contents.bytes ≢ 0 → IsHeader false m old.contents g.structure → IsHeader false m new.contents g.structure
gate_header m old new g same beside open_gate (inl shut) = absurd (open_gate (gate_value-gate old.contents.bytes ∙ ap (λ (l : List Byte). slice_index (values l) 0) shut))
gate_header m old new g same beside open_gate (inr opened) = inr (record {
  epoch = opened.epoch;
  used = opened.used;
  size = opened.size ∙ sym same.contents.blocks;
  ready = part_after 0 1 old.contents.bytes new.contents.bytes 1 4095 beside (omega arith) ∙ opened.ready;
  is_true = opened.is_true;
})

save_may : (w : RebuildWork) (set : KeptSet) (g : Ground) → w.phase ≡ Shut → MayAct w g → IsStorageSame (g.sets w.member) set → ((g.sets w.member).contents.tells ≡ true → Beside 0 1 (g.sets w.member).contents.bytes set.contents.bytes) → MaySave g w.member set
save_may w set g at may same beside = record {
  down = may.down;
  there = some_blocks (g.sets w.member) may.kept;
  same = same;
  beside = λ told. widened (g.sets w.member).contents.bytes set.contents.bytes (beside told);
  header = λ told.
      let here = some_blocks (g.sets w.member) may.kept in
      let laws = may.laws told in
      let gate : gate_value (g.sets w.member).contents.bytes ≢ 0 = subst (λ (x : Phase). KnowsGate x (g.sets w.member).contents.bytes) at (may.gate told) in
      gate_header w.member (g.sets w.member) set g same (beside (told w.member here)) gate (header_down (g.posts w.member).up w.member (g.sets w.member) g may.down (laws.headers w.member here));
}

-- ---- each step

rests : (g h : Ground) → h ≡ g → Change g h
rests g h is = subst (Change g) (sym is) (Rests g)

puts : (w : RebuildWork) (set : KeptSet) (p q : Owned) → MayStep w p → q ≡ with_set_of w set p → Change (ground_of w.structure p) (with_set w.member set (ground_of w.structure p)) → Change (ground_of w.structure p) (ground_of w.structure q)
puts w set p q may is change = subst (Change (ground_of w.structure p)) (sym (put_ground w set p q may is)) change

loaded_acts : (epoch : ℕ) (served : Bool) (w : RebuildWork) (p : Owned) (turn : RebuildTurn) (v : RebuildWork) (q : Owned) → MayAct w (ground_of w.structure p) → HasLoaded epoch served w p turn v q → MayMap (ground_of w.structure p) w.member (set_of w q)
loaded_acts epoch served w p turn v q act next =
    subst (MayMap (ground_of w.structure p) w.member) (sym next.loaded.new_is) (map_may w (kept_if served next.loaded.made) (ground_of w.structure p) act (kept_kept served next.loaded.made next.loaded.kept)
    (kept_hands served next.loaded.made ∙ next.loaded.loaded.hands)
    (subst (IsSame (set_of w p).contents) (sym (kept_bytes served next.loaded.made)) next.loaded.loaded.contents)
    (λ told. ap (λ (x : Contents). x.bytes) (kept_bytes served next.loaded.made) ∙ next.loaded.loaded.bytes told))

scanned_acts : (answer : Result (Option Entry) Lost) (epoch : ℕ) (open_gate : Bool) (w : RebuildWork) (p q : Owned) → MayStep w p → MayAct w (ground_of w.structure p) → q ≡ (scanned answer epoch open_gate w p).parts → Change (ground_of w.structure p) (ground_of w.structure q)
scanned_acts (Ok (Some e)) epoch open_gate w p q may act is = puts w (claimed_by w.member e.place (set_of w p)) p q may is (Maps (ground_of w.structure p) w.member (claimed_by w.member e.place (set_of w p))
    (map_same w (claimed_by w.member e.place (set_of w p)) (ground_of w.structure p) act (claimed_kept w.member e.place (set_of w p) act.kept) (claimed_hands w.member e.place (set_of w p)) (claimed_bytes w.member e.place (set_of w p))))
scanned_acts (Ok None) epoch open_gate w p q may act is = rests (ground_of w.structure p) (ground_of w.structure q) (ap (ground_of w.structure) is)
scanned_acts (Err lost) epoch open_gate w p q may act is = puts w (unmapped (set_of w p)) p q may is (Maps (ground_of w.structure p) w.member (unmapped (set_of w p))
    (map_same w (unmapped (set_of w p)) (ground_of w.structure p) act (unmapped_kept (set_of w p) act.kept) refl refl))

acts_at : (phase : Phase) (w : RebuildWork) (p : Owned) (result : Result RebuildTurn RebuildError) (v : RebuildWork) (q : Owned) → w.phase ≡ phase → MayStep w p → MayAct w (ground_of w.structure p) → NextAt phase w p result v q → Change (ground_of w.structure p) (ground_of w.structure q)
acts_at Connect w p (Ok turn) v q at may act next = puts w (unmapped (set_of w p)) p q may (parts_are (after_connect w p) turn v q next) (Maps (ground_of w.structure p) w.member (unmapped (set_of w p))
    (map_same w (unmapped (set_of w p)) (ground_of w.structure p) act (unmapped_kept (set_of w p) act.kept) refl refl))
acts_at Connect w p (Err e) v q at may act next = absurd next
acts_at (Load epoch served) w p (Ok turn) v q at may act next = puts w (set_of w q) p q may next.others (Maps (ground_of w.structure p) w.member (set_of w q) (loaded_acts epoch served w p turn v q act next))
acts_at (Load epoch served) w p (Err NoMemory) v q at may act next = rests (ground_of w.structure p) (ground_of w.structure q) (ap (ground_of w.structure) next.1)
acts_at (Load epoch served) w p (Err Failed) v q at may act next = puts w (set_of w q) p q may next.called.others (Reads (ground_of w.structure p) w.member (set_of w q)
    (record { there = some_blocks (set_of w p) act.kept; same = next.called.storage; bytes = next.bytes }))
acts_at (Scan epoch after open_gate) w p (Ok turn) v q at may act next = scanned_acts (scan_answer w epoch after p) epoch open_gate w p q may act (parts_are (after_scan epoch after open_gate w p) turn v q next)
acts_at (Scan epoch after open_gate) w p (Err e) v q at may act next = absurd next
acts_at Shut w p result v q at may act next = puts w (set_of w q) p q may next.0.called.others (Saves (ground_of w.structure p) w.member (set_of w q)
    (save_may w (set_of w q) (ground_of w.structure p) at act next.0.called.storage (λ told. (next.0.step told).beside)))
acts_at Sync w p result v q at may act next = puts w (set_of w q) p q may next.0.called.others (Syncs (ground_of w.structure p) w.member (set_of w q)
    (record { there = some_blocks (set_of w p) act.kept; same = next.0.called.storage; kept = λ told. (next.0.step told).kept }))

pub acts : (w : RebuildWork) (p : Owned) (result : Result RebuildTurn RebuildError) (v : RebuildWork) (q : Owned) → MayStep w p → MayAct w (ground_of w.structure p) → NextRebuild w p result v q → Change (ground_of w.structure p) (ground_of w.structure q)
acts w p result v q may act next = acts_at w.phase w p result v q refl may act next

-- over devices that tell their bytes, what a rebuild knows is what its step needs
pub may_act : (w : RebuildWork) (g : Ground) → (g.posts w.member).up ≡ false → IsKept (g.sets w.member) → (AreTold g.sets → IsLawful g × FitsRebuild w g) → MayAct w g
may_act w g down kept known = record {
  down = down;
  kept = kept;
  laws = λ told. (known told).0.laws;
  gate = λ told. knows_gate w g (known told).1;
}
