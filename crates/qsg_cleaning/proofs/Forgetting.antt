-- which entry goes, and what becomes of its blocks
use Rattle.std.proofs.Common.{◌≡◌, ℕ, ◌+◌, ◌<◌, ◌≤◌, Bool, true, false, cond, List, [], ◌∷◌, length, Option, Some, None, Result, Ok, Err, refl, sym, ap, subst, ◌∙◌, inl, inr, arith}
use Rattle.std.specs.Prelude.{◌⊎◌, ◌==◌, ◌&&◌, not, count_by}
use Rattle.std.specs.List.{cons_option}
use Rattle.std.proofs.lemmas.Bool.{eq-eqb}
use Rattle.std.proofs.lemmas.Option.{none-some, same_Some}
use Rattle.std.proofs.lemmas.List.Sums.{sum_by-cons}
use Rattle.qsg_num.specs.declared.ids.Block.{Block}
use Rattle.qsg_num.specs.declared.ids.EntryId.{EntryId}
use Rattle.qsg_num.specs.declared.seats.Member.{Member}
use Rattle.qsg_lists.specs.declared.parts.Connection.{Connection}
use Rattle.qsg_lists.specs.declared.parts.Entry.{Entry}
use Rattle.qsg_lists.specs.declared.parts.Lost.{Lost}
use Rattle.qsg_lists.specs.Entries.{has_id, entry_at, revise}
use Rattle.qsg_lists.specs.Settling.{deleted}
use Rattle.qsg_lists.specs.Structures.{ListStructure, connect_answer, lost_of, unless}
use Rattle.qsg_space.specs.Spaces.{is_used, has_block, marked}
use Rattle.qsg_datasets.proofs.Lookups.{set_here}
use Rattle.qsg_datasets.proofs.Used.{used_freed}
use Rattle.qsg_datasets.specs.declared.member_data_set.KeptMap.{KeptMap}
use Rattle.qsg_datasets.specs.Kept.{KeptSet, is_of_epoch, stands, used_by, used_in, set_in, freed_in, freed}
use Rattle.qsg_manager.proofs.Grouping.{structure_same}
use Rattle.qsg_parts.specs.Owned.{Owned}
use Rattle.qsg_cleaning.specs.declared.phases.Phase.{Phase}
use Rattle.qsg_cleaning.specs.declared.phases.Phase.TheVariants.{Connect, Search, Forget}
use Rattle.qsg_cleaning.specs.declared.work.CleaningWork.{CleaningWork}
use Rattle.qsg_cleaning.specs.Needs.{MayClean}
use Rattle.qsg_cleaning.specs.Steps.{blocks_of, structure_of, connection_of, connected, searched, search_answer, is_to_clean, entry_answer, cleaned, cleaned_if, after_step, next_of}
use Rattle.qsg_cleaning.specs.Forgetting.{HasForgotten, HasCleaned, AreFree, count_to_clean}
use Rattle.qsg_cleaning.proofs.Leaving.{same_parts}

abbrev pub one_if : Bool → ℕ
one_if b = cond b 1 0

pub count-cons : (p : Entry → Bool) (e : Entry) (es : List Entry) → count_by p (e ∷ es) ≡ one_if (p e) + count_by p es
count-cons p e es = sum_by-cons (λ (x : Entry). cond (p x) 1 0) e es

-- ---- only an entry to clean goes

answered : (lost : Option Lost) (found : Option Entry) (e : Entry) → unless lost found ≡ Ok (Some e) → (lost ≡ None) × (found ≡ Some e)
answered None found e is = (refl, cc)
answered (Some lost) found e is = absurd cc

if_cleaned : (m : Member) (c : Connection) (id : EntryId) (answer : Result (Option Entry) Lost) (p : Owned) → entry_answer c id p ≡ answer → (cleaned_if m c id answer p ≡ p) ⊎ HasForgotten m c id p (cleaned_if m c id answer p)
if_cleaned m c id (Ok (Some e)) p is = by (is_to_clean m e) refl
  where
    by : (b : Bool) → is_to_clean m e ≡ b → (cond b (cleaned m c id e p) p ≡ p) ⊎ HasForgotten m c id p (cond b (cleaned m c id e p) p)
    by true to_clean =
        let found = answered (lost_of (structure_of c.structure p) c) (entry_at id (structure_of c.structure p).entries) e is in
        inr (record { entry = e; served = found.0; there = found.1; to_clean = to_clean; parts = refl })
    by false to_clean = inl refl
if_cleaned m c id (Ok None) p is = inl refl
if_cleaned m c id (Err lost) p is = inl refl

cleaned_at : (phase : Phase) (w : CleaningWork) (p : Owned) → HasCleaned phase w p (after_step phase w p).parts
cleaned_at Connect w p = same_parts (connected (connect_answer (structure_of w.structure p))) w p
cleaned_at (Search epoch) w p = same_parts (searched epoch (search_answer w.member (connection_of w epoch) p)) w p
cleaned_at (Forget epoch id) w p = if_cleaned w.member (connection_of w epoch) id (entry_answer (connection_of w epoch) id p) p refl

pub has_cleaned : (w : CleaningWork) (p : Owned) → HasCleaned w.phase w p (next_of w p).parts
has_cleaned w p = cleaned_at w.phase w p

-- ---- there is one less

pub fewer : (m : Member) (id : EntryId) (es : List Entry) (e : Entry) → entry_at id es ≡ Some e → is_to_clean m e ≡ true → count_to_clean m (revise id deleted es) + 1 ≡ count_to_clean m es
fewer m id [] e there is = absurd (none-some e there)
fewer m id (x ∷ es) e there is = by (has_id id x) there (fewer m id es e)
  where
    by : (b : Bool) → cond b (Some x) (entry_at id es) ≡ Some e → (entry_at id es ≡ Some e → is_to_clean m e ≡ true → count_to_clean m (revise id deleted es) + 1 ≡ count_to_clean m es)
        → count_to_clean m (cond b (cons_option (deleted x) es) (x ∷ revise id deleted es)) + 1 ≡ count_to_clean m (x ∷ es)
    by true same rest = omega (arith, count-cons (is_to_clean m) x es, ap one_if (ap (is_to_clean m) (same_Some x e same) ∙ is))
    by false there rest = omega (arith, count-cons (is_to_clean m) x es, count-cons (is_to_clean m) x (revise id deleted es), rest there is)

-- ---- its blocks are free

left_as_it_is : (epoch : ℕ) (bs : List Block) (map : Option KeptMap) → is_of_epoch epoch map ≡ false → freed_in epoch bs map ≡ map
left_as_it_is epoch bs None is = refl
left_as_it_is epoch bs (Some m) is = rw is refl

ends : (x : Bool) → (x && false) ≡ false
ends true = refl
ends false = refl

stays : (x : Bool) → (x && true) ≡ x
stays true = refl
stays false = refl

frees : (epoch : ℕ) (bs : List Block) (set : KeptSet) → AreFree epoch bs set (freed epoch bs set)
frees epoch bs set = record {
  free = λ b has. used_freed epoch epoch set.contents.blocks bs set.map b ∙ rw (eq-eqb epoch epoch refl, has) (ends (is_used (used_in epoch set) b));
  others = λ b has. used_freed epoch epoch set.contents.blocks bs set.map b ∙ rw (eq-eqb epoch epoch refl, has) (stays (is_used (used_in epoch set) b));
}

-- ---- the same of an entry that was forgotten

new_structure : (m : Member) (c : Connection) (id : EntryId) (p q : Owned) → MayClean m c.structure p → HasForgotten m c id p q → structure_of c.structure q ≡ record (structure_of c.structure p) { entries = revise id deleted (structure_of c.structure p).entries }
new_structure m c id p q may has =
    ap (λ (x : Owned). structure_of c.structure x) has.parts
    ∙ structure_same c.structure (record (structure_of c.structure p) { entries = revise id deleted (structure_of c.structure p).entries }) p.structures may.structure

new_set : (m : Member) (c : Connection) (id : EntryId) (p q : Owned) → MayClean m c.structure p → (has : HasForgotten m c id p q) → set_in m c.structure q.datasets ≡ freed c.epoch (blocks_of has.entry.place) (set_in m c.structure p.datasets)
new_set m c id p q may has =
    ap (λ (x : Owned). set_in m c.structure x.datasets) has.parts ∙ set_here m c.structure (freed c.epoch (blocks_of has.entry.place) (set_in m c.structure p.datasets)) p.datasets may.set

pub one_less : (m : Member) (c : Connection) (id : EntryId) (p q : Owned) → MayClean m c.structure p → HasForgotten m c id p q → count_to_clean m (structure_of c.structure q).entries + 1 ≡ count_to_clean m (structure_of c.structure p).entries
one_less m c id p q may has =
    ap (λ (l : ListStructure). count_to_clean m l.entries + 1) (new_structure m c id p q may has) ∙ fewer m id (structure_of c.structure p).entries has.entry has.there has.to_clean

pub are_free : (m : Member) (c : Connection) (id : EntryId) (p q : Owned) → MayClean m c.structure p → (has : HasForgotten m c id p q) → AreFree c.epoch (blocks_of has.entry.place) (set_in m c.structure p.datasets) (set_in m c.structure q.datasets)
are_free m c id p q may has = subst (AreFree c.epoch (blocks_of has.entry.place) (set_in m c.structure p.datasets)) (sym (new_set m c id p q may has)) (frees c.epoch (blocks_of has.entry.place) (set_in m c.structure p.datasets))

pub set_kept : (m : Member) (c : Connection) (id : EntryId) (p q : Owned) → MayClean m c.structure p → HasForgotten m c id p q → stands c.epoch (set_in m c.structure p.datasets) ≡ false
    → set_in m c.structure q.datasets ≡ set_in m c.structure p.datasets
set_kept m c id p q may has is =
    new_set m c id p q may has ∙ ap (λ (k : Option KeptMap). record (set_in m c.structure p.datasets) { map = k }) (left_as_it_is c.epoch (blocks_of has.entry.place) (set_in m c.structure p.datasets).map is)
