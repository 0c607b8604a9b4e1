-- all laws, at the start and after every change
use Rattle.std.proofs.Common.{◌≡◌, true, false, Bool, List, [], None, Option, sym, ap, arith, subst, inl}
use Rattle.std.specs.Prelude.{IfSome, ◌≤◌}
use Rattle.std.specs.List.{AllByRecursion}
use Rattle.qsg_num.specs.Ids.{id_at}
use Rattle.qsg_lists.specs.Entries.{AreInOrder}
use Rattle.qsg_num.specs.declared.seats.Member.{Member}
use Rattle.qsg_lists.specs.declared.parts.Entry.{Entry}
use Rattle.qsg_lists.specs.declared.parts.State.TheVariants.{Active}
use Rattle.qsg_dataset.specs.Contents.{IsShut}
use Rattle.qsg_datasets.specs.declared.member_data_set.KeptMap.{KeptMap}
use Rattle.qsg_blocks.specs.State.{Ground, IsThere, AreTold, stands, listed}
use Rattle.qsg_blocks.specs.Laws.{AreBlank, IsPast, IsEmptied, IsBegun, IsFresh, IsHeader, AreBodiesSafe, IsFitting, Laws}
use Rattle.qsg_blocks.specs.Changes.{Change}
use Rattle.qsg_blocks.proofs.Standing.{blank_reserved, used_in-none, counts_if}
use Rattle.qsg_blocks.proofs.Counted.{counted_stays}
use Rattle.qsg_blocks.proofs.Kept.{blank_timely, timely_stays, emptied_stays, begun_stays, fresh_stays}
use Rattle.qsg_blocks.proofs.Bodies.{safe_stays}
use Rattle.qsg_blocks.proofs.Headers.{headers_stay}

pub laws_stay : (g h : Ground) → Change g h → AreTold g.sets → IsFitting g → Laws g → Laws h
laws_stay g h change told fits laws = record {
  counted = counted_stays g h change told fits laws;
  timely = timely_stays g h change told laws;
  emptied = emptied_stays g h change laws;
  begun = begun_stays g h change laws;
  fresh = fresh_stays g h change laws;
  safe = safe_stays g h change told fits laws;
  headers = headers_stay g h change told fits laws;
}

shut_header : (m : Member) (g : Ground) (up : Bool) → IsShut (g.sets m).contents.bytes → IsHeader up m (g.sets m).contents g.structure
shut_header m g true shut = shut
shut_header m g false shut = inl shut

pub laws_begin : (g : Ground) → g.structure.state ≡ Active → g.structure.entries ≡ [] → ((m : Member) → (g.sets m).map ≡ None) → ((m : Member) → AreBlank (g.sets m).hands) → ((m : Member) → IsThere (g.sets m) → IsShut (g.sets m).contents.bytes) → Laws g
laws_begin g active empty maps blank shut = record {
  counted = λ m b.
      let l = ap (listed m b) empty in
      let u = used_in-none g.structure.epoch (g.sets m) b (maps m) in
      let r = blank_reserved g.structure.epoch b (g.sets m).hands (blank m) in
      counts_if (stands g.structure.state m (g.posts m)) _ _ _ (λ is. omega (arith, l, u, r)) (λ isnt. (omega (arith, l), r));
  timely = λ m. blank_timely m (g.posts m) g.structure (g.sets m) (blank m) (λ up. subst (λ (o : Option KeptMap). IfSome o (λ (x : KeptMap). IsPast (stands g.structure.state m (g.posts m)) g.structure.epoch x.epoch)) (sym (maps m)) tt);
  emptied = subst (λ st. IsEmptied st g.structure.entries) (sym active) tt;
  begun = subst (λ st. IsBegun st g.posts) (sym active) tt;
  fresh = fresh_empty g empty;
  safe = subst (AreBodiesSafe g.sets) (sym empty) tt;
  headers = λ m there. shut_header m g (g.posts m).up (shut m there);
}
  where
    fresh_empty : (g : Ground) → g.structure.entries ≡ [] → IsFresh g.structure
    fresh_empty g empty = record {
      first = subst (λ (es : List Entry). AllByRecursion (λ (e : Entry). 1 ≤ e.id.number) es) (sym empty) tt;
      ordered = subst AreInOrder (sym empty) tt;
      topped = subst (λ (es : List Entry). AllByRecursion (λ (e : Entry). e.id.number ≤ (id_at g.structure.epoch g.structure.last).number) es) (sym empty) tt;
    }
