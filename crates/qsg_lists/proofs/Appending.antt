-- an entry at the end of a structure
use Rattle.std.proofs.Common.{◌≡◌, ◌+◌, ◌-◌, ◌^◌, ◌<◌, ◌≤◌, List, [], ◌∷◌, ◌++◌, arith}
use Rattle.std.specs.List.{AllByRecursion}
use Rattle.std.proofs.lemmas.List.Sums.{sum_by_push}
use Rattle.qsg_num.specs.Ids.{id_at}
use Rattle.qsg_lists.specs.declared.parts.Entry.{Entry}
use Rattle.qsg_lists.specs.Entries.{cost_of, used_of, AreInOrder}
use Rattle.qsg_lists.specs.Structures.{ListStructure, IsSound}

-- a fact of all entries and of one more
pub all_push : (P : Entry → Type 0) (es : List Entry) (y : Entry) → AllByRecursion P es → P y → AllByRecursion P (es ++ y ∷ [])
all_push P [] y h p = (p, tt)
all_push P (e ∷ es) y h p = (h.0, all_push P es y h.1 p)

pub all_map : (P Q : Entry → Type 0) → ((e : Entry) → P e → Q e) → (es : List Entry) → AllByRecursion P es → AllByRecursion Q es
all_map P Q f [] h = tt
all_map P Q f (e ∷ es) h = (f e h.0, all_map P Q f es h.1)

-- an entry above all others stands in order at their end
pub order_push : (es : List Entry) (y : Entry) → AreInOrder es → AllByRecursion (λ (e : Entry). e.id.number < y.id.number) es → AreInOrder (es ++ y ∷ [])
order_push [] y s h = (tt, tt)
order_push (e ∷ es) y s h = (all_push (λ x. e.id.number < x.id.number) es y s.0 h.0, order_push es y s.1 h.1)

-- a structure with a new entry is sound
pub sound_push : (s : ListStructure) (y : Entry) → IsSound s → s.last + 1 < 2 ^ 40 → y.id ≡ id_at s.epoch (s.last + 1) → cost_of y.place ≤ s.capacity - used_of s.entries → IsSound (record s { last = s.last + 1; entries = s.entries ++ y ∷ [] })
sound_push s y h next same room =
    let pushed = sum_by_push (λ (x : Entry). cost_of x.place) s.entries y in
    let within = h.within in
    let number : y.id.number ≡ (id_at s.epoch (s.last + 1)).number = λ i. (same i).number in
    record {
      epoch_fits = h.epoch_fits;
      last_fits = next;
      capacity_fits = h.capacity_fits;
      ordered = order_push s.entries y h.ordered (all_map (λ e. e.id.number ≤ (id_at s.epoch s.last).number) (λ e. e.id.number < y.id.number) (λ e low. omega (arith, number)) s.entries h.topped);
      topped = all_push (λ e. e.id.number ≤ (id_at s.epoch (s.last + 1)).number) s.entries y (all_map (λ e. e.id.number ≤ (id_at s.epoch s.last).number) (λ e. e.id.number ≤ (id_at s.epoch (s.last + 1)).number) (λ e low. omega arith) s.entries h.topped) (omega (arith, number));
      within = omega arith;
    }

-- a structure with an entry restored is sound
pub sound_restore : (s : ListStructure) (y : Entry) → IsSound s → AllByRecursion (λ (e : Entry). e.id.number < y.id.number) s.entries → y.id.number ≤ (id_at s.epoch 0).number → cost_of y.place ≤ s.capacity - used_of s.entries → IsSound (record s { entries = s.entries ++ y ∷ [] })
sound_restore s y h above top room =
    let pushed = sum_by_push (λ (x : Entry). cost_of x.place) s.entries y in
    let within = h.within in
    record {
      epoch_fits = h.epoch_fits;
      last_fits = h.last_fits;
      capacity_fits = h.capacity_fits;
      ordered = order_push s.entries y h.ordered above;
      topped = all_push (λ e. e.id.number ≤ (id_at s.epoch s.last).number) s.entries y h.topped (omega arith);
      within = omega arith;
    }
