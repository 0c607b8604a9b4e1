-- the entry of one id revised
use Rattle.std.proofs.Common.{◌≡◌, ◌≢◌, ℕ, ◌<◌, ◌≤◌, Bool, List, [], ◌∷◌, length, get_or, Option, Some, None, sym, refl, ap, ◌∙◌, subst, arith, suc, zero, inl, inr}
use Rattle.std.specs.Prelude.{IfSome, option_map}
use Rattle.std.specs.List.{AllByRecursion, cons_option}
use Rattle.std.proofs.lemmas.List.Sums.{sum_by-cons}
use Rattle.std.proofs.lemmas.Bool.{cases_eq}
use Rattle.qsg_num.specs.declared.ids.EntryId.{EntryId}
use Rattle.qsg_num.specs.Ids.{id_at}
use Rattle.qsg_lists.specs.declared.parts.Entry.{Entry}
use Rattle.qsg_lists.specs.Entries.{cost_of, used_of, AreInOrder, revise, KeepsId}
use Rattle.qsg_lists.specs.Structures.{ListStructure, IsSound}
use Rattle.qsg_lists.specs.declared.parts.Mark.{Mark}
use Rattle.qsg_lists.specs.declared.parts.Settled.{Settled}
use Rattle.qsg_lists.specs.declared.parts.Settled.TheVariants.{Done, NotYours}
use Rattle.qsg_lists.specs.Found.{replaced}
use Rattle.qsg_lists.specs.Settling.{revise_if_done, settled_entry, settled_mark, deleted, marked}
use Rattle.qsg_lists.proofs.Lookups.{revise-head, revise-tail}

-- what is left keeps its id, and costs no more
pub record Keeps (f : Entry → Option Entry) : Type 0 where
  pub same_id : KeepsId f
  pub no_dearer : (e : Entry) → IfSome (f e) (λ y. cost_of y.place ≤ cost_of e.place)

all-cons_option : (P : EntryId → Type 0) (o : Option Entry) (e : Entry) (es : List Entry) → IfSome o (λ y. y.id ≡ e.id) → P e.id → AllByRecursion (λ (x : Entry). P x.id) es → AllByRecursion (λ (x : Entry). P x.id) (cons_option o es)
all-cons_option P None e es same p ps = ps
all-cons_option P (Some y) e es same p ps = (subst P (sym same) p, ps)

-- a fact of every id stays
pub all-revise : (P : EntryId → Type 0) (id : EntryId) (f : Entry → Option Entry) → KeepsId f → (es : List Entry) → AllByRecursion (λ (x : Entry). P x.id) es → AllByRecursion (λ (x : Entry). P x.id) (revise id f es)
all-revise P id f k [] ps = tt
all-revise P id f k (e ∷ es) ps =
    elim (cases_eq e.id.number id.number) [
      | inl same ↦ rw (revise-head id f e es same) (all-cons_option P (f e) e es (k e) ps.0 ps.1)
      | inr differ ↦ rw (revise-tail id f e es differ) (ps.0, all-revise P id f k es ps.1)
    ]

order-cons_option : (o : Option Entry) (e : Entry) (es : List Entry) → IfSome o (λ y. y.id ≡ e.id) → AllByRecursion (λ (x : Entry). e.id.number < x.id.number) es → AreInOrder es → AreInOrder (cons_option o es)
order-cons_option None e es same below s = s
order-cons_option (Some y) e es same below s = (subst (λ (n : EntryId). AllByRecursion (λ (x : Entry). n.number < x.id.number) es) (sym same) below, s)

-- the order of the ids stays
pub order-revise : (id : EntryId) (f : Entry → Option Entry) → KeepsId f → (es : List Entry) → AreInOrder es → AreInOrder (revise id f es)
order-revise id f k [] s = tt
order-revise id f k (e ∷ es) s =
    elim (cases_eq e.id.number id.number) [
      | inl same ↦ rw (revise-head id f e es same) (order-cons_option (f e) e es (k e) s.0 s.1)
      | inr differ ↦ rw (revise-tail id f e es differ) (all-revise (λ n. e.id.number < n.number) id f k es s.0, order-revise id f k es s.1)
    ]

used-cons_option : (o : Option Entry) (e : Entry) (es : List Entry) → IfSome o (λ y. cost_of y.place ≤ cost_of e.place) → used_of (cons_option o es) ≤ used_of (e ∷ es)
used-cons_option None e es c = let s = sum_by-cons (λ (x : Entry). cost_of x.place) e es in omega arith
used-cons_option (Some y) e es c =
    let s = sum_by-cons (λ (x : Entry). cost_of x.place) e es in
    let t = sum_by-cons (λ (x : Entry). cost_of x.place) y es in omega arith

used-cons : (e : Entry) (es fs : List Entry) → used_of fs ≤ used_of es → used_of (e ∷ fs) ≤ used_of (e ∷ es)
used-cons e es fs h =
    let s = sum_by-cons (λ (x : Entry). cost_of x.place) e es in
    let t = sum_by-cons (λ (x : Entry). cost_of x.place) e fs in omega arith

-- no more elements are in use
pub used-revise : (id : EntryId) (f : Entry → Option Entry) → Keeps f → (es : List Entry) → used_of (revise id f es) ≤ used_of es
used-revise id f k [] = omega arith
used-revise id f k (e ∷ es) =
    elim (cases_eq e.id.number id.number) [
      | inl same ↦ rw (revise-head id f e es same) (used-cons_option (f e) e es (k.no_dearer e))
      | inr differ ↦ rw (revise-tail id f e es differ) (used-cons e es (revise id f es) (used-revise id f k es))
    ]

-- a structure stays sound
pub sound-revise : (id : EntryId) (f : Entry → Option Entry) → Keeps f → (s : ListStructure) → IsSound s → IsSound (record s { entries = revise id f s.entries })
sound-revise id f k s h =
    let used = used-revise id f k s.entries in
    let within = h.within in
    record {
      epoch_fits = h.epoch_fits;
      last_fits = h.last_fits;
      capacity_fits = h.capacity_fits;
      ordered = order-revise id f k.same_id s.entries h.ordered;
      topped = all-revise (λ n. n.number ≤ (id_at s.epoch s.last).number) id f k.same_id s.entries h.topped;
      within = omega arith;
    }

replaced_first : (o : Option Entry) (e : Entry) (es : List Entry) → cons_option o es ≡ replaced 0 o (e ∷ es)
replaced_first None e es = refl
replaced_first (Some y) e es = refl

replaced_next : (o : Option Entry) (e : Entry) (i : ℕ) (es : List Entry) → e ∷ replaced i o es ≡ replaced (suc i) o (e ∷ es)
replaced_next None e i es = refl
replaced_next (Some y) e i es = refl

all_at : (P : Entry → Type 0) (es : List Entry) (i : ℕ) (d : Entry) → AllByRecursion P es → i < length es → P (get_or es i d)
all_at P [] i d h within = absurd (omega arith)
all_at P (e ∷ es) zero d h within = h.0
all_at P (e ∷ es) (suc i) d h within = all_at P es i d h.1 (omega arith)

-- the revision is one of the place where the id stands
pub revise-at : (id : EntryId) (f : Entry → Option Entry) (es : List Entry) (i : ℕ) (d : Entry) → AreInOrder es → i < length es → (get_or es i d).id.number ≡ id.number → revise id f es ≡ replaced i (f (get_or es i d)) es
revise-at id f [] i d s within same = absurd (omega arith)
revise-at id f (e ∷ es) zero d s within same = revise-head id f e es same ∙ replaced_first (f e) e es
revise-at id f (e ∷ es) (suc i) d s within same =
    let later : e.id.number < (get_or es i d).id.number = all_at (λ x. e.id.number < x.id.number) es i d s.0 (omega arith) in
    let differ : e.id.number ≢ id.number = omega arith in
    revise-tail id f e es differ
    ∙ ap (λ xs. e ∷ xs) (revise-at id f es i d s.1 (omega arith) same)
    ∙ replaced_next (f (get_or es i d)) e i es

-- what settling and forgetting leave is sound
pub sound-if_done : (r : Settled) (id : EntryId) (f : Entry → Option Entry) → Keeps f → (s : ListStructure) → IsSound s → IsSound (record s { entries = revise_if_done r id f s.entries })
sound-if_done Done id f k s h = sound-revise id f k s h
sound-if_done (NotYours mark) id f k s h = h

-- settling keeps ids, and costs no more
settled_keeps : (o : Option Mark) (e : Entry) → IfSome (option_map (λ (mark : Mark). marked mark e) o) (λ y. (y.id ≡ e.id) × (cost_of y.place ≤ cost_of e.place))
settled_keeps None e = tt
settled_keeps (Some mark) e = (refl, omega arith)

first_of_two : (o : Option Entry) (P Q : Entry → Type 0) → IfSome o (λ y. P y × Q y) → IfSome o P
first_of_two None P Q h = tt
first_of_two (Some y) P Q h = h.0

second_of_two : (o : Option Entry) (P Q : Entry → Type 0) → IfSome o (λ y. P y × Q y) → IfSome o Q
second_of_two None P Q h = tt
second_of_two (Some y) P Q h = h.1

pub keeps-settled : (commits : Bool) → Keeps (settled_entry commits)
keeps-settled commits = record {
  same_id = λ e. first_of_two (settled_entry commits e) (λ y. y.id ≡ e.id) (λ y. cost_of y.place ≤ cost_of e.place) (settled_keeps (settled_mark commits e.mark e.place) e);
  no_dearer = λ e. second_of_two (settled_entry commits e) (λ y. y.id ≡ e.id) (λ y. cost_of y.place ≤ cost_of e.place) (settled_keeps (settled_mark commits e.mark e.place) e);
}

pub keeps-deleted : Keeps deleted
keeps-deleted = record { same_id = λ e. tt; no_dearer = λ e. tt }

pub keeps-marked : (mark : Mark) → Keeps (λ e. Some (marked mark e))
keeps-marked mark = record { same_id = λ e. refl; no_dearer = λ e. omega arith }
