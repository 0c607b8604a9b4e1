-- while an owner is down its blocks stay listed as they are
use Rattle.std.proofs.Common.{◌≡◌, ℕ, Bool, true, false, List, Option, Some, None, refl, sym, ap, ◌∙◌, arith, subst}
use Rattle.std.specs.Prelude.{nat_lt, if◌then◌else◌}
use Rattle.qsg_num.specs.declared.seats.Member.{Member}
use Rattle.qsg_num.specs.declared.ids.Block.{Block}
use Rattle.qsg_num.specs.Seats.{member_number}
use Rattle.qsg_lists.specs.declared.parts.Entry.{Entry}
use Rattle.qsg_lists.specs.declared.parts.Place.{Place}
use Rattle.qsg_lists.specs.declared.parts.Place.TheVariants.{Inline, Offloaded}
use Rattle.qsg_lists.specs.declared.parts.State.{State}
use Rattle.qsg_lists.specs.declared.parts.State.TheVariants.{Active, Failed, InRecover}
use Rattle.qsg_lists.specs.Structures.{is_active}
use Rattle.qsg_lists.specs.Settling.{deleted}
use Rattle.qsg_lists.specs.Writing.{new_entry}
use Rattle.qsg_lists.specs.Recovering.{is_recovering}
use Rattle.qsg_manager.specs.Views.{is_outside}
use Rattle.qsg_group.proofs.Tables.{same_member}
use Rattle.qsg_blocks.specs.State.{Ground, lists, listed, tally}
use Rattle.qsg_blocks.specs.Laws.{IsPast, IsMapTrue}
use Rattle.qsg_blocks.specs.Changes.{blocks_of, KeepsPlaces, Change}
use Rattle.qsg_blocks.specs.Changes.Change.{PutsInside, PutsOutside, Revises, Forgets, Loses, Begins, RestoresInside, RestoresOutside, Ends, Abandons}
use Rattle.qsg_blocks.specs.Works.{lists_to}
use Rattle.qsg_blocks.proofs.Counting.{share, tally-push, tally-revise, tally-kept, lists-other}
use Rattle.qsg_blocks.proofs.Standing.{stands-up, past_low, past_before, past_now}

-- ---- a number summed over entries that looks at ids and at places of one owner

pub record Shares (m : Member) (v : Entry → ℕ) : Type 0 where
  pub same : (e x : Entry) → x.id ≡ e.id → x.place ≡ e.place → v x ≡ v e
  pub others : (e : Entry) → ((b : Block) → lists m b e.place ≡ 0) → v e ≡ 0

pub shares_all : (m : Member) (b : Block) → Shares m (λ (e : Entry). lists m b e.place)
shares_all m b = record { same = λ e x id place. ap (lists m b) place; others = λ e none. none b }

pub shares_to : (place : Option ℕ) (m : Member) (b : Block) → Shares m (lists_to place m b)
shares_to None m b = record { same = λ e x id place. ap (lists m b) place; others = λ e none. none b }
shares_to (Some n) m b = record {
  same = λ e x id place. (λ i. if nat_lt n (id i).number then 0 else lists m b (place i));
  others = λ e none. zero_if (nat_lt n e.id.number) (lists m b e.place) (none b);
}
  where
    zero_if : (c : Bool) (k : ℕ) → k ≡ 0 → (if c then 0 else k) ≡ 0
    zero_if true k z = refl
    zero_if false k z = z

inside_none : (m : Member) (b : Block) (place : Place) → is_outside place ≡ false → lists m b place ≡ 0
inside_none m b (Inline body) is = refl
inside_none m b (Offloaded owner bs n) is = absurd cc

share_kept : (m : Member) (v : Entry → ℕ) (f : Entry → Option Entry) → Shares m v → KeepsPlaces f → (e : Entry) → share v (f e) ≡ v e
share_kept m v f shares keeps e = by (f e) refl
  where
    by : (o : Option Entry) → f e ≡ o → share v o ≡ v e
    by None is = sym (shares.others e (λ b. inside_none m b e.place (keeps.goes e is)))
    by (Some x) is = shares.same e x (ap (λ (y : Entry). y.id) (keeps.stays e x is)) (ap (λ (y : Entry). y.place) (keeps.stays e x is))

pub up_differ : (g : Ground) (m k : Member) → (g.posts k).up ≡ true → (g.posts m).up ≡ false → member_number m ≡ member_number k → ⊥
up_differ g m k up down same = let e : (g.posts k).up ≡ false = subst (λ (x : Member). (g.posts x).up ≡ false) (same_member m k same) down in absurd cc

pub unrecovered : (st : State) → is_active st ≡ true → is_recovering st ≡ true → ⊥
unrecovered Active active recovering = cc
unrecovered Failed active recovering = cc
unrecovered (InRecover by i) active recovering = cc

pub share_stays : (m : Member) (v : Entry → ℕ) (g h : Ground) → Change g h → Shares m v → (g.posts m).up ≡ false → h.structure.epoch ≡ g.structure.epoch → is_active g.structure.state ≡ true
    → tally v h.structure.entries ≡ tally v g.structure.entries
share_stays m v g _ (PutsInside _ u head body active) shares down now act =
    let r = tally-push v g.structure.entries (new_entry g.structure u head (Inline body)) in
    let z = shares.others (new_entry g.structure u head (Inline body)) (λ b. refl) in
    omega (arith, r, z)
share_stays m v g _ (PutsOutside _ k t u head n left active may) shares down now act =
    let e = new_entry g.structure u head (Offloaded k (blocks_of k t g) n) in
    let r = tally-push v g.structure.entries e in
    let z = shares.others e (λ b. lists-other m k b (blocks_of k t g) n (up_differ g m k (stands-up g.structure.state k (g.posts k) may.writes) down)) in
    omega (arith, r, z)
share_stays m v g _ (Revises _ id f keeps) shares down now act = tally-kept v id f g.structure.entries (share_kept m v f shares keeps)
share_stays m v g _ (Forgets _ k e bs n may) shares down now act =
    let r = tally-revise v e.id deleted g.structure.entries e may.at in
    let z = shares.others e (λ b. ap (lists m b) may.place ∙ lists-other m k b bs n (up_differ g m k may.up down)) in
    omega (arith, r, z)
share_stays m v g _ (Loses _ may) shares down now act = absurd (omega (arith, now))
share_stays m v g _ (Begins _ k i may) shares down now act = let l = may.inactive in absurd cc
share_stays m v g _ (RestoresInside _ e body restore is) shares down now act = absurd (unrecovered g.structure.state act restore.recovering)
share_stays m v g _ (RestoresOutside _ k t e n left restore may is) shares down now act = absurd (unrecovered g.structure.state act restore.recovering)
share_stays m v g _ (Abandons _ k i may) shares down now act = let l : is_active g.structure.state ≡ false = ap is_active may.by in absurd cc
share_stays m v g _ _ shares down now act = refl

pub listed_stays : (m : Member) (b : Block) (g h : Ground) → Change g h → (g.posts m).up ≡ false → h.structure.epoch ≡ g.structure.epoch → is_active g.structure.state ≡ true → listed m b h.structure.entries ≡ listed m b g.structure.entries
listed_stays m b g h change down now act = share_stays m (λ (e : Entry). lists m b e.place) g h change (shares_all m b) down now act

-- ---- epochs rise

pub epoch_cases : (n : ℕ) (g h : Ground) → Change g h → IsPast (is_active g.structure.state) g.structure.epoch n
    → IsPast (is_active h.structure.state) h.structure.epoch n × (n ≡ h.structure.epoch → (n ≡ g.structure.epoch) × ((h.structure.epoch ≡ g.structure.epoch) × (is_active g.structure.state ≡ true)))
epoch_cases n g _ (Loses _ may) past = let low = past_low _ _ _ past in (omega (arith, low), λ e. absurd (omega (arith, low, e)))
epoch_cases n g _ (Begins _ k i may) past = let low = past_before _ _ _ may.inactive past in (low, λ e. absurd (omega (arith, low, e)))
epoch_cases n g _ (Ends _ k i floor may) past = let low = past_before _ _ _ (ap is_active may.by) past in (omega (arith, low), λ e. absurd (omega (arith, low, e)))
epoch_cases n g _ (Abandons _ k i may) past = let low = past_before _ _ _ (ap is_active may.by) past in (low, λ e. absurd (omega (arith, low, e)))
epoch_cases n g _ _ past = (past, λ e. (e, (refl, past_now (is_active g.structure.state) g.structure.epoch n e past)))

-- a map of an owner that is down stays true
pub true_stays : (m : Member) (epoch : ℕ) (used : List Bool) (g h : Ground) → Change g h → (g.posts m).up ≡ false → IsMapTrue m epoch used g.structure → IsMapTrue m epoch used h.structure
true_stays m epoch used g h change down is_true = let e = epoch_cases epoch g h change is_true.past in record {
  past = e.0;
  same = λ now b. let k = e.1 now in is_true.same k.0 b ∙ sym (listed_stays m b g h change down k.1.0 k.1.1);
}
