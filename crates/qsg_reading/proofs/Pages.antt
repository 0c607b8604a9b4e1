-- what reading gives at each page of a log
use Rattle.std.proofs.Common.{◌≡◌, ◌≢◌, inl, ℕ, zero, suc, ◌+◌, ◌-◌, ◌/◌, ◌<◌, List, [], ◌∷◌, ◌++◌, length, map, Option, None, Some, Bool, true, false, cond, not, refl, sym, ap, ◌∙◌, arith}
use Rattle.std.specs.Prelude.{◌==◌, ◌&&◌}
use Rattle.std.proofs.lemmas.Bool.Decides.{nat_tests}
use Rattle.std.proofs.lemmas.List.{length-append}
use Rattle.std.proofs.lemmas.Option.{none-some, same_Some}
use Rattle.qsg_disk.specs.Byte.{Byte, safe_byte, values}
use Rattle.qsg_logpage.specs.declared.step.Phase.{Phase}
use Rattle.qsg_logpage.specs.declared.step.Phase.TheVariants.{Fresh, GateShut, ShutSafe, BodyWritten, BodySafe, GateWritten}
use Rattle.qsg_logpage.specs.Page.{page_at, page_read, lap_of, with_lap, body_of, is_safely_open, open_pages, IsStanding, IsAbsent}
use Rattle.qsg_logpage.specs.Log.{Hand, LogState, first_body, hand_body, InPhase, AtNext, IsTied, pages_written}
use Rattle.qsg_logpage.proofs.Cuts.{whole_body, values-safe}
use Rattle.qsg_unitlog.proofs.Lists.{head_same, tail_same, not_empty}
use Rattle.qsg_unitlog.proofs.Steps.{written_length}
use Rattle.qsg_walk.specs.Following.{read_at}
use Rattle.qsg_walk.proofs.Reading.{read_absent}

-- ---- a page that is written

both_true : (a b : Bool) → a ≡ true → b ≡ true → (a && b) ≡ true
both_true a b one other = ap (λ (x : Bool). x && b) one ∙ other

gate_open : (gate : ℕ) → gate ≢ 0 → not (gate == 0) ≡ true
gate_open gate other = grind (arith, nat_tests)

same_lap : (a b : ℕ) → a ≡ b → (a == b) ≡ true
same_lap a b is = grind (arith, nat_tests)

standing_read : (lap : ℕ) (page : List Byte) → IsStanding lap page → page_read lap (values page) ≡ Some (body_of page)
standing_read lap page s =
    let w = s.whole in
    ap (λ (p : List Byte). page_read lap (values p)) w.bytes
    ∙ ap (page_read lap) (values-safe (w.gate ∷ s.body))
    ∙ ap (λ (b : Bool). cond b (Some s.body) None) (both_true (not (w.gate == 0)) (lap_of s.body == lap) (gate_open w.gate w.open_gate) (same_lap (lap_of s.body) lap w.has_lap))
    ∙ ap (λ (l : List ℕ). Some l) (sym (whole_body lap s.body page w))

-- the page at a place among open ones
open_at : (bytes : List Byte) (size first count : ℕ) (all : List (List ℕ)) (page : List ℕ) (more : List (List ℕ)) → open_pages bytes size first count ≡ all ++ page ∷ more → body_of (page_at bytes size (first + length all)) ≡ page
open_at bytes size first zero all page more is = not_empty all page more is
open_at bytes size first (suc count) all page more is = by (open_at bytes size (first + 1) count) (is_safely_open (first / size) (page_at bytes size first)) all is
  where
    by : ((all : List (List ℕ)) (page : List ℕ) (more : List (List ℕ)) → open_pages bytes size (first + 1) count ≡ all ++ page ∷ more → body_of (page_at bytes size (first + 1 + length all)) ≡ page)
        → (b : Bool) (all : List (List ℕ)) → cond b (body_of (page_at bytes size first) ∷ open_pages bytes size (first + 1) count) [] ≡ all ++ page ∷ more → body_of (page_at bytes size (first + length all)) ≡ page
    by step false all is = not_empty all page more is
    by step true [] is =
        ap (λ (n : ℕ). body_of (page_at bytes size n)) (omega arith)
        ∙ head_same (body_of (page_at bytes size first)) page (open_pages bytes size (first + 1) count) more is
    by step true (x ∷ all) is =
        ap (λ (n : ℕ). body_of (page_at bytes size n)) (omega arith)
        ∙ step all page more (tail_same (body_of (page_at bytes size first)) x (open_pages bytes size (first + 1) count) (all ++ page ∷ more) is)

pub written_read : (low : ℕ) (log : LogState) (bytes : List Byte) (all : List (List ℕ)) (page : List ℕ) (more : List (List ℕ)) → IsTied low log bytes → pages_written low log bytes ≡ all ++ page ∷ more → read_at bytes log.size (low + length all) ≡ Some page
written_read low log bytes all page more tied is =
    let less : low + length all < log.next = omega (arith, tied.from, written_length low log bytes tied, ap length is, length-append all (page ∷ more)) in
    standing_read ((low + length all) / log.size) (page_at bytes log.size (low + length all)) (tied.stands (low + length all) (omega arith) less)
    ∙ ap (λ (l : List ℕ). Some l) (open_at bytes log.size low (log.next - low) all page more is)

-- ---- the page in hand

-- the page that is read, where its body is safe
gated : (lap : ℕ) (gate : Byte) (held page : List ℕ) (bytes : List Byte) → bytes ≡ gate ∷ map safe_byte held → page_read lap (values bytes) ≡ Some page → held ≡ page
gated lap gate held page bytes are is =
    by (not (gate.value == 0) && (lap_of held == lap))
    (sym (ap (λ (p : List Byte). page_read lap (values p)) are ∙ ap (λ (l : List ℕ). page_read lap (gate.value ∷ l)) (values-safe held)) ∙ is)
  where
    by : (b : Bool) → cond b (Some held) None ≡ Some page → held ≡ page
    by true e = same_Some held page e
    by false e = absurd (none-some page e)

absent_read : {A : Type 0} (lap : ℕ) (page : List ℕ) (bytes : List Byte) → IsAbsent lap bytes → page_read lap (values bytes) ≡ Some page → A
absent_read lap page bytes absent is = absurd (none-some page (sym (read_absent lap bytes absent) ∙ is))

phase_read : (phase : Phase) (lap : ℕ) (held page : List ℕ) (bytes : List Byte) → InPhase phase lap held bytes → page_read lap (values bytes) ≡ Some page → held ≡ page
phase_read Fresh lap held page bytes at is = absent_read lap page bytes at is
phase_read GateShut lap held page bytes at is = absent_read lap page bytes at.0 is
phase_read ShutSafe lap held page bytes at is = absent_read lap page bytes (inl at) is
phase_read BodyWritten lap held page bytes at is = absent_read lap page bytes (inl at.0) is
phase_read BodySafe lap held page bytes at is = gated lap at.0 held page bytes at.2 is
phase_read GateWritten lap held page bytes at is = gated lap at.0 held page bytes at.2 is

-- what is read at the next page is the page in hand
pub hand_read : (lap : ℕ) (hand : Option Hand) (page : List ℕ) (bytes : List Byte) → AtNext lap hand bytes → page_read lap (values bytes) ≡ Some page → (held : Hand) × (hand ≡ Some held) × (hand_body lap hand ≡ page ∷ [])
hand_read lap None page bytes at is = absent_read lap page bytes at is
hand_read lap (Some held) page bytes at is = (held, refl, ap (λ (l : List ℕ). l ∷ []) (phase_read held.phase lap (with_lap lap (first_body held.pages)) page bytes at is))

-- none is read behind it
pub behind_read : {A : Type 0} (low k : ℕ) (log : LogState) (bytes : List Byte) (page : List ℕ) → IsTied low log bytes → log.next < k → k < log.next + log.size → read_at bytes log.size k ≡ Some page → A
behind_read low k log bytes page tied from to is = absent_read (k / log.size) page (page_at bytes log.size k) (tied.later k from to) is
