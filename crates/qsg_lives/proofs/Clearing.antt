-- what isn't active stays empty, so that no mark stands where none stands in what is active
use Rattle.std.proofs.Common.{◌≡◌, ℕ, ◌≤◌, Bool, true, false, List, [], ◌∷◌, length, Result, refl, ap, arith}
use Rattle.std.specs.Prelude.{sum_by}
use Rattle.std.proofs.lemmas.List.Sums.{sum_by-cons}
use Rattle.qsg_num.specs.declared.seats.StructNo.{StructNo}
use Rattle.qsg_num.specs.declared.seats.StructNo.TheVariants as structure
use Rattle.qsg_lists.specs.Structures.{ListStructure, is_active}
use Rattle.qsg_manager.specs.Facilities.{structure_in}
use Rattle.qsg_parts.specs.Owned.{Owned}
use Rattle.qsg_requests.specs.declared.replies.Turn.{Turn}
use Rattle.qsg_commit.specs.declared.phases.StepError.{StepError}
use Rattle.qsg_works.specs.declared.work.Work.{Work}
use Rattle.qsg_works.specs.Steps.{NextWork}
use Rattle.qsg_num.specs.declared.seats.Member.{Member}
use Rattle.qsg_steady.specs.Founding.{IsNew}
use Rattle.qsg_fit.specs.Requests.{IsRequestOf, IsSteadyBeside}
use Rattle.qsg_crash.specs.Crashes.{IsCrash}
use Rattle.qsg_start.specs.declared.phases.NoMemory.{NoMemory as StartLacks}
use Rattle.qsg_start.specs.declared.phases.StartTurn.{StartTurn}
use Rattle.qsg_start.specs.Works.{Work as StartWork}
use Rattle.qsg_start.specs.Steps.{NextStart}
use Rattle.qsg_peer.specs.declared.phases.FailedLife.{FailedLife}
use Rattle.qsg_peer.specs.Machine.{AreClear}
use Rattle.qsg_lives.specs.Marks.{marks_left, answers_in, AreEmptyUnlessActive}
use Rattle.qsg_lives.proofs.Entries.{marks, marks_none}
use Rattle.qsg_lives.proofs.Giving.{start_same, crash_same, structure_new}
use Rattle.qsg_lives.proofs.Requests.{request_leads}
use Rattle.qsg_lives.proofs.Touching.{leads_empty, same_empty}

-- ---- steps

pub request_empty : (a b : ℕ) (before work : Work) (p q : Owned) (result : Result Turn StepError) → IsSteadyBeside a b before p → IsRequestOf before p → NextWork before p result work q → AreEmptyUnlessActive p → AreEmptyUnlessActive q
request_empty a b before work p q result s fits next empty = leads_empty (answers_in result) p q (request_leads a b before work p q result s fits next) empty

pub start_empty : (w : StartWork) (p : Owned) (result : Result StartTurn StartLacks) (v : StartWork) (q : Owned) → NextStart w p result v q → AreEmptyUnlessActive p → AreEmptyUnlessActive q
start_empty w p result v q next empty = same_empty p q (start_same w p result v q next) empty

pub crash_empty : (m : Member) (p q : Owned) → IsCrash m p q → AreEmptyUnlessActive p → AreEmptyUnlessActive q
crash_empty m p q crash empty = same_empty p q (crash_same m p q crash) empty

pub new_empty : (p : Owned) → IsNew p → AreEmptyUnlessActive p
new_empty p new s idle = (structure_new s p new).entries

-- ---- no mark stands

empty_sum : (f : ListStructure → ℕ) → sum_by f [] ≡ 0
empty_sum f = refl

-- where none of four structures counts, a list of no more doesn't
four_none : (f : ListStructure → ℕ) (ls : List ListStructure) → length ls ≤ 4 → ((s : StructNo) → f (structure_in s ls) ≡ 0) → sum_by f ls ≡ 0
four_none f [] few none = refl
four_none f (a ∷ []) few none = omega (arith, empty_sum f, sum_by-cons f a [], none structure.One)
four_none f (a ∷ b ∷ []) few none = omega (arith, empty_sum f, sum_by-cons f a (b ∷ []), sum_by-cons f b [], none structure.One, none structure.Two)
four_none f (a ∷ b ∷ c ∷ []) few none = omega (arith, empty_sum f, sum_by-cons f a (b ∷ c ∷ []), sum_by-cons f b (c ∷ []), sum_by-cons f c [], none structure.One, none structure.Two, none structure.Three)
four_none f (a ∷ b ∷ c ∷ d ∷ []) few none = omega (
  arith,
  empty_sum f,
  sum_by-cons f a (b ∷ c ∷ d ∷ []),
  sum_by-cons f b (c ∷ d ∷ []),
  sum_by-cons f c (d ∷ []),
  sum_by-cons f d [],
  none structure.One,
  none structure.Two,
  none structure.Three,
  none structure.Four,
)
four_none f (a ∷ b ∷ c ∷ d ∷ e ∷ ls) few none = absurd (omega (arith, few))

pub clear_none : (life : FailedLife) (p : Owned) → AreEmptyUnlessActive p → length p.structures ≤ 4 → AreClear life p → marks_left life p ≡ 0
clear_none life p empty few clear = four_none (λ (l : ListStructure). marks life l.entries) p.structures few (λ s. by s (is_active (structure_in s p.structures).state) refl)
  where
    by : (s : StructNo) (b : Bool) → is_active (structure_in s p.structures).state ≡ b → marks life (structure_in s p.structures).entries ≡ 0
    by s true is = marks_none life (structure_in s p.structures).entries (clear s is)
    by s false is = ap (marks life) (empty s is)
