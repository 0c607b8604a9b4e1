-- marks are of incarnations that were given, and an incarnation that is over gets none
use Rattle.std.proofs.Common.{◌≡◌, inl, inr, ◌⊎◌, ℕ, zero, suc, ◌+◌, ◌-◌, ◌≤◌, ◌<◌, true, List, [], ◌∷◌, Result, refl, sym, ap, subst, ◌∙◌, true≢false, arith}
use Rattle.std.specs.Prelude.{nat_le, sum_by, slice_index_or}
use Rattle.std.specs.List.{AllByRecursion}
use Rattle.std.proofs.lemmas.Bool.Decides.{nat_tests}
use Rattle.std.proofs.lemmas.List.Sums.{sum_by-cons}
use Rattle.qsg_num.specs.declared.ids.Incarnation.{Incarnation}
use Rattle.qsg_num.specs.declared.ids.PageNo.{PageNo}
use Rattle.qsg_num.specs.declared.seats.Member.{Member}
use Rattle.qsg_num.specs.declared.seats.StructNo.{StructNo}
use Rattle.qsg_num.specs.Seats.{structure_number}
use Rattle.qsg_lists.specs.declared.parts.Entry.{Entry}
use Rattle.qsg_lists.specs.Structures.{ListStructure}
use Rattle.qsg_repo.specs.Calls.{next_incarnation}
use Rattle.qsg_manager.specs.declared.managers.Manager.{Manager}
use Rattle.qsg_manager.specs.Facilities.{no_structure, structure_in}
use Rattle.qsg_manager.specs.Marked.{marks_in}
use Rattle.qsg_manager.specs.Seats.{with_down}
use Rattle.qsg_manager.specs.Storage.{manager_in}
use Rattle.qsg_manager.proofs.Grouping.{manager_same, manager_other}
use Rattle.qsg_parts.specs.Owned.{Owned, HasMember}
use Rattle.qsg_requests.specs.declared.replies.Turn.{Turn}
use Rattle.qsg_commit.specs.declared.phases.StepError.{StepError}
use Rattle.qsg_works.specs.declared.work.Work.{Work}
use Rattle.qsg_works.specs.Steps.{NextWork}
use Rattle.qsg_steady.specs.Founding.{IsNewStructure, IsNew}
use Rattle.qsg_steady.specs.Steady.{IsSteady}
use Rattle.qsg_steady.proofs.Moving.{by_member}
use Rattle.qsg_fit.specs.Requests.{IsRequestOf, IsSteadyBeside}
use Rattle.qsg_crash.specs.Crashes.{IsCrash}
use Rattle.qsg_start.specs.declared.phases.NoMemory.{NoMemory as StartLacks}
use Rattle.qsg_start.specs.declared.phases.StartTurn.{StartTurn}
use Rattle.qsg_start.specs.Works.{Work as StartWork}
use Rattle.qsg_start.specs.Steps.{started, NextStart}
use Rattle.qsg_start.proofs.Leaving.{step_leaves}
use Rattle.qsg_peer.specs.declared.phases.FailedLife.{FailedLife}
use Rattle.qsg_peer.specs.declared.phases.NoMemory.{NoMemory as PeerLacks}
use Rattle.qsg_peer.specs.declared.phases.PeerTurn.{PeerTurn}
use Rattle.qsg_peer.specs.Works.{Work as PeerWork}
use Rattle.qsg_peer.specs.Needs.{MayStepAt}
use Rattle.qsg_peer.specs.Steps.{NextPeer}
use Rattle.qsg_peer.specs.Machine.{IsOver}
use Rattle.qsg_peer.specs.Sweeping.{AreAbove}
use Rattle.qsg_peer.proofs.Leaving.{rest_left}
use Rattle.qsg_lives.specs.Marks.{marks_left, answers_in, IsUp, AreGiven}
use Rattle.qsg_lives.proofs.Downing.{down_here, down_other}
use Rattle.qsg_lives.proofs.Overs.{request_seats}
use Rattle.qsg_lives.proofs.Requests.{request_leads}
use Rattle.qsg_lives.proofs.Starting.{upped}
use Rattle.qsg_lives.proofs.Structures.{none_changed}
use Rattle.qsg_lives.proofs.Taking.{peer_few}
use Rattle.qsg_lives.proofs.Touching.{leads_most, leads_own, leads_above, same_above}

-- ---- a request

pub request_most : (a b : ℕ) (life : FailedLife) (before work : Work) (p q : Owned) (result : Result Turn StepError) → IsSteadyBeside a b before p → IsRequestOf before p → NextWork before p result work q → marks_left life q ≤ marks_left life p + answers_in result
request_most a b life before work p q result s fits next = leads_most life (answers_in result) p q (request_leads a b before work p q result s fits next)

pub request_own : (a b : ℕ) (life : FailedLife) (before work : Work) (p q : Owned) (result : Result Turn StepError) → IsSteadyBeside a b before p → IsRequestOf before p → NextWork before p result work q → marks_left life p < marks_left life q → IsUp life p
request_own a b life before work p q result s fits next more = leads_own life (answers_in result) p q (request_leads a b before work p q result s fits next) more

pub request_above : (a b : ℕ) (before work : Work) (p q : Owned) (result : Result Turn StepError) → IsSteadyBeside a b before p → IsRequestOf before p → NextWork before p result work q → AreAbove p → AreAbove q
request_above a b before work p q result s fits next above = leads_above (answers_in result) p q (request_leads a b before work p q result s fits next) above

-- ---- a START and a crash leave structures

pub start_same : (w : StartWork) (p : Owned) (result : Result StartTurn StartLacks) (v : StartWork) (q : Owned) → NextStart w p result v q → q.structures ≡ p.structures
start_same w p result v q next = step_leaves (λ (x : Owned). x.structures) p w result v q (record { read = λ log. refl; begun = λ page. refl }) next

pub start_marks : (life : FailedLife) (w : StartWork) (p : Owned) (result : Result StartTurn StartLacks) (v : StartWork) (q : Owned) → NextStart w p result v q → marks_left life q ≡ marks_left life p
start_marks life w p result v q next = (none_changed life p q (start_same w p result v q next)).marks

pub start_above : (w : StartWork) (p : Owned) (result : Result StartTurn StartLacks) (v : StartWork) (q : Owned) → NextStart w p result v q → AreAbove p → AreAbove q
start_above w p result v q next above = same_above p q (start_same w p result v q next) above

pub crash_same : (m : Member) (p q : Owned) → IsCrash m p q → q.structures ≡ p.structures
crash_same m p q crash = ap (λ (x : Owned). x.structures) crash.parts

pub crash_marks : (life : FailedLife) (m : Member) (p q : Owned) → IsCrash m p q → marks_left life q ≡ marks_left life p
crash_marks life m p q crash = (none_changed life p q (crash_same m p q crash)).marks

pub crash_above : (m : Member) (p q : Owned) → IsCrash m p q → AreAbove p → AreAbove q
crash_above m p q crash above = same_above p q (crash_same m p q crash) above

-- ---- incarnations that were given

-- each member was given as many incarnations as before, or more
abbrev Given : Owned → Owned → Type 0
Given p q = (m : Member) → (manager_in m p.managers).incarnation.number ≤ (manager_in m q.managers).incarnation.number

given_kept : (p q : Owned) → ((life : FailedLife) → marks_left life q ≤ marks_left life p) → Given p q → AreGiven p → AreGiven q
given_kept p q fewer more given life past =
    let none = given life (omega (arith, past, more life.member)) in
    omega (arith, fewer life, none)

none_or_some : (n : ℕ) → (n ≡ 0) ⊎ (0 < n)
none_or_some zero = inl refl
none_or_some (suc n) = inr (omega arith)

pub request_given : (a b : ℕ) (before work : Work) (p q : Owned) (result : Result Turn StepError) → IsSteadyBeside a b before p → IsRequestOf before p → NextWork before p result work q → AreGiven p → AreGiven q
request_given a b before work p q result s fits next given life past = elim (none_or_some (marks_left life q)) [
  | inl none ↦ none
  | inr some ↦ absurd (later some)
]
  where
    same : (manager_in life.member q.managers).incarnation.number ≡ (manager_in life.member p.managers).incarnation.number
    same = ap (λ (i : Incarnation). i.number) (request_seats a b before work p q result s fits next life.member).1

    none : marks_left life p ≡ 0
    none = given life (omega (arith, past, same))

    later : 0 < marks_left life q → ⊥
    later some =
        let up = request_own a b life before work p q result s fits next (omega (arith, some, none)) in
        let is : life.incarnation.number ≡ (manager_in life.member p.managers).incarnation.number = ap (λ (i : Incarnation). i.number) up.incarnation in
        omega (arith, past, same, is)

pub peer_given : (skip : List (Member × Incarnation)) (w : PeerWork) (p : Owned) (result : Result PeerTurn PeerLacks) (v : PeerWork) (q : Owned) → MayStepAt w.phase p → NextPeer skip w p result v q → AreGiven p → AreGiven q
peer_given skip w p result v q may next given = given_kept p q (λ life. peer_few life skip w p result v q may next)
    (subst (λ ms. (m : Member) → (manager_in m p.managers).incarnation.number ≤ (manager_in m ms).incarnation.number) (sym (rest_left skip w p result v q next).managers) (λ m. omega arith)) given

-- a member that comes up is given one more
started_more : (a b : ℕ) (m : Member) (page : PageNo) (p : Owned) → IsSteady a b p → HasMember m p → Given p (started m page p)
started_more a b m page p s has =
    let q = started m page p in
    let given = (s.listed m has.manager).given in
    let old = manager_in m p.managers in
    let next : (upped m p).incarnation.number ≡ old.incarnation.number + 1 = omega (arith, given) in
    by_member (λ k. (manager_in k p.managers).incarnation.number ≤ (manager_in k q.managers).incarnation.number) m
    (subst (λ (x : Manager). old.incarnation.number ≤ x.incarnation.number) (sym (manager_same m (upped m p) p.managers has.manager)) (omega (arith, next)))
    (λ k differ. subst (λ (x : Manager). (manager_in k p.managers).incarnation.number ≤ x.incarnation.number) (sym (manager_other m k (upped m p) p.managers differ)) (omega arith))

passes : (n k : ℕ) → n ≤ k → nat_le n k ≡ true
passes n k less = grind (arith, nat_tests)

passed : (n k : ℕ) → nat_le n k ≡ true → n ≤ k
passed n k is = grind (arith, nat_tests)

start_more : (a b : ℕ) (w : StartWork) (p : Owned) (result : Result StartTurn StartLacks) (v : StartWork) (q : Owned) → IsSteady a b p → HasMember w.member p → NextStart w p result v q → Given p q
start_more a b w p result v q s has next m = passed n (number q) (step_leaves (λ (x : Owned). nat_le n (number x)) p w result v q (record { read = λ log. refl; begun = begun }) next ∙ passes n n (omega arith))
  where
    number : Owned → ℕ
    number x = (manager_in m x.managers).incarnation.number

    n : ℕ
    n = number p

    begun : (page : PageNo) → nat_le n (number (started w.member page p)) ≡ nat_le n n
    begun page = passes n (number (started w.member page p)) (started_more a b w.member page p s has m) ∙ sym (passes n n (omega arith))

pub start_given : (a b : ℕ) (w : StartWork) (p : Owned) (result : Result StartTurn StartLacks) (v : StartWork) (q : Owned) → IsSteady a b p → HasMember w.member p → NextStart w p result v q → AreGiven p → AreGiven q
start_given a b w p result v q s has next given = given_kept p q (λ life. omega (arith, start_marks life w p result v q next)) (start_more a b w p result v q s has next) given

crash_more : (m : Member) (p q : Owned) → HasMember m p → IsCrash m p q → Given p q
crash_more m p q has crash =
    subst (λ ms. (k : Member) → (manager_in k p.managers).incarnation.number ≤ (manager_in k ms).incarnation.number) (sym (ap (λ (x : Owned). x.managers) crash.parts))
    (by_member (λ k. (manager_in k p.managers).incarnation.number ≤ (manager_in k (with_down m p.managers)).incarnation.number) m
    (subst (λ (x : Manager). (manager_in m p.managers).incarnation.number ≤ x.incarnation.number) (sym (down_here m p.managers has.manager)) (omega arith))
    (λ k differ. subst (λ (x : Manager). (manager_in k p.managers).incarnation.number ≤ x.incarnation.number) (sym (down_other m k p.managers differ)) (omega arith)))

pub crash_given : (m : Member) (p q : Owned) → HasMember m p → IsCrash m p q → AreGiven p → AreGiven q
crash_given m p q has crash given = given_kept p q (λ life. omega (arith, crash_marks life m p q crash)) (crash_more m p q has crash) given

pub next_clear : (a b : ℕ) (m : Member) (p : Owned) → IsSteady a b p → HasMember m p → AreGiven p → marks_left (record { member = m; incarnation = next_incarnation m p.repo }) p ≡ 0
next_clear a b m p s has given =
    let listed = (s.listed m has.manager).given in
    given (record { member = m; incarnation = next_incarnation m p.repo }) (omega (arith, listed))

-- ---- an incarnation that is over and has no mark gets none

never_up : (life : FailedLife) (p : Owned) → IsOver life p → IsUp life p → ⊥
never_up life p over up = true≢false (sym up.up ∙ over.down (ap (λ (i : Incarnation). i.number) up.incarnation))

pub request_clear : (a b : ℕ) (life : FailedLife) (before work : Work) (p q : Owned) (result : Result Turn StepError) → IsSteadyBeside a b before p → IsRequestOf before p → NextWork before p result work q → IsOver life p → marks_left life p ≡ 0 → marks_left life q ≡ 0
request_clear a b life before work p q result s fits next over none = elim (none_or_some (marks_left life q)) [
  | inl is ↦ is
  | inr some ↦ absurd (never_up life p over (request_own a b life before work p q result s fits next (omega (arith, some, none))))
]

pub peer_clear : (life : FailedLife) (skip : List (Member × Incarnation)) (w : PeerWork) (p : Owned) (result : Result PeerTurn PeerLacks) (v : PeerWork) (q : Owned) → MayStepAt w.phase p → NextPeer skip w p result v q → marks_left life p ≡ 0 → marks_left life q ≡ 0
peer_clear life skip w p result v q may next none = omega (arith, none, peer_few life skip w p result v q may next)

-- ---- a new group

empty : (life : FailedLife) (ls : List ListStructure) → AllByRecursion IsNewStructure ls → sum_by (λ (l : ListStructure). marks_in life.member life.incarnation l.entries) ls ≡ 0
empty life [] new = refl
empty life (l ∷ ls) new =
    let none : marks_in life.member life.incarnation l.entries ≡ 0 = ap (λ (es : List Entry). marks_in life.member life.incarnation es) new.0.entries in
    omega (arith, sum_by-cons (λ (x : ListStructure). marks_in life.member life.incarnation x.entries) l ls, none, empty life ls new.1)

pub new_marks : (life : FailedLife) (p : Owned) → IsNew p → marks_left life p ≡ 0
new_marks life p new = empty life p.structures new.structures

pub new_given : (p : Owned) → IsNew p → AreGiven p
new_given p new life past = new_marks life p new

all_or : (P : ListStructure → Type 0) (ls : List ListStructure) (i : ℕ) → AllByRecursion P ls → P no_structure → P (slice_index_or ls i no_structure)
all_or P [] i all none = none
all_or P (l ∷ ls) zero all none = all.0
all_or P (l ∷ ls) (suc i) all none = all_or P ls i all.1 none

pub structure_new : (s : StructNo) (p : Owned) → IsNew p → IsNewStructure (structure_in s p.structures)
structure_new s p new = all_or IsNewStructure p.structures (structure_number s - 1) new.structures (record { state = refl; epoch = refl; last = refl; entries = refl })

pub new_above : (p : Owned) → IsNew p → AreAbove p
new_above p new s = subst (AllByRecursion (λ (e : Entry). 0 < e.id.number)) (sym (structure_new s p new).entries) tt
