-- a put or get that goes on has begun
use Rattle.std.proofs.Common.{◌≡◌, ℕ, List, Bool, true, false, Option, Some, None, Result, Ok, Err, refl}
use Rattle.std.proofs.lemmas.Bool.{false≢true}
use Rattle.qsg_num.specs.declared.seats.Member.{Member}
use Rattle.qsg_num.specs.declared.seats.TaskNo.{TaskNo}
use Rattle.qsg_num.specs.declared.ids.UnitName.{UnitName}
use Rattle.qsg_lists.specs.declared.parts.Entry.{Entry}
use Rattle.qsg_lists.specs.declared.parts.Lost.{Lost}
use Rattle.qsg_lists.specs.declared.parts.Seen.{Seen}
use Rattle.qsg_lists.specs.declared.parts.Selector.{Selector}
use Rattle.qsg_lists.specs.declared.parts.WriteWhy.{WriteWhy}
use Rattle.qsg_logpage.specs.declared.writer.NoLog.{NoLog}
use Rattle.qsg_requests.specs.declared.replies.Reason.{Reason}
use Rattle.qsg_requests.specs.declared.replies.Turn.{Turn}
use Rattle.qsg_requests.specs.declared.replies.Turn.TheVariants.{More, Ended, Waits}
use Rattle.qsg_requests.specs.declared.words.PutWords.{PutWords}
use Rattle.qsg_parts.specs.Owned.{Owned}
use Rattle.qsg_put.specs.declared.checking.Terms.{Terms as PutTerms}
use Rattle.qsg_put.specs.declared.phases.Phase.{Phase as PutPhase}
use Rattle.qsg_put.specs.declared.phases.Phase.TheVariants as putting
use Rattle.qsg_put.specs.Steps as puts
use Rattle.qsg_get.specs.declared.checking.Terms.{Terms as GetTerms}
use Rattle.qsg_get.specs.declared.phases.Phase.{Phase as GetPhase}
use Rattle.qsg_get.specs.declared.phases.Phase.TheVariants as getting
use Rattle.qsg_get.specs.Steps as gets
use Rattle.qsg_fit.specs.Outcomes.{IsSteadyAtPut, IsSteadyAtGet}
use Rattle.qsg_fit.specs.Requests.{has_put_begun, has_get_begun, IsSteadyIf}

abbrev pub goes : Turn → Bool
goes More = true
goes (Ended reply) = false
goes (Waits cause) = false

-- ---- a put

abbrev PutBegins : puts.Next → Type 0
PutBegins n = goes n.turn ≡ true → has_put_begun n.phase ≡ true

put_reserves : (m : Member) (t : TaskNo) (words : PutWords) (terms : PutTerms) (p : Owned) (r : Result (Unit {0}) NoLog) → PutBegins (puts.after_reserve m t words terms p r)
put_reserves m t words terms p (Ok done) goes_on = refl
put_reserves m t words terms p (Err why) goes_on = absurd (false≢true goes_on)

put_checks : (m : Member) (t : TaskNo) (words : PutWords) (p : Owned) (r : Result PutTerms Reason) → PutBegins (puts.after_check m t words p r)
put_checks m t words p (Ok terms) goes_on = put_reserves m t words terms p _ goes_on
put_checks m t words p (Err reason) goes_on = absurd (false≢true goes_on)

put_connects : (m : Member) (t : TaskNo) (u : UnitName) (terms : PutTerms) (p : Owned) (r : Result Seen Lost) → PutBegins (puts.after_connect m t u terms p r)
put_connects m t u terms p (Ok seen) goes_on = refl
put_connects m t u terms p (Err lost) goes_on = absurd (false≢true goes_on)

put_refuses : (m : Member) (t : TaskNo) (u : UnitName) (terms : PutTerms) (epoch : ℕ) (p : Owned) (r : Option Reason) → PutBegins (puts.after_refusal m t u terms epoch p r)
put_refuses m t u terms epoch p None goes_on = refl
put_refuses m t u terms epoch p (Some reason) goes_on = absurd (false≢true goes_on)

put_writes : (m : Member) (t : TaskNo) (words : PutWords) (u : UnitName) (terms : PutTerms) (epoch : ℕ) (p : Owned) (r : Option WriteWhy) → PutBegins (puts.after_write m t words u terms epoch p r)
put_writes m t words u terms epoch p None goes_on = absurd (false≢true goes_on)
put_writes m t words u terms epoch p (Some why) goes_on = put_refuses m t u terms epoch p _ goes_on

pub put_begins : (m : Member) (t : TaskNo) (words : PutWords) (p : Owned) (phase : PutPhase) → PutBegins (puts.next_at m t words p phase)
put_begins m t words p putting.Check = put_checks m t words p _
put_begins m t words p (putting.Connect u terms) = put_connects m t u terms p _
put_begins m t words p (putting.Write u terms epoch) = put_writes m t words u terms epoch p _

pub steady_at_put : (a b : ℕ) (phase : PutPhase) (p : Owned) → IsSteadyIf (has_put_begun phase) a b p → IsSteadyAtPut a b phase p
steady_at_put a b putting.Check p s = s
steady_at_put a b (putting.Connect u terms) p s = s
steady_at_put a b (putting.Write u terms epoch) p s = s

-- ---- a get

abbrev GetBegins : gets.Next → Type 0
GetBegins n = goes n.turn ≡ true → has_get_begun n.phase ≡ true

get_reserves : (m : Member) (t : TaskNo) (terms : GetTerms) (p : Owned) (r : Result (Unit {0}) NoLog) → GetBegins (gets.after_reserve m t terms p r)
get_reserves m t terms p (Ok done) goes_on = refl
get_reserves m t terms p (Err why) goes_on = absurd (false≢true goes_on)

get_checks : (m : Member) (t : TaskNo) (p : Owned) (r : Result GetTerms Reason) → GetBegins (gets.after_check m t p r)
get_checks m t p (Ok terms) goes_on = get_reserves m t terms p _ goes_on
get_checks m t p (Err reason) goes_on = absurd (false≢true goes_on)

get_connects : (m : Member) (t : TaskNo) (u : UnitName) (terms : GetTerms) (p : Owned) (r : Result Seen Lost) → GetBegins (gets.after_connect m t u terms p r)
get_connects m t u terms p (Ok seen) goes_on = refl
get_connects m t u terms p (Err lost) goes_on = absurd (false≢true goes_on)

get_takes : (m : Member) (t : TaskNo) (u : UnitName) (terms : GetTerms) (epoch : ℕ) (p : Owned) (lost : Option Lost) (found : Option Entry) → GetBegins (gets.after_take m t u terms epoch p lost found)
get_takes m t u terms epoch p (Some lost) found goes_on = absurd (false≢true goes_on)
get_takes m t u terms epoch p None None goes_on = absurd (false≢true goes_on)
get_takes m t u terms epoch p None (Some e) goes_on = absurd (false≢true goes_on)

pub get_begins : (m : Member) (t : TaskNo) (queue : List ℕ) (select : Selector) (p : Owned) (phase : GetPhase) → GetBegins (gets.next_at m t queue select p phase)
get_begins m t queue select p getting.Check = get_checks m t p _
get_begins m t queue select p (getting.Connect u terms) = get_connects m t u terms p _
get_begins m t queue select p (getting.Take u terms epoch) = get_takes m t u terms epoch p _ _

pub steady_at_get : (a b : ℕ) (phase : GetPhase) (p : Owned) → IsSteadyIf (has_get_begun phase) a b p → IsSteadyAtGet a b phase p
steady_at_get a b getting.Check p s = s
steady_at_get a b (getting.Connect u terms) p s = s
steady_at_get a b (getting.Take u terms epoch) p s = s
