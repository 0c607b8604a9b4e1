-- the last step of a put
use Rattle.std.proofs.Common.{◌≡◌, ℕ, Option, Some, Result, ap, sym, subst, ◌∙◌}
use Rattle.std.specs.Prelude.{IfOk}
use Rattle.std.specs.declared.alloc.AllocError.{AllocError}
use Rattle.qsg_num.specs.declared.seats.Member.{Member}
use Rattle.qsg_num.specs.declared.seats.TaskNo.{TaskNo}
use Rattle.qsg_num.specs.declared.ids.UnitName.{UnitName}
use Rattle.qsg_lists.specs.declared.parts.WriteWhy.{WriteWhy}
use Rattle.qsg_lists.specs.declared.parts.WriteWhy.TheVariants as why
use Rattle.qsg_manager.specs.Putting.{IsRefused}
use Rattle.qsg_parts.specs.Owned.{Owned}
use Rattle.qsg_requests.specs.declared.words.PutWords.{PutWords}
use Rattle.qsg_requests.specs.declared.replies.Reason.{Reason}
use Rattle.qsg_put.specs.declared.checking.Terms.{Terms}
use Rattle.qsg_requests.specs.declared.replies.Turn.{Turn}
use Rattle.qsg_put.specs.declared.phases.Phase.{Phase}
use Rattle.qsg_put.specs.declared.phases.Phase.TheVariants.{Write}
use Rattle.qsg_put.specs.Works.{Work, IsSound}
use Rattle.qsg_put.specs.Steps.{Next, fallen, refused, reason_of, after_refusal, after_write, next_at, next_put}

refusal_is : (w : WriteWhy) (refusal : Option WriteWhy) (reason : Reason) → IsRefused w refusal → reason_of w ≡ Some reason → refusal ≡ Some w
refusal_is (why.Lost lost) refusal reason is said = is
refusal_is (why.Full need free) refusal reason is said = is
refusal_is (why.QueueFull depth) refusal reason is said = is
refusal_is why.NoMemory refusal reason is said = absurd cc

pub refused_is : (m : Member) (t : TaskNo) (words : PutWords) (u : UnitName) (terms : Terms) (epoch : ℕ) (p : Owned) (w : WriteWhy) (refusal : Option WriteWhy) (reason : Reason)
    → IsRefused w refusal → reason_of w ≡ Some reason
    → after_write m t words u terms epoch p refusal ≡ refused reason (Write u terms epoch) (fallen m t u p)
refused_is m t words u terms epoch p w refusal reason is said =
    ap (after_write m t words u terms epoch p) (refusal_is w refusal reason is said) ∙ ap (after_refusal m t u terms epoch p) said

-- what the last step ends with, as a turn of the work at that phase
abbrev Ends : Result Turn AllocError → Phase → Owned → Next → Type 0
Ends result phase p next = IfOk result (λ turn. record { turn = turn; phase = phase; parts = p } ≡ next)

at_phase : (result : Result Turn AllocError) (m : Member) (t : TaskNo) (words : PutWords) (phase : Phase) (u : UnitName) (terms : Terms) (epoch : ℕ) (p q : Owned)
    → phase ≡ Write u terms epoch → IsSound m words.body phase
    → Ends result (Write u terms epoch) q (next_at u.member t words p (Write u terms epoch)) → Ends result phase q (next_at m t words p phase)
at_phase result m t words phase u terms epoch p q is sound ends =
    let own : u.member ≡ m = (subst (IsSound m words.body) is sound).own in
    subst (λ (x : Phase). Ends result x q (next_at m t words p x)) (sym is)
    (subst (λ (k : Member). Ends result (Write u terms epoch) q (next_at k t words p (Write u terms epoch))) own ends)

-- the unit is one of the work's member
pub last_step : (result : Result Turn AllocError) (inside work : Work) (u : UnitName) (terms : Terms) (epoch : ℕ) (p q : Owned)
    → inside ≡ work → inside.phase ≡ Write u terms epoch → IsSound inside.member inside.words.body inside.phase
    → IfOk result (λ turn. record { turn = turn; phase = Write u terms epoch; parts = q } ≡ next_at u.member inside.task inside.words p (Write u terms epoch))
    → IfOk result (λ turn. record { turn = turn; phase = work.phase; parts = q } ≡ next_put work p)
last_step result inside work u terms epoch p q same is sound ends =
    subst (λ (w : Work). Ends result w.phase q (next_put w p)) same (at_phase result inside.member inside.task inside.words inside.phase u terms epoch p q is sound ends)
