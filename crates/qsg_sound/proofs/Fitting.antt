-- a request in progress fits how its task stands
use Rattle.std.proofs.Common.{◌≡◌, ℕ, false, Option, Some, None, refl, ap, ◌∙◌}
use Rattle.qsg_num.specs.declared.seats.Member.{Member}
use Rattle.qsg_num.specs.declared.ids.UnitName.{UnitName}
use Rattle.qsg_group.specs.declared.tasks.Task.{Task}
use Rattle.qsg_group.specs.Changes.{settling}
use Rattle.qsg_group.specs.Observers.{is_hardening}
use Rattle.qsg_logs.specs.Held.{is_open}
use Rattle.qsg_manager.specs.Storage.{task_at}
use Rattle.qsg_parts.specs.Owned.{Owned, HasMember}
use Rattle.qsg_commit.specs.declared.phases.Phase.{Phase}
use Rattle.qsg_commit.specs.declared.phases.Phase.TheVariants as end_phase
use Rattle.qsg_commit.specs.Fits.{IsWriting, IsEnding, FitsAt}
use Rattle.qsg_works.specs.declared.work.Work.{Work}
use Rattle.qsg_works.specs.declared.work.Work.TheVariants.{Put, Get, Commit}
use Rattle.qsg_fit.specs.Fits.{member_of, Fits}
use Rattle.qsg_fit.specs.Outcomes.{IsHardening, IsSettling, FitsEnd}
use Rattle.qsg_fit.specs.Requests.{IsOwnEnd, IsRequestOf}

pub request_member : (work : Work) (p : Owned) → IsRequestOf work p → HasMember (member_of work) p
request_member (Put work) p fits = fits.member
request_member (Get work) p fits = fits.member
request_member (Commit work) p fits = fits.member

settling_closed : (first : Option ℕ) (n : ℕ) → is_open (settling first n) ≡ false
settling_closed None n = refl
settling_closed (Some first) n = refl

settling_settles : (first : Option ℕ) (n : ℕ) → is_hardening (settling first n) ≡ false
settling_settles None n = refl
settling_settles (Some first) n = refl

end_hardens : (m : Member) (u : UnitName) (task : Task) → u.member ≡ m → IsHardening u task → IsWriting m u task
end_hardens m u task own hard = record { own = own; holds = ap (λ (x : Task). x.unit) hard.is; hardens = ap (λ (x : Task). is_hardening x.stage) hard.is }

end_settles : (m : Member) (u : UnitName) (task : Task) → u.member ≡ m → IsSettling u task → IsEnding m u task
end_settles m u task own ends = record {
  own = own;
  holds = ap (λ (x : Task). x.unit) ends.is;
  closed = ap (λ (x : Task). is_open x.stage) ends.is ∙ settling_closed ends.first ends.count;
  settling = ap (λ (x : Task). is_hardening x.stage) ends.is ∙ settling_settles ends.first ends.count;
}

end_fits : (m : Member) (task : Task) (phase : Phase) → IsOwnEnd m phase → FitsEnd task phase → FitsAt m task phase
end_fits m task end_phase.Latch own stands = stands
end_fits m task (end_phase.Pages u count) own stands = end_hardens m u task own stands
end_fits m task (end_phase.Settle u count) own stands = end_settles m u task own stands
end_fits m task (end_phase.Publish u count) own stands = end_settles m u task own stands.0
end_fits m task end_phase.GiveUp own stands = stands
end_fits m task (end_phase.Undo u count) own stands = end_settles m u task own stands

pub request_fits : (work : Work) (p : Owned) → IsRequestOf work p → Fits work p
request_fits (Put work) p is = record { member = is.member.manager; stands = is.stands }
request_fits (Get work) p is = record { member = is.member.manager; stands = is.stands }
request_fits (Commit work) p is = record { member = is.member.manager; stands = end_fits work.member (task_at work.member work.task p.managers) work.phase is.own is.stands }
