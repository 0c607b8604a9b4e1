-- a request before its first step
use Rattle.std.proofs.Common.{◌≡◌, true, false, refl}
use Rattle.qsg_num.specs.declared.seats.Member.{Member}
use Rattle.qsg_num.specs.declared.seats.TaskNo.{TaskNo}
use Rattle.qsg_num.specs.declared.ids.Actor.TheVariants as actor
use Rattle.qsg_requests.specs.declared.words.Request.{Request}
use Rattle.qsg_requests.specs.declared.words.Request.TheVariants as request
use Rattle.qsg_logs.specs.Held.{is_open}
use Rattle.qsg_manager.specs.Storage.{manager_in, task_at}
use Rattle.qsg_parts.specs.Owned.{Owned, HasMember}
use Rattle.qsg_steady.specs.Actions.{IsLogKept}
use Rattle.qsg_works.specs.Steps.{owner, begun}
use Rattle.qsg_fit.specs.Outcomes.{IsPlaced}
use Rattle.qsg_fit.specs.Requests.{IsRequestOf, has_begun}
use Rattle.qsg_sound.specs.Sound.{request_in, HasRequestIds}

pub first_own : (m : Member) (t : TaskNo) (r : Request) → owner (begun m t r) ≡ actor.Task m t
first_own m t (request.Put words) = refl
first_own m t (request.Get queue select) = refl
first_own m t request.Commit = refl
first_own m t request.Backout = refl

pub first_asked : (m : Member) (t : TaskNo) (r : Request) → request_in (begun m t r) ≡ r
first_asked m t (request.Put words) = refl
first_asked m t (request.Get queue select) = refl
first_asked m t request.Commit = refl
first_asked m t request.Backout = refl

pub first_unbegun : (m : Member) (t : TaskNo) (r : Request) → has_begun (begun m t r) ≡ false
first_unbegun m t (request.Put words) = refl
first_unbegun m t (request.Get queue select) = refl
first_unbegun m t request.Commit = refl
first_unbegun m t request.Backout = refl

pub first_request : (p : Owned) (m : Member) (t : TaskNo) (r : Request) → HasMember m p → (manager_in m p.managers).up ≡ true → IsLogKept m p → ((name : _) → IsPlaced name p.objects) → HasRequestIds r
    → is_open (task_at m t p.managers).stage ≡ true → IsRequestOf (begun m t r) p
first_request p m t (request.Put words) has up kept placed ids opened = record { member = has; up = up; log = kept; queue = placed words.queue; ids = ids; stands = opened }
first_request p m t (request.Get queue select) has up kept placed ids opened = record { member = has; up = up; log = kept; queue = placed queue; stands = opened }
first_request p m t request.Commit has up kept placed ids opened = record { member = has; log = kept; own = tt; stands = opened }
first_request p m t request.Backout has up kept placed ids opened = record { member = has; log = kept; own = tt; stands = opened }
