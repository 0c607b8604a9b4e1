-- more room for the history leaves the group sound
use Rattle.std.proofs.Common.{inl, ◌+◌, ◌≤◌, length, Option, Some, None, refl, sym, ap, subst}
use Rattle.std.specs.Prelude.{IfSome}
use Rattle.qsg_repo.specs.Tables.{Repository, low_of}
use Rattle.qsg_logs.specs.Kept.{log_in}
use Rattle.qsg_manager.specs.Storage.{manager_in}
use Rattle.qsg_commit.specs.Committing.{IsSameButRoom}
use Rattle.qsg_parts.specs.Owned.{Owned, HasMember}
use Rattle.qsg_start.specs.Works.{Work as StartWork}
use Rattle.qsg_steady.specs.Standing.{stand}
use Rattle.qsg_steady.specs.Steady.{IsSteady}
use Rattle.qsg_steady.proofs.Committing.{roomy_steady}
use Rattle.qsg_step.specs.States.{State}
use Rattle.qsg_sound.specs.Sound.{answers_given, in_progress, starts_left, IsSound, AreTypesKept}
use Rattle.qsg_sound.specs.Systems.{IsStarting}
use Rattle.qsg_sound.proofs.Beside.{beside_sound}
use Rattle.qsg_sound.proofs.EndStep.{structures_ordered}
use Rattle.qsg_sound.proofs.Keeping.{sound_kept}
use Rattle.qsg_sound.proofs.Standing.{AreSystemsSound, left_by, starting_kept}

start_after : (s : State) (q : Owned) → IsSameButRoom s.parts q → (o : Option StartWork) → IfSome o (λ w. IsStarting w s) → IfSome o (λ w. IsStarting w (record s { parts = q }))
start_after s q more None is = tt
start_after s q more (Some w) is =
    starting_kept w s (record s { parts = q }) refl
    (subst (HasMember w.member) (sym more.same) (record { manager = is.member.manager; log = is.member.log }))
    (left_by w.member s.parts q (ap (λ (x : Owned). (manager_in w.member x.managers).up) more.same) (ap (λ (x : Owned). log_in w.member x.logs) more.same) (ap (λ (x : Owned). low_of w.member x.repo) more.same)) is

pub room_keeps : (s : State) (q : Owned) → IsSound s → IsSameButRoom s.parts q → AreTypesKept (record s { parts = q }) → AreSystemsSound (record s { parts = q }) → IsSound (record s { parts = q })
room_keeps s q sound more kept systems = beside_sound s.courses q s.starting s.peers s.tallies s sound (record {
  kept = sound_kept s sound;
  steady = subst (IsSteady (answers_given s.courses) (in_progress s.works)) (sym more.same) (roomy_steady (answers_given s.courses) (in_progress s.works) q.history.room s.parts more.room sound.steady);
  objects = ap (λ (x : Owned). x.objects) more.same;
  spares = λ k w. ap (λ (x : Owned). stand k w x) more.same;
  ups = λ k. inl (ap (λ (x : Owned). (manager_in k x.managers).up) more.same);
  ordered = structures_ordered s.parts q (ap (λ (x : Owned). x.structures) more.same) sound.ordered;
  next = λ k w. refl;
  starts = subst (λ (x : Repository). starts_left s.courses + length x.lives ≤ x.starts) (sym (ap (λ (x : Owned). x.repo) more.same)) sound.starts;
}) sound.eight (start_after s q more s.starting sound.starting) kept systems
