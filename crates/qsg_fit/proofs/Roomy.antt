-- more room in the history changes nothing for a request
use Rattle.std.proofs.Common.{ℕ, ◌+◌, Bool, true, false, Err, sym, subst}
use Rattle.qsg_parts.specs.Owned.{Owned}
use Rattle.qsg_steady.proofs.Committing.{roomy_steady}
use Rattle.qsg_commit.specs.declared.phases.StepError.TheVariants.{NoMemory}
use Rattle.qsg_commit.specs.Committing.{with_room, IsSameButRoom}
use Rattle.qsg_works.specs.declared.work.Work.{Work}
use Rattle.qsg_works.specs.declared.work.Work.TheVariants.{Put, Get, Commit}
use Rattle.qsg_works.specs.Steps.{IsUnmade}
use Rattle.qsg_steady.specs.Steady.{IsSteady}
use Rattle.qsg_fit.specs.Requests.{IsRequestOf, has_begun, IsSteadyIf, IsSteadyBeside}

roomy_if : (begun : Bool) (a b : ℕ) (p q : Owned) → IsSameButRoom p q → IsSteadyIf begun a b p → IsSteadyIf begun a b q
roomy_if false a b p q same s = subst (IsSteady a b) (sym same.same) (roomy_steady a b q.history.room p same.room s)
roomy_if true a b p q same s = subst (IsSteady a (b + 1)) (sym same.same) (roomy_steady a (b + 1) q.history.room p same.room s)

pub steady_beside : (a b : ℕ) (p q : Owned) (before work : Work) → IsSteadyBeside a b before p → IsUnmade (Err NoMemory) before p work q → IsSteadyBeside a b before q
steady_beside a b p q before work s unmade = roomy_if (has_begun before) a b p q unmade.1 s

with_room_fits : (work : Work) (p : Owned) (room : ℕ) → IsRequestOf work p → IsRequestOf work (with_room room p)
with_room_fits (Put w) p room fits = record { member = record { manager = fits.member.manager; log = fits.member.log }; up = fits.up; log = fits.log; queue = fits.queue; ids = fits.ids; stands = fits.stands }
with_room_fits (Get w) p room fits = record { member = record { manager = fits.member.manager; log = fits.member.log }; up = fits.up; log = fits.log; queue = fits.queue; stands = fits.stands }
with_room_fits (Commit w) p room fits = record { member = record { manager = fits.member.manager; log = fits.member.log }; log = fits.log; own = fits.own; stands = fits.stands }

pub request_fits : (p q : Owned) (before work : Work) → IsRequestOf before p → IsUnmade (Err NoMemory) before p work q → IsRequestOf before q
request_fits p q before work fits unmade = subst (IsRequestOf before) (sym unmade.1.same) (with_room_fits before p q.history.room fits)
