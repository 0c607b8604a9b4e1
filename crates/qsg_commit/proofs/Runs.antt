-- the run of a unit has no more pages than the unit has reserved
use Rattle.std.proofs.Common.{◌≡◌, ℕ, ◌<◌, ◌≤◌, List, length, Bool, true, Option, Some, None, refl, sym, ap, subst, ◌∙◌, cond, arith}
use Rattle.std.specs.Prelude.{nat_lt, option_map, IsSome, IfSome}
use Rattle.std.proofs.lemmas.Bool.Decides.{nat_tests}
use Rattle.qsg_num.specs.declared.ids.UnitName.{UnitName}
use Rattle.qsg_num.specs.declared.seats.StructNo.{StructNo}
use Rattle.qsg_model.specs.declared.history.Op.{Op}
use Rattle.qsg_logpage.specs.declared.table.Reservation.{Reservation}
use Rattle.qsg_logpage.specs.Reserved.{pages_for}
use Rattle.qsg_group.specs.declared.tasks.Claim.{Claim}
use Rattle.qsg_group.specs.declared.tasks.Task.{Task}
use Rattle.qsg_group.specs.Observers.{logged_ops}
use Rattle.qsg_unitlog.specs.Sets.{structures_of}
use Rattle.qsg_unitlog.specs.Units.{run_pages}
use Rattle.qsg_commit.specs.Pending.{pending}
use Rattle.qsg_commit.specs.Committing.{run_of}

some_ops : (n : ℕ) → 0 < n → nat_lt 0 n ≡ true
some_ops n some = grind (arith, nat_tests)

pub pending_is : (task : Task) (u : UnitName) → task.unit ≡ Some u → 0 < length task.ops → pending task ≡ Some (u, length task.ops)
pending_is task u is some =
    ap (λ (b : Bool). cond b (option_map (λ (v : UnitName). (v, length task.ops)) task.unit) None) (some_ops (length task.ops) some)
    ∙ ap (option_map (λ (v : UnitName). (v, length task.ops))) is

pub begin_fits : (held task : Task) (u : UnitName) (ops : List (StructNo × Op)) (claims : List Claim) (found : Option (List StructNo)) (structures : List StructNo) (run : List (List ℕ)) (rs : List Reservation)
    → held ≡ task → held.unit ≡ Some u → ops ≡ held.ops → claims ≡ held.claims → found ≡ Some structures → (IsSome found → 0 < length ops) → IfSome found (λ set. set ≡ structures_of ops)
    → run ≡ run_pages u (logged_ops ops claims) structures → IfSome (pending task) (λ unit. length (run_of unit.0 task) ≤ pages_for unit.0 rs) → length run ≤ pages_for u rs
begin_fits held task u ops claims found structures run rs same has ops_are claims_are found_is some set run_is fits =
    let some_here : 0 < length task.ops = subst (λ (l : List (StructNo × Op)). 0 < length l) (ops_are ∙ ap (λ (x : Task). x.ops) same) (some (subst (λ (o : Option (List StructNo)). IsSome o) (sym found_is) refl)) in
    let set_is : structures ≡ structures_of ops = subst (λ (o : Option (List StructNo)). IfSome o (λ set. set ≡ structures_of ops)) found_is set in
    let here : run ≡ run_of u task
    = run_is ∙ ap (run_pages u (logged_ops ops claims)) set_is ∙ (λ i. run_pages u (logged_ops (ops_is i) (claims_is i)) (structures_of (ops_is i))) in
    let fits_here : length (run_of u task) ≤ pages_for u rs
    = subst (λ (o : Option (UnitName × ℕ)). IfSome o (λ unit. length (run_of unit.0 task) ≤ pages_for unit.0 rs)) (pending_is task u (sym (ap (λ (x : Task). x.unit) same) ∙ has) some_here) fits in
    omega (arith, ap (λ (l : List (List ℕ)). length l) here, fits_here)
  where
    ops_is : ops ≡ task.ops
    ops_is = ops_are ∙ ap (λ (x : Task). x.ops) same

    claims_is : claims ≡ task.claims
    claims_is = claims_are ∙ ap (λ (x : Task). x.claims) same
