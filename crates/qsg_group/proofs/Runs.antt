-- Runs of the machine in which a member ends before its unit does.
use Rattle.std.proofs.Common.{◌≡◌, ℕ, Bool, true, false, cond, List, [], ◌∷◌, Some, None, refl, sym, ap, arith}
use Rattle.std.specs.Prelude.{◌==◌, ◌||◌, ◌&&◌, not}
use Rattle.std.proofs.lemmas.Option.{same_Some}
use Rattle.qsg_num.specs.declared.seats.Member.TheVariants as members
use Rattle.qsg_num.specs.declared.seats.StructNo.{StructNo}
use Rattle.qsg_num.specs.declared.seats.StructNo.TheVariants as structures
use Rattle.qsg_num.specs.declared.seats.TaskNo.{TaskNo}
use Rattle.qsg_num.specs.declared.seats.TaskNo.TheVariants as numbers
use Rattle.qsg_msg.specs.declared.message.Message.{Message}
use Rattle.qsg_model.specs.declared.history.Op.{Op}
use Rattle.qsg_model.specs.declared.history.Op.TheVariants.{Put}
use Rattle.qsg_lists.specs.declared.parts.Mark.TheVariants.{Visible}
use Rattle.qsg_group.specs.declared.tasks.Claim.{Claim}
use Rattle.qsg_group.specs.Group.{Held, Group, empty_group}
use Rattle.qsg_group.specs.Observers.{entry_at, is_hardening, names_incarnation}
use Rattle.qsg_group.specs.Changes.{started, drawn, put, claim_of, begun, hardened, crashed, peer_settled, resolved, Reached}
use Rattle.qsg_group.specs.Changes.Change.{Draws, Puts, Begins, Hardens, Crashes, Starts, PeerSettles, Resolves}
use Rattle.qsg_group.specs.Changes.Reached.{Beginning, More}
use Rattle.qsg_group.specs.Outcomes.{first_message, first_unit, Outlives, IsUndone}

-- the first member, the first task and the first structure
abbrev up : Group
up = started empty_group members.One

abbrev named : Group
named = drawn up first_unit numbers.One

abbrev ops : Message → List (StructNo × Op)
ops m = (structures.One, Put (first_message m)) ∷ []

abbrev claims : Message → List Claim
claims m = claim_of structures.One (named.shelves structures.One) (first_message m) ∷ []

abbrev written : Message → Group
written m = put named first_unit numbers.One [] [] structures.One (first_message m) false

abbrev latched : Message → Group
latched m = begun (written m) first_unit numbers.One (ops m) (claims m)

up_is_reached : Reached up
up_is_reached = More empty_group up Beginning (Starts empty_group members.One (record { down = refl }))

named_is_reached : Reached named
named_is_reached = More up named up_is_reached (Draws up first_unit numbers.One (record { free = refl; seat = refl }))

written_is_reached : (m : Message) → Reached (written m)
written_is_reached m = More named (written m) named_is_reached
    (Puts named first_unit numbers.One [] [] structures.One (first_message m) false (record { has = refl; active = refl; fits = omega arith; id = refl; own = refl }))

no_latch : (m : Message) (w : TaskNo) → is_hardening ((written m).tasks members.One w).stage ≡ false
no_latch m numbers.System = refl
no_latch m numbers.One = refl
no_latch m numbers.Two = refl
no_latch m numbers.Three = refl
no_latch m numbers.Four = refl

latched_is_reached : (m : Message) → Reached (latched m)
latched_is_reached m = More (written m) (latched m) (written_is_reached m) (Begins (written m) first_unit numbers.One (ops m) (claims m) (record { has = refl; latch = no_latch m }))

-- ---- its run is safe when the member ends

abbrev safe : Message → Group
safe m = hardened (latched m) first_unit numbers.One (ops m) (claims m) 4

abbrev safe_down : Message → Group
safe_down m = crashed (safe m) members.One

abbrev safe_settled : Message → Group
safe_settled m = peer_settled (safe_down m) structures.One 1 first_unit

abbrev safe_resolved : Message → Group
safe_resolved m = resolved (safe_settled m) members.One 1

safe_is_reached : (m : Message) → Reached (safe_settled m)
safe_is_reached m = More (safe_down m) (safe_settled m)
    (More (safe m) (safe_down m)
    (More (latched m) (safe m) (latched_is_reached m) (Hardens (latched m) first_unit numbers.One (ops m) (claims m) 0 4 (record { has = refl; pages = omega arith })))
    (Crashes (safe m) members.One (record { up = refl })))
    (PeerSettles (safe_down m) structures.One 1 first_unit (record { failed = refl }))

visible_alone : (m : Message) (id : ℕ) (e : Held) → entry_at id (record { message = first_message m; mark = Visible; outside = false } ∷ []) ≡ Some e → names_incarnation members.One 1 e.mark ≡ false
visible_alone m id e there = by (1 == id) there
  where
    by : (b : Bool) → cond b (Some (record { message = first_message m; mark = Visible; outside = false })) None ≡ Some e → names_incarnation members.One 1 e.mark ≡ false
    by true is = ap (λ (x : Held). names_incarnation members.One 1 x.mark) (sym (same_Some (record { message = first_message m; mark = Visible; outside = false }) e is))
    by false is = absurd cc

safe_unnamed : (m : Message) (s : StructNo) (id : ℕ) (e : Held) → entry_at id ((safe_settled m).shelves s).entries ≡ Some e → names_incarnation members.One 1 e.mark ≡ false
safe_unnamed m structures.One id e there = visible_alone m id e there
safe_unnamed m structures.Two id e there = absurd cc
safe_unnamed m structures.Three id e there = absurd cc
safe_unnamed m structures.Four id e there = absurd cc

none_failed : (i : ℕ) → (((i == 1) || false) && not (i == 1)) ≡ false
none_failed i = by (i == 1)
  where
    by : (b : Bool) → ((b || false) && not b) ≡ false
    by true = refl
    by false = refl

pub outlives : (m : Message) → (g : Group) × Outlives m g
outlives m = (
  safe_resolved m,
  record {
    reached = More (safe_settled m) (safe_resolved m) (safe_is_reached m) (Resolves (safe_settled m) members.One 1 (record { unnamed = safe_unnamed m }));
    down = refl;
    resolved = none_failed;
    history = refl;
    entries = refl;
  },
)

-- ---- its run is being written when the member ends

abbrev cut_down : Message → Group
cut_down m = crashed (latched m) members.One

abbrev cut_settled : Message → Group
cut_settled m = peer_settled (cut_down m) structures.One 1 first_unit

abbrev cut_resolved : Message → Group
cut_resolved m = resolved (cut_settled m) members.One 1

cut_unnamed : (m : Message) (s : StructNo) (id : ℕ) (e : Held) → entry_at id ((cut_settled m).shelves s).entries ≡ Some e → names_incarnation members.One 1 e.mark ≡ false
cut_unnamed m structures.One id e there = absurd cc
cut_unnamed m structures.Two id e there = absurd cc
cut_unnamed m structures.Three id e there = absurd cc
cut_unnamed m structures.Four id e there = absurd cc

pub is_undone : (m : Message) → (g : Group) × IsUndone g
is_undone m = (
  cut_resolved m,
  record {
    reached = More (cut_settled m) (cut_resolved m)
        (More (cut_down m) (cut_settled m) (More (latched m) (cut_down m) (latched_is_reached m) (Crashes (latched m) members.One (record { up = refl }))) (PeerSettles (cut_down m) structures.One 1 first_unit (record { failed = refl })))
        (Resolves (cut_settled m) members.One 1 (record { unnamed = cut_unnamed m }));
    down = refl;
    resolved = none_failed;
    given = refl;
    history = refl;
    entries = refl;
  },
)
