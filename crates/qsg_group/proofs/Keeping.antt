-- Every change keeps every law.
use Rattle.qsg_group.proofs.Recovering.{noted_stays, emptied_stays, resting_stays}
use Rattle.std.proofs.Common.{refl, [], arith}
use Rattle.qsg_group.specs.Group.{Group, empty_group}
use Rattle.qsg_group.specs.Laws.{Laws}
use Rattle.qsg_group.specs.Changes.{Change, Reached}
use Rattle.qsg_group.specs.Changes.Reached.{Beginning, More}
use Rattle.qsg_group.proofs.Logs.{logged_stays, logs_stay}
use Rattle.qsg_group.proofs.Pages.{placed_stays}
use Rattle.qsg_group.proofs.Kept.{kept_stays}
use Rattle.qsg_group.proofs.Latch.{latched_stays}
use Rattle.qsg_group.proofs.Units.{in_hand_stays, once_stays, drawn_stays, ended_stays}
use Rattle.qsg_group.proofs.Shelves.{shelves_stay, epochs_stay, fresh_stays, given_stays, connected_stays}
use Rattle.qsg_group.proofs.Following.{legal_stays, ready_stays, apart_stays}
use Rattle.qsg_group.proofs.Marks.{marked_stays}
use Rattle.qsg_group.proofs.Doing.{done_stays}
use Rattle.qsg_group.proofs.Settled.{good_stays}

pub laws_stay : (g h : Group) → Change g h → Laws g → Laws h
laws_stay g h c laws = record {
  legal = legal_stays g h c laws;
  logged = logged_stays g h c laws;
  logs = logs_stay g h c laws;
  shelves = shelves_stay g h c laws;
  epochs = epochs_stay g h c laws;
  fresh = fresh_stays g h c laws;
  good = good_stays g h c laws;
  marked = marked_stays g h c laws;
  done = done_stays g h c laws;
  ready = ready_stays g h c laws;
  apart = apart_stays g h c laws;
  given = given_stays g h c laws;
  connected = connected_stays g h c laws;
  noted = noted_stays g h c laws;
  emptied = emptied_stays g h c laws;
  resting = resting_stays g h c laws;
  in_hand = in_hand_stays g h c laws;
  once = once_stays g h c laws;
  drawn = drawn_stays g h c laws;
  ended = ended_stays g h c laws;
  kept = kept_stays g h c laws;
  placed = placed_stays g h c laws;
  latched = latched_stays g h c laws;
}

-- ---- from the empty group on

pub nothing_happened : Laws empty_group
nothing_happened = record {
  legal = record { names_differ = tt; puts_differ = tt; gots_differ = tt; gots_were_put = tt };
  logged = λ m. record { front = []; tells = refl; whole = λ e. refl };
  logs = λ m. record { runs = omega arith; low_kept = omega arith; low_written = omega arith };
  shelves = λ s. record { last_fits = omega arith; rising = tt; own = tt; present = tt; quiet = λ idle_now. tt };
  epochs = λ s active. refl;
  fresh = λ s id lt. refl;
  good = λ s active id. refl;
  marked = λ s id e there. absurd cc;
  done = λ u t has. absurd cc;
  ready = λ u t has. absurd cc;
  apart = λ u v t w has other. absurd cc;
  given = λ u t has. absurd cc;
  connected = λ u t has. absurd cc;
  noted = λ s. record { below = omega arith; inactive = λ idle_now. absurd cc };
  emptied = λ s. tt;
  resting = λ s recovers. absurd cc;
  in_hand = λ u t has. absurd cc;
  once = λ u t w has other. absurd cc;
  drawn = λ u was. absurd cc;
  ended = λ m i gone. absurd cc;
  kept = record { of_marked = λ s id e there. absurd cc; of_held = λ u t has. absurd cc };
  placed = λ u t has. absurd cc;
  latched = record { next = λ m t. tt; one = λ m t w hard other. absurd cc };
}

pub laws_hold : (g : Group) → Reached g → Laws g
laws_hold _ Beginning = nothing_happened
laws_hold _ (More g h before c) = laws_stay g h c (laws_hold g before)
