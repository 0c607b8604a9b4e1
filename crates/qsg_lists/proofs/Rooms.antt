-- a write for which there is room
use Rattle.std.proofs.Common.{◌≡◌, ℕ, ◌<◌, ◌≤◌, Bool, true, false, cond, ltb, Option, Some, None, refl, arith}
use Rattle.std.proofs.lemmas.Bool.Decides.{nat_tests}
use Rattle.qsg_lists.specs.declared.parts.Head.{Head}
use Rattle.qsg_lists.specs.declared.parts.Place.{Place}
use Rattle.qsg_lists.specs.Entries.{cost_of, depth_of}
use Rattle.qsg_lists.specs.declared.parts.Connection.{Connection}
use Rattle.qsg_lists.specs.declared.parts.Lost.{Lost}
use Rattle.qsg_lists.specs.declared.parts.WriteWhy.{WriteWhy}
use Rattle.qsg_lists.specs.Structures.{ListStructure, lost_of}
use Rattle.qsg_lists.specs.Writing.{free_of, room_refusal, lost_or, write_refusal}

pub room_passes : (s : ListStructure) (head : Head) (place : Place) (max_depth : ℕ) → cost_of place ≤ free_of s → depth_of head.queue s.entries < max_depth → room_refusal s head place max_depth ≡ None
room_passes s head place max_depth room below = grind (arith, nat_tests)

room_of_cond : (b : Bool) (free cost : ℕ) (w : WriteWhy) (o : Option WriteWhy) → b ≡ ltb free cost → cond b (Some w) o ≡ None → cost ≤ free
room_of_cond true free cost w o t e = cc
room_of_cond false free cost w o t e = grind (arith, nat_tests)

no_room_refusal : (o : Option Lost) (r : Option WriteWhy) → lost_or o r ≡ None → r ≡ None
no_room_refusal None r e = e
no_room_refusal (Some lost) r e = cc

-- where nothing refuses there is room
pub room_of_none : (s : ListStructure) (connection : Connection) (head : Head) (place : Place) (max_depth : ℕ) → write_refusal s connection head place max_depth ≡ None → cost_of place ≤ free_of s
room_of_none s connection head place max_depth e =
    room_of_cond (ltb (free_of s) (cost_of place)) (free_of s) (cost_of place) _ _ refl (no_room_refusal (lost_of s connection) (room_refusal s head place max_depth) e)
