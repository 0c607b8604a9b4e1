-- which entry a cleaning forgets, and what becomes of its blocks
use Rattle.std.specs.Prelude.{ℕ, ◌≡◌, ◌⊎◌, Bool, true, false, List, Some, None, count_by}
use Rattle.qsg_num.specs.declared.seats.Member.{Member}
use Rattle.qsg_num.specs.declared.ids.Block.{Block}
use Rattle.qsg_num.specs.declared.ids.EntryId.{EntryId}
use Rattle.qsg_lists.specs.declared.parts.Connection.{Connection}
use Rattle.qsg_lists.specs.declared.parts.Entry.{Entry}
use Rattle.qsg_lists.specs.Entries.{entry_at}
use Rattle.qsg_lists.specs.Structures.{lost_of}
use Rattle.qsg_space.specs.Spaces.{is_used, has_block}
use Rattle.qsg_datasets.specs.Kept.{KeptSet, set_in, used_in}
use Rattle.qsg_parts.specs.Owned.{Owned}
use Rattle.qsg_cleaning.specs.declared.phases.Phase.{Phase}
use Rattle.qsg_cleaning.specs.declared.phases.Phase.TheVariants.{Connect, Search, Forget}
use Rattle.qsg_cleaning.specs.declared.work.CleaningWork.{CleaningWork}
use Rattle.qsg_cleaning.specs.Steps.{structure_of, connection_of, is_to_clean, blocks_of, cleaned}

-- An entry was forgotten that the member was to forget, in a structure that served the connection.
pub record HasForgotten (owner : Member) (connection : Connection) (id : EntryId) (p q : Owned) : Type 0 where
  pub entry : Entry
  pub served : lost_of (structure_of connection.structure p) connection ≡ None
  pub there : entry_at id (structure_of connection.structure p).entries ≡ Some entry
  pub to_clean : is_to_clean owner entry ≡ true
  pub parts : q ≡ cleaned owner connection id entry p

-- only the step that forgets changes anything, and nothing but such an entry goes
abbrev pub HasCleaned : Phase → CleaningWork → Owned → Owned → Type 0
HasCleaned Connect w p q = q ≡ p
HasCleaned (Search epoch) w p q = q ≡ p
HasCleaned (Forget epoch id) w p q = (q ≡ p) ⊎ HasForgotten w.member (connection_of w epoch) id p q

-- how many entries the member is to forget
abbrev pub count_to_clean : Member → List Entry → ℕ
count_to_clean owner entries = count_by (is_to_clean owner) entries

-- These blocks are free in the map that stands for the epoch, and all others are as they were.
pub record AreFree (epoch : ℕ) (blocks : List Block) (old new : KeptSet) : Type 0 where
  pub free : (b : Block) → has_block b blocks ≡ true → is_used (used_in epoch new) b ≡ false
  pub others : (b : Block) → has_block b blocks ≡ false → is_used (used_in epoch new) b ≡ is_used (used_in epoch old) b
