-- blocks that entries list are those of data sets
use Rattle.std.proofs.Common.{◌<◌, List, [], ◌∷◌, subst}
use Rattle.std.specs.List.{AllByRecursion}
use Rattle.qsg_num.specs.declared.seats.Member.{Member}
use Rattle.qsg_num.specs.declared.ids.Block.{Block}
use Rattle.qsg_lists.specs.declared.parts.Entry.{Entry}
use Rattle.qsg_lists.specs.declared.parts.Place.{Place}
use Rattle.qsg_lists.specs.declared.parts.Place.TheVariants.{Inline, Offloaded}
use Rattle.qsg_group.proofs.Tables.{same_member}
use Rattle.qsg_datasets.specs.Kept.{KeptSet}
use Rattle.qsg_blocks.specs.State.{Ground}
use Rattle.qsg_blocks.specs.Laws.{FitsPlace, IsFitting}
use Rattle.qsg_rebuild.specs.Needs.{IsWithin, AreWithin}

place_within : (m : Member) (sets : Member → KeptSet) (place : Place) → FitsPlace sets place → IsWithin m (sets m).contents.blocks place
place_within m sets (Inline body) fits = tt
place_within m sets (Offloaded owner blocks n) fits = λ same. subst (λ (k : Member). AllByRecursion (λ (b : Block). b.number < (sets k).contents.blocks) blocks) (same_member owner m same) fits.0

entries_within : (m : Member) (sets : Member → KeptSet) (entries : List Entry) → AllByRecursion (λ (e : Entry). FitsPlace sets e.place) entries → AreWithin m (sets m).contents.blocks entries
entries_within m sets [] fits = tt
entries_within m sets (e ∷ entries) fits = (place_within m sets e.place fits.0, entries_within m sets entries fits.1)

pub within : (m : Member) (g : Ground) → IsFitting g → AreWithin m (g.sets m).contents.blocks g.structure.entries
within m g fits = entries_within m g.sets g.structure.entries fits.places
