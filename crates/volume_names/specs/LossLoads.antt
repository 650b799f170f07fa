-- What `rm` takes of the room for puts, and what it leaves.
use Rattle.std.specs.Prelude.{◌≡◌, ◌⊎◌, ◌<◌, ◌≤◌, ℕ, ◌+◌, ◌*◌, Bool, true, false, List, None, is_some}
use Rattle.std.specs.List.{Contains}
use Rattle.sector_disk.specs.Lists.{Content}
use Rattle.sector_disk.specs.Space.{Space}
use Rattle.hfs_language.specs.declared.command.Command.TheVariants as command
use Rattle.hfs_model.specs.declared.plain.PlainTree.{PlainTree}
use Rattle.hfs_volume.specs.Content.{records_of, volume_of}
use Rattle.hfs_volume.specs.Cost.{catalog_key, growth, tree_load}
use Rattle.hfs_volume.specs.Records.{Placed, entries_of, id_of}
use Rattle.hfs_volume.specs.Weight.{edits_of}
use Rattle.volume_base.specs.Changing.{catalog_node}
use Rattle.volume_base.specs.Making.{catalog_cost}
use Rattle.volume_base.specs.declared.volume.Volume.{Volume}
use Rattle.volume_names.specs.EditsLeft.{HasEditsLeft, HasLoadFor}
use Rattle.volume_names.specs.Unlinking.{links_in}

-- No more sectors were put than the header's, those of four updates and the load of so many edits of the catalog, which needn't grow for them.
pub record SpendsFor (edits : ℕ) (volume : Volume) (before after : Space) : Type 0 where
  pub grown : growth volume.header.block_size catalog_key (catalog_cost volume) edits ≡ 0
  pub spent : before.spare ≤ after.spare + (1 + 4 * catalog_node volume + tree_load catalog_key (catalog_cost volume) edits 0)

-- The catalog's nodes are as large, and where the load of so many edits and of others had room beside the header's sector, three updates and other
-- sectors, the others have room beside these still.
abbrev pub LeavesOthers : (edits : ℕ) → Volume → Space → Volume → Space → Type 0
LeavesOthers edits from before to after =
    (catalog_node to ≡ catalog_node from) × ((others beside : ℕ) → HasLoadFor (edits + others) (1 + (3 * catalog_node from + beside)) from before → HasEditsLeft others beside to after)

-- how many edits of the catalog an `rm` of this path makes; none where it is refused
abbrev pub loss_edits : PlainTree → List (List ℕ) → ℕ
loss_edits tree path = (edits_of tree (command.Rm path)).catalog

-- no sector was put, or what is told of those that were
abbrev pub NoneOr : Type 0 → Space → Space → Type 0
NoneOr spends before after = (before.spare ≤ after.spare) ⊎ spends

-- What is told of so many edits holds of those by which a file loses its only name: where the private folder is there, or where it was made before.
abbrev pub AsNameLost : (ℕ → Type 0) → Volume → Type 0
AsNameLost holds volume = ((is_some volume.private ≡ true) × holds 3) ⊎ ((volume.private ≡ None) × holds 5)

-- The same of those by which the file with this CNID loses a link, of several, or the last one.
pub record AsLinkLost (holds : ℕ → Type 0) (id : ℕ) (content : Content) : Type 0 where
  pub file : Placed
  pub stands : Contains (entries_of (records_of (volume_of content))) file
  pub number : id_of file ≡ id
  pub spends : ((1 < links_in file.value) × holds 2) ⊎ ((links_in file.value ≤ 1) × holds 5)

-- the same of a name that is a link, or none
abbrev pub AsLost : (ℕ → Type 0) → Bool → ℕ → Volume → Content → Type 0
AsLost holds true id volume content = AsLinkLost holds id content
AsLost holds false id volume content = AsNameLost holds volume

-- the file with this CNID lost a link
abbrev pub SpendsShared : ℕ → Volume → Space → Space → Type 0
SpendsShared id volume before after = AsLinkLost (λ edits. SpendsFor edits volume before after) id before.content

-- a name went that is a link, or none
abbrev pub SpendsLoss : Bool → ℕ → Volume → Space → Space → Type 0
SpendsLoss link id volume before after = AsLost (λ edits. SpendsFor edits volume before after) link id volume before.content

-- what other edits had room for is left behind a link that went
abbrev pub LeavesShared : ℕ → Volume → Space → Volume → Space → Type 0
LeavesShared id from before to after = AsLinkLost (λ edits. LeavesOthers edits from before to after) id before.content

-- the same behind a name that is a link, or none
abbrev pub LeavesLoss : Bool → ℕ → Volume → Space → Volume → Space → Type 0
LeavesLoss link id from before to after = AsLost (λ edits. LeavesOthers edits from before to after) link id from before.content
