-- A folder that is removed: where it stands, the room for its edits, and what its removal does to a volume.
use Rattle.std.specs.Prelude.{◌≡◌, ◌≤◌, ℕ, ◌+◌, ◌==◌, min, length, true, false, not, IsTrue, List, Result, Ok, Err}
use Rattle.sector_disk.specs.Lists.{Content}
use Rattle.sector_disk.specs.Space.{Space}
use Rattle.jnl_format.specs.Recovery.{header_of_volume}
use Rattle.attributes.specs.Owned.{names_of}
use Rattle.btree_node.specs.Levels.{Pair}
use Rattle.flag_rows.specs.Bits.{sectors_for}
use Rattle.catalog.specs.Entries.{RemovesEntry}
use Rattle.catalog.specs.Pairs.{value_at}
use Rattle.hfs_language.specs.declared.refusal.Refusal.{Refusal}
use Rattle.hfs_language.specs.declared.refusal.Refusal.TheVariants as refusal
use Rattle.hfs_model.specs.Step.{then_, unless, is_root, front, last_name, to_rmdir}
use Rattle.hfs_model.specs.declared.plain.PlainEntry.{PlainEntry}
use Rattle.hfs_model.specs.declared.plain.PlainTree.{PlainTree}
use Rattle.hfs_volume.specs.Commands.{DropsAttributes, RemovesFolder, with_folder_removed}
use Rattle.hfs_volume.specs.Content.{VolumeState, has_attributes}
use Rattle.hfs_volume.specs.Cost.{attributes_key, catalog_key, growth, is_too_deep, tree_load}
use Rattle.hfs_volume.specs.Records.{is_folder}
use Rattle.volume_base.specs.Attributing.{attributes_cost}
use Rattle.volume_base.specs.Changing.{ChangesCatalog, catalog_node}
use Rattle.volume_base.specs.Lists.{lists_of}
use Rattle.volume_base.specs.Making.{catalog_cost, entry_load}
use Rattle.volume_base.specs.Reaching.{named, folder_in}
use Rattle.volume_base.specs.declared.reaching.Reached.{Reached}
use Rattle.volume_base.specs.declared.reaching.Reached.TheVariants as reached
use Rattle.volume_base.specs.Values.{values_owned}
use Rattle.volume_base.specs.declared.removing.Leaving.{Leaving}
use Rattle.volume_base.specs.declared.value_changes.OwnedValues.{OwnedValues}
use Rattle.volume_base.specs.declared.volume.Volume.{Volume}

-- ---- the folder

-- what was reached in this folder, if it is a folder without an entry
abbrev pub to_leave : ℕ → Reached → Result Leaving Refusal
to_leave parent reached.Root = Err refusal.Root
to_leave parent (reached.Folder folder) = unless (not (folder.fields.count == 0)) refusal.NotEmpty (record { parent = parent; id = folder.fields.id })
to_leave parent (reached.File file) = Err refusal.NotFolder

-- the folder of this name in the folder that a path reaches, if it may be removed
abbrev pub leaving_under : List Pair → List (List ℕ) → List ℕ → Result Leaving Refusal
leaving_under pairs above name = then_ (folder_in pairs above) (λ id. then_ (named (value_at pairs id name)) (to_leave id))

-- the folder that a path stands for, if it may be removed
abbrev pub leaving_in : List Pair → List (List ℕ) → Result Leaving Refusal
leaving_in pairs path = then_ (unless (is_root path) refusal.Root path) (λ some. leaving_under pairs (front some) (last_name some))

-- its entry on a tree
abbrev pub folder_at : Leaving → List ℕ → PlainEntry
folder_at at name = record { parent = at.parent; name = name; folder = true; id = at.id }

-- A path names this folder on a tree, and it may be removed.
pub record IsLeaving (tree : PlainTree) (at : Leaving) (name : List ℕ) : Type 0 where
  pub path : List (List ℕ)
  pub allowed : to_rmdir tree path ≡ Ok (folder_at at name)

-- the folder or file of this CNID has no attributes: the pairs without them are all
abbrev pub HasNoAttributes : ℕ → List Pair → Type 0
HasNoAttributes id pairs = DropsAttributes id pairs pairs

-- ---- the room
-- the sectors that a removed folder takes at most: the header's, a node for the folder above, and those of its edits
abbrev pub remove_load : Volume → ℕ
remove_load volume = 1 + catalog_node volume + entry_load volume

-- There is room to put the header; where the space tells, there is room to remove a folder, and the catalog needn't grow before.
pub record HasRoomToRemove (volume : Volume) (space : Space) : Type 0 where
  pub some : 1 ≤ space.spare
  pub told : IsTrue space.tells → (remove_load volume ≤ space.spare) × (is_too_deep catalog_key (catalog_cost volume) 2 ≡ false) × (growth volume.header.block_size catalog_key (catalog_cost volume) 2 ≡ 0)

-- how many records the attributes of a folder have
abbrev pub records_owned : OwnedValues → ℕ
records_owned owned = owned.count + owned.change.records

-- the sectors that the removal of these attributes takes at most: of their edits, and of the bitmap where their values have blocks; the header's is counted
-- with the folder
abbrev pub bare_load : OwnedValues → Volume → ℕ
bare_load owned volume = tree_load attributes_key (attributes_cost volume) (records_owned owned) 0 + min (sectors_for (length volume.map.used)) owned.change.freed

-- Where the space tells, there is room to remove a folder behind these attributes, where there is an attributes file, which needn't grow before.
pub record HasRoomToBare (owned : OwnedValues) (volume : Volume) (space : Space) : Type 0 where
  pub told : IsTrue space.tells → IsTrue (has_attributes volume.header)
      → (remove_load volume + bare_load owned volume ≤ space.spare) × (is_too_deep attributes_key (attributes_cost volume) (records_owned owned) ≡ false) × (growth volume.header.block_size attributes_key (attributes_cost volume) (records_owned owned) ≡ 0)

-- the attributes that the folder with this CNID goes with
abbrev pub owned_at : ℕ → VolumeState → OwnedValues
owned_at id volume = record { count = length (names_of id volume.attribute_pairs); change = values_owned volume id }

-- no attributes
abbrev pub no_values : OwnedValues
no_values = record { count = 0; change = record { records = 0; freed = 0; blocks = 0 } }

-- ---- the change
-- The entry of a name in a folder isn't there any more, nor is its thread; the header counts a folder less and was put.
pub record DropsFolder (parent : ℕ) (name : List ℕ) (old new : Volume) (before after : Content) : Type 0 where
  pub removes : RemovesEntry parent name (lists_of old before).catalog_pairs (lists_of new after).catalog_pairs
  pub changes : ChangesCatalog old new before after
  pub header : new.header ≡ with_folder_removed old.header
  pub headed : header_of_volume after ≡ new.header

-- ---- in the lists of the content
-- The folder of this CNID was removed with its attributes, and the blocks of their values are free.
pub record TakesFolder (id : ℕ) (old new : VolumeState) : Type 0 where
  pub removes : RemovesFolder id old new
  pub folder : is_folder removes.entry.value ≡ true
