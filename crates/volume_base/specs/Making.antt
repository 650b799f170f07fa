-- A new folder or file: its place, the room for it, and what adding it does to a volume.
use Rattle.std.specs.Prelude.{◌≡◌, ◌<◌, ◌≤◌, ℕ, ◌+◌, ◌^◌, Bool, true, false, IsTrue, List, [], ◌∷◌, ◌++◌, None, replicate, Result, Ok, Err}
use Rattle.sector_disk.specs.Lists.{Content}
use Rattle.sector_disk.specs.Space.{Space}
use Rattle.jnl_format.specs.Recovery.{header_of_volume}
use Rattle.btree_node.specs.Levels.{Pair}
use Rattle.hx_bytes.specs.declared.extents.ForkRecord.{ForkRecord}
use Rattle.cat_records.specs.declared.record.CatRecord.{CatRecord}
use Rattle.cat_records.specs.declared.record.CatRecord.TheVariants.{Folder, File}
use Rattle.cat_records.specs.declared.record.EntryFields.{EntryFields}
use Rattle.catalog.specs.Pairs.{value_at}
use Rattle.hfs_language.specs.declared.command.Command.{Command}
use Rattle.hfs_language.specs.declared.command.Command.TheVariants as command
use Rattle.hfs_language.specs.declared.refusal.Refusal.{Refusal}
use Rattle.hfs_language.specs.declared.refusal.Refusal.TheVariants as refusal
use Rattle.hfs_model.specs.Step.{Place, then_, unless, is_root, front, last_name, is_private_path, to_make}
use Rattle.hfs_model.specs.declared.plain.PlainTree.{PlainTree}
use Rattle.hfs_volume.specs.Kinds.{link_finder}
use Rattle.hfs_volume.specs.Changes.{AddsEntry}
use Rattle.hfs_volume.specs.Commands.{entry_in, with_made}
use Rattle.hfs_volume.specs.Cost.{catalog_key, growth, is_too_deep, tree_load}
use Rattle.hfs_volume.specs.Records.{is_empty}
use Rattle.hfs_volume.specs.Weight.{cost_of_tree}
use Rattle.hfs_volume.specs.declared.cost.TreeCost.{TreeCost}
use Rattle.volume_base.specs.Changing.{ChangesCatalog, catalog_node}
use Rattle.volume_base.specs.Lists.{lists_of, facts_on}
use Rattle.volume_base.specs.Reaching.{named, folder_in}
use Rattle.volume_base.specs.declared.reaching.Reached.{Reached}
use Rattle.volume_base.specs.declared.volume.Volume.{Volume}

-- ---- the place

-- `mkdir` or `create`
abbrev pub making : Bool → List (List ℕ) → Command
making true path = command.Mkdir path
making false path = command.Create path

-- the path of a name under another path
abbrev pub path_to : List (List ℕ) → List ℕ → List (List ℕ)
path_to above name = above ++ name ∷ []

-- the folder of a new name, unless the name is taken
abbrev pub untaken : ℕ → Result Reached Refusal → Result ℕ Refusal
untaken id (Ok at) = Err refusal.Exists
untaken id (Err why) = Ok id

-- the folder that a path reaches, if this name may be made in it
abbrev pub site_under : List Pair → List (List ℕ) → List ℕ → Result ℕ Refusal
site_under pairs above name = then_ (folder_in pairs above) (λ id. untaken id (named (value_at pairs id name)))

-- the folder in which the last name of a path may be made
abbrev pub site_in : List Pair → List (List ℕ) → Result ℕ Refusal
site_in pairs path = then_ (unless (is_root path) refusal.Root path) (λ some. site_under pairs (front some) (last_name some))

-- a name that nothing has in a folder
abbrev pub free_place : ℕ → List ℕ → Place
free_place id name = record { folder = id; name = name; found = None }

-- A path names this place on a tree, and a folder or file may be made there.
pub record IsSite (tree : PlainTree) (id : ℕ) (name : List ℕ) : Type 0 where
  pub path : List (List ℕ)
  pub not_own : is_private_path path ≡ false
  pub named : is_empty (last_name path) ≡ false
  pub allowed : to_make tree path ≡ Ok (free_place id name)

-- ---- the room
-- the numbers of the catalog's tree by which edits are counted
abbrev pub catalog_cost : Volume → TreeCost
catalog_cost volume = cost_of_tree (facts_on volume.catalog.file) 0

-- the sectors that the edits of a new folder or file put at most: its record and its thread
abbrev pub entry_load : Volume → ℕ
entry_load volume = tree_load catalog_key (catalog_cost volume) 2 0

-- the sectors that a new folder or file takes at most: the header's, a node for the folder above, and those of its edits
abbrev pub make_load : Volume → ℕ
make_load volume = 1 + catalog_node volume + entry_load volume

-- There is a CNID for a new folder or file and room to put the header; where the space tells, there is room to put it, and the catalog needn't grow
-- before.
pub record HasRoomToMake (volume : Volume) (space : Space) : Type 0 where
  pub ids : volume.header.next_catalog_id + 1 < 2 ^ 32
  pub some : 1 ≤ space.spare
  pub told : IsTrue space.tells → (make_load volume ≤ space.spare) × (is_too_deep catalog_key (catalog_cost volume) 2 ≡ false) × (growth volume.header.block_size catalog_key (catalog_cost volume) 2 ≡ 0)

-- ---- the record
-- the fields of a new folder or file
abbrev pub new_fields : (id moment mode flags : ℕ) → EntryFields
new_fields id moment mode flags = record {
  flags = flags;
  count = 0;
  id = id;
  created = moment;
  changed = moment;
  attribute = moment;
  accessed = moment;
  backup = 0;
  owner = 0;
  group = 0;
  admin_flags = 0;
  owner_flags = 0;
  mode = mode;
  special = 0;
  finder = replicate 32 0;
  encoding = 0;
  rest = 0;
}

-- a fork without blocks
abbrev pub no_fork : ForkRecord
no_fork = record { logical_size = 0; clump_size = 0; total_blocks = 0; extents = record { extents = replicate 8 (record { start = 0; count = 0 }) } }

-- the record of a new folder, with mode 0040755, or of a new file, with mode 0100644 and the flag that its thread exists
abbrev pub new_value : Bool → ℕ → ℕ → CatRecord
new_value true id moment = Folder (record { fields = new_fields id moment 16877 0 })
new_value false id moment = File (record { fields = new_fields id moment 33188 2; data_fork = no_fork; resource_fork = no_fork })

-- the record of a new symbolic link, with mode 0120755 and the type and creator `slnk` and `rhap`, whose data fork holds its target
abbrev pub new_link_value : ℕ → ℕ → ForkRecord → CatRecord
new_link_value id moment target = File (record { fields = record (new_fields id moment 41453 2) { finder = link_finder }; data_fork = target; resource_fork = no_fork })

-- ---- the change
-- A record stands in a folder under a name, with its thread, and the header counts one folder (true) or file more and was put.
pub record AddsRecord (folder : Bool) (value : CatRecord) (id : ℕ) (name : List ℕ) (old new : Volume) (before after : Content) : Type 0 where
  pub adds : AddsEntry (entry_in (free_place id name) value) (lists_of old before).catalog_pairs (lists_of new after).catalog_pairs
  pub changes : ChangesCatalog old new before after
  pub header : new.header ≡ with_made folder old.header
  pub headed : header_of_volume after ≡ new.header

-- a folder (true) or file with the next CNID stands there, as it is made
abbrev pub AddsNew : Bool → ℕ → List ℕ → Volume → Volume → Content → Content → Type 0
AddsNew folder id name old new before after = AddsRecord folder (new_value folder old.header.next_catalog_id old.header.modify_date) id name old new before after
