-- `rm` of an only name: what is removed, and what putting the file aside does to a volume.
use Rattle.std.specs.Prelude.{◌≡◌, ℕ, true, false, List, Option, None, Some, Result, Ok, Err}
use Rattle.sector_disk.specs.Space.{Space}
use Rattle.btree_node.specs.Levels.{Pair}
use Rattle.catalog.specs.Pairs.{value_at}
use Rattle.hard_links.specs.Orphans.{NamesFile}
use Rattle.hard_links.specs.declared.place.EntryAt.{EntryAt}
use Rattle.hfs_language.specs.declared.refusal.Refusal.{Refusal}
use Rattle.hfs_language.specs.declared.refusal.Refusal.TheVariants as refusal
use Rattle.hfs_model.specs.Step.{front, is_private_path, is_root, last_name, reached, then_, to_rm, unless}
use Rattle.hfs_model.specs.declared.plain.PlainEntry.{PlainEntry}
use Rattle.hfs_model.specs.declared.plain.PlainTree.{PlainTree}
use Rattle.hfs_volume.specs.Records.{is_empty, is_link, is_link_type}
use Rattle.volume_base.specs.Making.{HasRoomToMake}
use Rattle.volume_base.specs.Reaching.{folder_in, named}
use Rattle.volume_base.specs.Removing.{HasRoomToRemove}
use Rattle.volume_base.specs.declared.losing.Losing.{Losing}
use Rattle.volume_base.specs.declared.reaching.Reached.{Reached}
use Rattle.volume_base.specs.declared.reaching.Reached.TheVariants as reached_as
use Rattle.volume_base.specs.declared.volume.Volume.{Volume}
use Rattle.volume_base.specs.declared.weighing.Edits.{Edits}

-- ---- the file

-- what was reached in this folder, if it is a file
abbrev pub to_lose : ℕ → Reached → Result Losing Refusal
to_lose parent reached_as.Root = Err refusal.Root
to_lose parent (reached_as.Folder folder) = Err refusal.IsFolder
to_lose parent (reached_as.File file) = Ok (record { parent = parent; link = is_link_type file.fields })

-- the file of this name in the folder that a path reaches
abbrev pub losing_under : List Pair → List (List ℕ) → List ℕ → Result Losing Refusal
losing_under pairs above name = then_ (folder_in pairs above) (λ id. then_ (named (value_at pairs id name)) (to_lose id))

-- the file that a path stands for
abbrev pub losing_in : List Pair → List (List ℕ) → Result Losing Refusal
losing_in pairs path = then_ (unless (is_root path) refusal.Root path) (λ some. losing_under pairs (front some) (last_name some))

-- its place
abbrev pub place_of : Losing → List ℕ → EntryAt
place_of at name = record { parent = at.parent; name = name }

-- A removal is allowed on a tree: of this name in this folder.
pub record IsLoss (tree : PlainTree) (path : List (List ℕ)) (at : PlainEntry) (place : EntryAt) : Type 0 where
  pub not_own : is_private_path path ≡ false
  pub allowed : to_rm tree path ≡ Ok at
  pub reaches_it : reached tree path ≡ Ok at
  pub is_place : (at.parent ≡ place.parent) × (at.name ≡ place.name)
  pub not_root : is_root path ≡ false
  pub named : is_empty place.name ≡ false
  pub last : last_name path ≡ place.name
  pub above : PlainEntry
  pub reaches : reached tree (front path) ≡ Ok above
  pub above_is : (above.folder ≡ true) × (above.id ≡ place.parent)

-- The record of this name in this folder is a file's, and no link.
pub record IsOnlyName (place : EntryAt) (pairs : List Pair) : Type 0 where
  pub names : NamesFile place pairs
  pub not_link : is_link names.entry ≡ false

-- ---- the weight

-- the edits by which a file loses its only name; where there is no private folder, it is made before
abbrev pub lose_edits : Option ℕ → Edits
lose_edits None = record { ids = 1; catalog = 5; attributes = 0; updates = 4 }
lose_edits (Some private) = record { ids = 0; catalog = 3; attributes = 0; updates = 4 }

-- ---- the room

-- There is room to remove a link, and where there is no private folder, room to make it.
pub record HasRoomToLose (volume : Volume) (space : Space) : Type 0 where
  pub drops : HasRoomToRemove volume space
  pub makes : volume.private ≡ None → HasRoomToMake volume space
