-- Symbolic links and resource forks: what a command on them does to the lists of a volume.
use Rattle.std.specs.Prelude.{◌≡◌, ◌<◌, ℕ, Bool, false, true, List, [], ◌∷◌, ◌++◌, length, replicate, codes, Option, Some, None, Result, Ok, Err, if◌then◌else◌, ◌==◌, ◌+◌}
use Rattle.cat_records.specs.declared.record.CatRecord.{CatRecord}
use Rattle.cat_records.specs.declared.record.CatRecord.TheVariants.{Folder, File, Thread}
use Rattle.cat_records.specs.declared.record.EntryFields.{EntryFields}
use Rattle.hfs_language.specs.declared.refusal.Refusal.{Refusal}
use Rattle.hfs_model.specs.Extras.{Extra, extras_in}
use Rattle.hfs_model.specs.Kinds.{kind_step, to_symlink}
use Rattle.hfs_model.specs.Step.{Place, is_private_path, last_name, size_written, to_file, to_write}
use Rattle.hfs_model.specs.declared.kinds.KindEdit.{KindEdit}
use Rattle.hfs_model.specs.declared.kinds.KindEdit.TheVariants as edit
use Rattle.hfs_model.specs.declared.plain.PlainNode.{PlainNode}
use Rattle.hfs_model.specs.declared.plain.PlainTree.{PlainTree}
use Rattle.jnl_format.specs.Recovery.{Content}
use Rattle.hfs_volume.specs.Changes.{AddsEntry, AreSorted, InCatalog}
use Rattle.hfs_volume.specs.Commands.{AreBytesOf, AreNewFields, ChangesFields, IsEmptyFork, IsTouched, entry_in, with_made}
use Rattle.hfs_volume.specs.Content.{VolumeState}
use Rattle.hfs_volume.specs.Cost.{cost_of}
use Rattle.hfs_volume.specs.Forks.{data_kind, resource_kind}
use Rattle.hfs_volume.specs.Records.{is_empty, is_link_type}
use Rattle.hfs_volume.specs.Sound.{IsSoundVolume}
use Rattle.hfs_volume.specs.TreeOf.{BytesOf, tree_in, tree_of}
use Rattle.hfs_volume.specs.Weight.{Data, Edits, cut_cost, edits, free_blocks, needs_cut_in, needs_in, room_with, zeros_before_value}
use Rattle.hfs_volume.specs.Writing.{MakesBytes, RewritesFork, written_bytes}
use Rattle.hfs_volume.specs.declared.cost.Cost.{Cost}
use Rattle.hfs_volume.specs.declared.cost.Cost.TheVariants as cost

-- The extras of the files of a content: their type bits, and the bytes of their resource forks, which are the first of the forks' blocks.
abbrev pub extras_of : Content → List Extra
extras_of content = extras_in (tree_of content)

-- ---- what a command does to the lists

-- the Finder type and creator of a symbolic link, `slnk` and `rhap`; a reader goes by the type bits alone
abbrev pub link_finder : List ℕ
link_finder = codes "slnkrhap" ++ replicate 24 0

-- the whole mode of a new link, 0120755
abbrev pub link_mode : ℕ
link_mode = 41453

-- a symbolic link as it is made, before it has its target: a file with these bits, without a block
abbrev pub IsNewLink : ℕ → ℕ → CatRecord → Type 0
IsNewLink drawn moment (Folder folder) = ⊥
IsNewLink drawn moment (File file) =
    AreNewFields drawn link_mode moment file.fields × (file.fields.finder ≡ link_finder) × (is_link_type file.fields ≡ false) × IsEmptyFork file.data_fork × IsEmptyFork file.resource_fork
IsNewLink drawn moment (Thread thread) = ⊥

-- `symlink`: the header counts a file and draws its id, the link is there with its thread, the folder above has one entry more, and the target
-- stands in blocks that were free
pub record MakesLink (at : Place) (fresh : List ℕ) (old new : VolumeState) : Type 0 where
  pub value : CatRecord
  pub is_new : IsNewLink old.head.next_catalog_id old.head.modify_date value
  pub added : VolumeState
  pub adds : InCatalog (AddsEntry (entry_in at value)) (record old { head = with_made false old.head }) added
  pub sorted : AreSorted added.catalog_pairs
  pub made : VolumeState
  pub counts : ChangesFields at.folder (IsTouched old.head.modify_date 1 0) added made
  pub writes : RewritesFork old.head.next_catalog_id data_kind 0 0 fresh made new

-- ---- what they lead to

-- `rwrite` of a byte or more: where the step refuses nothing, the lists that the changes lead to are those of a sound volume, and tell the step's
-- tree.
abbrev pub ResourceWriteDoes : Type 0
ResourceWriteDoes =
    (path : List (List ℕ)) (at : ℕ) (value : List ℕ) (file : PlainNode) (from count : ℕ) (fresh : List ℕ) (old new : VolumeState) (bytes_of bytes_after : BytesOf) → AreBytesOf bytes_after → IsSoundVolume old → 0 < length value
    → to_write (tree_in old bytes_of) path at value ≡ Ok file → (does : RewritesFork file.id resource_kind from count fresh old new) → MakesBytes (written_bytes at value) does bytes_of bytes_after
    → IsSoundVolume new × (tree_in new bytes_after ≡ (kind_step (tree_in old bytes_of) (edit.ResourceWrite path at value)).1)

-- `symlink`: where the step refuses nothing, the lists that the changes lead to are those of a sound volume, and tell the step's tree.
abbrev pub SymlinkDoes : Type 0
SymlinkDoes =
    (path : List (List ℕ)) (value : List ℕ) (at : Place) (fresh : List ℕ) (old new : VolumeState) (bytes_of bytes_after : BytesOf) → AreBytesOf bytes_of → AreBytesOf bytes_after → IsSoundVolume old
    → is_private_path path ≡ false → is_empty (last_name path) ≡ false → to_symlink (tree_in old bytes_of) path value ≡ Ok at
    → (does : MakesLink at fresh old new) → MakesBytes (written_bytes 0 value) does.writes bytes_of bytes_after
    → IsSoundVolume new × (tree_in new bytes_after ≡ (kind_step (tree_in old bytes_of) (edit.Symlink path value)).1)
