-- `rm` of an only name: what is removed, and what putting the file aside does to a volume.
use Rattle.std.specs.Prelude.{◌≡◌, ◌⊎◌, ℕ, true, is_some, List, Ok}
use Rattle.sector_disk.specs.Lists.{Content}
use Rattle.jnl_format.specs.Recovery.{header_of_volume}
use Rattle.hard_links.specs.Orphans.{MakesOrphan}
use Rattle.hard_links.specs.declared.place.EntryAt.{EntryAt}
use Rattle.hfs_model.specs.Step.{to_rm}
use Rattle.hfs_model.specs.declared.plain.PlainEntry.{PlainEntry}
use Rattle.hfs_volume.specs.Content.{VolumeState, records_of, volume_of}
use Rattle.hfs_volume.specs.Links.{private_id}
use Rattle.hfs_volume.specs.Naming.{RemovesFile}
use Rattle.hfs_volume.specs.Sound.{IsSoundVolume}
use Rattle.hfs_volume.specs.TreeOf.{tree_of}
use Rattle.volume_base.specs.Changing.{ChangesCatalog, TouchesFolder}
use Rattle.volume_base.specs.Lists.{lists_of}
use Rattle.volume_names.specs.PrivateFolder.{OpensPrivate}
use Rattle.volume_base.specs.Standing.{HoldsTrees}
use Rattle.volume_names.specs.Unlinking.{LosesLink}
use Rattle.volume_base.specs.declared.volume.Volume.{Volume}

-- ---- the change
-- A file was put aside into the private folder, with its thread. Nothing else of the volume is changed, and the header wasn't put.
pub record PutsAside (private : ℕ) (place : EntryAt) (from to : Volume) (before after : Content) : Type 0 where
  pub moves : MakesOrphan private place (lists_of from before).catalog_pairs (lists_of to after).catalog_pairs
  pub changes : ChangesCatalog from to before after
  pub rest : to ≡ record from { catalog = to.catalog }
  pub headed : header_of_volume after ≡ header_of_volume before

-- It was put aside, and the private folder counts one entry more.
pub record Hides (private : ℕ) (place : EntryAt) (from to : Volume) (before after : Content) : Type 0 where
  pub middle : Volume
  pub content : Content
  pub holds : HoldsTrees middle content
  pub moves : PutsAside private place from middle before content
  pub gains : TouchesFolder private 1 0 middle to content after

-- A file lost its only name, in the lists of the content, and a private folder was there.
pub record Buries (entry : PlainEntry) (before after : Content) : Type 0 where
  pub there : is_some (private_id (records_of (volume_of before))) ≡ true
  pub removes : RemovesFile entry (volume_of before) (volume_of after)

-- A file lost its only name, in the lists of the content; where there was no private folder, it was made before.
pub record Loses (entry : PlainEntry) (before after : Content) : Type 0 where
  pub opened : VolumeState
  pub opens : (opened ≡ volume_of before) ⊎ OpensPrivate (volume_of before) opened
  pub sound : IsSoundVolume opened
  pub there : is_some (private_id (records_of opened)) ≡ true
  pub removes : RemovesFile entry opened (volume_of after)

-- A file lost its only name, or one of its links, in the lists of the content.
abbrev pub LosesName : PlainEntry → Content → Content → Type 0
LosesName entry before after = Loses entry before after ⊎ LosesLink entry before after

-- What a path stands for lost its name, in the lists of the content.
pub record HasLost (path : List (List ℕ)) (before after : Content) : Type 0 where
  pub entry : PlainEntry
  pub allowed : to_rm (tree_of before) path ≡ Ok entry
  pub loses : LosesName entry before after
