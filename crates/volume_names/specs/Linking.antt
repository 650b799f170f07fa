-- `ln`: the name that a file has, the place of the new one, and what a link does to a volume.
use Rattle.std.specs.Prelude.{◌≡◌, ◌⊎◌, ℕ, ◌+◌, true, false, is_some, List, Ok}
use Rattle.sector_disk.specs.Lists.{Content}
use Rattle.jnl_format.specs.Recovery.{header_of_volume}
use Rattle.cat_records.specs.declared.record.CatRecord.TheVariants.{File}
use Rattle.hard_links.specs.Linking.{link_record}
use Rattle.hfs_model.specs.Step.{Place, to_ln}
use Rattle.hfs_model.specs.declared.plain.PlainEntry.{PlainEntry}
use Rattle.hfs_volume.specs.Changes.{AddsEntry}
use Rattle.hfs_volume.specs.Commands.{ChangesFields, IsMarkedLinked, entry_in, with_made}
use Rattle.hfs_volume.specs.Content.{VolumeState, records_of, volume_of}
use Rattle.hfs_volume.specs.Links.{private_id}
use Rattle.hfs_volume.specs.Naming.{LinksFirst, LinksMore}
use Rattle.hfs_volume.specs.Records.{is_empty}
use Rattle.hfs_volume.specs.Sound.{IsSoundVolume}
use Rattle.hfs_volume.specs.TreeOf.{tree_of}
use Rattle.volume_base.specs.Changing.{ChangesCatalog}
use Rattle.volume_base.specs.Lists.{lists_of}
use Rattle.volume_base.specs.Making.{free_place}
use Rattle.volume_names.specs.PrivateFolder.{OpensPrivate}
use Rattle.volume_base.specs.declared.volume.Volume.{Volume}

-- ---- the change
-- A link to the file with this number stands in a folder under a name, with its thread; it has the next CNID, and the header counts it and was put.
pub record AddsName (folder : ℕ) (name : List ℕ) (reference created : ℕ) (old new : Volume) (before after : Content) : Type 0 where
  pub adds : AddsEntry (entry_in (free_place folder name) (File (link_record old.header.next_catalog_id reference created))) (lists_of old before).catalog_pairs (lists_of new after).catalog_pairs
  pub changes : ChangesCatalog old new before after
  pub header : new.header ≡ with_made false old.header
  pub headed : header_of_volume after ≡ new.header

-- The file with this CNID says that it has one link more; its attribute date says when. Nothing else of the volume is changed, and the header wasn't put.
pub record CountsUp (id : ℕ) (old new : Volume) (before after : Content) : Type 0 where
  pub links : ℕ
  pub marks : ChangesFields id (IsMarkedLinked old.header.modify_date links) (lists_of old before) (lists_of new after)
  pub one_more : links ≡ marks.before.special + 1
  pub changes : ChangesCatalog old new before after
  pub rest : new ≡ record old { catalog = new.catalog }
  pub headed : header_of_volume after ≡ header_of_volume before

-- A file that has links got another one, in the lists of the content.
pub record LinksAgain (entry : PlainEntry) (place : Place) (before after : Content) : Type 0 where
  pub links : LinksMore entry place (volume_of before) (volume_of after)

-- A file that had one name got another one, in the lists of the content; where there was no private folder, it was made before.
pub record LinksAnew (entry : PlainEntry) (place : Place) (before after : Content) : Type 0 where
  pub opened : VolumeState
  pub opens : (opened ≡ volume_of before) ⊎ OpensPrivate (volume_of before) opened
  pub sound : IsSoundVolume opened
  pub there : is_some (private_id (records_of opened)) ≡ true
  pub first : LinksFirst entry place opened (volume_of after)

-- A file got another name, in the lists of the content: its first link and a second one, or one more.
abbrev pub LinksName : PlainEntry → Place → Content → Content → Type 0
LinksName entry place before after = LinksAnew entry place before after ⊎ LinksAgain entry place before after

-- The file that a path stands for got a name where another path names a place for it, in the lists of the content.
pub record HasLinked (from to : List (List ℕ)) (before after : Content) : Type 0 where
  pub entry : PlainEntry
  pub place : Place
  pub allowed : to_ln (tree_of before) from to ≡ Ok (entry, place)
  pub named : is_empty place.name ≡ false
  pub links : LinksName entry place before after
