-- What is told of a node's file: its record, the extents of its data fork, and whether it has blocks past its size.
use Rattle.std.proofs.Common.{◌≡◌, ◌⊎◌, ◌<◌, ◌≤◌, ℕ, ◌+◌, ◌-◌, ◌*◌, ◌/◌, ◌&&◌, max, Bool, true, false, List, length, refl, sym, ◌∙◌, ap, subst, arith, ⊎_elim}
use Rattle.std.specs.Prelude.{Contains, ◌==◌, nat_lt, Option, Some, if◌then◌else◌}
use Rattle.std.proofs.lemmas.Bool.{cases_lt, le-ltb, lt-ltb}
use Rattle.sector_disk.specs.Lists.{Content}
use Rattle.hx_bytes.specs.declared.extents.Extent.{Extent}
use Rattle.fork_map.specs.Blocks.{blocks_of}
use Rattle.cat_records.specs.declared.record.CatRecord.{CatRecord}
use Rattle.cat_records.specs.declared.record.CatRecord.TheVariants.{File}
use Rattle.cat_records.specs.declared.record.FileRecord.{FileRecord}
use Rattle.file_io.specs.Places.{blocks_for}
use Rattle.volume_header.specs.declared.header.VolumeHeader.{VolumeHeader}
use Rattle.hfs_volume.specs.Content.{VolumeState, overflow_in_volume, records_of, volume_of}
use Rattle.hfs_volume.specs.Forks.{data_kind, extents_of, parts_for, resource_kind}
use Rattle.hfs_volume.specs.Records.{Placed, entries_of, entry_of, id_in}
use Rattle.hfs_volume.specs.Sound.{IsSoundVolume}
use Rattle.hfs_volume.specs.Weight.{Data, extents_found, file_blocks, file_extents, file_fork, needs_cut_in}
use Rattle.hfs_volume.proofs.NodesOf.{entry_of_is}
use Rattle.volume_base.specs.Cutting.{fork_at}
use Rattle.volume_base.specs.Reading.{HasFile}
use Rattle.volume_base.specs.Standing.{IsSettled}
use Rattle.volume_space.specs.Writing.{IsAt, can_put, extents_in, has_more, is_put_now_in}
use Rattle.volume_base.specs.declared.volume.Volume.{Volume}
use Rattle.volume_space.proofs.NextCut.{fork_many}
use Rattle.volume_space.proofs.PutAllowed.{can_is}
use Rattle.volume_space.proofs.PutNumbers.{parts_are}

module _ (k : ℕ) (is : (k ≡ data_kind) ⊎ (k ≡ resource_kind)) (v : Volume) (content : Content) (settled : IsSettled v content) (file : FileRecord) (has : HasFile (records_of (volume_of content)) file) where
  found : entry_of (records_of (volume_of content)) file.fields.id ≡ Some (record has.entry { value = File file })
  found =
      ap (entry_of (records_of (volume_of content))) (sym (ap id_in has.value)) ∙ entry_of_is (records_of (volume_of content)) (volume_of content).head.next_catalog_id settled.sound.entries.ids has.entry has.stands
      ∙ ap (λ (x : CatRecord). Some (record has.entry { value = x })) has.value

  -- the extents that are found by the file's CNID are those of its record
  pub extents_same : file_extents (volume_of content) file.fields.id k ≡ extents_in k content file
  extents_same = ap (λ (o : Option Placed). extents_found (overflow_in_volume (volume_of content)) file.fields.id k (file_fork k o)) found ∙ found_as (k == data_kind)
    where
      found_as : (b : Bool) → extents_found (overflow_in_volume (volume_of content)) file.fields.id k (if b then Some file.data_fork else Some file.resource_fork)
          ≡ extents_of (overflow_in_volume (volume_of content)) file.fields.id k (if b then file.data_fork else file.resource_fork)
      found_as true = refl
      found_as false = refl

  head_is : (volume_of content).head ≡ v.header
  head_is = ap (λ (l : VolumeState). l.head) settled.lists

  module _ (put : Data) (from long : ℕ) (number : put.id ≡ file.fields.id) (at : IsAt put (fork_at k file).logical_size from (from + long)) (some : 0 < v.header.block_size) where
    longer : nat_lt (fork_at k file).logical_size (from + long) ≡ nat_lt put.old_size put.new_size
    longer = ⊎_elim
        (λ (grows : (fork_at k file).logical_size < from + long). lt-ltb (fork_at k file).logical_size (from + long) grows ∙ sym (lt-ltb put.old_size put.new_size (omega (arith, grows, at.size_is, at.new_is))))
        (λ (stays : from + long ≤ (fork_at k file).logical_size). le-ltb (fork_at k file).logical_size (from + long) stays ∙ sym (le-ltb put.old_size put.new_size (omega (arith, stays, at.size_is, at.new_is))))
        (cases_lt (fork_at k file).logical_size (from + long))

    blocks_many : length (file_blocks (volume_of content) put.id k) ≡ (fork_at k file).total_blocks
    blocks_many = ap (λ n. length (file_blocks (volume_of content) n k)) number ∙ fork_many (volume_of content) settled.sound has.entry has.stands file has.value k is

    wanted : blocks_for v.header.block_size (fork_at k file).logical_size ≡ parts_for put.old_size (volume_of content).head.block_size
    wanted = sym (parts_are (fork_at k file).logical_size v.header.block_size some) ∙ (λ i. parts_for (sym at.size_is i) (sym head_is i).block_size)

    pub surplus : has_more (fork_at k file).logical_size (from + long) (blocks_for v.header.block_size (fork_at k file).logical_size) (fork_at k file).total_blocks ≡ needs_cut_in k (volume_of content) (Some put)
    surplus = λ i. longer i && nat_lt (wanted i) (sym blocks_many i)

    pub many : length (extents_in k content file) ≡ length (file_extents (volume_of content) put.id k)
    many = sym (ap (λ n. length (file_extents (volume_of content) n k)) number ∙ ap (λ (l : List Extent). length l) extents_same)

    -- whether the data can be put now, as the weight says it
    pub put_now : (spare : ℕ) → can_put v spare (length (extents_in k content file)) (fork_at k file).total_blocks (fork_at k file).logical_size from long ≡ is_put_now_in k v spare (volume_of content) (Some put)
    put_now spare = can_is v put (fork_at k file).logical_size from long at some k spare (length (extents_in k content file)) (fork_at k file).total_blocks (volume_of content) surplus many
