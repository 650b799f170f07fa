-- The repair of a content: there is one; a sound content has one that counts, and its header stays.
use Rattle.std.proofs.Common.{◌≡◌, ℕ, ◌+◌, ◌≤◌, ◌==◌, List, length, inl, inr, refl, sym, ◌∙◌, ap, arith, not}
use Rattle.std.specs.Prelude.{Contains}
use Rattle.std.specs.List.{flat_map}
use Rattle.std.proofs.lemmas.List.Elements.{Contains-append_cases}
use Rattle.std.proofs.lemmas.List.FromFn.{length-map-range_with_len}
use Rattle.hx_bytes.specs.declared.extents.Extent.{Extent}
use Rattle.volume_header.specs.declared.header.VolumeHeader.{VolumeHeader}
use Rattle.jnl_format.specs.Recovery.{sector, header_of_volume}
use Rattle.alloc_bitmap.specs.Apart.{times}
use Rattle.hfs_volume.specs.Records.{Overflow}
use Rattle.hfs_volume.specs.Forks.{Owned, in_use, overflow_in, extents_of, all_forks, allocation_id, data_kind, is_of}
use Rattle.hfs_volume.specs.Content.{VolumeState, volume_of, overflow_in_volume}
use Rattle.hfs_volume.specs.Blocks.{HasBlocks, HasFiles, HasSizes, LieInside, used_in, forks_of}
use Rattle.hfs_volume.proofs.Members.{all_of, each_of, kept_cases}
use Rattle.hfs_volume.proofs.EntryWants.{flat_cases}
use Rattle.volume_repair.specs.Recount.{with_word, header_recounted}
use Rattle.volume_repair.specs.Repair.{mended, sector_mended, blocks_written}
use Rattle.volume_repair.specs.RepairLaws.{RepairIsOne, RepairKeepsSize, SoundIsMendable, SoundKeepsHeader}
use Rattle.volume_repair.proofs.Counting.{word_stays, header_stays}

pub one_repair : RepairIsOne
one_repair content one other (inl (may, is)) (inl (again, same)) = is ∙ sym same
one_repair content one other (inl (may, is)) (inr (cannot, same)) = absurd (cannot may)
one_repair content one other (inr (cannot, is)) (inl (may, same)) = absurd (cannot may)
one_repair content one other (inr (cannot, is)) (inr (again, same)) = is ∙ sym same

pub same_size : RepairKeepsSize
unfolding mended
same_size content other (inl (may, is)) = ap length is ∙ length-map-range_with_len (sector_mended content) 0 (length content)
same_size content other (inr (cannot, is)) = ap length is

-- the allocation file of a volume
abbrev allocation : VolumeState → Owned
allocation volume = record { id = allocation_id; kind = data_kind; fork = volume.head.allocation_fork }

allocation_stands : (volume : VolumeState) → Contains (forks_of volume) (allocation volume)
unfolding all_forks
allocation_stands volume = (2, omega arith, refl)

-- an extent ends inside a volume
abbrev Inside : VolumeState → Extent → Type 0
Inside volume extent = extent.start + extent.count ≤ volume.head.total_blocks

inside_of : (volume : VolumeState) → HasBlocks volume → LieInside volume.head.total_blocks (extents_of (overflow_in_volume volume) allocation_id data_kind volume.head.allocation_fork)
unfolding extents_of
inside_of volume blocks = all_of (Inside volume) (in_use whole) each
  where
    whole : List Extent
    whole = extents_of (overflow_in_volume volume) allocation_id data_kind volume.head.allocation_fork

    sizes : HasSizes volume.head (overflow_in_volume volume) (allocation volume)
    sizes = each_of (HasSizes volume.head (overflow_in_volume volume)) (forks_of volume) blocks.forks.sizes (allocation volume) (allocation_stands volume)

    later : (extent : Extent) → Contains (flat_map (λ (more : Overflow). in_use more.extents) (overflow_in (overflow_in_volume volume) allocation_id data_kind)) extent → Inside volume extent
    later extent stands =
        let found = flat_cases (λ (more : Overflow). in_use more.extents) (overflow_in (overflow_in_volume volume) allocation_id data_kind) extent stands in
        each_of (Inside volume) (in_use found.0.extents)
        (each_of (λ (more : Overflow). LieInside volume.head.total_blocks more.extents) (overflow_in_volume volume) blocks.forks.more_inside found.0
        (kept_cases (is_of allocation_id data_kind) (overflow_in_volume volume) found.0 found.1).0)
        extent found.2

    each : (extent : Extent) → Contains (in_use whole) extent → Inside volume extent
    each extent stands = elim (Contains-append_cases (in_use volume.head.allocation_fork.extents.extents) _ extent (kept_cases (λ (e : Extent). not (e.count == 0)) whole extent stands).0) [
      | inl own ↦ each_of (Inside volume) (in_use volume.head.allocation_fork.extents.extents) sizes.inside extent own
      | inr more ↦ later extent more
    ]

pub mendable : SoundIsMendable
unfolding volume_of
mendable content sound = record {
  header = sound.volume.blocks.header;
  sizes = record { extents = files.extents; catalog = files.catalog; attributes = files.attributes; bits = files.bits };
  trees = sound.trees;
  spelled = sound.volume.entries.threads.spelled;
  kinds = sound.volume.entries.threads.kinds;
  inside = inside_of (volume_of content) sound.volume.blocks;
  once = all_of (λ (block : ℕ). times block (used_in (volume_of content)) ≤ 1) (blocks_written (volume_of content)) (λ block stands. sound.volume.blocks.forks.once block);
}
  where
    files : HasFiles (volume_of content)
    files = sound.volume.blocks.files

pub keeps_header : SoundKeepsHeader
unfolding volume_of
keeps_header content bytes long sound =
    ap (λ (l : List ℕ). with_word 32 head.file_count (with_word 36 head.folder_count l)) (word_stays (sector content 2) 48 head.free_blocks (bytes 2) (omega (arith, long)) (sym (ap (λ (h : VolumeHeader). h.free_blocks) stays)))
    ∙ ap (λ (l : List ℕ). with_word 32 head.file_count l) (word_stays (sector content 2) 36 head.folder_count (bytes 2) (omega (arith, long)) (sym (ap (λ (h : VolumeHeader). h.folder_count) stays)))
    ∙ word_stays (sector content 2) 32 head.file_count (bytes 2) (omega (arith, long)) (sym (ap (λ (h : VolumeHeader). h.file_count) stays))
  where
    head : VolumeHeader
    head = header_recounted (volume_of content)

    stays : head ≡ header_of_volume content
    stays = header_stays (volume_of content) sound.volume
