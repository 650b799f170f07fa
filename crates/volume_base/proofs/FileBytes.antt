-- The bytes of a file of a sound volume are those of its fork, as the space reads them.
use Rattle.std.proofs.Common.{◌≡◌, ◌⊎◌, inl, inr, ℕ, ◌<◌, ◌≤◌, ◌*◌, ◌/◌, Bool, true, false, List, ◌∷◌, [], length, take, drop, refl, sym, ◌∙◌, ap, subst, arith}
use Rattle.std.specs.Prelude.{Contains, All, nat_lt, replicate, if◌then◌else◌}
use Rattle.std.specs.List.{flat_map, list_all}
use Rattle.std.proofs.lemmas.Bool.{lt-ltb}
use Rattle.std.proofs.lemmas.List.{length-take}
use Rattle.hx_bytes.specs.declared.extents.Extent.{Extent}
use Rattle.sector_disk.specs.Lists.{Content, sector}
use Rattle.jnl_format.specs.Recovery.{header_of_volume}
use Rattle.fork_map.specs.Blocks.{blocks_of, sectors_of, fork_sectors}
use Rattle.file_io.specs.Bytes.{padded, sector_bytes, bytes_in, fork_bytes as bytes_read, IsBlockSize}
use Rattle.file_io.proofs.ByteLaws.{length-bytes_in, bytes_enough}
use Rattle.cat_records.specs.declared.record.FileRecord.{FileRecord}
use Rattle.cat_records.specs.declared.record.CatRecord.TheVariants.{File}
use Rattle.hfs_volume.specs.Blocks.{GoesOn, HasSizes, forks_of}
use Rattle.hfs_volume.specs.Content.{volume_of, records_of, overflow_in_volume, block_limit, block_sector, block_bytes}
use Rattle.hfs_volume.specs.Forks.{Owned, per_block_of, data_kind, resource_kind, extents_of}
use Rattle.hfs_volume.specs.Records.{Placed, entries_of}
use Rattle.hfs_volume.specs.Sound.{IsSoundVolume}
use Rattle.hfs_volume.specs.TreeOf.{bytes_in_fork}
use Rattle.hfs_volume.proofs.Flat.{flat_agree}
use Rattle.hfs_volume.proofs.Members.{each_of}
use Rattle.hfs_volume.proofs.Untouched.{file_fork_stands, resource_fork_stands}
use Rattle.volume_base.specs.Cutting.{fork_at}
use Rattle.volume_base.specs.Opening.{ends_inside}
use Rattle.volume_base.proofs.SoundForks.{HasGeometry, geometry, extent_inside, all_end_inside, sectors_inside}

-- the bytes of sectors that lie in blocks
pub same_bytes : (content : Content) (limit : ℕ) (xs : List ℕ) → ((at : ℕ) → Contains xs at → at < limit) → block_bytes content limit xs ≡ bytes_in content xs
unfolding block_bytes block_sector sector_bytes
same_bytes content limit xs inside =
    flat_agree (block_sector content limit) (sector_bytes content) xs (λ at has. ap (λ b. if b then take 512 (padded 512 (sector content at)) else replicate 512 0) (lt-ltb at limit (inside at has)))

module _ (content : Content) (sound : IsSoundVolume (volume_of content)) where
  abbrev per : ℕ
  per = per_block_of (header_of_volume content)

  pub geometry_is : HasGeometry (length content) (header_of_volume content)
  unfolding volume_of
  geometry_is = geometry (length content) (header_of_volume content) sound.blocks.header.accepted

  pub total_is : (volume_of content).head.total_blocks ≡ (header_of_volume content).total_blocks
  unfolding volume_of
  total_is = refl

  pub size_is : (volume_of content).head.block_size ≡ (header_of_volume content).block_size
  unfolding volume_of
  size_is = refl

  module _ (kind : ℕ) (is_kind : (kind ≡ data_kind) ⊎ (kind ≡ resource_kind)) (file : FileRecord) (p : Placed) (stands : Contains (entries_of (records_of (volume_of content))) p) (value : p.value ≡ File file) where
    abbrev owned : Owned
    owned = record { id = file.fields.id; kind = kind; fork = fork_at kind file }

    abbrev extents : List Extent
    extents = extents_of (overflow_in_volume (volume_of content)) file.fields.id kind (fork_at kind file)

    fork_stands : Contains (forks_of (volume_of content)) owned
    fork_stands = elim is_kind [
      | inl data_one ↦ subst (λ k. Contains (forks_of (volume_of content)) (record { id = file.fields.id; kind = k; fork = fork_at k file })) (sym data_one) (file_fork_stands (volume_of content) p file stands value)
      | inr resource ↦ subst (λ k. Contains (forks_of (volume_of content)) (record { id = file.fields.id; kind = k; fork = fork_at k file })) (sym resource) (resource_fork_stands (volume_of content) p file stands value)
    ]

    -- its blocks are as many as its record says
    pub sizes : HasSizes (volume_of content).head (overflow_in_volume (volume_of content)) owned
    sizes = each_of (HasSizes (volume_of content).head (overflow_in_volume (volume_of content))) (forks_of (volume_of content)) sound.blocks.forks.sizes owned fork_stands

    -- its overflow records go on behind its record
    pub file_goes_on : GoesOn (overflow_in_volume (volume_of content)) owned
    file_goes_on = each_of (GoesOn (overflow_in_volume (volume_of content))) (forks_of (volume_of content)) sound.blocks.forks.goes_on owned fork_stands

    -- its extents end in the blocks of the volume
    ends : list_all (ends_inside per (block_limit content)) extents ≡ true
    ends = all_end_inside per (block_limit content) (header_of_volume content).total_blocks extents (omega arith) (λ extent has. omega (arith, total_is, extent_inside (volume_of content) owned sound.blocks.forks fork_stands extent has))

    -- and so in the content
    pub ends_there : list_all (ends_inside per (length content)) extents ≡ true
    ends_there = all_end_inside per (length content) (header_of_volume content).total_blocks extents geometry_is.inside (λ extent has. omega (arith, total_is, extent_inside (volume_of content) owned sound.blocks.forks fork_stands extent has))

    -- its blocks hold its bytes
    pub holds_size : (fork_at kind file).logical_size ≤ length (blocks_of extents) * (header_of_volume content).block_size
    holds_size = subst (λ n. (fork_at kind file).logical_size ≤ n) (λ i. sym sizes.blocks i * size_is i) sizes.bytes

    pub bytes_are : bytes_in_fork content file.fields.id kind (fork_at kind file) ≡ take (fork_at kind file).logical_size (bytes_read content (header_of_volume content).block_size extents)
    unfolding bytes_in_fork
    bytes_are = ap (take (fork_at kind file).logical_size) (same_bytes content (block_limit content) (sectors_of per (blocks_of extents)) (sectors_inside per (block_limit content) extents geometry_is.some ends))

    pub bytes_long : length (bytes_in_fork content file.fields.id kind (fork_at kind file)) ≡ (fork_at kind file).logical_size
    bytes_long =
        let block = (header_of_volume content).block_size in
        let enough = bytes_enough per block (fork_at kind file).logical_size (blocks_of extents) refl (omega (arith, geometry_is.whole)) holds_size in
        ap (λ (l : List ℕ). length l) bytes_are
        ∙ omega (arith, enough, length-take (fork_at kind file).logical_size (bytes_read content block extents), length-bytes_in content (sectors_of per (blocks_of extents)))
