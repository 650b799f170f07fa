-- What a repair may write has no other use: no block of the allocation file, of the catalog file or kept back is in another fork.
use Rattle.std.proofs.Common.{◌≡◌, ◌≢◌, ◌<◌, ◌≤◌, ℕ, ◌+◌, ◌-◌, ◌*◌, ◌/◌, nat_le, List, ◌++◌, refl, ◌∙◌, ap, arith}
use Rattle.std.specs.Prelude.{Contains, All, None}
use Rattle.std.specs.List.{flat_map, range_with_len}
use Rattle.std.proofs.lemmas.Bool.{and_parts, leb-true}
use Rattle.std.proofs.lemmas.List.Elements.{Contains-append_left, Contains-append_right}
use Rattle.fork_map.specs.Blocks.{blocks_of}
use Rattle.alloc_bitmap.specs.Apart.{times}
use Rattle.alloc_bitmap.proofs.ApartLaws.{times-append}
use Rattle.volume_header.specs.Refusal.{header_refusal, is_volume_size}
use Rattle.volume_header.specs.declared.header.VolumeHeader.{VolumeHeader}
use Rattle.volume_header.specs.declared.refusal.HeaderRefusal.TheVariants.{LimitSectors}
use Rattle.hfs_volume.specs.Forks.{Owned, per_block_of, parts_for, data_kind, blocks_owned, fork_blocks, special_forks, reserved_blocks, bad_extents, catalog_id, allocation_id}
use Rattle.hfs_volume.specs.Content.{VolumeState, overflow_in_volume, attributes_of}
use Rattle.hfs_volume.specs.Values.{blocks_of_values}
use Rattle.hfs_volume.specs.Blocks.{forks_of, used_in}
use Rattle.hfs_volume.proofs.Members.{each_of}
use Rattle.hfs_volume.proofs.BlockWants.{in_range}
use Rattle.hfs_volume.proofs.Sectors.{from_first, in_front}
use Rattle.hfs_volume.proofs.Apart.{used_is, stands_once, stands_twice}
use Rattle.hfs_volume.proofs.Reaching.{flat_stands}
use Rattle.hfs_volume.proofs.Untouched.{HasWholeBlocks, whole_blocks, special_stands}
use Rattle.volume_repair.specs.Repair.{blocks_written}
use Rattle.volume_repair.proofs.Distinct.{piece_times}
use Rattle.volume_repair.proofs.Inside.{passed}

-- an accepted header stands on a volume of some sectors
pub many_sectors : (head : VolumeHeader) (sectors : ℕ) → header_refusal head sectors ≡ None → 2048 ≤ sectors
many_sectors head sectors accepted = leb-true 2048 sectors (and_parts (nat_le 2048 sectors) (nat_le sectors 2147483648) (passed (is_volume_size sectors) (LimitSectors sectors) _ accepted).0).0

module _ (volume : VolumeState) (once : All (λ block. times block (used_in volume) ≤ 1) (blocks_written volume)) where
  abbrev reserved : List ℕ
  reserved = reserved_blocks volume.sectors volume.head

  abbrev in_forks : List ℕ
  in_forks = flat_map (blocks_owned (overflow_in_volume volume)) (forks_of volume)

  abbrev bad : List ℕ
  bad = blocks_of (bad_extents (overflow_in_volume volume))

  abbrev maps : List ℕ
  maps = fork_blocks (overflow_in_volume volume) allocation_id data_kind volume.head.allocation_fork

  abbrev leaves : List ℕ
  leaves = fork_blocks (overflow_in_volume volume) catalog_id data_kind volume.head.catalog_fork

  abbrev in_values : List ℕ
  in_values = blocks_of_values (attributes_of volume)

  counted : (block : ℕ) → times block (used_in volume) ≡ times block reserved + times block in_forks + times block bad + times block in_values
  counted block = ap (times block) (used_is volume) ∙ times-append block (reserved ++ in_forks ++ bad) in_values
      ∙ ap (λ n. n + times block in_values) (times-append block (reserved ++ in_forks) bad ∙ ap (λ n. n + times block bad) (times-append block reserved in_forks))

  lone : (block : ℕ) → Contains (blocks_written volume) block → times block (used_in volume) ≤ 1
  lone block stands = each_of (λ (b : ℕ). times b (used_in volume) ≤ 1) (blocks_written volume) once block stands

  map_written : (block : ℕ) → Contains maps block → Contains (blocks_written volume) block
  map_written block stands = Contains-append_left (maps ++ leaves) reserved block (Contains-append_left maps leaves block stands)

  catalog_written : (block : ℕ) → Contains leaves block → Contains (blocks_written volume) block
  catalog_written block stands = Contains-append_left (maps ++ leaves) reserved block (Contains-append_right maps leaves block stands)

  reserved_written : (block : ℕ) → Contains reserved block → Contains (blocks_written volume) block
  reserved_written block stands = Contains-append_right (maps ++ leaves) reserved block stands

  -- no block that is kept back is in a fork
  pub kept_apart : (owned : Owned) (block : ℕ) → Contains (forks_of volume) owned → Contains (blocks_owned (overflow_in_volume volume) owned) block → Contains reserved block → ⊥
  kept_apart owned block stands has kept =
      omega (arith, lone block (reserved_written block kept), counted block, stands_once block reserved kept, stands_once block in_forks (flat_stands (blocks_owned (overflow_in_volume volume)) (forks_of volume) owned block stands has))

  forks_apart : (one other : Owned) (block : ℕ) → Contains (forks_of volume) one → Contains (forks_of volume) other → one ≢ other → Contains (blocks_owned (overflow_in_volume volume) one) block → Contains (blocks_owned (overflow_in_volume volume) other) block
      → Contains (blocks_written volume) block → ⊥
  forks_apart one other block at_one at_other differ in_one in_other written =
      omega (arith, lone block written, counted block, stands_twice (blocks_owned (overflow_in_volume volume)) (forks_of volume) one other block at_one at_other differ in_one in_other)

  abbrev map_fork : Owned
  map_fork = record { id = allocation_id; kind = data_kind; fork = volume.head.allocation_fork }

  abbrev catalog_fork : Owned
  catalog_fork = record { id = catalog_id; kind = data_kind; fork = volume.head.catalog_fork }

  differs : (one other : Owned) → one.id ≢ other.id → one ≢ other
  differs one other differ same = differ (ap (λ (o : Owned). o.id) same)

  -- each block of the two files stands once
  fork_once : (owned : Owned) (block : ℕ) → Contains (special_forks volume.head) owned → Contains (blocks_written volume) block → times block (blocks_owned (overflow_in_volume volume) owned) ≤ 1
  fork_once owned block stands written =
      omega (arith, lone block written, counted block, piece_times (blocks_owned (overflow_in_volume volume)) (forks_of volume) owned block (special_stands volume owned stands))

  pub map_once : (block : ℕ) → Contains maps block → times block maps ≤ 1
  map_once block stands = fork_once map_fork block (2, omega arith, refl) (map_written block stands)

  pub catalog_once : (block : ℕ) → Contains leaves block → times block leaves ≤ 1
  catalog_once block stands = fork_once catalog_fork block (1, omega arith, refl) (catalog_written block stands)

  -- a block of the allocation file is in no other file
  pub map_apart : (owned : Owned) (block : ℕ) → Contains (forks_of volume) owned → owned.id ≢ allocation_id → Contains (blocks_owned (overflow_in_volume volume) owned) block → Contains maps block → ⊥
  map_apart owned block stands differ has in_map =
      forks_apart owned map_fork block stands (special_stands volume map_fork (2, omega arith, refl)) (differs owned map_fork differ) has in_map (map_written block in_map)

  -- nor is a block of the catalog
  pub catalog_apart : (owned : Owned) (block : ℕ) → Contains (forks_of volume) owned → owned.id ≢ catalog_id → Contains (blocks_owned (overflow_in_volume volume) owned) block → Contains leaves block → ⊥
  catalog_apart owned block stands differ has in_catalog =
      forks_apart owned catalog_fork block stands (special_stands volume catalog_fork (1, omega arith, refl)) (differs owned catalog_fork differ) has in_catalog (catalog_written block in_catalog)

-- ---- sectors

module _ (sectors : ℕ) (head : VolumeHeader) (accepted : header_refusal head sectors ≡ None) where
  abbrev per : ℕ
  per = per_block_of head

  pub whole : HasWholeBlocks sectors head
  whole = whole_blocks sectors head accepted

  abbrev front : List ℕ
  front = range_with_len 0 (parts_for 1536 head.block_size)

  abbrev back : List ℕ
  back = range_with_len ((sectors * 512 - 1024) / head.block_size) (head.total_blocks - (sectors * 512 - 1024) / head.block_size)

  -- the header's block is kept back
  pub header_kept : Contains (reserved_blocks sectors head) (2 / per)
  header_kept =
      Contains-append_left front back (2 / per) (in_range 0 (parts_for 1536 head.block_size) (2 / per) (omega arith) (omega (arith, in_front head.block_size per whole.whole whole.some 1536 2 (omega arith))))

  -- and so is the alternate header's, where it has one
  pub alternate_kept : (sectors - 2) / per < head.total_blocks → Contains (reserved_blocks sectors head) ((sectors - 2) / per)
  alternate_kept inside =
      let from : (sectors * 512 - 1024) / head.block_size ≤ (sectors - 2) / per = from_first head.block_size per whole.whole whole.some (sectors * 512 - 1024) (sectors - 2) (omega arith) in
      Contains-append_right front back ((sectors - 2) / per)
      (in_range ((sectors * 512 - 1024) / head.block_size) (head.total_blocks - (sectors * 512 - 1024) / head.block_size) ((sectors - 2) / per) from (omega (arith, from, inside)))
