-- That a repair is the same volume counted anew.
use Rattle.std.specs.Prelude.{◌≡◌, ◌≢◌, ◌<◌, ◌⊎◌, ℕ, true, [], length, map, Contains, slice_index_or}
use Rattle.jnl_format.specs.Recovery.{Content, sector}
use Rattle.btree_node.specs.Levels.{Pair}
use Rattle.hfs_volume.specs.Records.{placed_of, is_folder, is_file}
use Rattle.hfs_volume.specs.Forks.{Owned, extents_of, allocation_id, catalog_id}
use Rattle.hfs_volume.specs.Content.{VolumeState, volume_of, overflow_in_volume, fork_bytes}
use Rattle.hfs_volume.specs.Blocks.{forks_of}
use Rattle.hfs_volume.specs.Findings.{HasBytes}
use Rattle.hfs_volume.specs.Sound.{IsSound}
use Rattle.volume_repair.specs.Laws.{SameButWord}
use Rattle.volume_repair.specs.Recount.{recounted}
use Rattle.volume_repair.specs.Repair.{IsRepair}
use Rattle.volume_repair.specs.RepairLaws.{HasWholeSectors}

-- All that the rules look at in a repair that is sound is what they look at in the content, counted anew: nothing but counted things differs.
abbrev pub RepairCounts : Type 0
RepairCounts = (content other : Content) → HasBytes content → HasWholeSectors content → IsRepair content other → IsSound other → volume_of other ≡ recounted (volume_of content)

-- a value of the catalog is as it was, but for a folder's valence, or for the special word of a file
abbrev pub IsSameButCount : Pair → Pair → Type 0
IsSameButCount old new =
    (SameButWord 4 old.1 new.1 × (is_folder (placed_of old).value ≡ true)) ⊎ ((SameButWord 44 old.1 new.1 × (is_file (placed_of old).value ≡ true)) ⊎ (new.1 ≡ old.1))

-- The three trees hold the same keys in the same order, with the same values but for valences and special words.
pub record KeepsTrees (old new : VolumeState) : Type 0 where
  pub overflow : new.overflow_pairs ≡ old.overflow_pairs
  pub attributes : new.attribute_pairs ≡ old.attribute_pairs
  pub keys : map (λ pair. pair.0) new.catalog_pairs ≡ map (λ pair. pair.0) old.catalog_pairs
  pub values : (k : ℕ) → k < length old.catalog_pairs → IsSameButCount (slice_index_or old.catalog_pairs k ([], [])) (slice_index_or new.catalog_pairs k ([], []))

-- So a repair that is sound keeps the trees.
abbrev pub RepairKeepsTrees : Type 0
RepairKeepsTrees = (content other : Content) → HasBytes content → HasWholeSectors content → IsRepair content other → IsSound other → KeepsTrees (volume_of content) (volume_of other)

-- The bytes of each fork stay, sound or not, but for the allocation file's and the catalog file's.
abbrev pub RepairKeepsForks : Type 0
RepairKeepsForks =
    (content other : Content) → length (sector content 2) ≡ 512 → IsRepair content other → (owned : Owned) → Contains (forks_of (volume_of content)) owned → owned.id ≢ allocation_id → owned.id ≢ catalog_id
    → let extents = extents_of (overflow_in_volume (volume_of content)) owned.id owned.kind owned.fork in fork_bytes other extents ≡ fork_bytes content extents
