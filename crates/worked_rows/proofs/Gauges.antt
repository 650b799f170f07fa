-- What `df` tells of volumes, computed.
use Rattle.std.specs.Prelude.{◌≡◌, refl, ℕ, [], ◌∷◌}
use Rattle.hx_bytes.specs.Field.{number_at, number_bytes}
use Rattle.hx_bytes.specs.Fork.{extents_at, extents_bytes}
use Rattle.hfs_language.specs.declared.reply.Gauge.{Gauge}
use Rattle.hfs_volume.specs.Records.{overflow_of}
use Rattle.hfs_volume.specs.Forks.{extents_of}
use Rattle.hfs_volume.specs.Content.{VolumeState}
use Rattle.hfs_volume.specs.Weight.{gauge, free_blocks, room_with}
use Rattle.hfs_volume.proofs.WorkedVolumes.{fresh_head, facts, fresh_volume}
use Rattle.worked_rows.proofs.Grown.{grown, cut}

-- of 2,048 blocks of 4,096 bytes so many are free, in one run; the catalog has a leaf, and the extents tree so many levels and free nodes
abbrev told : ℕ → ℕ → ℕ → Gauge
told free depth unused = record {
  block = 4096;
  total = 2048;
  free = free;
  longest = free;
  capacity = 1982;
  trees = record { depth = depth; nodes = 16; unused = unused } ∷ record { depth = 1; nodes = 64; unused = 62 } ∷ record { depth = 0; nodes = 16; unused = 15 } ∷ [];
}

-- nine blocks of each of two files, and a leaf for two overflow records
grown_gauge : gauge 1982 grown ≡ told 1674 1 14
unfolding number_at number_bytes extents_at extents_bytes overflow_of extents_of free_blocks room_with
grown_gauge = refl

-- eight blocks of each, and no overflow record
cut_gauge : gauge 1982 cut ≡ told 1676 0 15
unfolding number_at extents_at overflow_of extents_of free_blocks room_with
cut_gauge = refl

-- what is left of names that came and went: the private folder and an empty file take no block
abbrev emptied : VolumeState
emptied = record fresh_volume { head = record fresh_head { file_count = 3; folder_count = 1; next_catalog_id = 24 }; catalog_tree = facts 1 1 10 64 62 }

emptied_gauge : gauge 1982 emptied ≡ told 1692 0 15
unfolding number_at extents_at overflow_of extents_of free_blocks room_with
emptied_gauge = refl
