-- The extents of a fork, of which those behind the eight of its record stand in overflow records.
use Rattle.std.specs.Prelude.{◌≡◌, ℕ, not, List, map}
use Rattle.hx_bytes.specs.declared.extents.Extent.{Extent}
use Rattle.btree_node.specs.Levels.{Pair}
use Rattle.hfs_model.specs.Sorted.{kept}
use Rattle.hfs_volume.specs.Forks.{is_of}
use Rattle.hfs_volume.specs.Records.{overflow_of}
use Rattle.overflow.specs.Records.{records_for, under}

-- The overflow records of a fork are those for these extents, and all others are as they were.
pub record StoresFork (id kind : ℕ) (extents : List Extent) (old new : List Pair) : Type 0 where
  pub records : kept (is_of id kind) (map overflow_of new) ≡ map (under id kind) (records_for extents)
  pub others : kept (λ more. not (is_of id kind more)) (map overflow_of new) ≡ kept (λ more. not (is_of id kind more)) (map overflow_of old)
