-- What the later rules rest on: a catalog of which the earlier ones hold.
use Rattle.std.specs.Prelude.{◌≡◌, List, All}
use Rattle.btree_node.specs.Levels.{Pair}
use Rattle.btree_node.specs.Keys.{IsCatalogKey}
use Rattle.hfs_volume.specs.Changes.{AreSorted}
use Rattle.hfs_volume.specs.Records.{placed_in, entries_of, is_thread, is_empty}
use Rattle.hfs_volume.specs.Entries.{AreSpelled}
use Rattle.hfs_volume.specs.Content.{VolumeState, records_of, overflow_in_volume}
use Rattle.hfs_volume.specs.Blocks.{GoesOn, forks_of}
use Rattle.fsck_core.specs.Rows.{rows_of}
use Rattle.fsck_core.specs.declared.rows.Row.{Row}

-- The pairs of a catalog of which rules 4 to 8 hold: its keys are keys and stand in their order, and each value is of the kind that its key
-- asks for.
pub record IsCatalog (pairs : List Pair) : Type 0 where
  pub keys : All (λ pair. IsCatalogKey pair.0) pairs
  pub order : AreSorted pairs
  pub spelled : AreSpelled pairs
  pub kinds : All (λ placed. is_thread placed.value ≡ is_empty placed.name) (placed_in pairs)

-- What rules 19 and 20 are judged over: the pairs of the catalog and its entries as rows, where rules 4 to 8 and rule 17 hold.
pub record HasRows (volume : VolumeState) (pairs : List Pair) (rows : List Row) : Type 0 where
  pub pairs_are : pairs ≡ volume.catalog_pairs
  pub catalog : IsCatalog pairs
  pub rows_are : rows ≡ rows_of (entries_of (records_of volume))
  pub goes_on : All (GoesOn (overflow_in_volume volume)) (forks_of volume)
