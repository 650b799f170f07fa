-- The kinds of the catalog's records, record by record.
use Rattle.std.specs.Prelude.{◌≡◌, Option, Some, None, IsTrue, List, [], ◌∷◌, if◌then◌else◌}
use Rattle.btree_node.specs.Levels.{Pair}
use Rattle.cat_records.specs.Records.{is_catalog}
use Rattle.hfs_volume.specs.Records.{Placed, placed_of, is_thread, is_empty}
use Rattle.fsck_core.specs.Rows.{row_of}
use Rattle.fsck_core.specs.declared.rows.Row.{Row}

-- a value spells a record, whose kind fits the name in its key: one without a name is a thread
pub record IsOfKind (pair : Pair) : Type 0 where
  pub spelled : IsTrue (is_catalog pair.1)
  pub kind : is_thread (placed_of pair).value ≡ is_empty (placed_of pair).name

-- the row of a record that has a name
abbrev pub row_in : Placed → Option Row
row_in placed = if is_empty placed.name then None else Some (row_of placed)

-- the row, if there is one
abbrev pub some_of : Option Row → List Row
some_of None = []
some_of (Some row) = row ∷ []
