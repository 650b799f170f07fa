-- The entries of a folder.
use Rattle.std.specs.Prelude.{◌==◌, ◌&&◌, Bool, not, ℕ, List, map, Option, None, Some, if◌then◌else◌}
use Rattle.btree_node.specs.Keys.{catalog_parent, catalog_units}
use Rattle.btree_node.specs.Levels.{Pair}
use Rattle.cat_records.specs.Records.{catalog_of}
use Rattle.hfs_model.specs.Sorted.{kept}
use Rattle.hfs_volume.specs.Records.{Placed, placed_of, placed_in, entries_of, is_empty}
use Rattle.catalog.specs.declared.folder.Child.{Child}

-- an entry by its name in its folder
abbrev pub as_child : Placed → Child
as_child placed = record { name = placed.name; rec = placed.value }

-- the entries of a folder, in the order of their names
abbrev pub children_in : ℕ → List Pair → List Child
children_in parent pairs = map as_child (kept (λ placed. placed.parent == parent) (entries_of (placed_in pairs)))

-- the entry that a pair with a name is, where its folder is this one
abbrev pub child_under : ℕ → List ℕ → List ℕ → Option Child
child_under parent key value = if catalog_parent key == parent then Some (record { name = catalog_units key; rec = catalog_of value }) else None

-- the pair is the entry of a name in this folder
abbrev pub is_child : ℕ → Pair → Bool
is_child parent pair = ((placed_of pair).parent == parent) && not (is_empty (placed_of pair).name)
