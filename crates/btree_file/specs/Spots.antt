-- The place of a node's bit in a map.
use Rattle.std.specs.Prelude.{◌≡◌, ◌<◌, ℕ, ◌+◌, ◌*◌, List, Some, take, slice_get}
use Rattle.btree_file.specs.Map.{bits_of}
use Rattle.btree_file.specs.declared.marking.Spot.{Spot}
use Rattle.btree_file.specs.declared.tree.Stretch.{Stretch}

-- the place of the bit of one of so many nodes
pub record IsSpot (map : List Stretch) (total : ℕ) (spot : Spot) : Type 0 where
  pub stretch : slice_get map spot.place ≡ Some spot.stretch
  pub bit : spot.bit < 8 * spot.stretch.len
  pub node : spot.node ≡ bits_of (take spot.place map) + spot.bit
  pub inside : spot.node < total
