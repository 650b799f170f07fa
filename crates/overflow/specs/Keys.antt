-- The keys of overflow records.
use Rattle.std.specs.Prelude.{◌≡◌, ℕ, List}
use Rattle.btree_node.specs.Keys.{IsExtentKey, extent_file, extent_fork, extent_start}

-- the key of the record of a fork that begins at a place
pub record IsKeyOf (id kind start : ℕ) (key : List ℕ) : Type 0 where
  pub is_key : IsExtentKey key
  pub file : extent_file key ≡ id
  pub fork : extent_fork key ≡ kind
  pub begins : extent_start key ≡ start
