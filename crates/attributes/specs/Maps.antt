-- The attributes file as a map from a folder or file and a name to a value, in its record or in a fork.
use Rattle.std.specs.Prelude.{◌≡◌, ℕ, List, None, Some}
use Rattle.btree_node.specs.Levels.{Pair}
use Rattle.attributes.specs.declared.value.ValueAt.{ValueAt}
use Rattle.attributes.specs.Values.{value_at}

-- The name has this value, and each other name what it had.
pub record InsertsValue (id : ℕ) (name : List ℕ) (value : ValueAt) (old new : List Pair) : Type 0 where
  pub there : value_at new id name ≡ Some value
  pub others : (other : ℕ) (other_name : List ℕ) → (other ≡ id → other_name ≡ name → ⊥) → value_at new other other_name ≡ value_at old other other_name

-- The name has no value, and each other name what it had.
pub record DeletesValue (id : ℕ) (name : List ℕ) (old new : List Pair) : Type 0 where
  pub gone : value_at new id name ≡ None
  pub others : (other : ℕ) (other_name : List ℕ) → (other ≡ id → other_name ≡ name → ⊥) → value_at new other other_name ≡ value_at old other other_name
