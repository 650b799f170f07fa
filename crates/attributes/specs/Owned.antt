-- The attributes of one folder or file, each of one record or more.
use Rattle.std.specs.Prelude.{ℕ, ◌==◌, ◌&&◌, Bool, not, List, map, count_by, Option, None, Some}
use Rattle.std.specs.List.{flat_map}
use Rattle.hx_bytes.specs.declared.extents.Extent.{Extent}
use Rattle.btree_node.specs.Keys.{IsAttrKey}
use Rattle.btree_node.specs.Levels.{Pair}
use Rattle.hfs_model.specs.Sorted.{kept}
use Rattle.hfs_volume.specs.Records.{Attribute, attribute_of}
use Rattle.hfs_volume.specs.Values.{is_more, used_extents}

-- the attribute belongs to this folder or file
abbrev pub is_of : ℕ → Pair → Bool
is_of id pair = (attribute_of pair).id == id

-- how many records the attributes of a folder or file have
abbrev pub count_of : ℕ → List Pair → ℕ
count_of id pairs = count_by (is_of id) pairs

-- a record of this folder or file that isn't a further one: each attribute has one
abbrev pub is_own : ℕ → Attribute → Bool
is_own id attribute = (attribute.id == id) && not (is_more attribute.value)

-- how many attributes a folder or file has
abbrev pub attributes_at : List Pair → ℕ → ℕ
attributes_at pairs id = count_by (λ pair. is_own id (attribute_of pair)) pairs

-- the names of the attributes of a folder or file, in their order
abbrev pub names_of : ℕ → List Pair → List (List ℕ)
names_of id pairs = map (λ (attribute : Attribute). attribute.name) (kept (is_own id) (map attribute_of pairs))

-- the extents that the values of a folder or file have, in the order of their records
abbrev pub extents_owned : List Pair → ℕ → List Extent
extents_owned pairs id = flat_map used_extents (kept (λ (attribute : Attribute). attribute.id == id) (map attribute_of pairs))

-- where there is a key, it is one of the attributes tree
abbrev pub IsKeyIfAny : Option (List ℕ) → Type 0
IsKeyIfAny None = Unit {0}
IsKeyIfAny (Some key) = IsAttrKey key
