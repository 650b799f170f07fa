-- The attributes file as a map from names to values, which stand in their records or in forks.
use Rattle.std.specs.Prelude.{◌≡◌, ◌<◌, ℕ, ◌+◌, ◌*◌, ◌==◌, ◌&&◌, not, List, length, map, All, Option, None, Some, IsTrue}
use Rattle.std.specs.List.{find, flat_map}
use Rattle.hx_bytes.specs.declared.extents.Extent.{Extent}
use Rattle.btree_node.specs.Keys.{IsAttrKey, attr_file, attr_start, attr_units}
use Rattle.btree_node.specs.Levels.{Pair}
use Rattle.cat_records.specs.Attributes.{is_attr, attr_of}
use Rattle.cat_records.specs.declared.attribute.AttrRecord.{AttrRecord}
use Rattle.cat_records.specs.declared.attribute.AttrRecord.TheVariants as attribute
use Rattle.hfs_model.specs.Sorted.{kept}
use Rattle.hfs_volume.specs.Changes.{AddsAttribute, DropsAttribute, is_attribute_of}
use Rattle.hfs_volume.specs.Records.{Attribute, attribute_of}
use Rattle.hfs_volume.specs.Values.{IsValue, is_record_of, used_extents, value_extents}
use Rattle.attributes.specs.declared.value.Deleted.{Deleted}
use Rattle.attributes.specs.declared.value.Deleted.TheVariants as deleted
use Rattle.attributes.specs.declared.value.ValueAt.{ValueAt}
use Rattle.attributes.specs.declared.value.ValueAt.TheVariants as held

-- ---- what the tree holds

-- a record of an attribute with a name of one unit at least
pub record IsSpelledAttribute (pair : Pair) : Type 0 where
  pub spelled : IsTrue (is_attr pair.1)
  pub named : 0 < length (attribute_of pair).name

-- each pair is such a record
abbrev pub AreSpelled : List Pair → Type 0
AreSpelled pairs = All IsSpelledAttribute pairs

-- Each pair is such a record, and each record one of a value: in its record, or in a fork that goes on in its further records.
pub record AreValued (pairs : List Pair) : Type 0 where
  pub each : AreSpelled pairs
  pub values : All (IsValue (map attribute_of pairs)) (map attribute_of pairs)

-- a value, by the first of its records
abbrev pub value_in : List Attribute → ℕ → List ℕ → AttrRecord → Option ValueAt
value_in attributes id name (attribute.Inline value) = Some (held.Inline value)
value_in attributes id name (attribute.Fork fork) = Some (held.Blocks fork.logical_size (value_extents attributes id name))
value_in attributes id name (attribute.More extents) = None

abbrev pub value_of_first : List Attribute → ℕ → List ℕ → Option Attribute → Option ValueAt
value_of_first attributes id name None = None
value_of_first attributes id name (Some first) = value_in attributes id name first.value

-- the value of the attribute of this name of this folder or file
abbrev pub value_at : List Pair → ℕ → List ℕ → Option ValueAt
value_at pairs id name = value_of_first (map attribute_of pairs) id name (find (is_attribute_of id name) (map attribute_of pairs))

-- the extents that the value of an attribute has
abbrev pub extents_at : List Pair → ℕ → List ℕ → List Extent
extents_at pairs id name = value_extents (map attribute_of pairs) id name

-- how many records an attribute has: one, or as many as its fork needs
abbrev pub records_at : List Pair → ℕ → List ℕ → ℕ
records_at pairs id name = length (kept (λ pair. is_attribute_of id name (attribute_of pair)) pairs)

-- ---- keys and values as bytes

-- The key of a record of this name of this folder or file, from this block of its value on. That of the empty name comes before all its attributes.
pub record IsKeyOf (id : ℕ) (name : List ℕ) (start : ℕ) (key : List ℕ) : Type 0 where
  pub is_key : IsAttrKey key
  pub id_is : attr_file key ≡ id
  pub name_is : attr_units key ≡ name
  pub start_is : attr_start key ≡ start
  pub long : length key ≡ 14 + 2 * length name

-- the bytes spell this record
pub record SpellsRecord (value : AttrRecord) (bytes : List ℕ) : Type 0 where
  pub spelled : IsTrue (is_attr bytes)
  pub read : attr_of bytes ≡ value

-- ---- what the calls answer and do

-- The records of the name that were there are gone, and the one with this value is there.
pub record SetsValue (id : ℕ) (name value : List ℕ) (old new : List Pair) : Type 0 where
  pub bared : List Pair
  pub bares : DropsAttribute id name old bared
  pub adds : AddsAttribute id name value bared new

-- NoAttribute exactly where there is none of the name; else the blocks that its value had
abbrev pub AnswersDelete : Option ValueAt → List Extent → Deleted → Type 0
AnswersDelete found extents (deleted.Done blocks) = (found ≡ None → ⊥) × (blocks ≡ extents)
AnswersDelete found extents deleted.NoAttribute = found ≡ None

-- the extents of the records of an attribute behind its first one, in the order of their places in its value
abbrev pub later_extents : List Pair → ℕ → List ℕ → List Extent
later_extents pairs id name = flat_map used_extents (kept (λ record_. is_record_of id name record_ && not (record_.start == 0)) (map attribute_of pairs))
