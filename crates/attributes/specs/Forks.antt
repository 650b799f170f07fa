-- The records of a value: one that holds it; or of a fork, where the first has eight of its extents, and further ones those behind them, eight to a record.
use Rattle.std.specs.Prelude.{◌≡◌, ◌≤◌, ◌+◌, ℕ, suc, not, List, [], ◌∷◌, length, map}
use Rattle.hx_bytes.specs.declared.extents.Extent.{Extent}
use Rattle.hx_bytes.specs.declared.extents.ForkRecord.{ForkRecord}
use Rattle.fork_map.specs.Blocks.{blocks_of}
use Rattle.cat_records.specs.declared.attribute.AttrRecord.{AttrRecord}
use Rattle.cat_records.specs.declared.attribute.AttrRecord.TheVariants as attribute
use Rattle.btree_node.specs.Keys.{IsAttrKey}
use Rattle.btree_node.specs.Levels.{Pair}
use Rattle.hfs_model.specs.Sorted.{kept}
use Rattle.overflow.specs.Records.{eight_at, records_for}
use Rattle.overflow.specs.declared.record.OverflowRecord.{OverflowRecord}
use Rattle.attributes.specs.Dropping.{is_named}
use Rattle.attributes.specs.Values.{AreSpelled, IsKeyOf, SpellsRecord}
use Rattle.attributes.specs.declared.pair.AttributePair.{AttributePair}

-- the fork of a value of so many bytes in these extents, of which its record has the first eight
abbrev pub fork_of : ℕ → List Extent → ForkRecord
fork_of size extents = record { logical_size = size; clump_size = 0; total_blocks = length (blocks_of extents); extents = eight_at extents 0 }

-- a record of a value, and the block of the value that it begins with
pub record Part : Type 0 where
  pub start : ℕ
  pub value : AttrRecord

-- the record of a value that stands in it
abbrev pub inline_part : List ℕ → Part
inline_part value = record { start = 0; value = attribute.Inline value }

-- the first record of a value in a fork
abbrev pub first_part : ℕ → List Extent → Part
first_part size extents = record { start = 0; value = attribute.Fork (fork_of size extents) }

-- a further record of a value in a fork
abbrev pub further_part : OverflowRecord → Part
further_part more = record { start = more.start; value = attribute.More more.extents }

-- the records of a value of so many bytes in a fork of these extents, in the order of their keys
abbrev pub parts_of : ℕ → List Extent → List Part
parts_of size extents = first_part size extents ∷ map further_part (records_for extents)

-- a pair has the key of this name of this folder or file, and spells this record
pub record SpellsPart (id : ℕ) (name : List ℕ) (part : Part) (pair : AttributePair) : Type 0 where
  pub key : IsKeyOf id name part.start pair.key
  pub value : SpellsRecord part.value pair.value
  pub short : length pair.value ≤ 1716

-- the pairs spell these records, one each
abbrev pub SpellParts : ℕ → List ℕ → List Part → List AttributePair → Type 0
SpellParts id name [] [] = Unit {0}
SpellParts id name [] (pair ∷ pairs) = ⊥
SpellParts id name (part ∷ parts) [] = ⊥
SpellParts id name (part ∷ parts) (pair ∷ pairs) = SpellsPart id name part pair × SpellParts id name parts pairs

-- the records begin with later and later blocks, from one on
abbrev pub RisesFrom : ℕ → List Part → Type 0
RisesFrom bound [] = Unit {0}
RisesFrom bound (part ∷ parts) = (bound ≤ part.start) × RisesFrom (suc part.start) parts

-- a pair that a leaf of the least size has room for twice
pub record IsShortPair (pair : AttributePair) : Type 0 where
  pub key : IsAttrKey pair.key
  pub short : length pair.key + length pair.value ≤ 2038

-- a pair as the tree has it
abbrev pub as_pair : AttributePair → Pair
as_pair pair = (pair.key, pair.value)

-- the records of the name are these, and all others are as they were
pub record PutsParts (id : ℕ) (name : List ℕ) (pairs : List AttributePair) (old new : List Pair) : Type 0 where
  pub of : kept (is_named id name) new ≡ map as_pair pairs
  pub others : kept (λ pair. not (is_named id name pair)) new ≡ kept (λ pair. not (is_named id name pair)) old
  pub spelled : AreSpelled new
