-- Values of attributes: each stands in its record, or in a fork of its own, whose further extents stand in further records.
use Rattle.std.specs.Prelude.{◌≡◌, ℕ, ◌+◌, ◌==◌, ◌&&◌, Bool, true, false, List, [], ◌∷◌, length, Contains}
use Rattle.std.specs.Str.{bytes_eq}
use Rattle.std.specs.List.{flat_map}
use Rattle.hx_bytes.specs.declared.extents.Extent.{Extent}
use Rattle.fork_map.specs.Blocks.{blocks_of}
use Rattle.cat_records.specs.declared.attribute.AttrRecord.{AttrRecord}
use Rattle.cat_records.specs.declared.attribute.AttrRecord.TheVariants as attribute
use Rattle.hfs_model.specs.Sorted.{kept}
use Rattle.hfs_volume.specs.Records.{Attribute}
use Rattle.hfs_volume.specs.Forks.{in_use, is_full, has_extents}

-- the most bytes of a value that is written into its record
abbrev pub longest_inline : ℕ
longest_inline = 1700

-- the extents that a record has: those of a value's fork, or more of them
abbrev pub extents_in : AttrRecord → List Extent
extents_in (attribute.Inline value) = []
extents_in (attribute.Fork fork) = fork.extents.extents
extents_in (attribute.More extents) = extents.extents

-- the record says that its value has a fork
abbrev pub has_fork : AttrRecord → Bool
has_fork (attribute.Inline value) = false
has_fork (attribute.Fork fork) = true
has_fork (attribute.More extents) = false

-- the record has further extents of a value
abbrev pub is_more : AttrRecord → Bool
is_more (attribute.Inline value) = false
is_more (attribute.Fork fork) = false
is_more (attribute.More extents) = true

-- a record is one of the attribute of this name of this folder or file
abbrev pub is_record_of : ℕ → List ℕ → Attribute → Bool
is_record_of id name record_ = (record_.id == id) && bytes_eq record_.name name

-- the extents in use of a record
abbrev pub used_extents : Attribute → List Extent
used_extents record_ = in_use (extents_in record_.value)

-- the extents in use of an attribute's value, from its start on; none where it stands in its record
abbrev pub value_extents : List Attribute → ℕ → List ℕ → List Extent
value_extents attributes id name = flat_map used_extents (kept (is_record_of id name) attributes)

-- the blocks of an attribute's value, from its start on
abbrev pub value_blocks : List Attribute → ℕ → List ℕ → List ℕ
value_blocks attributes id name = blocks_of (value_extents attributes id name)

-- the blocks of all values
unfoldable pub blocks_of_values : List Attribute → List ℕ
blocks_of_values attributes = flat_map (λ record_. blocks_of (used_extents record_)) attributes

-- ---- which records are values

-- the further records of a value, in the order of their places in it
abbrev pub further_of : List Attribute → ℕ → List ℕ → List Attribute
further_of attributes id name = kept (λ record_. is_record_of id name record_ && is_more record_.value) attributes

-- each record goes on where the one before it ends, and that one is full; and each has an extent in use
abbrev pub GoOnIn : ℕ → Bool → List Attribute → Type 0
GoOnIn place full [] = Unit {0}
GoOnIn place full (more ∷ rest) =
    (more.start ≡ place) × (full ≡ true) × GoOnIn (place + length (blocks_of (extents_in more.value))) (is_full (extents_in more.value)) rest × (has_extents (extents_in more.value) ≡ true)

-- A value begins at 0; that in a fork goes on in its further records, and a further record is one of a value in a fork.
abbrev pub IsValueIn : List Attribute → Attribute → AttrRecord → Type 0
IsValueIn attributes record_ (attribute.Inline value) = record_.start ≡ 0
IsValueIn attributes record_ (attribute.Fork fork) =
    (record_.start ≡ 0) × GoOnIn (length (blocks_of fork.extents.extents)) (is_full fork.extents.extents) (further_of attributes record_.id record_.name)
IsValueIn attributes record_ (attribute.More extents) = (first : Attribute) × Contains attributes first × (is_record_of record_.id record_.name first ≡ true) × (has_fork first.value ≡ true)

-- A record is one of a value as it should stand: in the record itself, in a fork from the value's start on, or in a further record of one.
abbrev pub IsValue : List Attribute → Attribute → Type 0
IsValue attributes record_ = IsValueIn attributes record_ record_.value
