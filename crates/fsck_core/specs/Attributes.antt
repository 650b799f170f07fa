-- The attributes of a volume and the files of its journal, as they are judged one after the other.
use Rattle.std.specs.Prelude.{◌≡◌, ◌<◌, ◌==◌, ◌&&◌, ◌+◌, ◌⊎◌, ◌↔◌, nat_lt, not, ℕ, Bool, true, false, List, [], ◌∷◌, length, All, Contains, IsTrue, count_by, map, drop, Option, Some, None, if◌then◌else◌}
use Rattle.std.specs.List.{flat_map}
use Rattle.std.specs.List.Sorted.{IsNonDecreasing}
use Rattle.std.specs.Str.{bytes_eq}
use Rattle.alloc_bitmap.specs.Apart.{times}
use Rattle.hx_bytes.specs.declared.extents.Extent.{Extent}
use Rattle.volume_header.specs.declared.header.VolumeHeader.{VolumeHeader}
use Rattle.jnl_format.specs.declared.structures.Info.{Info}
use Rattle.btree_node.specs.Levels.{Pair}
use Rattle.btree_node.specs.Keys.{IsAttrKey, attr_file, attr_units}
use Rattle.fork_map.specs.Blocks.{blocks_of}
use Rattle.cat_records.specs.Attributes.{is_attr}
use Rattle.cat_records.specs.declared.attribute.AttrRecord.{AttrRecord}
use Rattle.cat_records.specs.declared.attribute.AttrRecord.TheVariants as attribute
use Rattle.cat_records.specs.declared.record.CatRecord.{CatRecord}
use Rattle.cat_records.specs.declared.record.CatRecord.TheVariants.{Folder, File, Thread}
use Rattle.fsck_list.specs.declared.finding.Finding as listed
use Rattle.hfs_model.specs.Sorted.{kept}
use Rattle.hfs_volume.specs.Records.{Placed, Overflow, Attribute, attribute_of}
use Rattle.hfs_volume.specs.Forks.{extents_of, data_kind, has_extents, is_full}
use Rattle.hfs_volume.specs.Attributes.{HasOwner, IsAttribute, IsOneExtent, AreAttributes}
use Rattle.hfs_volume.specs.Blocks.{HasValueSizes}
use Rattle.hfs_volume.specs.Broken.{Finding, IsFailed, IsUnmet, FailsAttribute, named_place, value_wants}
use Rattle.hfs_volume.specs.Changes.{AreSortedAttributes}
use Rattle.hfs_volume.specs.Content.{VolumeState, overflow_in_volume, attributes_of, records_of}
use Rattle.hfs_volume.specs.Values.{IsValue, is_record_of, is_more, has_fork, extents_in}
use Rattle.fsck_core.specs.Decided.{Adds, StaysListed, IsTold}
use Rattle.fsck_core.specs.Names.{pair_at}
use Rattle.fsck_core.specs.Owners.{next_front}
use Rattle.fsck_core.specs.declared.rows.Row.{Row}
use Rattle.fsck_core.specs.declared.attributes.Blocks.{Blocks}
use Rattle.fsck_core.specs.declared.follow.Front.{Front}

-- a row with this CNID may have attributes
abbrev pub owner_here : ℕ → Row → Bool
owner_here id row = not row.link && (row.id == id)

-- how many rows with this CNID may
abbrev pub owner_count : List Row → ℕ → ℕ
owner_count rows id = count_by (owner_here id) rows

-- a key has a name, and belongs to an owner
abbrev pub is_owned : List ℕ → ℕ → Bool
is_owned key many = if nat_lt (length key) 16 then false else not (many == 0)

-- two keys are of records of one attribute
abbrev pub is_one_attribute : List ℕ → List ℕ → Bool
is_one_attribute one other = (attr_file one == attr_file other) && bytes_eq (attr_units one) (attr_units other)

-- the record at a place
abbrev pub attribute_at : List Pair → ℕ → Attribute
attribute_at pairs k = attribute_of (pair_at pairs k)

-- Records stand in the order of their keys.
pub record AreKeyed (pairs : List Pair) : Type 0 where
  pub keys : All (λ pair. IsAttrKey pair.0) pairs
  pub sorted : AreSortedAttributes pairs

-- the records of an attribute from a place on
abbrev pub rest_at : List Pair → ℕ → Attribute → List Attribute
rest_at pairs place record_ = kept (is_record_of record_.id record_.name) (map attribute_of (drop place pairs))

-- records are further ones of a value alone, of which each goes on where the one before it ends, which is full, and has an extent in use
abbrev pub GoWholly : ℕ → Bool → List Attribute → Type 0
GoWholly place full [] = Unit {0}
GoWholly place full (more ∷ rest) =
    (is_more more.value ≡ true) × (more.start ≡ place) × (full ≡ true) × (has_extents (extents_in more.value) ≡ true) × GoWholly (place + length (blocks_of (extents_in more.value))) (is_full (extents_in more.value)) rest

-- the front behind a further record of a value, if it goes on there and has an extent in use; none behind any other record
abbrev pub next_part : Front → Attribute → AttrRecord → Option Front
next_part front record_ (attribute.Inline value) = None
next_part front record_ (attribute.Fork fork) = None
next_part front record_ (attribute.More extents) = next_front 0 0 front (record { fork = 0; id = 0; start = record_.start; extents = extents })

-- the block behind the last of records
abbrev pub end_of : ℕ → List Attribute → ℕ
end_of place [] = place
end_of place (more ∷ rest) = end_of (place + length (blocks_of (extents_in more.value))) rest

-- an attribute with a value in a fork has a record that begins at 0
abbrev pub HasFirstFork : List Pair → Attribute → Type 0
HasFirstFork pairs record_ = (k : ℕ) × (k < length pairs) × (is_record_of record_.id record_.name (attribute_at pairs k) ≡ true) × (has_fork (attribute_at pairs k).value ≡ true) × ((attribute_at pairs k).start ≡ 0)

-- ---- what is found

-- a record of this folder or file is none of an attribute, or its value isn't one
abbrev pub FailsRecord : VolumeState → ℕ → Type 0
FailsRecord volume place =
    (pair : Pair) × Contains volume.attribute_pairs pair × ((attribute_of pair).id ≡ place) × ((¬ IsAttribute (records_of volume) pair) ⊎ (¬ IsValue (attributes_of volume) (attribute_of pair)))

-- rule 16 or rule 20 is broken by a record of the attributes file
abbrev pub IsBrokenValue : VolumeState → Finding → Type 0
IsBrokenValue volume finding = IsFailed 20 finding (FailsRecord volume) ⊎ IsUnmet 16 finding (flat_map (value_wants volume) (attributes_of volume))

-- A record of the attributes file keeps rules 16 and 20.
pub record IsGoodRecord (volume : VolumeState) (pair : Pair) : Type 0 where
  pub own : IsAttribute (records_of volume) pair
  pub value : IsValue (attributes_of volume) (attribute_of pair)
  pub sizes : HasValueSizes volume.head.total_blocks volume.head.block_size (attributes_of volume) (attribute_of pair)

-- the first so many do
abbrev pub AreGood : VolumeState → ℕ → Type 0
AreGood volume n = (k : ℕ) → k < n → IsGoodRecord volume (pair_at volume.attribute_pairs k)

-- the value of the record at a place keeps them
abbrev pub IsGoodValue : VolumeState → ℕ → Type 0
IsGoodValue volume k =
    IsTrue (is_attr (pair_at volume.attribute_pairs k).1) × (IsValue (attributes_of volume) (attribute_at volume.attribute_pairs k)
    × HasValueSizes volume.head.total_blocks volume.head.block_size (attributes_of volume) (attribute_at volume.attribute_pairs k))

-- These are the header and the attributes of a volume, in the order of their keys.
pub record AreAttributesOf (volume : VolumeState) (head : VolumeHeader) (pairs : List Pair) : Type 0 where
  pub head_is : head ≡ volume.head
  pub pairs_are : pairs ≡ volume.attribute_pairs
  pub keyed : AreKeyed pairs

-- A part of rules 16 and 20 was judged of attributes: it holds where that is told, it is told where all attributes keep the rules, else a finding is
-- listed; and that one and each that was added is of a record that breaks one of the rules.
pub record Judges (volume : VolumeState) (P : Type 0) (old new : List listed.Finding) (met : Bool) : Type 0 where
  pub holds : met ≡ true → P
  pub told : AreGood volume (length volume.attribute_pairs) → met ≡ true
  pub found : met ≡ false → IsTold (IsBrokenValue volume) new
  pub still : StaysListed old new
  pub each : Adds (IsBrokenValue volume) old new

-- rule 20 is broken by a record of the attributes file
abbrev pub IsBrokenRecord : VolumeState → Finding → Type 0
IsBrokenRecord volume finding = IsFailed 20 finding (FailsRecord volume)

-- the record at a place keeps rule 20
abbrev pub IsNamedAt : VolumeState → ℕ → Type 0
IsNamedAt volume k = IsAttribute (records_of volume) (pair_at volume.attribute_pairs k) × IsValue (attributes_of volume) (attribute_at volume.attribute_pairs k)

-- the first so many do
abbrev pub AreNamed : VolumeState → ℕ → Type 0
AreNamed volume n = (k : ℕ) → k < n → IsNamedAt volume k

-- a finding of rule 20 is listed, or this holds
abbrev pub IsToldOr : VolumeState → Type 0 → List listed.Finding → Type 0
IsToldOr volume P list = IsTold (IsBrokenRecord volume) list ⊎ P

-- Blocks are those of an extent.
pub record IsSpan (blocks : Blocks) (span : Extent) : Type 0 where
  pub start : blocks.start ≡ span.start
  pub count : blocks.count ≡ span.count

-- a value is a file whose data fork is this one extent
abbrev pub IsOneFile : List Overflow → CatRecord → Extent → Type 0
IsOneFile overflow (Folder folder) span = ⊥
IsOneFile overflow (File file) span = extents_of overflow file.fields.id data_kind file.data_fork ≡ span ∷ []
IsOneFile overflow (Thread thread) span = ⊥

-- what was found is such a file
abbrev pub HasOneFile : List Overflow → Option CatRecord → Extent → Type 0
HasOneFile overflow None span = ⊥
HasOneFile overflow (Some value) span = IsOneFile overflow value span

-- the file of a name in the root isn't this one extent
abbrev pub FailsFile : List Placed → List Overflow → List ℕ → Extent → ℕ → Type 0
FailsFile records overflow name span place = (place ≡ named_place records name) × (¬ IsOneExtent records overflow name span)

-- What rule 20 looks at beside the catalog, where rules 1 to 7 hold.
pub record HasAttributes (volume : VolumeState) (head : VolumeHeader) (info : Info) (overflow : List Overflow) (attributes : List Pair) : Type 0 where
  pub head_is : head ≡ volume.head
  pub some : 0 < head.block_size
  pub journal_is : volume.journal ≡ record { offset = info.offset; size = info.size }
  pub overflow_is : overflow ≡ overflow_in_volume volume
  pub attributes_are : attributes ≡ volume.attribute_pairs
  pub keyed : AreKeyed attributes

-- an attribute of this owner has one in the catalog exactly where one of these numbers is its own
abbrev pub AreOwnersOf : VolumeState → List ℕ → Type 0
AreOwnersOf volume owners = IsNonDecreasing owners × ((id : ℕ) → (0 < times id owners) ↔ HasOwner (records_of volume) id)

-- rule 16 or 20 is broken by an attribute, or rule 20 by a file of the journal
abbrev pub IsBrokenOfNames : VolumeState → Finding → Type 0
IsBrokenOfNames volume finding = IsFailed 20 finding (FailsAttribute volume) ⊎ IsUnmet 16 finding (flat_map (value_wants volume) (attributes_of volume))

-- Rule 20, and rule 16 of the forks of attributes.
pub record KeepsAttributes (volume : VolumeState) : Type 0 where
  pub attributes : AreAttributes volume.head volume.journal (records_of volume) (overflow_in_volume volume) volume.attribute_pairs
  pub sizes : All (HasValueSizes volume.head.total_blocks volume.head.block_size (attributes_of volume)) (attributes_of volume)
