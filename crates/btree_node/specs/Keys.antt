-- Keys: their bytes, what they hold, and their orders. A key begins with its length, a number of two bytes that doesn't count itself.
use Rattle.std.specs.Prelude.{◌≡◌, ◌≤◌, ◌⊎◌, ℕ, ◌+◌, ◌*◌, List, [], ◌∷◌, length, drop, slice_index, slice_set}
use Rattle.std.specs.declared.cmp.Ordering.{Ordering}
use Rattle.std.specs.Ordering.{nat_cmp, on, then_cmp}
use Rattle.std.specs.Cmp.Lexicographic.{slice_cmp}
use Rattle.hx_bytes.specs.Field.{big_at}

-- the numbers of two bytes each
abbrev pub units : List ℕ → List ℕ
units [] = []
units (high ∷ []) = []
units (high ∷ low ∷ rest) = (high * 256 + low) ∷ units rest

-- a key of the catalog: the parent's number, and a name of up to 255 units behind its length
abbrev pub catalog_parent : List ℕ → ℕ
catalog_parent key = big_at 4 key 2

-- the name in a catalog key, as UTF-16 units
abbrev pub catalog_units : List ℕ → List ℕ
catalog_units key = units (drop 8 key)

-- A key of the catalog: as long as its first field says, which is as long as its name makes it, with a name of at most 255 units.
pub record IsCatalogKey (key : List ℕ) : Type 0 where
  pub long : 8 ≤ length key
  pub size : length key ≡ big_at 2 key 0 + 2
  pub name : big_at 2 key 0 ≡ 6 + 2 * big_at 2 key 6
  pub most : big_at 2 key 6 ≤ 255

-- by the parent, then by the name's units; a name that begins another comes before it
abbrev pub catalog_cmp : List ℕ → List ℕ → Ordering
catalog_cmp = then_cmp (on catalog_parent nat_cmp) (on catalog_units (slice_cmp nat_cmp))

-- a key of the extents overflow file: the kind of the fork, the file's number and the first block
abbrev pub extent_fork : List ℕ → ℕ
extent_fork key = slice_index key 2

-- the file id in a key of the extents overflow file
abbrev pub extent_file : List ℕ → ℕ
extent_file key = big_at 4 key 4

-- the number of the fork's first block in a key of the extents overflow file
abbrev pub extent_start : List ℕ → ℕ
extent_start key = big_at 4 key 8

-- A key of the extents overflow file: 12 bytes, of which its first field counts ten, and the kind of the fork is 0, for the data, or 255, for the resources.
pub record IsExtentKey (key : List ℕ) : Type 0 where
  pub long : length key ≡ 12
  pub size : big_at 2 key 0 ≡ 10
  pub fork : (extent_fork key ≡ 0) ⊎ (extent_fork key ≡ 255)

-- by the file, then by the kind of the fork, then by the first block
abbrev pub extent_cmp : List ℕ → List ℕ → Ordering
extent_cmp = then_cmp (on extent_file nat_cmp) (then_cmp (on extent_fork nat_cmp) (on extent_start nat_cmp))

-- the byte of padding as a zero
abbrev pub extent_plain : List ℕ → List ℕ
extent_plain key = slice_set key 3 0

-- a key of the attributes file: the file's number, the first block, and a name of up to 127 units behind its length
abbrev pub attr_file : List ℕ → ℕ
attr_file key = big_at 4 key 4

-- the number of the fork's first block in a key of the attributes file
abbrev pub attr_start : List ℕ → ℕ
attr_start key = big_at 4 key 8

-- the name in a key of the attributes file, as UTF-16 units
abbrev pub attr_units : List ℕ → List ℕ
attr_units key = units (drop 14 key)

-- A key of the attributes file: 14 bytes and two for each unit of the name, of which its first field counts all but its own two, and the name has 127 units at most.
pub record IsAttrKey (key : List ℕ) : Type 0 where
  pub long : 14 ≤ length key
  pub size : length key ≡ big_at 2 key 0 + 2
  pub name : big_at 2 key 0 ≡ 12 + 2 * big_at 2 key 12
  pub most : big_at 2 key 12 ≤ 127

-- by the file, then by the name's units, then by the first block
abbrev pub attr_cmp : List ℕ → List ℕ → Ordering
attr_cmp = then_cmp (on attr_file nat_cmp) (then_cmp (on attr_units (slice_cmp nat_cmp)) (on attr_start nat_cmp))

-- the two bytes of padding as zeros
abbrev pub attr_plain : List ℕ → List ℕ
attr_plain key = slice_set (slice_set key 2 0) 3 0

-- ---- values

-- an overflow record has eight extents
abbrev pub is_eight_extents : List ℕ → Type 0
is_eight_extents value = length value ≡ 64

-- the order of keys says nothing of the values
abbrev pub anything : List ℕ → Type 0
anything value = Unit {0}
