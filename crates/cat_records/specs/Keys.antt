-- The keys of the catalog, attributes and extents trees, each behind its length (TN1150, "Catalog File Key",
-- "Extents Overflow File Key").
use Rattle.std.specs.Prelude.{ℕ, ◌+◌, ◌*◌, List, [], ◌∷◌, ◌++◌, length, replicate}
use Rattle.hx_bytes.specs.Field.{big}
use Rattle.cat_records.specs.Records.{units_bytes}

-- the parent's id and the name
abbrev pub catalog_key_bytes : ℕ → List ℕ → List ℕ
catalog_key_bytes parent name = big 2 (6 + 2 * length name) ++ big 4 parent ++ big 2 (length name) ++ units_bytes name

-- a pad, the id, the first block, and the attribute's name
abbrev pub attr_key_bytes : ℕ → List ℕ → ℕ → List ℕ
attr_key_bytes id name start =
    big 2 (12 + 2 * length name) ++ replicate 2 0 ++ big 4 id ++ big 4 start ++ big 2 (length name) ++ units_bytes name

-- the fork's type and a pad, the id, the first block
abbrev pub extent_key_bytes : ℕ → ℕ → ℕ → List ℕ
extent_key_bytes fork id start = big 2 10 ++ (fork ∷ 0 ∷ []) ++ big 4 id ++ big 4 start
