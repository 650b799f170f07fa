-- The blocks and sectors of extents.
use Rattle.std.specs.Prelude.{ℕ, ◌*◌, ◌^◌, ◌<◌, List}
use Rattle.std.specs.List.{flat_map, range_with_len, All}
use Rattle.hx_bytes.specs.declared.extents.Extent.{Extent}

-- the blocks of these extents, in order
abbrev pub blocks_of : List Extent → List ℕ
blocks_of extents = flat_map (λ extent. range_with_len extent.start extent.count) extents

-- each block has a number below 4,294,967,296
abbrev pub AreNumbers : List ℕ → Type 0
AreNumbers blocks = All (λ block. block < 2 ^ 32) blocks

-- the sectors of these blocks, in order, where a block has so many sectors
abbrev pub sectors_of : ℕ → List ℕ → List ℕ
sectors_of per_block blocks = flat_map (λ block. range_with_len (block * per_block) per_block) blocks

-- the sectors of a fork, in order, where a block has so many
abbrev pub fork_sectors : List Extent → ℕ → List ℕ
fork_sectors fork per_block = sectors_of per_block (blocks_of fork)
