-- Extents that have blocks in common.
use Rattle.std.specs.Prelude.{◌<◌, ℕ, ◌+◌, List, length, slice_index_or}
use Rattle.hx_bytes.specs.declared.extents.Extent.{Extent}

-- two extents have a block in common
abbrev pub Meet : Extent → Extent → Type 0
Meet first second = (0 < first.count) × (0 < second.count) × (first.start < second.start + second.count) × (second.start < first.start + first.count)

-- no two of these have
abbrev pub NoneMeet : List Extent → Type 0
NoneMeet extents = (i j : ℕ) (d : Extent) → i < j → j < length extents → Meet (slice_index_or extents i d) (slice_index_or extents j d) → ⊥
