-- Lists of extents, cut at a block and put together.
use Rattle.std.specs.Prelude.{ℕ, ◌+◌, ◌-◌, ◌^◌, Bool, ◌&&◌, ◌==◌, nat_lt, nat_le, if◌then◌else◌, List, [], ◌∷◌}
use Rattle.hx_bytes.specs.declared.extents.Extent.{Extent}

-- the extents of the first n blocks, of which the last may be the first blocks of an extent
abbrev pub front : ℕ → List Extent → List Extent
front n [] = []
front n (extent ∷ rest) =
    if nat_le extent.count n then extent ∷ front (n - extent.count) rest
    else if n == 0 then [] else record { start = extent.start; count = n } ∷ []

-- the extents of the blocks from place n on, of which the first may be the last blocks of an extent
abbrev pub back : ℕ → List Extent → List Extent
back n [] = []
back n (extent ∷ rest) =
    if nat_le extent.count n then back (n - extent.count) rest
    else record { start = extent.start + n; count = extent.count - n } ∷ rest

-- the second extent follows the first at once, and the two counts make one
abbrev pub touch : Extent → Extent → Bool
touch first second = (first.start + first.count == second.start) && nat_lt (first.count + second.count) (2 ^ 32)

-- two lists put together: the two extents at the seam become one where they touch
abbrev pub join : List Extent → List Extent → List Extent
join [] more = more
join (extent ∷ []) [] = extent ∷ []
join (extent ∷ []) (next ∷ more) =
    if touch extent next then record { start = extent.start; count = extent.count + next.count } ∷ more
    else extent ∷ next ∷ more
join (extent ∷ second ∷ rest) more = extent ∷ join (second ∷ rest) more
