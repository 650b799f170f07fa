-- Extents and forks written field by field.
use Rattle.std.proofs.Common.{◌≡◌, ℕ, ◌+◌, ◌*◌, ◌<◌, ◌≤◌, List, [], ◌∷◌, ◌++◌, length, take, get_or, refl, sym, ◌∙◌, ap, arith}
use Rattle.std.proofs.lemmas.List.{length-append, length-take, append-nil, take_more}
use Rattle.std.proofs.lemmas.Grind.{flat_map-append}
use Rattle.std.specs.List.{flat_map}
use Rattle.hx_bytes.specs.Field.{put_at, big}
use Rattle.hx_bytes.specs.Fork.{extent_bytes, extents_bytes, fork_bytes}
use Rattle.hx_bytes.specs.declared.extents.Extent.{Extent}
use Rattle.hx_bytes.specs.declared.extents.ExtentRecord.{ExtentRecord}
use Rattle.hx_bytes.specs.declared.extents.ForkRecord.{ForkRecord}
use Rattle.hx_bytes.specs.declared.fields.Order.TheVariants.{Big}
use Rattle.hx_bytes.proofs.Laws.{length-number_bytes}
use Rattle.hx_bytes.proofs.Putting.{put_at-next}

-- an extent has its eight bytes
pub length-extent_bytes : (extent : Extent) → length (extent_bytes extent) ≡ 8
length-extent_bytes extent = omega (arith, length-append (big 4 extent.start) (big 4 extent.count), length-number_bytes Big 4 extent.start, length-number_bytes Big 4 extent.count)

-- extents have eight bytes each
pub length-flat_extents : (extents : List Extent) → length (flat_map extent_bytes extents) ≡ 8 * length extents
length-flat_extents [] = refl
length-flat_extents (extent ∷ rest) = omega (arith, length-append (extent_bytes extent) (flat_map extent_bytes rest), length-extent_bytes extent, length-flat_extents rest)

-- one extent more
pub flat_extents-more : (extents : List Extent) (place : ℕ) (none : Extent) → place < length extents → flat_map extent_bytes (take (place + 1) extents) ≡ flat_map extent_bytes (take place extents) ++ extent_bytes (get_or extents place none)
flat_extents-more extents place none within =
    ap (λ (l : List Extent). flat_map extent_bytes l) (take_more extents place none within)
    ∙ flat_map-append extent_bytes (take place extents) (get_or extents place none ∷ [])
    ∙ ap (λ (l : List ℕ). flat_map extent_bytes (take place extents) ++ l) (append-nil (extent_bytes (get_or extents place none)))

-- one extent more is written
pub put_extent-more : (old cur : List ℕ) (at place : ℕ) (extents : List Extent) (none : Extent) → at ≤ length old → place < length extents → cur ≡ put_at old at (flat_map extent_bytes (take place extents)) → put_at cur (at + 8 * place) (extent_bytes (get_or extents place none)) ≡ put_at old at (flat_map extent_bytes (take (place + 1) extents))
put_extent-more old cur at place extents none fits within so_far =
    ap (λ (l : List ℕ). put_at l (at + 8 * place) (extent_bytes (get_or extents place none))) so_far
    ∙ put_at-next old (flat_map extent_bytes (take place extents)) (extent_bytes (get_or extents place none)) at (at + 8 * place) fits
    (omega (arith, length-flat_extents (take place extents), length-take place extents))
    ∙ ap (λ (l : List ℕ). put_at old at l) (sym (flat_extents-more extents place none within))

-- eight extents have 64 bytes
pub length-extents_bytes : (extents : ExtentRecord) → length extents.extents ≡ 8 → length (extents_bytes extents) ≡ 64
unfolding extents_bytes
length-extents_bytes extents eight = omega (arith, length-flat_extents extents.extents)

-- a fork has 80 bytes where its extents have their 64
pub length-fork_bytes : (fork : ForkRecord) → length (extents_bytes fork.extents) ≡ 64 → length (fork_bytes fork) ≡ 80
unfolding fork_bytes
length-fork_bytes fork long = omega (arith, length-append {A = ℕ}, length-number_bytes Big 8 fork.logical_size, length-number_bytes Big 4 fork.clump_size, length-number_bytes Big 4 fork.total_blocks, long)
