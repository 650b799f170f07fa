-- Eight extents as bytes, read back.
use Rattle.std.proofs.Common.{◌≡◌, ℕ, zero, suc, ◌+◌, ◌*◌, ◌<◌, ◌≤◌, List, [], ◌∷◌, ◌++◌, length, take, replicate, ◌∙◌, ap, subst, arith}
use Rattle.std.specs.Prelude.{slice_index_or}
use Rattle.std.proofs.lemmas.List.{drop_all, take_all, append-nil}
use Rattle.std.specs.List.{flat_map, AllByRecursion}
use Rattle.hx_bytes.specs.Field.{put_at}
use Rattle.hx_bytes.specs.Fork.{extent_bytes, extents_bytes, extents_at, FitsExtent}
use Rattle.hx_bytes.specs.declared.extents.Extent.{Extent}
use Rattle.hx_bytes.specs.declared.extents.ExtentRecord.{ExtentRecord}
use Rattle.hx_bytes.proofs.Forks.{length-flat_extents, put_extent-more}
use Rattle.hx_bytes.proofs.Reading.{extents_here}
use Rattle.overflow.specs.Records.{no_extent}

zeros : List ℕ
zeros = replicate 64 0

put_whole : (old new : List ℕ) → length old ≤ length new → put_at old 0 new ≡ new ++ []
put_whole old new all = ap (λ l. new ++ l) (drop_all (0 + length new) old (omega (arith, all)))

-- one extent more is written
pub put_next : (xs : List Extent) (old new : List ℕ) (place : ℕ) → place < length xs → old ≡ put_at (replicate 64 0) 0 (flat_map extent_bytes (take place xs)) → new ≡ put_at old (8 * place) (extent_bytes (slice_index_or xs place no_extent))
    → new ≡ put_at (replicate 64 0) 0 (flat_map extent_bytes (take (place + 1) xs))
put_next xs old new place inside so_far is =
    is ∙ ap (λ n. put_at old n (extent_bytes (slice_index_or xs place no_extent))) {x = 8 * place} {y = 0 + 8 * place} (omega arith)
    ∙ put_extent-more (replicate 64 0) old 0 place xs no_extent (omega arith) inside so_far

-- one more fits
pub each_more : (xs : List Extent) (place : ℕ) → place < length xs → AllByRecursion FitsExtent (take place xs) → FitsExtent (slice_index_or xs place no_extent) → AllByRecursion FitsExtent (take (place + 1) xs)
each_more [] place inside fits one = absurd (omega (arith, inside))
each_more (x ∷ xs) zero inside fits one = (one, tt)
each_more (x ∷ xs) (suc place) inside fits one = subst (λ n. AllByRecursion FitsExtent (take n (x ∷ xs))) {x = suc (place + 1)} {y = suc place + 1} (omega arith) (fits.0, each_more xs place (omega (arith, inside)) fits.1 one)

-- all eight are
written_all : (extents : ExtentRecord) (value : List ℕ) (place : ℕ) → length extents.extents ≤ place → length extents.extents ≡ 8 → value ≡ put_at (replicate 64 0) 0 (flat_map extent_bytes (take place extents.extents)) → value ≡ extents_bytes extents ++ []
unfolding extents_bytes
written_all extents value place past eight is =
    is ∙ ap (λ (l : List Extent). put_at (replicate 64 0) 0 (flat_map extent_bytes l)) (take_all place extents.extents past)
    ∙ put_whole (replicate 64 0) (flat_map extent_bytes extents.extents) (omega (arith, length-flat_extents extents.extents, eight))

pub put_all : (extents : ExtentRecord) (value : List ℕ) (place : ℕ) → length extents.extents ≤ place → length extents.extents ≡ 8 → value ≡ put_at (replicate 64 0) 0 (flat_map extent_bytes (take place extents.extents))
    → AllByRecursion FitsExtent (take place extents.extents) → extents_at value 0 ≡ extents
put_all extents value place past eight is fits =
    extents_here value [] 0 extents (record { eight = eight; each = subst (AllByRecursion FitsExtent) (take_all place extents.extents past) fits })
    (record { is = written_all extents value place past eight is })

pub whole_long : (extents : ExtentRecord) (value : List ℕ) (place : ℕ) → length extents.extents ≤ place → length extents.extents ≡ 8 → value ≡ put_at (replicate 64 0) 0 (flat_map extent_bytes (take place extents.extents)) → length value ≡ 64
unfolding extents_bytes
whole_long extents value place past eight is = omega (arith, ap length (written_all extents value place past eight is), ap length (append-nil (flat_map extent_bytes extents.extents)), length-flat_extents extents.extents, eight)
