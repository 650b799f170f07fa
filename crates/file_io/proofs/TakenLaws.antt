-- Used blocks stay used while others are taken.
use Rattle.std.proofs.Common.{◌≡◌, ℕ, Bool, true, false, if◌then◌else◌, List, length, get_or, take, drop, refl, ◌∙◌, ap, subst}
use Rattle.hx_bytes.specs.declared.extents.Extent.{Extent}
use Rattle.fork_map.specs.Blocks.{blocks_of}
use Rattle.fork_map.specs.Cut.{front}
use Rattle.fork_map.proofs.Laws.{blocks-front, blocks-back}
use Rattle.flag_rows.specs.Marks.{is_held, Fit}
use Rattle.flag_rows.proofs.TakeLaws.{get_or-mark_all}
use Rattle.alloc_bitmap.specs.Map.{BlockMap, free_of}
use Rattle.alloc_bitmap.proofs.MapLaws.{length-open}
use Rattle.alloc_bitmap.proofs.TakeLaws.{fit_chosen}
use Rattle.file_io.specs.Places.{fresh_of, middle, taken, AreUsed}

either_true : (h u : Bool) → u ≡ true → (if h then true else u) ≡ true
either_true true u is = refl
either_true false u is = is

pub used_taken : (map : BlockMap) (n : ℕ) (blocks : List ℕ) → AreUsed map blocks → AreUsed (taken n map) blocks
used_taken map n blocks used = λ k d lt.
    let fresh : List Extent = fresh_of map n in
    let fit : Fit (length map.used) fresh = subst (λ m. Fit m fresh) (length-open map.used map.held) (fit_chosen (free_of map) n) in
    let b : ℕ = get_or blocks k d in
    get_or-mark_all map.used fresh true b false fit ∙ either_true (is_held fresh b) (get_or map.used b false) (used k d lt)

pub middle_blocks : (extents : List Extent) (from to : ℕ) → blocks_of (middle from to extents) ≡ drop from (take to (blocks_of extents))
middle_blocks extents from to = blocks-back from (front to extents) ∙ ap (λ (l : List ℕ). drop from l) (blocks-front to extents)
