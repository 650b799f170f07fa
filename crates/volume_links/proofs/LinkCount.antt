-- The blocks that a link's target takes of a settled volume: as many free ones fewer, and the header counts them.
use Rattle.std.proofs.Common.{◌≡◌, ◌<◌, ◌≤◌, ℕ, ◌+◌, Bool, true, false, not, length, get_or, refl, sym, ◌∙◌, ap, arith}
use Rattle.std.specs.Prelude.{◌&&◌}
use Rattle.std.specs.List.{range_with_len}
use Rattle.std.proofs.lemmas.Bool.{and_parts, true≢false}
use Rattle.std.proofs.lemmas.List.FromFn.{get_or-range_with_len, length-range_with_len}
use Rattle.std.proofs.lemmas.List.{get_or-map}
use Rattle.alloc_bitmap.specs.Map.{BlockMap, free_of, unused_of}
use Rattle.alloc_bitmap.proofs.TakeLaws.{picks_chosen}
use Rattle.file_io.specs.Places.{fresh_of, taken}
use Rattle.flag_rows.specs.Bits.{count_set}
use Rattle.fork_map.specs.Blocks.{blocks_of}
use Rattle.sector_disk.specs.Lists.{Content}
use Rattle.volume_base.specs.Standing.{IsSettled}
use Rattle.volume_base.specs.declared.volume.Volume.{Volume}
use Rattle.volume_base.proofs.GivenBits.{held_is, set_all}
use Rattle.volume_base.proofs.ValueFreed.{free_counted}
use Rattle.volume_space.proofs.PutStages.{fresh_fit}
use Rattle.volume_space.proofs.Spilled.{fresh_free}

-- a block that is free isn't used
free_unused : (m : BlockMap) (k : ℕ) → k < length m.used → get_or (free_of m) k false ≡ true → get_or m.used k true ≡ false
free_unused m k low is =
    let place : get_or (range_with_len 0 (length m.used)) k 0 ≡ k = get_or-range_with_len 0 (length m.used) k 0 low ∙ omega arith in
    let here : get_or (free_of m) k false ≡ (not (get_or m.used k true) && not (get_or m.held k false)) =
    get_or-map (λ j. not (get_or m.used j true) && not (get_or m.held j false)) (range_with_len 0 (length m.used)) k 0 false (omega (arith, low, length-range_with_len 0 (length m.used)))
    ∙ ap (λ j. not (get_or m.used j true) && not (get_or m.held j false)) place in
    not_so (get_or m.used k true) (and_parts (not (get_or m.used k true)) (not (get_or m.held k false)) (sym here ∙ is)).0
  where
    not_so : (b : Bool) → not b ≡ true → b ≡ false
    not_so true is_not = absurd (true≢false (sym is_not))
    not_so false is_not = refl

-- the header counts as many, at least
pub counted_free : (v : Volume) (content : Content) → IsSettled v content → (n : ℕ) → n ≤ count_set (free_of v.map) → n ≤ v.header.free_blocks
counted_free v content settled n enough =
    let once = picks_chosen (free_of v.map) n enough in
    let taken_ : count_set (unused_of (taken n v.map)) + length (blocks_of (fresh_of v.map n)) ≡ count_set (unused_of v.map) =
    set_all v.map.used (fresh_of v.map n) (fresh_fit v.map n) once.apart (λ k held. let free = fresh_free v.map n enough k (held_is (fresh_of v.map n) k held) in free_unused v.map k free.0 free.1) in
    omega (arith, taken_, once.count, free_counted v content settled)
