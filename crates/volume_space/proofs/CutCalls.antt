-- What the calls of a cut ask for and give.
use Rattle.std.proofs.Common.{◌≡◌, ◌<◌, ◌≤◌, ℕ, ◌+◌, ◌-◌, Bool, true, false, List, [], ◌∷◌, ◌++◌, length, get_or, take, drop, refl, sym, ◌∙◌, ap, subst, arith, length-append, length-take, ⊎_elim}
use Rattle.std.specs.Prelude.{All, Contains}
use Rattle.std.specs.List.{range_with_len}
use Rattle.std.proofs.lemmas.List.{drop_more, length-drop}
use Rattle.std.proofs.lemmas.List.Elements.{Contains-append_cases}
use Rattle.hx_bytes.specs.declared.extents.Extent.{Extent}
use Rattle.fork_map.specs.Blocks.{blocks_of}
use Rattle.fork_map.specs.Cut.{front}
use Rattle.alloc_bitmap.specs.Map.{BlockMap, Have}
use Rattle.alloc_bitmap.proofs.ApartLaws.{length_blocks}
use Rattle.file_io.specs.Places.{AreUsed}
use Rattle.hfs_volume.proofs.BlockWants.{range_bounds}
use Rattle.hfs_volume.proofs.Members.{all_of, each_of}
use Rattle.volume_base.specs.Cutting.{IsLastCut}
use Rattle.volume_space.specs.Cutting.{IsSplit}
use Rattle.volume_base.specs.declared.cutting.Cut.{Cut}

used_more : (map : BlockMap) (e : Extent) (rest : List Extent) → Have map.used e true → AreUsed map (blocks_of rest) → AreUsed map (blocks_of (e ∷ rest))
used_more map e rest have used = all_of (λ (block : ℕ). get_or map.used block false ≡ true) (blocks_of (e ∷ rest)) (λ block has. ⊎_elim
    (λ (front_ : Contains (range_with_len e.start e.count) block). let range = range_bounds e.start e.count block front_ in have.each block range.0 range.1)
    (λ (later : Contains (blocks_of rest) block). each_of (λ (b : ℕ). get_or map.used b false ≡ true) (blocks_of rest) used block later)
    (Contains-append_cases (range_with_len e.start e.count) (blocks_of rest) block has))

pub used_step : (map : BlockMap) (list : List Extent) (i : ℕ) (d : Extent) → i < length list → Have map.used (get_or list i d) true → AreUsed map (blocks_of (drop (i + 1) list)) → AreUsed map (blocks_of (drop i list))
used_step map list i d low have used = subst (λ (l : List Extent). AreUsed map (blocks_of l)) (sym (drop_more list i d low)) (used_more map (get_or list i d) (drop (i + 1) list) have used)

-- a list of one item
single : (l : List Extent) (x : Extent) → length l ≡ 1 → x ≡ get_or l 0 x → l ≡ x ∷ []
single [] x one is = absurd (omega (arith, one))
single (y ∷ []) x one is = ap (λ z. z ∷ []) (sym is)
single (y ∷ z ∷ rest) x one is = absurd (omega (arith, one))

pub is_split : (count : ℕ) (list stays goes : List Extent) (run : Extent) → stays ≡ front (length (blocks_of list) - count) list → blocks_of stays ≡ take (length (blocks_of list) - count) (blocks_of list) → blocks_of goes ≡ drop (length (blocks_of list) - count) (blocks_of list)
    → length goes ≡ 1 → run ≡ get_or goes 0 run → 0 < run.count → IsSplit count list (record { stays = stays; goes = run })
is_split count list stays goes run is stay go one first some = record { stays = is; stay = stay; go = ap blocks_of (sym (single goes run one first)) ∙ go; some = some }

pub last_cut : (keep count : ℕ) (list : List Extent) (cut : Cut) → keep + count ≤ length (blocks_of list) → length (blocks_of (take (length list - 1) list)) + count ≤ length (blocks_of list) → IsSplit count list cut → IsLastCut keep list cut
last_cut keep count list cut least near split = record {
  left = length (blocks_of list) - count;
  stays = split.stays;
  stay = split.stay;
  go = split.go;
  least = omega (arith, least);
  some = split.some;
  sum = omega (arith, least, ap (λ (l : List ℕ). length l) split.go, length_blocks cut.goes [], length-drop (length (blocks_of list) - count) (blocks_of list));
  near = omega (arith, near);
}

pub few_blocks : (keep count : ℕ) (list : List Extent) (cut : Cut) → count ≤ 32768 → keep + count ≤ length (blocks_of list) → IsSplit count list cut → cut.goes.count ≤ 32768
few_blocks keep count list cut few least split = omega (arith, few, least, ap (λ (l : List ℕ). length l) split.go, length_blocks cut.goes [], length-drop (length (blocks_of list) - count) (blocks_of list))
