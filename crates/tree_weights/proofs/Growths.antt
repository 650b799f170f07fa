-- The nodes by which a tree grows suffice for what it lacks.
use Rattle.std.proofs.Common.{◌≡◌, ◌<◌, ◌≤◌, ℕ, zero, suc, ◌+◌, ◌-◌, ◌*◌, ◌/◌, Bool, true, false, List, [], ◌∷◌, map, length, refl, sym, ◌∙◌, ap, subst, arith}
use Rattle.std.specs.Prelude.{T, max, get_or, if◌then◌else◌}
use Rattle.std.specs.List.{range_with_len}
use Rattle.std.proofs.lemmas.Bool.{leb-true, le-leb, true≢false}
use Rattle.std.proofs.lemmas.Nat.{div_below}
use Rattle.std.proofs.Math.Nat.{lt-div-mul-add, mul-le-mul_left}
use Rattle.std.proofs.lemmas.List.FromFn.{get_or-map-range_with_len, length-map-range_with_len}
use Rattle.hfs_volume.specs.Forks.{parts_for}
use Rattle.hfs_volume.specs.Cost.{new_maps, suffices, first_of, whole_nodes, growth_for}
use Rattle.hfs_volume.specs.declared.cost.TreeCost.{TreeCost}

-- where one of a list passes, the first that passes does
first_passes : (test : ℕ → Bool) (ns : List ℕ) (i : ℕ) → i < length ns → test (get_or ns i 0) ≡ true → test (first_of test ns) ≡ true
first_passes test [] i within passes = absurd (omega (arith, within))
first_passes test (n ∷ rest) zero within passes = by_test (test n) refl
  where
    by_test : (b : Bool) → test n ≡ b → test (if b then n else first_of test rest) ≡ true
    by_test true is = passes
    by_test false is = absurd (true≢false (sym passes ∙ is))
first_passes test (n ∷ rest) (suc i) within passes = by_test (first_passes test rest i (omega (arith, within)) passes) (test n) refl
  where
    by_test : test (first_of test rest) ≡ true → (b : Bool) → test n ≡ b → test (if b then n else first_of test rest) ≡ true
    by_test later true is = is
    by_test later false is = later

-- so many parts hold all of it
parts_hold : (size part : ℕ) → 0 < part → size ≤ parts_for size part * part
parts_hold size part some = let it : size + part - 1 < (size + part - 1) / part * part + part = lt-div-mul-add some in omega (arith, it, some)

-- a number that is large enough leaves what is lacking
leaves_enough : (nodes bits lacks more size : ℕ) → 2 ≤ size → nodes + 2 * lacks + 1 ≤ more → lacks + parts_for (nodes + more - bits) size ≤ more
leaves_enough nodes bits lacks more size wide large =
    let rest : ℕ = more - lacks in
    let twice : rest * 2 ≤ rest * size = mul-le-mul_left rest wide in
    let few = div_below (nodes + more - bits + size - 1) size (rest + 1) (omega (arith, wide)) (omega (arith, twice, large, wide)) in
    omega (arith, few, large)

-- what a tree lacks is there after its growth, beside the new map nodes
pub grown_enough : (block : ℕ) (tree : TreeCost) (lacks : ℕ) → 20 < tree.node_size → lacks ≤ growth_for block tree lacks - new_maps tree (growth_for block tree lacks)
unfolding growth_for
grown_enough block tree lacks size = leb-true lacks _ (first_passes (suffices tree lacks) (map one_more (range_with_len 0 (tree.nodes + lacks + 2))) last within passes)
  where
    unit : ℕ
    unit = whole_nodes block tree

    least : ℕ
    least = parts_for (max lacks (tree.nodes / 4)) unit

    one_more : ℕ → ℕ
    one_more k = (least + k) * unit

    last : ℕ
    last = tree.nodes + lacks + 1

    some : 1 ≤ unit
    some = omega arith

    large : tree.nodes + 2 * lacks + 1 ≤ one_more last
    large =
        let first = parts_hold (max lacks (tree.nodes / 4)) unit some in
        let rest : last * 1 ≤ last * unit = mul-le-mul_left last some in
        omega (arith, first, rest)

    within : last < length (map one_more (range_with_len 0 (tree.nodes + lacks + 2)))
    within = let it = length-map-range_with_len one_more 0 (tree.nodes + lacks + 2) in omega (arith, it)

    here : get_or (map one_more (range_with_len 0 (tree.nodes + lacks + 2))) last 0 ≡ one_more last
    here = get_or-map-range_with_len one_more 0 (tree.nodes + lacks + 2) last last 0 (omega arith) (omega arith)

    passes : suffices tree lacks (get_or (map one_more (range_with_len 0 (tree.nodes + lacks + 2))) last 0) ≡ true
    passes =
        let it = leaves_enough tree.nodes tree.map_bits lacks (one_more last) (8 * (tree.node_size - 20)) (omega (arith, size)) large in
        ap (suffices tree lacks) here ∙ le-leb lacks (one_more last - new_maps tree (one_more last)) (omega (arith, it))
