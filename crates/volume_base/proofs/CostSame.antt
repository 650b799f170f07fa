-- What a command costs doesn't hang on bits of a tree's map past 2^32 - 1, nor on extents of its file past them: the trees of a volume have
-- fewer nodes than that.
use Rattle.std.proofs.Common.{◌≡◌, ◌⊎◌, ◌<◌, ◌≤◌, ℕ, zero, suc, ◌+◌, ◌-◌, ◌*◌, ◌/◌, Bool, true, false, List, [], ◌∷◌, map, refl, sym, ◌∙◌, ap, subst, arith, inl, inr, ⊎_elim}
use Rattle.std.specs.Prelude.{◌==◌, ◌&&◌, ◌||◌, not, nat_le, nat_lt, min, max, Option, None, Some, slice_index, if◌then◌else◌}
use Rattle.std.specs.List.{range_with_len}
use Rattle.std.proofs.Math.Nat.{le-div_iff_mul-le, div-le_self, div-mul-le_self, lt-div-mul-add, mul-le-mul_left, mul-le-mul_right}
use Rattle.std.proofs.lemmas.Bool.{cases_lt, eqb-false, eqb-true, le-leb, ltb-false, ne_eqb, true≢false}
use Rattle.std.proofs.lemmas.Nat.{div_below}
use Rattle.hfs_language.specs.declared.refusal.Refusal.{Refusal}
use Rattle.hfs_language.specs.declared.refusal.Refusal.TheVariants as refusal
use Rattle.hfs_volume.specs.Cost.{Plan, attributes_key, bitmap_load, catalog_key, cost_of, cost_or, deep_refusal, depth_of, extents_key, first_of, first_refusal, growth, growth_blocks, growth_for, growth_writes, is_too_deep, load_of, load_refusal, missing, need, new_maps, plan_of, resource_refusal, rises, suffices, takes_extent, tree_at, tree_load, whole_nodes, where_}
use Rattle.hfs_volume.specs.Forks.{parts_for}
use Rattle.hfs_volume.specs.declared.cost.Cost.{Cost}
use Rattle.hfs_volume.specs.declared.cost.Needs.{Needs}
use Rattle.hfs_volume.specs.declared.cost.Room.{Room}
use Rattle.hfs_volume.specs.declared.cost.TreeCost.{TreeCost}
use Rattle.tree_weights.specs.Weights.{GrowsByEnough, HoldsThree}
use Rattle.volume_base.specs.Room.{counted}

-- ---- numbers

parts_none : (part : ℕ) → 0 < part → parts_for 0 part ≡ 0
parts_none part some = omega (arith, div_below (0 + part - 1) part 1 (omega (arith, some)) (omega (arith, some)))

pub parts_hold : (size part : ℕ) → 0 < part → size ≤ parts_for size part * part
parts_hold size part some = let it : size + part - 1 < (size + part - 1) / part * part + part = lt-div-mul-add some in omega (arith, it, some)

positive : (n : ℕ) → (n ≡ 0 → ⊥) → 0 < n
positive zero never = absurd (never refl)
positive (suc n) never = omega arith

-- ---- one tree

-- a tree as a sound volume has it: nodes of a size that volumes have, not more of them than a volume has sectors, and room for three records
pub record IsUsual (key : ℕ) (tree : TreeCost) : Type 0 where
  pub nodes : tree.nodes ≤ 2147483648
  pub size : tree.node_size ≤ 32768
  pub three : HoldsThree key tree

-- the number of nodes that is tried first where a tree grows
abbrev first_growth : ℕ → TreeCost → ℕ → ℕ
first_growth block tree lacks = (parts_for (max lacks (tree.nodes / 4)) (whole_nodes block tree) + 0) * whole_nodes block tree

unit_low : (block size : ℕ) → block ≤ 65536 → max 1 (block / size) ≤ 65536
unit_low block size low = omega (arith, low, div-le_self block size)

-- it is little more than what is lacking and a quarter of the nodes
first_low : (block : ℕ) (tree : TreeCost) (lacks : ℕ) → block ≤ 65536 → tree.nodes ≤ 2147483648 → lacks ≤ 4718592 → tree.nodes + first_growth block tree lacks ≤ 4294967295
first_low block tree lacks low few small =
    let n : ℕ = max lacks (tree.nodes / 4) in
    let under : (n + whole_nodes block tree - 1) / whole_nodes block tree * whole_nodes block tree ≤ n + whole_nodes block tree - 1 = div-mul-le_self (n + whole_nodes block tree - 1) (whole_nodes block tree) in
    omega (arith, under, unit_low block tree.node_size low, few, small)

first_enough : (block : ℕ) (tree : TreeCost) (lacks : ℕ) → lacks ≤ first_growth block tree lacks
first_enough block tree lacks = omega (arith, parts_hold (max lacks (tree.nodes / 4)) (whole_nodes block tree) (omega arith))

-- where no map node is wanted for it, it is the number by which the tree grows
grows_first : (block : ℕ) (tree : TreeCost) (lacks : ℕ) → 20 < tree.node_size → tree.nodes + first_growth block tree lacks ≤ tree.map_bits → growth_for block tree lacks ≡ first_growth block tree lacks
unfolding growth_for
grows_first block tree lacks size fits =
    ap (λ m. first_of (suffices tree lacks) (map (λ k. (parts_for (max lacks (tree.nodes / 4)) (whole_nodes block tree) + k) * whole_nodes block tree) (range_with_len 0 m))) {x = tree.nodes + lacks + 2} {y = suc (tree.nodes + lacks + 1)} (omega arith)
    ∙ ap (λ b. if b then first_growth block tree lacks else first_of (suffices tree lacks) (map (λ k. (parts_for (max lacks (tree.nodes / 4)) (whole_nodes block tree) + k) * whole_nodes block tree) (range_with_len (0 + 1) (tree.nodes + lacks + 1)))) passes
  where
    none : new_maps tree (first_growth block tree lacks) ≡ 0
    none = ap (λ n. parts_for n (8 * (tree.node_size - 20))) {x = tree.nodes + first_growth block tree lacks - tree.map_bits} {y = 0} (omega (arith, fits)) ∙ parts_none (8 * (tree.node_size - 20)) (omega (arith, size))

    passes : suffices tree lacks (first_growth block tree lacks) ≡ true
    passes = le-leb lacks (first_growth block tree lacks - new_maps tree (first_growth block tree lacks)) (omega (arith, none, first_enough block tree lacks))

-- ---- edits that aren't too many

few_rises : (key edits : ℕ) (tree : TreeCost) → 0 < edits → is_too_deep key tree edits ≡ false → depth_of tree + 1 + rises key tree edits ≤ 11
few_rises key edits tree some low =
    let tests = (nat_le 8 tree.depth || nat_lt 11 (depth_of tree + 1 + rises key tree edits) || nat_lt 4294967295 (tree.records + edits)) in
    ltb-false 11 (depth_of tree + 1 + rises key tree edits) (second_false (nat_le 8 tree.depth) (nat_lt 11 (depth_of tree + 1 + rises key tree edits)) (nat_lt 4294967295 (tree.records + edits))
    (sym (ap (λ b. not b && (nat_le 8 tree.depth || nat_lt 11 (depth_of tree + 1 + rises key tree edits) || nat_lt 4294967295 (tree.records + edits))) (ne_eqb edits 0 (λ is. absurd (omega (arith, some, is))))) ∙ low))
  where
    second_false : (a b c : Bool) → (a || b || c) ≡ false → b ≡ false
    second_false true b c is = absurd (true≢false is)
    second_false false true c is = absurd (true≢false is)
    second_false false false c is = refl

few_needed : (key edits : ℕ) (tree : TreeCost) → 0 < edits → IsUsual key tree → is_too_deep key tree edits ≡ false → need key tree edits ≤ 4718592
few_needed key edits tree some usual low =
    let wide : ℕ = (tree.node_size - 16) / (key + 8) - 2 in
    let rising : depth_of tree + 1 + edits / ((tree.node_size - 16) / (key + 8) - 2) ≤ 11 = few_rises key edits tree some low in
    let three : 3 ≤ (tree.node_size - 16) / (key + 8) = (le-div_iff_mul-le {k = key + 8} {x = 3} {y = tree.node_size - 16} (omega arith)).1 (omega (arith, usual.three)) in
    let below : (tree.node_size - 16) / (key + 8) ≤ tree.node_size - 16 = div-le_self (tree.node_size - 16) (key + 8) in
    let under : edits < edits / wide * wide + wide = lt-div-mul-add (omega (arith, three)) in
    let rows : edits / wide * wide ≤ 10 * wide = mul-le-mul_right {m = edits / wide} {n = 10} wide (omega (arith, rising)) in
    let all : edits * (depth_of tree + 2 + edits / wide) ≤ edits * 12 = mul-le-mul_left edits (omega (arith, rising)) in
    omega (arith, all, under, rows, below, usual.size)

-- ---- the same growth and load

module _ (law : GrowsByEnough) (block key edits : ℕ) (tree : TreeCost) (low_block : block ≤ 65536) (usual : 0 < edits → IsUsual key tree) where
  some_edits : 0 < missing key tree edits → 0 < edits
  some_edits some = by_test (edits == 0) refl
    where
      by_test : (b : Bool) → (edits == 0) ≡ b → 0 < edits
      by_test true is = absurd (omega (arith, some, ap (λ n. n * (depth_of tree + 2 + rises key tree n)) (eqb-true edits 0 is)))
      by_test false is = positive edits (eqb-false edits 0 is)

  grows : (t : TreeCost) → HoldsThree key t → 0 < missing key t edits → (growth block key t edits == 0) ≡ false
  grows t three some = ne_eqb (growth block key t edits) 0 (λ is. absurd (omega (arith, some, is, law block key edits t three)))

  -- whether it grows
  pub zero_same : (growth block key (counted tree) edits == 0) ≡ (growth block key tree edits == 0)
  zero_same = by_test (missing key tree edits == 0) refl
    where
      by_test : (b : Bool) → (missing key tree edits == 0) ≡ b → (growth block key (counted tree) edits == 0) ≡ (growth block key tree edits == 0)
      by_test true is =
          ap (λ b. (if b then 0 else growth_for block (counted tree) (missing key tree edits)) == 0) is ∙ sym (ap (λ b. (if b then 0 else growth_for block tree (missing key tree edits)) == 0) is)
      by_test false is =
          let some = positive (missing key tree edits) (eqb-false (missing key tree edits) 0 is) in
          grows (counted tree) (usual (some_edits some)).three some ∙ sym (grows tree (usual (some_edits some)).three some)

  module _ (low : is_too_deep key tree edits ≡ false) where
    abbrev grown : ℕ
    grown = growth block key tree edits

    -- what a tree with a longer map has
    module _ (long : 4294967295 < tree.map_bits) where
      large : 0 < missing key tree edits → (20 < tree.node_size) × (tree.nodes + first_growth block tree (missing key tree edits) ≤ 4294967295)
      large some =
          let it = usual (some_edits some) in (
            omega (arith, it.three),
            first_low block tree (missing key tree edits) low_block it.nodes (omega (arith, few_needed key edits tree (some_edits some) it low)),
          )

      grow_long : growth block key (counted tree) edits ≡ growth block key tree edits
      grow_long = by_test (missing key tree edits == 0) refl
        where
          by_test : (b : Bool) → (missing key tree edits == 0) ≡ b → growth block key (counted tree) edits ≡ growth block key tree edits
          by_test true is = ap (λ b. if b then 0 else growth_for block (counted tree) (missing key tree edits)) is ∙ sym (ap (λ b. if b then 0 else growth_for block tree (missing key tree edits)) is)
          by_test false is =
              let it = large (positive (missing key tree edits) (eqb-false (missing key tree edits) 0 is)) in
              ap (λ b. if b then 0 else growth_for block (counted tree) (missing key tree edits)) is
              ∙ grows_first block (counted tree) (missing key tree edits) it.0 (omega (arith, it.1, long))
              ∙ sym (grows_first block tree (missing key tree edits) it.0 (omega (arith, it.1, long)))
              ∙ sym (ap (λ b. if b then 0 else growth_for block tree (missing key tree edits)) is)

      writes_long : growth_writes (counted tree) (growth block key tree edits) ≡ growth_writes tree (growth block key tree edits)
      writes_long = by_test (missing key tree edits == 0) refl
        where
          maps : (more : ℕ) → tree.nodes + more ≤ 4294967295 → new_maps (counted tree) more ≡ new_maps tree more
          maps more few = ap (λ n. parts_for n (8 * (tree.node_size - 20))) {x = tree.nodes + more - min tree.map_bits 4294967295} {y = tree.nodes + more - tree.map_bits} (omega (arith, few, long))

          by_test : (b : Bool) → (missing key tree edits == 0) ≡ b → growth_writes (counted tree) (growth block key tree edits) ≡ growth_writes tree (growth block key tree edits)
          by_test true is =
              let none : growth block key tree edits ≡ 0 = ap (λ b. if b then 0 else growth_for block tree (missing key tree edits)) is in
              ap (λ n. growth_writes (counted tree) n) none ∙ sym (ap (λ n. growth_writes tree n) none)
          by_test false is =
              let it = large (positive (missing key tree edits) (eqb-false (missing key tree edits) 0 is)) in
              let first : growth block key tree edits ≡ first_growth block tree (missing key tree edits) =
              ap (λ b. if b then 0 else growth_for block tree (missing key tree edits)) is ∙ grows_first block tree (missing key tree edits) it.0 (omega (arith, it.1, long)) in
              ap (λ n. if growth block key tree edits == 0 then 0 else 2 + n) (maps (growth block key tree edits) (omega (arith, first, it.1)))

    pub grow_same : growth block key (counted tree) edits ≡ growth block key tree edits
    unfolding growth_for
    grow_same = ⊎_elim (λ long. grow_long long) (λ short. ap (λ n. growth block key (record tree { map_bits = n }) edits) {x = min tree.map_bits 4294967295} {y = tree.map_bits} (omega (arith, short))) (cases_lt 4294967295 tree.map_bits)

    writes_same : growth_writes (counted tree) (growth block key tree edits) ≡ growth_writes tree (growth block key tree edits)
    writes_same = ⊎_elim (λ long. writes_long long) (λ short. ap (λ n. growth_writes (record tree { map_bits = n }) (growth block key tree edits)) {x = min tree.map_bits 4294967295} {y = tree.map_bits} (omega (arith, short))) (cases_lt 4294967295 tree.map_bits)

    pub load_same : tree_load key (counted tree) edits (growth block key tree edits) ≡ tree_load key tree edits (growth block key tree edits)
    load_same = ap (λ w. if (edits == 0) && (growth block key tree edits == 0) then 0
        else tree.node_size / 512 * min (edits * (4 * (depth_of tree + 2 + rises key tree edits) + 4) + w) (tree.nodes + growth block key tree edits)) writes_same

-- ---- the cost

-- where none of the first refusals comes, what follows is the same
early : (r1 r2 r3 r4 : Option Refusal) (rest later : List (Option Refusal)) (load other : ℕ) (grow more : List ℕ)
    → (r1 ≡ None → r2 ≡ None → r3 ≡ None → r4 ≡ None → (later ≡ rest) × (other ≡ load) × (more ≡ grow))
    → cost_or (first_refusal (r1 ∷ r2 ∷ r3 ∷ r4 ∷ later)) other more ≡ cost_or (first_refusal (r1 ∷ r2 ∷ r3 ∷ r4 ∷ rest)) load grow
early (Some why) r2 r3 r4 rest later load other grow more same = refl
early None (Some why) r3 r4 rest later load other grow more same = refl
early None None (Some why) r4 rest later load other grow more same = refl
early None None None (Some why) rest later load other grow more same = refl
early None None None None rest later load other grow more same = let s = same refl refl refl refl in λ i. cost_or (first_refusal (s.0 i)) (s.1 i) (s.2 i)

where_false : (b : Bool) (why : Refusal) → where_ b why ≡ None → b ≡ false
where_false true why is = absurd (cc is)
where_false false why is = refl

-- a count of extents
eight_same : (n : ℕ) → nat_le 8 (min n 4294967295) ≡ nat_le 8 n
eight_same n = ⊎_elim (λ (long : 4294967295 < n). le-leb 8 (min n 4294967295) (omega (arith, long)) ∙ sym (le-leb 8 n (omega (arith, long)))) (λ (short : n ≤ 4294967295). ap (nat_le 8) {x = min n 4294967295} {y = n} (omega (arith, short))) (cases_lt 4294967295 n)

full_same : (n : ℕ) → (min n 4294967295 == 8) ≡ (n == 8)
full_same n = ⊎_elim (λ (long : 4294967295 < n). ne_eqb (min n 4294967295) 8 (λ is. absurd (omega (arith, is, long))) ∙ sym (ne_eqb n 8 (λ is. absurd (omega (arith, is, long))))) (λ (short : n ≤ 4294967295). ap (λ k. k == 8) {x = min n 4294967295} {y = n} (omega (arith, short))) (cases_lt 4294967295 n)

-- the refusals behind those of ids and depths
abbrev later_refusals : Needs → Room → Plan → List (Option Refusal)
later_refusals needs room plan =
    where_ (not (slice_index plan.grow 0 == 0) && ((tree_at room 0).extents == 8)) (refusal.OverflowFull 8)
    ∷ where_ (nat_lt room.free (needs.new_blocks + growth_blocks plan room)) (refusal.NoSpace room.free (needs.new_blocks + growth_blocks plan room))
    ∷ where_ (not (growth_blocks plan room == 0) && nat_lt room.longest (needs.new_blocks + growth_blocks plan room)) (refusal.NoRun room.longest (needs.new_blocks + growth_blocks plan room))
    ∷ load_refusal (load_of needs room plan) room.capacity
    ∷ []

module _ (law : GrowsByEnough) (needs : Needs) (room : Room) (a b c : TreeCost) (low : room.block ≤ 65536) (one : IsUsual extents_key a) (two : 0 < slice_index needs.edits 1 → IsUsual catalog_key b) (three : 0 < slice_index needs.edits 2 → IsUsual attributes_key c) where
  abbrev whole : Room
  whole = record room { trees = a ∷ b ∷ c ∷ [] }

  abbrev cut : Room
  cut = record room { trees = counted a ∷ counted b ∷ counted c ∷ [] }

  abbrev catalog_edits : ℕ
  catalog_edits = slice_index needs.edits 1

  abbrev attribute_edits : ℕ
  attribute_edits = slice_index needs.edits 2

  -- how many edits of the extents file the growth of another tree wants
  takes_same : (key edits : ℕ) (t : TreeCost) → (0 < edits → IsUsual key t) → takes_extent (counted t) (growth room.block key (counted t) edits) ≡ takes_extent t (growth room.block key t edits)
  takes_same key edits t usual = λ i. if not (zero_same law room.block key edits t low usual i) && eight_same t.extents i then 1 else 0

  abbrev extents_edits : ℕ
  extents_edits = slice_index needs.edits 0 + takes_extent b (growth room.block catalog_key b (slice_index needs.edits 1)) + takes_extent c (growth room.block attributes_key c (slice_index needs.edits 2))

  abbrev cut_plan : Plan
  cut_plan = record {
    edits = extents_edits ∷ slice_index needs.edits 1 ∷ slice_index needs.edits 2 ∷ [];
    grow = growth room.block extents_key (counted a) extents_edits ∷ growth room.block catalog_key (counted b) (slice_index needs.edits 1) ∷ growth room.block attributes_key (counted c) (slice_index needs.edits 2) ∷ [];
  }

  plan_is : plan_of needs cut ≡ cut_plan
  plan_is = λ i.
      let n = slice_index needs.edits 0 + takes_same catalog_key (slice_index needs.edits 1) b two i + takes_same attributes_key (slice_index needs.edits 2) c three i in
      record {
        edits = n ∷ slice_index needs.edits 1 ∷ slice_index needs.edits 2 ∷ [];
        grow = growth room.block extents_key (counted a) n ∷ growth room.block catalog_key (counted b) (slice_index needs.edits 1) ∷ growth room.block attributes_key (counted c) (slice_index needs.edits 2) ∷ [];
      }

  module _ (shallow_a : is_too_deep extents_key a extents_edits ≡ false) (shallow_b : is_too_deep catalog_key b (slice_index needs.edits 1) ≡ false) (shallow_c : is_too_deep attributes_key c (slice_index needs.edits 2) ≡ false) where
    grow_a : growth room.block extents_key (counted a) extents_edits ≡ growth room.block extents_key a extents_edits
    grow_a = grow_same law room.block extents_key extents_edits a low (λ some. one) shallow_a

    grow_b : growth room.block catalog_key (counted b) (slice_index needs.edits 1) ≡ growth room.block catalog_key b (slice_index needs.edits 1)
    grow_b = grow_same law room.block catalog_key (slice_index needs.edits 1) b low two shallow_b

    grow_c : growth room.block attributes_key (counted c) (slice_index needs.edits 2) ≡ growth room.block attributes_key c (slice_index needs.edits 2)
    grow_c = grow_same law room.block attributes_key (slice_index needs.edits 2) c low three shallow_c

    load_a : tree_load extents_key (counted a) extents_edits (growth room.block extents_key (counted a) extents_edits) ≡ tree_load extents_key a extents_edits (growth room.block extents_key a extents_edits)
    load_a = ap (tree_load extents_key (counted a) extents_edits) grow_a ∙ load_same law room.block extents_key extents_edits a low (λ some. one) shallow_a

    load_b : tree_load catalog_key (counted b) (slice_index needs.edits 1) (growth room.block catalog_key (counted b) (slice_index needs.edits 1)) ≡ tree_load catalog_key b (slice_index needs.edits 1) (growth room.block catalog_key b (slice_index needs.edits 1))
    load_b = ap (tree_load catalog_key (counted b) (slice_index needs.edits 1)) grow_b ∙ load_same law room.block catalog_key (slice_index needs.edits 1) b low two shallow_b

    load_c : tree_load attributes_key (counted c) (slice_index needs.edits 2) (growth room.block attributes_key (counted c) (slice_index needs.edits 2)) ≡ tree_load attributes_key c (slice_index needs.edits 2) (growth room.block attributes_key c (slice_index needs.edits 2))
    load_c = ap (tree_load attributes_key (counted c) (slice_index needs.edits 2)) grow_c ∙ load_same law room.block attributes_key (slice_index needs.edits 2) c low three shallow_c

    grows_same : cut_plan.grow ≡ (plan_of needs whole).grow
    grows_same = λ i. grow_a i ∷ grow_b i ∷ grow_c i ∷ []

    blocks_same : growth_blocks cut_plan cut ≡ growth_blocks (plan_of needs whole) whole
    blocks_same = λ i. grow_a i * a.node_size / room.block + grow_b i * b.node_size / room.block + grow_c i * c.node_size / room.block

    loads_same : load_of needs cut cut_plan ≡ load_of needs whole (plan_of needs whole)
    unfolding load_of
    loads_same = λ i. 1 + needs.updates * (b.node_size / 512) + load_a i + load_b i + load_c i + bitmap_load needs room (blocks_same i)

    later_same : later_refusals needs cut cut_plan ≡ later_refusals needs whole (plan_of needs whole)
    later_same = λ i.
        where_ (not (grow_a i == 0) && full_same a.extents i) (refusal.OverflowFull 8)
        ∷ where_ (nat_lt room.free (needs.new_blocks + blocks_same i)) (refusal.NoSpace room.free (needs.new_blocks + blocks_same i))
        ∷ where_ (not (blocks_same i == 0) && nat_lt room.longest (needs.new_blocks + blocks_same i)) (refusal.NoRun room.longest (needs.new_blocks + blocks_same i))
        ∷ load_refusal (loads_same i) room.capacity
        ∷ []

  pub cost_same : cost_of needs cut ≡ cost_of needs whole
  unfolding cost_of
  cost_same =
      ap (λ (p : Plan). cost_or (resource_refusal needs cut p) (load_of needs cut p) p.grow) plan_is
      ∙ early
      (where_ (nat_lt 4294967295 (room.next_id + needs.ids)) (refusal.NoIds room.next_id))
      (deep_refusal extents_key a extents_edits)
      (deep_refusal catalog_key b (slice_index needs.edits 1))
      (deep_refusal attributes_key c (slice_index needs.edits 2))
      (later_refusals needs whole (plan_of needs whole))
      (later_refusals needs cut cut_plan)
      (load_of needs whole (plan_of needs whole))
      (load_of needs cut cut_plan)
      (plan_of needs whole).grow
      cut_plan.grow
      (λ none first second third.
      let x = where_false (is_too_deep extents_key a extents_edits) (refusal.TooDeep a.depth) first in
      let y = where_false (is_too_deep catalog_key b (slice_index needs.edits 1)) (refusal.TooDeep b.depth) second in
      let z = where_false (is_too_deep attributes_key c (slice_index needs.edits 2)) (refusal.TooDeep c.depth) third in
      (later_same x y z, loads_same x y z, grows_same x y z))
