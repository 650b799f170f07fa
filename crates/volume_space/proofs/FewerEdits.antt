-- Fewer edits of one tree lack no node where more lack none, are no deeper, and put no more.
use Rattle.std.proofs.Common.{◌≡◌, ◌<◌, ◌≤◌, ℕ, ◌+◌, ◌-◌, ◌*◌, ◌/◌, min, Bool, true, false, refl, sym, ◌∙◌, ap, subst, arith, le-ltb, mul-le-mul, mul-le-mul_left, div-mul-le_self, zero-mul}
use Rattle.std.specs.Prelude.{◌==◌, ◌&&◌, ◌||◌, nat_lt, nat_le, not, if◌then◌else◌}
use Rattle.std.proofs.Math.Nat.{zero-div}
use Rattle.std.proofs.lemmas.Nat.{le-div}
use Rattle.std.proofs.lemmas.Bool.{eq-eqb, eqb-true, ltb-false, true≢false}
use Rattle.hfs_language.specs.declared.refusal.Refusal.TheVariants as refusal
use Rattle.hfs_volume.specs.Cost.{blocks_of_nodes, depth_of, growth, growth_for, is_too_deep, missing, need, node_sectors, rises, tree_load}
use Rattle.hfs_volume.specs.declared.cost.Cost.TheVariants as cost
use Rattle.hfs_volume.specs.declared.cost.TreeCost.{TreeCost}
use Rattle.tree_weights.specs.Weights.{GrowsByEnough, HoldsThree}

-- no edit lacks a node
pub none_lacks : (block key : ℕ) (tree : TreeCost) → growth block key tree 0 ≡ 0
none_lacks block key tree = ap (λ n. if n == 0 then 0 else growth_for block tree n) none
  where
    none : missing key tree 0 ≡ 0
    none = let it : 0 * (depth_of tree + 2 + rises key tree 0) ≡ 0 = zero-mul (depth_of tree + 2 + rises key tree 0) in omega (arith, it)

pub no_blocks : (block : ℕ) (tree : TreeCost) → blocks_of_nodes block tree 0 ≡ 0
no_blocks block tree = ap (λ n. n / block) (zero-mul tree.node_size) ∙ zero-div block

-- ---- one tree

or_parts : (a b c : Bool) → (a || b || c) ≡ false → (a ≡ false) × (b ≡ false) × (c ≡ false)
or_parts true b c is = absurd (true≢false is)
or_parts false true c is = absurd (true≢false is)
or_parts false false c is = (refl, refl, is)

some_more : (few many : ℕ) → few ≤ many → (few == 0) ≡ false → (many == 0) ≡ false
some_more few many fewer is = by (many == 0) refl
  where
    by : (b : Bool) → (many == 0) ≡ b → b ≡ false
    by true zero = absurd (true≢false (sym (eq-eqb few 0 (omega (arith, fewer, eqb-true many 0 zero))) ∙ is))
    by false zero = refl

div_low : (n m k : ℕ) → 0 < k → n ≤ m → n / k ≤ m / k
div_low n m k some less = let it = div-mul-le_self n k in le-div (n / k) m k some (omega (arith, it, less))

module _ (key few many : ℕ) (tree : TreeCost) (three : HoldsThree key tree) (fewer : few ≤ many) where
  abbrev each : ℕ
  each = (tree.node_size - 16) / (key + 8) - 2

  some_each : 0 < each
  some_each = let it = le-div 3 (tree.node_size - 16) (key + 8) (omega arith) three in omega (arith, it)

  rises_low : rises key tree few ≤ rises key tree many
  rises_low = div_low few many each some_each fewer

  need_low : need key tree few ≤ need key tree many
  need_low = mul-le-mul {n₁ = few} {m₁ = depth_of tree + 2 + rises key tree few} {n₂ = many} {m₂ = depth_of tree + 2 + rises key tree many} fewer (omega (arith, rises_low))

  -- fewer lack no node where more lack none
  pub growth_low : (block : ℕ) → GrowsByEnough → growth block key tree many ≡ 0 → growth block key tree few ≡ 0
  growth_low block enough none = ap (λ n. if n == 0 then 0 else growth_for block tree n) lacks
    where
      lacks : missing key tree few ≡ 0
      lacks = let it = enough block key many tree three in omega (arith, it, none, need_low)

  pub not_deep : is_too_deep key tree many ≡ false → is_too_deep key tree few ≡ false
  not_deep shallow = by (few == 0) refl
    where
      by : (b : Bool) → (few == 0) ≡ b → is_too_deep key tree few ≡ false
      by true is = ap (λ c. not c && (nat_le 8 tree.depth || nat_lt 11 (depth_of tree + 1 + rises key tree few) || nat_lt 4294967295 (tree.records + few))) is
      by false is =
          let parts = or_parts (nat_le 8 tree.depth) (nat_lt 11 (depth_of tree + 1 + rises key tree many)) (nat_lt 4294967295 (tree.records + many))
          (sym (ap (λ c. not c && (nat_le 8 tree.depth || nat_lt 11 (depth_of tree + 1 + rises key tree many) || nat_lt 4294967295 (tree.records + many))) (some_more few many fewer is)) ∙ shallow) in
          λ i. not (is i)
          && (parts.0 i
          || le-ltb 11 (depth_of tree + 1 + rises key tree few) (omega (arith, ltb-false 11 (depth_of tree + 1 + rises key tree many) parts.1, rises_low)) i
          || le-ltb 4294967295 (tree.records + few) (omega (arith, ltb-false 4294967295 (tree.records + many) parts.2, fewer)) i)

  writes_low : few * (4 * (depth_of tree + 2 + rises key tree few) + 4) ≤ many * (4 * (depth_of tree + 2 + rises key tree many) + 4)
  writes_low = mul-le-mul {n₁ = few} {m₁ = 4 * (depth_of tree + 2 + rises key tree few) + 4} {n₂ = many} {m₂ = 4 * (depth_of tree + 2 + rises key tree many) + 4} fewer (omega (arith, rises_low))

  pub load_low : tree_load key tree few 0 ≤ tree_load key tree many 0
  load_low = by (few == 0) refl
    where
      by : (b : Bool) → (few == 0) ≡ b → tree_load key tree few 0 ≤ tree_load key tree many 0
      by true is = subst (λ c. (if c && true then 0 else node_sectors tree * min (few * (4 * (depth_of tree + 2 + rises key tree few) + 4) + 0) (tree.nodes + 0)) ≤ tree_load key tree many 0) (sym is) (omega arith)
      by false is =
          subst (λ (k : Bool × Bool). (if k.0 && true then 0 else node_sectors tree * min (few * (4 * (depth_of tree + 2 + rises key tree few) + 4) + 0) (tree.nodes + 0)) ≤ (if k.1 && true then 0 else node_sectors tree * min (many * (4 * (depth_of tree + 2 + rises key tree many) + 4) + 0) (tree.nodes + 0)))
          {x = (false, false)} {y = (few == 0, many == 0)} (λ i. (sym is i, sym (some_more few many fewer is) i))
          (mul-le-mul_left (node_sectors tree) (omega (arith, writes_low)))
