use Rattle.std.proofs.Common.{◌≡◌, ℕ, ◌+◌, ◌-◌, ◌/◌, ◌%◌, ◌<◌, ◌^◌, List, [], ◌∷◌, ◌++◌, min, sym, ◌∙◌, ap, subst, arith}
use Rattle.std.specs.List.{range_with_len}
use Rattle.std.proofs.lemmas.Bool.{true≢false}
use Rattle.std.proofs.lemmas.List.Concat.{flat_map-append}
use Rattle.hx_bytes.specs.declared.extents.Extent.{Extent}
use Rattle.fork_map.specs.Blocks.{blocks_of, sectors_of}
use Rattle.btree_file.specs.Growth.{bits_each, map_nodes_for, nodes_with}
use Rattle.btree_file.specs.Map.{bits_of}
use Rattle.btree_file.specs.Place.{AreApart}
use Rattle.btree_file.specs.declared.tree.TreeFile.{TreeFile}
use Rattle.btree_file.proofs.tree.TreeFile.plan_growth.Goals as goal

-- the blocks of a longer fork
longer : (fork list slice : List Extent) (run : Extent) → slice ≡ list → blocks_of list ≡ blocks_of fork ++ blocks_of (run ∷ []) → blocks_of slice ≡ blocks_of (fork ++ run ∷ [])
longer fork list slice run same is = ap blocks_of same ∙ is ∙ sym (flat_map-append (λ (x : Extent). range_with_len x.start x.count) fork (run ∷ []))

-- a count of bits that is cut off above all numbers of nodes
gap : (nodes counted bits : ℕ) → nodes < 2 ^ 32 → counted ≡ min bits (2 ^ 32 - 1) → nodes - counted ≡ nodes - bits
gap nodes counted bits few is = omega (arith, few, is)

pub returns-then-not-sectors_differ-clause-found : goal.returns-then-not-sectors_differ-clause-found
returns-then-not-sectors_differ-clause-found c = λ some block apart.
    let tree : TreeFile = c.args.self.now in
    absurd (true≢false (sym (c.if-not-sectors_differ.ensures.1 (subst (λ (b : List ℕ). AreApart (sectors_of tree.per_block b)) (sym (longer tree.fork c.in_ok-fork.fork c.as_slice.result.now c.args.run c.as_slice.ensures c.in_ok-fork.ensures.blocks)) apart))))

pub returns-clause-count : goal.returns-clause-count
returns-clause-count c =
    let tree : TreeFile = c.args.self.now in
    let goal_is : tree.shape.total + c.count_nodes-more.result ≡ nodes_with tree c.args.run = ap (λ n. tree.shape.total + n) c.count_nodes-more.ensures in
    c.count_map_nodes-count.ensures
    ∙ ap (λ nodes. map_nodes_for tree.shape.node_size c.map_bits.result nodes) goal_is
    ∙ ap (λ more. more / bits_each tree.shape.node_size + min 1 (more % bits_each tree.shape.node_size)) (gap (nodes_with tree c.args.run) c.map_bits.result (bits_of tree.map.items) c.requires.few c.map_bits.ensures)
