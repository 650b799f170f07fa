use Rattle.std.proofs.Common.{◌≡◌, ◌<◌, ℕ, ◌+◌, ◌-◌, ◌*◌, ◌/◌, ◌%◌, ◌^◌, min, ◌∙◌, ap, arith}
use Rattle.flag_rows.specs.Bits.{sectors_for}
use Rattle.btree_node.specs.declared.store.TreeShape.{TreeShape}
use Rattle.btree_file.specs.Growth.{bits_each, map_nodes_for}
use Rattle.btree_file.specs.Map.{bits_of}
use Rattle.volume_space.specs.Growing.{blocks_filled, maps_among, run_load}
use Rattle.volume_space.proofs.growable.count_growth_sectors.Goals as goal

-- a count of bits that is cut off above all numbers of nodes
gap : (nodes counted bits : ℕ) → nodes < 2 ^ 32 → counted ≡ min bits (2 ^ 32 - 1) → nodes - counted ≡ nodes - bits
gap nodes counted bits few is = omega (arith, few, is)

pub returns : goal.returns
returns c =
    let size = ap (λ (s : TreeShape). s.node_size) c.shape-shape.ensures in
    let total = ap (λ (s : TreeShape). s.total) c.shape-shape.ensures in
    let maps : c.count_map_nodes-maps.result ≡ maps_among c.args.file.now c.args.more =
    c.count_map_nodes-maps.ensures ∙ (λ i. map_nodes_for (size i) c.map_bits.result (total i + c.args.more))
    ∙ ap (λ more. more / bits_each c.args.file.now.shape.node_size + min 1 (more % bits_each c.args.file.now.shape.node_size))
    (gap (c.args.file.now.shape.total + c.args.more) c.map_bits.result (bits_of c.args.file.now.map.items) c.requires.nodes c.map_bits.ensures) in
    let node : c.from-2.result ≡ c.args.file.now.shape.node_size / 512 = c.from-2.ensures ∙ ap (λ n. n / 512) size in
    let run : c.count_map_sectors.result ≡ run_load c.args.volume.now (blocks_filled c.args.file.now c.args.more) = c.count_map_sectors.ensures ∙ (λ i. min (sectors_for (c.total.ensures i)) (c.requires.blocks i / 4096 + 2)) in
    λ i. (2 + (c.from.ensures ∙ maps) i) * node i + (run i + 1)
