use Rattle.std.proofs.Common.{◌≡◌, ◌∙◌, ◌≤◌, ◌*◌, ◌^◌, min, ap, sym, arith, length}
use Rattle.fork_map.specs.Blocks.{blocks_of, fork_sectors}
use Rattle.fsck_scan.proofs.WholeLaws.{blank_past, few_sectors, sectors_long}
use Rattle.fsck_scan.proofs.whole.nodes_there.Goals as goal

pub overflow_mul-sectors : goal.overflow_mul-sectors
overflow_mul-sectors c =
    let few = few_sectors c.count_blocks-blocks.result c.args.fork.now.per_block (omega (arith, c.count_blocks-blocks.ensures.few)) c.requires.blocks in
    omega (arith, few)

pub returns-clause-blank : goal.returns-clause-blank
returns-clause-blank c content =
    blank_past content c.args.fork.now.limit (fork_sectors c.args.fork.now.extents.now c.args.fork.now.per_block) c.args.head.now.shape.node_size c.args.head.now.shape.total (c.count_blocks-blocks.result * c.args.fork.now.per_block) c.min.result c.requires.size
    (sectors_long c.args.fork.now.per_block (blocks_of c.args.fork.now.extents.now) ∙ ap (λ n. n * c.args.fork.now.per_block) (sym (c.count_blocks-blocks.ensures.blocks ∙ ap (λ l. length (blocks_of l)) c.as_slice.ensures)))
    (c.min.ensures ∙ ap (λ n. min n c.args.head.now.shape.total) c.div_ceil-nodes.ensures)
