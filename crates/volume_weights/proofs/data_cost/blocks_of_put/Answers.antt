use Rattle.std.proofs.Common.{◌≡◌, ◌<◌, ◌≤◌, ℕ, sym, ◌∙◌, ap, subst, arith}
use Rattle.hfs_volume.specs.Weight.{new_blocks_of, old_blocks_of}
use Rattle.volume_cost.specs.Sizes.{data_put}
use Rattle.volume_weights.proofs.DataBlocks.{few_new, few_old, usual_parts}
use Rattle.volume_weights.proofs.data_cost.blocks_of_put.Goals as goal

pub count_blocks-requires-clause-block : goal.count_blocks-requires-clause-block
count_blocks-requires-clause-block c = omega (arith, (usual_parts c.args.block c.args.put c.requires.usual).0)

pub count_blocks-requires-clause-old_size : goal.count_blocks-requires-clause-old_size
count_blocks-requires-clause-old_size c = omega (arith, (usual_parts c.args.block c.args.put c.requires.usual).1)

pub count_blocks-requires-clause-new_size : goal.count_blocks-requires-clause-new_size
count_blocks-requires-clause-new_size c = let it = usual_parts c.args.block c.args.put c.requires.usual in omega (arith, it.1, it.2)

pub count_blocks-requires-clause-end : goal.count_blocks-requires-clause-end
count_blocks-requires-clause-end c = omega (arith, (usual_parts c.args.block c.args.put c.requires.usual).2)

pub returns-clause-few_new : goal.returns-clause-few_new
returns-clause-few_new c = omega (arith, few_new c.args.block c.args.put c.requires.usual, c.count_blocks.ensures.new ∙ ap (λ (n : ℕ). new_blocks_of c.args.block (data_put c.args.put.old_size n c.args.put.from c.args.put.end)) c.max.ensures)

pub returns-clause-few_old : goal.returns-clause-few_old
returns-clause-few_old c = omega (arith, few_old c.args.block c.args.put c.requires.usual, c.count_blocks.ensures.old ∙ ap (λ (n : ℕ). old_blocks_of c.args.block (data_put c.args.put.old_size n c.args.put.from c.args.put.end)) c.max.ensures)
