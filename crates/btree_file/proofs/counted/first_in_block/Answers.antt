use Rattle.std.proofs.Common.{arith}
use Rattle.fork_map.specs.Blocks.{blocks_of}
use Rattle.btree_file.proofs.CountedLaws.{follow_first}
use Rattle.btree_file.proofs.counted.first_in_block.Goals as goal

pub returns-in-Some-clause-following : goal.returns-in-Some-clause-following
returns-in-Some-clause-following c k low =
    follow_first c.args.per_block (blocks_of c.args.fork.now) c.args.place c.args.many c.in-Some.block (omega arith) (omega arith) c.in-Some.ensures.block k low
