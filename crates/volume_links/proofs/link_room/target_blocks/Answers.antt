use Rattle.std.proofs.Common.{◌<◌, arith}
use Rattle.volume_space.proofs.PutNumbers.{parts_are}
use Rattle.volume_links.proofs.link_room.target_blocks.Goals as goal

pub blocks_for-blocks-requires : goal.blocks_for-blocks-requires
blocks_for-blocks-requires c = omega (arith, c.requires.block)

pub returns-clause-many : goal.returns-clause-many
returns-clause-many c =
    let some : 0 < c.args.block = omega (arith, c.requires.block) in
    omega (arith, c.blocks_for-blocks.ensures, parts_are c.args.long c.args.block some)

pub returns-clause-some : goal.returns-clause-some
returns-clause-some c = omega (arith, c.if-long-eq0.false)

pub returns-clause-short : goal.returns-clause-short
returns-clause-short c = omega (arith, c.if-long-gt-MOST_TARGET.false)
