use Rattle.std.proofs.Common.{length, arith, ap}
use Rattle.btree_edit.proofs.Cuts.{node_holds}
use Rattle.btree_edit.proofs.splitting.node_taken.Goals as goal

pub returns-clause-taken : goal.returns-clause-taken
returns-clause-taken c = omega (arith, node_holds c.args.node.now c.requires.well_formed, ap length c.bytes-size.ensures.value, c.room.ensures)
