use Rattle.std.proofs.Common.{length}
use Rattle.tree_kit.proofs.Rooms.{untold_growth}
use Rattle.tree_kit.proofs.calls.lengthen.Goals as goal

pub grow-requires-clause-room : goal.grow-requires-clause-room
grow-requires-clause-room c = untold_growth c.args.tree.now c.args.run (length c.args.space.now.list.items)
