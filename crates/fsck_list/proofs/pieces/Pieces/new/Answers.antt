use Rattle.std.proofs.Common.{◌+◌, ◌/◌}
use Rattle.fsck_list.proofs.PieceLaws.{none_flags}
use Rattle.fsck_list.proofs.pieces.Pieces.new.Goals as goal

pub returns : goal.returns
returns c = none_flags c.args.count ((c.args.count + 8191) / 8192) c.in_ok-pieces.pieces.items c.in_ok-pieces.ensures
