use Rattle.std.proofs.Common.{false, arith}
use Rattle.hfs_volume.specs.TreeOf.{tree_of}
use Rattle.volume_base.proofs.Loads.{make_load_told}
use Rattle.volume_names.proofs.making.create.Goals as goal

pub make-requires-clause-fine : goal.make-requires-clause-fine
make-requires-clause-fine g c tells = c.requires.fine tells

pub returns-clause-loads : goal.returns-clause-loads
returns-clause-loads g c tells n grow is = omega (arith, c.make.ensures.edits.ran.spent tells, make_load_told c.args.volume.now (g.P.SectorView.space c.args.space.now).content (c.requires.serves.settled tells) (c.requires.room.told tells).2 c.args.volume.now.capacity false c.args.path.now (tree_of (g.P.SectorView.space c.args.space.now).content) n grow is)
