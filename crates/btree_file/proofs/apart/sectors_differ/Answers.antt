use Rattle.btree_file.proofs.Sectors.{none_meet_apart, apart_none_meet}
use Rattle.btree_file.proofs.apart.sectors_differ.Goals as goal

pub returns : goal.returns
returns c = (
  λ t. none_meet_apart c.args.per_block c.args.extents.now (c.are_apart.ensures.0 t),
  λ apart. c.are_apart.ensures.1 (apart_none_meet c.args.per_block c.args.extents.now c.requires apart),
)
