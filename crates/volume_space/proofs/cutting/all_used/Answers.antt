use Rattle.std.proofs.Common.{List, subst}
use Rattle.hx_bytes.specs.declared.extents.Extent.{Extent}
use Rattle.file_io.specs.Places.{AreUsed}
use Rattle.fork_map.specs.Blocks.{blocks_of}
use Rattle.volume_space.proofs.cutting.all_used.Goals as goal

pub returns : goal.returns
returns c is = subst (λ (l : List Extent). AreUsed c.args.map.now (blocks_of l)) c.as_slice.ensures (c.are_used.ensures is)
