use Rattle.std.proofs.Common.{List, get_or, length, arith, subst, sym}
use Rattle.std.specs.Prelude.{All}
use Rattle.std.proofs.lemmas.List.{drop_all}
use Rattle.hx_bytes.specs.declared.extents.Extent.{Extent}
use Rattle.fork_map.specs.Blocks.{blocks_of}
use Rattle.file_io.specs.Places.{AreUsed}
use Rattle.volume_space.proofs.CutCalls.{used_step}
use Rattle.volume_space.proofs.cutting.are_used.Goals as goal

pub loop-extent-preserved : goal.loop-extent-preserved
loop-extent-preserved c used =
    c.loop-extent.invariant (used_step c.args.map.now c.args.extents.now c.loop-extent.extent-index (record { start = 0; count = 0 }) c.loop-extent-test.true (c.have.ensures.0 c.if-not-have.false) used)
