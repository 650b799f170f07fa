use Rattle.file_tests.proofs.GateLaws.{used_more}
use Rattle.std.proofs.Common.{List, subst, arith}
use Rattle.std.proofs.lemmas.List.{take_all}
use Rattle.hx_bytes.specs.declared.extents.Extent.{Extent}
use Rattle.fork_map.specs.Blocks.{blocks_of}
use Rattle.file_io.specs.Places.{AreUsed}
use Rattle.file_tests.proofs.gates.uses.Goals as goal

pub loop-extent-preserved : goal.loop-extent-preserved
loop-extent-preserved c = used_more c.args.map.now c.args.list.now c.loop-extent.extent-index (record { start = 0; count = 0 }) c.loop-extent-test.true c.loop-extent.invariant (c.have.ensures.0 c.if-not-have.false)

pub returns : goal.returns
returns c = λ is. subst (λ (l : List Extent). AreUsed c.args.map.now (blocks_of l)) (take_all c.loop-extent.extent-index c.args.list.now (omega (arith, c.loop-extent-test.false))) c.loop-extent.invariant
