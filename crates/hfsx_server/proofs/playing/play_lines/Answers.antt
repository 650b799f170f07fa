use Rattle.std.proofs.Common.{◌*◌, ◌+◌, refl, arith}
use Rattle.std.specs.Prelude.{min}
use Rattle.hfsx_server.proofs.Streams.{nothing_played, played_at}
use Rattle.hfsx_server.proofs.playing.play_lines.Goals as goal

pub loop-part-init : goal.loop-part-init
loop-part-init c = played_at c.args.seed 0 (min c.args.count (0 * 4096)) _ (omega arith) (nothing_played c.args.seed _ refl refl c.in_ok-image.ensures)

pub play_part-requires-clause-played : goal.play_part-requires-clause-played
play_part-requires-clause-played c = played_at c.args.seed (min c.args.count (c.loop-part.part * 4096)) _ _ (omega (arith, c.loop-part-test.true, c.div_ceil-part-end.ensures, c.saturating_mul-first.ensures)) c.loop-part.invariant

pub loop-part-preserved : goal.loop-part-preserved
loop-part-preserved c = played_at c.args.seed _ (min c.args.count ((c.loop-part.part + 1) * 4096)) _ (omega (arith, c.loop-part-test.true, c.div_ceil-part-end.ensures, c.saturating_mul-first.ensures, c.saturating_add.ensures, c.min-end.ensures)) c.in_ok-play_part.ensures

pub returns : goal.returns
returns c = played_at c.args.seed (min c.args.count (c.loop-part.part * 4096)) c.args.count _ (omega (arith, c.loop-part-test.false, c.div_ceil-part-end.ensures)) c.loop-part.invariant
