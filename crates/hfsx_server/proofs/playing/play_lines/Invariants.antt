use Rattle.std.proofs.Common.{◌*◌}
use Rattle.std.specs.Prelude.{min}
use Rattle.hfsx_server.specs.Playing.{HasPlayed}
use Rattle.hfsx_server.proofs.playing.play_lines.Given as goal

abbrev pub invariant-loop-part : goal.invariant-loop-part
invariant-loop-part l = HasPlayed l.seed (min l.count (l.part * 4096)) l.stage
