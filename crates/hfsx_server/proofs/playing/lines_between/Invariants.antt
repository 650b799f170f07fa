use Rattle.std.proofs.Common.{◌≡◌, ◌-◌}
use Rattle.hfsx_server.specs.Playing.{stream_from}
use Rattle.hfsx_server.proofs.Streams.{text_of}
use Rattle.hfsx_server.proofs.playing.lines_between.Given as goal

abbrev pub invariant-loop-i : goal.invariant-loop-i
invariant-loop-i l = l.bytes.items ≡ text_of (stream_from l.seed l.first (l.i - l.first))
