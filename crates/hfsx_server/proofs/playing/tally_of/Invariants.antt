use Rattle.std.proofs.Common.{◌≡◌, drop, true}
use Rattle.hfsx_server.specs.Playing.{tallied}
use Rattle.hfsx_server.proofs.playing.tally_of.Given as goal

abbrev pub invariant-loop-byte : goal.invariant-loop-byte
invariant-loop-byte l = tallied l.tally (drop l.byte-index l.told) ≡ tallied (record { begins = true; done = l.done; refused = l.refused }) l.told
