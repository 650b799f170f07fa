use Rattle.std.proofs.Common.{◌≡◌, ℕ, ◌+◌, ◌-◌, ◌*◌, ◌<◌, IsTrue, length, get_or, min, max}
use Rattle.fork_map.specs.Blocks.{blocks_of, sectors_of}
use Rattle.file_io.specs.Walks.{StandsAt}
use Rattle.file_io.specs.Bytes.{byte_in}
use Rattle.file_io.specs.Touching.{IsOnlyRead}
use Rattle.file_io.proofs.reading.read_part.Given as goal

abbrev pub invariant-loop-n : goal.invariant-loop-n
invariant-loop-n g l = let old = g.P.SectorView.space l.fn.space in record {
  walk : StandsAt l.fork l.per_block l.walk l.n;
  size : length l.bytes.items ≡ max l.from (min l.end (l.n * 512)) - l.from;
  each : IsTrue old.tells → (j : ℕ) → j < length l.bytes.items → get_or l.bytes.items j 0 ≡ byte_in old.content (sectors_of l.per_block (blocks_of l.fork)) (l.from + j);
  space : IsOnlyRead old (g.P.SectorView.space l.space);
  below : g.P.SectorView.follows l.fn.space l.space;
}
