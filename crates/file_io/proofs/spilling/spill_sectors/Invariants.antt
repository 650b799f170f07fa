use Rattle.std.proofs.Common.{◌+◌, ◌*◌, ◌<◌, ◌≤◌}
use Rattle.fork_map.specs.Blocks.{blocks_of, sectors_of}
use Rattle.file_io.specs.Walks.{StandsAt}
use Rattle.file_io.proofs.SpillLaws.{Made}
use Rattle.file_io.proofs.spilling.spill_sectors.Given as goal

abbrev pub invariant-loop-n : goal.invariant-loop-n
invariant-loop-n g l = record {
  low : l.place ≤ l.n;
  old_walk : (l.first + l.n) * 512 < l.size → StandsAt l.fork l.per_block l.old (l.first + l.n);
  new_walk : l.n < l.behind → StandsAt l.fresh l.per_block l.new l.n;
  made : Made (g.P.SectorView.space l.fn.space) (g.P.SectorView.space l.space) (sectors_of l.per_block (blocks_of l.fork)) (sectors_of l.per_block (blocks_of l.fresh)) l.first l.size l.from l.value l.place l.n;
  below : g.P.SectorView.follows l.fn.space l.space;
}
