-- A growth of a file with fewer than eight extents fits as one of any number does.
use Rattle.std.proofs.Common.{◌<◌, ℕ, length}
use Rattle.btree_file.specs.declared.tree.TreeFile.{TreeFile}
use Rattle.hx_bytes.specs.declared.extents.ForkRecord.{ForkRecord}
use Rattle.sector_disk.specs.Space.{Space}
use Rattle.volume_base.specs.declared.volume.Volume.{Volume}
use Rattle.volume_space.specs.Growing.{FileFits}
use Rattle.volume_space.specs.SpreadGrowth.{SpreadFits}

-- a file of fewer extents has the room of one that has any number
pub short_fits : (more : ℕ) (file : TreeFile) (fork : ForkRecord) (v : Volume) (a : Space) → length file.fork < 8 → SpreadFits more file fork v a → FileFits more file fork v a
short_fits more file fork v a short it = record {
  some = it.some;
  run = it.run;
  counts = record { least = it.counts.least; most = it.counts.most; whole = it.counts.whole; extents = short; nodes = it.counts.nodes; blocks = it.counts.blocks; bytes = it.counts.bytes; counted = it.counts.counted };
  room = it.room;
}
