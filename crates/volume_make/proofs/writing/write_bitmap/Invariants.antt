use Rattle.std.proofs.Common.{◌≤◌, IsTrue}
use Rattle.sector_disk.specs.Disk.{SameDisk, SameSink, content}
use Rattle.volume_make.specs.Layout.{first_of}
use Rattle.volume_make.specs.Texts.{bitmap_sector}
use Rattle.volume_make.specs.Written.{Writes}
use Rattle.volume_make.proofs.writing.write_bitmap.Given as goal

abbrev pub invariant-loop-k : goal.invariant-loop-k
invariant-loop-k g l = record {
  written : IsTrue (g.D.SectorDisk.state l.initial.disk).tells → Writes (first_of l.fn.layout l.fn.layout.bitmap) l.k (bitmap_sector l.fn.layout) (content (g.D.SectorDisk.state l.initial.disk)) (content (g.D.SectorDisk.state l.disk));
  same : SameDisk (g.D.SectorDisk.state l.initial.disk) (g.D.SectorDisk.state l.disk);
  sink : SameSink (g.D.SectorDisk.state l.initial.disk) (g.D.SectorDisk.state l.disk);
  later : (g.D.SectorDisk.state l.initial.disk).faults ≤ (g.D.SectorDisk.state l.disk).faults;
}
