use Rattle.std.proofs.Common.{◌≡◌, ◌<◌, ◌+◌, subst, arith}
use Rattle.sector_disk.specs.Disk.{with_candidate}
use Rattle.sector_disk.proofs.Writing.{same_after, sink_after}
use Rattle.volume_make.specs.Layout.{first_of}
use Rattle.volume_make.specs.Texts.{bitmap_sector}
use Rattle.volume_make.proofs.Writes.{disk_writes_more}
use Rattle.volume_make.proofs.writing.write_bitmap.Goals as goal

pub loop-k-preserved : goal.loop-k-preserved
loop-k-preserved g c =
    let old = g.D.SectorDisk.state c.args.disk.now in
    let now = g.D.SectorDisk.state c.loop-k.disk in
    let new = g.D.SectorDisk.state c.write.new.self in
    let first = first_of c.args.layout c.args.layout.bitmap in
    let inside : first + c.loop-k.k < old.sectors = omega (arith, c.requires.inside, c.loop-k-test.true, c.sectors_in-k-end.ensures) in
    let is : new.candidates ≡ with_candidate now.candidates (first + c.loop-k.k) c.bitmap_sector.result =
    subst (λ n. new.candidates ≡ with_candidate now.candidates (n + c.loop-k.k) c.bitmap_sector.result) c.sectors_in-first.ensures c.in_ok-write.ensures.written in
    record {
      written = λ tells. disk_writes_more first c.loop-k.k (bitmap_sector c.args.layout) old now new c.bitmap_sector.result (g.met.D.SectorDisk.well_formed c.args.disk.now) tells (c.loop-k.invariant.written tells) inside is c.bitmap_sector.ensures;
      same = same_after old now new c.loop-k.invariant.same c.write.ensures.same;
      sink = sink_after old now new c.loop-k.invariant.sink c.write.ensures.sink;
      later = omega (arith, c.loop-k.invariant.later, c.write.ensures.cause.later);
    }
