use Rattle.std.proofs.Common.{◌≡◌, ◌<◌, ◌+◌, subst, arith}
use Rattle.sector_disk.specs.Disk.{with_candidate}
use Rattle.sector_disk.proofs.Writing.{same_after, sink_after}
use Rattle.volume_make.specs.Layout.{first_of}
use Rattle.volume_make.specs.Texts.{piece}
use Rattle.volume_make.proofs.Writes.{disk_writes_more}
use Rattle.volume_make.proofs.writing.write_part.Goals as goal

pub loop-k-preserved : goal.loop-k-preserved
loop-k-preserved g c =
    let old = g.D.SectorDisk.state c.args.disk.now in
    let now = g.D.SectorDisk.state c.loop-k.disk in
    let new = g.D.SectorDisk.state c.write.new.self in
    let first = first_of c.args.layout c.args.part in
    let inside : first + c.loop-k.k < old.sectors = omega (arith, c.requires, c.loop-k-test.true, c.sectors_in-k-end.ensures) in
    let is : new.candidates ≡ with_candidate now.candidates (first + c.loop-k.k) c.piece.result =
    subst (λ n. new.candidates ≡ with_candidate now.candidates (n + c.loop-k.k) c.piece.result) c.sectors_in-first.ensures c.in_ok-write.ensures.written in
    record {
      written = λ tells. disk_writes_more first c.loop-k.k (piece c.args.text.now) old now new c.piece.result (g.met.D.SectorDisk.well_formed c.args.disk.now) tells (c.loop-k.invariant.written tells) inside is c.piece.ensures;
      same = same_after old now new c.loop-k.invariant.same c.write.ensures.same;
      sink = sink_after old now new c.loop-k.invariant.sink c.write.ensures.sink;
      later = omega (arith, c.loop-k.invariant.later, c.write.ensures.cause.later);
    }
