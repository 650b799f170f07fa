use Rattle.std.proofs.Common.{IsTrue, List, ℕ, sym, subst}
use Rattle.std.proofs.lemmas.Result.{on_ok_weaker}
use Rattle.sector_disk.specs.Disk.{content}
use Rattle.volume_make.specs.Layout.{first_of, count_of}
use Rattle.volume_make.specs.Texts.{piece}
use Rattle.volume_make.specs.Written.{Writes}
use Rattle.volume_make.proofs.Writes.{front_written}
use Rattle.volume_make.proofs.writing.write_front.Goals as goal

pub returns-clause-written : goal.returns-clause-written
returns-clause-written g c t0 =
    let layout = c.args.layout in
    let c0 = content (g.D.SectorDisk.state c.args.disk.now) in
    let c1 = content (g.D.SectorDisk.state c.write_bitmap.new.disk) in
    let c2 = content (g.D.SectorDisk.state c.write_part.new.disk) in
    let c3 = content (g.D.SectorDisk.state c.write_part-2.new.disk) in
    let t1 = subst IsTrue (sym c.write_bitmap.ensures.same.tells) t0 in
    let t2 = subst IsTrue (sym c.write_part.ensures.same.tells) t1 in
    let w2 = subst (λ (text : List ℕ). Writes (first_of layout layout.info) (count_of layout layout.info) (piece text) c1 c2) c.info_sector.ensures (c.in_ok-write_part.ensures.written t1) in
    on_ok_weaker c.write_part-2.result
    (λ w3. front_written layout c0 c1 c2 c3 c.requires.fitting (c.in_ok-write_bitmap.ensures.written t0) w2
    (subst (λ (text : List ℕ). Writes (first_of layout layout.journal) (count_of layout layout.journal) (piece text) c2 c3) c.journal_sector.ensures w3))
    (c.write_part-2.ensures.written t2)
