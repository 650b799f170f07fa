use Rattle.std.proofs.Common.{IsTrue, sym, subst}
use Rattle.std.proofs.lemmas.Result.{on_ok_weaker}
use Rattle.sector_disk.specs.Disk.{content}
use Rattle.volume_make.proofs.Writes.{volume_written}
use Rattle.volume_make.proofs.writing.write_volume.Goals as goal

pub returns-clause-written : goal.returns-clause-written
returns-clause-written g c t0 =
    let trees = c.args.trees.now in
    let t1 = subst IsTrue (sym c.write_front.ensures.same.tells) t0 in
    let t2 = subst IsTrue (sym c.write_trees.ensures.same.tells) t1 in
    on_ok_weaker c.write_headers.result
    (λ w3. volume_written c.args.layout trees.extents.items trees.attributes.items trees.catalog.items
    (content (g.D.SectorDisk.state c.args.disk.now)) (content (g.D.SectorDisk.state c.write_front.new.disk)) (content (g.D.SectorDisk.state c.write_trees.new.disk)) (content (g.D.SectorDisk.state c.write_headers.new.disk))
    c.requires.fitting (c.in_ok-write_front.ensures.written t0) (c.in_ok-write_trees.ensures.written t1) w3)
    (c.write_headers.ensures.written t2)

pub returns-clause-settled : goal.returns-clause-settled
returns-clause-settled g c t0 =
    let t1 = subst IsTrue (sym c.write_front.ensures.same.tells) t0 in
    c.write_headers.ensures.settled (subst IsTrue (sym c.write_trees.ensures.same.tells) t1)
