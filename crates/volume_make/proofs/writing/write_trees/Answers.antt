use Rattle.std.proofs.Common.{IsTrue, List, ℕ, sym, subst}
use Rattle.std.proofs.lemmas.Result.{on_ok_weaker}
use Rattle.sector_disk.specs.Disk.{content}
use Rattle.volume_make.specs.Layout.{first_of, count_of}
use Rattle.volume_make.specs.Texts.{piece}
use Rattle.volume_make.specs.Written.{Writes}
use Rattle.volume_make.proofs.Writes.{trees_written}
use Rattle.volume_make.proofs.writing.write_trees.Goals as goal

pub returns-clause-written : goal.returns-clause-written
returns-clause-written g c t0 =
    let trees = c.args.trees.now in
    let layout = c.args.layout in
    let c0 = content (g.D.SectorDisk.state c.args.disk.now) in
    let c1 = content (g.D.SectorDisk.state c.write_part.new.disk) in
    let c2 = content (g.D.SectorDisk.state c.write_part-2.new.disk) in
    let c3 = content (g.D.SectorDisk.state c.write_part-3.new.disk) in
    let t1 = subst IsTrue (sym c.write_part.ensures.same.tells) t0 in
    let t2 = subst IsTrue (sym c.write_part-2.ensures.same.tells) t1 in
    let w1 = subst (λ (text : List ℕ). Writes (first_of layout layout.extents) (count_of layout layout.extents) (piece text) c0 c1) c.as_slice.ensures.value (c.in_ok-write_part.ensures.written t0) in
    let w2 = subst (λ (text : List ℕ). Writes (first_of layout layout.attributes) (count_of layout layout.attributes) (piece text) c1 c2) c.as_slice-2.ensures.value (c.in_ok-write_part-2.ensures.written t1) in
    on_ok_weaker c.write_part-3.result
    (λ w3. trees_written layout trees.extents.items trees.attributes.items trees.catalog.items c0 c1 c2 c3 c.requires.fitting w1 w2
    (subst (λ (text : List ℕ). Writes (first_of layout layout.catalog) (count_of layout layout.catalog) (piece text) c2 c3) c.as_slice-3.ensures.value w3))
    (c.write_part-3.ensures.written t2)
