use Rattle.std.proofs.Common.{◌∙◌, subst}
use Rattle.std.specs.Prelude.{IfErr, IfOk}
use Rattle.jnl_format.specs.Recovery.{Content}
use Rattle.hfs_serving.proofs.Served.{reads_content}
use Rattle.hfsx_server.specs.Repairing.{RefusesRepair}
use Rattle.hfsx_server.proofs.repairing.find_repair.Goals as goal

pub returns-in-Ok-clause-refused : goal.returns-in-Ok-clause-refused
returns-in-Ok-clause-refused g c tells =
    let s0 = g.D.SectorDisk.state c.args.disk.now in
    let s1 = g.D.SectorDisk.state c.open_image.new.disk in
    let reads = c.open_image.ensures.reads in
    subst (λ (x : Content). IfOk c.find_opened.result (λ answer. IfErr answer (RefusesRepair x))) (reads_content s0 s1 reads) (c.find_opened.ensures.refused (reads.same.tells ∙ tells))
