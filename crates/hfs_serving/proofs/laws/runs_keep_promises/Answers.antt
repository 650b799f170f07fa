use Rattle.hfs_serving.proofs.Mounting.{plain_keeps, promises_all}
use Rattle.hfs_serving.proofs.laws.runs_keep_promises.Goals as goal

pub returns-clause-answers : goal.returns-clause-answers
returns-clause-answers g c capacity plan start run answers known a b sound may starts crashes =
    promises_all c.aside_is_free.ensures plan capacity start (g.D.SectorDisk.state a) (g.D.SectorDisk.state b) run answers known crashes starts (g.met.D.SectorDisk.only_now a) sound may

pub returns-clause-plain : goal.returns-clause-plain
returns-clause-plain g c capacity start run known source source_new a b keeps taken = plain_keeps capacity start (g.D.SectorDisk.state a) source run known (g.D.SectorDisk.state b) source_new keeps taken
