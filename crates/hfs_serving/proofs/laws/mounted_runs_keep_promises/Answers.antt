use Rattle.hfs_serving.specs.Outside.{outside_of}
use Rattle.hfs_serving.proofs.Promising.{keeps_from, mount_joins}
use Rattle.hfs_serving.proofs.laws.mounted_runs_keep_promises.Goals as goal

pub returns : goal.returns
returns g c capacity plan start now texts source source_new x y z sound may starts mounts step taken =
    let old = g.D.SectorDisk.state x in
    let mid = g.D.SectorDisk.state y in
    let new = g.D.SectorDisk.state z in
    keeps_from c.aside_is_free.ensures capacity start plan old new texts (g.met.D.SectorDisk.only_now x) starts sound may source source_new taken
    (mount_joins capacity start now texts (outside_of plan old) (outside_of plan mid) (outside_of plan new) mounts step)
