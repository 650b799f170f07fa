use Rattle.hfsx_server.proofs.Streams.{if_so, made_mounts}
use Rattle.hfs_model.specs.Plain.{fresh_tree}
use Rattle.hfs_volume.specs.Mount.{MountsTo}
use Rattle.mem_disk.specs.MemRig.{rig_state}
use Rattle.mem_disk.specs.declared.image.MemImage.{MemImage}
use Rattle.sector_disk.specs.Disk.{IsImage}
use Rattle.hfsx_server.proofs.playing.formatted.Goals as goal

pub returns-in-Done : goal.returns-in-Done
returns-in-Done c =
    let old = rig_state c.in_ok-rig.rig in
    let new = rig_state c.format.new.rig in
    if_so (λ (it : MemImage). IsImage new.candidates it.sectors.items) (λ (it : MemImage). MountsTo it.sectors.items fresh_tree) c.image.result
    (λ it leaves. made_mounts old new it.sectors.items (c.format.ensures.made c.in_ok-rig.ensures.zeros.tells c.in-Done.is) leaves) c.image.ensures.image
