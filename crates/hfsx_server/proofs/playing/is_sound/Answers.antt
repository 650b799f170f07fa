use Rattle.hfsx_server.proofs.Streams.{begun_sound}
use Rattle.mem_disk.specs.MemRig.{rig_state}
use Rattle.hfsx_server.proofs.playing.is_sound.Goals as goal

pub returns-in-Refused : goal.returns-in-Refused
returns-in-Refused c tree mounts =
    let starts = c.in_ok-rig.ensures.image in
    absurd (c.check.ensures.unsound starts.tells c.in-Refused.is (begun_sound c.args.image.now.sectors.items (rig_state c.in_ok-rig.rig) tree starts mounts))
