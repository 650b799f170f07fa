use Rattle.hfs_serving.proofs.Replays.{replay_turns}
use Rattle.hfs_serving.proofs.replaying.replay_image.Goals as goal

pub returns-clause-turns : goal.returns-clause-turns
returns-clause-turns g c tells settled start recovers same =
    let s0 = g.D.SectorDisk.state c.args.disk.now in
    let s1 = g.D.SectorDisk.state c.replay.new.disk in
    replay_turns c.args.plan.now s0 s1 s0.sectors c.requires.fits (c.requires.plan tells) start recovers same (c.replay.ensures.crash tells settled) c.replay.ensures.sink
