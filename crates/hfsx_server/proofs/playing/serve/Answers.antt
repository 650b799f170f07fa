use Rattle.std.proofs.Common.{◌∙◌}
use Rattle.hfsx_server.proofs.Streams.{mounts_begun, served_bytes}
use Rattle.mem_disk.specs.MemRig.{rig_state}
use Rattle.mem_disk.specs.MemSource.{source_stream}
use Rattle.hfsx_server.proofs.playing.serve.Goals as goal

pub returns-in-Done : goal.returns-in-Done
returns-in-Done c tree mounts =
    let image = c.args.image.now.sectors.items in
    let starts = c.in_ok-rig.ensures.image in
    let begun = mounts_begun image (rig_state c.in_ok-rig.rig) tree starts mounts in
    served_bytes image (rig_state c.in_ok-rig.rig) (rig_state c.run.new.rig) tree starts mounts c.args.bytes.now (source_stream c.in_ok-source.source) (source_stream c.run.new.source) c.in_ok-source.ensures.stream
    (c.run.ensures.finished starts.tells begun.0 mounts.0 mounts.1 begun.1 c.in-Done.is) c.in_ok-image-in-Done.field-0.sectors.items c.in_ok-image-in-Done.ensures.image c.in_ok-told-in-Done.told.items (c.in_ok-told-in-Done.ensures.items ∙ c.told.ensures)
