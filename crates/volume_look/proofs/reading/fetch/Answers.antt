use Rattle.std.proofs.Common.{◌∙◌, ap, sym, subst}
use Rattle.sector_disk.specs.Disk.{content}
use Rattle.sector_disk.specs.Lists.{Content, sector}
use Rattle.jnl_replay.specs.Viewing.{shown}
use Rattle.volume_look.specs.Slots.{AreCopies}
use Rattle.volume_look.proofs.Opened.{still_shown}
use Rattle.volume_look.proofs.reading.fetch.Goals as goal

pub returns-in_err-read-clause-fresh : goal.returns-in_err-read-clause-fresh
returns-in_err-read-clause-fresh g c tells =
    let same = still_shown c.args.peek.now (g.D.SectorDisk.state c.args.disk.now) (g.D.SectorDisk.state c.read.new.disk) c.read.ensures.reads in
    subst (λ (x : Content). AreCopies x c.args.slots.now) (sym same) (c.requires.fresh tells)

pub returns-clause-fresh : goal.returns-clause-fresh
returns-clause-fresh g c tells =
    let s1 = g.D.SectorDisk.state c.read.new.disk in
    let same = still_shown c.args.peek.now (g.D.SectorDisk.state c.args.disk.now) s1 c.read.ensures.reads in
    c.keep.ensures (shown c.args.peek.now s1.sectors (content s1)) (subst (λ (x : Content). AreCopies x c.args.slots.now) (sym same) (c.requires.fresh tells))
    (c.in_ok-read.ensures.value tells ∙ ap (λ (x : Content). sector x c.args.at) (sym same))
