use Rattle.std.proofs.Common.{◌≡◌, Result, subst}
use Rattle.std.specs.Prelude.{IfErr, IfOk, None, Some}
use Rattle.sector_disk.specs.Disk.{content}
use Rattle.volume_header.specs.Refusal.{header_refusal}
use Rattle.volume_header.specs.declared.header.VolumeHeader.{VolumeHeader}
use Rattle.volume_header.specs.declared.refusal.HeaderRefusal.{HeaderRefusal}
use Rattle.jnl_format.specs.Recovery.{header_of_volume}
use Rattle.jnl_replay.proofs.Checks.{length-content}
use Rattle.jnl_replay.proofs.Found.{header_refused}
use Rattle.hfsx_server.proofs.header.find_header.Goals as goal

pub returns-in-Ok-clause-header : goal.returns-in-Ok-clause-header
returns-in-Ok-clause-header g c tells =
    let s0 = g.D.SectorDisk.state c.args.disk.now in
    subst (λ (r : Result VolumeHeader HeaderRefusal). IfOk r (λ head. head ≡ header_of_volume (content s0))) c.in-Ok.is (c.in_ok-found.ensures.header tells)

pub returns-in-Ok-clause-accepted : goal.returns-in-Ok-clause-accepted
returns-in-Ok-clause-accepted g c =
    let s0 = g.D.SectorDisk.state c.args.disk.now in
    subst (λ (r : Result VolumeHeader HeaderRefusal). IfOk r (λ head. header_refusal head s0.sectors ≡ None)) c.in-Ok.is c.in_ok-found.ensures.accepted

pub returns-in-Err-clause-refused : goal.returns-in-Err-clause-refused
returns-in-Err-clause-refused g c tells =
    let s0 = g.D.SectorDisk.state c.args.disk.now in
    let refused = subst (λ (r : Result VolumeHeader HeaderRefusal). IfErr r (λ why. header_refusal (header_of_volume (content s0)) s0.sectors ≡ Some why)) c.in-Err.is (c.in_ok-found.ensures.refused tells) in
    rw c.refused_header.ensures (header_refused (content s0) s0.sectors c.in-Err.why (length-content s0 (g.met.D.SectorDisk.well_formed c.args.disk.now) tells) refused)
