use Rattle.std.proofs.Common.{sym, subst}
use Rattle.hfsx_server.specs.Telling.{Tells, mount_text}
use Rattle.hfsx_server.proofs.refusal.tell_mount.Goals as goal

pub returns-in-Image : goal.returns-in-Image
returns-in-Image g c = subst (λ why. Tells (g.R.SectorDisk.state c.args.rig.now) (g.R.SectorDisk.state c.tell_open.new.rig) (mount_text c.args.findings.now why)) (sym c.in-Image.is) c.tell_open.ensures

pub returns-in-CaseFolding : goal.returns-in-CaseFolding
returns-in-CaseFolding g c = subst (λ why. Tells (g.R.SectorDisk.state c.args.rig.now) (g.R.SectorDisk.state c.tell_case.new.rig) (mount_text c.args.findings.now why)) (sym c.in-CaseFolding.is) c.tell_case.ensures

pub returns-in-Unsound : goal.returns-in-Unsound
returns-in-Unsound g c = subst (λ why. Tells (g.R.SectorDisk.state c.args.rig.now) (g.R.SectorDisk.state c.tell_findings.new.rig) (mount_text c.args.findings.now why)) (sym c.in-Unsound.is) c.tell_findings.ensures
