use Rattle.std.proofs.Common.{sym, subst}
use Rattle.hfsx_server.specs.Repairing.{repair_text}
use Rattle.hfsx_server.specs.Telling.{Tells}
use Rattle.hfsx_server.specs.declared.repairing.RepairRefusal.{RepairRefusal}
use Rattle.hfsx_server.proofs.repairing.tell_repair_refusal.Goals as goal

pub returns-in-TooBig : goal.returns-in-TooBig
returns-in-TooBig g c = subst (λ (why : RepairRefusal). Tells (g.R.SectorDisk.state c.args.rig.now) (g.R.SectorDisk.state c.tell_big.new.rig) (repair_text why)) (sym c.in-TooBig.is) c.tell_big.ensures
