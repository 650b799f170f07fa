use Rattle.std.proofs.Common.{◌<◌, sym, ap, subst}
use Rattle.jnl_replay.specs.declared.plan.Place.{Place}
use Rattle.jnl_replay.proofs.Places.{accepted_place}
use Rattle.hfsx_server.proofs.header.find_journal.Goals as goal

pub validate-requires-clause-info : goal.validate-requires-clause-info
validate-requires-clause-info g c =
    let sectors = (g.D.SectorDisk.state c.args.disk.now).sectors in
    subst (λ n. n < sectors) (sym (ap (λ (p : Place). p.info_sector) c.place_of.ensures)) (accepted_place c.args.header.now sectors c.requires.accepted).0
