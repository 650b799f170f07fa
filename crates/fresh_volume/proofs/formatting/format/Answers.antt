use Rattle.std.proofs.Common.{ℕ, List, ◌^◌, ◌<◌, subst}
use Rattle.std.specs.List.{AllByRecursion}
use Rattle.fresh_volume.proofs.Making.{fresh_where_made}
use Rattle.fresh_volume.proofs.formatting.format.Goals as goal

pub returns-clause-fresh : goal.returns-clause-fresh
returns-clause-fresh g c = λ tells.
    let units = subst (λ (l : List ℕ). AllByRecursion (λ unit. unit < 2 ^ 16) l) c.as_slice.ensures c.units_fit.ensures in
    fresh_where_made (g.D.SectorDisk.state c.args.disk.now) (g.D.SectorDisk.state c.format.new.disk) c.args.block c.args.journal c.args.name.now c.format.result (g.met.D.SectorDisk.well_formed c.args.disk.now) tells units c.format.ensures.refused (c.format.ensures.formatted tells)
