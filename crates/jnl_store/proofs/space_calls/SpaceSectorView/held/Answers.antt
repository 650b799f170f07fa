use Rattle.std.proofs.lemmas.Bool.{and_parts}
use Rattle.jnl_store.specs.Store.{durable_of, is_kept}
use Rattle.jnl_store.proofs.Slots.{run_held}
use Rattle.jnl_store.proofs.space_calls.SpaceSectorView.held.Goals as goal

pub returns : goal.returns
unfolding durable_of is_kept
returns g c tells =
    let store = c.args.self.now.store.now in
    let disk = g.D.SectorDisk.state c.args.self.now.disk.now in
    run_held store disk c.args.at c.args.many c.held.result c.args.self.now.kept (and_parts disk.tells (is_kept store disk.sectors disk.candidates) tells).0 c.held.ensures
