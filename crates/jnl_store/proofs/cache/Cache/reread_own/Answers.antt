use Rattle.std.proofs.Common.{refl, ◌∙◌}
use Rattle.sector_disk.specs.Disk.{content}
use Rattle.jnl_store.proofs.Cached.{reread_same}
use Rattle.jnl_store.proofs.Owned.{owns_none}
use Rattle.jnl_store.proofs.cache.Cache.reread_own.Goals as goal

pub returns-then-is-clause-slots : goal.returns-then-is-clause-slots
returns-then-is-clause-slots g c = (refl, λ k below. reread_same c.args.plan.now _)

pub returns-then-is-clause-own : goal.returns-then-is-clause-own
returns-then-is-clause-own g c = λ tells. owns_none c.args.plan.now (content (g.D.SectorDisk.state c.args.disk.now)) c.self.inside.own c.self.inside.names.items c.self.inside.bytes.items c.args.self.now
    (c.is.ensures c.if-is.true ∙ c.of-own.ensures) (c.self.invariant.none c.if-not-self.true) c.self.view_is
