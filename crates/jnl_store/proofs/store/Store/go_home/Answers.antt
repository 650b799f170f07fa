use Rattle.std.proofs.Common.{List, sym, subst}
use Rattle.std.specs.Prelude.{IsTrue}
use Rattle.jnl_format.specs.declared.blocks.Home.{Home}
use Rattle.jnl_store.specs.InUse.{keeps_lists}
use Rattle.jnl_store.proofs.Homed.{settles_home}
use Rattle.jnl_store.proofs.Settling.{kept_parts}
use Rattle.jnl_store.specs.Store.{durable_of}
use Rattle.jnl_store.proofs.store.Store.go_home.Goals as goal

pub write_home-requires-clause-keeps : goal.write_home-requires-clause-keeps
write_home-requires-clause-keeps g c tells =
    let s0 = g.D.SectorDisk.state c.args.disk.now in
    subst (λ (live : List Home). IsTrue (keeps_lists c.args.self.now.plan s0.candidates live)) (sym c.live.ensures) (kept_parts c.args.self.now s0.sectors s0.candidates (c.requires.keeps tells).kept).0

pub returns-clause-done : goal.returns-clause-done
returns-clause-done g c tells =
    let s0 = g.D.SectorDisk.state c.args.disk.now in
    let s1 = g.D.SectorDisk.state c.write_home.new.disk in
    settles_home c.args.self.now _ s0 s1 (tells, c.requires.keeps tells) (g.met.D.SectorDisk.well_formed c.args.disk.now) c.requires.fits c.write_home.ensures.same (c.in_ok-write_home.ensures.home tells) c.rest-self.ensures c.forget.ensures

pub returns-in_err-write_home-clause-crash : goal.returns-in_err-write_home-clause-crash
unfolding durable_of
returns-in_err-write_home-clause-crash g c tells = c.write_home.ensures.crash tells

pub returns-clause-crash : goal.returns-clause-crash
unfolding durable_of
returns-clause-crash g c tells = c.write_home.ensures.crash tells
