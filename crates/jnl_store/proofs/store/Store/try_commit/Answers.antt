use Rattle.std.proofs.Common.{◌≡◌, [], refl, ap, arith}
use Rattle.jnl_store.specs.Batch.{Staged}
use Rattle.jnl_store.proofs.Composed.{crash_cleared, keeps_cleared, settles_cleared}
use Rattle.jnl_store.proofs.Settling.{no_puts}
use Rattle.jnl_store.proofs.store.Store.try_commit.Goals as goal

pub returns-then-len-eq0-clause-done : goal.returns-then-len-eq0-clause-done
returns-then-len-eq0-clause-done g c tells =
    let s0 = g.D.SectorDisk.state c.args.disk.now in
    let s1 = g.D.SectorDisk.state c.flush_spills.new.disk in
    let none : c.args.self.now.batch.all ≡ [] = no_puts c.args.self.now.batch.all (omega (arith, c.len.ensures.count, c.if-len-eq0.true)) in
    settles_cleared c.flush_spills.result c.args.self.now _ c.flush_spills.new.self s0 s1 refl none (ap (λ (b : Staged). b.all) c.clear.ensures)
    (c.flush_spills.ensures.done (keeps_cleared c.args.self.now _ s0 refl refl (ap (λ (b : Staged). b.live) c.clear.ensures) (ap (λ (b : Staged). b.all) c.clear.ensures) (ap (λ (b : Staged). b.kept) c.clear.ensures) (tells, c.requires.keeps tells)))

pub returns-then-len-eq0-clause-crash : goal.returns-then-len-eq0-clause-crash
returns-then-len-eq0-clause-crash g c tells =
    let s0 = g.D.SectorDisk.state c.args.disk.now in
    let s1 = g.D.SectorDisk.state c.flush_spills.new.disk in
    crash_cleared c.args.self.now _ s0 s1 refl
    (c.flush_spills.ensures.crash (keeps_cleared c.args.self.now _ s0 refl refl (ap (λ (b : Staged). b.live) c.clear.ensures) (ap (λ (b : Staged). b.all) c.clear.ensures) (ap (λ (b : Staged). b.kept) c.clear.ensures) (tells, c.requires.keeps tells)))
