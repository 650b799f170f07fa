use Rattle.std.proofs.Common.{◌∙◌}
use Rattle.jnl_store.specs.Standing.{StandsForDurable}
use Rattle.jnl_store.proofs.Slots.{each_same, each_still, made_home, on_ok, own_by, then_read, untouched_both}
use Rattle.jnl_store.proofs.store.Store.checkpoint_whole.Goals as goal

pub returns-clause-done : goal.returns-clause-done
returns-clause-done g c tells =
    let s0 = g.D.SectorDisk.state c.args.disk.now in
    let s1 = g.D.SectorDisk.state c.try_checkpoint.new.disk in
    let s2 = g.D.SectorDisk.state c.reread_slots.new.disk in
    let t = c.try_checkpoint.ensures in
    let r = c.reread_slots.ensures in
    on_ok c.reread_slots.result _ _
    (own_by c.reread_slots.result c.has_nothing_to_bring_home-idle.result _ _ (λ busy. r.own busy (t.same.tells ∙ tells)) (λ quiet. let h = c.has_nothing_to_bring_home-idle.ensures.0 quiet in (t.idle h.0 h.1, (r.nothing quiet).1)))
    (λ own. made_home c.args.self.now c.try_checkpoint.new.self c.reread_slots.new.self s0 s1 s2 r.reads r.plan r.batch r.unsettled t.journal
    (g.met.D.SectorDisk.well_formed c.args.disk.now) (g.met.D.SectorDisk.well_formed c.reread_slots.new.disk) (tells, c.requires.keeps tells) t.slots r.slots own c.try_checkpoint.ensures.puts.0 (c.in_ok-try_checkpoint.ensures.done tells))

pub returns-clause-crash : goal.returns-clause-crash
returns-clause-crash g c tells =
    let s0 = g.D.SectorDisk.state c.args.disk.now in
    let s1 = g.D.SectorDisk.state c.try_checkpoint.new.disk in
    let s2 = g.D.SectorDisk.state c.reread_slots.new.disk in
    then_read s0 s1 s2 (StandsForDurable c.args.self.now s0) (c.try_checkpoint.ensures.crash tells) c.try_checkpoint.ensures.sink c.reread_slots.ensures.reads

pub returns-clause-idle : goal.returns-clause-idle
returns-clause-idle g c none quiet =
    let s0 = g.D.SectorDisk.state c.args.disk.now in
    let s1 = g.D.SectorDisk.state c.try_checkpoint.new.disk in
    let s2 = g.D.SectorDisk.state c.reread_slots.new.disk in
    untouched_both s0 s1 s2 (c.try_checkpoint.ensures.idle none quiet) (c.reread_slots.ensures.nothing (c.has_nothing_to_bring_home-idle.ensures.1 (none, quiet))).0

pub returns-clause-slots : goal.returns-clause-slots
returns-clause-slots g c = each_still c.args.self.now c.try_checkpoint.new.self c.reread_slots.new.self.cache c.try_checkpoint.ensures.journal c.try_checkpoint.ensures.slots c.reread_slots.ensures.slots

pub returns-in_err-try_checkpoint-clause-slots : goal.returns-in_err-try_checkpoint-clause-slots
returns-in_err-try_checkpoint-clause-slots g c = each_same c.args.self.now.plan c.args.self.now.cache c.try_checkpoint.new.self.cache c.try_checkpoint.ensures.slots
