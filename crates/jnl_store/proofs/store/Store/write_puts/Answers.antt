use Rattle.std.proofs.Common.{List, sym, ◌∙◌, ap, subst}
use Rattle.sector_disk.specs.Disk.{CrashesLeave, content}
use Rattle.jnl_store.specs.Appending.{IsAppended, MayAppend, durable_by, longer}
use Rattle.jnl_replay.specs.declared.plan.Plan.{Plan}
use Rattle.jnl_store.specs.Batch.{AreOnce}
use Rattle.jnl_store.specs.InUse.{HasPlaces}
use Rattle.jnl_store.specs.Lists.{lists_homes}
use Rattle.jnl_store.specs.Newest.{newest, or_later}
use Rattle.jnl_store.specs.Overlay.{overlay}
use Rattle.jnl_store.specs.Standing.{StandsForOne}
use Rattle.jnl_store.specs.Store.{KeepsRingOn, durable_of, is_kept}
use Rattle.jnl_store.specs.declared.puts.Put.{Put}
use Rattle.jnl_store.proofs.Composed.{crash_both, keeps_mid, ready_mid, settles_both}
use Rattle.jnl_store.proofs.Grown.{settles_grown}
use Rattle.jnl_store.proofs.Room.{longer_places}
use Rattle.jnl_store.proofs.Settling.{either_of, fits_still}
use Rattle.jnl_store.proofs.store.Store.write_puts.Goals as goal

pub returns-in_err-make_room-clause-crash : goal.returns-in_err-make_room-clause-crash
unfolding durable_of is_kept
returns-in_err-make_room-clause-crash g c tells = either_of c.args.self.now (g.D.SectorDisk.state c.args.disk.now) (g.D.SectorDisk.state c.make_room.new.disk) (c.make_room.ensures.crash tells)

pub append-requires-clause-ready : goal.append-requires-clause-ready
unfolding durable_of is_kept
append-requires-clause-ready g c told =
    let mid = c.make_room.new.self in
    let s0 = g.D.SectorDisk.state c.args.disk.now in
    let s1 = g.D.SectorDisk.state c.make_room.new.disk in
    let m = c.make_room.ensures in
    let tells = sym m.same.tells ∙ told in (
      mid.batch.live,
      subst (λ (l : List Put). MayAppend mid.plan mid.batch.live l s1) (sym c.as_slice.ensures.items)
          (ready_mid c.args.self.now mid s0 s1 (tells, c.requires.keeps tells) m.same m.journal m.puts.0 (c.in_ok-make_room.ensures.done tells) (c.requires.header tells) (c.requires.version tells)),
    )

pub returns-in_err-plan-clause-crash : goal.returns-in_err-plan-clause-crash
unfolding durable_of is_kept
returns-in_err-plan-clause-crash g c tells =
    let store = c.args.self.now in
    let mid = c.make_room.new.self in
    let s0 = g.D.SectorDisk.state c.args.disk.now in
    let s1 = g.D.SectorDisk.state c.make_room.new.disk in
    let s2 = g.D.SectorDisk.state c.append.new.disk in
    let m = c.make_room.ensures in
    crash_both c.args.self.now mid s0 s1 (tells, c.requires.keeps tells) m.same m.journal m.puts.0 (c.in_ok-make_room.ensures.done tells) s2 (m.crash tells) m.sink
    (subst (λ (l : List Put). CrashesLeave s1 s2 (StandsForOne mid.plan s1 (durable_by mid.plan (content s1)) (overlay l (durable_by mid.plan (content s1))))) c.as_slice.ensures.items (c.append.ensures.crash (m.same.tells ∙ tells)))

pub returns-clause-crash : goal.returns-clause-crash
unfolding durable_of is_kept
returns-clause-crash g c tells =
    let store = c.args.self.now in
    let mid = c.make_room.new.self in
    let s0 = g.D.SectorDisk.state c.args.disk.now in
    let s1 = g.D.SectorDisk.state c.make_room.new.disk in
    let s2 = g.D.SectorDisk.state c.append.new.disk in
    let m = c.make_room.ensures in
    crash_both c.args.self.now mid s0 s1 (tells, c.requires.keeps tells) m.same m.journal m.puts.0 (c.in_ok-make_room.ensures.done tells) s2 (m.crash tells) m.sink
    (subst (λ (l : List Put). CrashesLeave s1 s2 (StandsForOne mid.plan s1 (durable_by mid.plan (content s1)) (overlay l (durable_by mid.plan (content s1))))) c.as_slice.ensures.items (c.append.ensures.crash (m.same.tells ∙ tells)))

pub returns-clause-done : goal.returns-clause-done
unfolding durable_of is_kept
returns-clause-done g c tells =
    let store = c.args.self.now in
    let mid = c.make_room.new.self in
    let s0 = g.D.SectorDisk.state c.args.disk.now in
    let s1 = g.D.SectorDisk.state c.make_room.new.disk in
    let s2 = g.D.SectorDisk.state c.append.new.disk in
    let m = c.make_room.ensures in
    let kept : KeepsRingOn c.args.self.now s0 = (tells, c.requires.keeps tells) in
    let done = c.in_ok-make_room.ensures.done tells in
    let items = c.as_slice.ensures.items in
    let told = m.same.tells ∙ tells in
    settles_both c.args.self.now mid s0 s1 kept m.same m.journal m.puts.0 done _ s2
    (settles_grown mid _ s1 s2 (keeps_mid c.args.self.now mid s0 s1 kept m.same m.journal m.puts.0 done) (g.met.D.SectorDisk.well_formed c.make_room.new.disk) c.append.ensures.same
    (ready_mid c.args.self.now mid s0 s1 kept m.same m.journal m.puts.0 done (c.requires.header tells) (c.requires.version tells))
    (subst AreOnce items c.as_slice.ensures.once)
    (fits_still c.args.self.now mid s0.sectors s1.sectors m.same.sectors m.journal c.requires.fits) c.in_ok-make_room.ensures.room
    (subst (λ (l : List Put). IsAppended mid.plan l s1 s2) items (c.in_ok-plan.ensures.written told))
    (c.in_ok-plan.ensures.plan ∙ ap (longer mid.plan) items)
    c.make_live.ensures.nothing.0 c.make_live.ensures.nothing.1
    (λ at. c.make_live.ensures.newest at ∙ ap (λ n. or_later (newest (lists_homes mid.plan.header.blhdr n 0 mid.batch.all) at) (newest mid.batch.live at)) c.live_bytes-from.ensures.value))

pub invariant_of-self-2-clause-places : goal.invariant_of-self-2-clause-places
invariant_of-self-2-clause-places g c =
    let mid = c.make_room.new.self in
    let live = c.make_live.new.self.live in
    subst (λ (q : Plan). HasPlaces q live c.make_live.new.self.most) (sym (c.in_ok-plan.ensures.plan ∙ ap (longer mid.plan) c.as_slice.ensures.items))
    (subst (λ n. HasPlaces (longer mid.plan mid.batch.all) live n) (sym c.make_live.ensures.most)
    (longer_places mid.plan mid.batch.all mid.batch.live live mid.batch.most mid.rest c.in_ok-make_room.ensures.room mid.places c.make_live.ensures.few))
