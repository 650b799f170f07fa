use Rattle.std.proofs.Common.{arith, ◌≡◌, ◌+◌, ◌-◌, length, drop, subst, sym, length-drop, length-take-le}
use Rattle.jnl_ring.proofs.Pieces.{ReadSo, put_end, read_none, read_more, read_all, read_leaves}
use Rattle.jnl_ring.proofs.reading.read_at.Goals as goal

pub loop-done-init : goal.loop-done-init
loop-done-init g c = read_none c.args.span.now c.args.at (g.D.SectorDisk.state c.args.disk.now) c.args.into.now

pub loop-done-preserved : goal.loop-done-preserved
loop-done-preserved g c =
    let old = g.D.SectorDisk.state c.args.disk.now in
    let now = g.D.SectorDisk.state c.loop-done.disk in
    let new = g.D.SectorDisk.state c.read_piece.new.disk in
    let so_far = c.loop-done.invariant in
    let count = c.in_ok-done.field-0 in
    let long : length c.read_piece.new.into ≡ length c.loop-done.into - c.loop-done.done = omega arith in
    subst (λ into. ReadSo c.args.span.now c.args.at old new into (c.loop-done.done + count)) (sym (put_end c.loop-done.into c.read_piece.new.into c.loop-done.done so_far.room))
    (read_more c.args.span.now c.args.at old now new c.loop-done.into c.read_piece.new.into c.loop-done.done c.advance-offset.result count (g.met.D.SectorDisk.well_formed c.args.disk.now)
    c.requires.span c.requires.on_disk c.requires.at so_far
    (omega (arith, so_far.room, c.in_ok-done.ensures.room, length-take-le (length c.loop-done.into - c.loop-done.done) (drop c.loop-done.done c.loop-done.into) (omega (arith, length-drop c.loop-done.done c.loop-done.into)))) (omega (arith, c.loop-done.auto.into, c.requires.room)) c.advance-offset.ensures.after c.in_ok-done.ensures.inside
    c.in_ok-done.ensures.bytes long c.read_piece.ensures.candidates c.read_piece.ensures.barriers c.read_piece.ensures.same c.read_piece.ensures.sink c.read_piece.ensures.time c.read_piece.ensures.cause.later)

pub returns-clause-bytes : goal.returns-clause-bytes
returns-clause-bytes g c tells =
    let old = g.D.SectorDisk.state c.args.disk.now in
    let now = g.D.SectorDisk.state c.loop-done.disk in
    read_all c.args.span.now c.args.at old now c.loop-done.into c.loop-done.done (length c.args.into.now) (g.met.D.SectorDisk.well_formed c.args.disk.now)
    c.requires.span c.requires.on_disk c.requires.at c.loop-done.invariant c.loop-done-test.false c.loop-done.auto.into c.requires.room tells

pub returns-clause-crash : goal.returns-clause-crash
returns-clause-crash g c = read_leaves (g.D.SectorDisk.state c.args.disk.now) (g.D.SectorDisk.state c.loop-done.disk) c.loop-done.invariant.time c.loop-done.invariant.candidates
