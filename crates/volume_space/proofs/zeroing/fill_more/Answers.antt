use Rattle.std.proofs.Common.{ap, arith, refl}
use Rattle.std.specs.Prelude.{Contains, Some}
use Rattle.std.proofs.lemmas.Result.{err_from_is_err_and}
use Rattle.sector_disk.specs.Space.{Space}
use Rattle.sector_disk.proofs.SpaceLaws.{space_none}
use Rattle.volume_base.specs.Frame.{Serves}
use Rattle.volume_base.specs.Standing.{own_sectors}
use Rattle.volume_base.specs.declared.volume.Filling.{Filling}
use Rattle.volume_base.proofs.Commanding.{touches_none}
use Rattle.volume_base.proofs.Seeing.{cause_on}
use Rattle.volume_space.proofs.Filled.{fills_then, filled_then, hand_apart, hand_inside, hand_many, hand_may, serves_then, service_then, touches_then}
use Rattle.volume_space.proofs.Filling.{on_fault, service_with, serves_with}
use Rattle.volume_space.proofs.zeroing.fill_more.Goals as goal

pub returns-then-not-is_sure_to_fill-clause-frame : goal.returns-then-not-is_sure_to_fill-clause-frame
returns-then-not-is_sure_to_fill-clause-frame g c =
    record {
      below = g.met.P.SectorView.follows_refl c.args.space.now;
      cause = record { later = omega arith; failed = tt };
      rest = refl;
      service = c.requires.serves.stands.service;
      serves = tt;
      filled = tt;
      touches = λ committed holds alike. touches_none committed (λ s. Contains (own_sectors c.args.volume.now) s) (g.P.SectorView.space c.args.space.now);
      room = record { put = λ s. refl; spare = refl };
      same = space_none (g.P.SectorView.space c.args.space.now);
    }

pub fill_next-requires-clause-block : goal.fill_next-requires-clause-block
fill_next-requires-clause-block g c = (c.is_sure_to_fill.ensures c.if-not-is_sure_to_fill.false).block

pub fill_next-requires-clause-inside : goal.fill_next-requires-clause-inside
fill_next-requires-clause-inside g c =
    hand_inside c.args.volume.now c.args.it (g.P.SectorView.space c.args.space.now) c.requires.serves.stands c.requires.serves.settled c.requires.closed c.requires.in_hand (c.is_sure_to_fill.ensures c.if-not-is_sure_to_fill.false)

pub fill_next-requires-clause-apart : goal.fill_next-requires-clause-apart
fill_next-requires-clause-apart g c =
    hand_apart c.args.volume.now c.args.it (g.P.SectorView.space c.args.space.now) c.requires.serves.stands c.requires.serves.settled c.requires.closed c.requires.in_hand (c.is_sure_to_fill.ensures c.if-not-is_sure_to_fill.false)

pub fill_next-requires-clause-within : goal.fill_next-requires-clause-within
fill_next-requires-clause-within g c =
    omega (
      arith,
      c.requires.within,
      hand_many c.args.volume.now c.args.it (g.P.SectorView.space c.args.space.now) c.requires.serves.stands c.requires.serves.settled c.requires.closed c.requires.in_hand (c.is_sure_to_fill.ensures c.if-not-is_sure_to_fill.false),
    )

pub fill_next-requires-clause-small : goal.fill_next-requires-clause-small
fill_next-requires-clause-small g c = omega (arith, c.requires.within, c.requires.in_hand.enough, c.count_free-free.ensures)

pub fill_next-requires-clause-may_spill : goal.fill_next-requires-clause-may_spill
fill_next-requires-clause-may_spill g c n sector is =
    hand_may c.args.volume.now c.args.it (g.P.SectorView.space c.args.space.now) c.requires.serves.stands c.requires.serves.settled c.requires.closed c.requires.in_hand (c.is_sure_to_fill.ensures c.if-not-is_sure_to_fill.false) n sector is

pub returns-in_err-next-clause-frame : goal.returns-in_err-next-clause-frame
returns-in_err-next-clause-frame g c =
    let v = c.args.volume.now in
    let a : Space = g.P.SectorView.space c.args.space.now in
    let b : Space = g.P.SectorView.space c.fill_next.new.space in
    let sure = c.is_sure_to_fill.ensures c.if-not-is_sure_to_fill.false in
    let p = err_from_is_err_and c.from_residual.result c.from_residual.ensures.1 in
    record {
      below = c.fill_next.ensures.below;
      cause = cause_on c.in_err-next.field-0.0 p.0 a.faults a.faults b.faults c.from_residual.result p.1 p.2 (omega arith) c.in_err-next.ensures.cause;
      rest = refl;
      service = service_then v c.args.it a b c.requires.serves.stands c.requires.serves.settled c.requires.closed c.requires.in_hand sure c.fill_next.ensures.same c.fill_next.ensures.touches;
      serves = on_fault _ c.from_residual.result p.0 p.1;
      filled = on_fault _ c.from_residual.result p.0 p.1;
      touches = λ committed holds alike. touches_then v c.args.it a b c.requires.serves.stands c.requires.serves.settled c.requires.closed c.requires.in_hand sure c.fill_next.ensures.same c.fill_next.ensures.touches committed holds alike c.fill_next.ensures.room c.fill_next.ensures.cause.later c.fill_next.ensures.time;
      room = c.fill_next.ensures.room;
      same = c.fill_next.ensures.same;
    }

pub returns-clause-fills : goal.returns-clause-fills
returns-clause-fills g c tells =
    let v = c.args.volume.now in
    let a : Space = g.P.SectorView.space c.args.space.now in
    let b : Space = g.P.SectorView.space c.fill_next.new.space in
    let sure = c.is_sure_to_fill.ensures c.if-not-is_sure_to_fill.false in
    fills_then v c.args.it a b c.requires.serves.stands c.requires.serves.settled c.requires.closed c.requires.in_hand sure c.fill_next.ensures.same c.fill_next.ensures.touches c.free_is_filled.ensures tells

pub returns-clause-next : goal.returns-clause-next
returns-clause-next g c = ap (λ (f : Filling). Some f) c.in_ok-next.ensures.next

pub returns-clause-frame : goal.returns-clause-frame
returns-clause-frame g c =
    let v = c.args.volume.now in
    let a : Space = g.P.SectorView.space c.args.space.now in
    let b : Space = g.P.SectorView.space c.fill_next.new.space in
    let sure = c.is_sure_to_fill.ensures c.if-not-is_sure_to_fill.false in
    let next = c.in_ok-next.next in
    let now : Serves v b = serves_then v c.args.it a b c.requires.serves.stands c.requires.serves.settled c.requires.closed c.requires.in_hand sure c.fill_next.ensures.same c.fill_next.ensures.touches c.free_is_filled.ensures c.in_ok-next.ensures.sizes in
    record {
      below = c.fill_next.ensures.below;
      cause = record { later = c.fill_next.ensures.cause.later; failed = tt };
      rest = refl;
      service = service_with v (Some next) b now.stands.service;
      serves = serves_with v (Some next) b now;
      filled = filled_then v c.args.it a b c.requires.serves.stands c.requires.serves.settled c.requires.closed c.requires.in_hand sure c.fill_next.ensures.same c.fill_next.ensures.touches next c.in_ok-next.ensures.next c.in_ok-next.ensures.zeros;
      touches = λ committed holds alike. touches_then v c.args.it a b c.requires.serves.stands c.requires.serves.settled c.requires.closed c.requires.in_hand sure c.fill_next.ensures.same c.fill_next.ensures.touches committed holds alike c.fill_next.ensures.room c.fill_next.ensures.cause.later c.fill_next.ensures.time;
      room = c.fill_next.ensures.room;
      same = c.fill_next.ensures.same;
    }
