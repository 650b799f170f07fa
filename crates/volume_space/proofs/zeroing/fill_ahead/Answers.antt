use Rattle.std.proofs.Common.{◌≡◌, ◌≤◌, ◌∙◌, ◌+◌, ap, arith, max, refl, subst, sym, true, false}
use Rattle.std.specs.Prelude.{IfNone, IfSome, None, Option, Some}
use Rattle.file_io.specs.Places.{new_blocks, zeros_at}
use Rattle.volume_base.specs.Frame.{Serves}
use Rattle.volume_base.specs.declared.volume.Filling.{Filling}
use Rattle.volume_base.specs.declared.volume.Volume.{Volume}
use Rattle.volume_space.specs.Zeroing.{IsInHand, blocks_taken, done_of, is_growth_of, is_in_hand}
use Rattle.volume_space.proofs.Filled.{first_done, hand_with, left_at_first, left_in_hand}
use Rattle.volume_space.proofs.Filling.{fills_none, fills_with, serves_with}
use Rattle.volume_space.proofs.zeroing.fill_ahead.Goals as goal

pub returns-then-is_few-clause-frame : goal.returns-then-is_few-clause-frame
returns-then-is_few-clause-frame g c =
    fills_none g.P.SectorView.space g.P.SectorView.follows c.args.volume.now c.args.volume.now c.args.space.now _ (g.met.P.SectorView.follows_refl c.args.space.now) (record { later = omega arith; failed = tt }) refl c.requires.serves c.requires.filled

pub fill_more-requires-clause-serves : goal.fill_more-requires-clause-serves
fill_more-requires-clause-serves g c = subst (λ (x : Volume). Serves x (g.P.SectorView.space c.args.space.now)) (sym c.take_growth.ensures.rest) (serves_with c.args.volume.now None (g.P.SectorView.space c.args.space.now) c.requires.serves)

pub fill_more-requires-clause-in_hand : goal.fill_more-requires-clause-in_hand
fill_more-requires-clause-in_hand g c =
    let v = c.args.volume.now in
    let it = subst (λ (o : Option Filling). IfSome o (λ it. (v.filling ≡ Some it) × (is_growth_of it c.args.it.id c.args.it.old_size c.max-new_size.result ≡ true))) c.in-Some.is c.take_growth.ensures.some in
    subst (λ (x : Volume). IsInHand x c.in-Some.filling (g.P.SectorView.space c.args.space.now)) (sym c.take_growth.ensures.rest) (hand_with v None c.in-Some.filling (g.P.SectorView.space c.args.space.now) (c.requires.filled c.in-Some.filling it.0))

pub fill_more-requires-clause-within : goal.fill_more-requires-clause-within
fill_more-requires-clause-within g c =
    let v = c.args.volume.now in
    let f = c.in-Some.filling in
    let it = subst (λ (o : Option Filling). IfSome o (λ it. (v.filling ≡ Some it) × (is_growth_of it c.args.it.id c.args.it.old_size c.max-new_size.result ≡ true))) c.in-Some.is c.take_growth.ensures.some in
    subst (λ (x : Volume). f.place + f.done + 1024 ≤ blocks_taken x f) (sym c.take_growth.ensures.rest)
    (left_in_hand v (g.P.SectorView.space c.args.space.now) f c.args.it.id c.args.it.old_size c.args.it.from c.args.it.end c.args.it.stop c.count_zeros-all.result c.done-so_far.result c.max-new_size.result (omega (arith, c.requires.serves.stands.service.least)) (c.requires.filled f it.0) it.0 it.1 c.max-new_size.ensures
    c.requires.place c.count_zeros-all.ensures.some c.done-so_far.ensures (c.is_few.ensures.many c.if-is_few.false))

pub fill_first-requires-clause-serves : goal.fill_first-requires-clause-serves
fill_first-requires-clause-serves g c = subst (λ (x : Volume). Serves x (g.P.SectorView.space c.args.space.now)) (sym c.take_growth.ensures.rest) (serves_with c.args.volume.now None (g.P.SectorView.space c.args.space.now) c.requires.serves)

pub fill_first-requires-clause-none : goal.fill_first-requires-clause-none
fill_first-requires-clause-none g c = ap (λ (x : Volume). x.filling) c.take_growth.ensures.rest

pub fill_first-requires-clause-beyond : goal.fill_first-requires-clause-beyond
fill_first-requires-clause-beyond g c =
    (left_at_first c.args.volume.now.header.block_size c.args.it.old_size c.args.it.from c.args.it.end c.args.it.stop c.count_zeros-all.result c.done-so_far.result (omega (arith, c.requires.serves.stands.service.least)) c.requires.place c.count_zeros-all.ensures.some (c.is_few.ensures.many c.if-is_few.false)).0

pub fill_first-requires-clause-order : goal.fill_first-requires-clause-order
fill_first-requires-clause-order g c =
    (left_at_first c.args.volume.now.header.block_size c.args.it.old_size c.args.it.from c.args.it.end c.args.it.stop c.count_zeros-all.result c.done-so_far.result (omega (arith, c.requires.serves.stands.service.least)) c.requires.place c.count_zeros-all.ensures.some (c.is_few.ensures.many c.if-is_few.false)).1

pub fill_first-requires-clause-within : goal.fill_first-requires-clause-within
fill_first-requires-clause-within g c =
    let it = c.args.it in
    subst (λ (x : Volume). zeros_at x.header.block_size it.old_size it.old_size it.end + 1024 ≤ new_blocks x.header.block_size it.old_size it.old_size it.end) (sym c.take_growth.ensures.rest)
    (left_at_first c.args.volume.now.header.block_size c.args.it.old_size c.args.it.from c.args.it.end c.args.it.stop c.count_zeros-all.result c.done-so_far.result (omega (arith, c.requires.serves.stands.service.least)) c.requires.place c.count_zeros-all.ensures.some (c.is_few.ensures.many c.if-is_few.false)).2

pub returns-in-Some-clause-frame : goal.returns-in-Some-clause-frame
returns-in-Some-clause-frame g c =
    fills_with g.P.SectorView.space g.P.SectorView.follows c.args.volume.now c.take_growth.new.volume c.fill_more.new.volume None c.args.space.now c.fill_more.new.space c.fill_more.result c.take_growth.ensures.rest c.fill_more.ensures.frame

pub returns-in-None-clause-frame : goal.returns-in-None-clause-frame
returns-in-None-clause-frame g c =
    fills_with g.P.SectorView.space g.P.SectorView.follows c.args.volume.now c.take_growth.new.volume c.fill_first.new.volume None c.args.space.now c.fill_first.new.space c.fill_first.result c.take_growth.ensures.rest c.fill_first.ensures.frame

pub returns-in-None-clause-next : goal.returns-in-None-clause-next
returns-in-None-clause-next g c =
    let v = c.args.volume.now in
    let it = c.args.it in
    let none : is_in_hand v.filling it.id it.old_size c.max-new_size.result ≡ false = subst (λ (o : Option Filling). IfNone o (is_in_hand v.filling it.id it.old_size c.max-new_size.result ≡ false)) c.in-None.is c.take_growth.ensures.none in
    let left = left_at_first v.header.block_size it.old_size it.from it.end it.stop c.count_zeros-all.result c.done-so_far.result (omega (arith, c.requires.serves.stands.service.least)) c.requires.place c.count_zeros-all.ensures.some (c.is_few.ensures.many c.if-is_few.false) in
    first_done v c.fill_first.new.volume it.id it.old_size it.end (max it.old_size it.end) c.fill_first.result (omega (arith, left.0, left.1)) (subst (λ n. is_in_hand v.filling it.id it.old_size n ≡ false) c.max-new_size.ensures none) c.fill_first.ensures.next
