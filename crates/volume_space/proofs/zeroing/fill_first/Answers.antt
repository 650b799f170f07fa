use Rattle.std.proofs.Common.{arith, refl, subst, sym}
use Rattle.std.proofs.lemmas.Result.{err_from_is_err_and}
use Rattle.hx_bytes.specs.declared.faults.Trouble.TheVariants.{Memory}
use Rattle.alloc_bitmap.specs.Map.{BlockMap}
use Rattle.volume_base.specs.declared.volume.Filling.{Filling}
use Rattle.volume_base.proofs.Seeing.{cause_on}
use Rattle.volume_space.specs.Zeroing.{IsInHand}
use Rattle.volume_space.proofs.Filled.{begun_done, picked, picked_left}
use Rattle.volume_space.proofs.Filling.{fills_map, fills_none, none_filled, serves_map}
use Rattle.volume_space.proofs.zeroing.fill_first.Goals as goal

pub fill_more-requires-clause-serves : goal.fill_more-requires-clause-serves
fill_more-requires-clause-serves g c = serves_map c.args.volume.now c.pick_blocks.new.map (g.P.SectorView.space c.args.space.now) c.pick_blocks.ensures.same c.requires.serves

pub fill_more-requires-clause-in_hand : goal.fill_more-requires-clause-in_hand
fill_more-requires-clause-in_hand g c =
    let v = c.args.volume.now in
    let sizes = c.in_ok-filling.ensures.sizes in
    subst (λ (m : BlockMap). IsInHand (record v { map = m }) c.in_ok-filling.filling (g.P.SectorView.space c.args.space.now)) (sym c.pick_blocks.ensures.same)
    (picked v (g.P.SectorView.space c.args.space.now) c.in_ok-filling.filling c.args.it.old_size c.args.it.end c.in_ok-filling.ensures.blocks c.in_ok-filling.ensures.enough c.in_ok-filling.ensures.place sizes.1 sizes.2 sizes.3)

pub fill_more-requires-clause-within : goal.fill_more-requires-clause-within
fill_more-requires-clause-within g c =
    let sizes = c.in_ok-filling.ensures.sizes in
    picked_left c.args.volume.now c.in_ok-filling.filling c.args.it.old_size c.args.it.end c.in_ok-filling.ensures.place sizes.1 sizes.2 sizes.3 c.requires.within

pub returns-then-spare-volume-clause-frame : goal.returns-then-spare-volume-clause-frame
returns-then-spare-volume-clause-frame g c =
    fills_none g.P.SectorView.space g.P.SectorView.follows c.args.volume.now c.args.volume.now c.args.space.now _ (g.met.P.SectorView.follows_refl c.args.space.now) (record { later = omega arith; failed = tt }) refl c.requires.serves
    (none_filled c.args.volume.now (g.P.SectorView.space c.args.space.now) c.requires.none)

pub returns-in_err-filling-clause-frame : goal.returns-in_err-filling-clause-frame
returns-in_err-filling-clause-frame g c =
    let v = c.args.volume.now in
    let p = err_from_is_err_and c.from_residual.result c.from_residual.ensures.1 in
    fills_map g.P.SectorView.space g.P.SectorView.follows v (record v { map = c.pick_blocks.new.map }) c.pick_blocks.new.map c.args.space.now c.args.space.now c.from_residual.result c.pick_blocks.ensures.same
    (fills_none g.P.SectorView.space g.P.SectorView.follows (record v { map = c.pick_blocks.new.map }) (record v { map = c.pick_blocks.new.map }) c.args.space.now c.from_residual.result (g.met.P.SectorView.follows_refl c.args.space.now)
    (cause_on {T = Filling} Memory p.0 (g.P.SectorView.space c.args.space.now).faults (g.P.SectorView.space c.args.space.now).faults (g.P.SectorView.space c.args.space.now).faults c.from_residual.result p.1 p.2 (omega arith) (record { later = omega arith; failed = tt })) refl
    (serves_map v c.pick_blocks.new.map (g.P.SectorView.space c.args.space.now) c.pick_blocks.ensures.same c.requires.serves)
    (none_filled (record v { map = c.pick_blocks.new.map }) (g.P.SectorView.space c.args.space.now) c.requires.none))

pub returns-clause-next : goal.returns-clause-next
returns-clause-next g c =
    let sizes = c.in_ok-filling.ensures.sizes in
    begun_done c.in_ok-filling.filling c.args.it.id c.args.it.old_size c.args.it.end c.fill_more.new.volume c.fill_more.result sizes.0 sizes.1 sizes.2 sizes.3 c.fill_more.ensures.next

pub returns-clause-frame : goal.returns-clause-frame
returns-clause-frame g c =
    fills_map g.P.SectorView.space g.P.SectorView.follows c.args.volume.now c.fill_more.new.volume c.pick_blocks.new.map c.args.space.now c.fill_more.new.space c.fill_more.result c.pick_blocks.ensures.same c.fill_more.ensures.frame
