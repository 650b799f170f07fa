use Rattle.std.proofs.Common.{◌≡◌, [], refl, sym, ◌∙◌, ap, subst, arith}
use Rattle.std.specs.Prelude.{None}
use Rattle.alloc_bitmap.specs.Untold.{told_none}
use Rattle.hfs_serving.proofs.Causes.{counts_none, fine}
use Rattle.volume_space.proofs.Sounding.{sound_here}
use Rattle.volume_base.specs.Keeping.{shrunk_of}
use Rattle.volume_base.specs.Room.{capacity_of}
use Rattle.volume_base.specs.Holding.{HoldsOn}
use Rattle.volume_base.specs.declared.volume.Volume.{Volume}
use Rattle.volume_step.proofs.Unfilled.{filled_none, service_filling, settled_filling, stands_filling}
use Rattle.served_volume.proofs.Calls.{quiet, short}
use Rattle.served_volume.proofs.Heading.{marks_keep}
use Rattle.served_volume.proofs.Marked.{marked_as}
use Rattle.served_volume.proofs.Seen.{touches_space}
use Rattle.served_volume.proofs.Service.{service_on}
use Rattle.served_volume.proofs.served.ServedVolume.put_mark.Goals as goal

pub mark-requires-clause-stands : goal.mark-requires-clause-stands
mark-requires-clause-stands g c =
    let self = c.args.self.now in
    record {
      service = service_on self.volume (told_none self.sectors) (g.G.SectorView.space c.args.base.now) (c.is_elsewhere.ensures c.if-is_elsewhere.false) self.sized;
      stands = λ tells. (c.requires.stands tells).4.known.stands.stands tells;
    }

pub mark-requires-clause-settled : goal.mark-requires-clause-settled
mark-requires-clause-settled g c tells = (c.requires.stands tells).4.known.settled

pub returns-then-is_elsewhere-clause-touches : goal.returns-then-is_elsewhere-clause-touches
returns-then-is_elsewhere-clause-touches g c tells capacity committed now shrunk stands = quiet committed _ _ stands.leaves

pub returns-then-spare-eq0-clause-touches : goal.returns-then-spare-eq0-clause-touches
returns-then-spare-eq0-clause-touches g c tells capacity committed now shrunk stands = quiet committed _ _ stands.leaves

pub returns-clause-touches : goal.returns-clause-touches
returns-clause-touches g c tells capacity committed now shrunk stands =
    c.look.ensures.sees c.requires.serves.0 committed c.args.base.now c.mark.ensures.below c.requires.serves.1 tells (touches_space committed _ _ _ tells (c.mark.ensures.touches committed))

pub returns-clause-marked : goal.returns-clause-marked
returns-clause-marked g c tells capacity committed now shrunk stands =
    let v = c.args.self.now.volume in
    let u = c.mark.new.volume in
    let w : Volume = record u { filling = None } in
    let a = g.G.SectorView.space c.args.base.now in
    let b = g.G.SectorView.space c.mark.new.space in
    let lists = c.mark.ensures.lists tells in
    marked_as c.args.in_use v w capacity committed now shrunk a b stands.known stands.below stands.reads stands.heads
    (record {
      touches = touches_space committed _ a b tells (c.mark.ensures.touches committed);
      keeps = marks_keep c.args.in_use a b stands.heads lists;
      stands = stands_filling u None b c.mark.ensures.stands;
      settled = settled_filling u None b.content (c.mark.ensures.settled tells);
      filled = filled_none w b refl;
      holds = λ held. subst (λ (u : Volume). HoldsOn committed u) (sym c.mark.ensures.rest) held;
      capacity = ap capacity_of c.mark.ensures.rest;
      sound = sound_here u b (c.mark.ensures.stands.stands ((c.mark.ensures.touches committed).same.tells ∙ tells)) (c.mark.ensures.settled tells);
    }) (ap shrunk_of c.mark.ensures.rest) lists (c.mark.ensures.tree tells)

pub returns-clause-still : goal.returns-clause-still
returns-clause-still g c capacity serves few = let now = c.look.ensures.still capacity c.args.base.now c.mark.ensures.below serves in (now, c.look.ensures.most capacity now)

pub returns-clause-tells : goal.returns-clause-tells
returns-clause-tells g c = (c.mark.ensures.touches []).same.tells

pub returns-clause-anchor : goal.returns-clause-anchor
returns-clause-anchor g c = c.look.ensures.anchor c.args.base.now c.mark.ensures.below (c.mark.ensures.touches []).same.names

pub returns-clause-faults : goal.returns-clause-faults
returns-clause-faults g c = fine (c.look.ensures.counts c.args.base.now c.mark.ensures.below (c.mark.ensures.touches []).same.sink_faults) _

pub returns-then-is_elsewhere-clause-faults : goal.returns-then-is_elsewhere-clause-faults
returns-then-is_elsewhere-clause-faults g c = short (counts_none _ _)

pub returns-then-spare-eq0-clause-faults : goal.returns-then-spare-eq0-clause-faults
returns-then-spare-eq0-clause-faults g c = short (counts_none _ _)

pub invariant_of-self : goal.invariant_of-self
invariant_of-self g c =
    let u = c.mark.new.volume in
    let w : Volume = record u { filling = None } in
    let sectors = (c.mark.ensures.touches []).same.sectors ∙ c.is_elsewhere.ensures c.if-is_elsewhere.false in
    record {
      sized = service_on w (g.G.SectorView.space c.mark.new.space) (told_none c.args.self.now.sectors) (sym sectors) (service_filling u None (g.G.SectorView.space c.mark.new.space) c.mark.ensures.stands.service);
      filled = filled_none w (told_none c.args.self.now.sectors) refl;
    }

pub returns-clause-barriers : goal.returns-clause-barriers
returns-clause-barriers g c = (c.mark.ensures.touches []).same.barriers
