use Rattle.std.proofs.Common.{◌<◌, List, length, arith, [], inl, inr, ap, sym, ◌∙◌, true≢false}
use Rattle.std.specs.Prelude.{Contains}
use Rattle.hfs_volume.specs.Forks.{per_block_of}
use Rattle.volume_space.specs.Growing.{IsOwnOrFree, blocks_filled}
use Rattle.volume_base.specs.Standing.{own_sectors}
use Rattle.volume_base.specs.declared.volume.Volume.{Volume}
use Rattle.volume_space.proofs.ShortFits.{short_fits}
use Rattle.volume_space.proofs.GrownAhead.{gained_before}
use Rattle.volume_space.proofs.Sounding.{sound_here}
use Rattle.volume_space.proofs.SpreadSpent.{spent_more}
use Rattle.volume_space.proofs.WhenKept.{touches_those}
use Rattle.hx_bytes.specs.declared.extents.Extent.{Extent}
use Rattle.volume_space.specs.declared.ahead.WhichTree.TheVariants as which
use Rattle.volume_space.proofs.ahead.grow_attributes_kept.Goals as goal

pub returns-clause-ahead : goal.returns-clause-ahead
returns-clause-ahead g c tells = record {
  keeps = record {
    sound = sound_here c.grow_attributes.new.volume (g.P.SectorView.space c.grow_attributes.new.space) (c.in_ok-grow_attributes.ensures.stands.stands ((c.grow_attributes.ensures.touches []).same.tells ∙ tells)) (c.in_ok-grow_attributes.ensures.settled tells);
    tree = c.in_ok-grow_attributes.ensures.tree tells;
  };
  grows = c.in_ok-grow_attributes.ensures.grows tells;
  files = λ id kind other. (c.in_ok-grow_attributes.ensures.files tells).0 id kind (inl (λ same. other (inr (inr same))));
  values = (c.in_ok-grow_attributes.ensures.files tells).1;
  journal = c.in_ok-grow_attributes.ensures.journal tells;
  head = c.in_ok-grow_attributes.ensures.head tells;
}

pub returns-clause-gained : goal.returns-clause-gained
returns-clause-gained g c tells =
    let grows = c.in_ok-grow_attributes.ensures.volume tells in
    gained_before (blocks_filled c.args.volume.now.attributes.file c.args.more) grows.run c.args.volume.now c.grow_attributes.new.volume grows.takes (ap (λ (u : Volume). per_block_of u.header) grows.rest) (c.grow_attributes.ensures.gained tells)

pub returns-clause-touches : goal.returns-clause-touches
returns-clause-touches g c committed =
    touches_those committed (λ s. Contains (own_sectors c.grow_attributes.new.volume) s) (IsOwnOrFree c.args.volume.now) (g.P.SectorView.space c.args.space.now) (g.P.SectorView.space c.grow_attributes.new.space) c.grow_attributes.ensures.gained (c.grow_attributes.ensures.touches committed)

pub returns-in_err-grow_attributes-clause-touches : goal.returns-in_err-grow_attributes-clause-touches
returns-in_err-grow_attributes-clause-touches g c committed =
    touches_those committed (λ s. Contains (own_sectors c.grow_attributes.new.volume) s) (IsOwnOrFree c.args.volume.now) (g.P.SectorView.space c.args.space.now) (g.P.SectorView.space c.grow_attributes.new.space) c.grow_attributes.ensures.gained (c.grow_attributes.ensures.touches committed)

pub returns-then-not-can_grow_attributes-clause-sure : goal.returns-then-not-can_grow_attributes-clause-sure
returns-then-not-can_grow_attributes-clause-sure g c tells fits = absurd (true≢false (sym (c.if-not-can_grow_attributes.ensures.fits tells fits)))

-- a fork of eight extents fits no record without others
pub returns-then-len-ge8-clause-sure : goal.returns-then-len-ge8-clause-sure
returns-then-len-ge8-clause-sure g c tells fits = absurd (omega (arith, fits.1.counts.extents, c.if-len-ge8.true, c.len.ensures, ap (λ (l : List Extent). length l) c.fork.ensures))

pub returns-then-len-ge8-clause-spent : goal.returns-then-len-ge8-clause-spent
returns-then-len-ge8-clause-spent g c few = absurd (omega (arith, few, c.if-len-ge8.true, c.len.ensures, ap (λ (l : List Extent). length l) c.fork.ensures))

pub returns-then-not-can_grow_attributes-clause-spread : goal.returns-then-not-can_grow_attributes-clause-spread
returns-then-not-can_grow_attributes-clause-spread g c tells fits =
    let short : length c.args.volume.now.attributes.file.fork < 8 = omega (arith, c.if-len-ge8.false, c.len.ensures, ap (λ (l : List Extent). length l) c.fork.ensures) in
    absurd (true≢false (sym (c.if-not-can_grow_attributes.ensures.fits tells (fits.0, short_fits c.args.more c.args.volume.now.attributes.file c.args.volume.now.header.attributes_fork c.args.volume.now (g.P.SectorView.space c.args.space.now) short fits.1))))

pub returns-then-len-ge8-clause-spread : goal.returns-then-len-ge8-clause-spread
returns-then-len-ge8-clause-spread g c tells fits = c.grow_attributes_of_eight.ensures.sure tells fits.1

pub returns-clause-spent_spread : goal.returns-clause-spent_spread
returns-clause-spent_spread g c tells = spent_more which.Attributes c.args.more c.args.volume.now (g.P.SectorView.space c.args.space.now) (g.P.SectorView.space c.grow_attributes.new.space) c.grow_attributes.ensures.spent

pub returns-in_err-grow_attributes-clause-spent_spread : goal.returns-in_err-grow_attributes-clause-spent_spread
returns-in_err-grow_attributes-clause-spent_spread g c tells = spent_more which.Attributes c.args.more c.args.volume.now (g.P.SectorView.space c.args.space.now) (g.P.SectorView.space c.grow_attributes.new.space) c.grow_attributes.ensures.spent

pub returns-then-len-ge8-clause-spent_spread : goal.returns-then-len-ge8-clause-spent_spread
returns-then-len-ge8-clause-spent_spread g c tells = c.grow_attributes_of_eight.ensures.spent tells
