use Rattle.std.proofs.Common.{[], inl, ap, sym, ◌∙◌, true≢false}
use Rattle.std.specs.Prelude.{Contains}
use Rattle.hfs_volume.specs.Forks.{per_block_of}
use Rattle.volume_space.specs.Growing.{IsOwnOrFree, blocks_filled}
use Rattle.volume_base.specs.Standing.{own_sectors}
use Rattle.volume_base.specs.declared.volume.Volume.{Volume}
use Rattle.volume_space.proofs.GrownAhead.{gained_before}
use Rattle.volume_space.proofs.Sounding.{sound_here}
use Rattle.volume_space.proofs.WhenKept.{touches_those}
use Rattle.volume_space.proofs.ahead.grow_extents_kept.Goals as goal

pub returns-clause-ahead : goal.returns-clause-ahead
returns-clause-ahead g c tells = record {
  keeps = record {
    sound = sound_here c.grow_extents.new.volume (g.P.SectorView.space c.grow_extents.new.space) (c.in_ok-grow_extents.ensures.stands.stands ((c.grow_extents.ensures.touches []).same.tells ∙ tells)) (c.in_ok-grow_extents.ensures.settled tells);
    tree = c.in_ok-grow_extents.ensures.tree tells;
  };
  grows = c.in_ok-grow_extents.ensures.grows tells;
  files = λ id kind other. (c.in_ok-grow_extents.ensures.files tells).0 id kind (inl (λ same. other (inl same)));
  values = (c.in_ok-grow_extents.ensures.files tells).1;
  journal = c.in_ok-grow_extents.ensures.journal tells;
  head = c.in_ok-grow_extents.ensures.head tells;
}

pub returns-clause-gained : goal.returns-clause-gained
returns-clause-gained g c tells =
    let grows = c.in_ok-grow_extents.ensures.volume tells in
    gained_before (blocks_filled c.args.volume.now.extents.file c.args.more) grows.run c.args.volume.now c.grow_extents.new.volume grows.takes (ap (λ (u : Volume). per_block_of u.header) grows.rest) (c.grow_extents.ensures.gained tells)

pub returns-clause-touches : goal.returns-clause-touches
returns-clause-touches g c committed =
    touches_those committed (λ s. Contains (own_sectors c.grow_extents.new.volume) s) (IsOwnOrFree c.args.volume.now) (g.P.SectorView.space c.args.space.now) (g.P.SectorView.space c.grow_extents.new.space) c.grow_extents.ensures.gained (c.grow_extents.ensures.touches committed)

pub returns-in_err-grow_extents-clause-touches : goal.returns-in_err-grow_extents-clause-touches
returns-in_err-grow_extents-clause-touches g c committed =
    touches_those committed (λ s. Contains (own_sectors c.grow_extents.new.volume) s) (IsOwnOrFree c.args.volume.now) (g.P.SectorView.space c.args.space.now) (g.P.SectorView.space c.grow_extents.new.space) c.grow_extents.ensures.gained (c.grow_extents.ensures.touches committed)

pub returns-then-not-can_grow_extents-clause-sure : goal.returns-then-not-can_grow_extents-clause-sure
returns-then-not-can_grow_extents-clause-sure g c tells fits = absurd (true≢false (sym (c.if-not-can_grow_extents.ensures.fits tells fits)))
