use Rattle.std.proofs.Common.{[], ◌/◌, ◌∙◌, ap, inl, inr, sym}
use Rattle.std.specs.Prelude.{Contains}
use Rattle.volume_space.specs.Growing.{IsOwnOrFree, blocks_filled}
use Rattle.volume_base.specs.Standing.{own_sectors}
use Rattle.std.proofs.lemmas.Bool.{true≢false}
use Rattle.volume_base.proofs.Weighed.{is_measured_told}
use Rattle.volume_base.specs.declared.room.FreeBlocks.TheVariants as blocks
use Rattle.volume_space.proofs.GrownCan.{blocks_inside}
use Rattle.volume_space.proofs.GrownAhead.{gained_before}
use Rattle.volume_space.proofs.Sounding.{sound_here}
use Rattle.volume_space.proofs.WhenKept.{touches_those}
use Rattle.volume_space.proofs.ahead_spread.grow_catalog_of_eight.Goals as goal

pub grow_catalog_spread-requires-clause-can : goal.grow_catalog_spread-requires-clause-can
grow_catalog_spread-requires-clause-can g c = c.can_grow_spread.ensures.sure c.if-not-can_grow_spread.false

pub grow_catalog_spread-requires-clause-records : goal.grow_catalog_spread-requires-clause-records
grow_catalog_spread-requires-clause-records g c = c.can_grow_spread.ensures.records c.if-not-can_grow_spread.false

pub returns-clause-ahead : goal.returns-clause-ahead
returns-clause-ahead g c tells = record {
  keeps = record { sound = sound_here c.grow_catalog_spread.new.volume (g.P.SectorView.space c.grow_catalog_spread.new.space) (c.in_ok-grow_catalog_spread.ensures.stands.stands ((c.grow_catalog_spread.ensures.touches []).same.tells ∙ tells)) (c.in_ok-grow_catalog_spread.ensures.settled tells); tree = c.in_ok-grow_catalog_spread.ensures.tree tells };
  grows = c.in_ok-grow_catalog_spread.ensures.grows tells;
  files = λ id kind other. (c.in_ok-grow_catalog_spread.ensures.files tells).0 id kind (inl (λ same. other (inr (inl same))));
  values = (c.in_ok-grow_catalog_spread.ensures.files tells).1;
  journal = c.in_ok-grow_catalog_spread.ensures.journal tells;
  head = c.in_ok-grow_catalog_spread.ensures.head tells;
}

pub returns-clause-gained : goal.returns-clause-gained
returns-clause-gained g c tells =
    let taken = c.in_ok-grow_catalog_spread.ensures.taken tells in
    gained_before (blocks_filled c.args.volume.now.catalog.file c.args.more) taken.run c.args.volume.now c.grow_catalog_spread.new.volume taken.takes (ap (λ n. n / 512) taken.block) (c.grow_catalog_spread.ensures.gained tells)

pub returns-clause-touches : goal.returns-clause-touches
returns-clause-touches g c committed =
    touches_those committed (λ s. Contains (own_sectors c.grow_catalog_spread.new.volume) s) (IsOwnOrFree c.args.volume.now) (g.P.SectorView.space c.args.space.now) (g.P.SectorView.space c.grow_catalog_spread.new.space) c.grow_catalog_spread.ensures.gained (c.grow_catalog_spread.ensures.touches committed)

pub returns-in_err-grow_catalog_spread-clause-touches : goal.returns-in_err-grow_catalog_spread-clause-touches
returns-in_err-grow_catalog_spread-clause-touches g c committed =
    touches_those committed (λ s. Contains (own_sectors c.grow_catalog_spread.new.volume) s) (IsOwnOrFree c.args.volume.now) (g.P.SectorView.space c.args.space.now) (g.P.SectorView.space c.grow_catalog_spread.new.space) c.grow_catalog_spread.ensures.gained (c.grow_catalog_spread.ensures.touches committed)

pub returns-then-not-can_grow_spread-clause-sure : goal.returns-then-not-can_grow_spread-clause-sure
returns-then-not-can_grow_spread-clause-sure g c tells fits =
    let was = c.requires.stands.stands tells in
    let measured = is_measured_told c.args.volume.now (g.P.SectorView.space c.args.space.now) was (c.requires.settled tells) blocks.Takable in
    let inside = blocks_inside c.args.volume.now (g.P.SectorView.space c.args.space.now) c.args.volume.now.catalog.file.per_block was (g.met.P.SectorView.well_formed c.args.space.now tells) was.forks.catalog_per in
    absurd (true≢false (sym (c.if-not-can_grow_spread.ensures.fits measured fits inside)))

pub returns-clause-spent : goal.returns-clause-spent
returns-clause-spent g c tells = c.grow_catalog_spread.ensures.spent tells

pub returns-in_err-grow_catalog_spread-clause-spent : goal.returns-in_err-grow_catalog_spread-clause-spent
returns-in_err-grow_catalog_spread-clause-spent g c tells = c.grow_catalog_spread.ensures.spent tells
