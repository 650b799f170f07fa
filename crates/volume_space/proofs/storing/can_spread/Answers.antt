use Rattle.std.proofs.Common.{◌≡◌, ◌≢◌, ℕ, ◌<◌, ◌≤◌, ◌+◌, ◌-◌, length, max, sym, ◌∙◌, ap, subst, arith}
use Rattle.std.specs.Prelude.{IfSome, Option}
use Rattle.hfs_volume.specs.Forks.{parts_for}
use Rattle.overflow.specs.Reading.{HasExtents}
use Rattle.btree_file.specs.State.{state_of}
use Rattle.volume_space.proofs.ExtentRoom.{store_room_by}
use Rattle.volume_space.proofs.Spreads.{full_in_use}
use Rattle.volume_space.proofs.storing.can_spread.Goals as goal

pub fits_extent_edits-requires : goal.fits_extent_edits-requires
fits_extent_edits-requires g c = omega (arith, subst (λ (o : Option ℕ). IfSome o (λ edits. edits ≡ max (c.args.records + parts_for (c.len.result - 8) 8) 1)) c.in-Some.is c.count_edits.ensures.exact)

pub returns-clause-full : goal.returns-clause-full
returns-clause-full g c is = sym c.all_have_blocks.ensures ∙ c.if-not-all_have_blocks.false

pub returns-clause-room : goal.returns-clause-room
returns-clause-room g c is names tells has =
    store_room_by (state_of names c.args.volume.now.extents.file (g.P.SectorView.space c.args.space.now)) c.args.id c.args.kind c.args.records c.args.later.now c.in-Some.edits
    has (full_in_use c.args.later.now (sym c.all_have_blocks.ensures ∙ c.if-not-all_have_blocks.false))
    (omega (arith, c.len.ensures, subst (λ (o : Option ℕ). IfSome o (λ edits. edits ≡ max (c.args.records + parts_for (c.len.result - 8) 8) 1)) c.in-Some.is c.count_edits.ensures.exact)) tells (c.fits_extent_edits.ensures is names tells)
