use Rattle.std.proofs.Common.{◌≡◌, ◌≤◌, ℕ, true, false, List, length, refl, sym, ◌∙◌, ap, subst}
use Rattle.std.specs.Prelude.{IfSome, IsTrue, Option, Some, None}
use Rattle.sector_disk.specs.Lists.{Content}
use Rattle.hfs_volume.specs.Content.{VolumeState, records_of, volume_of}
use Rattle.hfs_volume.specs.Reclaim.{DropAttribute, has_surplus_left, next_reclaim}
use Rattle.volume_base.specs.Keeping.{shrunk_of}
use Rattle.volume_base.specs.Lists.{lists_of}
use Rattle.volume_base.specs.Room.{capacity_of}
use Rattle.volume_base.specs.declared.entries.Entry.{Entry}
use Rattle.volume_base.proofs.Still.{lists_still, settled_still, volume_both}
use Rattle.volume_space.specs.Orphans.{IsToDrop}
use Rattle.volume_space.proofs.NextCut.{shrunk_rests}
use Rattle.volume_base.proofs.Looked.{looked_wanting, looked_none}
use Rattle.volume_space.proofs.awaiting.shrunk_wants.Goals as goal

pub unshrunk_wants-requires-clause-kept : goal.unshrunk_wants-requires-clause-kept
unshrunk_wants-requires-clause-kept g c tells =
    shrunk_rests c.args.volume.now (g.P.SectorView.space c.args.space.now).content (c.requires.serves.settled tells) c.args.entry.now c.args.entry.now.rec refl (c.requires.there tells) c.args.id (c.has_id.ensures.number c.if-not-has_id.false) (shrunk_of c.args.volume.now) c.requires.shrunk
    (sym c.in_default.is ∙ c.surplus_in.ensures) (c.has_id.ensures.kind c.if-not-has_id.false)

pub returns-then-not-has_id-clause-looked : goal.returns-then-not-has_id-clause-looked
returns-then-not-has_id-clause-looked g c = looked_wanting g.met.P.SectorView.follows_refl c.requires.serves.stands

pub returns-in-Some-clause-looked : goal.returns-in-Some-clause-looked
returns-in-Some-clause-looked g c = looked_none g.met.P.SectorView.follows_refl c.requires.serves.stands
