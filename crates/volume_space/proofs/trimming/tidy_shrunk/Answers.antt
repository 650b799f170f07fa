use Rattle.std.proofs.Common.{false, inl, arith, sym, ◌∙◌, refl}
use Rattle.alloc_bitmap.specs.Map.{free_of}
use Rattle.hfs_volume.specs.Records.{id_in}
use Rattle.hfs_volume.specs.Reclaim.{least}
use Rattle.volume_base.specs.Cutting.{kind_of}
use Rattle.volume_base.specs.Room.{capacity_of}
use Rattle.volume_space.proofs.CutNext.{next_may, next_spent, tidies_next}
use Rattle.volume_base.specs.Keeping.{shrunk_of}
use Rattle.volume_space.proofs.NextCut.{shrunk_next, shrunk_rests}
use Rattle.volume_base.proofs.Freed.{frees_wanting}
use Rattle.volume_space.proofs.trimming.tidy_shrunk.Goals as goal

pub surplus_in-requires : goal.surplus_in-requires
surplus_in-requires g c = omega (arith, c.requires.serves.stands.service.least)

pub tidy_cut-requires-clause-may : goal.tidy_cut-requires-clause-may
tidy_cut-requires-clause-may g c tells =
    next_may (shrunk_of c.args.volume.now) (g.P.SectorView.space c.args.space.now).content (id_in c.args.entry.now.rec) (kind_of c.in-Some.surplus.kind) c.in-Some.surplus.keep
    (shrunk_next c.args.volume.now (g.P.SectorView.space c.args.space.now).content (c.requires.serves.settled tells) c.args.entry.now c.args.entry.now.rec refl (c.requires.there tells) c.args.id (c.has_id.ensures.number c.if-not-has_id.false) (shrunk_of c.args.volume.now) c.requires.shrunk c.in-Some.surplus (sym c.in-Some.is ∙ c.surplus_in.ensures))

pub returns-in-Some-clause-tidied : goal.returns-in-Some-clause-tidied
returns-in-Some-clause-tidied g c tells =
    tidies_next (capacity_of c.args.volume.now) (shrunk_of c.args.volume.now) (g.P.SectorView.space c.args.space.now).content (g.P.SectorView.space c.tidy_cut.new.space).content (id_in c.args.entry.now.rec) (kind_of c.in-Some.surplus.kind) c.in-Some.surplus.keep (free_of c.args.volume.now.map) (g.P.SectorView.space c.args.space.now).spare
    (shrunk_next c.args.volume.now (g.P.SectorView.space c.args.space.now).content (c.requires.serves.settled tells) c.args.entry.now c.args.entry.now.rec refl (c.requires.there tells) c.args.id (c.has_id.ensures.number c.if-not-has_id.false) (shrunk_of c.args.volume.now) c.requires.shrunk c.in-Some.surplus (sym c.in-Some.is ∙ c.surplus_in.ensures))
    c.tidy_cut.result (c.tidy_cut.ensures.came tells)

pub returns-in-Some-clause-spent : goal.returns-in-Some-clause-spent
returns-in-Some-clause-spent g c tells =
    next_spent (capacity_of c.args.volume.now) (shrunk_of c.args.volume.now) (g.P.SectorView.space c.args.space.now).content (id_in c.args.entry.now.rec) (kind_of c.in-Some.surplus.kind) c.in-Some.surplus.keep
    (shrunk_next c.args.volume.now (g.P.SectorView.space c.args.space.now).content (c.requires.serves.settled tells) c.args.entry.now c.args.entry.now.rec refl (c.requires.there tells) c.args.id (c.has_id.ensures.number c.if-not-has_id.false) (shrunk_of c.args.volume.now) c.requires.shrunk c.in-Some.surplus (sym c.in-Some.is ∙ c.surplus_in.ensures))
    (g.P.SectorView.space c.args.space.now).spare (g.P.SectorView.space c.tidy_cut.new.space).spare (c.tidy_cut.ensures.spent tells)

pub tidy_unshrunk-requires-clause-kept : goal.tidy_unshrunk-requires-clause-kept
tidy_unshrunk-requires-clause-kept g c tells = shrunk_rests c.args.volume.now (g.P.SectorView.space c.args.space.now).content (c.requires.serves.settled tells) c.args.entry.now c.args.entry.now.rec refl (c.requires.there tells) c.args.id (c.has_id.ensures.number c.if-not-has_id.false) (shrunk_of c.args.volume.now) c.requires.shrunk (sym c.in-None.is ∙ c.surplus_in.ensures) (c.has_id.ensures.kind c.if-not-has_id.false)

-- ---- what it puts

pub returns-then-not-has_id-clause-spent : goal.returns-then-not-has_id-clause-spent
returns-then-not-has_id-clause-spent g c tells = inl (omega arith)

pub returns-then-not-has_id-clause-frees : goal.returns-then-not-has_id-clause-frees
returns-then-not-has_id-clause-frees g c = frees_wanting g.met.P.SectorView.follows_refl c.requires.serves.stands
