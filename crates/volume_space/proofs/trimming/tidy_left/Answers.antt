use Rattle.std.proofs.Common.{inl, arith, sym, ◌∙◌, subst}
use Rattle.std.specs.Prelude.{Option, IfSome}
use Rattle.alloc_bitmap.specs.Map.{free_of}
use Rattle.hfs_volume.specs.Records.{id_in}
use Rattle.volume_base.specs.Room.{capacity_of}
use Rattle.volume_space.proofs.CutNext.{next_may, next_spent, tidies_next}
use Rattle.volume_space.specs.Cutting.{IsNextCut, blocks_left}
use Rattle.volume_base.specs.Cutting.{kind_of}
use Rattle.volume_base.specs.Keeping.{shrunk_of}
use Rattle.volume_space.specs.declared.trimming.Surplus.{Surplus}
use Rattle.volume_base.proofs.Freed.{frees_wanting}
use Rattle.volume_space.proofs.trimming.tidy_left.Goals as goal

pub tidy_cut-requires-clause-may : goal.tidy_cut-requires-clause-may
tidy_cut-requires-clause-may g c tells =
    next_may (shrunk_of c.args.volume.now) (g.P.SectorView.space c.args.space.now).content (id_in c.args.entry.now.rec) (kind_of c.in-Some.surplus.kind) c.in-Some.surplus.keep
    (subst (λ (o : Option Surplus). IfSome o (λ surplus. IsNextCut (shrunk_of c.args.volume.now) (g.P.SectorView.space c.args.space.now).content (id_in c.args.entry.now.rec) (kind_of surplus.kind) surplus.keep)) (sym c.blocks_left.ensures ∙ c.in-Some.is) (c.requires.next tells))

pub returns-in-Some-clause-tidied : goal.returns-in-Some-clause-tidied
returns-in-Some-clause-tidied g c tells =
    tidies_next (capacity_of c.args.volume.now) (shrunk_of c.args.volume.now) (g.P.SectorView.space c.args.space.now).content (g.P.SectorView.space c.tidy_cut.new.space).content (id_in c.args.entry.now.rec) (kind_of c.in-Some.surplus.kind) c.in-Some.surplus.keep (free_of c.args.volume.now.map) (g.P.SectorView.space c.args.space.now).spare
    (subst (λ (o : Option Surplus). IfSome o (λ surplus. IsNextCut (shrunk_of c.args.volume.now) (g.P.SectorView.space c.args.space.now).content (id_in c.args.entry.now.rec) (kind_of surplus.kind) surplus.keep)) (sym c.blocks_left.ensures ∙ c.in-Some.is) (c.requires.next tells))
    c.tidy_cut.result (c.tidy_cut.ensures.came tells)

pub returns-in-Some-clause-spent : goal.returns-in-Some-clause-spent
returns-in-Some-clause-spent g c tells =
    next_spent (capacity_of c.args.volume.now) (shrunk_of c.args.volume.now) (g.P.SectorView.space c.args.space.now).content (id_in c.args.entry.now.rec) (kind_of c.in-Some.surplus.kind) c.in-Some.surplus.keep
    (subst (λ (o : Option Surplus). IfSome o (λ surplus. IsNextCut (shrunk_of c.args.volume.now) (g.P.SectorView.space c.args.space.now).content (id_in c.args.entry.now.rec) (kind_of surplus.kind) surplus.keep)) (sym c.blocks_left.ensures ∙ c.in-Some.is) (c.requires.next tells))
    (g.P.SectorView.space c.args.space.now).spare (g.P.SectorView.space c.tidy_cut.new.space).spare (c.tidy_cut.ensures.spent tells)

-- ---- what it puts

pub returns-in-None-clause-spent : goal.returns-in-None-clause-spent
returns-in-None-clause-spent g c tells = inl (omega arith)

pub returns-in-None-clause-frees : goal.returns-in-None-clause-frees
returns-in-None-clause-frees g c = frees_wanting g.met.P.SectorView.follows_refl c.requires.serves.stands
