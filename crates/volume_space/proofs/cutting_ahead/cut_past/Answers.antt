use Rattle.std.proofs.Common.{◌≡◌, inl, refl, subst, arith}
use Rattle.std.specs.Prelude.{IfNone, IfSome, Option}
use Rattle.hfs_language.specs.declared.refusal.Refusal.{Refusal}
use Rattle.hfs_volume.specs.Content.{volume_of}
use Rattle.hfs_volume.specs.Records.{id_in}
use Rattle.hfs_volume.specs.Weight.{cut_cost, free_blocks, room_with}
use Rattle.hfs_volume.specs.declared.cost.Cost.TheVariants as cost
use Rattle.volume_base.specs.Cutting.{kind_of}
use Rattle.volume_base.specs.Room.{capacity_of}
use Rattle.volume_space.specs.Cutting.{CutsOne, CutsTo}
use Rattle.volume_space.specs.declared.tidying.Tidying.{Tidying}
use Rattle.volume_space.proofs.CutShort.{no_rest}
use Rattle.volume_base.proofs.Freed.{frees_err, frees_none, frees_ok}
use Rattle.volume_space.proofs.cutting_ahead.cut_past.Goals as goal

pub tidy_cut-requires-clause-may : goal.tidy_cut-requires-clause-may
tidy_cut-requires-clause-may g c tells = inl (c.requires.least tells)

pub returns-in-Some-clause-came : goal.returns-in-Some-clause-came
returns-in-Some-clause-came g c tells = (
  refl,
  subst (λ (o : Option Refusal). IfSome o (λ why. cut_cost (room_with (capacity_of c.args.volume.now) (free_blocks (volume_of (g.P.SectorView.space c.args.space.now).content)) (volume_of (g.P.SectorView.space c.args.space.now).content)) ≡ cost.Refused why)) c.in-Some.is
      (c.refused_cut.ensures.some (g.P.SectorView.space c.args.space.now).content (c.requires.serves.settled tells)),
)

pub returns-in-Made-clause-came : goal.returns-in-Made-clause-came
returns-in-Made-clause-came g c tells =
    let made = subst (λ (t : Tidying). CutsTo t (capacity_of c.args.volume.now) (g.P.SectorView.space c.args.space.now).spare (id_in c.args.entry.now.rec) (kind_of c.args.surplus.kind) c.args.surplus.keep (g.P.SectorView.space c.args.space.now).content (g.P.SectorView.space c.tidy_cut.new.space).content) c.in-Made.is (c.in_ok-tidy_cut.ensures.came tells) in
    record {
      affords = made.0;
      cuts = subst (λ n. CutsOne (id_in c.args.entry.now.rec) (kind_of c.args.surplus.kind) n (g.P.SectorView.space c.args.space.now).content (g.P.SectorView.space c.tidy_cut.new.space).content) (c.requires.least tells) made.1;
    }

pub returns-in-Rest-clause-came : goal.returns-in-Rest-clause-came
returns-in-Rest-clause-came g c tells = (subst (λ (t : Tidying). CutsTo t (capacity_of c.args.volume.now) (g.P.SectorView.space c.args.space.now).spare (id_in c.args.entry.now.rec) (kind_of c.args.surplus.kind) c.args.surplus.keep (g.P.SectorView.space c.args.space.now).content (g.P.SectorView.space c.tidy_cut.new.space).content) c.in-Rest.is (c.in_ok-tidy_cut.ensures.came tells)).0

pub returns-in-CommitFirst-clause-came : goal.returns-in-CommitFirst-clause-came
returns-in-CommitFirst-clause-came g c tells = (subst (λ (t : Tidying). CutsTo t (capacity_of c.args.volume.now) (g.P.SectorView.space c.args.space.now).spare (id_in c.args.entry.now.rec) (kind_of c.args.surplus.kind) c.args.surplus.keep (g.P.SectorView.space c.args.space.now).content (g.P.SectorView.space c.tidy_cut.new.space).content) c.in-CommitFirst.is (c.in_ok-tidy_cut.ensures.came tells)).0

pub returns-in-CommitFirst-clause-short : goal.returns-in-CommitFirst-clause-short
returns-in-CommitFirst-clause-short g c tells = (subst (λ (t : Tidying). CutsTo t (capacity_of c.args.volume.now) (g.P.SectorView.space c.args.space.now).spare (id_in c.args.entry.now.rec) (kind_of c.args.surplus.kind) c.args.surplus.keep (g.P.SectorView.space c.args.space.now).content (g.P.SectorView.space c.tidy_cut.new.space).content) c.in-CommitFirst.is (c.in_ok-tidy_cut.ensures.came tells)).1

pub returns-in-Rest-clause-short : goal.returns-in-Rest-clause-short
returns-in-Rest-clause-short g c tells =
    absurd (no_rest (capacity_of c.args.volume.now) (volume_of (g.P.SectorView.space c.args.space.now).content)
    (subst (λ (o : Option Refusal). IfNone o ((why : Refusal) → cut_cost (room_with (capacity_of c.args.volume.now) (free_blocks (volume_of (g.P.SectorView.space c.args.space.now).content)) (volume_of (g.P.SectorView.space c.args.space.now).content)) ≡ cost.Refused why → ⊥)) c.in_default.is
    (c.refused_cut.ensures.none (g.P.SectorView.space c.args.space.now).content (c.requires.serves.settled tells)))
    (subst (λ (t : Tidying). CutsTo t (capacity_of c.args.volume.now) (g.P.SectorView.space c.args.space.now).spare (id_in c.args.entry.now.rec) (kind_of c.args.surplus.kind) c.args.surplus.keep (g.P.SectorView.space c.args.space.now).content (g.P.SectorView.space c.tidy_cut.new.space).content) c.in-Rest.is (c.in_ok-tidy_cut.ensures.came tells)).1)

-- ---- what it puts

pub returns-in-Some-clause-spent : goal.returns-in-Some-clause-spent
returns-in-Some-clause-spent g c tells = omega arith

pub returns-in-Some-clause-frees : goal.returns-in-Some-clause-frees
returns-in-Some-clause-frees g c = frees_none g.met.P.SectorView.follows_refl c.requires.serves.stands

pub returns-in-Made-clause-frees : goal.returns-in-Made-clause-frees
returns-in-Made-clause-frees g c = frees_ok c.in_ok-tidy_cut.ensures.frees

pub returns-in-CommitFirst-clause-frees : goal.returns-in-CommitFirst-clause-frees
returns-in-CommitFirst-clause-frees g c = frees_ok c.in_ok-tidy_cut.ensures.frees

pub returns-in-Rest-clause-frees : goal.returns-in-Rest-clause-frees
returns-in-Rest-clause-frees g c = frees_ok c.in_ok-tidy_cut.ensures.frees

pub returns-in_err-tidy_cut-clause-frees : goal.returns-in_err-tidy_cut-clause-frees
returns-in_err-tidy_cut-clause-frees g c = frees_err c.from_residual.ensures.1 c.in_err-tidy_cut.ensures.frees
