use Rattle.std.proofs.Common.{◌≡◌, ◌≤◌, ℕ, ◌∙◌, ap, refl}
use Rattle.std.specs.Prelude.{Option, IsTrue}
use Rattle.hfs_volume.specs.Content.{volume_of}
use Rattle.hfs_volume.specs.Reclaim.{has_surplus_left}
use Rattle.volume_base.specs.Keeping.{shrunk_of}
use Rattle.volume_base.specs.Room.{capacity_of}
use Rattle.volume_space.proofs.StepSpent.{next_within}
use Rattle.volume_space.proofs.tidying.tidy.Goals as goal

pub tidy_surplus-requires-clause-shrunk : goal.tidy_surplus-requires-clause-shrunk
tidy_surplus-requires-clause-shrunk g c = c.in-Some.is

pub tidy_unshrunk-requires-clause-kept : goal.tidy_unshrunk-requires-clause-kept
tidy_unshrunk-requires-clause-kept g c tells = ap (λ (o : Option ℕ). has_surplus_left (volume_of (g.P.SectorView.space c.args.space.now).content) o) c.in-None.is

pub returns-in-Some-clause-loads : goal.returns-in-Some-clause-loads
returns-in-Some-clause-loads g c tells = next_within (capacity_of c.args.volume.now) (shrunk_of c.args.volume.now) (volume_of (g.P.SectorView.space c.args.space.now).content) (g.P.SectorView.space c.args.space.now).spare (g.P.SectorView.space c.tidy_surplus.new.space).spare (c.tidy_surplus.ensures.spent tells)

pub returns-in-None-clause-loads : goal.returns-in-None-clause-loads
returns-in-None-clause-loads g c tells = next_within (capacity_of c.args.volume.now) (shrunk_of c.args.volume.now) (volume_of (g.P.SectorView.space c.args.space.now).content) (g.P.SectorView.space c.args.space.now).spare (g.P.SectorView.space c.tidy_unshrunk.new.space).spare (c.tidy_unshrunk.ensures.spent tells)
