use Rattle.std.proofs.Common.{◌≡◌, ◌≤◌, ◌-◌, ℕ}
use Rattle.std.specs.Prelude.{Option, None, IsTrue}
use Rattle.jnl_format.specs.Recovery.{Content}
use Rattle.hfs_serving.specs.Commits.{HaveCauses, SomeWantsAt}
use Rattle.hfs_serving.specs.Faults.{CountsFaults}
use Rattle.hfs_serving.specs.Going.{Stands, GoesTidy}
use Rattle.hfs_serving.proofs.housekeeping.tidy.Given as goal

abbrev pub invariant-loop : goal.invariant-loop
invariant-loop g l =
    record {
      counts : CountsFaults (g.G.Ground.failed l.initial.base) (g.G.SectorView.space l.initial.base) (g.G.Ground.failed l.base) (g.G.SectorView.space l.base);
      anchor : g.G.Ground.anchor l.base ≡ g.G.Ground.anchor l.initial.base;
      tells : (g.G.SectorView.space l.base).tells ≡ (g.G.SectorView.space l.initial.base).tells;
      serves : (capacity : ℕ) → g.G.Ground.serves l.initial.base capacity → g.G.Ground.taken l.initial.base ≤ capacity → g.G.Ground.serves l.base capacity × (g.G.Ground.taken l.base ≤ capacity);
      tries : l.tries ≤ 8;
      caused : IsTrue (g.G.SectorView.space l.initial.base).tells → HaveCauses (SomeWantsAt g.V.Volume.wants g.G.SectorView.space) (8 - l.tries) (g.G.SectorView.space l.initial.base).barriers (g.G.SectorView.space l.base).barriers;
      goes : IsTrue (g.G.SectorView.space l.initial.base).tells → (capacity : ℕ) (committed now : Content) (shrunk : Option ℕ)
          → Stands (g.V.Volume.knows l.initial.volume (g.G.SectorView.space l.initial.base) capacity) committed now shrunk (g.G.SectorView.space l.initial.base) (g.G.Ground.outside l.initial.base)
          → GoesTidy capacity None (g.V.Volume.knows l.volume (g.G.SectorView.space l.base) capacity) committed now shrunk (g.G.Ground.outside l.initial.base) (g.G.SectorView.space l.base) (g.G.Ground.outside l.base);
    }
