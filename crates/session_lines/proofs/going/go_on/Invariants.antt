use Rattle.std.proofs.Common.{◌≡◌, ◌≤◌, ◌*◌, ℕ}
use Rattle.std.specs.Prelude.{Option, IsTrue}
use Rattle.jnl_format.specs.Recovery.{Content}
use Rattle.hfs_serving.specs.Commits.{HaveCauses, SomeWantsAt}
use Rattle.hfs_serving.specs.Faults.{CountsFaults}
use Rattle.hfs_serving.specs.Going.{Stands}
use Rattle.session_lines.specs.Doing.{WentOn}
use Rattle.session_lines.specs.Stages.{FitsStage}
use Rattle.session_lines.proofs.going.go_on.Given as goal

abbrev pub invariant-loop-step : goal.invariant-loop-step
invariant-loop-step g l =
    record {
      fits : FitsStage l.stage;
      counts : CountsFaults (g.G.Ground.failed l.fn.base) (g.G.SectorView.space l.fn.base) (g.G.Ground.failed l.base) (g.G.SectorView.space l.base);
      anchor : g.G.Ground.anchor l.base ≡ g.G.Ground.anchor l.fn.base;
      tells : (g.G.SectorView.space l.base).tells ≡ (g.G.SectorView.space l.fn.base).tells;
      serves : (capacity : ℕ) → g.G.Ground.serves l.fn.base capacity → g.G.Ground.taken l.fn.base ≤ capacity → g.G.Ground.serves l.base capacity × (g.G.Ground.taken l.base ≤ capacity);
      caused : IsTrue (g.G.SectorView.space l.fn.base).tells → HaveCauses (SomeWantsAt g.V.Volume.wants g.G.SectorView.space) (9 * l._step) (g.G.SectorView.space l.fn.base).barriers (g.G.SectorView.space l.base).barriers;
      goes : IsTrue (g.G.SectorView.space l.fn.base).tells → (capacity : ℕ) (committed now : Content) (shrunk : Option ℕ)
          → Stands (g.V.Volume.knows l.fn.volume (g.G.SectorView.space l.fn.base) capacity) committed now shrunk (g.G.SectorView.space l.fn.base) (g.G.Ground.outside l.fn.base)
          → WentOn capacity (g.V.Volume.knows l.volume (g.G.SectorView.space l.base) capacity) committed now shrunk (g.G.Ground.outside l.fn.base) l.fn.table l.fn.stage l.stage (g.G.SectorView.space l.base) (g.G.Ground.outside l.base);
    }
