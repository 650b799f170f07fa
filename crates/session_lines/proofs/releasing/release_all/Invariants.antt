use Rattle.std.proofs.Common.{◌≡◌, ◌≤◌, ◌*◌, [], ℕ}
use Rattle.std.specs.Prelude.{Option, IsTrue}
use Rattle.jnl_format.specs.Recovery.{Content}
use Rattle.hfs_serving.specs.Commits.{HaveCauses, SomeWantsAt}
use Rattle.hfs_serving.specs.Faults.{CountsFaults}
use Rattle.hfs_serving.specs.Going.{Stands}
use Rattle.hfs_serving.specs.Said.{untold}
use Rattle.hfs_serving.specs.Speaking.{SpeaksOn}
use Rattle.session_lines.specs.Turns.{spoke_with}
use Rattle.session_lines.proofs.releasing.release_all.Given as goal

abbrev pub invariant-loop-round : goal.invariant-loop-round
invariant-loop-round g l =
    record {
      counts : CountsFaults (g.G.Ground.failed l.fn.base) (g.G.SectorView.space l.fn.base) (g.G.Ground.failed l.base) (g.G.SectorView.space l.base);
      anchor : g.G.Ground.anchor l.base ≡ g.G.Ground.anchor l.fn.base;
      tells : (g.G.SectorView.space l.base).tells ≡ (g.G.SectorView.space l.fn.base).tells;
      serves : (capacity : ℕ) → g.G.Ground.serves l.fn.base capacity → g.G.Ground.taken l.fn.base ≤ capacity → g.G.Ground.serves l.base capacity × (g.G.Ground.taken l.base ≤ capacity);
      caused : IsTrue (g.G.SectorView.space l.fn.base).tells → HaveCauses (SomeWantsAt g.V.Volume.wants g.G.SectorView.space) (144 * l._round) (g.G.SectorView.space l.fn.base).barriers (g.G.SectorView.space l.base).barriers;
      goes : IsTrue (g.G.SectorView.space l.fn.base).tells → (capacity : ℕ) (committed now : Content) (shrunk : Option ℕ) (number : ℕ)
          → Stands (g.V.Volume.knows l.fn.volume (g.G.SectorView.space l.fn.base) capacity) committed now shrunk (g.G.SectorView.space l.fn.base) (g.G.Ground.outside l.fn.base)
          → SpeaksOn capacity (g.V.Volume.knows l.volume (g.G.SectorView.space l.base) capacity) committed now shrunk (g.G.Ground.outside l.fn.base) number (spoke_with l.fn.table l.fn.left.items) (spoke_with l.fn.table l.left.items) [] untold (g.G.SectorView.space l.base) (g.G.Ground.outside l.base);
    }
