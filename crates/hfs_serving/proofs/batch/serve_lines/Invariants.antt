use Rattle.std.proofs.Common.{◌≡◌, ◌≤◌, ◌+◌, ◌*◌, ℕ}
use Rattle.std.specs.Prelude.{Option, IsTrue}
use Rattle.jnl_format.specs.Recovery.{Content}
use Rattle.hfs_serving.specs.Commits.{HaveCauses, SomeWantsAt}
use Rattle.hfs_serving.specs.Faults.{CountsFaults}
use Rattle.hfs_serving.specs.Going.{Stands}
use Rattle.hfs_serving.specs.Speaking.{HasNoEnd, SpeaksLines}
use Rattle.hfs_serving.proofs.batch.serve_lines.Given as goal

abbrev pub invariant-loop-at : goal.invariant-loop-at
invariant-loop-at g l =
    record {
      most : l.at ≤ 32;
      no_end : (front : ℕ) → front ≤ l.at → HasNoEnd g.K.Speaker.ends front l.lines;
      counts : CountsFaults (g.G.Ground.failed l.fn.base) (g.G.SectorView.space l.fn.base) (g.G.Ground.failed l.base) (g.G.SectorView.space l.base);
      anchor : g.G.Ground.anchor l.base ≡ g.G.Ground.anchor l.fn.base;
      tells : (g.G.SectorView.space l.base).tells ≡ (g.G.SectorView.space l.fn.base).tells;
      serves : (capacity : ℕ) → g.G.Ground.serves l.fn.base capacity → g.G.Ground.taken l.fn.base ≤ capacity → g.G.Ground.serves l.base capacity × (g.G.Ground.taken l.base ≤ capacity);
      caused : IsTrue (g.G.SectorView.space l.fn.base).tells → HaveCauses (SomeWantsAt g.V.Volume.wants g.G.SectorView.space) (g.K.Speaker.often * (l.at + 1)) (g.G.SectorView.space l.fn.base).barriers (g.G.SectorView.space l.base).barriers;
      goes : IsTrue (g.G.SectorView.space l.fn.base).tells → (capacity : ℕ) (committed now : Content) (shrunk : Option ℕ)
          → Stands (g.V.Volume.knows l.fn.volume (g.G.SectorView.space l.fn.base) capacity) committed now shrunk (g.G.SectorView.space l.fn.base) (g.G.Ground.outside l.fn.base)
          → SpeaksLines l.at capacity (g.V.Volume.knows l.volume (g.G.SectorView.space l.base) capacity) committed now shrunk (g.G.Ground.outside l.fn.base) l.number (g.K.Speaker.spoke l.fn.speaker) (g.K.Speaker.spoke l.speaker) l.lines l.fn.told l.told (g.G.SectorView.space l.base) (g.G.Ground.outside l.base);
    }
