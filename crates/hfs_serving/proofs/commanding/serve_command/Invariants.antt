use Rattle.std.proofs.Common.{◌≡◌, ◌≤◌, ℕ, List}
use Rattle.std.specs.Prelude.{None, Some, Ok, Option, IsTrue}
use Rattle.jnl_format.specs.Recovery.{Content}
use Rattle.hfs_volume.specs.declared.asked.Asked.{Asked}
use Rattle.volume_runs.specs.Run.{wanted_in}
use Rattle.hfs_serving.specs.Commits.{HaveCauses, WantsAt}
use Rattle.hfs_serving.specs.Faults.{CountsFaults}
use Rattle.hfs_serving.specs.Going.{GoesRested, ahead_of}
use Rattle.hfs_serving.proofs.commanding.serve_command.Given as goal

abbrev pub invariant-loop : goal.invariant-loop
invariant-loop g l =
    record {
      counts : CountsFaults (g.G.Ground.failed l.fn.base) (g.G.SectorView.space l.fn.base) (g.G.Ground.failed l.base) (g.G.SectorView.space l.base);
      anchor : g.G.Ground.anchor l.base ≡ g.G.Ground.anchor l.fn.base;
      tells : (g.G.SectorView.space l.base).tells ≡ (g.G.SectorView.space l.fn.base).tells;
      serves : (capacity : ℕ) → g.G.Ground.serves l.fn.base capacity → g.G.Ground.taken l.fn.base ≤ capacity → g.G.Ground.serves l.base capacity × (g.G.Ground.taken l.base ≤ capacity);
      waiting : IsTrue l.may_wait → IsTrue l.fn.may_wait × ((g.G.SectorView.space l.base).barriers ≡ (g.G.SectorView.space l.fn.base).barriers);
      caused : IsTrue (g.G.SectorView.space l.fn.base).tells → HaveCauses (WantsAt g.V.Volume.wants g.G.SectorView.space (Some l.fn.asked)) 0 (g.G.SectorView.space l.fn.base).barriers (g.G.SectorView.space l.base).barriers;
      goes : IsTrue (g.G.SectorView.space l.fn.base).tells → (capacity : ℕ) (committed now : Content) (shrunk : Option ℕ) (begun : g.row.G.Denot) (own : Option Asked) (line : List ℕ) → wanted_in own line ≡ Some l.fn.asked
          → GoesRested capacity None (g.V.Volume.knows l.fn.volume (g.G.SectorView.space l.fn.base) capacity) committed now shrunk (g.G.Ground.outside begun) (g.G.SectorView.space l.fn.base) (g.G.Ground.outside l.fn.base)
          → (l.heard ≡ l.fn.heard) × GoesRested capacity (ahead_of l.may_wait own line) (g.V.Volume.knows l.volume (g.G.SectorView.space l.base) capacity) committed now shrunk (g.G.Ground.outside begun) (g.G.SectorView.space l.base) (g.G.Ground.outside l.base);
    }
