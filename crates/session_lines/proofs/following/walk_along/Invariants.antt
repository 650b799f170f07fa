use Rattle.std.proofs.Common.{◌≡◌, ◌≤◌, ℕ}
use Rattle.std.specs.Prelude.{Option, IsTrue}
use Rattle.jnl_format.specs.Recovery.{Content}
use Rattle.hfs_model.specs.Plain.{IsPlainTree}
use Rattle.hfs_volume.specs.TreeOf.{tree_of}
use Rattle.hfs_serving.specs.Faults.{CountsFaults}
use Rattle.hfs_serving.specs.Going.{Stands}
use Rattle.link_kinds.specs.Walks.{asks_left}
use Rattle.session_lines.specs.Lookings.{HasLooked, LeadsOn}
use Rattle.session_lines.proofs.following.walk_along.Given as goal

abbrev pub invariant-loop-further : goal.invariant-loop-further
invariant-loop-further g l =
    record {
      counts : CountsFaults (g.G.Ground.failed l.fn.base) (g.G.SectorView.space l.fn.base) (g.G.Ground.failed l.base) (g.G.SectorView.space l.base);
      anchor : g.G.Ground.anchor l.base ≡ g.G.Ground.anchor l.fn.base;
      tells : (g.G.SectorView.space l.base).tells ≡ (g.G.SectorView.space l.fn.base).tells;
      barriers : (g.G.SectorView.space l.base).barriers ≡ (g.G.SectorView.space l.fn.base).barriers;
      serves : (capacity : ℕ) → g.G.Ground.serves l.fn.base capacity → g.G.Ground.taken l.fn.base ≤ capacity → g.G.Ground.serves l.base capacity × (g.G.Ground.taken l.base ≤ capacity);
      goes : IsTrue (g.G.SectorView.space l.fn.base).tells → (capacity : ℕ) (committed now : Content) (shrunk : Option ℕ)
          → Stands (g.V.Volume.knows l.fn.volume (g.G.SectorView.space l.fn.base) capacity) committed now shrunk (g.G.SectorView.space l.fn.base) (g.G.Ground.outside l.fn.base)
          → HasLooked capacity (g.V.Volume.knows l.volume (g.G.SectorView.space l.base) capacity) committed now shrunk (g.G.Ground.outside l.fn.base) (g.G.SectorView.space l.base) (g.G.Ground.outside l.base);
      leads : IsTrue (g.G.SectorView.space l.fn.base).tells → (capacity : ℕ) (committed now : Content) (shrunk : Option ℕ)
          → Stands (g.V.Volume.knows l.fn.volume (g.G.SectorView.space l.fn.base) capacity) committed now shrunk (g.G.SectorView.space l.fn.base) (g.G.Ground.outside l.fn.base)
          → IsPlainTree (tree_of now) → LeadsOn (tree_of now) l.path l.walk;
    }

abbrev pub decreases-loop-further : goal.decreases-loop-further
decreases-loop-further g l = asks_left l.walk
