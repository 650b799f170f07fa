use Rattle.std.proofs.Common.{◌≡◌, ◌≤◌, ◌+◌, ◌-◌, ℕ, List, false, length}
use Rattle.std.specs.Prelude.{Option, IsTrue}
use Rattle.jnl_format.specs.Recovery.{Content}
use Rattle.line_source.specs.Input.{weight, SameSource}
use Rattle.hfs_serving.specs.Commits.{CommitsABatch, SomeWantsAt}
use Rattle.hfs_serving.specs.Faults.{CountsFaults}
use Rattle.hfs_serving.specs.Going.{Stands}
use Rattle.hfs_language.specs.declared.reply.Change.{Change}
use Rattle.std.specs.List.{AllByRecursion}
use Rattle.watchers.specs.Told.{AreTold}
use Rattle.hfs_language.specs.Language.{most_bytes}
use Rattle.line_source.specs.Batch.{held}
use Rattle.hfs_serving.specs.Speaking.{Speaks}
use Rattle.hfs_serving.specs.Spoken.{ServesSpoken}
use Rattle.hfs_serving.proofs.Pending.{On}
use Rattle.hfs_serving.proofs.taking.serve_source.Given as goal

abbrev pub invariant-loop-lines : goal.invariant-loop-lines
invariant-loop-lines g l =
    record {
      same : SameSource (g.S.Source.stream l.fn.source) (g.S.Source.stream l.source);
      counts : CountsFaults (g.G.Ground.failed l.fn.base) (g.G.SectorView.space l.fn.base) (g.G.Ground.failed l.base) (g.G.SectorView.space l.base);
      later : (g.S.Source.stream l.fn.source).faults ≤ (g.S.Source.stream l.source).faults;
      anchor : g.G.Ground.anchor l.base ≡ g.G.Ground.anchor l.fn.base;
      tells : (g.G.SectorView.space l.base).tells ≡ (g.G.SectorView.space l.fn.base).tells;
      serves : (capacity : ℕ) → g.G.Ground.serves l.fn.base capacity → g.G.Ground.taken l.fn.base ≤ capacity → g.G.Ground.serves l.base capacity × (g.G.Ground.taken l.base ≤ capacity);
      nothing : (capacity : ℕ) → g.G.Ground.serves l.fn.base capacity → g.G.Ground.taken l.fn.base ≡ 0 → g.G.Ground.taken l.base ≡ 0;
      fits : length l.lines.items ≤ l.left;
      most : length l.lines.items ≤ 32;
      bound : l.left ≤ 4294967295;
      commits : IsTrue (g.G.SectorView.space l.fn.base).tells → CommitsABatch (SomeWantsAt g.V.Volume.wants g.G.SectorView.space) g.K.Speaker.often 1 (4294967295 - l.left) (g.G.SectorView.space l.fn.base).barriers (g.G.SectorView.space l.base).barriers;
      on : (heard : List Change)
          × (AllByRecursion (λ w. g.W.Watcher.leaves w ≡ false) l.fn.watchers.items
          → AreTold g.W.Watcher.told g.W.Watcher.leaves heard l.fn.watchers.items l.watchers.items)
          × On l.fn.input (g.S.Source.stream l.fn.source) l.lines.items l.input (g.S.Source.stream l.source)
          (λ count texts. (count + l.left ≡ 4294967295) × (IsTrue (g.G.SectorView.space l.fn.base).tells → (capacity : ℕ) (start : Content) (shrunk : Option ℕ)
          → Stands (g.V.Volume.knows l.fn.volume (g.G.SectorView.space l.fn.base) capacity) start start shrunk (g.G.SectorView.space l.fn.base) (g.G.Ground.outside l.fn.base)
          → ServesSpoken (Speaks 0 start (g.K.Speaker.spoke l.fn.speaker) (g.K.Speaker.spoke l.speaker)) heard count capacity (g.V.Volume.knows l.volume (g.G.SectorView.space l.base) capacity) start shrunk (g.G.Ground.outside l.fn.base) (held most_bytes texts) (g.G.SectorView.space l.base) (g.G.Ground.outside l.base)));
    }

abbrev pub decreases-loop-lines : goal.decreases-loop-lines
decreases-loop-lines g l = weight l.input (g.S.Source.stream l.source) + length l.lines.items
