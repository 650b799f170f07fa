use Rattle.std.proofs.Common.{◌≡◌, ◌-◌, ◌/◌, ◌++◌, IsTrue, length}
use Rattle.fork_map.specs.Nodes.{node_of}
use Rattle.btree_node.specs.Node.{next_of}
use Rattle.btree_node.specs.TreeFile.{map_chain}
use Rattle.btree_file.specs.Frame.{ReadsSpace}
use Rattle.fork_map.specs.Blocks.{fork_sectors}
use Rattle.btree_file.specs.Walks.{FitsFile, LeadTo, names_of}
use Rattle.btree_file.proofs.reading.read_map.Given as goal

-- so many stretches were read
abbrev pub invariant-loop-read : goal.invariant-loop-read
invariant-loop-read g l = record {
  long : length l.page ≡ length l.fn.page;
  many : length l.map.items ≡ l._read;
  fits : FitsFile l.total (length l.fn.page) l.map.items;
  leads : IsTrue (g.V.SectorView.space l.fn.view).tells → LeadTo (node_of (g.V.SectorView.space l.fn.view).content (fork_sectors l.fork l.per_block) (length l.fn.page / 512)) (length l.fn.page) l.map.items l.next;
  chain : IsTrue (g.V.SectorView.space l.fn.view).tells → map_chain (node_of (g.V.SectorView.space l.fn.view).content (fork_sectors l.fork l.per_block) (length l.fn.page / 512)) l.total
      (next_of (node_of (g.V.SectorView.space l.fn.view).content (fork_sectors l.fork l.per_block) (length l.fn.page / 512) 0))
      ≡ names_of l.map.items ++ map_chain (node_of (g.V.SectorView.space l.fn.view).content (fork_sectors l.fork l.per_block) (length l.fn.page / 512)) (l.total - (l._read - 1)) l.next;
  below : g.V.SectorView.follows l.fn.view l.view;
  reads : ReadsSpace (g.V.SectorView.space l.fn.view) (g.V.SectorView.space l.view);
}
