use Rattle.std.proofs.Common.{◌≡◌, ◌<◌, ◌/◌, ℕ, IsTrue, length, min, take, true}
use Rattle.fork_map.specs.Nodes.{node_of}
use Rattle.btree_file.specs.Frame.{ReadsSpace}
use Rattle.btree_file.specs.Map.{used_in, bits_of}
use Rattle.fork_map.specs.Blocks.{fork_sectors}
use Rattle.btree_file.proofs.marking.find_clear.Given as goal

-- the stretches before this one have no clear bit of the nodes
abbrev pub invariant-loop-place : goal.invariant-loop-place
invariant-loop-place g l = record {
  long : length l.page ≡ length l.fn.page;
  before : l.before ≡ min (bits_of (take l.place l.map)) l.total;
  set : IsTrue (g.V.SectorView.space l.fn.space).tells → (n : ℕ) → n < l.before → used_in (λ node. node_of (g.V.SectorView.space l.fn.space).content (fork_sectors l.fork l.per_block) (length l.fn.page / 512) node) l.map n ≡ true;
  below : g.V.SectorView.follows l.fn.space l.space;
  reads : ReadsSpace (g.V.SectorView.space l.fn.space) (g.V.SectorView.space l.space);
}
