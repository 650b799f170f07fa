use Rattle.std.proofs.Common.{◌≡◌, drop}
use Rattle.std.specs.List.{list_all}
use Rattle.fork_map.specs.Blocks.{fork_sectors}
use Rattle.btree_file.specs.Place.{sectors_at}
use Rattle.btree_file.proofs.written.is_written.Given as goal

-- all were put exactly where all from here on were
abbrev pub invariant-loop-k : goal.invariant-loop-k
invariant-loop-k g l =
    list_all (g.P.SectorView.space l.space).put (sectors_at (fork_sectors l.fork l.per_block) l.per_node l.node)
    ≡ list_all (g.P.SectorView.space l.space).put (drop l.k (sectors_at (fork_sectors l.fork l.per_block) l.per_node l.node))
