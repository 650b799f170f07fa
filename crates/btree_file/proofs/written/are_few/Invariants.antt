use Rattle.std.proofs.Common.{◌≡◌, ◌≤◌, ◌+◌, ◌-◌, not}
use Rattle.std.specs.List.{count_by, range_with_len}
use Rattle.fork_map.specs.Blocks.{fork_sectors}
use Rattle.btree_file.specs.Place.{sectors_at}
use Rattle.btree_file.specs.State.{all_put}
use Rattle.btree_file.proofs.written.are_few.Given as goal

-- those that were found, and those from here on, are all
abbrev pub invariant-loop-node : goal.invariant-loop-node
invariant-loop-node g l = record {
  few : l.count ≤ l.most;
  all : l.count + count_by (λ n. not (all_put (g.P.SectorView.space l.space).put (sectors_at (fork_sectors l.fork l.per_block) l.per_node n))) (range_with_len l.node (l.total - l.node))
      ≡ count_by (λ n. not (all_put (g.P.SectorView.space l.space).put (sectors_at (fork_sectors l.fork l.per_block) l.per_node n))) (range_with_len 0 l.total);
}
