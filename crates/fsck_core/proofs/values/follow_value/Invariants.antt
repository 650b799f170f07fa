use Rattle.std.proofs.Common.{◌<◌, ◌≤◌, ◌+◌, ◌-◌, length}
use Rattle.fork_map.specs.Blocks.{blocks_of}
use Rattle.hfs_volume.specs.Forks.{is_full}
use Rattle.fsck_core.specs.Attributes.{AreKeyed, attribute_at, rest_at}
use Rattle.fsck_core.proofs.ValueLaws.{Follows}
use Rattle.fsck_core.proofs.values.follow_value.Given as goal

abbrev pub invariant-loop-place : goal.invariant-loop-place
invariant-loop-place l = record {
  above : l.at < l.place;
  most : l.place ≤ length l.attributes;
  goes : AreKeyed l.attributes
      → Follows (length (blocks_of l.fork.extents.extents)) (is_full l.fork.extents.extents) (rest_at l.attributes (l.at + 1) (attribute_at l.attributes l.at)) l.front (rest_at l.attributes l.place (attribute_at l.attributes l.at));
}

abbrev pub decreases-loop-place : goal.decreases-loop-place
decreases-loop-place l = length l.attributes - l.place
