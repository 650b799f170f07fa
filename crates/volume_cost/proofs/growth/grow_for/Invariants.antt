use Rattle.std.proofs.Common.{◌≡◌, ◌≤◌, ◌<◌, ◌+◌, ◌*◌, ◌-◌, ℕ, false}
use Rattle.hfs_volume.specs.Cost.{suffices}
use Rattle.volume_cost.proofs.growth.grow_for.Given as goal

abbrev pub invariant-loop-units : goal.invariant-loop-units
invariant-loop-units l = record {
  low : l.least ≤ l.units;
  small : l.units * l.unit ≤ 2 * l.lacks + l.nodes + l.unit + 2;
  fails : (k : ℕ) → l.least ≤ k → k < l.units → suffices l.tree l.lacks (k * l.unit) ≡ false;
}

abbrev pub decreases-loop-units : goal.decreases-loop-units
decreases-loop-units l = l.end - l.units
