use Rattle.std.proofs.Common.{◌≡◌, drop}
use Rattle.hfs_model.specs.Step.{is_below}
use Rattle.volume_base.proofs.moving.is_below.Given as goal

abbrev pub invariant-loop-at : goal.invariant-loop-at
invariant-loop-at l = is_below l.path l.top ≡ is_below (drop l.at l.path) (drop l.at l.top)
