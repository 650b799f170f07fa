use Rattle.std.proofs.Common.{◌≡◌, drop}
use Rattle.hfs_model.specs.Step.{walk}
use Rattle.hfs_model.proofs.plain.PlainTree.walk.Given as goal

abbrev pub invariant-loop-name : goal.invariant-loop-name
invariant-loop-name l = walk l.self l.from l.path ≡ walk l.self l.at (drop l.name-index l.path)
