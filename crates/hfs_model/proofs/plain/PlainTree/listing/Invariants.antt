use Rattle.std.proofs.Common.{◌≡◌, ◌==◌, take, map}
use Rattle.hfs_model.specs.Sorted.{kept}
use Rattle.hfs_model.specs.Step.{listed}
use Rattle.hfs_model.proofs.plain.PlainTree.listing.Given as goal

abbrev pub invariant-loop-entry : goal.invariant-loop-entry
invariant-loop-entry l = l.names ≡ map listed (kept (λ entry. entry.parent == l.fn.folder) (take l.entry-index l.entry-items))
