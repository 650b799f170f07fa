use Rattle.std.proofs.Common.{◌≡◌, take, map}
use Rattle.hfs_model.specs.Sorted.{kept}
use Rattle.volume_base.specs.Listing.{is_shown, listed_child}
use Rattle.volume_base.proofs.listing.shown.Given as goal

abbrev pub invariant-loop-child : goal.invariant-loop-child
invariant-loop-child l = l.names ≡ map listed_child (kept (is_shown l.folder) (take l.child-index l.children))
