use Rattle.std.proofs.Common.{◌≡◌, ◌++◌, take, drop}
use Rattle.hfs_model.specs.Sorted.{put_before}
use Rattle.open_files.specs.Order.{handle_before}
use Rattle.open_files.proofs.table.place_of.Given as goal

abbrev pub invariant-loop-at : goal.invariant-loop-at
invariant-loop-at l = put_before handle_before l.opened l.files ≡ take l.at l.files ++ put_before handle_before l.opened (drop l.at l.files)
