use Rattle.std.proofs.Common.{◌≡◌, ◌++◌, map, drop}
use Rattle.link_kinds.proofs.Ways.{name_of}
use Rattle.link_kinds.proofs.way.names.Given as goal

abbrev pub invariant-loop-folder : goal.invariant-loop-folder
invariant-loop-folder l = l.path ++ map name_of (drop l.folder-index l.way) ≡ map name_of l.way
