use Rattle.std.proofs.Common.{◌≡◌, ◌++◌, take, drop}
use Rattle.fork_map.specs.Cut.{front, back}
use Rattle.fork_map.proofs.place.find_place.Given as goal

abbrev pub invariant-loop-index : goal.invariant-loop-index
invariant-loop-index l = record {
  front : front l.n l.items ≡ take l.index l.items ++ front l.left (drop l.index l.items);
  back : back l.n l.items ≡ back l.left (drop l.index l.items);
}
