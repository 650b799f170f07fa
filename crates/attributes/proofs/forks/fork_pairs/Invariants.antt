use Rattle.std.proofs.Common.{◌∷◌, map, take}
use Rattle.hfs_volume.specs.Forks.{in_use}
use Rattle.attributes.specs.Forks.{SpellParts, first_part, further_part}
use Rattle.attributes.proofs.forks.fork_pairs.Given as goal

-- the first record is spelled, and so are the further ones so far
abbrev pub invariant-loop-more : goal.invariant-loop-more
invariant-loop-more l = SpellParts l.id l.name (first_part l.size (in_use l.fork) ∷ map further_part (take l.more-index l.more-items)) l.pairs.items
