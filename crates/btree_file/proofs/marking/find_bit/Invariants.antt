use Rattle.std.proofs.Common.{◌≡◌, ◌+◌, take}
use Rattle.btree_file.specs.Map.{bits_of}
use Rattle.btree_file.proofs.marking.find_bit.Given as goal

-- the stretches before this one have so many bits
abbrev pub invariant-loop-place : goal.invariant-loop-place
invariant-loop-place l = l.node ≡ bits_of (take l.place l.map) + l.bit
