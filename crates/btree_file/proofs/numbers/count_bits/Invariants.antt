use Rattle.std.proofs.Common.{◌≡◌, ◌-◌, ◌^◌, min, take}
use Rattle.btree_file.specs.Map.{bits_of}
use Rattle.btree_file.proofs.numbers.count_bits.Given as goal

abbrev pub invariant-loop-stretch : goal.invariant-loop-stretch
invariant-loop-stretch l = l.bits ≡ min (bits_of (take l.stretch-index l.map)) (2 ^ 64 - 1)
