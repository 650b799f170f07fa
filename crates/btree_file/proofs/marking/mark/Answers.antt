use Rattle.std.proofs.Common.{arith}
use Rattle.btree_file.proofs.Sizes.{size_most}
use Rattle.btree_file.proofs.marking.mark.Goals as goal

pub overflow_mul-stretch : goal.overflow_mul-stretch
overflow_mul-stretch g c = omega (arith, size_most _ c.bytes-bytes.ensures.size, c.requires.low)

pub overflow_add-stretch : goal.overflow_add-stretch
overflow_add-stretch g c = omega (arith, size_most _ c.bytes-bytes.ensures.size, c.requires.low, c.requires.bit)
