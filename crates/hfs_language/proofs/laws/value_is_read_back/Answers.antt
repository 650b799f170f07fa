use Rattle.std.proofs.Common.{arith}
use Rattle.hfs_language.proofs.Values.{value_back}
use Rattle.hfs_language.proofs.laws.value_is_read_back.Goals as goal

pub returns : goal.returns
returns c = value_back c.args.value.now (λ k. omega (arith, c.type_inv.value k))
