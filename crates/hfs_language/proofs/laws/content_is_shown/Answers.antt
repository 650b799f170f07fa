use Rattle.std.proofs.Common.{arith}
use Rattle.hfs_language.proofs.Shown.{content_shown}
use Rattle.hfs_language.proofs.laws.content_is_shown.Goals as goal

pub returns : goal.returns
returns c = content_shown c.args.one.now c.args.other.now (λ k. omega (arith, c.type_inv.one k)) (λ k. omega (arith, c.type_inv.other k))
