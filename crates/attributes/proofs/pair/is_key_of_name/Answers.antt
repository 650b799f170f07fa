use Rattle.std.proofs.Common.{ℕ, List, length, ap, arith}
use Rattle.attributes.proofs.Lists.{not_so}
use Rattle.attributes.proofs.Units.{key_long}
use Rattle.attributes.proofs.pair.is_key_of_name.Goals as goal

pub returns-then-key-other : goal.returns-then-key-other
returns-then-key-other c = (
  (λ yes. absurd (not_so yes)),
  (λ same. absurd (c.if-key-other.true (omega (arith, key_long c.args.key.now same.0, key_long c.args.other.now c.requires, ap (λ (l : List ℕ). length l) same.2)))),
)
