-- The bounds of the dialects.
use Rattle.std.proofs.Common.{ℕ, ◌≤◌, arith}
use Rattle.jnl_format.specs.Dialect.{most_blhdr}
use Rattle.jnl_format.specs.declared.dialect.Dialect.{Dialect}
use Rattle.jnl_format.specs.declared.dialect.Dialect.TheVariants.{Plain, Wide}

-- no list's header fills more than 1 MiB
pub most_bound : (dialect : Dialect) → most_blhdr dialect ≤ 1048576
most_bound Plain = omega arith
most_bound Wide = omega arith
