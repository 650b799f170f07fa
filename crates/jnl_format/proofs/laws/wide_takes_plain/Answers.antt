use Rattle.jnl_format.specs.declared.dialect.Dialect.TheVariants.{Plain}
use Rattle.jnl_format.proofs.Widening.{header_wide, recovery_wide}
use Rattle.jnl_format.proofs.laws.wide_takes_plain.Goals as goal

pub returns : goal.returns
returns c = record {
  header = λ size sector head read. header_wide Plain size sector head read;
  content = λ content recovered stands. recovery_wide Plain content recovered stands;
}
