use Rattle.std.proofs.Common.{arith}
use Rattle.name_text.proofs.Utf16.{units_by_index}
use Rattle.name_text.proofs.Clear.{clear_name}
use Rattle.name_text.proofs.RoundTrip.{name_some}
use Rattle.name_text.proofs.laws.printed_is_one_word.Goals as goal

pub returns-clause-some : goal.returns-clause-some
returns-clause-some c = name_some c.args.units.now c.requires (units_by_index c.args.units.now (λ k. omega (arith, c.type_inv.units k)))

pub returns-clause-clear : goal.returns-clause-clear
returns-clause-clear c = clear_name c.args.units.now (units_by_index c.args.units.now (λ k. omega (arith, c.type_inv.units k)))
