use Rattle.std.proofs.Common.{◌∙◌, ap, arith}
use Rattle.std.proofs.lemmas.Str.{chars-encodes}
use Rattle.name_text.specs.Reading.{component}
use Rattle.name_text.specs.Printing.{component_text}
use Rattle.name_text.proofs.Utf16.{units_by_index}
use Rattle.name_text.proofs.RoundTrip.{read_printed}
use Rattle.name_text.proofs.Scalars.{name_scalar}
use Rattle.name_text.proofs.laws.printed_is_read_back.Goals as goal

pub returns-clause-characters : goal.returns-clause-characters
returns-clause-characters c = read_printed c.args.units.now c.requires.some c.requires.short (units_by_index c.args.units.now (λ k. omega (arith, c.type_inv.units k)))

pub returns-clause-bytes : goal.returns-clause-bytes
returns-clause-bytes c =
    let are = units_by_index c.args.units.now (λ k. omega (arith, c.type_inv.units k)) in
    ap component (chars-encodes (component_text c.args.units.now) (name_scalar c.args.units.now are)) ∙ read_printed c.args.units.now c.requires.some c.requires.short are
