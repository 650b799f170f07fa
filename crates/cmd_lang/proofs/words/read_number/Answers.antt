use Rattle.std.proofs.Common.{sym, ◌∙◌}
use Rattle.cmd_lang.proofs.Numbers.{number_read, number_unlike, number_unparsed}
use Rattle.cmd_lang.proofs.words.read_number.Goals as goal

pub returns-then-is_decimal : goal.returns-then-is_decimal
returns-then-is_decimal c = number_read c.args.word.now c.in-Ok.number c.parse.result c.in-Ok.is c.parse.ensures.value.0 (sym c.is_decimal.ensures ∙ c.if-is_decimal.true)

pub returns-else-is_decimal : goal.returns-else-is_decimal
returns-else-is_decimal c = number_unlike c.args.word.now c.in-Ok.number c.parse.result c.in-Ok.is c.parse.ensures.value.0 (sym c.is_decimal.ensures ∙ c.if-is_decimal.false)

pub returns-in-Err : goal.returns-in-Err
returns-in-Err c = number_unparsed c.args.word.now c.in-Err.field-0 c.parse.result c.in-Err.is c.parse.ensures.value.0
