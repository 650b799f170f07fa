use Rattle.std.proofs.Common.{rules, length-set, refl, ◌∙◌}
use Rattle.cmd_lang.proofs.Units.{no_digits, one_digit}
use Rattle.cmd_lang.proofs.escapes.digits.Goals as goal

pub loop-digit-init : goal.loop-digit-init
loop-digit-init c = record { size = refl; made = λ byte inside. no_digits 256 c.args.unit byte inside }

pub loop-digit-preserved : goal.loop-digit-preserved
loop-digit-preserved c =
    let l = c.loop-digit in
    record {
      size = length-set l.table c.from-in-loop-digit.result _ ∙ l.invariant.size;
      made = λ byte inside.
          one_digit l.table c.args.unit l.digit c.from-in-loop-digit.result _ l.invariant.size l.invariant.made c.requires.1 (search (rules, c.loop-digit-test.true)) (search (rules, c.from-in-loop-digit.ensures)) (search (rules, c.from.ensures)) byte inside;
    }
