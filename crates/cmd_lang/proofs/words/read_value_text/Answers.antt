use Rattle.std.proofs.Common.{Ok, ap, sym, ◌∙◌, subst}
use Rattle.std.specs.Prelude.{IfSome}
use Rattle.cmd_lang.specs.Written.{SpellsValue}
use Rattle.cmd_lang.proofs.SpelledWrites.{value_known}
use Rattle.cmd_lang.proofs.words.read_value_text.Goals as goal

pub returns-in-Some : goal.returns-in-Some
returns-in-Some c =
    value_known c.args.text.now c.in-Some.value.items (subst (λ found. IfSome found (λ value. SpellsValue c.args.text.now value.items)) c.in-Some.is c.in_ok-value.ensures) ∙ ap Ok (sym c.from_vec.ensures)
