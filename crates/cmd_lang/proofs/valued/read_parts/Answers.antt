use Rattle.std.proofs.Common.{◌++◌, Result, length, sym, subst}
use Rattle.std.specs.Prelude.{IfSome}
use Rattle.hfs_language.specs.Text as spec
use Rattle.hfs_language.specs.declared.command.Command.{Command}
use Rattle.hfs_language.specs.declared.refusal.Refusal.{Refusal}
use Rattle.cmd_lang.specs.Reads.{Reads}
use Rattle.cmd_lang.specs.Written.{IsSpelledWrite}
use Rattle.cmd_lang.proofs.Lengths.{short_enough}
use Rattle.cmd_lang.proofs.SpelledWrites.{write_read}
use Rattle.cmd_lang.proofs.valued.read_parts.Goals as goal

pub returns-in-Some : goal.returns-in-Some
returns-in-Some c =
    let line = c.args.head.now ++ spec.value_text c.args.value.now in
    let write = c.in-Some.write in
    let is : IsSpelledWrite line write.path.now write.from.now write.value = subst (λ found. IfSome found (λ it. IsSpelledWrite line it.path.now it.from.now it.value)) c.in-Some.is c.in_ok-write.ensures in
    subst (λ (wanted : Result Command Refusal). Reads wanted c.read_spelled_write.result) (sym (write_read line write.path.now write.from.now write.value is (short_enough (length line) c.is_too_long.result c.is_too_long.ensures c.if-is_too_long.false))) c.read_spelled_write.ensures
