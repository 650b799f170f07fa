use Rattle.std.proofs.Common.{string_bytes, sym}
use Rattle.std.proofs.lemmas.Str.{IsUtf8-string_bytes}
use Rattle.std.specs.Char.Utf16.{utf16_lossy_chars}
use Rattle.name_text.proofs.Plain.{chars_of_encoded}
use Rattle.name_text.proofs.print.utf16_text.Goals as goal

pub returns-in-Ok-clause-text : goal.returns-in-Ok-clause-text
returns-in-Ok-clause-text c =
    let made = rw c.in-Ok.is at c.in_ok-text.ensures.chars in
    let whole = rw c.in-Ok.is at c.in_ok-text.ensures.unpaired in
    (sym whole, chars_of_encoded (string_bytes c.in-Ok.text) (utf16_lossy_chars c.args.units.now) (IsUtf8-string_bytes c.in-Ok.text) made)
