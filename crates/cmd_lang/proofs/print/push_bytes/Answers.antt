use Rattle.std.proofs.Common.{sym, ◌∙◌}
use Rattle.cmd_lang.proofs.Plain.{plain_appended}
use Rattle.cmd_lang.proofs.print.push_bytes.Goals as goal

pub returns-then-are_plain : goal.returns-then-are_plain
returns-then-are_plain c = plain_appended c.extend_from_slice.result c.args.text.now.items c.extend_from_slice.new.self.items c.args.value.now (sym c.are_plain.ensures ∙ c.if-are_plain.true) c.extend_from_slice.ensures.items
