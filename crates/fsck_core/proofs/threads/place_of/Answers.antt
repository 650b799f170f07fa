use Rattle.std.proofs.Common.{sym, ◌∙◌}
use Rattle.fsck_core.proofs.ThreadLaws.{place_none}
use Rattle.fsck_core.proofs.threads.place_of.Goals as goal

pub returns-in_default : goal.returns-in_default
returns-in_default c long = place_none c.args.key.now c.args.value.now c.parent_of.result (sym c.in_default.is ∙ c.read_row.ensures long) (c.parent_of.ensures long)
