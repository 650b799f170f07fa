use Rattle.std.proofs.Common.{◌==◌, ◌||◌, not, ◌∙◌, ap}
use Rattle.fsck_core.proofs.KindLaws.{kind_of_type}
use Rattle.fsck_core.proofs.kinds.is_thread_record.Goals as goal

pub returns : goal.returns
returns c = ap not c.is_entry_type.ensures ∙ ap (λ n. not ((n == 1) || (n == 2))) c.read_be16.ensures ∙ kind_of_type c.args.value.now
