use Rattle.std.proofs.Common.{sym, ◌∙◌}
use Rattle.fsck_core.specs.Owners.{owned_all}
use Rattle.fsck_core.proofs.AllForkLaws.{no_forks, its_forks_then}
use Rattle.fsck_core.proofs.owned.add_pair.Goals as goal

pub returns-then-has_no_name : goal.returns-then-has_no_name
returns-then-has_no_name c = no_forks c.args.key.now c.args.value.now (owned_all c.args.forks.now.items) (sym c.has_no_name.ensures ∙ c.if-has_no_name.true)

pub returns : goal.returns
returns c = its_forks_then c.add_forks.result c.args.key.now c.args.value.now (owned_all c.args.forks.now.items) (owned_all c.add_forks.new.forks.items) (sym c.has_no_name.ensures ∙ c.if-has_no_name.false) c.add_forks.ensures
