use Rattle.session_lines.proofs.Owned.{linked_by, made_by, other_by, released_by}
use Rattle.session_lines.proofs.laws.commands_keep_what_is_kept.Goals as goal

pub returns-clause-others : goal.returns-clause-others
returns-clause-others c law tree asked got was few other = other_by law tree was asked got few other

pub returns-clause-released : goal.returns-clause-released
returns-clause-released c law tree id got was few = released_by law tree was id got few

pub returns-clause-made : goal.returns-clause-made
returns-clause-made c law tree got was few absent = made_by law tree was got few absent

pub returns-clause-linked : goal.returns-clause-linked
returns-clause-linked c law tree path at got was few is = linked_by law tree was path at got few is
