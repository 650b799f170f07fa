use Rattle.session_lines.proofs.Trees.{looked_same, served_tree}
use Rattle.session_lines.proofs.laws.commands_leave_trees.Goals as goal

pub returns-clause-tree : goal.returns-clause-tree
returns-clause-tree c capacity entry asked spells served = served_tree capacity entry asked spells served

pub returns-clause-looks : goal.returns-clause-looks
returns-clause-looks c capacity entry asked spells reads served = looked_same capacity entry asked spells reads served
