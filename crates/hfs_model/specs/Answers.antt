-- Answers of the code, as steps.
use Rattle.std.specs.Prelude.{Option, Some, None}
use Rattle.hfs_model.specs.declared.plain.PlainTree.{PlainTree}
use Rattle.hfs_model.specs.declared.answering.Answer.{Answer}
use Rattle.hfs_model.specs.Step.{Step}

-- the tree after an answer: another one, or that of before
abbrev pub tree_or : PlainTree → Option PlainTree → PlainTree
tree_or tree None = tree
tree_or tree (Some next) = next

-- the step that an answer tells
abbrev pub step_told : PlainTree → Answer → Step
step_told tree answer = (answer.reply, tree_or tree answer.tree)
