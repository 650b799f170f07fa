use Rattle.std.proofs.Common.{◌≡◌, ◌++◌, drop}
use Rattle.std.specs.List.{flat_map}
use Rattle.hfs_language.specs.Text as spec
use Rattle.cmd_lang.proofs.reply.push_trees.Given as goal

abbrev pub invariant-loop-tree : goal.invariant-loop-tree
invariant-loop-tree l = l.text.items ++ flat_map spec.tree_text (drop l.tree-index l.trees) ≡ l.fn.text.items ++ flat_map spec.tree_text l.trees
