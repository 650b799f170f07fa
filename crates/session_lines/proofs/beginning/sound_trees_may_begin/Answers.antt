use Rattle.session_lines.proofs.BegunTrees.{next_low, own_begun}
use Rattle.session_lines.proofs.beginning.sound_trees_may_begin.Goals as goal

pub returns-clause-few : goal.returns-clause-few
returns-clause-few c start bytes = next_low start bytes

pub returns-clause-begin : goal.returns-clause-begin
returns-clause-begin c start files sound bytes own left = record { own = own_begun start (c.sound_content_has_tree.ensures start sound) bytes own; few = next_low start bytes; files_are = left }
