use Rattle.btree_file.proofs.Grown.{grew_none}
use Rattle.tree_file_tests.proofs.reader.read_again.Goals as goal

pub returns-clause-back : goal.returns-clause-back
returns-clause-back g c = λ tells. c.refresh.ensures.back tells c.args.tree.now (grew_none c.args.tree.now) (c.requires.stands tells)
