use Rattle.sector_disk.specs.Space.{Space}
use Rattle.btree_file.proofs.KeptTrees.{holds_grown}
use Rattle.tree_file_tests.proofs.grower.grow_tree.Goals as goal

pub grow-requires-clause-stands : goal.grow-requires-clause-stands
grow-requires-clause-stands g c = λ tells. (c.requires.holds tells).1.stands

pub returns-clause-holds : goal.returns-clause-holds
returns-clause-holds g c = λ tells form was.
    let old : Space = g.P.SectorView.space c.args.space.now in
    let new : Space = g.P.SectorView.space c.grow.new.space in
    holds_grown form g.K.KeyOrder.is_key g.K.KeyOrder.is_value g.K.KeyOrder.cmp c.args.run c.args.tree.now c.grow.new.self old.content new.content c.grow.result was (c.grow.ensures.grown tells)
