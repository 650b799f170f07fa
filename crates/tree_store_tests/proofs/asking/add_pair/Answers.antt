use Rattle.tree_store_tests.proofs.asking.add_pair.Goals as goal

pub returns-clause-below : goal.returns-clause-below
returns-clause-below g c = g.met.P.SectorView.follows_trans c.args.space.now c.attach_in.new.space c.insert_in-answer.new.space c.attach_in.ensures.below c.insert_in-answer.ensures.below
