use Rattle.tree_store_tests.proofs.asking.has_pair.Goals as goal

pub returns-clause-below : goal.returns-clause-below
returns-clause-below g c = g.met.P.SectorView.follows_trans c.args.space.now c.attach_in.new.space c.find_in-answer.new.space c.attach_in.ensures.below c.find_in-answer.ensures.below
