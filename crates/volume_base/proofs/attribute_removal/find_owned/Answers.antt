use Rattle.std.proofs.Common.{length, sym, ◌∙◌, ap}
use Rattle.std.specs.Prelude.{nat_lt}
use Rattle.std.specs.Option.{option_map}
use Rattle.attributes.specs.Owned.{names_of}
use Rattle.btree_file.specs.Standing.{pairs_in}
use Rattle.btree_file.specs.State.{sectors_of_tree}
use Rattle.volume_base.proofs.Over.{reads_both, pairs_read}
use Rattle.volume_base.proofs.OwnedTold.{others_are}
use Rattle.volume_base.proofs.attribute_removal.find_owned.Goals as goal

pub returns-in-Some-clause-found : goal.returns-in-Some-clause-found
returns-in-Some-clause-found g c tells =
    others_are (pairs_in (sectors_of_tree c.args.tree.now) (g.P.SectorView.space c.args.space.now).content) (pairs_in (sectors_of_tree c.find_value.new.tree) (g.P.SectorView.space c.find_value.new.space).content) (pairs_read c.args.tree.now c.find_value.new.tree (g.P.SectorView.space c.args.space.now) (g.P.SectorView.space c.find_value.new.space) tells c.find_value.ensures.reads)
    c.args.id c.args.name.now _ (sym c.in-Some.is ∙ c.in_ok-_value.ensures.found tells) c.count_owned.result (c.count_owned.ensures.counted (c.find_value.ensures.reads.looks.same.tells ∙ tells))

pub returns-in-None-clause-found : goal.returns-in-None-clause-found
returns-in-None-clause-found g c tells = ap (option_map (λ value. nat_lt 1 (length (names_of c.args.id (pairs_in (sectors_of_tree c.args.tree.now) (g.P.SectorView.space c.args.space.now).content))))) (sym c.in-None.is ∙ c.in_ok-_value.ensures.found tells)

pub returns-in-Some-clause-reads : goal.returns-in-Some-clause-reads
returns-in-Some-clause-reads g c = reads_both c.args.tree.now c.find_value.new.tree c.count_owned.new.tree (g.P.SectorView.space c.args.space.now) (g.P.SectorView.space c.find_value.new.space) (g.P.SectorView.space c.count_owned.new.space) c.find_value.ensures.reads c.count_owned.ensures.reads
