use Rattle.std.proofs.Common.{◌≡◌, sym, ◌∙◌}
use Rattle.std.specs.Prelude.{codes}
use Rattle.btree_file.specs.Standing.{pairs_in}
use Rattle.btree_file.specs.State.{sectors_of_tree}
use Rattle.volume_names.proofs.FindersTry.{no_value_free, value_not_free}
use Rattle.volume_base.proofs.Over.{over_read}
use Rattle.volume_names.proofs.node_names.is_free_number.Goals as goal

pub returns-clause-free : goal.returns-clause-free
returns-clause-free g c tells =
    no_value_free (pairs_in (sectors_of_tree c.args.tree.now) (g.P.SectorView.space c.args.space.now).content) c.args.private (codes "iNode") c.in_ok-name.name c.args.number c.in_ok-name.ensures.name
    (sym c.in_default.is ∙ c.in_ok-found.ensures.found tells)

pub returns-in-Some-clause-free : goal.returns-in-Some-clause-free
returns-in-Some-clause-free g c tells =
    value_not_free (pairs_in (sectors_of_tree c.args.tree.now) (g.P.SectorView.space c.args.space.now).content) c.args.private (codes "iNode") c.in_ok-name.name c.args.number c.in-Some._record c.in_ok-name.ensures.name
    (sym c.in-Some.is ∙ c.in_ok-found.ensures.found tells)

pub returns-clause-over : goal.returns-clause-over
returns-clause-over g c =
    over_read c.args.tree.now c.lookup_record.new.tree c.args.desk.now c.lookup_record.new.desk (g.P.SectorView.space c.args.space.now) (g.P.SectorView.space c.lookup_record.new.space) c.requires.over
    (record { keeps = c.lookup_record.ensures.keeps; looks = c.lookup_record.ensures.looks }) c.lookup_record.ensures.desk

pub returns-in-Some-clause-over : goal.returns-in-Some-clause-over
returns-in-Some-clause-over g c =
    over_read c.args.tree.now c.lookup_record.new.tree c.args.desk.now c.lookup_record.new.desk (g.P.SectorView.space c.args.space.now) (g.P.SectorView.space c.lookup_record.new.space) c.requires.over
    (record { keeps = c.lookup_record.ensures.keeps; looks = c.lookup_record.ensures.looks }) c.lookup_record.ensures.desk

pub returns-in_err-found-clause-over : goal.returns-in_err-found-clause-over
returns-in_err-found-clause-over g c =
    over_read c.args.tree.now c.lookup_record.new.tree c.args.desk.now c.lookup_record.new.desk (g.P.SectorView.space c.args.space.now) (g.P.SectorView.space c.lookup_record.new.space) c.requires.over
    (record { keeps = c.lookup_record.ensures.keeps; looks = c.lookup_record.ensures.looks }) c.lookup_record.ensures.desk
