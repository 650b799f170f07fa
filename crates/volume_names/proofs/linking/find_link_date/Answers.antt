use Rattle.volume_base.proofs.Over.{over_read}
use Rattle.volume_names.proofs.linking.find_link_date.Goals as goal

pub returns-in_err-found-clause-over : goal.returns-in_err-found-clause-over
returns-in_err-found-clause-over g c =
    over_read c.args.tree.now c.lookup_record.new.tree c.args.desk.now c.lookup_record.new.desk (g.P.SectorView.space c.args.space.now) (g.P.SectorView.space c.lookup_record.new.space) c.requires.over
    (record { keeps = c.lookup_record.ensures.keeps; looks = c.lookup_record.ensures.looks }) c.lookup_record.ensures.desk

pub returns-clause-over : goal.returns-clause-over
returns-clause-over g c =
    over_read c.args.tree.now c.lookup_record.new.tree c.args.desk.now c.lookup_record.new.desk (g.P.SectorView.space c.args.space.now) (g.P.SectorView.space c.lookup_record.new.space) c.requires.over
    (record { keeps = c.lookup_record.ensures.keeps; looks = c.lookup_record.ensures.looks }) c.lookup_record.ensures.desk
