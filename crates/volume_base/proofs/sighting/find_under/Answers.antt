use Rattle.volume_base.proofs.Over.{over_read}
use Rattle.volume_base.proofs.sighting.find_under.Goals as goal

pub returns-in_err-lookup_record-clause-over : goal.returns-in_err-lookup_record-clause-over
returns-in_err-lookup_record-clause-over g c =
    over_read c.args.tree.now c.lookup_record.new.tree c.args.desk.now c.lookup_record.new.desk (g.P.SectorView.space c.args.space.now) (g.P.SectorView.space c.lookup_record.new.space) c.requires.over
    (record { keeps = c.lookup_record.ensures.keeps; looks = c.lookup_record.ensures.looks }) c.lookup_record.ensures.desk

pub node_reached-requires : goal.node_reached-requires
node_reached-requires g c = record {
  over = over_read c.args.tree.now c.lookup_record.new.tree c.args.desk.now c.lookup_record.new.desk (g.P.SectorView.space c.args.space.now) (g.P.SectorView.space c.lookup_record.new.space) c.requires.over
      (record { keeps = c.lookup_record.ensures.keeps; looks = c.lookup_record.ensures.looks }) c.lookup_record.ensures.desk;
}

pub returns-in-Err-clause-over : goal.returns-in-Err-clause-over
returns-in-Err-clause-over g c =
    over_read c.args.tree.now c.lookup_record.new.tree c.args.desk.now c.lookup_record.new.desk (g.P.SectorView.space c.args.space.now) (g.P.SectorView.space c.lookup_record.new.space) c.requires.over
    (record { keeps = c.lookup_record.ensures.keeps; looks = c.lookup_record.ensures.looks }) c.lookup_record.ensures.desk
