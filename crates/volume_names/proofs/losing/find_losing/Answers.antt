use Rattle.volume_base.proofs.Over.{over_read}
use Rattle.volume_names.proofs.losing.find_losing.Goals as goal

pub returns-in_err-found-in-Ok-clause-over : goal.returns-in_err-found-in-Ok-clause-over
returns-in_err-found-in-Ok-clause-over g c =
    over_read c.find_folder.new.tree c.lookup_record.new.tree c.find_folder.new.desk c.lookup_record.new.desk (g.P.SectorView.space c.find_folder.new.space) (g.P.SectorView.space c.lookup_record.new.space) c.find_folder.ensures.over
    (record { keeps = c.lookup_record.ensures.keeps; looks = c.lookup_record.ensures.looks }) c.lookup_record.ensures.desk

pub returns-in_ok-found-in-Ok-clause-over : goal.returns-in_ok-found-in-Ok-clause-over
returns-in_ok-found-in-Ok-clause-over g c =
    over_read c.find_folder.new.tree c.lookup_record.new.tree c.find_folder.new.desk c.lookup_record.new.desk (g.P.SectorView.space c.find_folder.new.space) (g.P.SectorView.space c.lookup_record.new.space) c.find_folder.ensures.over
    (record { keeps = c.lookup_record.ensures.keeps; looks = c.lookup_record.ensures.looks }) c.lookup_record.ensures.desk
