use Rattle.volume_base.proofs.Over.{reads_both}
use Rattle.volume_base.proofs.listing.list_names.Goals as goal

pub returns-in_err-names-in-Ok-clause-reads : goal.returns-in_err-names-in-Ok-clause-reads
returns-in_err-names-in-Ok-clause-reads g c =
    reads_both c.args.tree.now c.find_folder.new.tree c.list_children.new.tree (g.P.SectorView.space c.args.space.now) (g.P.SectorView.space c.find_folder.new.space) (g.P.SectorView.space c.list_children.new.space) c.find_folder.ensures.reads c.list_children.ensures.reads

pub returns-in_ok-names-in-Ok-clause-reads : goal.returns-in_ok-names-in-Ok-clause-reads
returns-in_ok-names-in-Ok-clause-reads g c =
    reads_both c.args.tree.now c.find_folder.new.tree c.list_children.new.tree (g.P.SectorView.space c.args.space.now) (g.P.SectorView.space c.find_folder.new.space) (g.P.SectorView.space c.list_children.new.space) c.find_folder.ensures.reads c.list_children.ensures.reads
