use Rattle.volume_base.proofs.Over.{reads_both}
use Rattle.volume_base.proofs.moving.find_route.Goals as goal

pub returns-in_err-folder-in-Ok-2-clause-reads : goal.returns-in_err-folder-in-Ok-2-clause-reads
returns-in_err-folder-in-Ok-2-clause-reads g c =
    reads_both c.args.tree.now c.find_folder.new.tree c.find_site.new.tree (g.P.SectorView.space c.args.space.now) (g.P.SectorView.space c.find_folder.new.space) (g.P.SectorView.space c.find_site.new.space)
    (reads_both c.args.tree.now c.owner.new.tree c.find_folder.new.tree (g.P.SectorView.space c.args.space.now) (g.P.SectorView.space c.owner.new.space) (g.P.SectorView.space c.find_folder.new.space) c.owner.ensures.reads c.find_folder.ensures.reads) c.find_site.ensures.reads

pub returns-in-Ok-3-clause-reads : goal.returns-in-Ok-3-clause-reads
returns-in-Ok-3-clause-reads g c =
    reads_both c.args.tree.now c.find_folder.new.tree c.find_site.new.tree (g.P.SectorView.space c.args.space.now) (g.P.SectorView.space c.find_folder.new.space) (g.P.SectorView.space c.find_site.new.space)
    (reads_both c.args.tree.now c.owner.new.tree c.find_folder.new.tree (g.P.SectorView.space c.args.space.now) (g.P.SectorView.space c.owner.new.space) (g.P.SectorView.space c.find_folder.new.space) c.owner.ensures.reads c.find_folder.ensures.reads) c.find_site.ensures.reads

pub returns-in-Err-3-clause-reads : goal.returns-in-Err-3-clause-reads
returns-in-Err-3-clause-reads g c =
    reads_both c.args.tree.now c.find_folder.new.tree c.find_site.new.tree (g.P.SectorView.space c.args.space.now) (g.P.SectorView.space c.find_folder.new.space) (g.P.SectorView.space c.find_site.new.space)
    (reads_both c.args.tree.now c.owner.new.tree c.find_folder.new.tree (g.P.SectorView.space c.args.space.now) (g.P.SectorView.space c.owner.new.space) (g.P.SectorView.space c.find_folder.new.space) c.owner.ensures.reads c.find_folder.ensures.reads) c.find_site.ensures.reads
