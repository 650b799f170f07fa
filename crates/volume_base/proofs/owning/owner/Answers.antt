use Rattle.volume_base.proofs.Over.{reads_both}
use Rattle.volume_base.proofs.owning.owner.Goals as goal

pub returns-in_err-id_reached-in-Ok-clause-reads : goal.returns-in_err-id_reached-in-Ok-clause-reads
returns-in_err-id_reached-in-Ok-clause-reads g c =
    reads_both c.args.tree.now c.walk.new.tree c.id_reached.new.tree (g.P.SectorView.space c.args.space.now) (g.P.SectorView.space c.walk.new.space) (g.P.SectorView.space c.id_reached.new.space) c.walk.ensures.reads c.id_reached.ensures.reads

pub returns-in_ok-id_reached-in-Ok-clause-reads : goal.returns-in_ok-id_reached-in-Ok-clause-reads
returns-in_ok-id_reached-in-Ok-clause-reads g c =
    reads_both c.args.tree.now c.walk.new.tree c.id_reached.new.tree (g.P.SectorView.space c.args.space.now) (g.P.SectorView.space c.walk.new.space) (g.P.SectorView.space c.id_reached.new.space) c.walk.ensures.reads c.id_reached.ensures.reads
