use Rattle.served_volume.proofs.Marked.{closed}
use Rattle.served_volume.proofs.serving.ServedVolumeVolume.close.Goals as goal

pub returns-clause-closed : goal.returns-clause-closed
returns-clause-closed g c tells capacity committed now shrunk stands =
    closed c.put_mark.result c.put_mark.new.self.volume capacity committed now shrunk (g.G.SectorView.space c.put_mark.new.base) (c.put_mark.ensures.marked tells capacity committed now shrunk stands)
