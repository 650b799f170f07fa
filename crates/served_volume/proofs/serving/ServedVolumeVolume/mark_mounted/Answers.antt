use Rattle.served_volume.proofs.Marked.{mounted}
use Rattle.served_volume.proofs.serving.ServedVolumeVolume.mark_mounted.Goals as goal

pub returns-clause-opened : goal.returns-clause-opened
returns-clause-opened g c tells capacity committed now shrunk stands =
    mounted c.put_mark.result c.put_mark.new.self.volume capacity committed now shrunk (g.G.SectorView.space c.put_mark.new.base) (c.put_mark.ensures.marked tells capacity committed now shrunk stands)
