use Rattle.served_volume.proofs.Still.{knows_same}
use Rattle.served_volume.proofs.serving.ServedVolumeVolume.look.Goals as goal

pub returns : goal.returns
returns g c first capacity committed now shrunk still known =
    knows_same c.args.self.now.volume (g.G.SectorView.space first) (g.G.SectorView.space c.args._base.now)
    (record { tells = still.tells; sectors = still.sectors; content = still.content; closed = λ s shut. (still.closed s).0 shut; live = λ s l. (still.live s).0 l }) capacity committed now shrunk known
