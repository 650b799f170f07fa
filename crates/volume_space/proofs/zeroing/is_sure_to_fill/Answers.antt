use Rattle.std.proofs.Common.{◌≡◌, ◌≤◌, ◌*◌, ◌/◌, arith, subst}
use Rattle.sector_disk.specs.Space.{Space}
use Rattle.volume_space.proofs.zeroing.is_sure_to_fill.Goals as goal

pub returns : goal.returns
returns g c used =
    let v = c.args.volume.now in
    let a : Space = g.P.SectorView.space c.args.space.now in
    record {
      block = record { least = c.requires.service.least; most = c.requires.service.most; whole = c.is_whole.ensures c.if-not-is_whole.false };
      fits = subst (λ n. n * (v.header.block_size / 512) ≤ a.sectors) c.total.ensures (omega (arith, c.is_inside.ensures c.if-not-is_inside.false, c.sectors.ensures));
      header = (c.have.ensures.0 used).each (2 / (v.header.block_size / 512)) (omega arith) (omega arith);
    }
