use Rattle.std.proofs.Common.{◌≡◌, ◌<◌, ◌/◌, true, sym, ap, subst, arith}
use Rattle.std.specs.List.{list_all}
use Rattle.volume_base.specs.Opening.{ends_inside}
use Rattle.volume_base.proofs.SoundForks.{places_inside}
use Rattle.volume_base.proofs.attaching.attach_tree.Goals as goal

pub attach-requires-clause-inside : goal.attach-requires-clause-inside
attach-requires-clause-inside g c k low =
    places_inside (c.args.block / 512) (g.P.SectorView.space c.args.space.now).sectors c.inside_or_none-extents.result (omega (arith, c.requires.least))
    (subst (λ n. list_all (ends_inside (c.args.block / 512) n) c.inside_or_none-extents.result ≡ true) c.sectors.ensures c.inside_or_none-extents.ensures.inside) k low
