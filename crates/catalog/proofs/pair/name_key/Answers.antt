use Rattle.std.proofs.Common.{sym, subst}
use Rattle.std.proofs.Common.{◌<◌, ◌^◌}
use Rattle.std.specs.List.{AllByRecursion}
use Rattle.catalog.specs.Pairs.{IsKeyOf}
use Rattle.catalog.proofs.Keys.{key_reads}
use Rattle.catalog.proofs.pair.name_key.Goals as goal

pub returns : goal.returns
returns c =
    let fits = subst (λ l. AllByRecursion (λ unit. unit < 2 ^ 16) l) c.as_slice.ensures c.units_fit.ensures in
    subst (λ key. IsKeyOf c.args.parent c.args.name.now key) (sym c.in_ok-key.ensures) (key_reads c.args.parent c.args.name.now c.ranges.parent.fits c.requires fits)
