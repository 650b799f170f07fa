use Rattle.std.proofs.Common.{◌<◌, ◌^◌, sym, subst}
use Rattle.std.specs.List.{AllByRecursion}
use Rattle.attributes.specs.Values.{IsKeyOf}
use Rattle.attributes.proofs.Keys.{key_reads}
use Rattle.attributes.proofs.pair.record_key.Goals as goal

pub returns : goal.returns
returns c =
    let fits = subst (λ l. AllByRecursion (λ unit. unit < 2 ^ 16) l) c.as_slice.ensures c.units_fit.ensures in
    subst (λ key. IsKeyOf c.args.id c.args.name.now c.args.start key) (sym c.in_ok-key.ensures) (key_reads c.args.id c.args.name.now c.args.start c.ranges.id.fits c.ranges.start.fits c.requires fits)
