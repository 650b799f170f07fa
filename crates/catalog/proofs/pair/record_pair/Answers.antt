use Rattle.std.proofs.Common.{ap, subst, sym}
use Rattle.std.proofs.Common.{◌≤◌, length}
use Rattle.catalog.proofs.Keys.{record_spelled, entry_long}
use Rattle.catalog.proofs.pair.record_pair.Goals as goal

pub returns-clause-spells : goal.returns-clause-spells
returns-clause-spells c = record_spelled c.args.parent c.args.name.now c.in_ok-key.key c.in_ok-value.value c.args.rec.now c.in_ok-key.ensures c.requires.fits c.in_ok-value.ensures

pub returns-clause-short : goal.returns-clause-short
returns-clause-short c kind = subst (λ l. length l ≤ 248) (sym c.in_ok-value.ensures) (entry_long c.args.rec.now kind c.requires.fits)
