use Rattle.std.proofs.Common.{◌≡◌, ap}
use Rattle.std.specs.Prelude.{OnErr, Result, Ok, Err}
use Rattle.alloc_bitmap.specs.Map.{BlockMap}
use Rattle.volume_space.proofs.cutting.give_back.Goals as goal

on_err : {A E : Type 0} {P : Type 0} (r : Result A E) → P → OnErr r P
on_err (Ok a) p = tt
on_err (Err e) p = p

pub give-requires : goal.give-requires
give-requires c = c.requires.used

pub with_freed-volume-requires : goal.with_freed-volume-requires
with_freed-volume-requires c = c.requires.counted

pub returns-clause-gives : goal.returns-clause-gives
returns-clause-gives c = λ i. record c.args.volume.now { map = c.in_ok-give.ensures.given i; header = c.with_freed-volume.ensures.same i }

pub returns-clause-fits : goal.returns-clause-fits
returns-clause-fits c = c.with_freed-volume.ensures.fits

pub returns-in_err-give-clause-same : goal.returns-in_err-give-clause-same
returns-in_err-give-clause-same c = on_err _ (ap (λ (m : BlockMap). record c.args.volume.now { map = m }) c.in_err-give.ensures.same)
