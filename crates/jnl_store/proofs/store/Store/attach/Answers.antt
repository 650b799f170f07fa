use Rattle.std.proofs.Common.{[], ap, subst, sym}
use Rattle.sector_disk.specs.Disk.{only}
use Rattle.jnl_replay.specs.Homing.{after_replay}
use Rattle.jnl_store.specs.Batch.{Staged}
use Rattle.jnl_store.specs.Journal.{IsAtRest}
use Rattle.jnl_store.specs.Plan.{rested}
use Rattle.jnl_store.specs.Store.{durable_of}
use Rattle.jnl_store.proofs.AtRest.{fits_rested, rested_rests}
use Rattle.jnl_store.proofs.Attached.{attached_holds}
use Rattle.jnl_store.proofs.Homed.{rest_lists}
use Rattle.jnl_store.proofs.Kept.{keeps_new}
use Rattle.jnl_store.proofs.Quiet.{rest_replayed}
use Rattle.jnl_store.proofs.RingKept.{lists_from}
use Rattle.jnl_store.proofs.Settling.{told_only}
use Rattle.jnl_store.proofs.Slots.{keeps_empty}
use Rattle.jnl_store.proofs.store.Store.attach.Goals as goal

pub returns-clause-keeps : goal.returns-clause-keeps
returns-clause-keeps c sectors content fits size whole is =
    let plan = c.args.plan.now in
    let disk = told_only (only (after_replay plan content)) in
    keeps_empty _ sectors _ c.args.cache
    (keeps_new (rested plan) (after_replay plan content) sectors _ c.rest.ensures (ap (λ (s : Staged). s.all) c.in_ok-batch.ensures) (ap (λ (s : Staged). s.kept) c.in_ok-batch.ensures) (ap (λ (s : Staged). s.live) c.in_ok-batch.ensures)
    (lists_from (rested plan) [] disk (rest_lists (rested plan) (rested_rests plan sectors fits) disk (attached_holds content plan is sectors fits size whole))))
    c.in_ok-cache.ensures

pub returns-clause-durable : goal.returns-clause-durable
unfolding durable_of
returns-clause-durable c content = rest_replayed _ content (subst IsAtRest (sym c.rest.ensures) (rested_rests c.args.plan.now c.requires.fits.0 c.requires.fits.1))

pub returns-clause-still_fits : goal.returns-clause-still_fits
returns-clause-still_fits c sectors fits = fits_rested c.args.plan.now c.rest.result sectors (subst IsAtRest (sym c.rest.ensures) (rested_rests c.args.plan.now sectors fits)) c.rest.ensures fits
