use Rattle.std.proofs.Common.{◌≡◌, ◌≢◌, ℕ, ⊎_elim, subst, arith, Result}
use Rattle.std.specs.Prelude.{OnErr}
use Rattle.std.proofs.lemmas.Bool.{cases_eq}
use Rattle.sector_disk.specs.Cause.{Rose}
use Rattle.jnl_store.specs.Store.{faults_of, puts_of}
use Rattle.jnl_store.specs.declared.store.StoreFault.{StoreFault}
use Rattle.hfs_serving.proofs.Causes.{commit_cause, rest_counted}
use Rattle.hfs_serving.proofs.Grounding.{same_anchor, told_disk}
use Rattle.hfs_serving.proofs.Rested.{no_puts, rest_kept, rest_leaves, rest_makes, rested_of}
use Rattle.hfs_serving.proofs.resting.rest.Goals as goal

pub checkpoint-requires-clause-fits : goal.checkpoint-requires-clause-fits
checkpoint-requires-clause-fits g c = c.requires.serves.1.fits

pub checkpoint-requires-clause-keeps : goal.checkpoint-requires-clause-keeps
checkpoint-requires-clause-keeps g c none tells = (c.requires.serves.1.keeps tells).1

-- a number that isn't other than 0
zero_is : (n : ℕ) → (n ≢ 0 → ⊥) → n ≡ 0
zero_is n never = ⊎_elim (λ same. same) (λ other. absurd (never other)) (cases_eq n 0)

pub returns-in-Err-clause-crash : goal.returns-in-Err-clause-crash
returns-in-Err-clause-crash g c tells =
    let base = c.args.base.now in
    rest_leaves base.store.ghost_name base.disk.ghost_name base.store.now c.checkpoint.new.self (g.R.SectorDisk.state base.disk.now) (g.R.SectorDisk.state c.checkpoint.new.disk) c.requires.serves.0 (g.met.R.SectorDisk.well_formed base.disk.now) c.requires.serves.1 tells
    c.checkpoint.ensures.crash (λ some. let failed = c.checkpoint.ensures.failed some in (failed.1, failed.2)) c.checkpoint.ensures.sink c.checkpoint.ensures.journal

pub returns-in-Ok-clause-crash : goal.returns-in-Ok-clause-crash
returns-in-Ok-clause-crash g c tells =
    let base = c.args.base.now in
    rest_leaves base.store.ghost_name base.disk.ghost_name base.store.now c.checkpoint.new.self (g.R.SectorDisk.state base.disk.now) (g.R.SectorDisk.state c.checkpoint.new.disk) c.requires.serves.0 (g.met.R.SectorDisk.well_formed base.disk.now) c.requires.serves.1 tells
    c.checkpoint.ensures.crash (λ some. let failed = c.checkpoint.ensures.failed some in (failed.1, failed.2)) c.checkpoint.ensures.sink c.checkpoint.ensures.journal

pub returns-in-Ok-clause-done : goal.returns-in-Ok-clause-done
returns-in-Ok-clause-done g c tells =
    let base = c.args.base.now in
    let disk = g.R.SectorDisk.state base.disk.now in
    let there = told_disk base.store.ghost_name base.disk.ghost_name base.store.now disk tells in
    let none : faults_of base.store.now ≡ 0 = zero_is (faults_of base.store.now) (λ some. let failed = (c.checkpoint.ensures.failed some).0 in let is = c.in-Ok.is in absurd (cc (failed, is))) in
    rest_makes base.store.ghost_name base.disk.ghost_name base.store.now c.checkpoint.new.self disk (g.R.SectorDisk.state c.checkpoint.new.disk) c.requires.serves.0 (g.met.R.SectorDisk.well_formed base.disk.now) c.requires.serves.1 tells
    (c.checkpoint.ensures.crash none there) c.checkpoint.ensures.sink (c.in-Ok.ensures.done none there) (no_puts (puts_of base.store.now) c.requires.nothing) c.checkpoint.ensures.puts.0 c.checkpoint.ensures.journal

pub returns-in-Ok-clause-rests : goal.returns-in-Ok-clause-rests
returns-in-Ok-clause-rests g c tells =
    let base = c.args.base.now in
    let disk = g.R.SectorDisk.state base.disk.now in
    let there = told_disk base.store.ghost_name base.disk.ghost_name base.store.now disk tells in
    let none : faults_of base.store.now ≡ 0 = zero_is (faults_of base.store.now) (λ some. let failed = (c.checkpoint.ensures.failed some).0 in let is = c.in-Ok.is in absurd (cc (failed, is))) in
    rested_of base.store.ghost_name base.disk.ghost_name base.store.now c.checkpoint.new.self disk (g.R.SectorDisk.state c.checkpoint.new.disk) (c.in-Ok.ensures.done none there)

pub invariant_of-base : goal.invariant_of-base
invariant_of-base g c =
    let base = c.args.base.now in
    record {
      kept = λ none tells. rest_kept c.checkpoint.result base.store.now c.checkpoint.new.self (g.R.SectorDisk.state base.disk.now) (g.R.SectorDisk.state c.checkpoint.new.disk) c.checkpoint.ensures.same.tells c.checkpoint.ensures.done
          (λ some. (c.checkpoint.ensures.failed some).1) c.checkpoint.ensures.not_failed (λ is. (c.checkpoint.ensures.disk is).1) none tells;
    }

pub returns-in-Ok-clause-anchor : goal.returns-in-Ok-clause-anchor
returns-in-Ok-clause-anchor g c = same_anchor c.args.base.now.store.now c.checkpoint.new.self c.checkpoint.ensures.journal

pub returns-in-Err-clause-anchor : goal.returns-in-Err-clause-anchor
returns-in-Err-clause-anchor g c = same_anchor c.args.base.now.store.now c.checkpoint.new.self c.checkpoint.ensures.journal

pub returns-in-Ok-clause-counts : goal.returns-in-Ok-clause-counts
returns-in-Ok-clause-counts g c = record {
  later = c.checkpoint.ensures.later;
  counted = rest_counted _ c.checkpoint.result c.args.base.now.store.now c.checkpoint.new.self (g.R.SectorDisk.state c.args.base.now.disk.now).faults (g.R.SectorDisk.state c.checkpoint.new.disk).faults c.checkpoint.ensures.settled (λ is. (c.checkpoint.ensures.disk is).0) (λ other. (c.checkpoint.ensures.failed other).1) c.checkpoint.ensures.not_failed;
  sink = omega (arith, c.checkpoint.ensures.sink.faults);
}

pub returns-in-Err-clause-counts : goal.returns-in-Err-clause-counts
returns-in-Err-clause-counts g c = record {
  later = c.checkpoint.ensures.later;
  counted = rest_counted _ c.checkpoint.result c.args.base.now.store.now c.checkpoint.new.self (g.R.SectorDisk.state c.args.base.now.disk.now).faults (g.R.SectorDisk.state c.checkpoint.new.disk).faults c.checkpoint.ensures.settled (λ is. (c.checkpoint.ensures.disk is).0) (λ other. (c.checkpoint.ensures.failed other).1) c.checkpoint.ensures.not_failed;
  sink = omega (arith, c.checkpoint.ensures.sink.faults);
}

pub returns-in-Err-clause-cause : goal.returns-in-Err-clause-cause
returns-in-Err-clause-cause g c =
    let store = c.args.base.now.store.now in
    let before = (g.R.SectorDisk.state c.args.base.now.disk.now).faults in
    let now = (g.R.SectorDisk.state c.checkpoint.new.disk).faults in
    subst (λ (r : Result (Unit {0}) StoreFault). OnErr r (faults_of store ≡ 0 → Rose before now)) c.in-Err.is (commit_cause c.checkpoint.result store before now (λ is. (c.checkpoint.ensures.disk is).0) c.checkpoint.ensures.not_failed)
