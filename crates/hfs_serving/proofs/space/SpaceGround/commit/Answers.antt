use Rattle.std.proofs.Common.{◌≡◌, ◌≢◌, ◌∷◌, [], ℕ, ⊎_elim, ap, length, subst}
use Rattle.std.specs.Prelude.{IsTrue}
use Rattle.std.proofs.lemmas.Bool.{cases_eq}
use Rattle.jnl_store.specs.Store.{faults_of}
use Rattle.hfs_serving.proofs.Grounding.{commit_leaves, commit_makes, heads_on, kept_after, keeps_tells, same_anchor, same_rig, serves_after, sizes_over, tells_still, told_disk}
use Rattle.std.proofs.Common.{Result, arith}
use Rattle.std.specs.Prelude.{OnErr}
use Rattle.sector_disk.specs.Cause.{Rose}
use Rattle.jnl_store.specs.declared.store.StoreFault.{StoreFault}
use Rattle.hfs_serving.proofs.Causes.{commit_cause, commit_counted}
use Rattle.hfs_serving.proofs.space.SpaceGround.commit.Goals as goal

pub commit-requires-clause-fits : goal.commit-requires-clause-fits
commit-requires-clause-fits g c = c.requires.serves.1.fits

pub commit-requires-clause-capacity : goal.commit-requires-clause-capacity
commit-requires-clause-capacity g c = (c.requires.serves.0, c.requires.serves.1.holds, c.requires.serves.2)

pub commit-requires-clause-keeps : goal.commit-requires-clause-keeps
commit-requires-clause-keeps g c none tells = (c.requires.serves.1.keeps tells).1

pub commit-requires-clause-header : goal.commit-requires-clause-header
commit-requires-clause-header g c none tells =
    let self = c.args.self.now in
    (c.requires.heads (keeps_tells self.store.ghost_name self.disk.ghost_name self.store.now (g.R.SectorDisk.state self.disk.now) (c.requires.serves.1.keeps tells))).header

pub commit-requires-clause-version : goal.commit-requires-clause-version
commit-requires-clause-version g c none tells =
    let self = c.args.self.now in
    (c.requires.heads (keeps_tells self.store.ghost_name self.disk.ghost_name self.store.now (g.R.SectorDisk.state self.disk.now) (c.requires.serves.1.keeps tells))).version

-- a number that isn't other than 0
zero_is : (n : ℕ) → (n ≢ 0 → ⊥) → n ≡ 0
zero_is n never = ⊎_elim (λ same. same) (λ other. absurd (never other)) (cases_eq n 0)

pub returns-in-Err-clause-crash : goal.returns-in-Err-clause-crash
returns-in-Err-clause-crash g c tells =
    let self = c.args.self.now in
    commit_leaves self.store.ghost_name self.disk.ghost_name self.store.now c.commit.new.self (g.R.SectorDisk.state self.disk.now) (g.R.SectorDisk.state c.commit.new.disk) c.requires.serves.0 (g.met.R.SectorDisk.well_formed self.disk.now) c.requires.serves.1 tells
    c.commit.ensures.crash (λ some. let failed = c.commit.ensures.failed some in (failed.1, failed.2)) c.commit.ensures.sink c.commit.ensures.journal

pub returns-in-Ok-clause-crash : goal.returns-in-Ok-clause-crash
returns-in-Ok-clause-crash g c tells =
    let self = c.args.self.now in
    commit_leaves self.store.ghost_name self.disk.ghost_name self.store.now c.commit.new.self (g.R.SectorDisk.state self.disk.now) (g.R.SectorDisk.state c.commit.new.disk) c.requires.serves.0 (g.met.R.SectorDisk.well_formed self.disk.now) c.requires.serves.1 tells
    c.commit.ensures.crash (λ some. let failed = c.commit.ensures.failed some in (failed.1, failed.2)) c.commit.ensures.sink c.commit.ensures.journal

pub returns-in-Ok-clause-done : goal.returns-in-Ok-clause-done
returns-in-Ok-clause-done g c tells =
    let self = c.args.self.now in
    let disk = g.R.SectorDisk.state self.disk.now in
    let there = told_disk self.store.ghost_name self.disk.ghost_name self.store.now disk tells in
    let none : faults_of self.store.now ≡ 0 = zero_is (faults_of self.store.now) (λ some. let failed = (c.commit.ensures.failed some).0 in let is = c.in-Ok.is in absurd (cc (failed, is))) in
    commit_makes self.store.ghost_name self.disk.ghost_name self.store.now c.commit.new.self disk (g.R.SectorDisk.state c.commit.new.disk) c.requires.serves.0 (g.met.R.SectorDisk.well_formed self.disk.now) c.requires.serves.1 tells
    (c.commit.ensures.crash none there) c.commit.ensures.sink (c.in-Ok.ensures.done none there) c.in-Ok.ensures.nothing.0 c.commit.ensures.journal

pub returns-in-Ok-clause-nothing : goal.returns-in-Ok-clause-nothing
returns-in-Ok-clause-nothing g c = ap length c.in-Ok.ensures.nothing.0

pub returns-in-Ok-clause-heads : goal.returns-in-Ok-clause-heads
returns-in-Ok-clause-heads g c tells =
    let self = c.args.self.now in
    heads_on _ _ _ _ (sizes_over self.store.ghost_name self.disk.ghost_name self.store.now (g.R.SectorDisk.state self.disk.now)) (c.requires.heads tells) (returns-in-Ok-clause-done g c tells)

pub returns-in-Ok-clause-still : goal.returns-in-Ok-clause-still
returns-in-Ok-clause-still g c capacity serves =
    let self = c.args.self.now in
    let none : faults_of self.store.now ≡ 0 = zero_is (faults_of self.store.now) (λ some. let failed = (c.commit.ensures.failed some).0 in let is = c.in-Ok.is in absurd (cc (failed, is))) in
    serves_after self.store.now c.commit.new.self (g.R.SectorDisk.state self.disk.now) (g.R.SectorDisk.state c.commit.new.disk) capacity serves c.commit.ensures.room c.commit.ensures.journal c.commit.ensures.still_fits
    (λ tells. (c.in-Ok.ensures.done none (subst (λ t. IsTrue t) c.commit.ensures.same.tells tells)).keeps)

pub returns-in-Ok-clause-tells : goal.returns-in-Ok-clause-tells
returns-in-Ok-clause-tells g c =
    let self = c.args.self.now in
    let none : faults_of self.store.now ≡ 0 = zero_is (faults_of self.store.now) (λ some. let failed = (c.commit.ensures.failed some).0 in let is = c.in-Ok.is in absurd (cc (failed, is))) in
    tells_still self.store.ghost_name self.disk.ghost_name self.store.now c.commit.new.self (g.R.SectorDisk.state self.disk.now) (g.R.SectorDisk.state c.commit.new.disk) c.commit.ensures.same.tells c.requires.serves.1.keeps
    (λ tells. (c.in-Ok.ensures.done none (subst (λ t. IsTrue t) c.commit.ensures.same.tells tells)).keeps)

pub invariant_of-self : goal.invariant_of-self
invariant_of-self g c =
    let self = c.args.self.now in
    record {
      kept = λ none tells. kept_after c.commit.result self.store.now c.commit.new.self (g.R.SectorDisk.state self.disk.now) (g.R.SectorDisk.state c.commit.new.disk) c.commit.ensures.same.tells c.commit.ensures.done
          (λ some. (c.commit.ensures.failed some).1) c.commit.ensures.not_failed (λ is. (c.commit.ensures.disk is).1) none tells;
    }

pub returns-in-Ok-clause-anchor : goal.returns-in-Ok-clause-anchor
returns-in-Ok-clause-anchor g c =
    let same = same_anchor c.args.self.now.store.now c.commit.new.self c.commit.ensures.journal in
    λ i. record { journal = same i; rig = same_rig c.commit.ensures.same i; names = c.args.self.now.store.ghost_name ∷ c.args.self.now.disk.ghost_name ∷ [] }

pub returns-in-Err-clause-anchor : goal.returns-in-Err-clause-anchor
returns-in-Err-clause-anchor g c =
    let same = same_anchor c.args.self.now.store.now c.commit.new.self c.commit.ensures.journal in
    λ i. record { journal = same i; rig = same_rig c.commit.ensures.same i; names = c.args.self.now.store.ghost_name ∷ c.args.self.now.disk.ghost_name ∷ [] }

pub returns-in-Ok-clause-counts : goal.returns-in-Ok-clause-counts
returns-in-Ok-clause-counts g c =
    record {
      later = c.commit.ensures.later;
      counted = commit_counted _ _ _ c.commit.result c.args.self.now.store.now c.commit.new.self (g.R.SectorDisk.state c.args.self.now.disk.now).faults (g.R.SectorDisk.state c.commit.new.disk).faults c.commit.ensures.nothing (λ is. (c.commit.ensures.disk is).0) (λ other. (c.commit.ensures.failed other).1) c.commit.ensures.not_failed;
      sink = omega (arith, c.commit.ensures.sink.faults);
    }

pub returns-in-Err-clause-counts : goal.returns-in-Err-clause-counts
returns-in-Err-clause-counts g c =
    record {
      later = c.commit.ensures.later;
      counted = commit_counted _ _ _ c.commit.result c.args.self.now.store.now c.commit.new.self (g.R.SectorDisk.state c.args.self.now.disk.now).faults (g.R.SectorDisk.state c.commit.new.disk).faults c.commit.ensures.nothing (λ is. (c.commit.ensures.disk is).0) (λ other. (c.commit.ensures.failed other).1) c.commit.ensures.not_failed;
      sink = omega (arith, c.commit.ensures.sink.faults);
    }

pub returns-in-Err-clause-cause : goal.returns-in-Err-clause-cause
returns-in-Err-clause-cause g c =
    let store = c.args.self.now.store.now in
    let before = (g.R.SectorDisk.state c.args.self.now.disk.now).faults in
    let now = (g.R.SectorDisk.state c.commit.new.disk).faults in
    subst (λ (r : Result (Unit {0}) StoreFault). OnErr r (faults_of store ≡ 0 → Rose before now)) c.in-Err.is (commit_cause c.commit.result store before now (λ is. (c.commit.ensures.disk is).0) c.commit.ensures.not_failed)
