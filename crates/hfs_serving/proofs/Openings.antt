-- What is opened of an image, and why an image isn't.
use Rattle.std.proofs.Common.{◌≡◌, ◌≤◌, ℕ, Result, refl, sym, subst}
use Rattle.std.specs.Prelude.{IfOk, IfErr, Ok, Err}
use Rattle.jnl_format.specs.Recovery.{Content, journal_in, recovery, replayed}
use Rattle.jnl_replay.specs.Finding.{IsFound}
use Rattle.jnl_replay.specs.Plan.{FitsPlan, IsPlan, journal_of}
use Rattle.jnl_replay.specs.declared.plan.Place.{Place}
use Rattle.jnl_replay.specs.declared.plan.Plan.{Plan}
use Rattle.jnl_store.specs.Plan.{IsCapacityOf}
use Rattle.hfs_volume.specs.Mount.{IsOpen}
use Rattle.hfs_serving.specs.Opening.{Recovers}
use Rattle.hfs_serving.specs.Refusing.{IsOpened, RefusesImage, RefusesPlan}
use Rattle.hfs_serving.specs.declared.opening.OpenRefusal.{OpenRefusal}
use Rattle.hfs_serving.specs.declared.opening.OpenRefusal.TheVariants as refusal
use Rattle.hfs_serving.proofs.Capacities.{holds_at_most}

-- an image whose journal is looked for is open
pub open_found : (c : Content) (place : Place) → IsFound c place → IsOpen c
open_found c place found = record {
  accepted = found.says.accepted;
  unlocked = found.unlocked;
}

module _ (c : Content) (plan : Plan) (sectors : ℕ) (is_open : IsOpen c) (fits : FitsPlan sectors plan) (is : IsPlan c plan) (recovers : recovery c ≡ Ok (replayed (journal_of plan) c)) where
  recovers_of : (capacity : ℕ) → IsCapacityOf plan capacity → Recovers c capacity (replayed (journal_of plan) c)
  recovers_of capacity most = record {
    is_open = is_open;
    journal = journal_of plan;
    found = subst (λ at. journal_in at c ≡ Ok (journal_of plan)) is.place.info_sector is.journal;
    holds = holds_at_most plan (journal_of plan) capacity (record { size = refl; blhdr = refl; offset = refl }) fits.blhdr most;
    recovers = recovers;
  }

  -- the plan is large enough, or the image is refused
  pub plan_opens : (r : Result Plan OpenRefusal) → IfOk r (λ large. (large ≡ plan) × (most : ℕ) × IsCapacityOf plan most × (256 ≤ most)) → IfOk r (IsOpened c)
  plan_opens (Ok large) opened =
      let there : IsOpened c plan = record { plan_is = is; capacity = opened.1; holds = opened.2; opens = (recovers_of opened.1 opened.2, opened.3) } in
      subst (λ (p : Plan). IsOpened c p) (sym opened.0) there
  plan_opens (Err why) opened = tt

  refuses : (why : OpenRefusal) → RefusesPlan plan why → RefusesImage c why
  refuses (refusal.JournalTooSmall need has) small = (replayed (journal_of plan) c, recovers_of has small.0, small.1, small.2)
  refuses (refusal.Header why) small = absurd small
  refuses refusal.SoftwareLocked small = absurd small
  refuses (refusal.Journal why) small = absurd small

  pub plan_refused : (r : Result Plan OpenRefusal) → IfErr r (RefusesPlan plan) → IfErr r (RefusesImage c)
  plan_refused (Ok large) refused = tt
  plan_refused (Err why) refused = refuses why refused

-- what holds of the plan holds of what was large enough
pub kept : (plan : Plan) (P : Plan → Type 0) → P plan → (r : Result Plan OpenRefusal) → IfOk r (λ large. (large ≡ plan) × (most : ℕ) × IsCapacityOf plan most × (256 ≤ most)) → IfOk r P
kept plan P is (Ok large) opened = subst P (sym opened.0) is
kept plan P is (Err why) opened = tt

-- what holds anyway holds of a result
pub always : {A E : Type 0} {P : Type 0} (r : Result A E) → P → IfOk r (λ _. P)
always (Ok x) is = is
always (Err e) is = tt
