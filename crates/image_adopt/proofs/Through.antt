-- An adoption behind calls that only read.
use Rattle.std.proofs.Common.{◌≡◌, ◌==◌, ℕ, inl, inr, sym, ◌∙◌, ap, subst, not}
use Rattle.std.specs.Prelude.{IfOk, IfSome, None, Ok, Option, Result, Some}
use Rattle.sector_disk.specs.Disk.{Candidates, CrashesLeave, HasNothingPending, IsImage, OnlyReads, State, content, only}
use Rattle.sector_disk.specs.Lists.{Content}
use Rattle.sector_disk.proofs.Passing.{passes_with}
use Rattle.sector_disk.proofs.Stages.{image_only, leaves_both, leaves_with}
use Rattle.jnl_format.specs.declared.dialect.Dialect.TheVariants.{Wide}
use Rattle.jnl_replay.specs.Adopting.{IsAdopted, StandsAdopted, plain_blhdr}
use Rattle.jnl_replay.specs.Finding.{IsFound}
use Rattle.jnl_replay.specs.Plan.{FitsAny, IsPlanAs}
use Rattle.jnl_replay.specs.declared.plan.Place.{Place}
use Rattle.jnl_replay.specs.declared.plan.Plan.{Plan}
use Rattle.jnl_replay.proofs.ReadOn.{same_content}
use Rattle.image_adopt.specs.Adopting.{IsAdoptedAs, IsFoundAs, MayBeAdopted, MayChange}
use Rattle.image_adopt.specs.declared.answers.Adopted.TheVariants.{Already, Anew}
use Rattle.image_adopt.specs.declared.answers.AdoptRefusal.{AdoptRefusal}
use Rattle.image_adopt.specs.declared.answers.Made.{Made}

-- a crash of reads leaves the image itself
reads_leave_it : (old mid : State) → OnlyReads old mid → HasNothingPending old → (image : Content) → IsImage mid.candidates image → image ≡ content old
reads_leave_it old mid reads settled image is = image_only (content old) image (subst (λ (d : Candidates). IsImage d image) (reads.candidates ∙ settled) is)

-- what a crash of an adoption leaves may be adopted
adoption_leaves : (old new : State) (plan : Plan) → IsPlanAs Wide (content old) plan → CrashesLeave old new (StandsAdopted plan (content old)) → CrashesLeave old new (MayBeAdopted (content old))
adoption_leaves old new plan is leaves = leaves_with old new (StandsAdopted plan (content old)) (MayBeAdopted (content old)) leaves (λ image stands. inr (plan, is, stands))

module _ (old mid : State) (reads : OnlyReads old mid) where
  -- the image may be adopted
  pub reads_leave : HasNothingPending old → CrashesLeave old mid (MayBeAdopted (content old))
  reads_leave settled = record {
    time = passes_with old.clock mid.clock _ _ reads.time (λ image told a. (inl (reads_leave_it old mid reads settled image a.0), a.1 ∙ reads.sink.told));
    now = λ image is. inl (reads_leave_it old mid reads settled image is);
  }

  -- nothing is pending behind reads
  pub settled_then : HasNothingPending old → HasNothingPending mid
  settled_then settled = reads.candidates ∙ settled ∙ ap (λ (c : Content). only c) (sym (same_content old mid reads))

  -- the plan that was found is that of the content behind them
  pub plan_then : (plan : Plan) → IsPlanAs Wide (content old) plan → IsPlanAs Wide (content mid) plan
  plan_then plan is = subst (λ (c : Content). IsPlanAs Wide c plan) (sym (same_content old mid reads)) is

  -- behind them an adoption leaves what it leaves alone
  pub leaves_then : HasNothingPending old → (new : State) (plan : Plan) → IsPlanAs Wide (content old) plan → CrashesLeave mid new (StandsAdopted plan (content mid)) → CrashesLeave old new (MayBeAdopted (content old))
  leaves_then settled new plan is second =
      leaves_both old mid new (MayBeAdopted (content old)) (MayBeAdopted (content mid)) (MayBeAdopted (content old)) (reads_leave settled) reads.sink
      (adoption_leaves mid new plan (plan_then plan is) second) (λ image may. may)
      (λ image may. subst (λ (c : Content). MayBeAdopted c image) (same_content old mid reads) may)

  -- what they found is what was made
  pub already_adopted : IsFoundAs (content old) None → IsAdoptedAs (content old) (content mid) Already
  already_adopted found = (found.0, same_content old mid reads, found.1, found.2)

  pub adopted_anew : (new : Content) (plan : Plan) (made : Made) → IsFoundAs (content old) (Some plan) → IsAdopted plan (content mid) new
      → made ≡ record { was = plan.header.blhdr; now = plain_blhdr plan.header.blhdr; live = not (plan.header.start == plan.header.end) }
      → IsAdoptedAs (content old) new (Anew made)
  adopted_anew new plan made found adopted told = (
    found.0,
    found.1,
    (
      plan,
      record {
        plan_is = found.2;
        told = told;
        adopted = subst (λ (c : Content). IsAdopted plan c new) (same_content old mid reads) adopted;
      },
    ),
  )

-- a volume whose journal is looked for may be changed
pub may_change : (c : Content) (place : Place) → IsFound c place → MayChange c
may_change c place found = record { accepted = found.says.accepted; unlocked = found.unlocked }

-- what was found, behind both layers of its answer
pub found_none : (c : Content) (r : Result (Option Plan) AdoptRefusal) → r ≡ Ok None → IfOk r (IsFoundAs c) → IsFoundAs c None
found_none c r is found = subst (λ (x : Result (Option Plan) AdoptRefusal). IfOk x (IsFoundAs c)) is found

pub found_some : (c : Content) (r : Result (Option Plan) AdoptRefusal) (plan : Plan) → r ≡ Ok (Some plan) → IfOk r (IsFoundAs c) → IsFoundAs c (Some plan)
found_some c r plan is found = subst (λ (x : Result (Option Plan) AdoptRefusal). IfOk x (IsFoundAs c)) is found

pub fits_some : (sectors : ℕ) (r : Result (Option Plan) AdoptRefusal) (plan : Plan) → r ≡ Ok (Some plan) → IfOk r (λ found. IfSome found (FitsAny sectors)) → FitsAny sectors plan
fits_some sectors r plan is fits = subst (λ (x : Result (Option Plan) AdoptRefusal). IfOk x (λ found. IfSome found (FitsAny sectors))) is fits
