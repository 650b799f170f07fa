-- A journal that is emptied behind its run, as a commit of nothing.
use Rattle.std.proofs.Common.{◌≡◌, ◌≢◌, ◌∷◌, [], ℕ, List, ⊎_elim, length, refl, sym, ◌∙◌, ap, subst, arith}
use Rattle.std.specs.Prelude.{IsErrOf, IsTrue, OnOk, Result, Ok, Err}
use Rattle.std.proofs.lemmas.Bool.{cases_eq}
use Rattle.sector_disk.specs.Cause.{next_count}
use Rattle.sector_disk.specs.Disk.{CrashesLeave, IsDisk, SameSink, State, Untouched, content}
use Rattle.jnl_format.specs.Recovery.{Content, journal_in}
use Rattle.jnl_replay.specs.Plan.{journal_of}
use Rattle.jnl_store.specs.Overlay.{overlay}
use Rattle.jnl_store.specs.Spaces.{over}
use Rattle.jnl_store.specs.Standing.{Checkpoints, MakesDurable, StandsForDurable}
use Rattle.jnl_store.specs.Store.{Keeps, SameJournal, content_over, durable_of, faults_of, plan_of, puts_of}
use Rattle.jnl_store.specs.declared.puts.Put.{Put}
use Rattle.jnl_store.specs.declared.store.Store.{Store}
use Rattle.jnl_store.specs.declared.store.StoreFault.{StoreFault}
use Rattle.jnl_store.specs.declared.store.StoreFault.TheVariants as fault
use Rattle.jnl_store.proofs.RingStages.{found_in_use}
use Rattle.jnl_store.proofs.Settling.{either_of, lists_of}
use Rattle.hfs_serving.specs.Grounds.{IsInService}
use Rattle.hfs_serving.specs.Outside.{outside_of}
use Rattle.hfs_serving.specs.Resting.{IsRested}
use Rattle.hfs_serving.specs.Serving.{Commits, MayCommit}
use Rattle.hfs_serving.proofs.Grounding.{commit_leaves, commit_makes}

-- whatever ended it
pub rest_leaves : (a b : ℕ) (store new : Store) (disk after : State) (capacity : ℕ) → IsDisk disk → IsInService store disk capacity → IsTrue (over a b store disk).tells
    → (faults_of store ≡ 0 → IsTrue disk.tells → CrashesLeave disk after (StandsForDurable store disk)) → (faults_of store ≢ 0 → (new ≡ store) × Untouched disk after) → SameSink disk after → SameJournal store new
    → MayCommit (over a b store disk) (outside_of (plan_of store) disk) (outside_of (plan_of new) after)
rest_leaves a b store new disk after capacity is serves tells crash failed sink journal = commit_leaves a b store new disk after capacity is serves tells (λ none there. either_of store disk after (crash none there)) failed sink journal

pub no_puts : (l : List Put) → length l ≡ 0 → l ≡ []
no_puts [] none = refl
no_puts (x ∷ l) none = absurd (omega (arith, none))

over_none : (store : Store) (c : Content) → puts_of store ≡ [] → content_over store c ≡ durable_of store c
over_none store c none = ap (λ (l : List Put). overlay l (durable_of store c)) none

pub rest_makes : (a b : ℕ) (store new : Store) (disk after : State) (capacity : ℕ) → IsDisk disk → IsInService store disk capacity → IsTrue (over a b store disk).tells → CrashesLeave disk after (StandsForDurable store disk) → SameSink disk after
    → Checkpoints store new disk after (durable_of store (content disk)) → puts_of store ≡ [] → puts_of new ≡ puts_of store → SameJournal store new → Commits (over a b store disk) (outside_of (plan_of store) disk) (over a b new after) (outside_of (plan_of new) after)
rest_makes a b store new disk after capacity is serves tells crash sink rests none puts journal =
    commit_makes a b store new disk after capacity is serves tells (either_of store disk after crash) sink (subst (λ (t : Content). MakesDurable store new disk after t) (sym (over_none store (content disk) none)) rests.settles) (puts ∙ none) journal

-- what it leaves
pub rested_of : (a b : ℕ) (store new : Store) (disk after : State) → Checkpoints store new disk after (durable_of store (content disk)) → IsRested (over a b new after) after
rested_of a b store new disk after rests =
    let keeps = rests.settles.keeps in
    let holds = (lists_of new after (keeps.0, keeps.1.ring)).text.journal.holds in
    record {
      settled = rests.settles.settled;
      durable = rests.durable;
      empty = (journal_of new.plan, subst (λ at. journal_in at (content after) ≡ Ok (journal_of new.plan)) holds.place.info_sector (found_in_use new.plan (content after) new.rest holds), rests.empty);
    }

-- it is kept, as long as no call answered a disk fault
pub rest_kept : {A : Type 0} (r : Result A StoreFault) (store new : Store) (disk after : State) → after.tells ≡ disk.tells → (faults_of store ≡ 0 → IsTrue disk.tells → OnOk r (Checkpoints store new disk after (durable_of store (content disk))))
    → (faults_of store ≢ 0 → new ≡ store) → (faults_of store ≡ 0 → (n : ℕ) → r ≢ Err (fault.Failed n)) → (IsErrOf r fault.Disk → faults_of new ≡ next_count (faults_of store)) → faults_of new ≡ 0 → IsTrue after.tells → Keeps new after.sectors after.candidates
rest_kept (Ok x) store new disk after same done failed not_failed counted none tells =
    ⊎_elim (λ was. (done was (subst (λ t. IsTrue t) same tells)).settles.keeps.1) (λ other. absurd (other (sym (ap faults_of (failed other)) ∙ none))) (cases_eq (faults_of store) 0)
rest_kept (Err fault.Disk) store new disk after same done failed not_failed counted none tells =
    ⊎_elim (λ was. let one : faults_of new ≡ 1 = counted refl ∙ ap next_count was in absurd (cc (one, none))) (λ other. absurd (other (sym (ap faults_of (failed other)) ∙ none))) (cases_eq (faults_of store) 0)
rest_kept (Err (fault.Failed n)) store new disk after same done failed not_failed counted none tells =
    ⊎_elim (λ was. absurd (not_failed was n refl)) (λ other. absurd (other (sym (ap faults_of (failed other)) ∙ none))) (cases_eq (faults_of store) 0)
