-- A store and its disk between its calls, after a barrier, after a checkpoint, and after a commit.
use Rattle.std.proofs.Common.{◌≡◌, ◌⊎◌, ℕ, ◌/◌, ◌%◌, ◌<◌, true, false, ◌&&◌, List, [], ◌∷◌, inl, inr, ⊎_elim, length, refl, sym, ◌∙◌, ap, subst, arith}
use Rattle.std.specs.Prelude.{IsTrue, Result, Ok, Err, OnOk, OnErr}
use Rattle.std.proofs.lemmas.Bool.{and_from, and_parts, cases_lt}
use Rattle.std.proofs.lemmas.List.{get_or_past, length-map}
use Rattle.sector_disk.specs.Lists.{Content, last, sector}
use Rattle.sector_disk.specs.Clock.{TimePasses}
use Rattle.sector_disk.specs.Disk.{State, Candidates, IsDisk, IsImage, IsWhole, LeftNow, CrashesLeave, SameDisk, SameSink, candidates_of, content, content_of, only}
use Rattle.sector_disk.proofs.Candidates.{content_of-only}
use Rattle.sector_disk.proofs.Passing.{none_passes}
use Rattle.sector_disk.proofs.Stages.{leaves_with}
use Rattle.jnl_format.specs.Recovery.{homes_of, replayed, text_fault}
use Rattle.jnl_format.specs.Named.{IsNamed}
use Rattle.jnl_format.specs.declared.blocks.Home.{Home}
use Rattle.jnl_ring.specs.Span.{sector_after}
use Rattle.jnl_ring.proofs.RingLaws.{barrier_leaves}
use Rattle.jnl_replay.specs.Plan.{FitsPlan, journal_of}
use Rattle.jnl_replay.specs.declared.plan.Place.{Place}
use Rattle.jnl_replay.specs.declared.plan.Plan.{Plan}
use Rattle.jnl_format.specs.declared.structures.Info.{Info}
use Rattle.jnl_store.specs.Batch.{Staged, names}
use Rattle.jnl_store.specs.InUse.{keeps_lists}
use Rattle.jnl_store.specs.Journal.{are_open}
use Rattle.jnl_store.specs.Newest.{newest}
use Rattle.jnl_store.specs.Plan.{span_of}
use Rattle.jnl_store.specs.Standing.{RingDurable, StandsBetween, StandsFor, StandsForDurable, StandsForEither}
use Rattle.jnl_store.specs.Store.{KeepsRing, KeepsRingOn, SameJournal, durable_of, is_kept}
use Rattle.jnl_store.specs.declared.store.Store.{Store}
use Rattle.jnl_store.specs.declared.puts.Put.{Put}
use Rattle.jnl_store.proofs.Attached.{keeps_only, only_length}
use Rattle.jnl_store.proofs.Journals.{KeepsJournal}
use Rattle.jnl_store.proofs.RingHome.{image_still, own_stands}
use Rattle.jnl_store.proofs.RingKept.{KeepsLists, lists_from, lists_parts}

-- the parts of the test
pub kept_parts : (store : Store) (sectors : ℕ) (candidates : Candidates) → IsTrue (is_kept store sectors candidates)
    → IsTrue (keeps_lists store.plan candidates store.batch.live) × (are_open store.plan sectors store.batch.all ≡ true) × (are_open store.plan sectors store.batch.kept ≡ true)
unfolding is_kept
kept_parts store sectors candidates h =
    let p = and_parts (keeps_lists store.plan candidates store.batch.live && are_open store.plan sectors store.batch.all) (are_open store.plan sectors store.batch.kept) h in
    let q = and_parts (keeps_lists store.plan candidates store.batch.live) (are_open store.plan sectors store.batch.all) p.0 in
    (q.0, q.1, p.1)

pub kept_from : (store : Store) (sectors : ℕ) (candidates : Candidates) → IsTrue (keeps_lists store.plan candidates store.batch.live) → are_open store.plan sectors store.batch.all ≡ true → are_open store.plan sectors store.batch.kept ≡ true
    → IsTrue (is_kept store sectors candidates)
unfolding is_kept
kept_from store sectors candidates a b c =
    and_from (keeps_lists store.plan candidates store.batch.live && are_open store.plan sectors store.batch.all) (are_open store.plan sectors store.batch.kept)
    (and_from (keeps_lists store.plan candidates store.batch.live) (are_open store.plan sectors store.batch.all) a b) c

-- what is live in the journal of a store
pub lists_of : (store : Store) (disk : State) → KeepsRingOn store disk → KeepsLists store.plan store.batch.live disk
lists_of store disk k = lists_parts store.plan store.batch.live disk (kept_parts store disk.sectors disk.candidates k.1.kept).0

-- a disk with these candidates, of which nothing else is said
abbrev pub told_only : Candidates → State
told_only candidates = record {
  tells = true;
  tells_left = false;
  names = [];
  sectors = length candidates;
  candidates = candidates;
  told = [];
  faults = 0;
  sink_faults = 0;
  barriers = 0;
  clock = record { moment = 0; left = λ t image told. ⊥ };
}

-- what a crash leaves while nothing is written
pub image_between : (store : Store) (sectors : ℕ) (candidates : Candidates) (image : Content) → KeepsRing store sectors candidates → IsWhole candidates → ((at : ℕ) → at < length candidates → 0 < length (candidates_of candidates at)) → IsImage candidates image → StandsBetween store candidates image
unfolding durable_of
image_between store sectors candidates image k whole filled is =
    let disk = told_only candidates in
    let d : IsDisk disk = record { size = λ t. refl; each = filled; whole = whole } in
    image_still store.plan store.rest disk d (lists_parts store.plan store.batch.live disk (kept_parts store sectors candidates k.kept).0).text image is

pub image_quiet : (store : Store) (disk : State) (image : Content) → KeepsRingOn store disk → IsDisk disk → IsImage disk.candidates image → StandsForDurable store disk image
image_quiet store disk image k d is = image_between store disk.sectors disk.candidates image k.1 d.whole d.each is

pub still_quiet : (store : Store) (disk : State) → KeepsRingOn store disk → IsDisk disk → CrashesLeave disk disk (StandsForDurable store disk)
still_quiet store disk k d = record { time = none_passes disk.clock _; now = λ image is. image_quiet store disk image k d is }

pub barrier_quiet : {T E : Type 0} (result : Result T E) (store : Store) (s0 s1 : State) → KeepsRingOn store s0 → IsDisk s0 → SameSink s0 s1 → OnOk result (s1.candidates ≡ only (content s0)) → OnErr result (s1.candidates ≡ s0.candidates) → TimePasses s0.clock s1.clock (LeftNow s1)
    → CrashesLeave s0 s1 (StandsForDurable store s0)
barrier_quiet result store s0 s1 k disk sink settled failed time =
    barrier_leaves result s0 s0 s1 (StandsForDurable store s0) disk (still_quiet store s0 k disk) (record { told = refl; faults = refl }) sink settled failed time

-- a sector that has a candidate is one of the disk's
pub inside_by : (candidates : Candidates) (at : ℕ) → length (candidates_of candidates at) ≡ 1 → at < length (content_of candidates)
inside_by candidates at one = elim (cases_lt at (length candidates)) [
  | inl inside ↦ omega (arith, inside, length-map candidates last)
  | inr past ↦ absurd (omega (arith, one, ap length (get_or_past candidates at [] past)))
]

-- what is live stays so over a barrier
pub lists_settled : (plan : Plan) (live : List Home) (s0 s1 : State) → KeepsLists plan live s0 → s1.candidates ≡ only (content s0) → KeepsLists plan live s1
lists_settled plan live s0 s1 k settled =
    let c0 = content s0 in
    let j = k.text.journal in
    let is : content s1 ≡ c0 = ap content_of settled ∙ content_of-only c0 in
    let one : (s : ℕ) → length (candidates_of s0.candidates s) ≡ 1 → length (candidates_of s1.candidates s) ≡ 1 = λ s was. ap (λ (d : Candidates). length (candidates_of d s)) settled ∙ only_length c0 s (inside_by s0.candidates s was) in
    record {
      text = record {
        journal = subst (KeepsJournal plan) (sym settled) (keeps_only plan c0 j.holds (inside_by s0.candidates 2 j.volume_one) (inside_by s0.candidates plan.place.info_sector j.info_one) (inside_by s0.candidates (plan.info.offset / 512) j.header_one));
        lists = ap (text_fault plan.place.info_sector plan.place.last_mounted (journal_of plan)) is ∙ k.text.lists;
        stable = λ i less. one (sector_after (span_of plan) plan.header.start i) (k.text.stable i less);
      };
      named = λ s named. one s (k.named s (subst (λ (d : Content). IsNamed (homes_of (journal_of plan) d) s) is named));
      table = λ at inside. k.table at (omega (arith, inside, ap length is)) ∙ ap (λ (d : Content). newest (homes_of (journal_of plan) d) at) (sym is);
    }

-- nothing is pending any more
pub settles : (store new : Store) (s0 s1 : State) → KeepsRingOn store s0 → IsDisk s0 → SameDisk s0 s1 → s1.candidates ≡ only (content s0) → new.plan ≡ store.plan → new.batch ≡ store.batch → RingDurable store new s0 s1 (durable_of store (content s0))
unfolding durable_of
settles store new s0 s1 k disk same settled plan_is batch_is =
    let c0 = content s0 in
    let p = kept_parts store s0.sectors s0.candidates k.1.kept in
    let is : content s1 ≡ c0 = ap content_of settled ∙ content_of-only c0 in
    let l = lists_settled store.plan store.batch.live s0 s1 (lists_of store s0 k) settled in
    let journal : IsTrue (keeps_lists new.plan s1.candidates new.batch.live) =
    ap (λ (q : Plan). keeps_lists q s1.candidates new.batch.live) plan_is ∙ ap (λ (b : Staged). keeps_lists store.plan s1.candidates b.live) batch_is ∙ lists_from store.plan store.batch.live s1 l in
    let opens : (puts : List Put) → are_open store.plan s0.sectors puts ≡ true → are_open new.plan s1.sectors puts ≡ true = λ puts h. ap (λ (q : Plan). are_open q s1.sectors puts) plan_is ∙ ap (λ n. are_open store.plan n puts) same.sectors ∙ h in
    let now : replayed (journal_of new.plan) (content s1) ≡ replayed (journal_of store.plan) c0 = ap (λ (q : Plan). replayed (journal_of q) (content s1)) plan_is ∙ ap (replayed (journal_of store.plan)) is in
    record {
      keeps = (
        same.tells ∙ k.0,
        record {
          kept = kept_from new s1.sectors s1.candidates journal (ap (λ (b : Staged). are_open new.plan s1.sectors b.all) batch_is ∙ opens store.batch.all p.1) (ap (λ (b : Staged). are_open new.plan s1.sectors b.kept) batch_is ∙ opens store.batch.kept p.2);
          settled = λ u. settled ∙ ap only (sym is);
        },
      );
      settled = settled ∙ ap only (sym is);
      stands = subst (λ (d : Content). StandsFor store.plan c0 d (replayed (journal_of new.plan) (content s1))) (sym is) (subst (λ (d : Content). StandsFor store.plan c0 c0 d) (sym now) (own_stands store.plan store.rest s0 disk (lists_of store s0 k).text));
      agrees = record { size = ap length now; each = λ s. inl (ap (λ (d : Content). sector d s) now) };
      live = λ s l. ⊎_elim
          (λ (put : names new.batch.all s ≡ true). inl (ap (λ (b : Staged). names b.all s) (sym batch_is) ∙ put))
          (λ named. inr (subst (λ (d : Content). IsNamed (homes_of (journal_of store.plan) d) s) is (subst (λ (q : Plan). IsNamed (homes_of (journal_of q) (content s1)) s) plan_is named)))
          l;
    }

pub either_of : (store : Store) (s0 s1 : State) → CrashesLeave s0 s1 (StandsForDurable store s0) → CrashesLeave s0 s1 (StandsForEither store s0)
either_of store s0 s1 leaves = leaves_with s0 s1 (StandsForDurable store s0) (StandsForEither store s0) leaves (λ image p. (p.0, p.1, inl p.2))

pub no_puts : (puts : List Put) → length puts ≡ 0 → puts ≡ []
no_puts [] h = refl
no_puts (p ∷ ps) h = absurd (omega (arith, h))

-- another list of open puts in place of what was put, or of what was kept
pub keeps_batch : (old new : Store) (sectors : ℕ) (candidates : Candidates) → new.plan ≡ old.plan → new.unsettled ≡ old.unsettled → new.batch.live ≡ old.batch.live → (new.batch.all ≡ old.batch.all) ⊎ (new.batch.all ≡ old.batch.kept) → (new.batch.kept ≡ old.batch.all) ⊎ (new.batch.kept ≡ old.batch.kept)
    → KeepsRing old sectors candidates → KeepsRing new sectors candidates
keeps_batch old new sectors candidates plan_is same live all kept k =
    let p = kept_parts old sectors candidates k.kept in
    let to_new : (puts : List Put) → are_open old.plan sectors puts ≡ true → are_open new.plan sectors puts ≡ true = λ puts h. ap (λ (q : Plan). are_open q sectors puts) plan_is ∙ h in
    record {
      kept = kept_from new sectors candidates (ap (λ (q : Plan). keeps_lists q candidates new.batch.live) plan_is ∙ ap (keeps_lists old.plan candidates) live ∙ p.0)
          (⊎_elim (λ e. ap (are_open new.plan sectors) e ∙ to_new old.batch.all p.1) (λ e. ap (are_open new.plan sectors) e ∙ to_new old.batch.kept p.2) all)
          (⊎_elim (λ e. ap (are_open new.plan sectors) e ∙ to_new old.batch.all p.1) (λ e. ap (are_open new.plan sectors) e ∙ to_new old.batch.kept p.2) kept);
      settled = λ u. k.settled (sym same ∙ u);
    }

-- the durable content is that of the plan
pub same_durable : (a b : Store) (c : Content) → a.plan ≡ b.plan → durable_of a c ≡ durable_of b c
unfolding durable_of
same_durable a b c e = ap (λ (p : Plan). replayed (journal_of p) c) e

-- what a begin leaves of the lists
pub begun_batch : {T E : Type 0} (result : Result T E) (a b : Staged) → OnOk result (b ≡ record { all = a.all; kept = a.all; live = a.live; room = b.room; most = a.most }) → OnErr result (b ≡ a) → (b.live ≡ a.live) × (b.all ≡ a.all) × ((b.kept ≡ a.all) ⊎ (b.kept ≡ a.kept))
begun_batch (Ok x) a b kept same = (ap (λ (s : Staged). s.live) kept, ap (λ (s : Staged). s.all) kept, inl (ap (λ (s : Staged). s.kept) kept))
begun_batch (Err e) a b kept same = (ap (λ (s : Staged). s.live) same, ap (λ (s : Staged). s.all) same, inr (ap (λ (s : Staged). s.kept) same))

-- the same journal fits the same disk
pub fits_still : (old new : Store) (before after : ℕ) → after ≡ before → SameJournal old new → FitsPlan before old.plan → FitsPlan after new.plan
fits_still old new before after same j f =
    let w = new.rest.header in
    let place : new.plan.place.info_sector ≡ old.plan.place.info_sector = ap (λ (p : Place). p.info_sector) j.place in
    let offset : new.plan.info.offset ≡ old.plan.info.offset = ap (λ (i : Info). i.offset) j.info in
    let size : new.plan.info.size ≡ old.plan.info.size = ap (λ (i : Info). i.size) j.info in
    record {
      sectors = omega (arith, same, f.sectors);
      info_sector = omega (arith, same, place, f.info_sector);
      offset = ap (λ n. n % 512) offset ∙ f.offset;
      whole = ap (λ n. n % 512) size ∙ f.whole;
      least = new.rest.least;
      inside = omega (arith, same, offset, size, f.inside);
      start_low = w.start_low;
      start_high = w.start_high;
      end_low = w.end_low;
      end_high = w.end_high;
      blhdr = w.blhdr_low;
      header = w;
    }
