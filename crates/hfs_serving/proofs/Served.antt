-- An image served: what was done before the first line and the lines behind it, as one run from what the image stood for.
use Rattle.std.proofs.Common.{◌≡◌, ◌≤◌, ◌++◌, ◌/◌, ◌==◌, ℕ, List, [], inl, inr, ⊎_elim, refl, sym, ◌∙◌, ap, subst, arith}
use Rattle.std.specs.Prelude.{None, Result, Ok, Err}
use Rattle.std.proofs.lemmas.Bool.{cases_lt}
use Rattle.std.proofs.lemmas.List.{append-nil, append_cancel_left}
use Rattle.sector_disk.specs.Disk.{Candidates, IsImage, LeftNow, OnlyReads, State, content, content_of, only}
use Rattle.sector_disk.specs.Source.{Stream}
use Rattle.sector_disk.specs.Space.{Space}
use Rattle.sector_disk.proofs.Passing.{none_passes}
use Rattle.sector_disk.proofs.Stages.{image_only}
use Rattle.jnl_format.specs.Recovery.{Content, Journal, replayed}
use Rattle.jnl_format.specs.declared.structures.JnlRefusal.{JnlRefusal}
use Rattle.jnl_replay.specs.Plan.{FitsPlan, journal_of}
use Rattle.jnl_replay.specs.declared.plan.Plan.{Plan}
use Rattle.jnl_store.specs.Lists.{IsCapacity}
use Rattle.jnl_store.specs.Plan.{IsCapacityOf, form_of, span_of}
use Rattle.jnl_store.specs.Spaces.{found}
use Rattle.jnl_store.proofs.Attached.{offset_is, size_is}
use Rattle.jnl_store.proofs.SpacedTime.{found_live}
use Rattle.jnl_ring.specs.declared.span.Span.{Span}
use Rattle.hfs_volume.specs.Aside.{IsAside}
use Rattle.hfs_volume.specs.Content.{JournalPlace, volume_of}
use Rattle.hfs_volume.specs.Mount.{HoldsAtMost, Mounts, MountsTo}
use Rattle.volume_runs.specs.Rest.{no_step}
use Rattle.volume_runs.specs.Run.{replies_of, tree_after}
use Rattle.hfs_volume.specs.Sound.{IsSound}
use Rattle.hfs_volume.specs.TreeOf.{tree_of}
use Rattle.hfs_serving.specs.Beginning.{BeginsRun, MayBegin}
use Rattle.hfs_serving.specs.Going.{Knowing}
use Rattle.hfs_serving.specs.Grounds.{anchor_of}
use Rattle.hfs_serving.specs.Opening.{MayServe}
use Rattle.hfs_serving.specs.Outside.{Outside, outside_of}
use Rattle.hfs_serving.specs.Readying.{IsVersioned, MayReady, mounted_plan}
use Rattle.hfs_serving.specs.Refusing.{IsOpened}
use Rattle.hfs_serving.specs.Runs.{Crashes, KeepsPlace, StandsAs, texts_of}
use Rattle.hfs_serving.specs.Speaking.{Said, Speech, unspoken}
use Rattle.hfs_serving.specs.Spoken.{CrashesSpoken, KeepsSpoken}
use Rattle.hfs_serving.specs.Steps.{KeepsRun}
use Rattle.hfs_serving.specs.Watching.{KeepsHeard}
use Rattle.hfs_language.specs.Lines.{lines}
use Rattle.hfs_serving.proofs.Saying.{changes_in-none}
use Rattle.hfs_serving.specs.Stages.{MayTurn, Turns}
use Rattle.hfs_language.specs.declared.reply.Change.{Change}
use Rattle.hfs_serving.proofs.Agreeing.{agrees_self}
use Rattle.hfs_serving.proofs.Attachable.{capacity_one}
use Rattle.hfs_serving.proofs.Bridging.{lifted}
use Rattle.hfs_serving.proofs.Readied.{may_on}
use Rattle.hfs_serving.proofs.Attached.{mount_serves, mount_stops}
use Rattle.hfs_serving.proofs.Grounding.{outside_by}
use Rattle.hfs_serving.proofs.Leading.{place_none}
use Rattle.hfs_serving.proofs.Lists.{content_after-none, replies_of-none}
use Rattle.hfs_serving.proofs.Mounting.{keeps_case}
use Rattle.hfs_serving.proofs.Promising.{crash_more, finds_by, has_none, mount_spoken, mounted_tree}
use Rattle.hfs_serving.proofs.Recoveries.{recovery_parts}
use Rattle.hfs_serving.proofs.Replays.{journal_lies}
use Rattle.hfs_serving.proofs.Stepping.{all_known}
use Rattle.hfs_serving.proofs.Texts.{texts_of-none}
use Rattle.hfs_serving.proofs.Staging.{mark_stage_crashes, tidy_stage_crashes}
use Rattle.hfs_serving.proofs.Versions.{found_like}

-- ---- ended before the first line

no_line : (said : Said) → said unspoken → (capacity : ℕ) (start : Content) (old new : Outside) → Crashes capacity None start old [] [] 0 new → CrashesSpoken said [] capacity start None old [] new
no_line said none capacity start old new crashes = all_known capacity None start old [] 0 said unspoken new crashes refl none

module _ (said : Said) (none : said unspoken) (capacity : ℕ) (start now : Content) (plan : Plan) (first disk : State) (versioned : IsVersioned start now) (place : KeepsPlace start now) (turns : Turns start now (outside_of plan first) (outside_of plan disk)) where
  stop_here : (last : State) → MayBegin now (outside_of plan disk) (outside_of plan last) → CrashesSpoken said [] capacity start None (outside_of plan first) [] (outside_of plan last)
  stop_here last begin = no_line said none capacity start (outside_of plan first) (outside_of plan last) (mount_stops capacity start now (outside_of plan first) (outside_of plan disk) place turns (outside_of plan last) versioned begin)

  -- nothing more was done
  pub nothing_more : CrashesSpoken said [] capacity start None (outside_of plan first) [] (outside_of plan disk)
  nothing_more = stop_here disk (record {
    begun = now;
    marked = inl refl;
    place = place_none now;
    may = record { time = none_passes (outside_of plan disk).clock _; leaves = λ recovered left. inl (turns.leaves recovered left); told = refl };
  })

  module _ (mid new : Plan) (same : found mid ≡ found plan) (anchor : anchor_of new ≡ anchor_of mid) where
    same_new : found new ≡ found plan
    same_new = finds_by new mid anchor ∙ same

    -- the run wasn't begun
    pub begin_stopped : (after : State) → MayBegin now (outside_of mid disk) (outside_of new after) → CrashesSpoken said [] capacity start None (outside_of plan first) [] (outside_of plan after)
    begin_stopped after begin =
        stop_here after
        (subst (λ (f : Content → Content). MayBegin now (outside_by f disk) (outside_of plan after)) same (subst (λ (f : Content → Content). MayBegin now (outside_of mid disk) (outside_by f after)) same_new begin))

    -- it was begun, and went on
    module _ (heard : List Change) (said_at : Content → Said) (more : (begun : Content) → tree_of begun ≡ tree_of start → (speech : Speech) → said_at begun speech → said speech) (after last : State) (texts : List (List ℕ)) (knows : Knowing) (space : Space) where
      abbrev GoesOnBy : (Content → Content) → (Content → Content) → Type 0
      GoesOnBy f g =
          (begins : BeginsRun capacity knows now None (outside_by f disk) space (outside_by g after)) → CrashesSpoken (said_at begins.begun) heard capacity begins.begun None (outside_by g after) texts (outside_by g last) → CrashesSpoken said heard capacity start None (outside_of plan first) texts (outside_of plan last)

      by_plan : GoesOnBy (found plan) (found plan)
      by_plan begins step =
          let mounts = mount_serves capacity start now (outside_of plan first) (outside_of plan disk) place turns knows space (outside_of plan after) begins versioned in
          mount_spoken capacity start begins.begun texts (outside_of plan first) (outside_of plan after) (outside_of plan last) mounts
          (crash_more (said_at begins.begun) said capacity begins.begun None (outside_of plan after) texts (outside_of plan last) (more begins.begun (mounted_tree capacity start begins.begun (outside_of plan first) (outside_of plan after) mounts)) step)

      pub begun_goes_on : (begins : BeginsRun capacity knows now None (outside_of mid disk) space (outside_of new after)) → CrashesSpoken (said_at begins.begun) heard capacity begins.begun None (outside_of new after) texts (outside_of new last) → CrashesSpoken said heard capacity start None (outside_of plan first) texts (outside_of plan last)
      begun_goes_on = subst (λ (g : Content → Content). GoesOnBy (found mid) g) (sym same_new) (subst (λ (f : Content → Content). GoesOnBy f (found plan)) (sym same) by_plan)

-- ---- made ready

pub versioned_sound : (start now : Content) → IsVersioned start now → IsSound start → IsSound now
versioned_sound start now (inl same) sound = subst IsSound (sym same) sound
versioned_sound start now (inr sets) sound = sets.keeps.sound

ready_crashes : (capacity : ℕ) (start now : Content) (old new : Outside) → IsVersioned start now → KeepsPlace start now → MayTurn start now old new → Crashes capacity None start old [] [] 0 new
ready_crashes capacity start now old new (inl same) place may =
    tidy_stage_crashes capacity None start start old new (subst (λ (x : Content). MayTurn start x old new) same may) (no_step start) (place_none start)
ready_crashes capacity start now old new (inr sets) place may = mark_stage_crashes capacity None start now old new may (inr (inl sets)) place

pub ready_stopped : (said : Said) → said unspoken → (capacity : ℕ) (plan : Plan) (start : Content) (old new : State) → MayReady plan start old new → CrashesSpoken said [] capacity start None (outside_of plan old) [] (outside_of plan new)
ready_stopped said none capacity plan start old new may = no_line said none capacity start (outside_of plan old) (outside_of plan new) (ready_crashes capacity start may.now (outside_of plan old) (outside_of plan new) may.versioned may.place may.may)

-- the plan that is left finds the same, and has the same capacity
module _ (plan : Plan) where
  pub finds_mounted : found (mounted_plan plan) ≡ found plan
  finds_mounted = λ i. λ image. found_like (mounted_plan plan) plan image refl (size_is plan plan.fresh refl) (offset_is plan plan.fresh refl) refl i

  pub capacity_mounted : (capacity : ℕ) → IsCapacityOf plan capacity → IsCapacityOf (mounted_plan plan) capacity
  capacity_mounted capacity is =
      let span : span_of plan ≡ span_of (mounted_plan plan) = λ i. record { base = sym (offset_is plan plan.fresh refl) i / 512; size = sym (size_is plan plan.fresh refl) i } in
      subst (λ (s : Span). IsCapacity s (form_of plan) capacity) span is

  -- the rest of the run, as it is found by the plan of the image
  pub goes_on_from : {said : Said} {heard : List Change} (ready : Plan) → ready ≡ mounted_plan plan → (capacity : ℕ) (start now : Content) (old mid new : State) (texts : List (List ℕ)) → Turns start now (outside_of plan old) (outside_of plan mid)
      → (Turns start now (outside_of ready old) (outside_of ready mid) → CrashesSpoken said heard capacity start None (outside_of ready old) texts (outside_of ready new)) → CrashesSpoken said heard capacity start None (outside_of plan old) texts (outside_of plan new)
  goes_on_from {said} {heard} ready is capacity start now old mid new texts turns goes =
      let same : found ready ≡ found plan = ap found is ∙ finds_mounted in
      subst (λ (f : Content → Content). CrashesSpoken said heard capacity start None (outside_by f old) texts (outside_by f new)) same
      (goes (subst (λ (f : Content → Content). Turns start now (outside_by f old) (outside_by f mid)) (sym same) turns))

-- ---- a run from what an image stands for

module _ (image : Content) (plan : Plan) (total : ℕ) (fits : FitsPlan total plan) (opened : IsOpened image plan) where
  abbrev start : Content
  start = replayed (journal_of plan) image

  pub may_serve : (capacity : ℕ) → IsCapacityOf plan capacity → MayServe plan capacity start
  unfolding volume_of
  may_serve capacity holds =
      let lies = journal_lies plan image total fits opened.plan_is start opened.opens.0.recovers in
      let header = (recovery_parts image start opened.opens.0.recovers).header opened.opens.0.is_open.accepted in
      record {
        offset = ap (λ (j : JournalPlace). j.offset) lies;
        size = ap (λ (j : JournalPlace). j.size) lies;
        unlocked = ap (λ n. n == 1) header.same.bit_15 ∙ opened.opens.0.is_open.unlocked;
        blhdr = fits.blhdr;
        holds = holds;
        large = subst (λ n. 256 ≤ n) (capacity_one (span_of plan) (form_of plan) opened.capacity capacity opened.holds holds) opened.opens.1;
      }

  pub start_found : (candidates : Candidates) → candidates ≡ only image → (other : Content) → IsImage candidates other → StandsAs start (found plan other)
  start_found candidates settled other is =
      let same : other ≡ image = image_only image other (subst (λ (d : Candidates). IsImage d other) settled is) in
      subst (λ (x : Content). StandsAs start x) (sym (ap (found plan) same ∙ found_live plan image opened.plan_is)) (agrees_self (IsAside start) start)

  -- what a mount finds
  pub found_mounts : IsSound start → Mounts image opened.capacity start
  found_mounts sound = record {
    is_open = opened.opens.0.is_open;
    journal = opened.opens.0.journal;
    found = opened.opens.0.found;
    recovers = opened.opens.0.recovers;
    holds = opened.opens.0.holds;
    large = opened.opens.1;
    keeps_case = keeps_case start sound;
    sound = sound;
  }

  abbrev value_of : Result Content JnlRefusal → Content
  value_of (Ok x) = x
  value_of (Err why) = []

  abbrev journal_or : Journal → Result Journal JnlRefusal → Journal
  journal_or other (Ok j) = j
  journal_or other (Err why) = other

  holds_one : (j : Journal) (a b : ℕ) → HoldsAtMost j a → HoldsAtMost j b → a ≡ b
  holds_one j a b one other = elim (cases_lt a b) [
    | inl less ↦ absurd (omega (arith, one.is_most b less, other.fits))
    | inr more ↦ elim (cases_lt b a) [ inl over_it ↦ absurd (omega (arith, other.is_most a over_it, one.fits)) | inr under ↦ omega (arith, more, under) ]
  ]

  -- is what any mount finds
  pub mounts_one : (capacity : ℕ) (recovered : Content) → Mounts image capacity recovered → (recovered ≡ start) × IsCapacityOf plan capacity
  mounts_one capacity recovered mounts =
      let same : mounts.journal ≡ opened.opens.0.journal = ap (journal_or mounts.journal) (sym mounts.found ∙ opened.opens.0.found) in
      let capacity_is : opened.capacity ≡ capacity = holds_one mounts.journal opened.capacity capacity (subst (λ (j : Journal). HoldsAtMost j opened.capacity) (sym same) opened.opens.0.holds) mounts.holds in
      (ap value_of (sym mounts.recovers ∙ opened.opens.0.recovers), subst (λ n. IsCapacityOf plan n) capacity_is opened.holds)

-- ---- a rig that was only read

pub reads_content : (a b : State) → OnlyReads a b → content b ≡ content a
reads_content a b reads = ap content_of reads.candidates

pub reads_settled : (a b : State) → OnlyReads a b → a.candidates ≡ only (content a) → b.candidates ≡ only (content b)
reads_settled a b reads settled = subst (λ (d : Candidates). d ≡ only (content_of d)) (sym reads.candidates) settled

pub reads_turn : (plan : Plan) (start : Content) (a b : State) → OnlyReads a b → ((image : Content) → IsImage b.candidates image → StandsAs start (found plan image)) → Turns start start (outside_of plan a) (outside_of plan b)
reads_turn plan start a b reads stands = record {
  may = record {
    time = lifted plan a b _ _ reads.time (λ image told p. (inl (stands image p.0), p.1 ∙ reads.sink.told));
    leaves = λ recovered left. inl (subst (λ (x : Content). StandsAs start x) (sym left.2) (stands left.0 left.1));
    told = reads.sink.told;
  };
  leaves = λ recovered left. subst (λ (x : Content). StandsAs start x) (sym left.2) (stands left.0 left.1);
}

-- made ready behind that
pub reads_ready : (plan : Plan) (start : Content) (first old new : State) → Turns start start (outside_of plan first) (outside_of plan old) → MayReady plan start old new → MayReady plan start first new
reads_ready plan start first old new turns may =
    record { now = may.now; versioned = may.versioned; place = may.place; may = may_on start may.now (outside_of plan first) (outside_of plan old) (outside_of plan new) turns may.may }

-- ---- an image that was only read

module _ (capacity : ℕ) (start : Content) (old new : State) (settled : old.candidates ≡ only (content old)) (only_now : (image : Content) (told : List ℕ) → old.clock.left old.clock.moment image told → LeftNow old image told) (reads : OnlyReads old new) (mounts : Mounts (content old) capacity start) where
  one_image : (image : Content) → IsImage old.candidates image → image ≡ content old
  one_image image is = image_only (content old) image (subst (λ (d : Candidates). IsImage d image) settled is)

  mounts_so : (image : Content) → image ≡ content old → MountsTo image (tree_after start [])
  mounts_so image same = (capacity, start, subst (λ (x : Content). Mounts x capacity start) (sym same) mounts, ap tree_of (sym (content_after-none start)))

  left_then : (image : Content) (told : List ℕ) → new.clock.left old.clock.moment image (old.told ++ told) → (image ≡ content old) × (told ≡ [])
  left_then image told left = ⊎_elim
      (λ was. let now = only_now image (old.told ++ told) was in (one_image image now.0, nothing_told now.1))
      (λ now. (one_image image (subst (λ (d : Candidates). IsImage d image) reads.candidates now.0), nothing_told (now.1 ∙ reads.sink.told)))
      (reads.time.nothing_else old.clock.moment image (old.told ++ told) (omega arith) left)
    where
      nothing_told : old.told ++ told ≡ old.told → told ≡ []
      nothing_told same = append_cancel_left old.told told [] (same ∙ sym (append-nil old.told))

  pub reads_spoken : (said : Said) → said unspoken → (source : Stream) → KeepsSpoken said [] capacity start old source new source
  reads_spoken said none source = record {
    whole = unspoken;
    rest = unspoken;
    texts = [];
    count = 0;
    keeps = record {
      run_is = tt;
      crash = λ image told left.
          let there = left_then image told left in
          record {
            count = 0;
            some = omega arith;
            mounts = mounts_so image there.0;
            front = (texts_of [], ap (λ (l : List ℕ). l ++ texts_of []) (sym there.1));
            answered = tt;
          };
      told = ([], ([], texts_of-none), reads.sink.told ∙ sym (append-nil old.told));
      knows = λ image is. record { count = 0; many = omega arith; some = omega arith; mounts = mounts_so image (one_image image (subst (λ (d : Candidates). IsImage d image) reads.candidates is)) };
    };
    taken = λ tells. has_none source;
    asked = refl;
    whole_is = none;
    is = none;
    changes = refl;
    behind = ([], ([], texts_of-none), reads.sink.told ∙ sym (append-nil old.told));
  }

  -- of plain lines
  pub reads_keep : (source : Stream) → KeepsRun capacity start old source new source
  reads_keep source = record {
    run = [];
    known = 0;
    keeps = record {
      run_is = tt;
      plain = tt;
      lines_are = λ tells. record { used = []; rest = []; bytes = refl; cut = inl (λ more. refl) };
      crash = λ image told left.
          let there = left_then image told left in
          record {
            count = 0;
            some = omega arith;
            mounts = mounts_so image there.0;
            front = (replies_of [], ap (λ (l : List ℕ). l ++ replies_of []) (sym there.1));
            answered = λ k most answered. most;
          };
      told = ([], ([], replies_of-none), reads.sink.told ∙ sym (append-nil old.told));
      knows = λ image is. record { count = 0; many = omega arith; some = omega arith; mounts = mounts_so image (one_image image (subst (λ (d : Candidates). IsImage d image) reads.candidates is)) };
    };
  }

  pub reads_heard : (source : Stream) → KeepsHeard [] capacity start old source new source
  unfolding reads_keep
  reads_heard source = (reads_keep source, record { changes = changes_in-none 0; behind = ([], ([], replies_of-none), reads.sink.told ∙ sym (append-nil old.told)) })
