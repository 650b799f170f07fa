-- An image made ready for its store: what the replay and the version leave, from the content that the image stood for.
use Rattle.std.proofs.Common.{◌≡◌, ◌≢◌, ◌⊎◌, ◌<◌, ◌/◌, ◌*◌, ℕ, Bool, true, false, List, [], ◌∷◌, inl, inr, ⊎_elim, length, refl, sym, ◌∙◌, ap, subst, arith, eqb, cond}
use Rattle.std.specs.Prelude.{Result, Ok, Err, IsTrue}
use Rattle.std.proofs.lemmas.Bool.{cases_eq, eqb-true}
use Rattle.std.proofs.lemmas.List.{ext_get_or}
use Rattle.volume_header.specs.Header.{FitsHeader, header_bytes, header_of}
use Rattle.volume_header.specs.declared.header.VolumeHeader.{VolumeHeader}
use Rattle.sector_disk.specs.Lists.{IsSector, put_sectors, sector}
use Rattle.sector_disk.specs.Disk.{Candidates, CrashesLeave, HasNothingPending, IsDisk, IsImage, Mixes, SameSink, State, content, content_of, only}
use Rattle.sector_disk.specs.Space.{AgreesOutside}
use Rattle.sector_disk.proofs.Candidates.{content_of-only}
use Rattle.sector_disk.proofs.Passing.{both_pass, none_passes}
use Rattle.sector_disk.proofs.Stages.{image_only, mixes_size, stage_leaves}
use Rattle.jnl_format.specs.Recovery.{Content, header_of_volume, journaling_version, recovery, replayed}
use Rattle.jnl_format.specs.declared.structures.JnlRefusal.{JnlRefusal}
use Rattle.jnl_replay.specs.Homing.{AgreesOutsideJournal, StandsForSame, after_replay}
use Rattle.jnl_replay.specs.Plan.{FitsPlan, IsPlan, journal_of}
use Rattle.jnl_replay.specs.declared.plan.Plan.{Plan}
use Rattle.jnl_replay.proofs.Checks.{length-content}
use Rattle.jnl_ring.specs.Whole.{AreWhole}
use Rattle.jnl_ring.proofs.Bytes.{content_whole}
use Rattle.jnl_store.specs.Journal.{IsClosed}
use Rattle.jnl_store.specs.Plan.{rested}
use Rattle.jnl_store.specs.Spaces.{found}
use Rattle.jnl_store.proofs.AtRest.{fits_rested, rested_rests}
use Rattle.jnl_store.proofs.Attached.{holds_after, offset_is, size_is}
use Rattle.jnl_store.proofs.One.{length-one, mixed_else, mixed_here, one_else, one_here}
use Rattle.jnl_store.proofs.Quiet.{recovers_itself}
use Rattle.hfs_volume.specs.Aside.{IsAside, IsJournalSector}
use Rattle.hfs_volume.specs.Attributing.{RemountKeeps}
use Rattle.hfs_volume.specs.Content.{JournalPlace, volume_of}
use Rattle.hfs_volume.specs.Sound.{IsSound}
use Rattle.hfs_serving.specs.Outside.{Outside, outside_of}
use Rattle.hfs_serving.specs.Readying.{IsMadeReady, IsReady, MayReady, Readies, mounted_plan, version_sector, versioned, with_version, with_version_set}
use Rattle.hfs_serving.specs.Runs.{KeepsPlace, SetsVersion, StandsAs, version_header}
use Rattle.hfs_serving.specs.Stages.{MayTurn, Turns}
use Rattle.hfs_serving.proofs.Agreeing.{agrees_more}
use Rattle.hfs_serving.proofs.Attachable.{sectors_are}
use Rattle.hfs_serving.proofs.Bridging.{lifted}
use Rattle.hfs_serving.proofs.Leading.{place_none}
use Rattle.hfs_serving.proofs.Reheading.{sets_version, version_place}
use Rattle.hfs_serving.proofs.Replayed.{replay_stands}
use Rattle.hfs_serving.proofs.Replays.{journal_lies, replay_turns}
use Rattle.hfs_serving.proofs.VersionBytes.{version_spells}
use Rattle.hfs_serving.proofs.Versions.{LiesIn, agrees_start, apart, base_inside, closed_start, emptied_here, found_before, found_here, h, header_same, holds_version, long_c, plan_here, rest, rest_version}

-- ---- one stage behind another

pub may_on : (start now : Content) (before mid after : Outside) → Turns start start before mid → MayTurn start now mid after → MayTurn start now before after
may_on start now before mid after first second = record {
  time = both_pass before.clock mid.clock after.clock _ _ _ first.may.time second.time (λ recovered told p. (⊎_elim (λ a. inl a) (λ b. inl b) p.0, p.1)) (λ recovered told p. (p.0, p.1 ∙ first.may.told));
  leaves = second.leaves;
  told = second.told ∙ first.may.told;
}

pub turns_on : (start now : Content) (before mid after : Outside) → Turns start start before mid → Turns start now mid after → Turns start now before after
turns_on start now before mid after first second = record { may = may_on start now before mid after first second.may; leaves = second.leaves }

-- while one sector is written, it is as it was, or done
pub mixed_whole : (c image : Content) (at : ℕ) (value : List ℕ) → at < length c → Mixes (only c) at (value ∷ []) image → (image ≡ c) ⊎ (image ≡ put_sectors c at (value ∷ []))
mixed_whole c image at value inside m =
    let size = mixes_size c at (value ∷ []) image m in
    let one = put_sectors c at (value ∷ []) in
    elim (mixed_here c at value inside image m) [
      | inl kept ↦ inl (ext_get_or [] image c size (λ s below. elim (cases_eq s at) [ inl is ↦ ap (sector image) is ∙ kept ∙ ap (sector c) (sym is) | inr other ↦ mixed_else c at value inside image m s other ]))
      | inr changed ↦ inr (ext_get_or [] image one (size ∙ sym (length-one c at value inside)) (λ s below. elim (cases_eq s at) [
        | inl is ↦ ap (sector image) is ∙ changed ∙ sym (one_here c at value inside) ∙ ap (sector one) (sym is)
        | inr other ↦ mixed_else c at value inside image m s other ∙ sym (one_else c at value inside s other)
      ]))
    ]

module _ (plan : Plan) (total : ℕ) (fits : FitsPlan total plan) (before : Content) (is : IsPlan before plan) (long : length before ≡ total) (whole : AreWhole before) (start : Content) (recovers : recovery before ≡ Ok start)
    (home : AgreesOutsideJournal plan start (after_replay plan before)) where
  abbrev c : Content
  c = after_replay plan before

  abbrev p : Plan
  p = rested plan

  pub two_inside : 2 < length c
  two_inside = omega (arith, long_c plan total fits before is long whole start recovers home, fits.inside, fits.least)

  pub two_start : 2 < length start
  two_start = omega (arith, two_inside, home.size)

  pub lies_start : (volume_of start).journal ≡ record { offset = p.info.offset; size = p.info.size }
  lies_start = journal_lies plan before total fits is start recovers ∙ (λ i. record { offset = sym (offset_is plan plan.fresh refl) i; size = sym (size_is plan plan.fresh refl) i })

  -- an image that has the version
  module _ (now image : Content) (size : length image ≡ length c) (same : (s : ℕ) → s ≢ 2 → sector image s ≡ sector c s) (head_is : header_of_volume image ≡ version_header (header_of_volume c))
      (agrees : AgreesOutside (IsClosed p) now image) (journal : (s : ℕ) → IsClosed p s → IsJournalSector now s) (lies : (volume_of now).journal ≡ (volume_of start).journal) where
    pub found_now : found plan image ≡ image
    found_now =
        found_before plan total fits before is long whole start recovers home journaling_version image
        ∙ found_here (with_version p) (rest_version p (rest plan total fits before is long whole start recovers home) c (h plan total fits before is long whole start recovers home)) image
        (holds_version p (rest plan total fits before is long whole start recovers home) c (h plan total fits before is long whole start recovers home) image size same head_is)

    stands_now : StandsAs now (found plan image)
    stands_now = subst (λ (x : Content). StandsAs now x) (sym found_now) (agrees_more (IsClosed p) (IsAside now) now image (λ s closed. inr (journal s closed)) agrees)

    pub ready_now : (disk : State) → disk.candidates ≡ only image → IsReady (mounted_plan plan) now disk
    ready_now disk settled =
        let content_is : content disk ≡ image = ap content_of settled ∙ content_of-only image in
        let resting = rest_version p (rest plan total fits before is long whole start recovers home) c (h plan total fits before is long whole start recovers home) in
        let holds = holds_version p (rest plan total fits before is long whole start recovers home) c (h plan total fits before is long whole start recovers home) image size same head_is in
        let inside = base_inside plan total fits before is long whole start recovers home in
        record {
          settled = settled ∙ ap only (sym content_is);
          plan_is = subst (λ (x : Content). IsPlan x (mounted_plan plan)) (sym content_is) (plan_here (with_version p) resting image holds);
          empty = subst (λ (x : Content). after_replay (mounted_plan plan) x ≡ x) (sym content_is) (emptied_here (with_version p) resting image holds (omega (arith, inside, size)));
          agrees = subst (λ (x : Content). AgreesOutside (IsClosed p) now x) (sym content_is) agrees;
          journal = journal;
          lies = lies ∙ lies_start;
          version = ap (λ (x : Content). (header_of_volume x).last_mounted_version) content_is ∙ ap (λ (head : VolumeHeader). head.last_mounted_version) head_is;
          apart = apart plan total fits before is long whole start recovers home;
        }

  -- the image that the replay left
  stands_start : StandsAs start (found plan c)
  stands_start =
      let found_is : found plan c ≡ c =
      found_before plan total fits before is long whole start recovers home plan.place.last_mounted c ∙ found_here p (rest plan total fits before is long whole start recovers home) c (h plan total fits before is long whole start recovers home) in
      subst (λ (x : Content). StandsAs start x) (sym found_is)
      (agrees_more (IsClosed p) (IsAside start) start c (λ s closed. inr (closed_start plan total fits before is long whole start recovers home s closed)) (agrees_start plan total fits before is long whole start recovers home))

  -- what the version makes of both, where the header's sector spells it
  module _ (law : RemountKeeps) (sound : IsSound start) (spells : header_of (version_sector (sector c 2)) ≡ version_header (header_of_volume c)) where
    abbrev bytes : List ℕ
    bytes = version_sector (sector c 2)

    abbrev after : Content
    after = with_version_set c

    abbrev changed : Content
    changed = put_sectors start 2 (bytes ∷ [])

    head_changed : header_of_volume changed ≡ version_header (header_of_volume start)
    head_changed = ap header_of (one_here start 2 bytes two_start) ∙ spells ∙ ap version_header (header_same plan total fits before is long whole start recovers home)

    size_changed : length changed ≡ length start
    size_changed = length-one start 2 bytes two_start

    sets : SetsVersion start changed
    sets = sets_version start changed sound size_changed (one_else start 2 bytes two_start) head_changed law

    keeps : KeepsPlace start changed
    keeps = version_place start changed sound size_changed (one_else start 2 bytes two_start) head_changed

    agrees_changed : AgreesOutside (IsClosed p) changed after
    agrees_changed = record {
      size = length-one c 2 bytes two_inside ∙ home.size ∙ sym size_changed;
      each = λ s. elim (cases_eq s 2) [
        | inl two ↦ inl (ap (sector after) two ∙ one_here c 2 bytes two_inside ∙ sym (one_here start 2 bytes two_start) ∙ ap (sector changed) (sym two))
        | inr other ↦ ⊎_elim (λ same. inl (one_else c 2 bytes two_inside s other ∙ same ∙ sym (one_else start 2 bytes two_start s other))) (λ closed. inr closed) ((agrees_start plan total fits before is long whole start recovers home).each s)
      ];
    }

    closed_changed : (s : ℕ) → IsClosed p s → IsJournalSector changed s
    closed_changed s closed =
        subst (λ (n : ℕ). LiesIn (volume_of changed).journal n s) (sym (ap (λ (head : VolumeHeader). head.journal_info_block * (head.block_size / 512)) head_changed))
        (subst (λ (j : JournalPlace). LiesIn j ((header_of_volume start).journal_info_block * ((header_of_volume start).block_size / 512)) s) (sym keeps.journal) (closed_start plan total fits before is long whole start recovers home s closed))

    head_after : header_of_volume after ≡ version_header (header_of_volume c)
    head_after = ap header_of (one_here c 2 bytes two_inside) ∙ spells

    stands_after : StandsAs changed (found plan after)
    stands_after = stands_now changed after (length-one c 2 bytes two_inside) (one_else c 2 bytes two_inside) head_after agrees_changed closed_changed keeps.journal

    ready_after : (disk : State) → disk.candidates ≡ only after → IsReady (mounted_plan plan) changed disk
    ready_after disk settled = ready_now changed after (length-one c 2 bytes two_inside) (one_else c 2 bytes two_inside) head_after agrees_changed closed_changed keeps.journal disk settled

    made_by : (version : Bool) → eqb plan.place.last_mounted journaling_version ≡ version → (disk : State) → disk.candidates ≡ only (cond version c after) → IsMadeReady start (mounted_plan plan) disk
    made_by true has disk settled =
        let version_is : (header_of_volume c).last_mounted_version ≡ journaling_version = sym (h plan total fits before is long whole start recovers home).place.last_mounted ∙ eqb-true plan.place.last_mounted journaling_version has in
        record {
          now = start;
          versioned = inl refl;
          place = place_none start;
          is_ready =
              ready_now start c refl (λ s other. refl) (λ i. record (header_of_volume c) { last_mounted_version = version_is i }) (agrees_start plan total fits before is long whole start recovers home)
              (closed_start plan total fits before is long whole start recovers home) refl disk settled;
        }
    made_by false has disk settled = record { now = changed; versioned = inr sets; place = keeps; is_ready = ready_after disk settled }

    pub made : (disk : State) → disk.candidates ≡ only (versioned plan.place.last_mounted c) → IsMadeReady start (mounted_plan plan) disk
    made disk settled = made_by (eqb plan.place.last_mounted journaling_version) refl disk settled

    -- ---- the stage

    module _ (old new : State) (sink : SameSink old new) where
      -- where the version stood there
      same_may : CrashesLeave old new (λ image. (image ≡ c) ⊎ (image ≡ c)) → MayTurn start start (outside_of plan old) (outside_of plan new)
      same_may leaves = record {
        time = lifted plan old new _ _ leaves.time (λ image told q. (inl (as_start image q.0), q.1));
        leaves = λ recovered left. inl (subst (λ (x : Content). StandsAs start x) (sym left.2) (as_start left.0 (leaves.now left.0 left.1)));
        told = sink.told;
      }
        where
          as_start : (image : Content) → (image ≡ c) ⊎ (image ≡ c) → StandsAs start (found plan image)
          as_start image which = subst (λ (x : Content). StandsAs start (found plan x)) (sym (⊎_elim (λ a. a) (λ b. b) which)) stands_start

      changed_may : CrashesLeave old new (λ image. (image ≡ c) ⊎ (image ≡ after)) → MayTurn start changed (outside_of plan old) (outside_of plan new)
      changed_may leaves = record {
        time = lifted plan old new _ _ leaves.time (λ image told q. (as_either image q.0, q.1));
        leaves = λ recovered left. subst (λ (x : Content). StandsAs start x ⊎ StandsAs changed x) (sym left.2) (as_either left.0 (leaves.now left.0 left.1));
        told = sink.told;
      }
        where
          as_either : (image : Content) → (image ≡ c) ⊎ (image ≡ after) → StandsAs start (found plan image) ⊎ StandsAs changed (found plan image)
          as_either image which =
              ⊎_elim (λ was. inl (subst (λ (x : Content). StandsAs start (found plan x)) (sym was) stands_start)) (λ done. inr (subst (λ (x : Content). StandsAs changed (found plan x)) (sym done) stands_after)) which

      -- by whether the header had the version
      module _ (first : State) (replay_turn : Turns start start (outside_of plan first) (outside_of plan old)) where
        may_by : (version : Bool) → CrashesLeave old new (λ image. (image ≡ c) ⊎ (image ≡ (cond version c after))) → MayReady plan start first new
        may_by true leaves = record { now = start; versioned = inl refl; place = place_none start; may = may_on start start (outside_of plan first) (outside_of plan old) (outside_of plan new) replay_turn (same_may leaves) }
        may_by false leaves = record { now = changed; versioned = inr sets; place = keeps; may = may_on start changed (outside_of plan first) (outside_of plan old) (outside_of plan new) replay_turn (changed_may leaves) }

        pub may_ready : CrashesLeave old new (λ image. (image ≡ c) ⊎ (image ≡ versioned plan.place.last_mounted c)) → MayReady plan start first new
        may_ready leaves = may_by (eqb plan.place.last_mounted journaling_version) leaves

        done_by : (version : Bool) → eqb plan.place.last_mounted journaling_version ≡ version → CrashesLeave old new (λ image. (image ≡ c) ⊎ (image ≡ (cond version c after))) → new.candidates ≡ only (cond version c after) → Readies plan start (mounted_plan plan) first new
        unfolding made_by
        done_by true has leaves settled = record {
          made = made_by true has new settled;
          turns =
              turns_on start start (outside_of plan first) (outside_of plan old) (outside_of plan new) replay_turn (record {
                may = same_may leaves;
                leaves = λ recovered left. ⊎_elim (λ a. a) (λ b. b) ((same_may leaves).leaves recovered left);
              });
        }
        done_by false has leaves settled = record {
          made = made_by false has new settled;
          turns =
              turns_on start changed (outside_of plan first) (outside_of plan old) (outside_of plan new) replay_turn (record {
                may = changed_may leaves;
                leaves = λ recovered left.
                    let image_is : left.0 ≡ after = image_only after left.0 (subst (λ (d : Candidates). IsImage d left.0) settled left.1) in
                    subst (λ (x : Content). StandsAs changed x) (sym (left.2 ∙ ap (found plan) image_is)) stands_after;
              });
        }

        pub readies : CrashesLeave old new (λ image. (image ≡ c) ⊎ (image ≡ versioned plan.place.last_mounted c)) → new.candidates ≡ only (versioned plan.place.last_mounted c) → Readies plan start (mounted_plan plan) first new
        readies leaves settled = done_by (eqb plan.place.last_mounted journaling_version) refl leaves settled

-- ---- what a replay leaves

abbrev value_of : Result Content JnlRefusal → Content
value_of (Ok x) = x
value_of (Err why) = []

-- a content of which a replay is done, but in the journal's header and its info block
pub replay_home : (plan : Plan) (total : ℕ) (fits : FitsPlan total plan) (before : Content) (is : IsPlan before plan) (long : length before ≡ total) (whole : AreWhole before) (start : Content) (recovers : recovery before ≡ Ok start) (same_start : start ≡ replayed (journal_of plan) before)
    → StandsForSame plan before (after_replay plan before) → recovery (after_replay plan before) ≡ Ok (after_replay plan before) → AgreesOutsideJournal plan start (after_replay plan before)
replay_home plan total fits before is long whole start recovers same_start stands itself =
    let one : stands.recovered ≡ after_replay plan before = ap (λ (r : Result Content JnlRefusal). value_of r) (sym stands.stands ∙ itself) in
    subst (λ (x : Content). AgreesOutsideJournal plan x (after_replay plan before)) (sym same_start) (subst (λ (x : Content). AgreesOutsideJournal plan (replayed (journal_of plan) before) x) one stands.agrees)

-- the plan that a mount leaves fits the disk that its own does
pub fits_mounted : (plan : Plan) (sectors : ℕ) → FitsPlan sectors plan → FitsPlan sectors (mounted_plan plan)
fits_mounted plan sectors fits =
    let f = fits_rested plan (rested plan) sectors (rested_rests plan sectors fits) refl fits in
    record {
      sectors = f.sectors;
      info_sector = f.info_sector;
      offset = f.offset;
      whole = f.whole;
      least = f.least;
      inside = f.inside;
      start_low = f.start_low;
      start_high = f.start_high;
      end_low = f.end_low;
      end_high = f.end_high;
      blhdr = f.blhdr;
      header = f.header;
    }

-- ---- the version is set

-- nothing happened where it stood there
pub same_leaves : (disk : State) (version : ℕ) → HasNothingPending disk → CrashesLeave disk disk (λ image. (image ≡ content disk) ⊎ (image ≡ versioned version (content disk)))
same_leaves disk version settled = record {
  time = none_passes disk.clock _;
  now = λ image is. inl (image_only (content disk) image (subst (λ (d : Candidates). IsImage d image) settled is));
}

-- while it is written
pub set_leaves : (old new : State) (version : ℕ) → eqb version journaling_version ≡ false → 2 < length (content old) → HasNothingPending old → CrashesLeave old new (Mixes old.candidates 2 (version_sector (sector (content old) 2) ∷ []))
    → CrashesLeave old new (λ image. (image ≡ content old) ⊎ (image ≡ versioned version (content old)))
set_leaves old new version other inside settled leaves =
    let changed : with_version_set (content old) ≡ versioned version (content old) = sym (ap (λ b. cond b (content old) (with_version_set (content old))) other) in
    stage_leaves old new (content old) 2 (version_sector (sector (content old) 2) ∷ []) _ settled leaves
    (λ image mixes. ⊎_elim (λ was. inl was) (λ done. inr (done ∙ changed)) (mixed_whole (content old) image 2 (version_sector (sector (content old) 2)) inside mixes))

pub settled_by : (disk : State) (x : Content) → disk.candidates ≡ only x → HasNothingPending disk
settled_by disk x is = is ∙ ap only (sym (ap content_of is ∙ content_of-only x))

-- ---- a replay and then the version

module _ (law : RemountKeeps) (read_back : (head : VolumeHeader) → FitsHeader head → header_of (header_bytes head) ≡ head) (plan : Plan) (s0 s1 s2 : State) (is0 : IsDisk s0) (is1 : IsDisk s1) (tells : IsTrue s0.tells) (fits : FitsPlan s0.sectors plan)
    (plan_is : IsPlan (content s0) plan) (replayed_is : s1.candidates ≡ only (after_replay plan (content s0)))
    (start : Content) (recovers : recovery (content s0) ≡ Ok start) (same_start : start ≡ replayed (journal_of plan) (content s0)) (sound : IsSound start) where
  abbrev before : Content
  before = content s0

  abbrev replayed_c : Content
  replayed_c = after_replay plan before

  long : length before ≡ s0.sectors
  long = length-content s0 is0 tells

  whole : AreWhole before
  whole = content_whole s0 is0

  content_after : content s1 ≡ replayed_c
  content_after = ap content_of replayed_is ∙ content_of-only replayed_c

  home : AgreesOutsideJournal plan start replayed_c
  home =
      replay_home plan s0.sectors fits before plan_is long whole start recovers same_start (replay_stands plan s0.sectors fits before plan_is long whole)
      (recovers_itself (rested plan) replayed_c (rested_rests plan s0.sectors fits) (holds_after before plan plan_is s0.sectors fits long whole))

  header_here : IsSector (sector replayed_c 2)
  header_here =
      subst (λ (x : Content). IsSector (sector x 2)) content_after
      (sectors_are s1 is1 (settled_by s1 replayed_c replayed_is) 2 (subst (λ (x : Content). 2 < length x) (sym content_after) (two_inside plan s0.sectors fits before plan_is long whole start recovers home)))

  spells : header_of (version_sector (sector replayed_c 2)) ≡ version_header (header_of_volume replayed_c)
  spells = version_spells read_back (sector replayed_c 2) header_here.bytes header_here.size

  pub set_made : s2.candidates ≡ only (versioned plan.place.last_mounted (content s1)) → IsMadeReady start (mounted_plan plan) s2
  set_made done = made plan s0.sectors fits before plan_is long whole start recovers home law sound spells s2 (done ∙ ap (λ (x : Content). only (versioned plan.place.last_mounted x)) content_after)

  module _ (crash : CrashesLeave s0 s1 (StandsForSame plan (content s0))) (sink : SameSink s0 s1) (sink_more : SameSink s1 s2) where
    first_turn : Turns start start (outside_of plan s0) (outside_of plan s1)
    first_turn = replay_turns plan s0 s1 s0.sectors fits plan_is start recovers same_start crash sink

    abbrev Leaves : Content → Type 0
    Leaves x = CrashesLeave s1 s2 (λ image. (image ≡ x) ⊎ (image ≡ versioned plan.place.last_mounted x))

    pub set_may : Leaves (content s1) → MayReady plan start s0 s2
    set_may leaves = may_ready plan s0.sectors fits before plan_is long whole start recovers home law sound spells s1 s2 sink_more s0 first_turn (subst Leaves content_after leaves)

    pub set_done : Leaves (content s1) → s2.candidates ≡ only (versioned plan.place.last_mounted (content s1)) → Readies plan start (mounted_plan plan) s0 s2
    set_done leaves done =
        readies plan s0.sectors fits before plan_is long whole start recovers home law sound spells s1 s2 sink_more s0 first_turn (subst Leaves content_after leaves)
        (done ∙ ap (λ (x : Content). only (versioned plan.place.last_mounted x)) content_after)
