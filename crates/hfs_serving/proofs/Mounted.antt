-- An image made ready, whatever its content is: what the replay and the version leave of it.
use Rattle.std.proofs.Common.{◌≡◌, ◌≢◌, ◌⊎◌, ◌<◌, ◌/◌, ◌*◌, ℕ, Bool, true, false, inl, inr, ⊎_elim, length, refl, sym, ◌∙◌, ap, subst, eqb, cond}
use Rattle.std.specs.Prelude.{Ok, IsTrue}
use Rattle.std.proofs.lemmas.Bool.{cases_eq, eqb-true}
use Rattle.volume_header.specs.Header.{FitsHeader, header_bytes, header_of}
use Rattle.volume_header.specs.declared.header.VolumeHeader.{VolumeHeader}
use Rattle.sector_disk.specs.Lists.{IsSector, sector}
use Rattle.sector_disk.specs.Disk.{CrashesLeave, IsDisk, SameSink, State, content, content_of, only}
use Rattle.sector_disk.specs.Space.{AgreesOutside}
use Rattle.sector_disk.proofs.Candidates.{content_of-only}
use Rattle.sector_disk.proofs.Passing.{both_pass}
use Rattle.jnl_format.specs.Recovery.{Content, header_of_volume, journaling_version, recovery, replayed}
use Rattle.jnl_format.specs.declared.structures.Info.{Info}
use Rattle.jnl_format.proofs.Recovering.{journal_parts}
use Rattle.jnl_replay.specs.Homing.{AgreesOutsideJournal, StandsForSame, after_replay}
use Rattle.jnl_replay.specs.Plan.{FitsPlan, IsPlan, journal_of}
use Rattle.jnl_replay.specs.declared.plan.Plan.{Plan}
use Rattle.jnl_replay.proofs.Checks.{length-content}
use Rattle.jnl_ring.specs.Whole.{AreWhole}
use Rattle.jnl_ring.proofs.Bytes.{content_whole}
use Rattle.jnl_store.specs.Journal.{IsClosed}
use Rattle.jnl_store.specs.Plan.{rested}
use Rattle.jnl_store.specs.Spaces.{found}
use Rattle.jnl_store.proofs.AtRest.{rested_rests}
use Rattle.jnl_store.proofs.Attached.{holds_after}
use Rattle.jnl_store.proofs.One.{length-one, one_else, one_here}
use Rattle.jnl_store.proofs.Quiet.{recovers_itself}
use Rattle.hfs_volume.specs.Aside.{IsJournalSector}
use Rattle.hfs_volume.specs.Content.{JournalPlace, journal_place, volume_of}
use Rattle.hfs_serving.specs.Outside.{Outside, outside_of}
use Rattle.hfs_serving.specs.Readying.{IsMountedFrom, IsReady, StandsMounted, mounted_plan, version_sector, versioned, with_version, with_version_set}
use Rattle.hfs_serving.specs.Runs.{version_header}
use Rattle.hfs_serving.specs.Stages.{MayLeave}
use Rattle.hfs_serving.proofs.Agreeing.{agrees_more, agrees_self}
use Rattle.hfs_serving.proofs.Attachable.{sectors_are}
use Rattle.hfs_serving.proofs.Bridging.{lifted}
use Rattle.hfs_serving.proofs.Readied.{found_now, lies_start, ready_now, replay_home, settled_by, two_inside, two_start}
use Rattle.hfs_serving.proofs.Replayed.{replay_stands}
use Rattle.hfs_serving.proofs.Replays.{found_outside}
use Rattle.hfs_serving.proofs.VersionBytes.{version_spells}
use Rattle.hfs_serving.proofs.Versions.{LiesIn, agrees_start, apart, closed_start, found_before, found_here, h, header_same, holds_version, plan_here, rest, rest_version}

-- one stage behind another
pub leaves_on : (is_left : Content → Type 0) (before mid after : Outside) → MayLeave is_left before mid → MayLeave is_left mid after → MayLeave is_left before after
leaves_on is_left before mid after first second = record {
  time = both_pass before.clock mid.clock after.clock _ _ _ first.time second.time (λ recovered told p. p) (λ recovered told p. (p.0, p.1 ∙ first.told));
  leaves = second.leaves;
  told = second.told ∙ first.told;
}

-- what crashes leave of a disk, as it is found
pub leaves_found : (is_left : Content → Type 0) (plan : Plan) (old new : State) (of_image : Content → Type 0) → CrashesLeave old new of_image → SameSink old new → ((image : Content) → of_image image → is_left (found plan image)) → MayLeave is_left (outside_of plan old) (outside_of plan new)
leaves_found is_left plan old new of_image leaves sink as_found = record {
  time = lifted plan old new _ _ leaves.time (λ image told q. (as_found image q.0, q.1));
  leaves = λ recovered left. subst is_left (sym left.2) (as_found left.0 (leaves.now left.0 left.1));
  told = sink.told;
}

-- ---- while it is replayed

pub replay_leaves : (plan : Plan) (old new : State) (total : ℕ) → FitsPlan total plan → IsPlan (content old) plan → (start : Content) → recovery (content old) ≡ Ok start → start ≡ replayed (journal_of plan) (content old) → CrashesLeave old new (StandsForSame plan (content old)) → SameSink old new
    → MayLeave (StandsMounted start) (outside_of plan old) (outside_of plan new)
replay_leaves plan old new total fits is start recovers same_start leaves sink =
    leaves_found (StandsMounted start) plan old new (StandsForSame plan (content old)) leaves sink (λ image stands. inl (found_outside plan (content old) total fits is start recovers image stands same_start))

-- ---- behind the replay

module _ (plan : Plan) (total : ℕ) (fits : FitsPlan total plan) (before : Content) (is : IsPlan before plan) (long : length before ≡ total) (whole : AreWhole before) (start : Content) (recovers : recovery before ≡ Ok start)
    (home : AgreesOutsideJournal plan start (after_replay plan before)) where
  abbrev c : Content
  c = after_replay plan before

  abbrev p : Plan
  p = rested plan

  in_journal : (s : ℕ) → IsClosed p s → IsJournalSector start s
  in_journal = closed_start plan total fits before is long whole start recovers home

  home_agrees : AgreesOutside (IsJournalSector start) start c
  home_agrees = agrees_more (IsClosed p) (IsJournalSector start) start c in_journal (agrees_start plan total fits before is long whole start recovers home)

  home_stands : StandsMounted start (found plan c)
  home_stands =
      let found_is : found plan c ≡ c =
      found_before plan total fits before is long whole start recovers home plan.place.last_mounted c ∙ found_here p (rest plan total fits before is long whole start recovers home) c (h plan total fits before is long whole start recovers home) in
      inl (subst (λ (x : Content). AgreesOutside (IsJournalSector start) start x) (sym found_is) home_agrees)

  -- an image that has the version
  module _ (image : Content) (size : length image ≡ length c) (same : (s : ℕ) → s ≢ 2 → sector image s ≡ sector c s) (head_is : header_of_volume image ≡ version_header (header_of_volume c)) where
    head_start : header_of_volume image ≡ version_header (header_of_volume start)
    head_start = head_is ∙ ap version_header (header_same plan total fits before is long whole start recovers home)

    plan_image : IsPlan image (mounted_plan plan)
    plan_image =
        plan_here (with_version p) (rest_version p (rest plan total fits before is long whole start recovers home) c (h plan total fits before is long whole start recovers home)) image
        (holds_version p (rest plan total fits before is long whole start recovers home) c (h plan total fits before is long whole start recovers home) image size same head_is)

    lies_image : (volume_of image).journal ≡ (volume_of start).journal
    unfolding volume_of
    lies_image =
        ap (λ n. journal_place (sector image n)) (sym plan_image.place.info_sector) ∙ ap place_in (journal_parts (mounted_plan plan).place.info_sector image (journal_of (mounted_plan plan)) plan_image.journal).read
        ∙ sym (lies_start plan total fits before is long whole start recovers home)
      where
        place_in : Info → JournalPlace
        place_in info = record { offset = info.offset; size = info.size }

    journal_image : (s : ℕ) → IsClosed p s → IsJournalSector image s
    journal_image s closed =
        subst (λ (n : ℕ). LiesIn (volume_of image).journal n s) (sym (ap (λ (head : VolumeHeader). head.journal_info_block * (head.block_size / 512)) head_start))
        (subst (λ (j : JournalPlace). LiesIn j ((header_of_volume start).journal_info_block * ((header_of_volume start).block_size / 512)) s) (sym lies_image) (in_journal s closed))

    image_found : found plan image ≡ image
    image_found = found_now plan total fits before is long whole start recovers home image image size same head_is (agrees_self (IsClosed p) image) journal_image lies_image

    image_mounted : (version : ℕ) → AgreesOutside (IsJournalSector start) (versioned version start) image → (disk : State) → disk.candidates ≡ only image → IsMountedFrom version start (mounted_plan plan) disk
    image_mounted version agrees disk settled =
        let content_is : content disk ≡ image = ap content_of settled ∙ content_of-only image in
        record {
          is_ready =
              subst (λ (x : Content). IsReady (mounted_plan plan) x disk) (sym content_is)
              (ready_now plan total fits before is long whole start recovers home image image size same head_is (agrees_self (IsClosed p) image) journal_image lies_image disk settled);
          agrees = subst (λ (x : Content). AgreesOutside (IsJournalSector start) (versioned version start) x) (sym content_is) agrees;
          header = ap header_of_volume content_is ∙ head_start;
          journal = ap (λ (x : Content). (volume_of x).journal) content_is ∙ lies_image;
        }

  -- what the version makes of it, where the header's sector spells it
  module _ (spells : header_of (version_sector (sector c 2)) ≡ version_header (header_of_volume c)) where
    abbrev after : Content
    after = with_version_set c

    inside : 2 < length c
    inside = two_inside plan total fits before is long whole start recovers home

    inside_start : 2 < length start
    inside_start = two_start plan total fits before is long whole start recovers home

    size_after : length after ≡ length c
    size_after = length-one c 2 (version_sector (sector c 2)) inside

    same_after : (s : ℕ) → s ≢ 2 → sector after s ≡ sector c s
    same_after = one_else c 2 (version_sector (sector c 2)) inside

    head_after : header_of_volume after ≡ version_header (header_of_volume c)
    head_after = ap header_of (one_here c 2 (version_sector (sector c 2)) inside) ∙ spells

    two_same : sector c 2 ≡ sector start 2
    two_same = ⊎_elim (λ same. same) (λ closed. absurd (apart plan total fits before is long whole start recovers home closed)) ((agrees_start plan total fits before is long whole start recovers home).each 2)

    agrees_after : AgreesOutside (IsJournalSector start) (with_version_set start) after
    agrees_after = record {
      size = size_after ∙ home_agrees.size ∙ sym (length-one start 2 (version_sector (sector start 2)) inside_start);
      each = λ s. elim (cases_eq s 2) [
        | inl two ↦
            inl (ap (sector after) two ∙ one_here c 2 (version_sector (sector c 2)) inside ∙ ap version_sector two_same ∙ sym (one_here start 2 (version_sector (sector start 2)) inside_start) ∙ ap (sector (with_version_set start)) (sym two))
        | inr other ↦ ⊎_elim (λ same. inl (same_after s other ∙ same ∙ sym (one_else start 2 (version_sector (sector start 2)) inside_start s other))) (λ journal. inr journal) (home_agrees.each s)
      ];
    }

    stands_after : StandsMounted start (found plan after)
    stands_after = inr (subst (λ (x : Content). AgreesOutside (IsJournalSector start) (with_version_set start) x) (sym (image_found after size_after same_after head_after)) agrees_after)

    mounted_by : (has : Bool) → eqb plan.place.last_mounted journaling_version ≡ has → AgreesOutside (IsJournalSector start) (cond has start (with_version_set start)) (cond has c after) → (disk : State) → disk.candidates ≡ only (cond has c after)
        → AgreesOutside (IsJournalSector start) (versioned plan.place.last_mounted start) (cond has c after) → IsMountedFrom plan.place.last_mounted start (mounted_plan plan) disk
    mounted_by true has agrees disk settled here =
        let version_is : (header_of_volume c).last_mounted_version ≡ journaling_version = sym (h plan total fits before is long whole start recovers home).place.last_mounted ∙ eqb-true plan.place.last_mounted journaling_version has in
        image_mounted c refl (λ s other. refl) (λ i. record (header_of_volume c) { last_mounted_version = version_is i }) plan.place.last_mounted here disk settled
    mounted_by false has agrees disk settled here = image_mounted after size_after same_after head_after plan.place.last_mounted here disk settled

    agrees_by : (has : Bool) → AgreesOutside (IsJournalSector start) (cond has start (with_version_set start)) (cond has c after)
    agrees_by true = home_agrees
    agrees_by false = agrees_after

    pub mounted_is : (disk : State) → disk.candidates ≡ only (versioned plan.place.last_mounted c) → IsMountedFrom plan.place.last_mounted start (mounted_plan plan) disk
    mounted_is disk settled =
        let has = eqb plan.place.last_mounted journaling_version in
        mounted_by has refl (agrees_by has) disk settled (agrees_by has)

    either_stands : (has : Bool) → StandsMounted start (found plan (cond has c after))
    either_stands true = home_stands
    either_stands false = stands_after

    pub version_leaves : (old new : State) → SameSink old new → CrashesLeave old new (λ image. (image ≡ c) ⊎ (image ≡ versioned plan.place.last_mounted c)) → MayLeave (StandsMounted start) (outside_of plan old) (outside_of plan new)
    version_leaves old new sink leaves =
        leaves_found (StandsMounted start) plan old new _ leaves sink (λ image which.
        ⊎_elim (λ was. subst (λ (x : Content). StandsMounted start (found plan x)) (sym was) home_stands)
        (λ done. subst (λ (x : Content). StandsMounted start (found plan x)) (sym done) (either_stands (eqb plan.place.last_mounted journaling_version))) which)

-- ---- a replay and then the version

module _ (read_back : (head : VolumeHeader) → FitsHeader head → header_of (header_bytes head) ≡ head) (plan : Plan) (s0 s1 s2 : State) (is0 : IsDisk s0) (is1 : IsDisk s1) (tells : IsTrue s0.tells) (fits : FitsPlan s0.sectors plan)
    (plan_is : IsPlan (content s0) plan) (replayed_is : s1.candidates ≡ only (after_replay plan (content s0)))
    (start : Content) (recovers : recovery (content s0) ≡ Ok start) (same_start : start ≡ replayed (journal_of plan) (content s0)) where
  abbrev before : Content
  before = content s0

  abbrev replayed_c : Content
  replayed_c = after_replay plan before

  long : length before ≡ s0.sectors
  long = length-content s0 is0 tells

  whole : AreWhole before
  whole = content_whole s0 is0

  content_after : content s1 ≡ replayed_c
  content_after = ap content_of replayed_is ∙ content_of-only replayed_c

  home : AgreesOutsideJournal plan start replayed_c
  home =
      replay_home plan s0.sectors fits before plan_is long whole start recovers same_start (replay_stands plan s0.sectors fits before plan_is long whole)
      (recovers_itself (rested plan) replayed_c (rested_rests plan s0.sectors fits) (holds_after before plan plan_is s0.sectors fits long whole))

  header_here : IsSector (sector replayed_c 2)
  header_here =
      subst (λ (x : Content). IsSector (sector x 2)) content_after
      (sectors_are s1 is1 (settled_by s1 replayed_c replayed_is) 2 (subst (λ (x : Content). 2 < length x) (sym content_after) (two_inside plan s0.sectors fits before plan_is long whole start recovers home)))

  spells : header_of (version_sector (sector replayed_c 2)) ≡ version_header (header_of_volume replayed_c)
  spells = version_spells read_back (sector replayed_c 2) header_here.bytes header_here.size

  pub set_mounted : s2.candidates ≡ only (versioned plan.place.last_mounted (content s1)) → IsMountedFrom plan.place.last_mounted start (mounted_plan plan) s2
  set_mounted done = mounted_is plan s0.sectors fits before plan_is long whole start recovers home spells s2 (done ∙ ap (λ (x : Content). only (versioned plan.place.last_mounted x)) content_after)

  pub set_leaves_mounted : CrashesLeave s0 s1 (StandsForSame plan (content s0)) → SameSink s0 s1 → SameSink s1 s2 → CrashesLeave s1 s2 (λ image. (image ≡ content s1) ⊎ (image ≡ versioned plan.place.last_mounted (content s1)))
      → MayLeave (StandsMounted start) (outside_of plan s0) (outside_of plan s2)
  set_leaves_mounted crash sink sink_more leaves =
      leaves_on (StandsMounted start) (outside_of plan s0) (outside_of plan s1) (outside_of plan s2) (replay_leaves plan s0 s1 s0.sectors fits plan_is start recovers same_start crash sink)
      (version_leaves plan s0.sectors fits before plan_is long whole start recovers home spells s1 s2 sink_more
      (subst (λ (x : Content). CrashesLeave s1 s2 (λ image. (image ≡ x) ⊎ (image ≡ versioned plan.place.last_mounted x))) content_after leaves))
