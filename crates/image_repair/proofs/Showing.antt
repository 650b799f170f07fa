-- A store that was attached to an image made ready shows its content as it is mounted.
use Rattle.std.proofs.Common.{◌≡◌, ◌≢◌, ◌<◌, ◌+◌, ◌/◌, ◌==◌, ◌&&◌, ◌||◌, ℕ, Bool, true, false, List, [], ◌∷◌, inl, inr, ⊎_elim, length, refl, sym, ◌∙◌, ap, subst, arith, eqb, cond}
use Rattle.std.specs.Prelude.{IsTrue, Ok, nat_le, nat_lt}
use Rattle.sector_disk.specs.Disk.{Candidates, IsDisk, State, candidates_of, content}
use Rattle.sector_disk.specs.Space.{AgreesOutside}
use Rattle.sector_disk.proofs.Passing.{none_passes, passes_with}
use Rattle.volume_header.specs.declared.header.VolumeHeader.{VolumeHeader}
use Rattle.jnl_format.specs.Keeping.{KeepsHeader}
use Rattle.jnl_format.specs.Recovery.{Content, header_of_volume, info_sector_of, journaling_version, recovery, replayed, sector}
use Rattle.jnl_format.proofs.Volumes.{same_refl}
use Rattle.jnl_replay.specs.Plan.{FitsPlan, journal_of}
use Rattle.jnl_replay.specs.declared.plan.Plan.{Plan}
use Rattle.jnl_replay.proofs.Checks.{length-content}
use Rattle.jnl_ring.proofs.Bytes.{content_whole}
use Rattle.jnl_store.specs.Journal.{IsClosed, IsSpilled}
use Rattle.jnl_ring.specs.declared.span.Span.{Span}
use Rattle.jnl_store.specs.Overlay.{overlay}
use Rattle.jnl_store.specs.Lists.{IsCapacity}
use Rattle.jnl_store.specs.Plan.{IsCapacityOf, form_of, rested, span_of}
use Rattle.jnl_store.specs.Spaces.{found, over}
use Rattle.jnl_store.specs.Store.{content_over, durable_of, plan_of}
use Rattle.jnl_store.specs.declared.puts.Put.{Put}
use Rattle.jnl_store.specs.declared.store.Store.{Store}
use Rattle.jnl_store.proofs.Attached.{offset_is, size_is}
use Rattle.jnl_store.proofs.One.{length-one, one_else}
use Rattle.hfs_volume.specs.Aside.{IsJournalSector, NamesJournal}
use Rattle.hfs_volume.specs.Content.{JournalPlace, volume_of}
use Rattle.volume_repair.specs.Remount.{IsRemounted}
use Rattle.hfs_serving.specs.Attaching.{IsAttached}
use Rattle.hfs_serving.specs.Grounds.{anchor_of}
use Rattle.hfs_serving.specs.Outside.{Outside, outside_of}
use Rattle.hfs_serving.specs.Readying.{IsMountedFrom, StandsMounted, version_sector, versioned, with_version_set}
use Rattle.hfs_serving.specs.Stages.{MayLeave}
use Rattle.hfs_serving.proofs.Agreeing.{agrees_both, agrees_more}
use Rattle.hfs_serving.proofs.Attachable.{keeps_on, sectors_are}
use Rattle.hfs_serving.proofs.Committing.{few_only}
use Rattle.hfs_serving.proofs.ContentBytes.{content_bytes, replayed_bytes}
use Rattle.hfs_serving.proofs.Grounding.{kept_rests, outside_by}
use Rattle.hfs_serving.proofs.Promising.{finds_by}
use Rattle.hfs_serving.proofs.Versions.{LiesIn}
use Rattle.image_repair.specs.Mending.{IsOfBytes, ShowsMounted}
use Rattle.image_repair.proofs.Sizes.{sector_size}

-- a content whose header's sector has its bytes has that sector
pub two_in : (c : Content) → length (sector c 2) ≡ 512 → 2 < length c
two_in [] is = absurd (cc is)
two_in (x ∷ []) is = absurd (cc is)
two_in (x ∷ y ∷ []) is = absurd (cc is)
two_in (x ∷ y ∷ z ∷ l) is = omega arith

-- the same sectors are closed
closed_like : (x y : Plan) → x.info.size ≡ y.info.size → x.info.offset ≡ y.info.offset → x.place.info_sector ≡ y.place.info_sector → (s : ℕ) → IsClosed x s → IsClosed y s
closed_like x y size offset place s closed = subst IsTrue (λ i. nat_le (offset i / 512) s && nat_lt s (offset i / 512 + size i / 512) || s == place i) closed

-- ---- the version, whether it stood there or not

module _ (start : Content) (inside : 2 < length start) where
  set_size : (has : Bool) → length (cond has start (with_version_set start)) ≡ length start
  set_size true = refl
  set_size false = length-one start 2 (version_sector (sector start 2)) inside

  set_else : (has : Bool) (at : ℕ) → at ≢ 2 → sector (cond has start (with_version_set start)) at ≡ sector start at
  set_else true at other = refl
  set_else false at other = one_else start 2 (version_sector (sector start 2)) inside at other

  set_stands : (has : Bool) (r : Content) → AgreesOutside (IsJournalSector start) (cond has start (with_version_set start)) r → StandsMounted start r
  set_stands true r agrees = inl agrees
  set_stands false r agrees = inr agrees

module _ (store : Store) (plan : Plan) (disk : State) (attached : IsAttached store plan disk) (is : IsDisk disk) (tells : IsTrue disk.tells) (version : ℕ) (start : Content) (mounted : IsMountedFrom version start plan disk) (bytes : IsOfBytes start) (a b : ℕ) where
  inside : 2 < length start
  inside = two_in start bytes.header

  shown : content_over store (content disk) ≡ content disk
  shown = ap (λ (puts : List Put). overlay puts (durable_of store (content disk))) attached.nothing ∙ attached.durable

  size_is_start : length (content disk) ≡ length start
  size_is_start = mounted.agrees.size ∙ set_size start inside (eqb version journaling_version)

  names_disk : NamesJournal start (content disk)
  unfolding volume_of
  names_disk = mounted.journal

  remounted : IsRemounted start (content disk)
  remounted = record {
    size = size_is_start;
    header = mounted.header ∙ (λ i. record (header_of_volume start) { last_mounted_version = sym (ap (λ (h : VolumeHeader). h.last_mounted_version) mounted.header) i });
    names = names_disk;
    each = λ at other. ⊎_elim (λ same. inl (same ∙ set_else start inside (eqb version journaling_version) at other)) (λ journal. inr journal) (mounted.agrees.each at);
  }

  to_plan : (s : ℕ) → IsClosed (plan_of store) s → IsClosed plan s
  to_plan s closed =
      closed_like (plan_of store) plan (ap (λ (q : Plan). q.info.size) attached.plan_is ∙ size_is plan plan.fresh refl) (ap (λ (q : Plan). q.info.offset) attached.plan_is ∙ offset_is plan plan.fresh refl)
      (ap (λ (q : Plan). q.place.info_sector) attached.plan_is) s closed

  in_journal : (s : ℕ) → IsClosed (plan_of store) s → IsJournalSector start s
  in_journal s closed =
      subst (λ (n : ℕ). LiesIn (volume_of start).journal n s) (ap (λ (h : VolumeHeader). info_sector_of h) mounted.header)
      (subst (λ (j : JournalPlace). LiesIn j (info_sector_of (header_of_volume (content disk))) s) mounted.journal (mounted.is_ready.journal s (to_plan s closed)))

  disk_stands : (r : Content) → AgreesOutside (IsClosed (plan_of store)) (content disk) r → StandsMounted start r
  disk_stands r agrees =
      set_stands start inside (eqb version journaling_version) r
      (agrees_both (IsJournalSector start) (versioned version start) (content disk) r mounted.agrees (agrees_more (IsClosed (plan_of store)) (IsJournalSector start) (content disk) r in_journal agrees))

  header_disk : KeepsHeader (content disk) (content disk)
  header_disk = record { same = same_refl (header_of_volume (content disk)); accepted = mounted.is_ready.plan_is.place.accepted }

  none : (s : ℕ) → IsSpilled (plan_of store) disk.candidates s → ⊥
  none s spilled = omega (arith, spilled.0, few_only (content disk) s, ap (λ (c : Candidates). length (candidates_of c s)) mounted.is_ready.settled)

  disk_bytes : IsOfBytes (content disk)
  disk_bytes = record { bytes = content_bytes disk is; header = (sectors_are disk is mounted.is_ready.settled 2 (omega (arith, inside, size_is_start))).size }

  pub shows_mounted : ShowsMounted start (over a b store disk) (outside_of (plan_of store) disk)
  shows_mounted = record {
    start_bytes = bytes;
    read_bytes = subst IsOfBytes (sym shown) disk_bytes;
    mounted = subst (λ (x : Content). IsRemounted start x) (sym shown) remounted;
    stands = λ r agrees. disk_stands r (subst (λ (x : Content). AgreesOutside (IsClosed (plan_of store)) x r) shown agrees);
    durable = attached.durable ∙ sym shown;
    closed = in_journal;
    spilled = none;
    heads = record {
      header = subst (λ (x : Content). KeepsHeader x (content_over store (content disk))) (sym attached.durable) (subst (λ (x : Content). KeepsHeader (content disk) x) (sym shown) header_disk);
      version = ap (λ (x : Content). (header_of_volume x).last_mounted_version) attached.durable ∙ mounted.is_ready.version;
      apart = λ closed. mounted.is_ready.apart (to_plan 2 closed);
    };
    leaves = kept_rests a b store disk is attached.fits (keeps_on store plan disk attached is tells (content disk) mounted.is_ready);
  }

-- the plan of the store has the capacity of its own
pub capacity_held : (store : Store) (plan : Plan) → plan_of store ≡ rested plan → (capacity : ℕ) → IsCapacityOf plan capacity → IsCapacityOf (plan_of store) capacity
capacity_held store plan plan_is capacity is =
    let span : span_of plan ≡ span_of (rested plan) = λ i. record { base = sym (offset_is plan plan.fresh refl) i / 512; size = sym (size_is plan plan.fresh refl) i } in
    subst (λ (q : Plan). IsCapacityOf q capacity) (sym plan_is) (subst (λ (s : Span). IsCapacity s (form_of plan) capacity) span is)

-- the same, as it is found by another plan of the journal
pub plans_leave : (is_left : Content → Type 0) (mid new plan : Plan) (before after : State) → found mid ≡ found plan → anchor_of new ≡ anchor_of mid → MayLeave is_left (outside_of mid before) (outside_of new after) → MayLeave is_left (outside_of plan before) (outside_of plan after)
plans_leave is_left mid new plan before after same anchor may =
    subst (λ (f : Content → Content). MayLeave is_left (outside_by f before) (outside_of plan after)) same
    (subst (λ (f : Content → Content). MayLeave is_left (outside_of mid before) (outside_by f after)) (finds_by new mid anchor ∙ same) may)

pub leaves_more : (one more : Content → Type 0) (before after : Outside) → ((r : Content) → one r → more r) → MayLeave one before after → MayLeave more before after
leaves_more one more before after wide may = record {
  time = passes_with before.clock after.clock _ _ may.time (λ r told p. (wide r p.0, p.1));
  leaves = λ r left. wide r (may.leaves r left);
  told = may.told;
}

pub none_leaves : (is_left : Content → Type 0) (outside : Outside) → ((r : Content) → outside.leaves r → is_left r) → MayLeave is_left outside outside
none_leaves is_left outside now = record { time = none_passes outside.clock _; leaves = now; told = refl }

pub plans_same : (is_left : Content → Type 0) (ready plan : Plan) (before after : State) → found ready ≡ found plan → MayLeave is_left (outside_of ready before) (outside_of ready after) → MayLeave is_left (outside_of plan before) (outside_of plan after)
plans_same is_left ready plan before after same may = subst (λ (f : Content → Content). MayLeave is_left (outside_by f before) (outside_by f after)) same may

-- what an image stands for is of bytes
pub start_bytes : (plan : Plan) (disk : State) → IsDisk disk → IsTrue disk.tells → FitsPlan disk.sectors plan → recovery (content disk) ≡ Ok (replayed (journal_of plan) (content disk)) → IsOfBytes (replayed (journal_of plan) (content disk))
start_bytes plan disk is tells fits recovers = record {
  bytes = replayed_bytes (journal_of plan) (content disk) (content_bytes disk is);
  header = sector_size (content disk) (replayed (journal_of plan) (content disk)) recovers 2 (content_whole disk is 2 (omega (arith, length-content disk is tells, fits.inside, fits.least)));
}
