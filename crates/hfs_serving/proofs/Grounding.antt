-- What a store that keeps what it has to keep leaves to a crash, and what a commit of it does.
use Rattle.std.proofs.Common.{◌≡◌, ◌≢◌, ◌≤◌, ◌/◌, ◌*◌, ◌^◌, ℕ, List, [], inl, ⊎_elim, length, refl, sym, ◌∙◌, ap, subst, arith}
use Rattle.std.specs.Prelude.{IsTrue, IsErrOf, OnOk, Result, Ok, Err, Bool, true, false, ◌&&◌}
use Rattle.std.proofs.lemmas.Bool.{and_from, and_parts, cases_eq}
use Rattle.sector_disk.specs.Disk.{Candidates, CrashesLeave, IsDisk, IsImage, SameDisk, SameSink, State, Untouched, content}
use Rattle.sector_disk.specs.Lists.{sector}
use Rattle.sector_disk.specs.Space.{AgreesOutside, Space}
use Rattle.volume_header.specs.Header.{header_of}
use Rattle.volume_header.specs.Refusal.{header_refusal}
use Rattle.volume_header.specs.declared.header.VolumeHeader.{VolumeHeader}
use Rattle.jnl_format.specs.Keeping.{IsSame, KeepsHeader}
use Rattle.jnl_format.specs.Recovery.{Content, header_of_volume, info_sector_of}
use Rattle.jnl_format.specs.declared.structures.Info.{Info}
use Rattle.jnl_replay.specs.Plan.{FitsPlan}
use Rattle.jnl_store.specs.Spaces.{found, over}
use Rattle.jnl_store.specs.SpaceLaws.{length-durable, length-overlay}
use Rattle.jnl_store.specs.Standing.{MakesDurable, StandsForEither}
use Rattle.jnl_store.specs.Store.{Keeps, KeepsOn, KeepsRingOn, SameJournal, content_over, durable_of, faults_of, is_kept, plan_of, puts_of, room_of}
use Rattle.jnl_store.specs.declared.store.Store.{Store}
use Rattle.jnl_store.specs.declared.store.StoreFault.{StoreFault}
use Rattle.jnl_store.specs.declared.store.StoreFault.TheVariants as fault
use Rattle.sector_disk.specs.Cause.{next_count}
use Rattle.jnl_store.proofs.Journals.{HoldsJournal}
use Rattle.jnl_store.proofs.Settling.{image_between, lists_of}
use Rattle.jnl_ring.specs.declared.span.Span.{Span}
use Rattle.jnl_store.specs.Lists.{IsCapacity}
use Rattle.jnl_store.specs.Plan.{form_of, span_of, IsCapacityOf}
use Rattle.jnl_store.specs.declared.form.ListForm.{ListForm}
use Rattle.hfs_volume.specs.Content.{JournalPlace, journal_place}
use Rattle.hfs_serving.specs.Grounds.{IsInService, KeepsHeading, RigAnchor, ShowsJournal, anchor_of, rig_of}
use Rattle.hfs_serving.specs.Outside.{Outside, outside_of}
use Rattle.hfs_serving.specs.Serving.{Commits, IsAsDurable, MayCommit, Touches, TouchesSpace}
use Rattle.hfs_serving.proofs.Bridging.{commit_seen, found_same}
use Rattle.hfs_serving.proofs.Committing.{commits_seen, leaves_seen}
use Rattle.jnl_replay.specs.declared.plan.Plan.{Plan}
use Rattle.jnl_store.specs.Following.{SpaceFollows}
use Rattle.hfs_serving.proofs.Recoveries.{recovery_parts}
use Rattle.hfs_serving.proofs.Touching.{touches_seen}
use Rattle.jnl_ring.proofs.Bytes.{content_whole}
use Rattle.jnl_store.proofs.Images.{closed_info}
use Rattle.jnl_store.proofs.RingHome.{own_stands}
use Rattle.jnl_store.proofs.Slots.{own_over}

-- a plan that fits a disk has no more than 2 ^ 40 bytes of journal
small_plan : (store : Store) (sectors : ℕ) → FitsPlan sectors (plan_of store) → (plan_of store).info.size ≤ 2 ^ 40
small_plan store sectors fits = omega (arith, fits.sectors, fits.inside)

module _ (a b : ℕ) (store : Store) (disk : State) (is : IsDisk disk) (fits : FitsPlan disk.sectors (plan_of store)) (keeps : KeepsOn store disk) where
  holds : HoldsJournal (plan_of store) (content disk)
  holds = (lists_of store disk (keeps.0, keeps.1.ring)).text.journal.holds

  durable_size : length (durable_of store (content disk)) ≡ length (content disk)
  durable_size = length-durable store (content disk)

  over_size : length (content_over store (content disk)) ≡ length (content disk)
  over_size = length-overlay (puts_of store) (durable_of store (content disk)) ∙ durable_size

  pub kept_rests : (recovered : Content) → (outside_of (plan_of store) disk).leaves recovered → IsAsDurable (over a b store disk) recovered
  kept_rests = leaves_seen a b store disk (small_plan store disk.sectors fits) holds durable_size (λ image there. image_between store disk.sectors disk.candidates image keeps.1.ring is.whole is.each there)

  -- a commit, whatever ended it
  pub commit_may : (after : State) → CrashesLeave disk after (StandsForEither store disk) → SameSink disk after → MayCommit (over a b store disk) (outside_of (plan_of store) disk) (outside_of (plan_of store) after)
  commit_may after crash sink = commit_seen a b store disk after (small_plan store disk.sectors fits) holds durable_size over_size crash sink

  pub commit_done : (new : Store) (after : State) → CrashesLeave disk after (StandsForEither store disk) → SameSink disk after → MakesDurable store new disk after (content_over store (content disk)) → puts_of new ≡ [] → SameJournal store new
      → Commits (over a b store disk) (outside_of (plan_of store) disk) (over a b new after) (outside_of (plan_of store) after)
  commit_done new after crash sink makes nothing journal = commits_seen a b store new disk after (small_plan store disk.sectors fits) holds durable_size over_size crash sink makes nothing journal

-- ---- a commit, seen from outside the store that it leaves

-- a rig, of which a mount finds what this makes of an image
abbrev pub outside_by : (Content → Content) → State → Outside
outside_by finds rig = record {
  clock = record { moment = rig.clock.moment; left = λ t recovered told. (image : Content) × rig.clock.left t image told × (recovered ≡ finds image) };
  told = rig.told;
  leaves = λ recovered. (image : Content) × IsImage rig.candidates image × (recovered ≡ finds image);
}

finds_same : (old new : Store) → SameJournal old new → found (plan_of old) ≡ found (plan_of new)
finds_same old new journal = λ i. λ image. sym (found_same old new image journal) i

pub may_seen : (old new : Store) (space : Space) (before : Outside) (after : State) → SameJournal old new → MayCommit space before (outside_of (plan_of old) after) → MayCommit space before (outside_of (plan_of new) after)
may_seen old new space before after journal may = subst (λ (f : Content → Content). MayCommit space before (outside_by f after)) (finds_same old new journal) may

pub done_seen : (old new : Store) (space : Space) (before : Outside) (next : Space) (after : State) → SameJournal old new → Commits space before next (outside_of (plan_of old) after) → Commits space before next (outside_of (plan_of new) after)
done_seen old new space before next after journal done = subst (λ (f : Content → Content). Commits space before next (outside_by f after)) (finds_same old new journal) done

-- nothing happened
pub untouched_may : (store : Store) (space : Space) (disk after : State) → Untouched disk after → ((recovered : Content) → (outside_of (plan_of store) disk).leaves recovered → IsAsDurable space recovered) → MayCommit space (outside_of (plan_of store) disk) (outside_of (plan_of store) after)
untouched_may store space disk after nothing rests = record {
  time = record {
    later = omega (arith, nothing.moment);
    keeps = λ t recovered told le left. (left.0, (nothing.left t left.0 told).1 left.1, left.2);
    nothing_else = λ t recovered told le left. inl (left.0, (nothing.left t left.0 told).0 left.1, left.2);
  };
  leaves = λ recovered left. inl (rests recovered (left.0, subst (λ (d : Candidates). IsImage d left.0) nothing.candidates left.1, left.2));
  told = nothing.sink.told;
}

same_header : (head : VolumeHeader) → IsSame head head
same_header head = record {
  signature = refl;
  version = refl;
  last_mounted = refl;
  info_block = refl;
  block_size = refl;
  total_blocks = refl;
  bit_12 = refl;
  bit_13 = refl;
  bit_15 = refl;
}

-- the header after it is the one that was put
pub heads_on : (old : Space) (before : Outside) (new : Space) (after : Outside) → length old.content ≡ length old.durable → KeepsHeading old → Commits old before new after → KeepsHeading new
heads_on old before new after size_content heads commits =
    let durable : header_of_volume new.durable ≡ header_of_volume old.content = head_same old.content new.durable (open_sector commits.durable) in
    let content : header_of_volume new.content ≡ header_of_volume old.content = head_same old.content new.content (open_sector commits.content) in
    let same : header_of_volume new.durable ≡ header_of_volume new.content = durable ∙ sym content in
    let size : length new.durable ≡ length old.durable = commits.durable.size ∙ size_content in
    record {
      header = record {
        same = subst (λ (h : VolumeHeader). IsSame (header_of_volume new.durable) h) same (same_header (header_of_volume new.durable));
        accepted = ap (λ (n : ℕ). header_refusal (header_of_volume new.content) n) size ∙ ap (λ (h : VolumeHeader). header_refusal h (length old.durable)) content ∙ heads.header.accepted;
      };
      version = ap (λ (h : VolumeHeader). h.last_mounted_version) durable ∙ heads.header.same.last_mounted ∙ heads.version;
      apart = λ closed. heads.apart ((commits.closed 2).0 closed);
    }
  where
    open_sector : {a b : Content} → AgreesOutside old.closed a b → sector b 2 ≡ sector a 2
    open_sector agrees = ⊎_elim (λ same. same) (λ closed. absurd (heads.apart closed)) (agrees.each 2)

    head_same : (a b : Content) → sector b 2 ≡ sector a 2 → header_of_volume b ≡ header_of_volume a
    head_same a b same = ap header_of same

-- what a commit leaves is in service
pub serves_after : (store new : Store) (disk after : State) (capacity : ℕ) → IsInService store disk capacity → room_of new ≡ room_of store → SameJournal store new → FitsPlan after.sectors (plan_of new) → (IsTrue after.tells → KeepsOn new after) → IsInService new after capacity
serves_after store new disk after capacity serves room journal fits keeps =
    let span : span_of (plan_of store) ≡ span_of (plan_of new) = λ i. record { base = (sym journal.info i).offset / 512; size = (sym journal.info i).size } in
    let form : form_of (plan_of store) ≡ form_of (plan_of new) = λ i. record { order = sym journal.order i; blhdr = sym journal.blhdr i } in
    record { fits = fits; holds = subst (λ (f : ListForm). IsCapacity (span_of (plan_of new)) f capacity) form (subst (λ (s : Span). IsCapacity s (form_of (plan_of store)) capacity) span serves.holds); room = omega (arith, room, serves.room); keeps = keeps }

-- ---- what a commit needs, and what it gives

-- a store that keeps what it has to keep tells its space
pub keeps_tells : (a b : ℕ) (store : Store) (disk : State) → KeepsOn store disk → IsTrue (over a b store disk).tells
keeps_tells a b store disk keeps = and_from disk.tells (is_kept store disk.sectors disk.candidates) keeps.0 keeps.1.ring.kept

pub told_disk : (a b : ℕ) (store : Store) (disk : State) → IsTrue (over a b store disk).tells → IsTrue disk.tells
told_disk a b store disk tells = (and_parts disk.tells (is_kept store disk.sectors disk.candidates) tells).0

same_and : (x y p q : Bool) → x ≡ y → (IsTrue x → IsTrue (x && p)) → (IsTrue y → IsTrue (y && q)) → (x && p) ≡ (y && q)
same_and true true p q same first second = first refl ∙ sym (second refl)
same_and false false p q same first second = refl
same_and true false p q same first second = absurd (cc same)
same_and false true p q same first second = absurd (cc same)

-- where both keep what they have to keep, both tell their space, or neither
pub tells_still : (a b : ℕ) (store new : Store) (disk after : State) → after.tells ≡ disk.tells → (IsTrue disk.tells → KeepsOn store disk) → (IsTrue after.tells → KeepsOn new after) → (over a b new after).tells ≡ (over a b store disk).tells
tells_still a b store new disk after same keeps keeps_new =
    same_and after.tells disk.tells (is_kept new after.sectors after.candidates) (is_kept store disk.sectors disk.candidates) same (λ tells. keeps_tells a b new after (keeps_new tells)) (λ tells. keeps_tells a b store disk (keeps tells))

-- what a commit leaves is kept, as long as no call answered a disk fault
pub kept_after : {A : Type 0} (r : Result A StoreFault) (store new : Store) (disk after : State) → after.tells ≡ disk.tells → (faults_of store ≡ 0 → IsTrue disk.tells → OnOk r (MakesDurable store new disk after (content_over store (content disk))))
    → (faults_of store ≢ 0 → new ≡ store) → (faults_of store ≡ 0 → (n : ℕ) → r ≢ Err (fault.Failed n)) → (IsErrOf r fault.Disk → faults_of new ≡ next_count (faults_of store)) → faults_of new ≡ 0 → IsTrue after.tells → Keeps new after.sectors after.candidates
kept_after (Ok x) store new disk after same done failed not_failed counted none tells =
    ⊎_elim (λ was. (done was (subst (λ t. IsTrue t) same tells)).keeps.1) (λ other. absurd (other (sym (ap faults_of (failed other)) ∙ none))) (cases_eq (faults_of store) 0)
kept_after (Err fault.Disk) store new disk after same done failed not_failed counted none tells =
    ⊎_elim (λ was. let one : faults_of new ≡ 1 = counted refl ∙ ap next_count was in absurd (cc (one, none))) (λ other. absurd (other (sym (ap faults_of (failed other)) ∙ none))) (cases_eq (faults_of store) 0)
kept_after (Err (fault.Failed n)) store new disk after same done failed not_failed counted none tells =
    ⊎_elim (λ was. absurd (not_failed was n refl)) (λ other. absurd (other (sym (ap faults_of (failed other)) ∙ none))) (cases_eq (faults_of store) 0)

pub sizes_over : (a b : ℕ) (store : Store) (disk : State) → length (over a b store disk).content ≡ length (over a b store disk).durable
sizes_over a b store disk = length-overlay (puts_of store) (durable_of store (content disk))

-- whatever ended it
pub commit_leaves : (a b : ℕ) (store new : Store) (disk after : State) (capacity : ℕ) → IsDisk disk → IsInService store disk capacity → IsTrue (over a b store disk).tells
    → (faults_of store ≡ 0 → IsTrue disk.tells → CrashesLeave disk after (StandsForEither store disk)) → (faults_of store ≢ 0 → (new ≡ store) × Untouched disk after) → SameSink disk after → SameJournal store new
    → MayCommit (over a b store disk) (outside_of (plan_of store) disk) (outside_of (plan_of new) after)
commit_leaves a b store new disk after capacity is serves tells crash failed sink journal =
    let keeps = serves.keeps (told_disk a b store disk tells) in
    may_seen store new (over a b store disk) (outside_of (plan_of store) disk) after journal
    (⊎_elim (λ none. commit_may a b store disk is serves.fits keeps after (crash none keeps.0) sink)
    (λ some. untouched_may store (over a b store disk) disk after (failed some).1 (kept_rests a b store disk is serves.fits keeps)) (cases_eq (faults_of store) 0))

-- where it answered Ok
pub commit_makes : (a b : ℕ) (store new : Store) (disk after : State) (capacity : ℕ) → IsDisk disk → IsInService store disk capacity → IsTrue (over a b store disk).tells → CrashesLeave disk after (StandsForEither store disk) → SameSink disk after
    → MakesDurable store new disk after (content_over store (content disk)) → puts_of new ≡ [] → SameJournal store new → Commits (over a b store disk) (outside_of (plan_of store) disk) (over a b new after) (outside_of (plan_of new) after)
commit_makes a b store new disk after capacity is serves tells crash sink makes nothing journal =
    let keeps = serves.keeps (told_disk a b store disk tells) in
    done_seen store new (over a b store disk) (outside_of (plan_of store) disk) (over a b new after) after journal (commit_done a b store disk is serves.fits keeps new after crash sink makes nothing journal)

-- ---- a ground

-- calls of a space leave the store in service
pub serves_still : (store : Store) (disk : State) (after : Store) (now : State) (capacity : ℕ) → SpaceFollows store disk after now → IsInService store disk capacity → IsInService after now capacity
serves_still store disk after now capacity follows serves = record {
  fits = subst (λ (n : ℕ). FitsPlan n (plan_of after)) (sym follows.same.sectors) (subst (λ (p : Plan). FitsPlan disk.sectors p) (sym follows.plan) serves.fits);
  holds = subst (λ (p : Plan). IsCapacityOf p capacity) (sym follows.plan) serves.holds;
  room = omega (arith, follows.room, serves.room);
  keeps = λ tells. follows.keeps (serves.keeps (subst (λ t. IsTrue t) follows.same.tells tells));
}

-- a crash leaves what is durable
pub rests_on_disk : (a b : ℕ) (store : Store) (disk : State) (capacity : ℕ) → IsDisk disk → IsInService store disk capacity → IsTrue (over a b store disk).tells → (recovered : Content) → (outside_of (plan_of store) disk).leaves recovered → IsAsDurable (over a b store disk) recovered
rests_on_disk a b store disk capacity is serves tells recovered left = kept_rests a b store disk is serves.fits (serves.keeps (and_parts disk.tells (is_kept store disk.sectors disk.candidates) tells).0) recovered left

-- what calls of a space did is seen from outside
pub seen_outside : (committed : Content) (a b c d : ℕ) (store after : Store) (disk now : State) (capacity : ℕ) → IsDisk now → SpaceFollows store disk after now → IsInService store disk capacity → IsTrue (over a b store disk).tells
    → TouchesSpace committed (over a b store disk) (over c d after now) → Touches committed (over a b store disk) (outside_of (plan_of store) disk) (over c d after now) (outside_of (plan_of after) now)
seen_outside committed a b c d store after disk now capacity is follows serves tells touches =
    let still = serves_still store disk after now capacity follows serves in
    let keeps = follows.keeps (serves.keeps (and_parts disk.tells (is_kept store disk.sectors disk.candidates) tells).0) in
    touches_seen committed a b c d store after disk now touches (λ recovered left. kept_rests c d after now is still.fits keeps recovered left)

-- the same of a journal is looked at by a mount
pub same_anchor : (old new : Store) → SameJournal old new → anchor_of (plan_of new) ≡ anchor_of (plan_of old)
same_anchor old new journal = λ i. record { place = journal.place i; info = journal.info i; blhdr = journal.blhdr i }

-- reads of the journal's own sectors give what the disk has there
module _ (a b : ℕ) (store : Store) (disk : State) (capacity : ℕ) (is : IsDisk disk) (serves : IsInService store disk capacity) (tells : IsTrue (over a b store disk).tells) where
  kept_on : KeepsOn store disk
  kept_on = serves.keeps (told_disk a b store disk tells)

  ring_on : KeepsRingOn store disk
  ring_on = (kept_on.0, kept_on.1.ring)

  own_holds : HoldsJournal (plan_of store) (content disk)
  own_holds = (lists_of store disk ring_on).text.journal.holds

  -- the header of what is durable is one of the same volume as the disk's
  durable_header : KeepsHeader (content disk) (durable_of store (content disk))
  unfolding durable_of
  durable_header = (recovery_parts (content disk) (durable_of store (content disk)) (own_stands store.plan store.rest disk is (lists_of store disk ring_on).text).stands).header own_holds.place.accepted

  pub shows_journal : KeepsHeading (over a b store disk) → ShowsJournal (anchor_of (plan_of store)) (over a b store disk)
  shows_journal heads =
      let read = content_over store (content disk) in
      let at = (plan_of store).place.info_sector in
      let one = durable_header.same in
      let two = heads.header.same in
      let where_it_is : info_sector_of (header_of_volume read) ≡ at =
      ap (λ n. n * ((header_of_volume read).block_size / 512)) (two.info_block ∙ one.info_block)
      ∙ ap (λ n. (header_of_volume (content disk)).journal_info_block * (n / 512)) (two.block_size ∙ one.block_size) ∙ sym own_holds.place.info_sector in
      record {
        whole = λ s closed inside. ap (λ (l : List ℕ). length l) (own_over store disk ring_on is s closed) ∙ content_whole disk is s (omega (arith, inside, length-overlay (puts_of store) (durable_of store (content disk)), length-durable store (content disk)));
        names = ap (λ n. journal_place (sector read n)) where_it_is ∙ ap journal_place (own_over store disk ring_on is at (closed_info (plan_of store) at refl)) ∙ ap place_in own_holds.info;
      }
    where
      place_in : Info → JournalPlace
      place_in info = record { offset = info.offset; size = info.size }

-- and of a rig
pub same_rig : {old new : State} → SameDisk old new → rig_of new ≡ rig_of old
same_rig same = λ i. record { tells = same.tells i; tells_left = same.tells_left i; names = same.names i; sectors = same.sectors i }

pub same_disk : {old new : State} → rig_of new ≡ rig_of old → SameDisk old new
same_disk same = record { tells = ap (λ (r : RigAnchor). r.tells) same; tells_left = ap (λ (r : RigAnchor). r.tells_left) same; names = ap (λ (r : RigAnchor). r.names) same; sectors = ap (λ (r : RigAnchor). r.sectors) same }

pub disks_both : {old mid new : State} → SameDisk old mid → SameDisk mid new → SameDisk old new
disks_both first second = record { tells = second.tells ∙ first.tells; tells_left = second.tells_left ∙ first.tells_left; names = second.names ∙ first.names; sectors = second.sectors ∙ first.sectors }
