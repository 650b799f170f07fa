-- What crashes leave of a space whose disk is at rest but for what was spilled.
use Rattle.std.proofs.Common.{◌≡◌, ◌⊎◌, ℕ, true, ◌&&◌, [], inl, inr, ⊎_elim, length, refl, sym, ◌∙◌, ap, subst, eqb, cond}
use Rattle.std.specs.Prelude.{IsTrue, Ok, Option, is_none}
use Rattle.std.specs.Int.{bit_at}
use Rattle.std.proofs.lemmas.Bool.{and_parts, and_from, eq-eqb}
use Rattle.volume_header.specs.Refusal.{header_refusal}
use Rattle.volume_header.specs.declared.header.VolumeHeader.{VolumeHeader}
use Rattle.volume_header.specs.declared.refusal.HeaderRefusal.{HeaderRefusal}
use Rattle.sector_disk.specs.Clock.{Clock, TimePasses}
use Rattle.sector_disk.specs.Disk.{IsDisk, LeftNow, State, content}
use Rattle.sector_disk.specs.Lists.{Content}
use Rattle.sector_disk.specs.Space.{AgreesOutside}
use Rattle.jnl_format.specs.Recovery.{header_of_volume, homes_of, info_sector_of, journal_in, recovery, replayed, text_of, volume_of}
use Rattle.jnl_format.specs.Text.{has_same_bits, is_same_kind, is_same_layout, is_same_volume}
use Rattle.jnl_format.proofs.Alike.{good_homes, recovers, stands_for}
use Rattle.jnl_format.specs.Keeping.{KeepsHeader}
use Rattle.jnl_format.proofs.Mixing.{mixes_with_homes}
use Rattle.jnl_format.proofs.Volumes.{same_as}
use Rattle.jnl_replay.specs.Plan.{IsPlan, journal_of}
use Rattle.jnl_replay.specs.declared.plan.Plan.{Plan}
use Rattle.jnl_replay.proofs.Checks.{place_of}
use Rattle.jnl_store.specs.InUse.{IsInUse}
use Rattle.jnl_store.specs.Journal.{IsClosed, IsSpilled}
use Rattle.jnl_store.specs.Spaces.{found, found_in, is_in_form, is_mountable}
use Rattle.jnl_store.specs.Store.{durable_of, is_kept}
use Rattle.jnl_store.specs.declared.store.Store.{Store}
use Rattle.jnl_store.proofs.RingHome.{still_agrees, still_plan}
use Rattle.jnl_store.proofs.RingKept.{KeepsLists, lists_parts}
use Rattle.jnl_store.proofs.RingStages.{KeepsText, header_stays}
use Rattle.jnl_store.proofs.Settling.{kept_parts}

-- a header is of its own volume
pub same_volume_self : (h : VolumeHeader) → is_same_volume h h ≡ true
unfolding is_same_volume
same_volume_self h =
    let r : (n : ℕ) → eqb n n ≡ true = λ n. eq-eqb n n refl in
    let kind : is_same_kind h h ≡ true = and_from (eqb h.signature h.signature && eqb h.version h.version) (eqb h.last_mounted_version h.last_mounted_version) (and_from (eqb h.signature h.signature) (eqb h.version h.version) (r h.signature) (r h.version)) (r h.last_mounted_version) in
    let layout : is_same_layout h h ≡ true = and_from (eqb h.journal_info_block h.journal_info_block && eqb h.block_size h.block_size) (eqb h.total_blocks h.total_blocks) (and_from (eqb h.journal_info_block h.journal_info_block) (eqb h.block_size h.block_size) (r h.journal_info_block) (r h.block_size)) (r h.total_blocks) in
    let b = λ (n : ℕ). bit_at h.attributes n in
    let bits : has_same_bits h.attributes h.attributes ≡ true = and_from (eqb (b 12) (b 12) && eqb (b 13) (b 13)) (eqb (b 15) (b 15)) (and_from (eqb (b 12) (b 12)) (eqb (b 13) (b 13)) (r (b 12)) (r (b 13))) (r (b 15)) in
    and_from (is_same_kind h h && is_same_layout h h) (has_same_bits h.attributes h.attributes) (and_from (is_same_kind h h) (is_same_layout h h) kind layout) bits

-- a content with the plan's journal is found as what it stands for
pub found_live : (plan : Plan) (image : Content) → IsPlan image plan → found plan image ≡ replayed (journal_of plan) image
unfolding found
found_live plan image is =
    let head = header_of_volume image in
    let r = replayed (journal_of plan) image in
    let text = text_of (journal_of plan) image in
    let homes = homes_of (journal_of plan) image in
    let keeps : KeepsHeader image r =
    header_stays (volume_of plan.place.info_sector (journal_of plan) image) text homes image r refl refl (good_homes plan.place.info_sector plan.place.last_mounted (journal_of plan) image is.text) is.place.accepted ((mixes_with_homes text homes image).each 2) in
    let same : is_same_volume (header_of_volume r) head ≡ true = same_as head (header_of_volume r) head keeps.same ∙ same_volume_self head in
    let size = eqb plan.info.size plan.info.size in
    let blhdr = eqb plan.header.blhdr plan.header.blhdr in
    let offset = eqb plan.info.offset plan.info.offset in
    let form : is_in_form plan (journal_in plan.place.info_sector image) ≡ true =
    ap (is_in_form plan) is.journal
    ∙ and_from (size && blhdr) offset (and_from size blhdr (eq-eqb plan.info.size plan.info.size refl) (eq-eqb plan.header.blhdr plan.header.blhdr refl)) (eq-eqb plan.info.offset plan.info.offset refl) in
    let accepted : is_none (header_refusal head (length image)) ≡ true = ap (λ (o : Option HeaderRefusal). is_none o) is.place.accepted in
    let volume = is_none (header_refusal head (length image)) && is_same_volume (header_of_volume r) head in
    let found_form = is_in_form plan (journal_in plan.place.info_sector image) in
    let at = eqb plan.place.info_sector (info_sector_of head) in
    let mounts : is_mountable plan image r ≡ true =
    and_from (volume && found_form) at
    (and_from volume found_form (and_from (is_none (header_refusal head (length image))) (is_same_volume (header_of_volume r) head) accepted same) form)
    (eq-eqb plan.place.info_sector (info_sector_of head) is.place.info_sector) in
    let recovers_so : recovery image ≡ Ok r = recovers plan.place.info_sector plan.place.last_mounted image (place_of image plan.place is.place) ∙ stands_for plan.place.info_sector plan.place.last_mounted (journal_of plan) image is.journal is.text in
    ap (found_in plan image) recovers_so ∙ ap (λ b. cond b r []) mounts

-- the clock of a space over a disk with this clock
abbrev pub mounted : Plan → Clock → Clock
mounted plan clock = record { moment = clock.moment; left = λ t recovered told. (image : Content) × clock.left t image told × (recovered ≡ found plan image) }

-- what crashes leave, as a mount finds it: the durable content, but in what was spilled and in the journal
pub mounts_durable : (plan : Plan) (old new : State) (durable : Content) → IsInUse plan → IsDisk new → KeepsText plan new → durable ≡ replayed (journal_of plan) (content new) → TimePasses old.clock new.clock (LeftNow new)
    → TimePasses (mounted plan old.clock) (mounted plan new.clock) (λ recovered told. AgreesOutside (λ s. IsSpilled plan new.candidates s ⊎ IsClosed plan s) durable recovered × (told ≡ new.told))
mounts_durable plan old new durable rest disk k is time = record {
  later = time.later;
  keeps = λ t recovered told le left. (left.0, time.keeps t left.0 told le left.1, left.2);
  nothing_else = λ t recovered told le left.
      ⊎_elim (λ before. inl (left.0, before, left.2))
      (λ now.
      let found_is : recovered ≡ replayed (journal_of plan) left.0 = left.2 ∙ found_live plan left.0 (still_plan plan rest new disk k left.0 now.0) in
      let A : Content → Content → Type 0 = AgreesOutside (λ s. IsSpilled plan new.candidates s ⊎ IsClosed plan s) in
      inr (subst (A durable) (sym found_is) (subst (λ (d : Content). A d (replayed (journal_of plan) left.0)) (sym is) (still_agrees plan rest new disk k left.0 now.0)), now.1))
      (time.nothing_else t left.0 told le left.1);
}

-- what a space that tells keeps
pub tells_parts : (store : Store) (disk : State) → IsTrue (disk.tells && is_kept store disk.sectors disk.candidates) → IsTrue disk.tells × KeepsLists store.plan store.batch.live disk
tells_parts store disk tells =
    let p = and_parts disk.tells (is_kept store disk.sectors disk.candidates) tells in
    (p.0, lists_parts store.plan store.batch.live disk (kept_parts store disk.sectors disk.candidates p.1).0)

-- the durable content has as many sectors as the disk
pub durable_is : (store : Store) (c : Content) → durable_of store c ≡ replayed (journal_of store.plan) c
unfolding durable_of
durable_is store c = refl
