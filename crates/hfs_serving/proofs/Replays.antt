-- A replay as a stage of a mount: what it leaves at any moment is found to be what the image stood for.
use Rattle.std.proofs.Common.{◌≡◌, ◌⊎◌, ◌/◌, ◌*◌, ℕ, true, ◌&&◌, [], inl, inr, ⊎_elim, length, sym, ◌∙◌, ap, subst, arith, eqb, cond}
use Rattle.std.specs.Prelude.{Option, None, is_none, Ok}
use Rattle.std.proofs.lemmas.Bool.{and_from, eq-eqb}
use Rattle.volume_header.specs.Refusal.{header_refusal}
use Rattle.volume_header.specs.declared.refusal.HeaderRefusal.{HeaderRefusal}
use Rattle.sector_disk.specs.Lists.{sector}
use Rattle.sector_disk.specs.Disk.{CrashesLeave, SameSink, State, content}
use Rattle.sector_disk.specs.Space.{AgreesOutside}
use Rattle.jnl_format.specs.Info.{info_of}
use Rattle.jnl_format.specs.Keeping.{IsSame}
use Rattle.jnl_format.specs.Recovery.{Content, header_of_volume, info_sector_of, journal_in, recovery, replayed}
use Rattle.jnl_format.specs.Text.{is_same_volume}
use Rattle.jnl_format.specs.declared.structures.Info.{Info}
use Rattle.jnl_format.proofs.Recovering.{journal_parts}
use Rattle.jnl_format.proofs.Volumes.{same_as}
use Rattle.jnl_replay.specs.Homing.{StandsForSame}
use Rattle.jnl_replay.specs.Plan.{FitsPlan, IsPlan, journal_of}
use Rattle.jnl_replay.specs.declared.plan.Plan.{Plan}
use Rattle.jnl_store.specs.Spaces.{found, found_in, is_in_form, is_mountable}
use Rattle.jnl_store.proofs.SpacedTime.{same_volume_self}
use Rattle.hfs_volume.specs.Aside.{IsAside, IsJournalSector}
use Rattle.hfs_volume.specs.Content.{JournalPlace, journal_place, volume_of}
use Rattle.hfs_serving.specs.Outside.{outside_of}
use Rattle.hfs_serving.specs.Runs.{StandsAs}
use Rattle.hfs_serving.specs.Stages.{Turns}
use Rattle.hfs_serving.proofs.Agreeing.{agrees_more}
use Rattle.hfs_serving.proofs.Bridging.{lifted}
use Rattle.hfs_serving.proofs.Recoveries.{recovery_parts}

-- headers of the same volume name the same info block
same_info : (old new : Content) → IsSame (header_of_volume old) (header_of_volume new) → info_sector_of (header_of_volume new) ≡ info_sector_of (header_of_volume old)
same_info old new same =
    ap (λ n. n * ((header_of_volume new).block_size / 512)) same.info_block ∙ ap (λ n. (header_of_volume old).journal_info_block * (n / 512)) same.block_size

module _ (plan : Plan) (old : Content) (total : ℕ) (fits : FitsPlan total plan) (is : IsPlan old plan) (start : Content) (recovers : recovery old ≡ Ok start) where
  accepted : header_refusal (header_of_volume old) (length old) ≡ None
  accepted = is.place.accepted

  pub start_info : info_sector_of (header_of_volume start) ≡ plan.place.info_sector
  start_info = same_info old start ((recovery_parts old start recovers).header accepted).same ∙ sym is.place.info_sector

  -- the journal lies there where the plan has it
  pub journal_lies : (volume_of start).journal ≡ record { offset = plan.info.offset; size = plan.info.size }
  unfolding volume_of
  journal_lies =
      let r = recovery_parts old start recovers in
      let there : sector start (info_sector_of (header_of_volume start)) ≡ sector old plan.place.info_sector =
      ap (λ n. sector start n) (same_info old start (r.header accepted).same) ∙ r.info ∙ ap (λ n. sector old n) (sym is.place.info_sector) in
      let read : info_of (sector old plan.place.info_sector) ≡ plan.info = (journal_parts plan.place.info_sector old (journal_of plan) is.journal).read in
      ap journal_place there ∙ ap place_in read
    where
      place_in : Info → JournalPlace
      place_in info = record { offset = info.offset; size = info.size }

  is_journal : (at : ℕ) → (at ≡ plan.info.offset / 512) ⊎ (at ≡ plan.place.info_sector) → IsJournalSector start at
  is_journal at (inl header) =
      let offset : (volume_of start).journal.offset ≡ plan.info.offset = ap (λ (j : JournalPlace). j.offset) journal_lies in
      let size : (volume_of start).journal.size ≡ plan.info.size = ap (λ (j : JournalPlace). j.size) journal_lies in
      inl (omega (arith, header, offset), omega (arith, header, offset, size, fits.least))
  is_journal at (inr info) = inr (info ∙ sym start_info)

  module _ (image : Content) (stands : StandsForSame plan old image) (same_start : start ≡ replayed (journal_of plan) old) where
    long : length image ≡ length old
    long =
        let r = recovery_parts image stands.recovered stands.stands in
        sym r.size ∙ stands.agrees.size ∙ ap (λ (c : Content). length c) (sym same_start) ∙ (recovery_parts old start recovers).size

    mountable : is_mountable plan image stands.recovered ≡ true
    mountable =
        let accepted_image : header_refusal (header_of_volume image) (length image) ≡ None = ap (λ n. header_refusal (header_of_volume image) n) long ∙ stands.volume.accepted in
        let same : is_same_volume (header_of_volume stands.recovered) (header_of_volume image) ≡ true =
        same_as (header_of_volume image) (header_of_volume stands.recovered) (header_of_volume image) ((recovery_parts image stands.recovered stands.stands).header accepted_image).same ∙ same_volume_self (header_of_volume image) in
        let place : plan.place.info_sector ≡ info_sector_of (header_of_volume image) = is.place.info_sector ∙ sym (same_info old image stands.volume.same) in
        let s = eqb stands.journal.info.size plan.info.size in
        let b = eqb stands.journal.header.blhdr plan.header.blhdr in
        let o = eqb stands.journal.info.offset plan.info.offset in
        let form : is_in_form plan (journal_in plan.place.info_sector image) ≡ true =
        ap (is_in_form plan) stands.found
        ∙ and_from (s && b) o (and_from s b (eq-eqb stands.journal.info.size plan.info.size stands.size) (eq-eqb stands.journal.header.blhdr plan.header.blhdr stands.blhdr)) (eq-eqb stands.journal.info.offset plan.info.offset stands.offset) in
        let ok = is_none (header_refusal (header_of_volume image) (length image)) in
        let first = is_same_volume (header_of_volume stands.recovered) (header_of_volume image) in
        let second = is_in_form plan (journal_in plan.place.info_sector image) in
        and_from (ok && first && second) (eqb plan.place.info_sector (info_sector_of (header_of_volume image)))
        (and_from (ok && first) second (and_from ok first (ap (λ (o : Option HeaderRefusal). is_none o) accepted_image) same) form) (eq-eqb plan.place.info_sector (info_sector_of (header_of_volume image)) place)

    found_same : found plan image ≡ stands.recovered
    unfolding found
    found_same = ap (found_in plan image) stands.stands ∙ ap (λ t. cond t stands.recovered []) mountable

    -- what is found is what the image stood for, but in the journal
    pub found_outside : AgreesOutside (IsJournalSector start) start (found plan image)
    found_outside = subst (λ (c : Content). AgreesOutside (IsJournalSector start) start c) (sym found_same) (record {
      size = stands.agrees.size ∙ ap (λ (c : Content). length c) (sym same_start);
      each = λ at.
          ⊎_elim (λ same. inl (same ∙ ap (λ (c : Content). sector c at) (sym same_start))) (λ other. inr (is_journal at other)) (stands.agrees.each at);
    })

    pub found_as : StandsAs start (found plan image)
    found_as = agrees_more (IsJournalSector start) (IsAside start) start (found plan image) (λ s is. inr is) found_outside

pub replay_turns : (plan : Plan) (disk new : State) (total : ℕ) → FitsPlan total plan → IsPlan (content disk) plan → (start : Content) → recovery (content disk) ≡ Ok start → start ≡ replayed (journal_of plan) (content disk)
    → CrashesLeave disk new (StandsForSame plan (content disk)) → SameSink disk new → Turns start start (outside_of plan disk) (outside_of plan new)
replay_turns plan disk new total fits is start recovers same_start leaves sink =
    let as_found : (image : Content) → StandsForSame plan (content disk) image → StandsAs start (found plan image) = λ image stands. found_as plan (content disk) total fits is start recovers image stands same_start in
    record {
      may = record {
        time = lifted plan disk new _ _ leaves.time (λ image told p. (inl (as_found image p.0), p.1));
        leaves = λ recovered left. inl (subst (λ (c : Content). StandsAs start c) (sym left.2) (as_found left.0 (leaves.now left.0 left.1)));
        told = sink.told;
      };
      leaves = λ recovered left. subst (λ (c : Content). StandsAs start c) (sym left.2) (as_found left.0 (leaves.now left.0 left.1));
    }
