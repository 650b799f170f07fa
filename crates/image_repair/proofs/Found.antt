-- What a mount finds of an image that was left on the way of a repair.
use Rattle.std.proofs.Common.{◌≡◌, ◌⊎◌, ◌<◌, ◌≤◌, ◌*◌, ◌/◌, ℕ, false, length, inl, inr, ⊎_elim, refl, sym, ◌∙◌, ap, subst, arith}
use Rattle.sector_disk.specs.Space.{AgreesOutside}
use Rattle.volume_header.specs.Header.{FitsHeader, header_bytes, header_of}
use Rattle.volume_header.specs.Refusal.{is_locked}
use Rattle.volume_header.specs.declared.header.VolumeHeader.{VolumeHeader}
use Rattle.jnl_format.specs.Info.{IsInfo, info_of}
use Rattle.jnl_format.specs.Recovery.{Content, header_of_volume, info_sector_of, replayed, sector}
use Rattle.jnl_format.specs.declared.structures.Info.{Info}
use Rattle.jnl_format.proofs.InfoBack.{no_info_block}
use Rattle.jnl_format.proofs.Recovering.{apart_sector, journal_parts}
use Rattle.jnl_replay.specs.Plan.{FitsPlan, journal_of}
use Rattle.jnl_replay.specs.declared.plan.Plan.{Plan}
use Rattle.jnl_store.specs.Spaces.{found}
use Rattle.jnl_store.proofs.One.{length-one, one_here}
use Rattle.hfs_volume.specs.Aside.{AsideIsFree, IsAside, IsJournalSector}
use Rattle.hfs_volume.specs.Content.{JournalPlace, volume_of}
use Rattle.hfs_volume.specs.Sound.{IsSound}
use Rattle.volume_repair.specs.RepairLaws.{RepairKeepsSize}
use Rattle.hfs_serving.specs.Opening.{MayServe, Opens}
use Rattle.hfs_serving.specs.Readying.{StandsMounted, version_sector, with_version_set}
use Rattle.hfs_serving.specs.Refusing.{IsOpened}
use Rattle.hfs_serving.specs.Runs.{version_header}
use Rattle.hfs_serving.proofs.Agreeing.{agrees_more}
use Rattle.hfs_serving.proofs.Bridging.{found_names, found_opens}
use Rattle.hfs_serving.proofs.Capacities.{holds_at_most}
use Rattle.hfs_serving.proofs.Recoveries.{recovery_parts}
use Rattle.hfs_serving.proofs.Replays.{journal_lies, start_info}
use Rattle.hfs_serving.proofs.Served.{may_serve}
use Rattle.hfs_serving.proofs.VersionBytes.{version_spells}
use Rattle.hfs_serving.proofs.Versions.{LiesIn}
use Rattle.image_repair.specs.Mending.{FindsEither, FindsRepair, IsOfBytes, StandsEither, StandsRepaired}

-- a header is that of the sector
head_is : (content : Content) → (volume_of content).head ≡ header_of_volume content
unfolding volume_of
head_is content = refl

module _ (read_back : (head : VolumeHeader) → FitsHeader head → header_of (header_bytes head) ≡ head) (keeps_size : RepairKeepsSize) (free : AsideIsFree) (old : Content) (plan : Plan) (total : ℕ) (fits : FitsPlan total plan) (whole : length old ≡ total) (opened : IsOpened old plan)
    (bytes : IsOfBytes (replayed (journal_of plan) old)) where
  abbrev start : Content
  start = replayed (journal_of plan) old

  long : length start ≡ length old
  long = (recovery_parts old start opened.opens.0.recovers).size

  two_inside : 2 < length start
  two_inside = omega (arith, long, whole, fits.inside, fits.least)

  -- the header isn't the journal's
  not_two : IsJournalSector start 2 → ⊥
  not_two two =
      let parts = journal_parts plan.place.info_sector old (journal_of plan) opened.plan_is.journal in
      let lies = journal_lies plan old total fits opened.plan_is start opened.opens.0.recovers in
      let offset : (volume_of start).journal.offset ≡ plan.info.offset = ap (λ (j : JournalPlace). j.offset) lies in
      let size : (volume_of start).journal.size ≡ plan.info.size = ap (λ (j : JournalPlace). j.size) lies in
      elim two [
        | inl range ↦ elim (apart_sector (length old * 512) plan.place.info_sector plan.info 2 parts.info parts.info.no_header) [
          | inl below ↦ omega (arith, range.0, offset, below)
          | inr above ↦ omega (arith, range.1, offset, size, above, parts.info.offset_whole, parts.info.size_whole)
        ]
        | inr info ↦
            no_info_block (sector old 2) (length old) plan.place.info_sector opened.plan_is.place.accepted
            (subst (λ (i : Info). IsInfo (length old * 512) plan.place.info_sector i) (sym (ap (λ k. info_of (sector old k)) (info ∙ start_info plan old total fits opened.plan_is start opened.opens.0.recovers) ∙ parts.read)) parts.info)
      ]

  may : MayServe plan opened.capacity start
  may = may_serve old plan total fits opened opened.capacity opened.holds

  locked_start : is_locked (header_of_volume start).attributes ≡ false
  locked_start = ap (λ (h : VolumeHeader). is_locked h.attributes) (sym (head_is start)) ∙ may.unlocked

  -- the header of what agrees but in the journal
  head_outside : (a b : Content) → AgreesOutside (IsJournalSector start) a b → header_of_volume b ≡ header_of_volume a
  head_outside a b agrees = ap header_of (⊎_elim (λ same. same) (λ journal. absurd (not_two journal)) (agrees.each 2))

  head_set : header_of_volume (with_version_set start) ≡ version_header (header_of_volume start)
  head_set = ap header_of (one_here start 2 (version_sector (sector start 2)) two_inside) ∙ version_spells read_back (sector start 2) (bytes.bytes 2) bytes.header

  opens : (image : Content) → 0 < length (found plan image) → is_locked (header_of_volume (found plan image)).attributes ≡ false → Opens image opened.capacity (found plan image)
  opens image some unlocked =
      found_opens plan image (found plan image) refl some opened.capacity unlocked (λ journal sizes. holds_at_most plan journal opened.capacity sizes (subst (λ (n : ℕ). 512 ≤ n) (sym sizes.blhdr) may.blhdr) may.holds) may.large

  mounted_some : (r : Content) → StandsMounted start r → 0 < length r
  mounted_some r (inl agrees) = omega (arith, agrees.size, two_inside)
  mounted_some r (inr agrees) = omega (arith, agrees.size, length-one start 2 (version_sector (sector start 2)) two_inside, two_inside)

  mounted_unlocked : (r : Content) → StandsMounted start r → is_locked (header_of_volume r).attributes ≡ false
  mounted_unlocked r (inl agrees) = ap (λ (h : VolumeHeader). is_locked h.attributes) (head_outside start r agrees) ∙ locked_start
  mounted_unlocked r (inr agrees) = ap (λ (h : VolumeHeader). is_locked h.attributes) (head_outside (with_version_set start) r agrees ∙ head_set) ∙ locked_start

  repaired_some : (r : Content) → StandsRepaired start r → 0 < length r
  repaired_some r stands = omega (arith, stands.agrees.size, keeps_size stands.now stands.mended stands.repair, stands.mounted.size, two_inside)

  repaired_unlocked : (r : Content) → StandsRepaired start r → is_locked (header_of_volume r).attributes ≡ false
  repaired_unlocked r stands =
      ap (λ (h : VolumeHeader). is_locked h.attributes) (head_outside stands.mended r stands.agrees) ∙ ap (λ (h : VolumeHeader). is_locked h.attributes) stands.header
      ∙ ap (λ (h : VolumeHeader). is_locked h.attributes) stands.mounted.header ∙ locked_start

  either_opens : (image : Content) → StandsEither start (found plan image) → Opens image opened.capacity (found plan image)
  either_opens image (inl mounted) = opens image (mounted_some (found plan image) mounted) (mounted_unlocked (found plan image) mounted)
  either_opens image (inr repaired) = opens image (repaired_some (found plan image) repaired) (repaired_unlocked (found plan image) repaired)

  -- What a mount finds.
  pub finds_either : (image : Content) → StandsEither start (found plan image) → FindsEither opened.capacity start image
  finds_either image stands = record { found = found plan image; opens = either_opens image stands; stands = stands }

  info_mended : (r : Content) (stands : StandsRepaired start r) → info_sector_of (header_of_volume stands.mended) ≡ info_sector_of (header_of_volume start)
  info_mended r stands = ap (λ (h : VolumeHeader). info_sector_of h) stands.header ∙ ap (λ (h : VolumeHeader). info_sector_of h) stands.mounted.header

  in_mended : (r : Content) (stands : StandsRepaired start r) (at : ℕ) → IsJournalSector start at → IsJournalSector stands.mended at
  in_mended r stands at journal =
      subst (λ (n : ℕ). LiesIn (volume_of stands.mended).journal n at) (sym (info_mended r stands)) (subst (λ (j : JournalPlace). LiesIn j (info_sector_of (header_of_volume start)) at) (sym stands.journal) journal)

  found_sound : (image : Content) → StandsRepaired start (found plan image) → IsSound (found plan image)
  found_sound image stands =
      let r = found plan image in
      let lies = stands.journal ∙ journal_lies plan old total fits opened.plan_is start opened.opens.0.recovers in
      (free stands.mended r stands.sound (agrees_more (IsJournalSector start) (IsAside stands.mended) stands.mended r (λ s journal. inr (in_mended r stands s journal)) stands.agrees)
      (found_names plan image r refl (repaired_some r stands) stands.mended lies)).0

  pub finds_repair : (image : Content) → StandsRepaired start (found plan image) → FindsRepair opened.capacity start image
  finds_repair image stands = record { found = found plan image; opens = either_opens image (inr stands); stands = stands; sound = found_sound image stands }
