-- What is found by a volume header that was read.
use Rattle.std.proofs.Common.{◌≡◌, ◌<◌, ◌≤◌, ℕ, refl, sym, ◌∙◌, ap, subst, length}
use Rattle.std.specs.Prelude.{IfErr, IfOk, None, Option, Some, Result, Ok, Err, Bool, not, true, false, if◌then◌else◌}
use Rattle.sector_disk.specs.Disk.{OnlyReads, State, content}
use Rattle.volume_header.specs.Refusal.{header_refusal, is_locked, is_volume_size}
use Rattle.volume_header.specs.declared.header.VolumeHeader.{VolumeHeader}
use Rattle.volume_header.specs.declared.refusal.HeaderRefusal.{HeaderRefusal}
use Rattle.volume_header.specs.declared.refusal.HeaderRefusal.TheVariants.{LimitSectors}
use Rattle.jnl_format.specs.Recovery.{Content, header_of_volume, info_sector_of}
use Rattle.jnl_replay.specs.Finding.{FitsPlace, IsFound, RefusesVolume}
use Rattle.jnl_replay.specs.declared.plan.Place.{Place}
use Rattle.jnl_replay.specs.declared.finding.VolumeRefusal.{VolumeRefusal}
use Rattle.jnl_replay.specs.declared.finding.VolumeRefusal.TheVariants.{SoftwareLocked}
use Rattle.jnl_replay.specs.Plan.{IsPlace}
use Rattle.jnl_replay.proofs.Places.{accepted_place}
use Rattle.jnl_replay.proofs.ReadOn.{same_content}

abbrev pub Says : VolumeHeader → Place → Type 0
Says head place = place ≡ record { info_sector = info_sector_of head; last_mounted = head.last_mounted_version }

not_refused : (b : Bool) (why : HeaderRefusal) (rest : Option HeaderRefusal) → (if not b then Some why else rest) ≡ None → b ≡ true
not_refused true why rest is = refl
not_refused false why rest is = absurd (cc is)

module _ (head : VolumeHeader) (sectors : ℕ) (accepted : header_refusal head sectors ≡ None) where
  -- what the header says lies on the disk
  pub place_fits : (r : Result Place VolumeRefusal) → IfOk r (Says head) → IfOk r (FitsPlace sectors)
  place_fits (Ok place) said =
      let there = accepted_place head sectors accepted in
      record {
        size = not_refused (is_volume_size sectors) (LimitSectors sectors) _ accepted;
        sectors = there.1;
        info_sector = subst (λ n. n < sectors) (sym (ap (λ (p : Place). p.info_sector) said)) there.0;
      }
  place_fits (Err why) said = tt

  module _ (c : Content) (is : head ≡ header_of_volume c) (size : length c ≡ sectors) where
    accepted_of : header_refusal (header_of_volume c) (length c) ≡ None
    accepted_of = ap (λ n. header_refusal (header_of_volume c) n) size ∙ ap (λ (h : VolumeHeader). header_refusal h sectors) (sym is) ∙ accepted

    -- it is the content's place
    pub place_found : (r : Result Place VolumeRefusal) → IfOk r (λ _. is_locked head.attributes ≡ false) → IfOk r (Says head) → IfOk r (IsFound c)
    place_found (Ok place) unlocked said = record {
      says = record {
        accepted = accepted_of;
        info_sector = ap (λ (p : Place). p.info_sector) said ∙ ap (λ (h : VolumeHeader). info_sector_of h) is;
        last_mounted = ap (λ (p : Place). p.last_mounted) said ∙ ap (λ (h : VolumeHeader). h.last_mounted_version) is;
      };
      unlocked = ap (λ (h : VolumeHeader). is_locked h.attributes) (sym is) ∙ unlocked;
    }
    place_found (Err why) unlocked said = tt

    -- the volume is locked
    pub place_refused : (r : Result Place VolumeRefusal) → IfErr r (λ why. (why ≡ SoftwareLocked) × (is_locked head.attributes ≡ true)) → IfErr r (RefusesVolume c)
    place_refused (Ok place) locked = tt
    place_refused (Err why) locked =
        subst (λ (w : VolumeRefusal). RefusesVolume c w) (sym locked.0) (accepted_of, ap (λ (h : VolumeHeader). is_locked h.attributes) (sym is) ∙ locked.1)

-- the refusal of the content's header, which the disk's number of sectors judges
pub header_refused : (c : Content) (sectors : ℕ) (why : HeaderRefusal) → length c ≡ sectors → header_refusal (header_of_volume c) sectors ≡ Some why → header_refusal (header_of_volume c) (length c) ≡ Some why
header_refused c sectors why size refused = ap (λ n. header_refusal (header_of_volume c) n) size ∙ refused

module _ (old new : State) (reads : OnlyReads old new) (place : Place) where
  -- behind reads the disk is as large, and the place is what it was
  pub size_then : FitsPlace old.sectors place → new.sectors ≤ 2147483648
  size_then fits = subst (λ n. n ≤ 2147483648) (sym reads.same.sectors) fits.sectors

  pub info_then : FitsPlace old.sectors place → place.info_sector < new.sectors
  info_then fits = subst (λ n. place.info_sector < n) (sym reads.same.sectors) fits.info_sector

  pub place_then : IsPlace (content old) place → IsPlace (content new) place
  place_then is = subst (λ (c : Content). IsPlace c place) (sym (same_content old new reads)) is
