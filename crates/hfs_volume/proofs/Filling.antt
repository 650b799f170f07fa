-- Where only free blocks have other bytes the volume and its tree are the same: a step that fills blocks ahead of a growth changes neither.
use Rattle.std.proofs.Common.{◌≡◌, inl, inr, refl, ◌∙◌, ap, ⊎_elim}
use Rattle.sector_disk.specs.Space.{AgreesOutside}
use Rattle.jnl_format.specs.Recovery.{Content, sector, header_of_volume, info_sector_of}
use Rattle.hfs_volume.specs.Content.{volume_of, journal_place}
use Rattle.hfs_volume.specs.Sound.{IsSound}
use Rattle.hfs_volume.specs.Aside.{IsAside, IsFreeSector, NamesJournal}
use Rattle.hfs_volume.specs.Reclaim.{FillsZeros, FreeIsFilled}
use Rattle.hfs_volume.proofs.Untouched.{journal_not_free}
use Rattle.hfs_volume.proofs.Asides.{header_stays, aside_is_free}

module _ (old new : Content) (sound : IsSound old) (free : AgreesOutside (IsFreeSector old) old new) where
  agrees : AgreesOutside (IsAside old) old new
  agrees = record {
    size = free.size;
    each = λ at. ⊎_elim (λ (same : sector new at ≡ sector old at). inl same) (λ (is : IsFreeSector old at). inr (inl is)) (free.each at);
  }

  -- the sector of the journal's info block isn't free
  info_stays : sector new (info_sector_of (header_of_volume old)) ≡ sector old (info_sector_of (header_of_volume old))
  info_stays = ⊎_elim
      (λ (same : sector new (info_sector_of (header_of_volume old)) ≡ sector old (info_sector_of (header_of_volume old))). same)
      (λ (is : IsFreeSector old (info_sector_of (header_of_volume old))). absurd (journal_not_free old new sound agrees (info_sector_of (header_of_volume old)) (inr refl) is))
      (free.each (info_sector_of (header_of_volume old)))

  names : NamesJournal old new
  unfolding volume_of
  names = ap (λ h. journal_place (sector new (info_sector_of h))) (header_stays old new sound agrees) ∙ ap journal_place info_stays

  filled : FillsZeros old new
  filled =
      let same = aside_is_free old new sound agrees names in
      record { volume = same.1; others = agrees; keeps = record { sound = same.0; tree = same.2 } }

-- the law
pub free_is_filled : FreeIsFilled
free_is_filled old new sound free = filled old new sound free
