-- What of a repair serves after a remount.
use Rattle.std.proofs.Common.{◌≡◌, ◌≢◌, ◌<◌, ℕ, ◌-◌, ◌*◌, ◌==◌, ◌&&◌, Bool, true, false, List, length, refl, sym, ◌∙◌, ap, subst, arith, inl, inr, ⊎_elim}
use Rattle.std.specs.Prelude.{Contains}
use Rattle.hx_bytes.specs.Field.{put_at}
use Rattle.hx_bytes.specs.declared.fields.Order.TheVariants.{Big}
use Rattle.hx_bytes.proofs.Putting.{number_bytes-low_4}
use Rattle.jnl_format.specs.Recovery.{Content, sector, header_of_volume}
use Rattle.volume_header.specs.declared.header.VolumeHeader.{VolumeHeader}
use Rattle.hfs_volume.specs.Aside.{IsJournalSector}
use Rattle.hfs_volume.specs.Forks.{per_block_of}
use Rattle.hfs_volume.specs.Content.{volume_of}
use Rattle.hfs_volume.specs.Sound.{IsSound}
use Rattle.volume_repair.specs.Recount.{with_word, header_recounted}
use Rattle.volume_repair.specs.Remount.{IsRemounted, IsKeptAt, IsRenewed, RepairIsRenewed, with_counts_of}
use Rattle.volume_repair.specs.Repair.{IsMendable, mended, header_mended, needs_copy}
use Rattle.volume_repair.proofs.Inside.{map_below, catalog_below}
use Rattle.volume_repair.proofs.Journals.{journal_stays, journal_there}
use Rattle.volume_repair.proofs.Mending.{sector_of_mended, mended_header, no_alternate, alternate_plain, some_sectors, head_mended, extents_mended}
use Rattle.volume_repair.proofs.Remounted.{alternate_stays, may_again}
use Rattle.volume_repair.proofs.RemountCount.{copy_differs}
use Rattle.volume_repair.proofs.Remounting.{and_false, counts_are, copied, same_else, last_else, journal_is}
use Rattle.volume_repair.proofs.Repairing.{mendable}
use Rattle.volume_repair.proofs.Rereads.{bitmap_sectors_stay, catalog_sectors_stay}
use Rattle.volume_repair.proofs.Words.{low}

-- a number of 32 bits is written alike
low_word : (at x : ℕ) (bytes : List ℕ) → with_word at (low x) bytes ≡ with_word at x bytes
low_word at x bytes = ap (put_at bytes at) (number_bytes-low_4 Big x)

module _ (content now : Content) (may : IsMendable content) (long : length (sector content 2) ≡ 512) (long_now : length (sector now 2) ≡ 512) (sound : IsSound (mended content)) (re : IsRemounted content now) where
  abbrev new : Content
  new = mended content

  abbrev other : Content
  other = mended now

  abbrev last : ℕ
  last = length content - 2

  abbrev counts : Content → VolumeHeader
  counts c = header_recounted (volume_of c)

  header_two : sector other 2 ≡ header_mended now
  header_two = sector_of_mended now 2 (omega (arith, some_sectors content may, re.size)) ∙ mended_header now

  header_is : sector other 2 ≡ with_counts_of (header_of_volume new) (sector now 2)
  header_is =
      header_two
      ∙ (λ i. with_counts_of (counts_are content now may long long_now sound re i) (sector now 2))
      ∙ sym (
      (λ i. with_counts_of (head_mended content may long i) (sector now 2))
      ∙ low_word 32 (counts content).file_count (with_word 36 (low (counts content).folder_count) (with_word 48 (low (counts content).free_blocks) (sector now 2)))
      ∙ ap (with_word 32 (counts content).file_count) (low_word 36 (counts content).folder_count (with_word 48 (low (counts content).free_blocks) (sector now 2)))
      ∙ ap (λ l. with_word 32 (counts content).file_count (with_word 36 (counts content).folder_count l)) (low_word 48 (counts content).free_blocks (sector now 2))
      )

  -- ---- the alternate header

  below : {l m : List ℕ} → m ≡ l → ((at : ℕ) → Contains m at → at < (header_of_volume new).total_blocks * per_block_of (header_of_volume new)) → (at : ℕ) → Contains l at → at < (header_of_volume content).total_blocks * per_block_of (header_of_volume content)
  below same inside at has = subst (λ (h : VolumeHeader). at < h.total_blocks * per_block_of h) (head_mended content may long) (inside at (subst (λ k. Contains k at) (sym same) has))

  plain : needs_copy content ≡ false → sector new last ≡ sector content last
  plain none = alternate_plain content may
      (below (bitmap_sectors_stay content new _ _ _ _ (head_mended content may long) (extents_mended content may long)) (map_below new sound))
      (below (catalog_sectors_stay content new _ _ _ _ (head_mended content may long) (extents_mended content may long)) (catalog_below new sound)) none

  no_copy : needs_copy content ≡ false → ((last == length content - 2) && needs_copy content) ≡ false
  no_copy none = ap (λ b. (last == last) && b) none ∙ and_false (last == last)

  alternate_kept : (b : Bool) → needs_copy content ≡ b → sector new last ≡ sector content last → sector other last ≡ sector now last
  alternate_kept true copy same = absurd (copy_differs content now may long long_now sound re copy same)
  alternate_kept false none same =
      let stays = alternate_stays content now may long sound re in
      same_else content now may long long_now sound re last (last_else content now may long long_now sound re) (no_copy none) stays ∙ same ∙ sym stays

  alternate_copy : (b : Bool) → needs_copy content ≡ b → (sector new last ≡ sector content last → ⊥) → sector other last ≡ sector other 2
  alternate_copy true copy differs = (copied content now may long long_now sound re copy).0 ∙ sym header_two
  alternate_copy false none differs = absurd (differs (plain none))

  -- ---- the others

  kept : (at : ℕ) → at ≢ 2 → at ≢ last → IsKeptAt content new now other at
  kept at not_two not_last = ⊎_elim
      (λ (same : sector now at ≡ sector content at).
      let is = same_else content now may long long_now sound re at not_two (no_alternate content at not_last) same in
      ((λ stays. is ∙ stays ∙ sym same), (λ differs. is)))
      (λ (journal : IsJournalSector content at).
      ((λ stays. journal_is content now may long long_now sound re at journal), (λ differs. absurd (differs (journal_stays content may long sound at (journal_there content may long sound at journal))))))
      (re.each at not_two)

  pub renewed : IsRenewed content new now other
  renewed = record { header = header_is; stays = alternate_kept (needs_copy content) refl; copy = alternate_copy (needs_copy content) refl; elsewhere = kept }

pub renewed_law : RepairIsRenewed
renewed_law content one now another long long_now (inl (may, is)) sound re (inl (_, is_another)) =
    subst (λ c. IsRenewed content c now another) (sym is) (subst (λ c. IsRenewed content (mended content) now c) (sym is_another) (renewed content now may long long_now (subst IsSound is sound) re))
renewed_law content one now another long long_now (inl (may, is)) sound re (inr (cannot, same)) = absurd (cannot (may_again content now may long (subst IsSound is sound) re))
renewed_law content one now another long long_now (inr (cannot, is)) sound re _ = absurd (cannot (mendable content (subst IsSound is sound)))
