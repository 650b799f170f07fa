-- Blocks of a file replaced, added or cut, and the free ones counted anew: a sound volume stays sound.
use Rattle.std.proofs.Common.{◌≡◌, ℕ, ◌+◌, true, List, length, inl, inr, refl, sym, ◌∙◌, ap, arith}
use Rattle.std.proofs.lemmas.Bool.{true≢false}
use Rattle.volume_header.specs.declared.header.VolumeHeader.{VolumeHeader}
use Rattle.hfs_volume.specs.Records.{Placed, entries_of, id_of, is_folder, special_of, valence_in}
use Rattle.hfs_volume.specs.Entries.{AreCounted, count_in}
use Rattle.hfs_volume.specs.Links.{private_id, is_shared, is_shared_file, HaveLinkCounts}
use Rattle.hfs_volume.specs.Content.{VolumeState, records_of}
use Rattle.hfs_volume.specs.Blocks.{HasBits, is_among, count_used, used_in}
use Rattle.hfs_volume.specs.Forks.{all_forks}
use Rattle.hfs_volume.specs.Reclaim.{blocks_at}
use Rattle.hfs_volume.specs.Sound.{IsSoundVolume}
use Rattle.hfs_volume.specs.TreeOf.{tree_in, BytesOf}
use Rattle.hfs_volume.specs.Changes.{PutsBlocks, with_free}
use Rattle.hfs_volume.specs.Laws.{IsShaped, IsUserFile, HasRightBits, CountsBlocks}
use Rattle.hfs_volume.specs.Writing.{PutsAndCounts}
use Rattle.hfs_volume.proofs.Members.{all_of, each_of}
use Rattle.hfs_volume.proofs.Heading.{numbered_shaped, used_numbered}
use Rattle.hfs_volume.proofs.Finishing.{sound_is_both}
use Rattle.hfs_volume.proofs.Swapping.{shared_either}
use Rattle.hfs_volume.proofs.BlockLaw.{shaped_again, bits_again, counts_moved}
use Rattle.hfs_volume.proofs.BlockRecords.{value, alike, places, named, stood, entry_cases, same_special}
use Rattle.hfs_volume.proofs.BlockTree.{put_private}

-- ---- a volume whose header counts the free blocks anew

abbrev pub recounted : ℕ → ℕ → VolumeState → VolumeState
recounted free next old = record old { head = with_free free next old.head }

module _ (free next : ℕ) (old : VolumeState) (sound : IsSoundVolume old) where
  pub recounted_shaped : IsShaped (recounted free next old)
  recounted_shaped = numbered_shaped old (with_free free next old.head) (omega arith) (record { accepted = sound.blocks.header.accepted; next_id = sound.blocks.header.next_id }) ((sound_is_both old).0 sound).0

  pub recounted_used : used_in (recounted free next old) ≡ used_in old
  recounted_used = used_numbered old (with_free free next old.head)

  pub recounted_right : HasRightBits (recounted free next old)
  recounted_right block inside = sound.blocks.bits.bits block inside ∙ sym (ap (λ l. is_among l block) recounted_used)

-- every fork has the blocks that it has
pub recounted_at : (free next : ℕ) (old : VolumeState) (id kind : ℕ) → blocks_at (recounted free next old) id kind ≡ blocks_at old id kind
unfolding all_forks
recounted_at free next old id kind = refl

pub recounted_tree : (free next : ℕ) (old : VolumeState) (bytes_of : BytesOf) → tree_in (recounted free next old) bytes_of ≡ tree_in old bytes_of
unfolding tree_in
recounted_tree free next old bytes_of = refl

-- where the blocks that are used are counted, and the header counts the others
pub bits_counted : (up down free next : ℕ) (old new : VolumeState) → IsSoundVolume old → HasRightBits new → CountsBlocks up down (recounted free next old) new → free + up ≡ old.head.free_blocks + down → new.head.free_blocks ≡ free
    → new.head.total_blocks ≡ old.head.total_blocks → HasBits new
bits_counted up down free next old new sound right counts balance free_is total = record {
  bits = right;
  free =
      let before : count_used old.head.total_blocks (used_in (recounted free next old)) ≡ count_used old.head.total_blocks (used_in old) = ap (count_used old.head.total_blocks) (recounted_used free next old sound) in
      omega (arith, counts.used, balance, free_is, total, sound.blocks.bits.free, before);
}

module _ (id kind from count : ℕ) (fresh : List ℕ) (old new : VolumeState) (does : PutsAndCounts id kind from count fresh old new) (sound : IsSoundVolume old) (user : IsUserFile id old) where
  abbrev begun : VolumeState
  begun = recounted does.free does.next old

  abbrev puts : PutsBlocks id kind from count fresh begun new
  puts = does.puts

  abbrev was_shaped : IsShaped begun
  was_shaped = recounted_shaped does.free does.next old sound

  was_right : HasRightBits begun
  was_right = recounted_right does.free does.next old sound

  abbrev entry : Placed
  entry = puts.file.entry

  abbrev it : Placed
  it = record entry { value = value id kind begun new puts.file puts.is_kind was_shaped }

  head_same : new.head ≡ begun.head
  head_same = ap (λ (v : VolumeState). v.head) puts.rest

  counts : CountsBlocks (length fresh) count begun new
  counts = counts_moved id kind from count fresh begun new puts was_right was_shaped

  pub put_shaped : IsShaped new
  put_shaped = shaped_again id kind from count fresh begun new puts was_right was_shaped user

  entries_counted : AreCounted new.head (entries_of (records_of new))
  entries_counted = record {
    valences = all_of (λ (p : Placed). is_folder p.value ≡ true → valence_in p.value ≡ count_in (entries_of (records_of new)) (id_of p)) (entries_of (records_of new)) (λ p stands is_a.
        elim (entry_cases id kind begun new puts.file puts.is_kind was_shaped p stands) [
          | inl same ↦ absurd (true≢false (sym is_a ∙ ap (λ (q : Placed). is_folder q.value) same))
          | inr there ↦
              each_of (λ (q : Placed). is_folder q.value ≡ true → valence_in q.value ≡ count_in (entries_of (records_of old)) (id_of q)) (entries_of (records_of old)) sound.entries.counts.valences p there is_a
              ∙ sym (counts.in_folder (id_of p))
        ]);
    files = ap (λ (h : VolumeHeader). h.file_count) head_same ∙ sound.entries.counts.files ∙ sym counts.files;
    folders = ap (λ (h : VolumeHeader). h.folder_count + 1) head_same ∙ sound.entries.counts.folders ∙ sym counts.folders;
  }

  links_counted : HaveLinkCounts (records_of new)
  links_counted reference file stands shared =
      let before : is_shared_file (records_of old) reference file ≡ true = ap (λ private. is_shared private reference file) (sym (put_private id kind from count fresh begun new puts was_shaped)) ∙ shared in
      let parts = places id kind begun new puts.file puts.is_kind was_shaped in
      elim (entry_cases id kind begun new puts.file puts.is_kind was_shaped file stands) [
        | inl same ↦
            ap special_of same ∙ same_special id kind begun new puts.file puts.is_kind was_shaped
            ∙ sound.links.counts reference entry (stood id kind begun new puts.file puts.is_kind was_shaped)
            (sym (shared_either entry (value id kind begun new puts.file puts.is_kind was_shaped) parts.front parts.back (named id kind begun new puts.file puts.is_kind was_shaped) (alike id kind begun new puts.file puts.is_kind was_shaped) (private_id (records_of old)) reference)
            ∙ sym (ap (is_shared (private_id (records_of old)) reference) same) ∙ before)
            ∙ sym (counts.links reference)
        | inr there ↦ sound.links.counts reference file there before ∙ sym (counts.links reference)
      ]

  pub put_sound : IsSoundVolume new
  put_sound = (sound_is_both new).1 (
    put_shaped,
    record {
      entries = entries_counted;
      links = links_counted;
      bits = bits_counted (length fresh) count does.free does.next old new sound (bits_again id kind from count fresh begun new puts was_right was_shaped) counts does.counts (ap (λ (h : VolumeHeader). h.free_blocks) head_same) (ap (λ (h : VolumeHeader). h.total_blocks) head_same);
    },
  )
