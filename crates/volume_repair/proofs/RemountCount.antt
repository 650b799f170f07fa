-- The repair of a remounted content differs in as many sectors as that of the content.
use Rattle.std.proofs.Common.{◌≡◌, ℕ, ◌-◌, ◌==◌, ◌&&◌, not, Bool, true, false, List, length, inl, inr, refl, sym, ◌∙◌, ap, subst, arith, ⊎_elim}
use Rattle.std.specs.List.{count_by, range_with_len}
use Rattle.std.specs.Str.{bytes_eq}
use Rattle.std.proofs.lemmas.Bool.{cases_eq, true≢false}
use Rattle.std.proofs.lemmas.Slice.Eq.{bytes_eq-Decides}
use Rattle.jnl_format.specs.Recovery.{Content, sector, header_of_volume}
use Rattle.volume_header.specs.Header.{header_of}
use Rattle.volume_header.specs.declared.header.VolumeHeader.{VolumeHeader}
use Rattle.hfs_volume.specs.Aside.{IsJournalSector}
use Rattle.hfs_volume.specs.Attributing.{RemountKeeps}
use Rattle.hfs_volume.specs.Findings.{HasBytes}
use Rattle.hfs_volume.specs.Content.{volume_of}
use Rattle.hfs_volume.specs.Blocks.{AgreesWith}
use Rattle.hfs_volume.specs.Sound.{IsSound}
use Rattle.volume_repair.specs.Differing.{differing}
use Rattle.volume_repair.specs.Recount.{header_recounted}
use Rattle.volume_repair.specs.Remount.{IsRemounted, IsSameButCounts, RepairStaysRemounted, StaysRemounted}
use Rattle.volume_repair.specs.Repair.{IsMendable, IsRepair, mended, header_mended, needs_copy}
use Rattle.volume_repair.proofs.Counting.{agreement}
use Rattle.volume_repair.proofs.Journals.{journal_stays, journal_there}
use Rattle.volume_repair.proofs.Mending.{sector_of_mended, mended_header, no_alternate, some_sectors, head_mended}
use Rattle.volume_repair.proofs.Remounted.{alternate_stays, may_again}
use Rattle.volume_repair.proofs.Repairing.{mendable}
use Rattle.volume_repair.proofs.Sounding.{with_version}
use Rattle.volume_repair.proofs.Words.{low, counts_stay, counts_stood}
use Rattle.volume_repair.proofs.Remounting.{and_false, head_now, counts_are, copied, header_there, head_other, same_else, last_else, journal_is, same_but_counts, other_sound}

module _ (content now : Content) (may : IsMendable content) (long : length (sector content 2) ≡ 512) (long_now : length (sector now 2) ≡ 512) (sound : IsSound (mended content)) (re : IsRemounted content now) where
  abbrev head : VolumeHeader
  head = header_of_volume content

  abbrev new : Content
  new = mended content

  abbrev other : Content
  other = mended now

  abbrev version : ℕ
  version = (header_of_volume now).last_mounted_version

  abbrev last : ℕ
  last = length content - 2

  abbrev counts : Content → VolumeHeader
  counts c = header_recounted (volume_of c)

  same_test : (a b c d : List ℕ) → (a ≡ b → c ≡ d) → (c ≡ d → a ≡ b) → bytes_eq a b ≡ bytes_eq c d
  same_test a b c d to from = by (bytes_eq a b) (bytes_eq c d) refl refl
    where
      by : (p q : Bool) → bytes_eq a b ≡ p → bytes_eq c d ≡ q → p ≡ q
      by true true is also = refl
      by false false is also = refl
      by true false is also = absurd (true≢false (sym ((bytes_eq-Decides c d).1 (to ((bytes_eq-Decides a b).0 is))) ∙ also))
      by false true is also = absurd (true≢false (sym ((bytes_eq-Decides a b).1 (from ((bytes_eq-Decides c d).0 also))) ∙ is))

  -- a copy is never what stood there
  pub copy_differs : needs_copy content ≡ true → sector new last ≡ sector content last → ⊥
  unfolding volume_of
  copy_differs copy same =
      let stood : (volume_of content).alternate ≡ header_of_volume new = ap header_of (sym same ∙ (copied content now may long long_now sound re copy).1 ∙ sym (mended_header content) ∙ sym (sector_of_mended content 2 (omega (arith, some_sectors content may)))) in
      let agrees_then : AgreesWith head (volume_of content).alternate = record {
        signature = ap (λ (h : VolumeHeader). h.signature) (stood ∙ head_mended content may long);
        version = ap (λ (h : VolumeHeader). h.version) (stood ∙ head_mended content may long);
        block_size = ap (λ (h : VolumeHeader). h.block_size) (stood ∙ head_mended content may long);
        total_blocks = ap (λ (h : VolumeHeader). h.total_blocks) (stood ∙ head_mended content may long);
      } in
      true≢false (sym copy ∙ ap not (agreement head (volume_of content).alternate agrees_then))

  copy_differs_now : needs_copy content ≡ true → sector other last ≡ sector now last → ⊥
  unfolding volume_of
  copy_differs_now copy same =
      let stood : (volume_of content).alternate ≡ header_of_volume other = ap header_of (sym (alternate_stays content now may long sound re) ∙ sym same ∙ (copied content now may long long_now sound re copy).0) ∙ header_there content now may long long_now sound re in
      let spelled : (volume_of content).alternate ≡ with_version (header_of_volume new) version = stood ∙ head_other content now may long long_now sound re in
      let agrees_then : AgreesWith head (volume_of content).alternate = record {
        signature = ap (λ (h : VolumeHeader). h.signature) spelled ∙ ap (λ (h : VolumeHeader). h.signature) (head_mended content may long);
        version = ap (λ (h : VolumeHeader). h.version) spelled ∙ ap (λ (h : VolumeHeader). h.version) (head_mended content may long);
        block_size = ap (λ (h : VolumeHeader). h.block_size) spelled ∙ ap (λ (h : VolumeHeader). h.block_size) (head_mended content may long);
        total_blocks = ap (λ (h : VolumeHeader). h.total_blocks) spelled ∙ ap (λ (h : VolumeHeader). h.total_blocks) (head_mended content may long);
      } in
      true≢false (sym copy ∙ ap not (agreement head (volume_of content).alternate agrees_then))

  module _ (bytes : HasBytes content) (bytes_now : HasBytes now) where
    header_test : bytes_eq (sector other 2) (sector now 2) ≡ bytes_eq (sector new 2) (sector content 2)
    header_test = same_test (sector other 2) (sector now 2) (sector new 2) (sector content 2)
        (λ same.
        let stood = counts_stood (counts now).file_count (counts now).folder_count (counts now).free_blocks (sector now 2) long_now (sym other_header ∙ same) in
        new_header ∙ counts_stay (counts content).file_count (counts content).folder_count (counts content).free_blocks (sector content 2) long (bytes 2)
        (sym (ap (λ (h : VolumeHeader). h.file_count) (head_now content now may long long_now sound re)) ∙ stood.0 ∙ ap (λ (h : VolumeHeader). low h.file_count) (counts_are content now may long long_now sound re))
        (sym (ap (λ (h : VolumeHeader). h.folder_count) (head_now content now may long long_now sound re)) ∙ stood.1 ∙ ap (λ (h : VolumeHeader). low h.folder_count) (counts_are content now may long long_now sound re))
        (sym (ap (λ (h : VolumeHeader). h.free_blocks) (head_now content now may long long_now sound re)) ∙ stood.2 ∙ ap (λ (h : VolumeHeader). low h.free_blocks) (counts_are content now may long long_now sound re)))
        (λ same.
        let stood = counts_stood (counts content).file_count (counts content).folder_count (counts content).free_blocks (sector content 2) long (sym new_header ∙ same) in
        other_header ∙ counts_stay (counts now).file_count (counts now).folder_count (counts now).free_blocks (sector now 2) long_now (bytes_now 2)
        (ap (λ (h : VolumeHeader). h.file_count) (head_now content now may long long_now sound re) ∙ stood.0 ∙ sym (ap (λ (h : VolumeHeader). low h.file_count) (counts_are content now may long long_now sound re)))
        (ap (λ (h : VolumeHeader). h.folder_count) (head_now content now may long long_now sound re) ∙ stood.1 ∙ sym (ap (λ (h : VolumeHeader). low h.folder_count) (counts_are content now may long long_now sound re)))
        (ap (λ (h : VolumeHeader). h.free_blocks) (head_now content now may long long_now sound re) ∙ stood.2 ∙ sym (ap (λ (h : VolumeHeader). low h.free_blocks) (counts_are content now may long long_now sound re))))
      where
        other_header : sector other 2 ≡ header_mended now
        other_header = sector_of_mended now 2 (omega (arith, some_sectors content may, re.size)) ∙ mended_header now

        new_header : sector new 2 ≡ header_mended content
        new_header = sector_of_mended content 2 (omega (arith, some_sectors content may)) ∙ mended_header content

    last_test : (b : Bool) → needs_copy content ≡ b → bytes_eq (sector other last) (sector now last) ≡ bytes_eq (sector new last) (sector content last)
    last_test true copy = same_test (sector other last) (sector now last) (sector new last) (sector content last) (λ same. absurd (copy_differs_now copy same)) (λ same. absurd (copy_differs copy same))
    last_test false none =
        let stays = alternate_stays content now may long sound re in
        λ i. bytes_eq (same_else content now may long long_now sound re last (last_else content now may long long_now sound re) (ap (λ b. (last == last) && b) none ∙ and_false (last == last)) stays i) (stays i)

    each_test : (at : ℕ) → bytes_eq (sector other at) (sector now at) ≡ bytes_eq (sector new at) (sector content at)
    each_test at = elim (cases_eq at 2) [
      | inl two ↦ subst (λ n. bytes_eq (sector other n) (sector now n) ≡ bytes_eq (sector new n) (sector content n)) (sym two) header_test
      | inr not_two ↦ elim (cases_eq at last) [
        | inl is_last ↦ subst (λ n. bytes_eq (sector other n) (sector now n) ≡ bytes_eq (sector new n) (sector content n)) (sym is_last) (last_test (needs_copy content) refl)
        | inr not_last ↦ ⊎_elim
            (λ (same : sector now at ≡ sector content at). λ i. bytes_eq (same_else content now may long long_now sound re at not_two (no_alternate content at not_last) same i) (same i))
            (λ (journal : IsJournalSector content at).
            same_test (sector other at) (sector now at) (sector new at) (sector content at) (λ _. journal_stays content may long sound at (journal_there content may long sound at journal)) (λ _. journal_is content now may long long_now sound re at journal))
            (re.each at not_two)
      ]
    ]

    pub as_many : differing now other ≡ differing content new
    as_many =
        (λ i. count_by (λ at. not (each_test at i)) (range_with_len 0 (length now)))
        ∙ ap (λ n. count_by (λ at. not (bytes_eq (sector new at) (sector content at))) (range_with_len 0 n)) re.size

pub stays_law : RemountKeeps → RepairStaysRemounted
stays_law law content mended_one now other_one bytes bytes_now long long_now repair sound re again = by repair again
  where
    made : IsMendable content → mended_one ≡ mended content → other_one ≡ mended now → StaysRemounted content mended_one now other_one
    made may is is_other =
        let here = subst IsSound is sound in
        record {
          sound = subst IsSound (sym is_other) (other_sound content now may long long_now here re law);
          count = ap (differing now) is_other ∙ as_many content now may long long_now here re bytes bytes_now ∙ ap (differing content) (sym is);
          journal = λ at journal. ap (λ c. sector c at) is_other ∙ journal_is content now may long long_now here re at journal;
          header = subst (λ c. IsSameButCounts (header_of_volume now) (header_of_volume c)) (sym is_other) (same_but_counts content now may long long_now here re);
        }

    by : IsRepair content mended_one → IsRepair now other_one → StaysRemounted content mended_one now other_one
    by (inl (may, is)) (inl (may_now, is_other)) = made may is is_other
    by (inl (may, is)) (inr (cannot, same)) = absurd (cannot (may_again content now may long (subst IsSound is sound) re))
    by (inr (cannot, same)) _ = absurd (cannot (mendable content (subst IsSound same sound)))
