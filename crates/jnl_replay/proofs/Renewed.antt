-- A journal's header written anew over a content whose journal was found, and that says that the journal is empty: the content then
-- stands for itself.
use Rattle.std.proofs.Common.{◌≡◌, ◌≢◌, ◌<◌, ◌≤◌, ◌+◌, ◌*◌, ◌/◌, ℕ, Bool, false, List, ◌++◌, inl, inr, length, sym, ◌∙◌, ap, subst, arith}
use Rattle.std.specs.Prelude.{None, Ok}
use Rattle.volume_header.specs.Header.{header_of}
use Rattle.volume_header.specs.Refusal.{header_refusal}
use Rattle.sector_disk.specs.Lists.{Content, sector}
use Rattle.jnl_format.specs.Info.{is_fresh}
use Rattle.jnl_format.specs.Header.{header_bytes, header_read_as, header_spelled, IsHeaderAs}
use Rattle.jnl_format.specs.Keeping.{IsSame, KeepsHeader}
use Rattle.jnl_format.specs.Recovery.{header_of_volume, Journal, journal_as, info_in, info_from, recovery_as}
use Rattle.jnl_format.specs.declared.dialect.Dialect.{Dialect}
use Rattle.jnl_format.specs.declared.structures.Header.{Header}
use Rattle.jnl_format.proofs.Alike.{IsPlaceOf, stands_for_as, same_place, recovers_as}
use Rattle.jnl_format.proofs.ReadBack.{FitsHeader, header_back, checksum_fits}
use Rattle.jnl_format.proofs.Recovering.{IsJournalAs, journal_parts_as, journal_is_kept_as, apart_sector, kept_journal}
use Rattle.jnl_format.proofs.Volumes.{same_refl}
use Rattle.jnl_replay.proofs.Stages.{empty_fault_as, empty_replay, empty_text}

module _ {dialect form : Dialect} (at : ℕ) (c image : Content) (journal : Journal) (head : Header) (rest : List ℕ) (parts : IsJournalAs dialect at c journal) (initialised : is_fresh journal.info ≡ false) (long : length image ≡ length c)
    (same : (s : ℕ) → s ≢ journal.info.offset / 512 → sector image s ≡ sector c s) (is_head : IsHeaderAs form journal.info.size head) (small : FitsHeader head) (there : sector image (journal.info.offset / 512) ≡ header_bytes head ++ rest) where
  not_info : at ≢ journal.info.offset / 512
  not_info e = elim (apart_sector (length c * 512) at journal.info at parts.info parts.info.no_info) [ inl a ↦ omega arith | inr b ↦ omega (arith, parts.info.least) ]

  not_two : 2 ≢ journal.info.offset / 512
  not_two e = elim (apart_sector (length c * 512) at journal.info 2 parts.info parts.info.no_header) [ inl a ↦ omega arith | inr b ↦ omega (arith, parts.info.least) ]

  -- the journal is found, with that header
  pub renewed_found : journal_as form at image ≡ Ok (kept_journal journal.info head)
  renewed_found =
      journal_is_kept_as form at image journal.info (Ok head)
      (ap (λ n. info_from n at (sector image at)) long ∙ ap (λ (b : List ℕ). info_from (length c) at b) (same at not_info) ∙ parts.whole)
      initialised
      (ap (λ (b : List ℕ). header_read_as form journal.info.size b) there ∙ header_back head journal.info.size rest is_head small (checksum_fits (header_spelled 0 head)))

  -- the volume header stays
  pub renewed_keeps : header_refusal (header_of_volume c) (length c) ≡ None → KeepsHeader c image
  renewed_keeps accepted = record {
    same = subst (λ (s : List ℕ). IsSame (header_of_volume c) (header_of s)) (sym (same 2 not_two)) (same_refl (header_of_volume c));
    accepted = ap (λ (s : List ℕ). header_refusal (header_of s) (length c)) (same 2 not_two) ∙ accepted;
  }

  pub renewed_recovers : (version : ℕ) → IsPlaceOf at version c → head.start ≡ head.end → recovery_as form image ≡ Ok image
  renewed_recovers version place empty =
      let k = kept_journal journal.info head in
      let none = empty_text journal.info head false image empty in
      recovers_as form at version image (same_place at version c image long place (renewed_keeps place.accepted))
      ∙ stands_for_as form at version k image renewed_found (empty_fault_as form at version k image none empty)
      ∙ ap (λ (x : Content). Ok x) (empty_replay k image none)
