-- Candidates of which those of one sector changed.
use Rattle.std.proofs.Common.{◌≡◌, ◌≢◌, ℕ, ◌/◌, [], inl, inr, length, sym, ◌∙◌, ap, arith}
use Rattle.std.proofs.lemmas.Bool.{cases_lt}
use Rattle.std.proofs.lemmas.List.{length-map, get_or-map, get_or_past}
use Rattle.sector_disk.specs.Lists.{last, sector}
use Rattle.sector_disk.specs.Disk.{Candidates, candidates_of, content_of}
use Rattle.jnl_replay.specs.declared.plan.Plan.{Plan}
use Rattle.jnl_store.proofs.Journals.{KeepsJournal}
use Rattle.jnl_store.proofs.Quiet.{holds_still}

-- what reads give of a sector is its last candidate
pub content_at : (d : Candidates) (s : ℕ) → sector (content_of d) s ≡ last (candidates_of d s)
content_at d s = elim (cases_lt s (length d)) [
  | inl inside ↦ get_or-map last d s [] [] inside
  | inr past ↦ get_or_past (content_of d) s [] (omega (arith, past, length-map d last)) ∙ sym (ap last (get_or_past d s [] past))
]

pub still_kept : (plan : Plan) (at : ℕ) (old new : Candidates) → length new ≡ length old → ((s : ℕ) → s ≢ at → candidates_of new s ≡ candidates_of old s) → 2 ≢ at → plan.place.info_sector ≢ at → plan.info.offset / 512 ≢ at → KeepsJournal plan old → KeepsJournal plan new
still_kept plan at old new size other volume info header k =
    let same : (s : ℕ) → s ≢ at → sector (content_of new) s ≡ sector (content_of old) s = λ s away. content_at new s ∙ ap last (other s away) ∙ sym (content_at old s) in
    record {
      volume_one = ap length (other 2 volume) ∙ k.volume_one;
      info_one = ap length (other plan.place.info_sector info) ∙ k.info_one;
      header_one = ap length (other (plan.info.offset / 512) header) ∙ k.header_one;
      holds = holds_still plan (content_of old) (content_of new) k.holds (length-map new last ∙ size ∙ sym (length-map old last)) (same 2 volume) (same plan.place.info_sector info) (same (plan.info.offset / 512) header);
    }
