-- How many sectors a transaction holds, in the words of the store and in those of a mount.
use Rattle.std.proofs.Common.{◌≡◌, ◌<◌, ◌≤◌, ◌+◌, ◌*◌, ◌-◌, ◌/◌, ◌∙◌, ℕ, sym, ap, subst, arith}
use Rattle.jnl_format.specs.Recovery.{Journal}
use Rattle.jnl_replay.specs.declared.plan.Plan.{Plan}
use Rattle.jnl_store.specs.Lists.{IsCapacity, text_sectors}
use Rattle.jnl_store.specs.Plan.{form_of, span_of}
use Rattle.hfs_volume.specs.Mount.{HoldsAtMost, sectors_in_ring}
use Rattle.hfs_serving.proofs.Bridging.{HasSizes}

same_parts_for : (count blhdr : ℕ) → 512 ≤ blhdr → count + (blhdr / 16 - 2) - 1 ≡ count + (blhdr / 16 - 2 - 1)
same_parts_for count blhdr least = omega (arith, least)

same_sectors : (plan : Plan) (journal : Journal) (count : ℕ) → HasSizes plan journal → 512 ≤ journal.header.blhdr → sectors_in_ring journal count ≡ text_sectors plan.header.blhdr count
same_sectors plan journal count sizes least =
    ap (λ (n : ℕ). count + journal.header.blhdr / 512 * (n / (journal.header.blhdr / 16 - 2))) (same_parts_for count journal.header.blhdr least) ∙ ap (λ (b : ℕ). text_sectors b count) sizes.blhdr

pub holds_at_most : (plan : Plan) (journal : Journal) (most : ℕ) → HasSizes plan journal → 512 ≤ journal.header.blhdr → IsCapacity (span_of plan) (form_of plan) most → HoldsAtMost journal most
holds_at_most plan journal most sizes least is = record {
  fits = subst (λ (n : ℕ). sectors_in_ring journal most ≤ n / 512 - 2) (sym sizes.size) (subst (λ (n : ℕ). n ≤ plan.info.size / 512 - 2) (sym (same_sectors plan journal most sizes least)) is.fits);
  is_most = λ more past. subst (λ (n : ℕ). n / 512 - 2 < sectors_in_ring journal more) (sym sizes.size) (subst (λ (n : ℕ). plan.info.size / 512 - 2 < n) (sym (same_sectors plan journal more sizes least)) (is.most more past));
}
