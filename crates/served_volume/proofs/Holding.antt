-- Each block that a content has in use is one that its volume has in use.
use Rattle.std.proofs.Common.{◌≡◌, ◌⊎◌, ◌<◌, ◌≤◌, ◌-◌, ◌*◌, ◌++◌, ℕ, Bool, true, false, List, get_or, inl, inr, ⊎_elim, length, replicate, arith, refl, sym, ◌∙◌, ap}
use Rattle.std.proofs.lemmas.Bool.{cases_lt, true≢false}
use Rattle.std.proofs.lemmas.List.{get_or_append_left, get_or-append_right, get_or-replicate, get_or_past, length-replicate}
use Rattle.sector_disk.specs.Lists.{Content}
use Rattle.hfs_volume.specs.Content.{VolumeState, volume_of}
use Rattle.volume_base.specs.Holding.{HoldsOn}
use Rattle.volume_base.specs.Standing.{IsSettled}
use Rattle.volume_base.specs.declared.volume.Volume.{Volume}

none_at : (clear k : ℕ) → get_or (replicate clear false) k false ≡ false
none_at clear k = ⊎_elim (λ low. get_or-replicate clear k false false low) (λ past. get_or_past (replicate clear false) k false (omega (arith, past, length-replicate clear false))) (cases_lt k clear)

-- a bit that is set stands among those in front of the clear ones
set_in_front : (used : List Bool) (clear block : ℕ) → get_or (used ++ replicate clear false) block false ≡ true → get_or used block false ≡ true
set_in_front used clear block is = elim (cases_lt block (length used)) [
  | inl low ↦ sym (get_or_append_left used (replicate clear false) false block low) ∙ is
  | inr high ↦ absurd (true≢false (sym is ∙ get_or-append_right used (replicate clear false) (length used) block false refl high ∙ none_at clear (block - length used)))
]

pub holds_used : (v : Volume) (content now : Content) → volume_of now ≡ volume_of content → IsSettled v content → (used held : List Bool) → used ≡ v.map.used → (block : ℕ) → get_or (volume_of now).bits block false ≡ true
    → (get_or used block false ≡ true) ⊎ (get_or held block false ≡ true)
holds_used v content now same settled used held is block set =
    let bits : (volume_of now).bits ≡ v.map.used ++ replicate (8 * v.header.allocation_fork.logical_size - length v.map.used) false =
    ap (λ (l : VolumeState). l.bits) same ∙ ap (λ (l : VolumeState). l.bits) settled.lists in
    inl (ap (λ (l : List Bool). get_or l block false) is ∙ set_in_front v.map.used (8 * v.header.allocation_fork.logical_size - length v.map.used) block (sym (ap (λ (l : List Bool). get_or l block false) bits) ∙ set))

pub holds_own : (v : Volume) (content now : Content) → volume_of now ≡ volume_of content → IsSettled v content → length v.map.held ≡ length v.map.used → HoldsOn now v
holds_own v content now same settled long = (long, λ block set. holds_used v content now same settled v.map.used v.map.held refl block set)
