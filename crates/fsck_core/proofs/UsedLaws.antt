-- Marks of blocks of which none is used yet.
use Rattle.std.proofs.Common.{◌≡◌, ◌<◌, ◌≤◌, ◌^◌, ℕ, Bool, false, List, length, replicate, sym, ◌∙◌, ap, arith}
use Rattle.std.proofs.lemmas.List.{length-replicate}
use Rattle.volume_header.specs.declared.header.VolumeHeader.{VolumeHeader}
use Rattle.hfs_volume.specs.Content.{VolumeState}

pub none_yet : (volume : VolumeState) (head : VolumeHeader) (marks : List Bool) → volume.head ≡ head → marks ≡ replicate head.total_blocks false → marks ≡ replicate volume.head.total_blocks false
none_yet volume head marks is none = none ∙ ap (λ (h : VolumeHeader). replicate h.total_blocks false) (sym is)

pub marks_fit : (marks : List Bool) (total : ℕ) → total < 2 ^ 32 → marks ≡ replicate total false → length marks ≤ 2 ^ 32
marks_fit marks total small none = omega (arith, small, ap (λ (l : List Bool). length l) none, length-replicate {A = Bool} total false)
