-- A list of sectors is written into the ring, one after another from an offset on.
use Rattle.std.specs.Prelude.{◌≡◌, ◌≢◌, ◌<◌, ℕ, List, length}
use Rattle.sector_disk.specs.Lists.{Content, sector}
use Rattle.sector_disk.specs.Disk.{Candidates, GrowsBy, MixesBy}
use Rattle.jnl_ring.specs.Span.{sector_after}
use Rattle.jnl_ring.specs.declared.span.Span.{Span}

-- the sectors of the list stand in the ring from this offset on, and each other sector is as it was
pub record PutsInRing (span : Span) (at : ℕ) (list : Content) (old new : Content) : Type 0 where
  pub size : length new ≡ length old
  pub there : (k : ℕ) → k < length list → sector new (sector_after span at k) ≡ sector list k
  pub elsewhere : (s : ℕ) → ((k : ℕ) → k < length list → s ≢ sector_after span at k) → sector new s ≡ sector old s

-- this value stands in the list, which is written into the ring from this offset on, at this sector
abbrev pub IsPlaced : Span → ℕ → Content → ℕ → List ℕ → Type 0
IsPlaced span at list s value = (k : ℕ) × (k < length list) × (s ≡ sector_after span at k) × (value ≡ sector list k)

-- each candidate is an old one, or stands in the list at its place
abbrev pub GrowsInRing : Span → ℕ → Content → Candidates → Candidates → Type 0
GrowsInRing span at list = GrowsBy (IsPlaced span at list)

-- each sector of the image is an old candidate, or stands in the list at its place
abbrev pub MixesInRing : Span → ℕ → Content → Candidates → Content → Type 0
MixesInRing span at list = MixesBy (IsPlaced span at list)
