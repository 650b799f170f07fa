-- The homes that a journal's blocks name, and contents in which some of them were written.
use Rattle.std.specs.Prelude.{ℕ, ◌+◌, ◌<◌, ◌≤◌, ◌≡◌, ◌≢◌, ◌⊎◌, true, List, [], ◌∷◌, length}
use Rattle.jnl_format.specs.Text.{bytes_at, keeps_volume}
use Rattle.jnl_format.specs.declared.blocks.Home.{Home}
use Rattle.jnl_format.specs.declared.blocks.Volume.{Volume}
use Rattle.jnl_format.specs.Recovery.{Content, sector}

-- what a home must be
pub record IsGoodHome (volume : Volume) (text : List ℕ) (home : Home) : Type 0 where
  pub inside : home.sector < volume.sectors
  pub apart : (home.sector < volume.first) ⊎ (volume.first + volume.count ≤ home.sector)
  pub no_info : home.sector ≢ volume.info_sector
  pub placed : home.place + 512 ≤ length text
  pub header : home.sector ≡ 2 → keeps_volume volume (bytes_at text home.place 512) ≡ true

-- each home of a list
abbrev pub Each : (Home → Type 0) → List Home → Type 0
Each P [] = Unit {0}
Each P (h ∷ hs) = P h × Each P hs

-- the bytes of one of these homes of a sector
abbrev pub IsHomeOf : List ℕ → List Home → ℕ → List ℕ → Type 0
IsHomeOf text [] at value = ⊥
IsHomeOf text (h ∷ hs) at value = ((h.sector ≡ at) × (value ≡ bytes_at text h.place 512)) ⊎ IsHomeOf text hs at value

-- some home is of this sector
abbrev pub IsNamed : List Home → ℕ → Type 0
IsNamed [] at = ⊥
IsNamed (h ∷ hs) at = (h.sector ≡ at) ⊎ IsNamed hs at

-- each sector is the old one, or has the bytes of one of its homes
pub record MixesHomes (text : List ℕ) (homes : List Home) (old new : Content) : Type 0 where
  pub size : length new ≡ length old
  pub each : (at : ℕ) → (sector new at ≡ sector old at) ⊎ IsHomeOf text homes at (sector new at)
