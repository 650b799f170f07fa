-- Sectors with the places of their bytes in a journal's text.
use Rattle.std.specs.Prelude.{◌≡◌, ◌≤◌, ℕ, List, [], ◌∷◌, length}
use Rattle.jnl_format.specs.declared.blocks.Home.{Home}

-- the homes, and for how many there is memory
pub record Placed : Type 0 where
  pub homes : List Home
  pub memory : ℕ

-- each sector with the place that stands beside it
abbrev pub beside : List ℕ → List ℕ → List Home
beside [] places = []
beside (sector ∷ sectors) [] = []
beside (sector ∷ sectors) (place ∷ places) = record { sector = sector; place = place } ∷ beside sectors places

-- Beside each sector stands a place. There is memory for so many of both.
pub record ArePlaced (sectors places : List ℕ) (memory of_index of_places : ℕ) : Type 0 where
  pub some : length sectors ≤ memory
  pub as_many : length places ≡ length sectors
  pub enough_index : memory ≤ of_index
  pub enough_places : memory ≤ of_places
