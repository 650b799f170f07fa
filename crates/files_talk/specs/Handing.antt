-- Lines on their way out of a list.
use Rattle.std.specs.Prelude.{◌≡◌, ◌≤◌, ◌+◌, ◌++◌, ℕ, List, length}
use Rattle.line_source.specs.Handed.{AreLines, bytes_of}

-- The first lines of a list were handed on, none of which has a newline, and beside their bytes there is still so much room.
pub record HandsOn (most : ℕ) (lines given : List (List ℕ)) (room : ℕ) (left : List (List ℕ)) : Type 0 where
  pub parts : lines ≡ given ++ left
  pub whole : AreLines given
  pub few : length (bytes_of given) + room ≤ most
