-- A pair that is kept in a buffer.
use Rattle.std.specs.Prelude.{ℕ, List}

-- how many bytes the buffer has, and the pair in it
pub record HeldPair : Type 0 where
  pub room : ℕ
  pub key : List ℕ
  pub value : List ℕ
