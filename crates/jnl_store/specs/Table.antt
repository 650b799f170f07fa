-- Puts of sectors with an index: each sector once, found by its number.
use Rattle.std.specs.Prelude.{◌≡◌, ◌<◌, ◌≤◌, ℕ, List, length, slice_index}
use Rattle.jnl_store.specs.Batch.{AreOnce, has}
use Rattle.jnl_store.specs.declared.puts.Put.{Put}

-- the puts, and for how many there is memory
pub record Tabled : Type 0 where
  pub items : List Put
  pub memory : ℕ

-- In the index stands the sector of each put, in the order of the puts.
pub record IsTable (puts : List Put) (sectors : List ℕ) (memory of_puts of_index : ℕ) : Type 0 where
  pub once : AreOnce puts
  pub some : length puts ≤ memory
  pub as_many : length sectors ≡ length puts
  pub placed : (k : ℕ) → k < length sectors → has puts k (slice_index sectors k)
  pub enough : memory ≤ of_puts
  pub enough_index : memory ≤ of_index
