-- Entries looked at one by one.
use Rattle.std.proofs.Common.{◌≡◌, ℕ, suc, ◌+◌, ◌-◌, ◌<◌, ◌≤◌, Bool, true, false, ◌&&◌, List, sym, ◌∙◌, ap, arith, eqb, add_assoc}
use Rattle.std.proofs.lemmas.Bool.{and_left, and_right, ne_eqb}
use Rattle.hx_bytes.specs.declared.fields.Order.{Order}
use Rattle.jnl_format.specs.List.{entry_at}
use Rattle.jnl_format.specs.Text.{is_block, are_blocks, block_bytes}
use Rattle.jnl_format.specs.declared.blocks.Volume.{Volume}
use Rattle.jnl_format.specs.declared.structures.Entry.{Entry}

-- so many entries have blocks as they must be, which end at `end`
abbrev pub filled : Volume → Order → List ℕ → ℕ → ℕ → ℕ → ℕ → Bool
filled volume order bytes end place from n = eqb end (from + block_bytes order bytes place n) && are_blocks volume order bytes place from n

module _ (volume : Volume) (order : Order) (bytes : List ℕ) (end place from : ℕ) where
  abbrev size : ℕ
  size = (entry_at order bytes place).bsize

  one_good : (n : ℕ) → is_block volume bytes from (entry_at order bytes place) ≡ true → filled volume order bytes end place from (suc n) ≡ filled volume order bytes end (place + 16) (from + size) n
  one_good n good =
      ap (λ b. eqb end (from + (size + block_bytes order bytes (place + 16) n)) && (b && are_blocks volume order bytes (place + 16) (from + size) n)) good
      ∙ ap (λ k. eqb end k && are_blocks volume order bytes (place + 16) (from + size) n) (sym (add_assoc from size (block_bytes order bytes (place + 16) n)))

  one_bad : (n : ℕ) → is_block volume bytes from (entry_at order bytes place) ≡ false → filled volume order bytes end place from (suc n) ≡ false
  one_bad n bad =
      and_right (eqb end (from + (size + block_bytes order bytes (place + 16) n))) (is_block volume bytes from (entry_at order bytes place) && are_blocks volume order bytes (place + 16) (from + size) n)
      (and_left (is_block volume bytes from (entry_at order bytes place)) (are_blocks volume order bytes (place + 16) (from + size) n) bad)

  one_long : (n : ℕ) → from ≤ end → end - from < size → filled volume order bytes end place from (suc n) ≡ false
  one_long n le long =
      and_left (eqb end (from + (size + block_bytes order bytes (place + 16) n))) (are_blocks volume order bytes place from (suc n))
      (ne_eqb end (from + (size + block_bytes order bytes (place + 16) n)) (λ e. omega arith))

  pub good_entry : (n m : ℕ) → n ≡ suc m → is_block volume bytes from (entry_at order bytes place) ≡ true → filled volume order bytes end place from n ≡ filled volume order bytes end (place + 16) (from + size) m
  good_entry n m is good = ap (λ k. filled volume order bytes end place from k) is ∙ one_good m good

  pub bad_entry : (n m : ℕ) → n ≡ suc m → is_block volume bytes from (entry_at order bytes place) ≡ false → filled volume order bytes end place from n ≡ false
  bad_entry n m is bad = ap (λ k. filled volume order bytes end place from k) is ∙ one_bad m bad

  pub long_entry : (n m : ℕ) → n ≡ suc m → from ≤ end → end - from < size → filled volume order bytes end place from n ≡ false
  long_entry n m is le long = ap (λ k. filled volume order bytes end place from k) is ∙ one_long m le long

-- An entry was read, and its block looked at, from bytes that are the same.
module _ (volume : Volume) (order : Order) (bytes : List ℕ) (end place from n m : ℕ) (first second : List ℕ) (entry : Entry) (step : ℕ) (is : n ≡ suc m) (same : first ≡ bytes) (again : second ≡ bytes) (read : entry ≡ entry_at order first place) (long : step ≡ entry.bsize) where
  entry_is : entry ≡ entry_at order bytes place
  entry_is = read ∙ ap (λ (b : List ℕ). entry_at order b place) same

  block_is : is_block volume second from entry ≡ is_block volume bytes from (entry_at order bytes place)
  block_is = ap (λ (b : List ℕ). is_block volume b from entry) again ∙ ap (λ (e : Entry). is_block volume bytes from e) entry_is

  step_is : step ≡ (entry_at order bytes place).bsize
  step_is = long ∙ ap (λ (e : Entry). e.bsize) entry_is

  pub fill_on : (fits : Bool) → fits ≡ is_block volume second from entry → fits ≡ true → filled volume order bytes end place from n ≡ filled volume order bytes end (place + 16) (from + step) m
  fill_on fits answer good =
      good_entry volume order bytes end place from n m is (sym block_is ∙ sym answer ∙ good)
      ∙ ap (λ k. filled volume order bytes end (place + 16) (from + k) m) (sym step_is)

  pub fill_off : (fits : Bool) → fits ≡ is_block volume second from entry → fits ≡ false → filled volume order bytes end place from n ≡ false
  fill_off fits answer bad = bad_entry volume order bytes end place from n m is (sym block_is ∙ sym answer ∙ bad)

pub fill_over : (volume : Volume) (order : Order) (bytes : List ℕ) (end place from n m : ℕ) (first : List ℕ) (entry : Entry) (step : ℕ) → n ≡ suc m → first ≡ bytes → entry ≡ entry_at order first place → step ≡ entry.bsize → from ≤ end → end - from < step → filled volume order bytes end place from n ≡ false
fill_over volume order bytes end place from n m first entry step is same read long le over =
    let e : step ≡ (entry_at order bytes place).bsize = long ∙ ap (λ (x : Entry). x.bsize) (read ∙ ap (λ (b : List ℕ). entry_at order b place) same) in
    long_entry volume order bytes end place from n m is le (omega arith)
