-- The numbers of a volume header that are judged.
use Rattle.std.proofs.Common.{◌≡◌, ◌<◌, ◌≤◌, ℕ, ◌+◌, ◌-◌, ◌*◌, ◌/◌, ◌&&◌, Bool, true, false, nat_le, ⊎_elim, sym, ◌∙◌, ap, if◌then◌else◌}
use Rattle.std.proofs.Math.Nat.{div-zero}
use Rattle.std.proofs.lemmas.Bool.Decides.{leb_tells}
use Rattle.volume_header.specs.Refusal.{is_journaled, has_ids_reused, is_volume_size}
use Rattle.hfs_volume.specs.Broken.{attributes_wanted}

pub attributes_are : (attributes journal reused result : ℕ) (j r : Bool) → result ≡ attributes + journal - reused → journal ≡ (if j then 0 else 8192) → reused ≡ (if r then 4096 else 0) → j ≡ is_journaled attributes → r ≡ has_ids_reused attributes
    → result ≡ attributes_wanted attributes
attributes_are attributes journal reused result j r result_is journal_is reused_is j_is r_is =
    result_is ∙ ap (λ n. attributes + n - reused) (journal_is ∙ ap (λ t. if t then 0 else 8192) j_is)
    ∙ ap (λ n. attributes + (if is_journaled attributes then 0 else 8192) - n) (reused_is ∙ ap (λ t. if t then 4096 else 0) r_is)

-- no blocks of no bytes
pub none_of_none : (sectors size : ℕ) → size ≡ 0 → 0 ≡ sectors * 512 / size
none_of_none sectors size is = sym (div-zero (sectors * 512)) ∙ ap (λ n. sectors * 512 / n) (sym is)

-- a volume has at most 2,147,483,648 sectors
pub few_sectors : (sectors : ℕ) → is_volume_size sectors ≡ true → sectors ≤ 2147483648
few_sectors sectors is = le_of sectors 2147483648 (second (nat_le 2048 sectors) (nat_le sectors 2147483648) is)
  where
    second : (a b : Bool) → (a && b) ≡ true → b ≡ true
    second true b is = is
    second false b is = cc

    le_of : (m n : ℕ) → nat_le m n ≡ true → m ≤ n
    le_of m n is = ⊎_elim (λ (low : (nat_le m n ≡ true) × (m ≤ n)). low.1) (λ (high : (nat_le m n ≡ false) × (n < m)). absurd (true_false (sym is ∙ high.0))) (leb_tells m n)
      where
        true_false : true ≡ false → ⊥
        true_false same = cc
