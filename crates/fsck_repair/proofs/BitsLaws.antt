-- A sector of the allocation file, written byte by byte.
use Rattle.std.proofs.Common.{◌≡◌, ◌<◌, ◌≤◌, ℕ, ◌+◌, ◌*◌, nat_lt, Bool, List, length, map, get_or, ext_get_or, sym, ◌∙◌, ap, arith, ⊎_elim, if◌then◌else◌}
use Rattle.std.specs.List.{range_with_len}
use Rattle.std.proofs.lemmas.Bool.{cases_lt}
use Rattle.std.proofs.lemmas.List.FromFn.{length-map-range_with_len, get_or-map-range_with_len}
use Rattle.fsck_core.proofs.RowLaws.{true_below, not_below}
use Rattle.volume_repair.specs.Repair.{byte_of_bits}
use Rattle.fsck_repair.specs.Bitmap.{bits_written}

pub all_written : (is_set : ℕ → Bool) (size place i : ℕ) (old new : List ℕ) → length new ≡ 512 → 512 ≤ i
    → ((k : ℕ) → k < i → 512 * place + k < size → get_or new k 0 ≡ byte_of_bits is_set (512 * place + k)) → ((k : ℕ) → k < i → size ≤ 512 * place + k → get_or new k 0 ≡ get_or old k 0) → new ≡ bits_written is_set size place old
all_written is_set size place i old new long all made past = ext_get_or 0 new (map byte (range_with_len 0 512)) (long ∙ sym (length-map-range_with_len byte 0 512))
    (λ k low. each k (omega (arith, low, long)) ∙ sym (get_or-map-range_with_len byte 0 512 k k 0 (omega (arith, low, long)) (omega arith)))
  where
    byte : ℕ → ℕ
    byte k = if nat_lt (512 * place + k) size then byte_of_bits is_set (512 * place + k) else get_or old k 0

    each : (k : ℕ) → k < 512 → get_or new k 0 ≡ byte k
    each k low = ⊎_elim
        (λ (inside : 512 * place + k < size). made k (omega (arith, low, all)) inside ∙ sym (ap (λ b. if b then byte_of_bits is_set (512 * place + k) else get_or old k 0) (true_below (512 * place + k) size inside)))
        (λ (behind : size ≤ 512 * place + k). past k (omega (arith, low, all)) behind ∙ sym (ap (λ b. if b then byte_of_bits is_set (512 * place + k) else get_or old k 0) (not_below (512 * place + k) size behind)))
        (cases_lt (512 * place + k) size)
