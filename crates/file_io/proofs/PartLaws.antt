-- Parts of sectors that are cleared and put.
use Rattle.std.proofs.Common.{◌≡◌, ℕ, suc, ◌+◌, ◌-◌, ◌/◌, ◌%◌, ◌≤◌, ◌<◌, true, false, ◌&&◌, nat_le, nat_lt, if◌then◌else◌, List, Some, length, get_or, slice_get, min, max, refl, sym, ◌∙◌, ap, arith, ⊎_elim}
use Rattle.std.proofs.lemmas.Bool.{le-leb, lt-leb}
use Rattle.std.proofs.lemmas.Bool.Decides.{leb_tells}
use Rattle.std.proofs.lemmas.Option.{get_or_from_slice_get}
use Rattle.sector_disk.specs.Lists.{Content, sector}
use Rattle.file_io.specs.Bytes.{sector_bytes, byte_in, old_byte}
use Rattle.file_io.proofs.ByteLaws.{sector_bytes_is}

-- a byte of the value that falls into the sector was put
pub same_part : (low place from end start q : ℕ) → low ≡ max from start → start ≤ q → q < start + 512 → low ≤ place → min end (start + 512) ≤ place → place ≤ max low (min end (start + 512))
    → (nat_le low q && nat_lt q place) ≡ (nat_le from q && nat_lt q end)
same_part low place from end start q is below above low_le end_le bound = ⊎_elim
    (λ (a : (nat_le from q ≡ true) × (from ≤ q)). let first : nat_le low q ≡ true = le-leb low q (omega (arith, is, below, a.1)) in ⊎_elim
    (λ (b : (nat_lt q end ≡ true) × (suc q ≤ end)). let second : nat_lt q place ≡ true = le-leb (suc q) place (omega (arith, is, below, above, a.1, b.1, low_le, end_le, bound)) in rw (a.0, b.0, first, second) refl)
    (λ (b : (nat_lt q end ≡ false) × (end < suc q)). let second : nat_lt q place ≡ false = lt-leb (suc q) place (omega (arith, is, below, above, a.1, b.1, low_le, end_le, bound)) in rw (a.0, b.0, first, second) refl)
    (leb_tells (suc q) end))
    (λ (a : (nat_le from q ≡ false) × (q < from)). let first : nat_le low q ≡ false = lt-leb low q (omega (arith, is, a.1)) in rw (a.0, first) refl)
    (leb_tells from q)

-- a sector that was read, with zeros past the end of the file
pub old_read : (content : Content) (sectors value new : List ℕ) (size start at limit k : ℕ) → sector content at ≡ value → length value ≡ 512 → slice_get sectors (start / 512) ≡ Some at → start % 512 ≡ 0 → start < size → limit ≡ min (size - start) 512 → k < 512
    → get_or new k 0 ≡ (if nat_lt k limit then get_or value k 0 else 0) → get_or new k 0 ≡ old_byte content sectors size (start + k)
old_read content sectors value new size start at limit k is long place aligned some limit_is lt each = each ∙ ⊎_elim
    (λ (inside : (nat_lt k limit ≡ true) × (suc k ≤ limit)).
    let there : nat_lt (start + k) size ≡ true = le-leb (suc (start + k)) size (omega (arith, limit_is, inside.1, some)) in
    let which : (start + k) / 512 ≡ start / 512 = omega (arith, aligned, lt) in
    let rest : (start + k) % 512 ≡ k = omega (arith, aligned, lt) in
    let byte : byte_in content sectors (start + k) ≡ get_or value k 0 =
    ap (λ m. get_or (sector_bytes content (get_or sectors m 0)) ((start + k) % 512) 0) which
    ∙ ap (λ s. get_or (sector_bytes content s) ((start + k) % 512) 0) (get_or_from_slice_get sectors (start / 512) at 0 place)
    ∙ ap (λ (l : List ℕ). get_or l ((start + k) % 512) 0) (sector_bytes_is content at value is long) ∙ ap (λ m. get_or value m 0) rest in
    rw (inside.0, there) (sym byte))
    (λ (past : (nat_lt k limit ≡ false) × (limit < suc k)).
    let out : nat_lt (start + k) size ≡ false = lt-leb (suc (start + k)) size (omega (arith, limit_is, past.1, lt)) in
    rw (past.0, out) refl)
    (leb_tells (suc k) limit)
