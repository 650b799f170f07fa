-- The bits of a fork, sector by sector.
use Rattle.std.proofs.Common.{◌≡◌, ℕ, ◌+◌, ◌-◌, ◌*◌, ◌/◌, ◌%◌, ◌≤◌, ◌<◌, Bool, false, List, [], ◌++◌, length, get_or, slice_get, Option, Some, None, refl, sym, ◌∙◌, ap, arith, ⊎_elim}
use Rattle.std.proofs.lemmas.Bool.{cases_lt}
use Rattle.std.proofs.lemmas.List.{get_or_past}
use Rattle.hx_bytes.specs.declared.extents.Extent.{Extent}
use Rattle.flag_rows.specs.Bits.{bit_of, bits_of, sectors_for}
use Rattle.alloc_bitmap.specs.Fork.{sector_or_none, fork_bit, HoldsBits}
use Rattle.alloc_bitmap.specs.Map.{BlockMap, none}
use Rattle.flag_rows.proofs.ByteLaws.{bits_empty, bits_left, bits_right}
use Rattle.flag_rows.proofs.RowLaws.{length-bits_of, get_or-bits_of}

pub no_sector_bit : (content : List (List ℕ)) (o : Option ℕ) (k : ℕ) → None ≡ o → bit_of (sector_or_none content o) k ≡ false
no_sector_bit content o k is = ap (λ p. bit_of (sector_or_none content p) k) (sym is) ∙ bits_empty [] k refl

pub past_sector_bit : (content : List (List ℕ)) (o : Option ℕ) (at k : ℕ) → Some at ≡ o → length content ≤ at → bit_of (sector_or_none content o) k ≡ false
past_sector_bit content o at k is past = ap (λ p. bit_of (sector_or_none content p) k) (sym is) ∙ ap (λ (l : List ℕ). bit_of l k) (get_or_past content at [] past) ∙ bits_empty [] k refl

-- the bits that were read, with those of one sector more
pub read_more : (content now : List (List ℕ)) (sectors bytes sector new : List ℕ) (at : ℕ) → length bytes ≡ at * 512 → new ≡ bytes ++ sector → now ≡ content → ((k : ℕ) → k < at * 4096 → bit_of bytes k ≡ fork_bit content sectors k)
    → ((j : ℕ) → j < 4096 → bit_of sector j ≡ bit_of (sector_or_none now (slice_get sectors at)) j) → (k : ℕ) → k < (at + 1) * 4096 → bit_of new k ≡ fork_bit content sectors k
read_more content now sectors bytes sector new at size is same before one k lt = ap (λ (l : List ℕ). bit_of l k) is ∙ ⊎_elim
    (λ (low : k < at * 4096). bits_left bytes sector k (omega (arith, low, size)) ∙ before k low)
    (λ (high : at * 4096 ≤ k).
    let place : k / 4096 ≡ at = omega (arith, high, lt) in
    let rest : k % 4096 ≡ k - at * 4096 = omega (arith, high, lt) in
    bits_right bytes sector k (k - at * 4096) (omega (arith, size, high)) ∙ one (k - at * 4096) (omega (arith, high, lt))
    ∙ ap (λ (c : List (List ℕ)). bit_of (sector_or_none c (slice_get sectors at)) (k - at * 4096)) same
    ∙ ap (λ p. bit_of (sector_or_none content (slice_get sectors p)) (k - at * 4096)) (sym place)
    ∙ ap (λ j. bit_of (sector_or_none content (slice_get sectors (k / 4096))) j) (sym rest))
    (cases_lt k (at * 4096))

pub read_all : (content : List (List ℕ)) (sectors bytes : List ℕ) (total : ℕ) (flags : List Bool) → flags ≡ bits_of total bytes → ((k : ℕ) → k < (total + 4095) / 4096 * 4096 → bit_of bytes k ≡ fork_bit content sectors k) → HoldsBits content sectors flags
read_all content sectors bytes total flags is each = λ k lt.
    let below : k < total = omega (arith, lt, ap (λ (l : List Bool). length l) is, length-bits_of total bytes) in
    sym (each k (omega (arith, below))) ∙ sym (ap (λ (l : List Bool). get_or l k false) is ∙ get_or-bits_of total bytes k false below)

abbrev pub fresh_map : List Bool → ℕ → List Extent → ℕ → BlockMap
fresh_map used n fork per_block = record { used = used; held = none n; changed = none (sectors_for n); kept_used = used; kept_held = none n; fork = fork; per_block = per_block }

pub loaded : (map_ : BlockMap) (flags : List Bool) (total : ℕ) (copy fork : List Extent) (per_block : ℕ) → map_ ≡ fresh_map flags (length flags) copy per_block → length flags ≡ total → copy ≡ fork → map_ ≡ fresh_map map_.used total fork per_block
loaded map_ flags total copy fork per_block is long same =
    is ∙ ap (λ n. fresh_map flags n copy per_block) long ∙ ap (λ (f : List Extent). fresh_map flags total f per_block) same ∙ ap (λ (u : List Bool). fresh_map u total fork per_block) (sym (ap (λ (m : BlockMap). m.used) is))
