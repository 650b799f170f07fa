-- The bits of blocks, judged one by one.
use Rattle.std.proofs.Common.{◌≡◌, ◌<◌, ◌≤◌, ℕ, zero, suc, ◌+◌, ◌-◌, Bool, false, ◌&&◌, List, [], ◌∷◌, length, map, get_or, refl, sym, ◌∙◌, ap, subst, arith, ⊎_elim, T}
use Rattle.std.specs.Prelude.{Contains}
use Rattle.std.specs.List.{range_with_len}
use Rattle.std.proofs.lemmas.Bool.{cases_lt}
use Rattle.std.proofs.lemmas.List.FromFn.{length-map-range_with_len, get_or-map-range_with_len, map-range_with_len_more}
use Rattle.flag_rows.specs.Bits.{count_set}
use Rattle.fsck_list.specs.declared.finding.Finding.{Finding}
use Rattle.fsck_list.specs.Kept.{IsListed}
use Rattle.volume_header.specs.declared.header.VolumeHeader.{VolumeHeader}
use Rattle.hfs_volume.specs.Content.{VolumeState, is_set}
use Rattle.hfs_volume.specs.Blocks.{is_among, used_in, count_used}
use Rattle.hfs_volume.specs.Broken.{Want, want, bit, bit_wants, free_wants}
use Rattle.hfs_volume.proofs.Members.{all_of, each_of, in_one, map_cases, map_stands}
use Rattle.hfs_volume.proofs.BlockWants.{in_range, range_bounds}
use Rattle.fsck_core.specs.Judged.{Judged, AddsUnmet}
use Rattle.fsck_core.specs.Flags.{AreBits, AreUsed, bit_want}
use Rattle.fsck_core.proofs.JudgedLaws.{judged_both, adds_both}
use Rattle.fsck_core.proofs.RowLaws.{count_map}

-- the bits of so many blocks
abbrev pub bits_upto : List Bool → List Bool → ℕ → List Want
bits_upto flags used n = map (bit_want flags used) (range_with_len 0 n)

pub bits_more : (flags used : List Bool) (k : ℕ) (old mid new : List Finding) (one other both : Bool) → both ≡ (other && one)
    → Judged 13 (bits_upto flags used k) old mid one → Judged 13 (bit_want flags used k ∷ []) mid new other → Judged 13 (bits_upto flags used (k + 1)) old new both
bits_more flags used k old mid new one other both is first second =
    subst (λ (l : List Want). Judged 13 l old new both) (sym (map-range_with_len_more (bit_want flags used) 0 k k (omega arith)))
    (judged_both 13 (bits_upto flags used k) (bit_want flags used k ∷ []) old mid new one other both is first second)

bit_stands : (flags used : List Bool) (n k : ℕ) → k < n → Contains (bits_upto flags used n) (bit_want flags used k)
bit_stands flags used n k less = map_stands (bit_want flags used) (range_with_len 0 n) k (in_range 0 n k (omega arith) (omega (arith, less)))

-- where the next bit stops it, what was added are bits of the blocks
pub bits_added : (flags used : List Bool) (n k : ℕ) (old mid new : List Finding) → k < n → AddsUnmet 13 (bits_upto flags used k) old mid → AddsUnmet 13 (bit_want flags used k ∷ []) mid new → AddsUnmet 13 (bits_upto flags used n) old new
bits_added flags used n k old mid new inside first second = adds_both 13 (bits_upto flags used k) (bit_want flags used k ∷ []) (bits_upto flags used n) old mid new
    (λ w stands.
    let at = map_cases (bit_want flags used) (range_with_len 0 k) w stands in
    let low = range_bounds 0 k at.0 at.1 in
    subst (λ (v : Want). Contains (bits_upto flags used n) v) (sym at.2) (bit_stands flags used n at.0 (omega (arith, low.1, inside))))
    (λ w stands. subst (λ (v : Want). Contains (bits_upto flags used n) v) (sym (in_one (bit_want flags used k) w stands)) (bit_stands flags used n k inside))
    first second

-- where a bit isn't the one wanted, and the findings of all bits behind it are listed, the bits behind it don't have to be judged
pub bits_full : (flags used : List Bool) (n k : ℕ) (old mid new : List Finding) (one : Bool) → k < n → Judged 13 (bits_upto flags used k) old mid one → Judged 13 (bit_want flags used k ∷ []) mid new false
    → ((other : Finding) → other.rule ≡ 13 → k + 1 ≤ other.place → IsListed new other) → Judged 13 (bits_upto flags used n) old new false
bits_full flags used n k old mid new one inside first second full =
    let front : Judged 13 (bits_upto flags used (k + 1)) old new false = bits_more flags used k old mid new one false false refl first second in
    record {
      tells = (
        λ is. absurd (subst T (sym is) tt),
        λ all. second.tells.1 (all_of (λ (w : Want). w.found ≡ w.wanted) (bit_want flags used k ∷ []) (λ w stands.
            subst (λ (v : Want). v.found ≡ v.wanted) (sym (in_one (bit_want flags used k) w stands))
            (each_of (λ (v : Want). v.found ≡ v.wanted) (bits_upto flags used n) all (bit_want flags used k) (bit_stands flags used n k inside)))),
      );
      listed = λ f unmet.
          let at = map_cases (bit_want flags used) (range_with_len 0 n) (want f.place f.found f.wanted) unmet.2 in
          let here : f.place ≡ at.0 = ap (λ (w : Want). w.place) at.2 in
          ⊎_elim
          (λ (low : at.0 < k + 1). front.listed f (unmet.0, unmet.1, subst (λ (v : Want). Contains (bits_upto flags used (k + 1)) v) (sym at.2) (bit_stands flags used (k + 1) at.0 low)))
          (λ (high : k + 1 ≤ at.0). full f unmet.0 (omega (arith, high, here)))
          (cases_lt at.0 (k + 1));
      still = front.still;
      each = bits_added flags used n k old mid new inside first.each second.each;
    }

same_over : {X : Type 0} (f g : ℕ → X) (a n : ℕ) → ((k : ℕ) → a ≤ k → k < a + n → f k ≡ g k) → map f (range_with_len a n) ≡ map g (range_with_len a n)
same_over f g a zero same = refl
same_over f g a (suc n) same = λ i. same a (omega arith) (omega arith) i ∷ same_over f g (a + 1) n (λ k low high. same k (omega (arith, low)) (omega (arith, high))) i

flag_at : (f : ℕ → Bool) (flags : List Bool) (n k : ℕ) → flags ≡ map f (range_with_len 0 n) → k < n → get_or flags k false ≡ f k
flag_at f flags n k are less = ap (λ (l : List Bool). get_or l k false) are ∙ get_or-map-range_with_len f 0 n k k false less (omega arith)

-- the bits of all blocks are those of the rule
pub bits_are : (volume : VolumeState) (flags used : List Bool) → AreBits volume flags → AreUsed volume used → bits_upto flags used (length flags) ≡ bit_wants volume
bits_are volume flags used bits uses =
    let n : ℕ = volume.head.total_blocks in
    let long : length flags ≡ n = ap (λ (l : List Bool). length l) bits ∙ length-map-range_with_len (is_set volume) 0 n in
    ap (bits_upto flags used) long
    ∙ same_over (bit_want flags used) (λ block. want block (bit (is_set volume block)) (bit (is_among (used_in volume) block))) 0 n (λ k low high.
    let less : k < n = omega (arith, high) in
    (λ i. want k (bit (flag_at (is_set volume) flags n k bits less i)) (bit (flag_at (is_among (used_in volume)) used n k uses less i))))

-- so many blocks are used as are marked
pub free_are : (volume : VolumeState) (head : VolumeHeader) (used : List Bool) (wanted : ℕ) → volume.head ≡ head → AreUsed volume used → wanted ≡ head.total_blocks - count_set used → want 48 head.free_blocks wanted ∷ [] ≡ free_wants volume
free_are volume head used wanted is uses less =
    let count : count_set used ≡ count_used volume.head.total_blocks (used_in volume) = ap count_set uses ∙ count_map (is_among (used_in volume)) (λ flag. flag) (range_with_len 0 volume.head.total_blocks) in
    (λ i. want 48 head.free_blocks (less i) ∷ [])
    ∙ (λ i. want 48 head.free_blocks (head.total_blocks - count i) ∷ [])
    ∙ sym (ap (λ (h : VolumeHeader). want 48 h.free_blocks (h.total_blocks - count_used volume.head.total_blocks (used_in volume)) ∷ []) is)
