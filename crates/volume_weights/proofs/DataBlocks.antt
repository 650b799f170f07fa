-- The numbers of data: how many blocks it takes, and how many overflow records its cost counts.
use Rattle.std.proofs.Common.{◌≡◌, ◌<◌, ◌≤◌, ℕ, ◌+◌, ◌-◌, ◌*◌, ◌/◌, ◌^◌, Bool, true, false, List, [], ◌∷◌, refl, sym, ◌∙◌, ap, subst, arith}
use Rattle.std.specs.Prelude.{◌==◌, ◌&&◌, nat_le, nat_lt, min, max, if◌then◌else◌}
use Rattle.std.proofs.lemmas.Bool.{and_parts, leb-true, ltb-true}
use Rattle.std.proofs.lemmas.Nat.{div_below}
use Rattle.hfs_volume.specs.Cost.{overflow_records}
use Rattle.hfs_volume.specs.Forks.{parts_for}
use Rattle.hfs_volume.specs.Weight.{Data, end_block, extents_edits, first_block, grows, new_blocks_of, old_blocks_of}
use Rattle.volume_weights.specs.DataWeighing.{are_usual}
use Rattle.volume_base.specs.DataWeighing.{data_as}
use Rattle.volume_base.specs.declared.data_cost.Put.{Put}

-- ---- blocks

pub usual_parts : (block : ℕ) (put : Put) → are_usual block put ≡ true → (512 ≤ block) × (put.old_size ≤ 281474976710656) × (put.end ≤ 1099511627776)
usual_parts block put is =
    let one = and_parts (nat_le 512 block) (nat_le put.old_size 281474976710656 && nat_le put.end 1099511627776) is in
    let two = and_parts (nat_le put.old_size 281474976710656) (nat_le put.end 1099511627776) one.1 in
    (leb-true 512 block one.0, leb-true put.old_size 281474976710656 two.0, leb-true put.end 1099511627776 two.1)

parts_low : (bytes block : ℕ) → 512 ≤ block → bytes ≤ 1099511627776 → parts_for bytes block ≤ 2147483648
parts_low bytes block large low = omega (arith, div_below (bytes + block - 1) block 2147483649 (omega (arith, large)) (omega (arith, large, low)))

-- what is written ends at such a block
end_low : (block : ℕ) (put : Put) → 512 ≤ block → put.end ≤ 1099511627776 → end_block block (data_as put) ≤ 2147483648
end_low block put large low = by (nat_lt put.old_size (max put.old_size put.end)) refl
  where
    by : (b : Bool) → nat_lt put.old_size (max put.old_size put.end) ≡ b → (if b then parts_for (max put.old_size put.end) block else parts_for put.end block) ≤ 2147483648
    by true is = parts_low (max put.old_size put.end) block large (omega (arith, low, ltb-true put.old_size (max put.old_size put.end) is))
    by false is = parts_low put.end block large low

pub few_new : (block : ℕ) (put : Put) → are_usual block put ≡ true → new_blocks_of block (data_as put) < 2 ^ 32
few_new block put is = let it = usual_parts block put is in omega (arith, end_low block put it.0 it.2)

pub few_old : (block : ℕ) (put : Put) → are_usual block put ≡ true → old_blocks_of block (data_as put) < 2 ^ 32
few_old block put is = let it = usual_parts block put is in omega (arith, end_low block put it.0 it.2)

-- ---- overflow records

pub few_edits : (extents runs blocks : ℕ) → extents < 2 ^ 32 → runs < 2 ^ 32 → extents_edits extents runs blocks < 2 ^ 32
few_edits extents runs blocks low few = by (blocks == 0)
  where
    by : (b : Bool) → (if b then 0 else overflow_records extents + overflow_records (extents + 1 + runs)) < 2 ^ 32
    by true = omega arith
    by false = omega (arith, low, few)

-- where none is counted by one number of runs, it doesn't matter by another that extents past 2^32 - 1 aren't counted
pub edits_same : (extents runs other blocks : ℕ) → extents_edits (min extents 4294967295) runs blocks ≡ 0 → extents_edits (min extents 4294967295) other blocks ≡ extents_edits extents other blocks
edits_same extents runs other blocks none = by (blocks == 0) none
  where
    by : (b : Bool) → (if b then 0 else overflow_records (min extents 4294967295) + overflow_records (min extents 4294967295 + 1 + runs)) ≡ 0
        → (if b then 0 else overflow_records (min extents 4294967295) + overflow_records (min extents 4294967295 + 1 + other)) ≡ (if b then 0 else overflow_records extents + overflow_records (extents + 1 + other))
    by true is = refl
    by false is = let all : min extents 4294967295 ≡ extents = omega (arith, is) in ap (λ n. overflow_records n + overflow_records (n + 1 + other)) all

-- and some are where some are
pub edits_some : (extents runs blocks : ℕ) → 0 < extents_edits (min extents 4294967295) runs blocks → 0 < extents_edits extents runs blocks
edits_some extents runs blocks some = by (blocks == 0) some
  where
    by : (b : Bool) → 0 < (if b then 0 else overflow_records (min extents 4294967295) + overflow_records (min extents 4294967295 + 1 + runs)) → 0 < (if b then 0 else overflow_records extents + overflow_records (extents + 1 + runs))
    by true is = absurd (omega (arith, is))
    by false is = omega (arith, is)
