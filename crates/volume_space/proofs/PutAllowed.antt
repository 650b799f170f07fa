-- Whether data can be put now, by the numbers of the code and by those of the weight; and that a zero at the last place makes a file longer.
use Rattle.std.proofs.Common.{◌≡◌, ◌<◌, ◌≤◌, ℕ, zero, suc, ◌+◌, ◌-◌, ◌*◌, ◌/◌, ◌&&◌, ◌||◌, not, min, nat_le, Bool, true, false, List, [], ◌∷◌, ◌++◌, length, take, drop, replicate, refl, sym, ◌∙◌, ap, arith, append_assoc, length-append, ⊎_elim}
use Rattle.std.specs.Prelude.{Some}
use Rattle.std.proofs.lemmas.Bool.{and_parts, cases_lt, leb-true, lt-ltb, true≢false}
use Rattle.std.proofs.Math.ListN.{drop_of_length-le}
use Rattle.std.proofs.lemmas.List.{append-nil, length-replicate, take_all}
use Rattle.flag_rows.specs.Bits.{count_set, sectors_for}
use Rattle.flag_rows.specs.Runs.{fewest_of}
use Rattle.alloc_bitmap.specs.Map.{free_of}
use Rattle.file_io.specs.Places.{blocks_for}
use Rattle.hfs_model.specs.Step.{padded}
use Rattle.hfs_volume.specs.Content.{VolumeState}
use Rattle.hfs_volume.specs.Weight.{Data, file_extents, free_runs, needs_cut_in, new_blocks_of}
use Rattle.hfs_volume.specs.Writing.{resized_bytes, written_bytes}
use Rattle.volume_base.specs.Changing.{catalog_node}
use Rattle.volume_space.specs.Writing.{IsAt, blocks_put, can_put, data_load, has_more, is_put_now_in, may_overflow, put_load}
use Rattle.volume_base.specs.declared.volume.Volume.{Volume}
use Rattle.volume_space.proofs.PutNumbers.{freed_is, fresh_is}

both_ways : (a b c d : Bool) → (not a && (c && (d && not b))) ≡ (not (a || b) && (c && d))
both_ways true b c d = refl
both_ways false true true true = refl
both_ways false true true false = refl
both_ways false true false d = refl
both_ways false false true true = refl
both_ways false false true false = refl
both_ways false false false d = refl

module _ (v : Volume) (put : Data) (size from long : ℕ) (at : IsAt put size from (from + long)) (some : 0 < v.header.block_size) where
  pub load_is : put_load v size from long ≡ data_load v put
  load_is = λ i. 1 + catalog_node v
      + min (sectors_for (length v.map.used)) (sym (fresh_is put size from (from + long) v.header.block_size at some) i / 4096 + 2 * fewest_of (sym (fresh_is put size from (from + long) v.header.block_size at some) i) (free_runs (free_of v.map)) + sym (freed_is put size from (from + long) v.header.block_size at some) i)

  pub can_is : (k spare extents total : ℕ) (lists : VolumeState) → has_more size (from + long) (blocks_for v.header.block_size size) total ≡ needs_cut_in k lists (Some put) → extents ≡ length (file_extents lists put.id k)
      → can_put v spare extents total size from long ≡ is_put_now_in k v spare lists (Some put)
  can_is k spare extents total lists surplus many =
      both_ways (has_more size (from + long) (blocks_for v.header.block_size size) total) (may_overflow extents (fewest_of (blocks_put v size from long) (free_runs (free_of v.map)))) (nat_le (blocks_put v size from long) (count_set (free_of v.map))) (nat_le (put_load v size from long) spare)
      ∙ (λ i. not (surplus i || may_overflow (many i) (fewest_of (fresh i) (free_runs (free_of v.map)))) && (nat_le (fresh i) (count_set (free_of v.map)) && nat_le (load_is i) spare))
    where
      fresh : blocks_put v size from long ≡ new_blocks_of v.header.block_size put
      fresh = sym (fresh_is put size from (from + long) v.header.block_size at some)

-- where it can be put now there are free blocks, and room, and its record holds its extents
pub can_parts : (v : Volume) (spare extents total size from long : ℕ) → can_put v spare extents total size from long ≡ true → (blocks_put v size from long ≤ count_set (free_of v.map)) × (put_load v size from long ≤ spare) × (extents < 8)
can_parts v spare extents total size from long is =
    let fewest = fewest_of (blocks_put v size from long) (free_runs (free_of v.map)) in
    let one = and_parts (not (has_more size (from + long) (blocks_for v.header.block_size size) total)) (nat_le (blocks_put v size from long) (count_set (free_of v.map)) && (nat_le (put_load v size from long) spare && not (may_overflow extents fewest))) is in
    let two = and_parts (nat_le (blocks_put v size from long) (count_set (free_of v.map))) (nat_le (put_load v size from long) spare && not (may_overflow extents fewest)) one.1 in
    let three = and_parts (nat_le (put_load v size from long) spare) (not (may_overflow extents fewest)) two.1 in
    (leb-true (blocks_put v size from long) (count_set (free_of v.map)) two.0, leb-true (put_load v size from long) spare three.0, few fewest three.1)
  where
    few : (runs : ℕ) → not (may_overflow extents runs) ≡ true → extents < 8
    few runs none = ⊎_elim
        (λ (many : 8 < extents + 1 + runs). absurd (true≢false (sym none ∙ ap (λ b. not b) (lt-ltb 8 (extents + 1 + runs) many))))
        (λ (less : extents + 1 + runs ≤ 8). omega (arith, less))
        (cases_lt 8 (extents + 1 + runs))

-- and no block of it goes first
pub can_no_more : (v : Volume) (spare extents total size from long : ℕ) → can_put v spare extents total size from long ≡ true → has_more size (from + long) (blocks_for v.header.block_size size) total ≡ false
can_no_more v spare extents total size from long is =
    let fewest = fewest_of (blocks_put v size from long) (free_runs (free_of v.map)) in
    none (has_more size (from + long) (blocks_for v.header.block_size size) total)
    (and_parts (not (has_more size (from + long) (blocks_for v.header.block_size size) total)) (nat_le (blocks_put v size from long) (count_set (free_of v.map)) && (nat_le (put_load v size from long) spare && not (may_overflow extents fewest))) is).0
  where
    none : (b : Bool) → not b ≡ true → b ≡ false
    none true is = sym is
    none false is = refl

-- ---- a zero at the last place

zeros_more : (k : ℕ) → replicate {A = ℕ} k 0 ++ (0 ∷ []) ≡ replicate {A = ℕ} (k + 1) 0
zeros_more zero = refl
zeros_more (suc k) = ap (λ (l : List ℕ). 0 ∷ l) (zeros_more k) ∙ (let next : suc (k + 1) ≡ suc k + 1 = omega arith in ap (λ n. replicate {A = ℕ} n 0) next)

pub zero_last : (bytes : List ℕ) (size : ℕ) → length bytes < size → written_bytes (size - 1) (0 ∷ []) bytes ≡ resized_bytes size bytes
zero_last bytes size longer =
    (λ i. front i ++ 0 ∷ [] ++ back i) ∙ append-nil (padded (size - 1) bytes ++ 0 ∷ []) ∙ append_assoc bytes (replicate {A = ℕ} (size - 1 - length bytes) 0) (0 ∷ []) ∙ ap (λ (l : List ℕ). bytes ++ l) (zeros_more (size - 1 - length bytes) ∙ zeros) ∙ sym whole
  where
    long : length (padded (size - 1) bytes) ≡ size - 1
    long = omega (arith, longer, length-append bytes (replicate {A = ℕ} (size - 1 - length bytes) 0), length-replicate {A = ℕ} (size - 1 - length bytes) 0)

    front : take (size - 1) (padded (size - 1) bytes) ≡ padded (size - 1) bytes
    front = take_all (size - 1) (padded (size - 1) bytes) (omega (arith, long))

    back : drop (size - 1 + 1) (padded (size - 1) bytes) ≡ []
    back = drop_of_length-le (padded (size - 1) bytes) {i = size - 1 + 1} (omega (arith, long))

    zeros : replicate {A = ℕ} (size - 1 - length bytes + 1) 0 ≡ replicate {A = ℕ} (size - length bytes) 0
    zeros = let same : size - 1 - length bytes + 1 ≡ size - length bytes = omega (arith, longer) in ap (λ n. replicate {A = ℕ} n 0) same

    whole : take size (padded size bytes) ≡ padded size bytes
    whole = take_all size (padded size bytes) (omega (arith, longer, length-append bytes (replicate {A = ℕ} (size - length bytes) 0), length-replicate {A = ℕ} (size - length bytes) 0))
