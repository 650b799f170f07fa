-- The block at a place of a fork, by the number of blocks before an extent.
use Rattle.std.proofs.Common.{◌≡◌, ℕ, ◌+◌, ◌-◌, ◌≤◌, ◌<◌, List, [], ◌∷◌, ◌++◌, Some, None, length, take, drop, get_or, set, slice_get, refl, sym, ◌∙◌, ap, arith, ⊎_elim, length-append}
use Rattle.std.specs.List.{range_with_len}
use Rattle.std.proofs.lemmas.Bool.{cases_lt}
use Rattle.std.proofs.lemmas.List.{append-nil, take-append-drop, take_more, take_all, get_or_append_left, get_or-append_right, get_or-set_same, get_or-set_other}
use Rattle.std.proofs.lemmas.List.Concat.{flat_map-append}
use Rattle.std.proofs.lemmas.List.FromFn.{length-range_with_len, get_or-range_with_len}
use Rattle.std.proofs.lemmas.Option.{slice_get_past, slice_get-get_or}
use Rattle.hx_bytes.specs.declared.extents.Extent.{Extent}
use Rattle.fork_map.specs.Blocks.{blocks_of}
use Rattle.fork_map.specs.Sums.{AreSums}
use Rattle.fork_map.proofs.KeptBlocks.{blocks_more}

abbrev range : Extent → List ℕ
range e = range_with_len e.start e.count

-- the blocks before an extent, its own, and those behind it
blocks_around : (es : List Extent) (i : ℕ) (d : Extent) → i < length es → blocks_of es ≡ (blocks_of (take i es) ++ range (get_or es i d)) ++ blocks_of (drop (i + 1) es)
blocks_around es i d low =
    ap blocks_of (sym (take-append-drop (i + 1) es)) ∙ flat_map-append (λ (x : Extent). range_with_len x.start x.count) (take (i + 1) es) (drop (i + 1) es)
    ∙ ap (λ l. l ++ blocks_of (drop (i + 1) es))
    (ap blocks_of (take_more es i d low) ∙ flat_map-append (λ (x : Extent). range_with_len x.start x.count) (take i es) (get_or es i d ∷ []) ∙ ap (λ l. blocks_of (take i es) ++ l) (append-nil (range (get_or es i d))))

pub block_here : (es : List Extent) (i n : ℕ) (d : Extent) → i < length es → length (blocks_of (take i es)) ≤ n → n < length (blocks_of (take i es)) + (get_or es i d).count
    → slice_get (blocks_of es) n ≡ Some ((get_or es i d).start + (n - length (blocks_of (take i es))))
block_here es i n d low from to =
    let e : Extent = get_or es i d in
    let front : List ℕ = blocks_of (take i es) in
    let here : List ℕ = front ++ range e in
    let long = length-append front (range e) in
    let own = length-range_with_len e.start e.count in
    let whole = length-append here (blocks_of (drop (i + 1) es)) in
    ap (λ l. slice_get l n) (blocks_around es i d low)
    ∙ slice_get-get_or (here ++ blocks_of (drop (i + 1) es)) n 0 (omega (arith, whole, long, own, to))
    ∙ ap (λ (k : ℕ). Some k)
    (get_or_append_left here (blocks_of (drop (i + 1) es)) 0 n (omega (arith, long, own, to))
    ∙ get_or-append_right front (range e) (length front) n 0 refl from
    ∙ get_or-range_with_len e.start e.count (n - length front) 0 (omega (arith, from, to)))

pub none_behind : (es : List Extent) (n : ℕ) → length (blocks_of es) ≤ n → slice_get (blocks_of es) n ≡ None
none_behind es n past = slice_get_past (blocks_of es) n past

-- all blocks come before the end of the last extent
pub blocks_all : (es : List Extent) (k : ℕ) → length es ≤ k → length (blocks_of (take k es)) ≡ length (blocks_of es)
blocks_all es k past = ap (λ l. length (blocks_of l)) (take_all k es past)

-- the sums of the first extents, and of one more
pub sums_more : (es : List Extent) (sums : List ℕ) (at sum : ℕ) → at < length sums → ((k : ℕ) → k < at → get_or sums k 0 ≡ length (blocks_of (take k es))) → sum ≡ length (blocks_of (take at es))
    → (k : ℕ) → k < at + 1 → get_or (set sums at sum) k 0 ≡ length (blocks_of (take k es))
sums_more es sums at sum low done is k less = ⊎_elim
    (λ (before : k < at). get_or-set_other sums at k sum 0 (λ same. omega (arith, before, same)) ∙ done k before)
    (λ (here : at ≤ k). let same : k ≡ at = omega (arith, here, less) in
    ap (λ j. get_or (set sums at sum) j 0) same ∙ get_or-set_same sums at sum 0 low ∙ is ∙ ap (λ j. length (blocks_of (take j es))) (sym same))
    (cases_lt k at)

-- what stands in the extent before which as many blocks come as the last number says that is at most n
module _ (es : List Extent) (sums : List ℕ) (count n x : ℕ) (d : Extent) (are : AreSums es sums) (some : 0 < count) (within : count ≤ length sums) (read : x ≡ get_or sums (count - 1) 0) (below : get_or sums (count - 1) 0 ≤ n) where
  sum_is : x ≡ length (blocks_of (take (count - 1) es))
  sum_is = read ∙ are.each (count - 1) (omega (arith, some, within, are.long))

  pub found_there : n - x < (get_or es (count - 1) d).count → Some ((get_or es (count - 1) d).start + (n - x)) ≡ slice_get (blocks_of es) n
  found_there inside =
      ap (λ k. Some ((get_or es (count - 1) d).start + (n - k))) sum_is
      ∙ sym (block_here es (count - 1) n d (omega (arith, some, within, are.long)) (omega (arith, below, read, sum_is)) (omega (arith, inside, sum_is, below, read)))

  pub none_there : (get_or es (count - 1) d).count ≤ n - x → (count < length sums → n < get_or sums count 0) → None ≡ slice_get (blocks_of es) n
  none_there past above =
      let next : length (blocks_of (take (count - 1 + 1) es)) ≡ length (blocks_of (take (count - 1) es)) + (get_or es (count - 1) d).count = blocks_more es (count - 1) d (omega (arith, some, within, are.long)) in
      let whole : length (blocks_of (take count es)) ≤ n = omega (arith, ap (λ k. length (blocks_of (take k es))) {x = count - 1 + 1} {y = count} (omega (arith, some)), next, past, sum_is, read, below) in
      ⊎_elim
      (λ (more : count < length sums). absurd (omega (arith, above more, whole, are.each count (omega (arith, more, are.long)))))
      (λ (last : length sums ≤ count). sym (none_behind es n (omega (arith, whole, blocks_all es count (omega (arith, last, are.long))))))
      (cases_lt count (length sums))
