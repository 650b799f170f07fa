-- Where a cursor stands after a step.
use Rattle.std.proofs.Common.{◌≡◌, ℕ, suc, zero, ◌+◌, ◌-◌, ◌≤◌, ◌<◌, List, [], ◌∷◌, ◌++◌, Some, None, length, drop, get_or, slice_get, refl, sym, ◌∙◌, ap, arith}
use Rattle.std.specs.List.{range_with_len}
use Rattle.std.proofs.lemmas.List.{drop-drop, drop_all, drop_more, drop-append-le, get_or_default}
use Rattle.std.proofs.lemmas.List.FromFn.{length-range_with_len}
use Rattle.std.proofs.Math.Seq.{drop-append-add}
use Rattle.hx_bytes.specs.declared.extents.Extent.{Extent}
use Rattle.fork_map.specs.declared.cursor.Cursor.{Cursor}
use Rattle.fork_map.specs.Blocks.{blocks_of}
use Rattle.fork_map.specs.Cut.{back}
use Rattle.fork_map.specs.Cursors.{IsAt}
use Rattle.fork_map.proofs.Laws.{blocks-back}
use Rattle.fork_map.proofs.Ranges.{drop-range}

abbrev pub cursor : ℕ → ℕ → Cursor
cursor index offset = record { index = index; offset = offset }

-- a list from a place on, by what comes first
head_there : (xs rest : List ℕ) (n x : ℕ) → drop n xs ≡ x ∷ rest → slice_get xs n ≡ Some x
head_there [] rest zero x is = absurd (cc is)
head_there [] rest (suc n) x is = absurd (cc is)
head_there (y ∷ xs) rest zero x is = ap (λ (l : List ℕ). slice_get l 0) is
head_there (y ∷ xs) rest (suc n) x is = head_there xs rest n x is

none_there : (xs : List ℕ) (n : ℕ) → drop n xs ≡ [] → slice_get xs n ≡ None
none_there [] n is = refl
none_there (y ∷ xs) zero is = absurd (cc is)
none_there (y ∷ xs) (suc n) is = none_there xs n is

nothing_left : (n : ℕ) → drop {A = ℕ} n [] ≡ []
nothing_left zero = refl
nothing_left (suc n) = refl

-- the blocks from an extent on
blocks_here : (es : List Extent) (i : ℕ) (d : Extent) → i < length es → blocks_of (drop i es) ≡ range_with_len (get_or es i d).start (get_or es i d).count ++ blocks_of (drop (i + 1) es)
blocks_here es i d lt = ap (λ (l : List Extent). blocks_of l) (drop_more es i d lt)

pub at_place : (es : List Extent) (i o n : ℕ) → ((d : Extent) → i < length es → o < (get_or es i d).count) → back n es ≡ back o (drop i es) → IsAt es (cursor i o) n
at_place es i o n inside is = record {
  inside = λ d lt. omega (arith, inside d lt);
  rest = sym (blocks-back o (drop i es)) ∙ ap (λ (l : List Extent). blocks_of l) (sym is) ∙ blocks-back n es;
}

-- an extent whose blocks were all given is left behind
pub at_next : (es : List Extent) (i o n : ℕ) (d : Extent) → i < length es → (get_or es i d).count ≤ o → IsAt es (cursor i o) n → IsAt es (cursor (i + 1) 0) n
at_next es i o n d lt past s =
    let e : Extent = get_or es i d in
    let all : length (range_with_len e.start e.count) + 0 ≡ o = omega (arith, past, s.inside d lt, length-range_with_len e.start e.count) in
    record {
      inside = λ other more. omega arith;
      rest = sym (ap (λ (l : List ℕ). drop o l) (blocks_here es i d lt)
          ∙ ap (λ k. drop k (range_with_len e.start e.count ++ blocks_of (drop (i + 1) es))) (sym all)
          ∙ drop-append-add (range_with_len e.start e.count) (blocks_of (drop (i + 1) es)) 0) ∙ s.rest;
    }

-- the blocks that are left, by the first of them
first_left : (es : List Extent) (i o k : ℕ) (d : Extent) → i < length es → o + suc k ≡ (get_or es i d).count
    → drop o (blocks_of (drop i es)) ≡ ((get_or es i d).start + o) ∷ (range_with_len ((get_or es i d).start + o + 1) k ++ blocks_of (drop (i + 1) es))
first_left es i o k d lt is =
    let e : Extent = get_or es i d in
    ap (λ (l : List ℕ). drop o l) (blocks_here es i d lt)
    ∙ drop-append-le o (range_with_len e.start e.count) (blocks_of (drop (i + 1) es)) (omega (arith, is, length-range_with_len e.start e.count))
    ∙ ap (λ (l : List ℕ). l ++ blocks_of (drop (i + 1) es)) (drop-range o e.start e.count (suc k) is)

pub at_block : (es : List Extent) (i o n : ℕ) (d : Extent) → i < length es → o < (get_or es i d).count → IsAt es (cursor i o) n → Some ((get_or es i d).start + o) ≡ slice_get (blocks_of es) n
at_block es i o n d lt inside s =
    let e : Extent = get_or es i d in
    sym (head_there (blocks_of es) (range_with_len (e.start + o + 1) (e.count - o - 1) ++ blocks_of (drop (i + 1) es)) n (e.start + o)
    (sym s.rest ∙ first_left es i o (e.count - o - 1) d lt (omega (arith, inside))))

pub at_behind : (es : List Extent) (i o n : ℕ) (d : Extent) → i < length es → o < (get_or es i d).count → IsAt es (cursor i o) n → IsAt es (cursor i (o + 1)) (n + 1)
at_behind es i o n d lt inside s = record {
  inside = λ other more. let same : get_or es i other ≡ get_or es i d = get_or_default es i other d lt in omega (arith, inside, ap (λ (e : Extent). e.count) same);
  rest = sym (drop-drop 1 o (blocks_of (drop i es))) ∙ ap (λ (l : List ℕ). drop 1 l) s.rest ∙ drop-drop 1 n (blocks_of es);
}

pub at_end : (es : List Extent) (i o n : ℕ) → length es ≤ i → IsAt es (cursor i o) n → None ≡ slice_get (blocks_of es) n
at_end es i o n past s =
    let none : drop i es ≡ [] = drop_all i es past in
    sym (none_there (blocks_of es) n (sym s.rest ∙ ap (λ (l : List Extent). drop o (blocks_of l)) none ∙ nothing_left o))
