-- A part of a value that is put into a sector.
use Rattle.std.proofs.Common.{◌≡◌, ◌⊎◌, ℕ, suc, ◌+◌, ◌-◌, ◌≤◌, ◌<◌, ◌++◌, true, false, ◌&&◌, Bool, nat_le, nat_lt, if◌then◌else◌, List, length, get_or, take, drop, min, max, inl, inr, refl, sym, ◌∙◌, ap, arith, ⊎_elim, length-take, length-drop}
use Rattle.std.proofs.lemmas.Bool.Decides.{leb_tells}
use Rattle.std.proofs.lemmas.List.{get_or-append_right, get_or-drop, get_or-take, get_or_append_left, length-take-le}
use borrow.Rule.Slice.PartMut.{put_mid}
use Rattle.hx_bytes.specs.Field.{put_at}
use Rattle.hx_bytes.proofs.Laws.{get_or-put_at}
use Rattle.hx_bytes.proofs.Parts.{put_whole_part}
use Rattle.file_io.proofs.PartLaws.{same_part}

-- a list that is written over in the middle, item by item
mid_inside : (xs ys : List ℕ) (at n k : ℕ) → length ys ≡ n → at ≤ length xs → at ≤ k → k < at + n → get_or (put_mid at n xs ys) k 0 ≡ get_or ys (k - at) 0
mid_inside xs ys at n k long fits low high =
    get_or-append_right (take at xs) (ys ++ drop n (drop at xs)) at k 0 (length-take-le at xs fits) low
    ∙ get_or_append_left ys (drop n (drop at xs)) 0 (k - at) (omega (arith, long, low, high))

mid_outside : (xs ys : List ℕ) (at n k : ℕ) → length ys ≡ n → at + n ≤ length xs → (k < at) ⊎ (at + n ≤ k) → get_or (put_mid at n xs ys) k 0 ≡ get_or xs k 0
mid_outside xs ys at n k long fits out =
    ap (λ (l : List ℕ). get_or l k 0) (put_whole_part xs ys at n long)
    ∙ get_or-put_at xs ys at k (omega (arith, long, fits)) (⊎_elim (λ a. inl a) (λ b. inr (omega (arith, long, b))) out)

-- the bytes of a value that fall into a sector, from byte `low` of the file up to `end`
pub part_put : (sector value part : List ℕ) (low end from start k : ℕ) → length sector ≡ 512 → part ≡ take (end - from - (low - from)) (drop (low - from) value) → low ≡ max from start → end ≡ min (from + length value) (start + 512) → low < end → k < 512
    → get_or (put_mid (low - start) (end - start - (low - start)) sector part) k 0 ≡ (if nat_le from (start + k) && nat_lt (start + k) (from + length value) then get_or value (start + k - from) 0 else get_or sector k 0)
part_put sector value part low end from start k whole is low_is end_is some lt =
    let long : length part ≡ end - start - (low - start) = omega (arith, ap (λ (l : List ℕ). length l) is, length-take (end - from - (low - from)) (drop (low - from) value), length-drop (low - from) value, low_is, end_is, some) in
    each long ∙ ap (λ (b : Bool). if b then get_or value (start + k - from) 0 else get_or sector k 0)
    (same_part low end from (from + length value) start (start + k) low_is (omega arith) (omega (arith, lt)) (omega (arith, some)) (omega (arith, end_is)) (omega (arith, end_is, some)))
  where
    inside : length part ≡ end - start - (low - start) → low ≤ start + k → start + k < end → get_or (put_mid (low - start) (end - start - (low - start)) sector part) k 0 ≡ get_or value (start + k - from) 0
    inside long below above =
        let place : (low - from) + (k - (low - start)) ≡ start + k - from = omega (arith, low_is, below) in
        mid_inside sector part (low - start) (end - start - (low - start)) k long (omega (arith, whole, end_is, some)) (omega (arith, below)) (omega (arith, low_is, below, above))
        ∙ ap (λ (l : List ℕ). get_or l (k - (low - start)) 0) is
        ∙ get_or-take (end - from - (low - from)) (drop (low - from) value) (k - (low - start)) 0 (omega (arith, low_is, below, above))
        ∙ get_or-drop (low - from) value (k - (low - start)) 0
        ∙ ap (λ (j : ℕ). get_or value j 0) place

    outside : length part ≡ end - start - (low - start) → (start + k < low) ⊎ (end ≤ start + k) → get_or (put_mid (low - start) (end - start - (low - start)) sector part) k 0 ≡ get_or sector k 0
    outside long out =
        mid_outside sector part (low - start) (end - start - (low - start)) k long (omega (arith, whole, end_is, some))
        (⊎_elim (λ (a : start + k < low). inl (omega (arith, a, low_is))) (λ (b : end ≤ start + k). inr (omega (arith, b, low_is, some))) out)

    each : length part ≡ end - start - (low - start) → get_or (put_mid (low - start) (end - start - (low - start)) sector part) k 0 ≡ (if nat_le low (start + k) && nat_lt (start + k) end then get_or value (start + k - from) 0 else get_or sector k 0)
    each long = ⊎_elim
        (λ (a : (nat_le low (start + k) ≡ true) × (low ≤ start + k)). ⊎_elim
        (λ (b : (nat_lt (start + k) end ≡ true) × (suc (start + k) ≤ end)). rw (a.0, b.0) (inside long a.1 (omega (arith, b.1))))
        (λ (b : (nat_lt (start + k) end ≡ false) × (end < suc (start + k))). rw (a.0, b.0) (outside long (inr (omega (arith, b.1)))))
        (leb_tells (suc (start + k)) end))
        (λ (a : (nat_le low (start + k) ≡ false) × (start + k < low)). rw a.0 (outside long (inl a.1)))
        (leb_tells low (start + k))
