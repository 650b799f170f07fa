-- A stretch of bytes written field by field: what is there so far is carried along as one list.
use Rattle.std.proofs.Common.{◌≡◌, ℕ, ◌+◌, ◌<◌, ◌≤◌, List, [], ◌∷◌, ◌++◌, length, take, drop, set, refl, sym, ◌∙◌, ap, arith, append_assoc, length-drop}
use Rattle.std.proofs.lemmas.List.{length-append, length-take, drop-drop, take-append-drop}
use Rattle.hx_bytes.specs.Field.{put_at, big}
use Rattle.hx_bytes.specs.declared.fields.Order.TheVariants.{Big}
use Rattle.hx_bytes.proofs.Laws.{length-number_bytes}
use Rattle.hx_bytes.proofs.Putting.{put_at-grows, put_at-nothing, put_at-whole, put_at-byte}

-- the bytes `front`, so many of them, stand in place of those of `old` from `at` on
pub record Written (old cur front : List ℕ) (at long : ℕ) : Type 0 where
  pub is : cur ≡ put_at old at front
  pub front_length : length front ≡ long
  pub fits : at ≤ length old

-- at first nothing is written
pub written_none : (old : List ℕ) (at : ℕ) → at ≤ length old → Written old old [] at 0
written_none old at fits = record { is = sym (put_at-nothing old at); front_length = refl; fits = fits }

-- one part more, right behind
pub written_more : {old cur front : List ℕ} {at long : ℕ} (new more : List ℕ) (n : ℕ) → Written old cur front at long → length more ≡ n → new ≡ put_at cur (at + long) more → Written old new (front ++ more) at (long + n)
written_more {old} {cur} {front} {at} {long} new more n so_far size now = record {
  is = put_at-grows old cur new front more at (at + long) so_far.fits (omega (arith, so_far.front_length)) so_far.is now;
  front_length = omega (arith, length-append front more, so_far.front_length);
  fits = so_far.fits;
}

-- one number more
pub written_number : {old cur front : List ℕ} {at long : ℕ} (new : List ℕ) (n x : ℕ) → Written old cur front at long → new ≡ put_at cur (at + long) (big n x) → Written old new (front ++ big n x) at (long + n)
written_number new n x so_far now = written_more new (big n x) n so_far (length-number_bytes Big n x) now

-- the first number
pub written_first : (old new : List ℕ) (at n x : ℕ) → at ≤ length old → new ≡ put_at old at (big n x) → Written old new (big n x) at n
written_first old new at n x fits now = record { is = now; front_length = length-number_bytes Big n x; fits = fits }

-- one byte more
pub written_byte : {old cur front : List ℕ} {at long : ℕ} (byte : ℕ) → Written old cur front at long → at + long < length cur → Written old (set cur (at + long) byte) (front ++ byte ∷ []) at (long + 1)
written_byte {old} {cur} {front} {at} {long} byte so_far within = written_more _ (byte ∷ []) 1 so_far refl (put_at-byte cur (at + long) byte within)

-- a gap, where the old bytes stay
pub written_gap : {old cur front : List ℕ} {at long : ℕ} (n : ℕ) → Written old cur front at long → at + long + n ≤ length old → Written old cur (front ++ take n (drop (at + long) old)) at (long + n)
written_gap {old} {cur} {front} {at} {long} n so_far fits =
    let kept = take n (drop (at + long) old) in
    let size : length kept ≡ n = omega (arith, length-take n (drop (at + long) old), length-drop (at + long) old) in
    let rest : drop (at + length front) old ≡ kept ++ drop (at + length (front ++ kept)) old =
    ap (λ (k : ℕ). drop (at + k) old) so_far.front_length
    ∙ sym (take-append-drop n (drop (at + long) old))
    ∙ ap (λ (l : List ℕ). kept ++ l) (drop-drop n (at + long) old)
    ∙ ap (λ (k : ℕ). kept ++ drop k old) (omega (arith, length-append front kept, so_far.front_length, size)) in
    record {
      is = so_far.is ∙ ap (λ (l : List ℕ). take at old ++ front ++ l) rest ∙ simp append_assoc;
      front_length = omega (arith, length-append front kept, so_far.front_length, size);
      fits = so_far.fits;
    }

-- all of the old bytes
pub written_whole : {old cur front : List ℕ} {long : ℕ} → Written old cur front 0 long → long ≡ length old → cur ≡ front
written_whole {old} {cur} {front} {long} so_far all = so_far.is ∙ put_at-whole old front (omega (arith, so_far.front_length))

-- the same bytes, said otherwise
pub written_as : {old cur front : List ℕ} {at long : ℕ} (other : List ℕ) → Written old cur front at long → front ≡ other → Written old cur other at long
written_as {old} {cur} {front} {at} {long} other so_far same = record {
  is = so_far.is ∙ ap (λ (l : List ℕ). put_at old at l) same;
  front_length = ap (λ (l : List ℕ). length l) (sym same) ∙ so_far.front_length;
  fits = so_far.fits;
}
