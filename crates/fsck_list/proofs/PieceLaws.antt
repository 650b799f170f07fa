-- Flags in pieces, by index.
use Rattle.std.proofs.Common.{◌≡◌, ◌≢◌, ℕ, suc, ◌+◌, ◌*◌, ◌/◌, ◌%◌, ◌^◌, ◌≤◌, ◌<◌, Bool, true, false, ◌&&◌, nat_le, nat_lt, if◌then◌else◌, List, [], length, get_or, set, replicate, refl, sym, ◌∙◌, ap, arith, ⊎_elim}
use Rattle.std.proofs.lemmas.List.{same_lists, get_or_past, get_or_default, length-replicate, get_or-replicate, get_or-set_same, get_or-set_other}
use Rattle.std.proofs.lemmas.List.FromFn.{length-map-range_with_len, get_or-map-range_with_len}
use Rattle.std.proofs.lemmas.Bool.{cases_lt, cases_eq}
use Rattle.std.proofs.lemmas.Bool.Decides.{leb_tells}
use Rattle.hx_bytes.specs.declared.extents.Extent.{Extent}
use Rattle.flag_rows.specs.Bits.{has, mark}
use Rattle.flag_rows.proofs.RowLaws.{get_or-mark, length-mark}
use Rattle.fsck_list.specs.Pieces.{flag_at, flags_in, AreWhole, ArePieces}

pub length-flags : (n : ℕ) (pieces : List (List Bool)) → length (flags_in n pieces) ≡ n
length-flags n pieces = length-map-range_with_len (λ k. flag_at pieces k) 0 n

pub get_or-flags : (n : ℕ) (pieces : List (List Bool)) (k : ℕ) (d : Bool) → k < n → get_or (flags_in n pieces) k d ≡ flag_at pieces k
get_or-flags n pieces k d lt = get_or-map-range_with_len (λ j. flag_at pieces j) 0 n k k d lt (omega arith)

-- the same flags at each place
pub same_flags : (n : ℕ) (old new : List (List Bool)) → ((k : ℕ) → flag_at new k ≡ flag_at old k) → flags_in n new ≡ flags_in n old
same_flags n old new same = same_lists (flags_in n new) (flags_in n old) (length-flags n new ∙ sym (length-flags n old))
    (λ k d lt. let below : k < n = omega (arith, lt, length-flags n new) in get_or-flags n new k d below ∙ same k ∙ sym (get_or-flags n old k d below))

-- flags that are set at the places of an extent
pub marked_flags : (n : ℕ) (old new : List (List Bool)) (e : Extent) → e.start + e.count ≤ n → ((k : ℕ) → flag_at new k ≡ (if has e k then true else flag_at old k)) → flags_in n new ≡ mark (flags_in n old) e true
marked_flags n old new e fits each =
    let inside : e.start + e.count ≤ length (flags_in n old) = omega (arith, fits, length-flags n old) in
    same_lists (flags_in n new) (mark (flags_in n old) e true) (length-flags n new ∙ sym (length-mark (flags_in n old) e true inside ∙ length-flags n old))
    (λ k d lt. let below : k < n = omega (arith, lt, length-flags n new) in
    get_or-flags n new k d below ∙ each k ∙ ap (λ b. if has e k then true else b) (sym (get_or-flags n old k d below)) ∙ sym (get_or-mark (flags_in n old) e true k d inside))

-- ---- where all pieces are lacking
lacking_at : (m i : ℕ) → get_or {A = List Bool} (replicate m []) i [] ≡ []
lacking_at m i = ⊎_elim (λ lt. get_or-replicate {A = List Bool} m i [] [] lt) (λ past. get_or_past {X = List Bool} (replicate m []) i [] (omega (arith, past, length-replicate {A = List Bool} m []))) (cases_lt i m)

none_set : (m k : ℕ) → flag_at (replicate m []) k ≡ false
unfolding flag_at
none_set m k = ap (λ (l : List Bool). get_or l (k % 8192) false) (lacking_at m (k / 8192))

pub none_flags : (n m : ℕ) (pieces : List (List Bool)) → pieces ≡ replicate m [] → flags_in n pieces ≡ replicate n false
none_flags n m pieces are = ap (λ (l : List (List Bool)). flags_in n l) are ∙ same_lists (flags_in n (replicate m [])) (replicate n false) (length-flags n (replicate m []) ∙ sym (length-replicate {A = Bool} n false))
    (λ k d lt. let below : k < n = omega (arith, lt, length-flags n (replicate m [])) in get_or-flags n (replicate m []) k d below ∙ none_set m k ∙ sym (get_or-replicate {A = Bool} n k false d below))

pub none_pieces : (n m : ℕ) (pieces : List (List Bool)) → n < 2 ^ 32 → m ≡ (n + 8191) / 8192 → pieces ≡ replicate m [] → ArePieces n pieces
none_pieces n m pieces few many are = record {
  few = few;
  room = omega (arith, many, ap (λ (l : List (List Bool)). length l) are, length-replicate {A = List Bool} m []);
  whole = λ i some. absurd (omega (arith, some, ap (λ (l : List Bool). length l) (ap (λ (l : List (List Bool)). get_or l i []) are ∙ lacking_at m i)));
}

-- ---- one piece
pub piece_is : (pieces : List (List Bool)) (i : ℕ) (piece d : List Bool) → i < length pieces → piece ≡ get_or pieces i d → get_or pieces i [] ≡ piece
piece_is pieces i piece d inside is = get_or_default pieces i [] d inside ∙ sym is

-- a flag by its piece
pub flag_in : (pieces : List (List Bool)) (i at k : ℕ) (piece : List Bool) → get_or pieces i [] ≡ piece → k / 8192 ≡ i → k % 8192 ≡ at → flag_at pieces k ≡ get_or piece at false
unfolding flag_at
flag_in pieces i at k piece is in_it there =
    ap (λ (j : ℕ). get_or (get_or pieces j []) (k % 8192) false) in_it ∙ ap (λ (l : List Bool). get_or l (k % 8192) false) is ∙ ap (λ (j : ℕ). get_or piece j false) there

put_here : (pieces : List (List Bool)) (i k : ℕ) (piece : List Bool) → i < length pieces → k / 8192 ≡ i → flag_at (set pieces i piece) k ≡ get_or piece (k % 8192) false
put_here pieces i k piece inside in_it = flag_in (set pieces i piece) i (k % 8192) k piece (get_or-set_same pieces i piece [] inside) in_it refl

put_beside : (pieces : List (List Bool)) (i k : ℕ) (piece : List Bool) → k / 8192 ≢ i → flag_at (set pieces i piece) k ≡ flag_at pieces k
unfolding flag_at
put_beside pieces i k piece other = ap (λ (l : List Bool). get_or l (k % 8192) false) (get_or-set_other pieces i (k / 8192) piece [] other)

-- no flags are those of a piece that is lacking
pub piece_taken : (pieces : List (List Bool)) (i n : ℕ) (piece : List Bool) → i < length pieces → length (get_or pieces i []) ≡ 0 → piece ≡ replicate n false → (k : ℕ) → flag_at (set pieces i piece) k ≡ flag_at pieces k
piece_taken pieces i n piece inside none are k = ⊎_elim
    (λ (here : k / 8192 ≡ i).
    put_here pieces i k piece inside here ∙ ap (λ (l : List Bool). get_or l (k % 8192) false) are ∙ clear (k % 8192)
    ∙ sym (flag_in pieces i (k % 8192) k (get_or pieces i []) refl here refl ∙ get_or_past (get_or pieces i []) (k % 8192) false (omega (arith, none))))
    (λ (other : k / 8192 ≢ i). put_beside pieces i k piece other)
    (cases_eq (k / 8192) i)
  where
    clear : (at : ℕ) → get_or (replicate n false) at false ≡ false
    clear at = ⊎_elim (λ lt. get_or-replicate {A = Bool} n at false false lt) (λ past. get_or_past {X = Bool} (replicate n false) at false (omega (arith, past, length-replicate {A = Bool} n false))) (cases_lt at n)

has_so : (e f : Extent) (k j : ℕ) (low : nat_le e.start k ≡ nat_le f.start j) → nat_lt k (e.start + e.count) ≡ nat_lt j (f.start + f.count) → has e k ≡ has f j
has_so e f k j low high = ap (λ b. b && nat_lt k (e.start + e.count)) low ∙ ap (λ b. nat_le f.start j && b) high

same_test : (a b c d : ℕ) → (a ≤ b → c ≤ d) → (c ≤ d → a ≤ b) → nat_le a b ≡ nat_le c d
same_test a b c d to from = ⊎_elim
    (λ yes. ⊎_elim (λ there. yes.0 ∙ sym there.0) (λ not. absurd (omega (arith, to yes.1, not.1))) (leb_tells c d))
    (λ not. ⊎_elim (λ there. absurd (omega (arith, from there.1, not.1))) (λ too. not.0 ∙ sym too.0) (leb_tells c d))
    (leb_tells a b)

-- marks in a piece are marks in the flags
pub piece_marked : (pieces : List (List Bool)) (from count : ℕ) (piece : List Bool) → from / 8192 < length pieces → from % 8192 + count ≤ 8192 → length (get_or pieces (from / 8192) []) ≡ 8192
    → piece ≡ mark (get_or pieces (from / 8192) []) (record { start = from % 8192; count = count }) true
    → (k : ℕ) → flag_at (set pieces (from / 8192) piece) k ≡ (if has (record { start = from; count = count }) k then true else flag_at pieces k)
piece_marked pieces from count piece inside fits whole is k = ⊎_elim
    (λ (here : k / 8192 ≡ from / 8192).
    put_here pieces (from / 8192) k piece inside here ∙ ap (λ (l : List Bool). get_or l (k % 8192) false) is
    ∙ get_or-mark (get_or pieces (from / 8192) []) (record { start = from % 8192; count = count }) true (k % 8192) false (omega (arith, fits, whole))
    ∙ ap (λ b. if b then true else get_or (get_or pieces (from / 8192) []) (k % 8192) false)
    (has_so (record { start = from % 8192; count = count }) (record { start = from; count = count }) (k % 8192) k
    (same_test (from % 8192) (k % 8192) from k (λ le. omega (arith, le, here)) (λ le. omega (arith, le, here)))
    (same_test (suc (k % 8192)) (from % 8192 + count) (suc k) (from + count) (λ le. omega (arith, le, here)) (λ le. omega (arith, le, here))))
    ∙ ap (λ b. if has (record { start = from; count = count }) k then true else b) (sym (flag_in pieces (from / 8192) (k % 8192) k (get_or pieces (from / 8192) []) refl here refl)))
    (λ (other : k / 8192 ≢ from / 8192).
    put_beside pieces (from / 8192) k piece other ∙ ap (λ b. if b then true else flag_at pieces k) (sym (beside other)))
    (cases_eq (k / 8192) (from / 8192))
  where
    beside : k / 8192 ≢ from / 8192 → has (record { start = from; count = count }) k ≡ false
    beside other = ⊎_elim
        (λ low. ⊎_elim (λ high. absurd (other (omega (arith, low.1, high.1, fits)))) (λ past. rw (low.0, past.0) refl) (leb_tells (suc k) (from + count)))
        (λ under. rw under.0 refl)
        (leb_tells from k)
