-- Entries have distinct CNIDs below the next one, so that there are no more of them than that number.
use Rattle.std.proofs.Common.{◌≡◌, ◌<◌, ◌≤◌, ℕ, zero, suc, ◌+◌, ◌-◌, ◌==◌, Bool, true, false, nat_le, List, [], ◌∷◌, refl, ◌∙◌, ap, arith, eq-eqb, ⊎_elim}
use Rattle.std.specs.Prelude.{Contains, nat_lt, count_by}
use Rattle.std.proofs.lemmas.Bool.{eqb-true}
use Rattle.std.proofs.lemmas.Bool.Decides.{leb_tells}
use Rattle.hfs_volume.specs.Entries.{HaveIds, IsUserId}
use Rattle.hfs_volume.specs.Laws.{one_if}
use Rattle.hfs_volume.specs.Records.{Placed, id_of}
use Rattle.hfs_volume.proofs.Counting.{count_cons}
use Rattle.hfs_volume.proofs.Members.{each_of}
use Rattle.volume_base.proofs.Tallies.{count_below}

pub low_true : (a b : ℕ) → a < b → nat_lt a b ≡ true
low_true a b less = ⊎_elim (λ (yes : (nat_le (suc a) b ≡ true) × (suc a ≤ b)). yes.0) (λ (no : (nat_le (suc a) b ≡ false) × (b < suc a)). absurd (omega (arith, less, no.1))) (leb_tells (suc a) b)

pub high_false : (a b : ℕ) → b ≤ a → nat_lt a b ≡ false
high_false a b most = ⊎_elim (λ (yes : (nat_le (suc a) b ≡ true) × (suc a ≤ b)). absurd (omega (arith, most, yes.1))) (λ (no : (nat_le (suc a) b ≡ false) × (b < suc a)). no.0) (leb_tells (suc a) b)

one_most : (b : Bool) → one_if b ≤ 1
one_most true = omega arith
one_most false = omega arith

-- a number below the next one is below, or is the one before it
one_split : (x n : ℕ) → one_if (nat_lt x (suc n)) ≤ one_if (nat_lt x n) + one_if (x == n)
one_split x n = ⊎_elim
    (λ (yes : (nat_le (suc x) n ≡ true) × (suc x ≤ n)). omega (arith, one_most (nat_lt x (suc n)), ap one_if (low_true x n (omega (arith, yes.1)))))
    (λ (no : (nat_le (suc x) n ≡ false) × (n < suc x)). ⊎_elim
    (λ (more : (nat_le (suc n) x ≡ true) × (suc n ≤ x)). omega (arith, ap one_if (high_false x (suc n) more.1)))
    (λ (less : (nat_le (suc n) x ≡ false) × (x < suc n)). omega (arith, one_most (nat_lt x (suc n)), ap one_if (eq-eqb x n (omega (arith, no.1, less.1)))))
    (leb_tells (suc n) x))
    (leb_tells (suc x) n)

module _ {X : Type 0} (number : X → ℕ) where
  split : (n : ℕ) (xs : List X) → count_by (λ x. nat_lt (number x) (suc n)) xs ≤ count_by (λ x. nat_lt (number x) n) xs + count_by (λ x. number x == n) xs
  split n [] = omega arith
  split n (x ∷ xs) = omega (
    arith,
    count_cons (λ y. nat_lt (number y) (suc n)) x xs,
    count_cons (λ y. nat_lt (number y) n) x xs,
    count_cons (λ y. number y == n) x xs,
    one_split (number x) n,
    split n xs,
  )

  none_low : (xs : List X) → count_by (λ x. nat_lt (number x) 0) xs ≡ 0
  none_low [] = refl
  none_low (x ∷ xs) = count_cons (λ y. nat_lt (number y) 0) x xs ∙ (λ i. one_if (high_false (number x) 0 (omega arith) i) + none_low xs i)

  -- items whose numbers are below one, each at most once, are no more than that
  pub no_more : (n : ℕ) (xs : List X) → ((k : ℕ) → count_by (λ x. number x == k) xs ≤ 1) → count_by (λ x. nat_lt (number x) n) xs ≤ n
  no_more zero xs once = omega (arith, none_low xs)
  no_more (suc n) xs once = omega (arith, split n xs, no_more n xs once, once n)

-- no count of entries passes the next CNID
pub counts_low : (next : ℕ) (entries : List Placed) → 16 ≤ next → HaveIds next entries → (test : Placed → Bool) → count_by test entries ≤ next
counts_low next entries some ids test =
    omega (arith, count_below test (λ p. nat_lt (id_of p) next) entries (λ p stands _. low p stands), no_more id_of next entries ids.distinct)
  where
    low : (p : Placed) → Contains entries p → nat_lt (id_of p) next ≡ true
    low p stands = low_true (id_of p) next (⊎_elim (λ (two : id_of p ≡ 2). omega (arith, two, some)) (λ (high : (16 ≤ id_of p) × (id_of p < next)). omega (arith, high.1)) (each_of (λ (q : Placed). IsUserId next (id_of q)) entries ids.each p stands))

-- and each count stays below it
pub counts_lower : (next : ℕ) (entries : List Placed) → 16 ≤ next → HaveIds next entries → (test : Placed → Bool) → count_by test entries + 1 ≤ next
counts_lower next entries some ids test =
    omega (arith, some, count_below test (λ p. nat_lt (id_of p - 1) (next - 1)) entries (λ p stands _. low p stands), no_more (λ (p : Placed). id_of p - 1) (next - 1) entries once)
  where
    at_least : (p : Placed) → Contains entries p → (2 ≤ id_of p) × (id_of p < next)
    at_least p stands = ⊎_elim
        (λ (two : id_of p ≡ 2). (omega (arith, two), omega (arith, two, some)))
        (λ (high : (16 ≤ id_of p) × (id_of p < next)). (omega (arith, high.0), high.1))
        (each_of (λ (q : Placed). IsUserId next (id_of q)) entries ids.each p stands)

    low : (p : Placed) → Contains entries p → nat_lt (id_of p - 1) (next - 1) ≡ true
    low p stands = low_true (id_of p - 1) (next - 1) (omega (arith, (at_least p stands).0, (at_least p stands).1))

    once : (k : ℕ) → count_by (λ p. (id_of p - 1) == k) entries ≤ 1
    once k = omega (
      arith,
      ids.distinct (k + 1),
      count_below (λ p. (id_of p - 1) == k) (λ p. id_of p == k + 1) entries (λ p stands is. eq-eqb (id_of p) (k + 1) (omega (arith, eqb-true (id_of p - 1) k is, (at_least p stands).0))),
    )
