-- Keys of the extents tree in their order: by the file, the fork and the start.
use Rattle.std.proofs.Common.{◌≡◌, ◌⊎◌, ℕ, ◌<◌, ◌≤◌, ◌^◌, true, List, [], ◌∷◌, ◌++◌, length, refl, sym, ◌∙◌, ap, subst, arith, append_assoc}
use Rattle.std.specs.Prelude.{◌==◌}
use Rattle.std.specs.Ordering.{nat_cmp, ordering_then, MatchOrdering}
use Rattle.std.specs.declared.cmp.Ordering.{Ordering}
use Rattle.std.specs.declared.cmp.Ordering.TheVariants.{Less, Equal, Greater}
use Rattle.std.proofs.lemmas.Bool.{eq-eqb, eqb-true, and_parts, and_from}
use Rattle.std.proofs.lemmas.Cmp.{ranked}
use Rattle.std.proofs.lemmas.List.{length-append, append-nil}
use Rattle.hx_bytes.specs.Field.{big}
use Rattle.hx_bytes.specs.declared.fields.Order.TheVariants.{Big}
use Rattle.hx_bytes.proofs.Laws.{length-number_bytes}
use Rattle.hx_bytes.proofs.Reading.{Behind, behind_number, behind_part, number_here}
use Rattle.btree_node.specs.Keys.{extent_cmp, extent_file, extent_fork, extent_start}
use Rattle.btree_node.specs.Levels.{Pair}
use Rattle.cat_records.specs.Keys.{extent_key_bytes}
use Rattle.hfs_volume.specs.Records.{overflow_of}
use Rattle.hfs_volume.specs.Forks.{is_of}
use Rattle.overflow.specs.Keys.{IsKeyOf}

-- ---- the order by its three numbers

-- two keys by their numbers: the first is less, the same, or greater
pub record Below (a b c x y z : ℕ) : Type 0 where
  pub file : a ≤ x
  pub fork : a ≡ x → b ≤ y
  pub start : a ≡ x → b ≡ y → c < z

cmp_matches : (m n : ℕ) → MatchOrdering (nat_cmp m n) (m < n) (m ≡ n) (n < m)
cmp_matches m n = ranked m n (nat_cmp m n) refl

abbrev three : Ordering → Ordering → Ordering → Ordering
three p q r = ordering_then p (ordering_then q r)

less_is_below : (a b c x y z : ℕ) (p q r : Ordering) → MatchOrdering p (a < x) (a ≡ x) (x < a) → MatchOrdering q (b < y) (b ≡ y) (y < b) → MatchOrdering r (c < z) (c ≡ z) (z < c)
    → three p q r ≡ Less → Below a b c x y z
less_is_below a b c x y z Less q r p_is q_is r_is less = record { file = omega (arith, p_is); fork = λ same. absurd (omega (arith, p_is, same)); start = λ same. absurd (omega (arith, p_is, same)) }
less_is_below a b c x y z Equal Less r p_is q_is r_is less = record { file = omega (arith, p_is); fork = λ same. omega (arith, q_is); start = λ same also. absurd (omega (arith, q_is, also)) }
less_is_below a b c x y z Equal Equal Less p_is q_is r_is less = record { file = omega (arith, p_is); fork = λ same. omega (arith, q_is); start = λ same also. r_is }
less_is_below a b c x y z Equal Equal Equal p_is q_is r_is less = absurd (cc less)
less_is_below a b c x y z Equal Equal Greater p_is q_is r_is less = absurd (cc less)
less_is_below a b c x y z Equal Greater r p_is q_is r_is less = absurd (cc less)
less_is_below a b c x y z Greater q r p_is q_is r_is less = absurd (cc less)

greater_is_above : (a b c x y z : ℕ) (p q r : Ordering) → MatchOrdering p (a < x) (a ≡ x) (x < a) → MatchOrdering q (b < y) (b ≡ y) (y < b) → MatchOrdering r (c < z) (c ≡ z) (z < c)
    → three p q r ≡ Greater → Below x y z a b c
greater_is_above a b c x y z Greater q r p_is q_is r_is greater = record { file = omega (arith, p_is); fork = λ same. absurd (omega (arith, p_is, same)); start = λ same. absurd (omega (arith, p_is, same)) }
greater_is_above a b c x y z Equal Greater r p_is q_is r_is greater = record { file = omega (arith, p_is); fork = λ same. omega (arith, q_is); start = λ same also. absurd (omega (arith, q_is, also)) }
greater_is_above a b c x y z Equal Equal Greater p_is q_is r_is greater = record { file = omega (arith, p_is); fork = λ same. omega (arith, q_is); start = λ same also. r_is }
greater_is_above a b c x y z Equal Equal Equal p_is q_is r_is greater = absurd (cc greater)
greater_is_above a b c x y z Equal Equal Less p_is q_is r_is greater = absurd (cc greater)
greater_is_above a b c x y z Equal Less r p_is q_is r_is greater = absurd (cc greater)
greater_is_above a b c x y z Less q r p_is q_is r_is greater = absurd (cc greater)

pub record Ties (a b c x y z : ℕ) : Type 0 where
  pub file : a ≡ x
  pub fork : b ≡ y
  pub start : c ≡ z

equal_ties : (a b c x y z : ℕ) (p q r : Ordering) → MatchOrdering p (a < x) (a ≡ x) (x < a) → MatchOrdering q (b < y) (b ≡ y) (y < b) → MatchOrdering r (c < z) (c ≡ z) (z < c)
    → three p q r ≡ Equal → Ties a b c x y z
equal_ties a b c x y z Equal Equal Equal p_is q_is r_is equal = record { file = p_is; fork = q_is; start = r_is }
equal_ties a b c x y z Equal Equal Less p_is q_is r_is equal = absurd (cc equal)
equal_ties a b c x y z Equal Equal Greater p_is q_is r_is equal = absurd (cc equal)
equal_ties a b c x y z Equal Less r p_is q_is r_is equal = absurd (cc equal)
equal_ties a b c x y z Equal Greater r p_is q_is r_is equal = absurd (cc equal)
equal_ties a b c x y z Less q r p_is q_is r_is equal = absurd (cc equal)
equal_ties a b c x y z Greater q r p_is q_is r_is equal = absurd (cc equal)

module _ (one other : List ℕ) where
  pub below_of : extent_cmp one other ≡ Less → Below (extent_file one) (extent_fork one) (extent_start one) (extent_file other) (extent_fork other) (extent_start other)
  below_of less = less_is_below _ _ _ _ _ _ (nat_cmp (extent_file one) (extent_file other)) (nat_cmp (extent_fork one) (extent_fork other)) (nat_cmp (extent_start one) (extent_start other))
      (cmp_matches (extent_file one) (extent_file other)) (cmp_matches (extent_fork one) (extent_fork other)) (cmp_matches (extent_start one) (extent_start other)) less

  pub above_of : extent_cmp one other ≡ Greater → Below (extent_file other) (extent_fork other) (extent_start other) (extent_file one) (extent_fork one) (extent_start one)
  above_of greater = greater_is_above _ _ _ _ _ _ (nat_cmp (extent_file one) (extent_file other)) (nat_cmp (extent_fork one) (extent_fork other)) (nat_cmp (extent_start one) (extent_start other))
      (cmp_matches (extent_file one) (extent_file other)) (cmp_matches (extent_fork one) (extent_fork other)) (cmp_matches (extent_start one) (extent_start other)) greater

  pub ties_of : extent_cmp one other ≡ Equal → Ties (extent_file one) (extent_fork one) (extent_start one) (extent_file other) (extent_fork other) (extent_start other)
  ties_of equal = equal_ties _ _ _ _ _ _ (nat_cmp (extent_file one) (extent_file other)) (nat_cmp (extent_fork one) (extent_fork other)) (nat_cmp (extent_start one) (extent_start other))
      (cmp_matches (extent_file one) (extent_file other)) (cmp_matches (extent_fork one) (extent_fork other)) (cmp_matches (extent_start one) (extent_start other)) equal

  -- and back
  pub greater_by : (o : Ordering) → extent_cmp one other ≡ o → extent_file one ≡ extent_file other → extent_fork one ≡ extent_fork other → extent_start other < extent_start one → o ≡ Greater
  greater_by Greater is file fork start = refl
  greater_by Less is file fork start = let less = below_of is in absurd (omega (arith, start, less.start file fork))
  greater_by Equal is file fork start = let same = ties_of is in absurd (omega (arith, start, same.start))

  pub equal_by : (o : Ordering) → extent_cmp one other ≡ o → extent_file one ≡ extent_file other → extent_fork one ≡ extent_fork other → extent_start one ≡ extent_start other → o ≡ Equal
  equal_by Equal is file fork start = refl
  equal_by Less is file fork start = let less = below_of is in absurd (omega (arith, start, less.start file fork))
  equal_by Greater is file fork start = let more = above_of is in absurd (omega (arith, start, more.start (sym file) (sym fork)))

-- ---- the key of a record of a fork

fork_byte : (kind : ℕ) (front rest : List ℕ) → length front ≡ 2 → extent_fork (front ++ ((kind ∷ 0 ∷ []) ++ rest)) ≡ kind
fork_byte kind [] rest long = absurd (omega (arith, long))
fork_byte kind (a ∷ []) rest long = absurd (omega (arith, long))
fork_byte kind (a ∷ b ∷ []) rest long = refl
fork_byte kind (a ∷ b ∷ c ∷ more) rest long = absurd (omega (arith, long))

pub key_reads : (id kind start : ℕ) → id < 2 ^ 32 → start < 2 ^ 32 → (kind ≡ 0) ⊎ (kind ≡ 255) → IsKeyOf id kind start (extent_key_bytes kind id start)
key_reads id kind start small low is_kind =
    let whole = extent_key_bytes kind id start in
    let here : Behind whole (big 2 10 ++ ((kind ∷ 0 ∷ []) ++ (big 4 id ++ (big 4 start ++ [])))) 0 = record { is = simp (append_assoc, append-nil) } in
    let size = number_here _ 2 10 (omega arith) here in
    let at_kind = behind_number 2 10 here in
    let at_id = behind_part (kind ∷ 0 ∷ []) 2 refl at_kind in
    let file = number_here _ 4 id small at_id in
    let at_start = behind_number 4 id at_id in
    let begins = number_here _ 4 start low at_start in
    let byte : extent_fork whole ≡ kind = ap extent_fork here.is ∙ fork_byte kind (big 2 10) (big 4 id ++ (big 4 start ++ [])) (length-number_bytes Big 2 10) in
    record {
      is_key = record {
        long = omega (arith, length-append {A = ℕ}, length-number_bytes Big);
        size = size;
        fork = subst (λ n. (n ≡ 0) ⊎ (n ≡ 255)) (sym byte) is_kind;
      };
      file = file;
      fork = byte;
      begins = begins;
    }

-- ---- the records of a fork

pub of_fork : (id kind : ℕ) (pair : Pair) → extent_file pair.0 ≡ id → extent_fork pair.0 ≡ kind → is_of id kind (overflow_of pair) ≡ true
unfolding overflow_of
of_fork id kind pair file fork = and_from (extent_file pair.0 == id) (extent_fork pair.0 == kind) (eq-eqb (extent_file pair.0) id file) (eq-eqb (extent_fork pair.0) kind fork)

pub fork_of : (id kind : ℕ) (pair : Pair) → is_of id kind (overflow_of pair) ≡ true → (extent_file pair.0 ≡ id) × (extent_fork pair.0 ≡ kind)
unfolding overflow_of
fork_of id kind pair is = let parts = and_parts (extent_file pair.0 == id) (extent_fork pair.0 == kind) is in (eqb-true (extent_file pair.0) id parts.0, eqb-true (extent_fork pair.0) kind parts.1)

pub start_of : (pair : Pair) → (overflow_of pair).start ≡ extent_start pair.0
unfolding overflow_of
start_of pair = refl
