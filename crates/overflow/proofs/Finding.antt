-- The next overflow record of a fork.
use Rattle.std.proofs.Common.{◌≡◌, ◌≢◌, ◌⊎◌, ℕ, zero, suc, ◌+◌, ◌<◌, ◌≤◌, Bool, true, false, List, [], ◌∷◌, ◌++◌, length, take, drop, inl, inr, refl, sym, ◌∙◌, ap, subst, arith}
use Rattle.std.specs.Prelude.{◌==◌, ◌&&◌, nat_lt, cond, Option, None, Some, if◌then◌else◌}
use Rattle.std.specs.List.{find}
use Rattle.std.specs.Option.{option_map}
use Rattle.std.specs.Ordering.{ordering_reverse}
use Rattle.std.specs.declared.cmp.Ordering.{Ordering}
use Rattle.std.specs.declared.cmp.Ordering.TheVariants.{Less, Equal, Greater}
use Rattle.std.proofs.lemmas.Bool.{lt-ltb, le-ltb, ltb-true, ltb-false, eq-eqb, eqb-true, and_parts, both_ways, cases_eq}
use Rattle.std.proofs.lemmas.List.{get_or-map, length-map, take-append-drop, get_or-take, get_or-drop, length-take, length-drop, take_all, append-nil}
use Rattle.std.proofs.Math.Seq.{drop-cons}
use Rattle.hx_bytes.specs.Fork.{extents_at}
use Rattle.btree_node.specs.KeyLaws.{extent_total}
use Rattle.btree_node.specs.Keys.{IsExtentKey, extent_cmp, extent_file, extent_fork, extent_start, is_eight_extents}
use Rattle.btree_node.specs.Levels.{Pair, pair_of, entries, level, leaves}
use Rattle.btree_node.specs.Store.{Store}
use Rattle.btree_node.specs.Tree.{IsTree, HasValues, pairs_of}
use Rattle.btree_edit.specs.Desk.{IsAbove, FindsNext}
use Rattle.btree_edit.specs.declared.desk.Desk.{Desk}
use Rattle.hfs_model.specs.Sorted.{kept}
use Rattle.hfs_volume.specs.Forks.{is_of}
use Rattle.hfs_volume.specs.Records.{Overflow, overflow_of}
use Rattle.overflow.specs.Reading.{is_behind, record_on}
use Rattle.overflow.specs.Records.{under}
use Rattle.overflow.specs.Keys.{IsKeyOf}
use Rattle.overflow.proofs.Keys.{below_of, above_of, ties_of, of_fork, fork_of, start_of}
use Rattle.overflow.proofs.Lists.{AreBelow, AreFrom, from_less}
use Rattle.overflow.proofs.Pairs.{no_pair, pair_at, AscendByKey, of_fork_in, mid_fork, no_mid_fork, greater_starts, all_from}

-- ---- searches of records by their starts

find_behind : (start : ℕ) (xs ys : List Overflow) → AreBelow (suc start) xs → find (is_behind start) (xs ++ ys) ≡ find (is_behind start) ys
find_behind start [] ys below = refl
find_behind start (x ∷ xs) ys below = (λ i. cond (le-ltb start x.start (omega (arith, below.0)) i) (Some x) (find (is_behind start) (xs ++ ys))) ∙ find_behind start xs ys below.1

find_here : (start : ℕ) (x : Overflow) (ys : List Overflow) → start < x.start → find (is_behind start) (x ∷ ys) ≡ Some x
find_here start x ys later = λ i. cond (lt-ltb start x.start later i) (Some x) (find (is_behind start) ys)

-- ---- pairs of a tree

-- the keys of a tree are keys
pub tree_keys : (store : Store) → IsTree IsExtentKey extent_cmp store → (k : ℕ) → k < length (pairs_of store) → IsExtentKey (pair_at (pairs_of store) k).0
tree_keys store tree = by_depth store.shape.depth refl
  where
    by_depth : (depth : ℕ) → store.shape.depth ≡ depth → (k : ℕ) → k < length (leaves store.nodes store.shape.root depth) → IsExtentKey (pair_at (leaves store.nodes store.shape.root depth) k).0
    by_depth zero is k inside = absurd (omega (arith, inside))
    by_depth (suc below) is k inside =
        let xs = entries store.nodes (level store.nodes store.shape.root below) in
        let low : k < length xs = omega (arith, inside, length-map xs pair_of) in
        subst (λ (pair : Pair). IsExtentKey pair.0) (sym (get_or-map pair_of xs k [] no_pair low)) (tree.levels.keys below k (omega (arith, is)) low)

-- ---- the pair above a key

module _ (id kind start : ℕ) (key : List ℕ) (is : IsKeyOf id kind start key) (pairs : List Pair) (rises : AscendByKey pairs) where
  not_greater : (pair : Pair) → extent_cmp pair.0 key ≢ Greater → (o : Ordering) → extent_cmp pair.0 key ≡ o → is_of id kind (overflow_of pair) ≡ true → (overflow_of pair).start < suc start
  not_greater pair most Less tells of =
      let parts = fork_of id kind pair of in
      let below = below_of pair.0 key tells in
      omega (arith, below.start (parts.0 ∙ sym is.file) (parts.1 ∙ sym is.fork), is.begins, start_of pair)
  not_greater pair most Equal tells of = let ties = ties_of pair.0 key tells in omega (arith, ties.start, is.begins, start_of pair)
  not_greater pair most Greater tells of = absurd (most tells)

  all_upto : (xs : List Pair) → ((k : ℕ) → k < length xs → extent_cmp (pair_at xs k).0 key ≢ Greater) → AreBelow (suc start) (of_fork_in id kind xs)
  all_upto [] most = tt
  all_upto (pair ∷ rest) most = by_test (is_of id kind (overflow_of pair)) refl (all_upto rest (λ k inside. most (suc k) (omega (arith, inside))))
    where
      by_test : (b : Bool) → is_of id kind (overflow_of pair) ≡ b → AreBelow (suc start) (of_fork_in id kind rest) → AreBelow (suc start) ((if b then overflow_of pair ∷ [] else []) ++ of_fork_in id kind rest)
      by_test true of others = (not_greater pair (most 0 (omega arith)) (extent_cmp pair.0 key) refl of, others)
      by_test false of others = others

  upto_place : (place : ℕ) → IsAbove extent_cmp key pairs place → AreBelow (suc start) (of_fork_in id kind (take place pairs))
  upto_place place above = all_upto (take place pairs) (λ k low greater.
      let early : k < place = omega (arith, low, length-take place pairs) in
      above.before k early (sym (ap (λ (pair : Pair). extent_cmp pair.0 key) (get_or-take place pairs k no_pair early)) ∙ greater))

  -- where no key is above, no record is behind the start
  none_above : IsAbove extent_cmp key pairs (length pairs) → find (is_behind start) (of_fork_in id kind pairs) ≡ None
  none_above above =
      ap (find (is_behind start)) (sym (append-nil (of_fork_in id kind pairs)))
      ∙ find_behind start (of_fork_in id kind pairs) [] (subst (λ l. AreBelow (suc start) (of_fork_in id kind l)) (take_all (length pairs) pairs (omega arith)) (upto_place (length pairs) above))

  -- a pair above the key that isn't of the fork has none of the fork behind it
  not_of_later : (one other : Pair) → extent_cmp one.0 key ≡ Greater → is_of id kind (overflow_of one) ≡ false → extent_cmp one.0 other.0 ≡ Less → (b : Bool) → is_of id kind (overflow_of other) ≡ b → b ≡ false
  not_of_later one other greater not_of less false of = refl
  not_of_later one other greater not_of less true of =
      let above = above_of one.0 key greater in
      let below = below_of one.0 other.0 less in
      let parts = fork_of id kind other of in
      let file : extent_file one.0 ≡ id = omega (arith, above.file, below.file, parts.0, is.file) in
      let fork : extent_fork one.0 ≡ kind = omega (arith, above.fork (is.file ∙ sym file), below.fork (file ∙ sym parts.0), parts.1, is.fork) in
      absurd (both_ways (is_of id kind (overflow_of one)) not_of (of_fork id kind one file fork))

  none_of : (xs : List Pair) → ((k : ℕ) → k < length xs → is_of id kind (overflow_of (pair_at xs k)) ≡ false) → of_fork_in id kind xs ≡ []
  none_of [] none = refl
  none_of (pair ∷ rest) none = λ i. (if none 0 (omega arith) i then overflow_of pair ∷ [] else []) ++ none_of rest (λ k inside. none (suc k) (omega (arith, inside))) i

  cut : (place : ℕ) → place < length pairs → pairs ≡ take place pairs ++ pair_at pairs place ∷ drop (suc place) pairs
  cut place inside = sym (take-append-drop place pairs) ∙ ap (λ l. take place pairs ++ l) (drop-cons pairs place no_pair inside)

  find_at : (place : ℕ) → place < length pairs → IsAbove extent_cmp key pairs place → (b : Bool) → is_of id kind (overflow_of (pair_at pairs place)) ≡ b
      → find (is_behind start) (of_fork_in id kind pairs) ≡ (if b then Some (overflow_of (pair_at pairs place)) else None)
  find_at place inside above true of =
      ap (λ l. find (is_behind start) (of_fork_in id kind l)) (cut place inside)
      ∙ ap (find (is_behind start)) (mid_fork id kind start key is (take place pairs) (drop (suc place) pairs) (pair_at pairs place) of)
      ∙ find_behind start (of_fork_in id kind (take place pairs)) (overflow_of (pair_at pairs place) ∷ of_fork_in id kind (drop (suc place) pairs)) (upto_place place above)
      ∙ find_here start (overflow_of (pair_at pairs place)) (of_fork_in id kind (drop (suc place) pairs)) (omega (arith, greater_starts id kind start key is (pair_at pairs place) (above.behind place (omega arith) inside) of))
  find_at place inside above false of =
      let later : of_fork_in id kind (drop place pairs) ≡ [] = none_of (drop place pairs) (λ k low.
      let there : place + k < length pairs = omega (arith, low, length-drop place pairs) in
      ap (λ (pair : Pair). is_of id kind (overflow_of pair)) (get_or-drop place pairs k no_pair) ∙ past k there (cases_eq k 0)) in
      ap (λ l. find (is_behind start) (of_fork_in id kind l)) (sym (take-append-drop place pairs))
      ∙ ap (find (is_behind start)) (no_mid_fork id kind start key is (take place pairs) (drop place pairs))
      ∙ find_behind start (of_fork_in id kind (take place pairs)) (of_fork_in id kind (drop place pairs)) (upto_place place above)
      ∙ ap (find (is_behind start)) later
    where
      past : (k : ℕ) → place + k < length pairs → (k ≡ 0) ⊎ (k ≡ 0 → ⊥) → is_of id kind (overflow_of (pair_at pairs (place + k))) ≡ false
      past k there cases = elim cases [
        | inl same ↦ ap (λ n. is_of id kind (overflow_of (pair_at pairs n))) {x = place + k} {y = place} (omega (arith, same)) ∙ of
        | inr other ↦ not_of_later (pair_at pairs place) (pair_at pairs (place + k)) (above.behind place (omega arith) inside) of
            (rises place (place + k) (omega (arith, other)) there) (is_of id kind (overflow_of (pair_at pairs (place + k)))) refl
      ]

-- ---- the record on the desk

-- a pair of the tree is read as what it is
read_on : (id kind : ℕ) (pair : Pair) → length pair.0 ≡ 12 → length pair.1 ≡ 64 → (b : Bool) → is_of id kind (overflow_of pair) ≡ b
    → option_map (under id kind) (record_on id kind pair.0 pair.1) ≡ (if b then Some (overflow_of pair) else None)
unfolding overflow_of
read_on id kind pair long whole true of =
    let parts = and_parts (extent_file pair.0 == id) (extent_fork pair.0 == kind) of in
    (λ i. option_map (under id kind) (if ((eq-eqb (length pair.0) 12 long i && eq-eqb (length pair.1) 64 whole i) && parts.0 i) && parts.1 i then Some (record { start = extent_start pair.0; extents = extents_at pair.1 0 }) else None))
    ∙ (λ i. Some (record { fork = sym (eqb-true (extent_fork pair.0) kind parts.1) i; id = sym (eqb-true (extent_file pair.0) id parts.0) i; start = extent_start pair.0; extents = (extents_at pair.1 0).extents }))
read_on id kind pair long whole false of =
    (λ i. option_map (under id kind) (if ((eq-eqb (length pair.0) 12 long i && eq-eqb (length pair.1) 64 whole i) && (extent_file pair.0 == id)) && (extent_fork pair.0 == kind) then Some (record { start = extent_start pair.0; extents = extents_at pair.1 0 }) else None))
    ∙ (λ i. option_map (under id kind) (if of i then Some (record { start = extent_start pair.0; extents = extents_at pair.1 0 }) else None))

value_long : (store : Store) (k : ℕ) → HasValues is_eight_extents store → k < length (pairs_of store) → length (pair_at (pairs_of store) k).1 ≡ 64
value_long store k values inside = values k no_pair inside

pub next_found : (id kind start : ℕ) (key : List ℕ) (store : Store) (desk : Desk) → IsKeyOf id kind start key → IsTree IsExtentKey extent_cmp store → HasValues is_eight_extents store → AscendByKey (pairs_of store)
    → FindsNext extent_cmp key store desk true → option_map (under id kind) (record_on id kind desk.held.key desk.held.value) ≡ find (is_behind start) (of_fork_in id kind (pairs_of store))
next_found id kind start key store desk is tree values rises (k, holds, above) =
    let pair = pair_at (pairs_of store) k in
    let long = (tree_keys store tree k holds.inside).long in
    (λ i. option_map (under id kind) (record_on id kind (holds.key i) (holds.value i)))
    ∙ read_on id kind pair long (value_long store k values holds.inside) (is_of id kind (overflow_of pair)) refl
    ∙ sym (find_at id kind start key is (pairs_of store) rises k holds.inside above (is_of id kind (overflow_of pair)) refl)

pub none_found : (id kind start : ℕ) (key : List ℕ) (store : Store) (desk : Desk) → IsKeyOf id kind start key → AscendByKey (pairs_of store)
    → FindsNext extent_cmp key store desk false → None ≡ find (is_behind start) (of_fork_in id kind (pairs_of store))
none_found id kind start key store desk is rises next = sym (none_above id kind start key is (pairs_of store) rises next.0)

-- ---- all records behind a start

-- the starts rise strictly
abbrev pub Rising : List Overflow → Type 0
Rising [] = Unit {0}
Rising (x ∷ xs) = AreFrom (suc x.start) xs × Rising xs

pub fork_rises : (id kind : ℕ) (pairs : List Pair) → AscendByKey pairs → ((k : ℕ) → k < length pairs → IsExtentKey (pair_at pairs k).0) → Rising (of_fork_in id kind pairs)
fork_rises id kind [] rises keys = tt
fork_rises id kind (pair ∷ rest) rises keys = by_test (is_of id kind (overflow_of pair)) refl (fork_rises id kind rest (λ i j before fits. rises (suc i) (suc j) (omega (arith, before)) (omega (arith, fits))) (λ k inside. keys (suc k) (omega (arith, inside))))
  where
    later : is_of id kind (overflow_of pair) ≡ true → AreFrom (suc (overflow_of pair).start) (of_fork_in id kind rest)
    later of =
        let parts = fork_of id kind pair of in
        all_from id kind (overflow_of pair).start pair.0 (record { is_key = keys 0 (omega arith); file = parts.0; fork = parts.1; begins = sym (start_of pair) }) rest
        (λ k inside. extent_total.antisymm (pair_at rest k).0 pair.0 ∙ ap ordering_reverse (rises 0 (suc k) (omega arith) (omega (arith, inside))))

    by_test : (b : Bool) → is_of id kind (overflow_of pair) ≡ b → Rising (of_fork_in id kind rest) → Rising ((if b then overflow_of pair ∷ [] else []) ++ of_fork_in id kind rest)
    by_test true of others = (later of, others)
    by_test false of others = others

abbrev is_there : {X : Type 0} → Option X → Type 0
is_there None = ⊥
is_there (Some x) = Unit {0}

value_or : {X : Type 0} → X → Option X → X
value_or x None = x
value_or x (Some y) = y

none_is_some : {X : Type 0} (x : X) → None ≡ Some x → ⊥
none_is_some x same = subst is_there (sym same) tt

some_same : {X : Type 0} (x y : X) → Some x ≡ Some y → x ≡ y
unfolding value_or
some_same x y same = ap (value_or x) same

found_later : (start : ℕ) (xs : List Overflow) (m : Overflow) → find (is_behind start) xs ≡ Some m → start < m.start
found_later start [] m found = absurd (none_is_some m found)
found_later start (x ∷ xs) m found = by_test (nat_lt start x.start) refl (found_later start xs m)
  where
    by_test : (b : Bool) → nat_lt start x.start ≡ b → (find (is_behind start) xs ≡ Some m → start < m.start) → start < m.start
    by_test true is others =
        let same = some_same x m (sym (λ i. cond (is i) (Some x) (find (is_behind start) xs)) ∙ found) in
        omega (arith, ltb-true start x.start is, ap (λ (o : Overflow). o.start) same)
    by_test false is others = others (sym (λ i. cond (is i) (Some x) (find (is_behind start) xs)) ∙ found)

pub all_behind : (start : ℕ) (xs : List Overflow) → AreFrom (suc start) xs → kept (is_behind start) xs ≡ xs
all_behind start [] from = refl
all_behind start (x ∷ xs) from = λ i. (if lt-ltb start x.start (omega (arith, from.0)) i then x ∷ [] else []) ++ all_behind start xs from.1 i

pub next_behind : (start : ℕ) (xs : List Overflow) (m : Overflow) → Rising xs → find (is_behind start) xs ≡ Some m → kept (is_behind start) xs ≡ m ∷ kept (is_behind m.start) xs
next_behind start [] m rises found = absurd (none_is_some m found)
next_behind start (x ∷ xs) m rises found = by_test (nat_lt start x.start) refl (next_behind start xs m rises.1)
  where
    by_test : (b : Bool) → nat_lt start x.start ≡ b → (find (is_behind start) xs ≡ Some m → kept (is_behind start) xs ≡ m ∷ kept (is_behind m.start) xs) → kept (is_behind start) (x ∷ xs) ≡ m ∷ kept (is_behind m.start) (x ∷ xs)
    by_test true is others =
        let same = some_same x m (sym (λ i. cond (is i) (Some x) (find (is_behind start) xs)) ∙ found) in
        let after : AreFrom (suc start) xs = from_less (suc x.start) (suc start) xs (omega (arith, ltb-true start x.start is)) rises.0 in
        (λ i. (if is i then x ∷ [] else []) ++ all_behind start xs after i)
        ∙ sym ((λ i. x ∷ ((if le-ltb x.start x.start (omega arith) i then x ∷ [] else []) ++ all_behind x.start xs rises.0 i)))
        ∙ (λ i. same i ∷ kept (is_behind (same i).start) (x ∷ xs))
    by_test false is others =
        let found_too = sym (λ i. cond (is i) (Some x) (find (is_behind start) xs)) ∙ found in
        let low : x.start ≤ m.start = omega (arith, ltb-false start x.start is, found_later start xs m found_too) in
        (λ i. (if is i then x ∷ [] else []) ++ kept (is_behind start) xs) ∙ others found_too
        ∙ sym (λ i. m ∷ ((if le-ltb m.start x.start low i then x ∷ [] else []) ++ kept (is_behind m.start) xs))

pub none_behind : (start : ℕ) (xs : List Overflow) → find (is_behind start) xs ≡ None → kept (is_behind start) xs ≡ []
none_behind start [] found = refl
none_behind start (x ∷ xs) found = by_test (nat_lt start x.start) refl (none_behind start xs)
  where
    by_test : (b : Bool) → nat_lt start x.start ≡ b → (find (is_behind start) xs ≡ None → kept (is_behind start) xs ≡ []) → (if b then x ∷ [] else []) ++ kept (is_behind start) xs ≡ []
    by_test true is others = absurd (none_is_some x (sym found ∙ (λ i. cond (is i) (Some x) (find (is_behind start) xs))))
    by_test false is others = others (sym (λ i. cond (is i) (Some x) (find (is_behind start) xs)) ∙ found)
