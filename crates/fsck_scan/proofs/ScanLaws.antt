-- A tree that is read level by level: where each level is right, it keeps its rules.
use Rattle.std.proofs.Common.{◌≡◌, ◌≢◌, ◌⊎◌, ◌<◌, ◌≤◌, ℕ, zero, suc, ℤ, pos, negsuc, ◌+◌, ◌-◌, ◌/◌, ◌*◌, Bool, true, false, cond, ◌==◌, ◌||◌, List, [], ◌∷◌, ◌++◌, length, map, take, drop, get_or, replicate, inl, inr, refl, sym, ◌∙◌, ap, subst, arith, ⊎_elim, length-append, append_assoc, append-nil}
use Rattle.std.specs.Prelude.{Contains, slice_index}
use Rattle.std.specs.List.{All, count_by, flat_map, list_any, range_with_len}
use Rattle.std.specs.declared.cmp.Ordering.{Ordering}
use Rattle.std.proofs.lemmas.Bool.{cases_lt, eq-eqb}
use Rattle.std.proofs.lemmas.List.{get_or_default, get_or_past, get_or_append_left, get_or-append-add, get_or-map, get_or-replicate, length-map, length-take, length-replicate, get_or-take, take_all}
use Rattle.std.proofs.lemmas.List.Concat.{flat_map-append, get_or-flat_map}
use Rattle.std.proofs.lemmas.List.Folds.{list_any-append, list_any_at}
use Rattle.std.proofs.lemmas.List.FromFn.{map-range_with_len_more}
use Rattle.std.proofs.lemmas.List.Sums.{sum_by-cons}
use Rattle.flag_rows.specs.Bits.{count_set}
use Rattle.btree_node.specs.Node.{IsNodeOf, items, kind_of, height_of, next_of, back_of}
use Rattle.btree_node.specs.Levels.{Nodes, entries, key_of, value_of, child_of, first_key, Ascends}
use Rattle.btree_node.specs.Tree.{kind_at}
use Rattle.btree_node.specs.TreeFile.{TreeFile, IsHeaderNode, IsMapNode}
use Rattle.hfs_volume.specs.Broken.{node_place, levels_in, level_in, IsGoodNode, is_in_use, IsInOrderAt, FailsNode, FailsOrder}
use Rattle.hfs_volume.proofs.Members.{at_front, behind, all_of, each_of}
use Rattle.hfs_volume.proofs.TreeWants.{at_place, stands_at, record_stands, same_counts, stands_flat}
use Rattle.hfs_volume.proofs.BlockWants.{in_range, range_bounds}
use Rattle.hfs_volume.proofs.EntryWants.{flat_cases}
use Rattle.hfs_volume.proofs.Repeats.{repeated_fails, taller_is_bad}
use Rattle.fsck_scan.specs.Good.{IsGoodRecord}
use Rattle.fsck_scan.specs.Level.{HasRead, first_key_in}
use Rattle.fsck_scan.specs.Marks.{MarksAll, IsNoChild, children_of}
use Rattle.fsck_scan.specs.Scan.{names_at, IsLevelRead, come_to, HasScanned}
use Rattle.fsck_scan.proofs.LevelLaws.{entries_more}
use Rattle.fsck_scan.proofs.MarkLaws.{any_place}

or_false : (a b : Bool) → (a || b) ≡ false → (a ≡ false) × (b ≡ false)
or_false true b is = cc
or_false false b is = (refl, is)

or_true : (a b : Bool) → (a || b) ≡ true → (a ≡ true) ⊎ (b ≡ true)
or_true true b is = inl refl
or_true false b is = inr is

or_left : (a b : Bool) → a ≡ true → (a || b) ≡ true
or_left true b is = refl
or_left false b is = cc

or_right : (a b : Bool) → b ≡ true → (a || b) ≡ true
or_right true b is = refl
or_right false b is = is

or_assoc : (a b c : Bool) → ((a || b) || c) ≡ (a || (b || c))
or_assoc true b c = refl
or_assoc false b c = refl

true_false : true ≡ false → ⊥
true_false is = cc

-- a node that stands in a list is among its nodes
pub among : (ns : List ℕ) (n : ℕ) → Contains ns n → list_any (λ other. other == n) ns ≡ true
among ns n stands = list_any_at (λ other. other == n) ns stands.0 n stands.1 (eq-eqb (get_or ns stands.0 n) n stands.2)

-- marks made in two steps
pub marks_both : (xs ys : List ℕ) (a b c : List Bool) → MarksAll xs a b → MarksAll ys b c → MarksAll (xs ++ ys) a c
marks_both xs ys a b c first second = record {
  size = second.size ∙ first.size;
  bits = λ n. second.bits n ∙ ap (λ t. t || list_any (λ other. other == n) ys) (first.bits n) ∙ or_assoc (get_or a n false) (list_any (λ other. other == n) xs) (list_any (λ other. other == n) ys)
      ∙ ap (λ t. get_or a n false || t) (sym (list_any-append (λ other. other == n) xs ys));
  fresh = λ k inside. elim (cases_lt k (length xs)) [
    | inl low ↦ ap (λ n. get_or a n true) (get_or_append_left xs ys 0 k low) ∙ first.fresh k low
    | inr high ↦ ap (λ n. get_or a n true) (later k high) ∙ (clear_before (k - length xs) (omega (arith, inside, high, length-append xs ys))).0
  ];
  apart = λ i j less inside same. elim (cases_lt j (length xs)) [
    | inl low ↦ first.apart i j less low (sym (get_or_append_left xs ys 0 i (omega (arith, less, low))) ∙ same ∙ get_or_append_left xs ys 0 j low)
    | inr high ↦ elim (cases_lt i (length xs)) [
      | inl before ↦ cross i (j - length xs) before (omega (arith, inside, high, length-append xs ys)) (sym (get_or_append_left xs ys 0 i before) ∙ same ∙ later j high)
      | inr behind ↦ second.apart (i - length xs) (j - length xs) (omega (arith, less, behind)) (omega (arith, inside, high, length-append xs ys)) (sym (later i behind) ∙ same ∙ later j high)
    ]
  ];
  count = omega (arith, first.count, second.count, length-append xs ys);
}
  where
    later : (k : ℕ) → length xs ≤ k → slice_index (xs ++ ys) k ≡ slice_index ys (k - length xs)
    later k high = ap (λ i. slice_index (xs ++ ys) i) (let is : k ≡ length xs + (k - length xs) = omega (arith, high) in is) ∙ get_or-append-add xs ys (k - length xs) 0

    within : (m : ℕ) (marks : List Bool) → get_or marks m true ≡ false → m < length marks
    within m marks clear = ⊎_elim (λ (low : m < length marks). low) (λ (past : length marks ≤ m). absurd (true_false (sym (get_or_past marks m true past) ∙ clear))) (cases_lt m (length marks))

    clear_before : (k : ℕ) → k < length ys → (get_or a (slice_index ys k) true ≡ false) × (list_any (λ other. other == slice_index ys k) xs ≡ false)
    clear_before k inside =
        let n = slice_index ys k in
        let low : n < length b = within n b (second.fresh k inside) in
        let both = or_false (get_or a n false) (list_any (λ other. other == n) xs) (sym (first.bits n) ∙ get_or_default b n false true low ∙ second.fresh k inside) in
        (get_or_default a n true false (omega (arith, low, first.size)) ∙ both.0, both.1)

    cross : (i k : ℕ) → i < length xs → k < length ys → slice_index xs i ≡ slice_index ys k → ⊥
    cross i k before inside same = true_false (sym (among xs (slice_index ys k) (i, before, get_or_default xs i (slice_index ys k) 0 before ∙ same)) ∙ (clear_before k inside).1)

-- marks that end as others, which are equal
pub marks_of : (xs ys : List ℕ) (a b : List Bool) → xs ≡ ys → MarksAll xs a b → MarksAll ys a b
marks_of xs ys a b same marks = subst (λ l. MarksAll l a b) same marks

-- numbers that are one greater
shifted : (p : ℕ → Bool) (a b n : ℕ) → b ≡ suc a → count_by p (range_with_len b n) ≡ count_by (λ k. p (suc k)) (range_with_len a n)
shifted p a b zero is = refl
shifted p a b (suc n) is =
    sum_by-cons (λ z. cond (p z) 1 0) b (range_with_len (b + 1) n) ∙ ap (λ k. cond (p b) 1 0 + k) (shifted p (a + 1) (b + 1) n (omega (arith, is))) ∙ ap (λ k. cond (p k) 1 0 + count_by (λ m. p (suc m)) (range_with_len (a + 1) n)) is
    ∙ sym (sum_by-cons (λ z. cond (p (suc z)) 1 0) a (range_with_len (a + 1) n))

none_counted : (xs : List ℕ) → count_by (λ k. get_or {A = Bool} [] k false) xs ≡ 0
none_counted [] = refl
none_counted (x ∷ xs) = omega (arith, sum_by-cons (λ z. cond (get_or {A = Bool} [] z false) 1 0) x xs, none_counted xs)

-- how many flags are set is how many numbers have a flag that is set
counted : (marks : List Bool) (total : ℕ) → length marks ≤ total → count_by (λ n. get_or marks n false) (range_with_len 0 total) ≡ count_set marks
counted [] total fits = none_counted (range_with_len 0 total)
counted (b ∷ marks) zero fits = absurd (omega (arith, fits))
counted (b ∷ marks) (suc total) fits =
    sum_by-cons (λ z. cond (get_or (b ∷ marks) z false) 1 0) 0 (range_with_len 1 total) ∙ ap (λ k. cond b 1 0 + k) (shifted (λ n. get_or (b ∷ marks) n false) 0 1 total (omega arith) ∙ counted marks total (omega (arith, fits)))
    ∙ sym (sum_by-cons (λ z. cond z 1 0) b marks)

-- marks begin with none
pub none_set : (there n : ℕ) → n < there → get_or (replicate there false) n true ≡ false
none_set there n inside = get_or-replicate there n false true inside

module _ (is_key is_value : List ℕ → Type 0) (cmp : List ℕ → List ℕ → Ordering) (tree : TreeFile) where
  -- the nodes come to, with one level more
  come_more : (j : ℕ) → come_to tree (j + 1) ≡ come_to tree j ++ level_in tree j
  come_more j =
      ap (λ l. (0 ∷ tree.chain) ++ l) (levels_more j) ∙ sym (append_assoc (0 ∷ tree.chain) (flat_map (level_in tree) (range_with_len 0 j)) (level_in tree j))
    where
      same_map : (xs : List ℕ) → map (λ n. n) xs ≡ xs
      same_map [] = refl
      same_map (x ∷ xs) = ap (λ l. x ∷ l) (same_map xs)

      range_more : (j : ℕ) → range_with_len 0 (j + 1) ≡ range_with_len 0 j ++ j ∷ []
      range_more j = sym (same_map (range_with_len 0 (j + 1))) ∙ map-range_with_len_more (λ n. n) 0 j j (omega arith) ∙ ap (λ l. l ++ j ∷ []) (same_map (range_with_len 0 j))

      levels_more : (j : ℕ) → flat_map (level_in tree) (range_with_len 0 (j + 1)) ≡ flat_map (level_in tree) (range_with_len 0 j) ++ level_in tree j
      levels_more j = ap (flat_map (level_in tree)) (range_more j) ∙ flat_map-append (level_in tree) (range_with_len 0 j) (j ∷ []) ∙ ap (λ l. flat_map (level_in tree) (range_with_len 0 j) ++ l) (append-nil (level_in tree j))

  -- before the root is read
  pub scanned_none : (marks : List Bool) → length marks ≤ tree.head.total → IsHeaderNode (tree.nodes 0) → All (IsMapNode tree) tree.chain → MarksAll (0 ∷ tree.chain) (replicate (length marks) false) marks → HasScanned is_key is_value cmp tree 0 marks
  scanned_none marks fits header maps marked = record {
    fits = fits;
    header = header;
    maps = maps;
    read = λ i less. absurd (omega (arith, less));
    inside = λ i less. absurd (omega (arith, less));
    marked = marks_of (0 ∷ tree.chain) (come_to tree 0) (replicate (length marks) false) marks (sym (append-nil (0 ∷ tree.chain))) marked;
  }

  -- one level more
  pub scanned_more : (j : ℕ) (marks new : List Bool) (records : List (List ℕ)) (ends : List ℕ) → HasScanned is_key is_value cmp tree j marks → All (λ n. n < tree.head.total) (level_in tree j) → MarksAll (level_in tree j) marks new
      → IsLevelRead is_key is_value cmp tree j records ends → HasScanned is_key is_value cmp tree (j + 1) new
  scanned_more j marks new records ends scanned inside marked level = record {
    fits = omega (arith, scanned.fits, marked.size);
    header = scanned.header;
    maps = scanned.maps;
    read = λ i less. elim (cases_lt i j) [
      | inl low ↦ scanned.read i low
      | inr high ↦ subst (λ k. (records : List (List ℕ)) × (ends : List ℕ) × IsLevelRead is_key is_value cmp tree k records ends) (let is : j ≡ i = omega (arith, less, high) in is) (records, ends, level)
    ];
    inside = λ i less. elim (cases_lt i j) [
      | inl low ↦ scanned.inside i low
      | inr high ↦ subst (λ k. All (λ n. n < tree.head.total) (level_in tree k)) (let is : j ≡ i = omega (arith, less, high) in is) inside
    ];
    marked = subst (λ n. MarksAll (come_to tree (j + 1)) (replicate n false) new) (sym marked.size)
        (marks_of (come_to tree j ++ level_in tree j) (come_to tree (j + 1)) (replicate (length marks) false) new (sym (come_more j)) (marks_both (come_to tree j) (level_in tree j) (replicate (length marks) false) marks new scanned.marked marked));
  }

  -- ---- the nodes of levels that were read

  -- all records of a level that was read
  pub records_of : (j : ℕ) (records : List (List ℕ)) (ends : List ℕ) → IsLevelRead is_key is_value cmp tree j records ends → records ≡ entries tree.nodes (level_in tree j)
  records_of j records ends level = level.records_are ∙ ap (entries tree.nodes) (take_all (length (level_in tree j)) (level_in tree j) (omega arith))

  -- a node of a level that was read is good there
  pub good_at : (j n : ℕ) (records : List (List ℕ)) (ends : List ℕ) → IsLevelRead is_key is_value cmp tree j records ends → All (λ m. m < tree.head.total) (level_in tree j) → Contains (level_in tree j) n → IsGoodNode is_key is_value tree (levels_in tree - j) n
  good_at j n records ends level inside stands = record {
    inside = each_of (λ m. m < tree.head.total) (level_in tree j) inside n stands;
    kind = let at = at_place (level_in tree j) n stands in subst (λ m. IsNodeOf (kind_at (levels_in tree - j)) (levels_in tree - j) (tree.nodes m)) at.2 (level.kinds at.0 at.1);
    keys = all_of (λ item. is_key (key_of item)) (items (tree.nodes n)) (λ item own. (good item own).key);
    short = all_of (λ item. length item ≤ tree.head.node_size / 2 - 10) (items (tree.nodes n)) (λ item own. (good item own).short);
    leaf = λ one. all_of (λ item. is_value (value_of item)) (items (tree.nodes n)) (λ item own. (good item own).leaf one);
    index = λ many. all_of (λ item. length (value_of item) ≡ 4) (items (tree.nodes n)) (λ item own. (good item own).index many);
  }
    where
      good : (item : List ℕ) → Contains (items (tree.nodes n)) item → IsGoodRecord is_key is_value (tree.head.node_size / 2 - 10) (levels_in tree - j) item
      good item own = each_of (IsGoodRecord is_key is_value (tree.head.node_size / 2 - 10) (levels_in tree - j)) records level.good item
          (subst (λ l. Contains l item) (sym (records_of j records ends level)) (stands_flat (λ m. items (tree.nodes m)) (level_in tree j) n item stands own))

  level_next : (j : ℕ) → level_in tree (j + 1) ≡ children_of (entries tree.nodes (level_in tree j))
  level_next j = ap (λ i. level_in tree i) (let is : j + 1 ≡ suc j = omega arith in is)

  names_next : (j : ℕ) → names_at tree (j + 1) ≡ entries tree.nodes (level_in tree j)
  names_next j = ap (λ i. names_at tree i) (let is : j + 1 ≡ suc j = omega arith in is)

  -- a place of a level that was read is in order, where the level below was read too
  pub order_at : (j k : ℕ) (records : List (List ℕ)) (ends : List ℕ) → IsLevelRead is_key is_value cmp tree j records ends → k < length (level_in tree j)
      → (j + 1 < levels_in tree → (below : List (List ℕ)) × (others : List ℕ) × IsLevelRead is_key is_value cmp tree (j + 1) below others) → IsInOrderAt cmp tree j k
  order_at j k records ends level inside lower = record {
    rising = λ i m less low high. subst (Ascends cmp) (records_of j records ends level) level.rising i m less (omega (arith, high, all_after));
    named = λ more. named_at more;
    next = level.next k inside;
    back = level.back k inside;
  }
    where
      all_after : length (entries tree.nodes (take (k + 1) (level_in tree j))) ≤ length (entries tree.nodes (level_in tree j))
      all_after = longer (level_in tree j) (k + 1)
        where
          longer : (ns : List ℕ) (k : ℕ) → length (entries tree.nodes (take k ns)) ≤ length (entries tree.nodes ns)
          longer [] zero = omega arith
          longer [] (suc k) = omega arith
          longer (n ∷ ns) zero = omega arith
          longer (n ∷ ns) (suc k) = omega (arith, longer ns k, length-append (items (tree.nodes n)) (entries tree.nodes (take k ns)), length-append (items (tree.nodes n)) (entries tree.nodes ns))

      named_at : j + 1 < levels_in tree → All (λ item. first_key tree.nodes (child_of item) ≡ key_of item) (items (tree.nodes (slice_index (level_in tree j) k)))
      named_at more m d own =
          let read = lower more in
          let at = length (entries tree.nodes (take k (level_in tree j))) + m in
          let end : length (entries tree.nodes (take (k + 1) (level_in tree j))) ≡ length (entries tree.nodes (take k (level_in tree j))) + length (items (tree.nodes (slice_index (level_in tree j) k))) =
          ap (λ (l : List (List ℕ)). length l) (entries_more tree.nodes (level_in tree j) k inside) ∙ length-append (entries tree.nodes (take k (level_in tree j))) (items (tree.nodes (slice_index (level_in tree j) k))) in
          let low : at < length (entries tree.nodes (level_in tree j)) = omega (arith, end, own, all_after) in
          let item : get_or (entries tree.nodes (level_in tree j)) at [] ≡ get_or (items (tree.nodes (slice_index (level_in tree j) k))) m [] = get_or-flat_map (λ n. items (tree.nodes n)) (level_in tree j) k m 0 [] inside own in
          let long : length (level_in tree (j + 1)) ≡ length (entries tree.nodes (level_in tree j)) = ap (λ (l : List ℕ). length l) (level_next j) ∙ length-map (entries tree.nodes (level_in tree j)) child_of in
          let child : slice_index (level_in tree (j + 1)) at ≡ child_of (get_or (entries tree.nodes (level_in tree j)) at []) = ap (λ (l : List ℕ). slice_index l at) (level_next j) ∙ get_or-map child_of (entries tree.nodes (level_in tree j)) at [] 0 low in
          let here : first_key_in (tree.nodes (slice_index (level_in tree (j + 1)) at)) ≡ key_of (get_or (names_at tree (j + 1)) at []) = (read.2).named at (omega (arith, low, long)) (subst (λ (l : List (List ℕ)). at < length l) (sym (names_next j)) low) in
          let same : get_or (items (tree.nodes (slice_index (level_in tree j) k))) m d ≡ get_or (entries tree.nodes (level_in tree j)) at [] = get_or_default (items (tree.nodes (slice_index (level_in tree j) k))) m d [] own ∙ sym item in
          ap (λ r. first_key tree.nodes (child_of r)) same ∙ ap (λ n. first_key tree.nodes n) (sym child) ∙ here ∙ ap (λ (l : List (List ℕ)). key_of (get_or l at [])) (names_next j) ∙ ap key_of (sym same)

  -- ---- nodes that can't be marked

  -- a node of the next level isn't in the file, or was marked before: it isn't good
  pub node_taken : (id j n : ℕ) (marks : List Bool) → HasScanned is_key is_value cmp tree j marks → j < levels_in tree → Contains (level_in tree j) n
      → ((n : ℕ) → length marks ≤ n → n < tree.head.total → (kind_of (tree.nodes n) ≡ pos 0) × (height_of (tree.nodes n) ≡ 0))
      → (tree.head.total ≤ n) ⊎ (get_or marks n true ≡ true) → FailsNode is_key is_value id tree (node_place id n)
  node_taken id j n marks scanned less stands blank why = inr (j, n, less, stands, refl, λ good. not_good good why)
    where
      kinds : (height : ℕ) → (kind_at height ≡ pos 1 → ⊥) × (kind_at height ≡ pos 2 → ⊥)
      kinds zero = ((λ same. cc), (λ same. cc))
      kinds (suc zero) = ((λ same. cc), (λ same. cc))
      kinds (suc (suc above)) = ((λ same. cc), (λ same. cc))

      marked : IsGoodNode is_key is_value tree (levels_in tree - j) n → Contains (come_to tree j) n → ⊥
      marked good (zero, inside, is) = (kinds (levels_in tree - j)).0 (sym good.kind.has_kind ∙ ap (λ m. kind_of (tree.nodes m)) (sym is) ∙ scanned.header.0.has_kind)
      marked good (suc k, inside, is) = elim (cases_lt k (length tree.chain)) [
        | inl low ↦ (kinds (levels_in tree - j)).1 (sym good.kind.has_kind ∙ (each_of (IsMapNode tree) tree.chain scanned.maps n (k, low, sym (get_or_append_left tree.chain (flat_map (level_in tree) (range_with_len 0 j)) n k low) ∙ is)).1.has_kind)
        | inr high ↦
            let rest = flat_map (level_in tree) (range_with_len 0 j) in
            let at : k ≡ length tree.chain + (k - length tree.chain) = omega (arith, high) in
            let later : Contains rest n = (k - length tree.chain, omega (arith, inside, high, length-append tree.chain rest), sym (ap (λ i. get_or (tree.chain ++ rest) i n) at ∙ get_or-append-add tree.chain rest (k - length tree.chain) n) ∙ is) in
            let level = flat_cases (level_in tree) (range_with_len 0 j) n later in
            let low : level.0 < j = let bounds = range_bounds 0 j level.0 level.1 in omega (arith, bounds.1) in
            let read = scanned.read level.0 low in
            taller_is_bad is_key is_value tree (levels_in tree - level.0) (levels_in tree - j) n (let differ : levels_in tree - level.0 ≡ levels_in tree - j → ⊥ = λ same. omega (arith, same, low, less) in differ)
            (good_at level.0 n read.0 read.1 read.2 (scanned.inside level.0 low) level.2) good
      ]

      not_good : IsGoodNode is_key is_value tree (levels_in tree - j) n → (tree.head.total ≤ n) ⊎ (get_or marks n true ≡ true) → ⊥
      not_good good (inl past) = let inside : n < tree.head.total = good.inside in omega (arith, past, inside)
      not_good good (inr set) = ⊎_elim
          (λ (inside : n < length marks). ⊎_elim
          (λ (was : get_or (replicate (length marks) false) n false ≡ true). true_false (sym was ∙ get_or-replicate (length marks) n false false inside))
          (λ (any : list_any (λ other. other == n) (come_to tree j) ≡ true). marked good (any_place (come_to tree j) n any))
          (or_true (get_or (replicate (length marks) false) n false) (list_any (λ other. other == n) (come_to tree j)) (sym (scanned.marked.bits n) ∙ get_or_default marks n false true inside ∙ set)))
          (λ (past : length marks ≤ n). let zero_height : levels_in tree - j ≡ 0 = sym good.kind.has_height ∙ (blank n past good.inside).1 in omega (arith, zero_height, less))
          (cases_lt n (length marks))

  -- a node that stands again in its own level isn't in order there
  pub node_again : (id j n : ℕ) (records : List (List ℕ)) (marks : List Bool) → HasScanned is_key is_value cmp tree (j + 1) marks → j + 1 < levels_in tree → records ≡ entries tree.nodes (level_in tree j)
      → (wrong : IsNoChild tree.head.total records marks n true) → FailsOrder cmp id tree (node_place id n)
  node_again id j n records marks scanned less are wrong =
      subst (λ m. FailsOrder cmp id tree (node_place id m)) (sym (wrong.is ∙ ap (λ (l : List ℕ). slice_index l wrong.at) (sym level_is)))
      (repeated_fails cmp id tree (j + 1) k wrong.at less within inside same (preds k wrong.at within (omega arith)))
    where
      level_is : level_in tree (j + 1) ≡ children_of records
      level_is = level_next j ∙ ap children_of (sym are)

      inside : wrong.at < length (level_in tree (j + 1))
      inside = omega (arith, wrong.inside, ap (λ (l : List ℕ). length l) level_is, length-map records child_of)

      first : Contains (take wrong.at (children_of records)) n
      first = wrong.twice refl

      k : ℕ
      k = first.0

      within : k < wrong.at
      within = omega (arith, first.1, length-take wrong.at (children_of records))

      front : (i : ℕ) → i < wrong.at → slice_index (take wrong.at (children_of records)) i ≡ slice_index (level_in tree (j + 1)) i
      front i low = get_or-take wrong.at (children_of records) i 0 low ∙ ap (λ (l : List ℕ). slice_index l i) (sym level_is)

      long : (i : ℕ) → i < wrong.at → i < length (take wrong.at (children_of records))
      long i low = omega (arith, low, wrong.inside, length-take wrong.at (children_of records), length-map records child_of)

      same : slice_index (level_in tree (j + 1)) k ≡ slice_index (level_in tree (j + 1)) wrong.at
      same = sym (front k within) ∙ get_or_default (take wrong.at (children_of records)) k 0 n first.1 ∙ first.2 ∙ wrong.is ∙ ap (λ (l : List ℕ). slice_index l wrong.at) (sym level_is)

      zero_marked : get_or marks 0 true ≡ false → ⊥
      zero_marked clear = ⊎_elim
          (λ (low : 0 < length marks). true_false (sym (scanned.marked.bits 0 ∙ or_right (get_or (replicate (length marks) false) 0 false) (list_any (λ other. other == 0) (come_to tree (j + 1))) refl) ∙ get_or_default marks 0 false true low ∙ clear))
          (λ (past : length marks ≤ 0). true_false (sym (get_or_past marks 0 true past) ∙ clear))
          (cases_lt 0 (length marks))

      preds : (k m : ℕ) → k < m → m ≤ wrong.at → slice_index (0 ∷ level_in tree (j + 1)) k ≢ slice_index (0 ∷ level_in tree (j + 1)) m
      preds k zero low within equal = absurd (omega (arith, low))
      preds zero (suc m) low within equal = zero_marked (ap (λ n. get_or marks n true) (equal ∙ sym (front m (omega (arith, within)))) ∙ wrong.before.fresh m (long m (omega (arith, within))))
      preds (suc k) (suc m) low within equal = wrong.before.apart k m (omega (arith, low)) (long m (omega (arith, within))) (front k (omega (arith, low, within)) ∙ equal ∙ sym (front m (omega (arith, within))))

  -- ---- the rules

  pub all_good : (j n : ℕ) (marks : List Bool) → HasScanned is_key is_value cmp tree (levels_in tree) marks → j < levels_in tree → Contains (level_in tree j) n → IsGoodNode is_key is_value tree (levels_in tree - j) n
  all_good j n marks scanned less stands = let read = scanned.read j less in good_at j n read.0 read.1 read.2 (scanned.inside j less) stands

  pub all_ordered : (j k : ℕ) (marks : List Bool) → HasScanned is_key is_value cmp tree (levels_in tree) marks → j < levels_in tree → k < length (level_in tree j) → IsInOrderAt cmp tree j k
  all_ordered j k marks scanned less inside = let read = scanned.read j less in order_at j k read.0 read.1 read.2 inside (λ more. scanned.read (j + 1) more)

  -- no map node comes twice
  pub maps_apart : (j : ℕ) (marks : List Bool) → HasScanned is_key is_value cmp tree j marks → (i k : ℕ) → i < k → k < length tree.chain → slice_index tree.chain i ≡ slice_index tree.chain k → ⊥
  maps_apart j marks scanned i k less inside same =
      let rest = flat_map (level_in tree) (range_with_len 0 j) in
      scanned.marked.apart (suc i) (suc k) (omega (arith, less)) (omega (arith, inside, length-append tree.chain rest))
      (get_or_append_left tree.chain rest 0 i (omega (arith, less, inside)) ∙ same ∙ sym (get_or_append_left tree.chain rest 0 k inside))

  -- all nodes in use are marked, and no others
  pub used_is : (n : ℕ) (marks : List Bool) → HasScanned is_key is_value cmp tree (levels_in tree) marks → get_or marks n false ≡ is_in_use tree n
  used_is n marks scanned = scanned.marked.bits n ∙ by (get_or (replicate (length marks) false) n false) refl
    where
      by : (b : Bool) → get_or (replicate (length marks) false) n false ≡ b → (get_or (replicate (length marks) false) n false || list_any (λ other. other == n) (come_to tree (levels_in tree))) ≡ is_in_use tree n
      by true is = absurd (true_false (sym is ∙ clear))
        where
          clear : get_or (replicate (length marks) false) n false ≡ false
          clear = ⊎_elim (λ (low : n < length marks). none_at low) (λ (past : length marks ≤ n). get_or_past (replicate (length marks) false) n false (omega (arith, past, length-replicate {A = Bool} (length marks) false))) (cases_lt n (length marks))
            where
              none_at : n < length marks → get_or (replicate (length marks) false) n false ≡ false
              none_at low = get_or-replicate (length marks) n false false low
      by false is = ap (λ b. b || list_any (λ other. other == n) (come_to tree (levels_in tree))) is

  -- as many nodes are in use as are marked
  pub used_count : (marks : List Bool) → HasScanned is_key is_value cmp tree (levels_in tree) marks → count_by (is_in_use tree) (range_with_len 0 tree.head.total) ≡ count_set marks
  used_count marks scanned = same_counts (is_in_use tree) (λ n. get_or marks n false) (range_with_len 0 tree.head.total) (λ n stands. sym (used_is n marks scanned)) ∙ counted marks tree.head.total scanned.fits
