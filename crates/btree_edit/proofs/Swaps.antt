-- A record of a leaf replaced by another with its key and its length: the tree is one still.
use Rattle.std.proofs.Common.{◌≡◌, ◌≢◌, ◌⊎◌, ℕ, suc, ◌+◌, ◌-◌, ◌/◌, ◌^◌, ◌<◌, ◌≤◌, true, false, List, [], ◌∷◌, ◌++◌, map, length, take, drop, get_or, set, max, inl, inr, refl, sym, ◌∙◌, ap, subst, arith}
use Rattle.std.proofs.lemmas.Bool.{cases_eq, cases_lt}
use Rattle.std.proofs.lemmas.List.{length-set, length-append, length-map, append-nil, set_split, get_or_at, get_or_append_left, get_or-append_right, get_or-set_same, get_or-set_other}
use Rattle.std.specs.Prelude.{IsTrue}
use Rattle.std.specs.Cmp.{IsTotalOrder}
use Rattle.std.specs.declared.cmp.Ordering.{Ordering}
use Rattle.std.specs.declared.cmp.Ordering.TheVariants.{Less, Equal, Greater}
use Rattle.std.specs.List.{range_with_len, count_by}
use Rattle.hx_bytes.specs.Field.{big_at, big}
use Rattle.btree_node.specs.Node.{items, IsNode, SameHead, next_of, back_of, kind_of, height_of}
use Rattle.btree_node.specs.Levels.{Pair, entries, leaves, key_of, value_of, pair_of, record_for, splice, Ascends}
use Rattle.btree_node.specs.Store.{Store, SameStore, SameNodes}
use Rattle.btree_node.specs.Tree.{level_of, entries_of, pairs_of, IsTreeNode, HasHeader, IsTree}
use Rattle.btree_node.specs.declared.store.TreeShape.{TreeShape}
use Rattle.btree_node.proofs.Levels.{same_entries, level_spliced}
use Rattle.btree_node.proofs.Ranks.{in_node, level_long, below_all}
use Rattle.btree_edit.specs.Climb.{IsLevel, IsTreeBut}
use Rattle.btree_edit.specs.Editing.{CostsAtMost}
use Rattle.btree_edit.specs.Edits.{top_of, IsNoHigher}
use Rattle.btree_edit.specs.Reading.{ReadsNodes}
use Rattle.btree_edit.specs.Desk.{StandsIn, HoldsPair, Finds, IsInTree}
use Rattle.btree_edit.specs.declared.finding.Found.{Found}
use Rattle.btree_edit.specs.declared.finding.Found.TheVariants.{At}
use Rattle.btree_edit.specs.declared.desk.Desk.{Desk}
use Rattle.btree_edit.specs.LevelEdit.{bit}
use Rattle.btree_edit.specs.Rising.{MakesTree, BoundsRoot, RootHasTwoChildren}
use Rattle.btree_edit.specs.Swapping.{HasRecord, SwapsRecord, HasValueOf, ChangesLeafAlone}
use Rattle.btree_edit.specs.Sorted.{ChangesPair, EditsTree}
use Rattle.std.proofs.lemmas.List.Sums.{get_or-le-sum_by}
use Rattle.btree_edit.proofs.Counting.{bits_changed}
use Rattle.btree_edit.proofs.Cuts.{node_holds}
use Rattle.btree_edit.proofs.Linking.{linked_same}
use Rattle.btree_edit.proofs.OneLevel.{still_tree_node}
use Rattle.btree_edit.proofs.Descent.{pairs_are, pair_at, pairs_long}
use Rattle.btree_edit.proofs.Pairs.{key_of_joined, value_of_joined}
use Rattle.btree_edit.proofs.Repeated.{same_store_both}
use Rattle.btree_edit.proofs.Splices.{map-splice}
use Rattle.btree_edit.proofs.Stepping.{level_kept}
use Rattle.btree_edit.proofs.Whole.{but_of_tree, same_level, tree_of, pairs_then}

module _ {is_key : List ℕ → Type 0} {cmp : List ℕ → List ℕ → Ordering} (key_length : (a : List ℕ) → is_key a → length a ≡ big_at 2 a 0 + 2)
    (old new : Store) (leaf index k : ℕ) (bytes : List ℕ) (tree : IsTree is_key cmp old) (stands : StandsIn old leaf index k)
    (swaps : SwapsRecord leaf index bytes old new) (same : SameStore old new) (shape : new.shape ≡ old.shape) (small : new.shape.total ≤ 2 ^ 32)
    (own : key_of bytes ≡ key_of (get_or (items (old.nodes leaf)) index [])) (long : length bytes ≡ length (get_or (items (old.nodes leaf)) index []))
  where
    abbrev low : ℕ
    low = old.shape.depth - 1

    abbrev all : List (List ℕ)
    all = entries_of old (old.shape.depth - 1)

    abbrev records : List (List ℕ)
    records = splice (entries_of old (old.shape.depth - 1)) k (k + 1) (bytes ∷ [])

    leaf_at : get_or (level_of old low) (length stands.front) 0 ≡ leaf
    leaf_at = ap (λ l. get_or l (length stands.front) 0) stands.is ∙ get_or_at stands.front leaf stands.back 0 (length stands.front) refl

    leaf_inside : length stands.front < length (level_of old low)
    leaf_inside = omega (arith, ap length stands.is, length-append stands.front (leaf ∷ stands.back))

    not_leaf : (j i : ℕ) → j < old.shape.depth → i < length (level_of old j) → (j ≢ old.shape.depth - 1) ⊎ (i ≢ length stands.front) → get_or (level_of old j) i 0 ≢ leaf
    not_leaf j i below inside other is =
        let equal = tree.mapped.distinct j i (old.shape.depth - 1) (length stands.front) below inside (omega (arith, stands.some)) leaf_inside (is ∙ sym leaf_at) in
        elim other [
          | inl level ↦ absurd (level equal.0)
          | inr place ↦ absurd (place equal.1)
        ]

    other_node : (j i : ℕ) → j < old.shape.depth → i < length (level_of old j) → (j ≢ old.shape.depth - 1) ⊎ (i ≢ length stands.front) → new.nodes (get_or (level_of old j) i 0) ≡ old.nodes (get_or (level_of old j) i 0)
    other_node j i below inside other = swaps.others (get_or (level_of old j) i 0) (not_leaf j i below inside other)

    same_length : (n : ℕ) → length (items (new.nodes n)) ≡ length (items (old.nodes n))
    same_length n = elim (cases_eq n leaf) [
      | inl is ↦ subst (λ m. length (items (new.nodes m)) ≡ length (items (old.nodes m))) (sym is) (ap length swaps.items ∙ length-set (items (old.nodes leaf)) index bytes)
      | inr other ↦ ap (λ l. length (items l)) (swaps.others n other)
    ]

    same_next : (n : ℕ) → next_of (new.nodes n) ≡ next_of (old.nodes n)
    same_next n = elim (cases_eq n leaf) [
      | inl is ↦ subst (λ m. next_of (new.nodes m) ≡ next_of (old.nodes m)) (sym is) swaps.head.next
      | inr other ↦ ap next_of (swaps.others n other)
    ]

    same_back : (n : ℕ) → back_of (new.nodes n) ≡ back_of (old.nodes n)
    same_back n = elim (cases_eq n leaf) [
      | inl is ↦ subst (λ m. back_of (new.nodes m) ≡ back_of (old.nodes m)) (sym is) swaps.head.back
      | inr other ↦ ap back_of (swaps.others n other)
    ]

    key_at : (i : ℕ) → key_of (get_or (set (items (old.nodes leaf)) index bytes) i []) ≡ key_of (get_or (items (old.nodes leaf)) i [])
    key_at i = elim (cases_eq i index) [
      | inl is ↦ subst (λ m. key_of (get_or (set (items (old.nodes leaf)) index bytes) m []) ≡ key_of (get_or (items (old.nodes leaf)) m [])) (sym is)
          (ap key_of (get_or-set_same (items (old.nodes leaf)) index bytes [] stands.inside) ∙ own)
      | inr other ↦ ap key_of (get_or-set_other (items (old.nodes leaf)) index i bytes [] other)
    ]

    same_name : (n : ℕ) → record_for new.nodes n ≡ record_for old.nodes n
    same_name n = elim (cases_eq n leaf) [
      | inl is ↦ subst (λ m. record_for new.nodes m ≡ record_for old.nodes m) (sym is)
          (ap (λ key. key ++ big 4 leaf) (ap (λ (l : List (List ℕ)). key_of (get_or l 0 [])) swaps.items ∙ key_at 0))
      | inr other ↦ ap (λ l. key_of (get_or (items l) 0 []) ++ big 4 n) (swaps.others n other)
    ]

    same_names : (ns : List ℕ) → map (λ n. record_for new.nodes n) ns ≡ map (λ n. record_for old.nodes n) ns
    same_names [] = refl
    same_names (n ∷ ns) = ap (λ r. r ∷ map (λ m. record_for new.nodes m) ns) (same_name n) ∙ ap (λ l. record_for old.nodes n ∷ l) (same_names ns)

    tree_node : (height n : ℕ) → IsTreeNode old height n → IsTreeNode new height n
    tree_node height n node = elim (cases_eq n leaf) [
      | inr other ↦ still_tree_node old new height n same (swaps.others n other) node
      | inl is ↦ record {
        inside = omega (arith, node.inside, same.total);
        kind = record {
          well_formed = subst (λ m. IsNode (new.nodes m)) (sym is) swaps.well_formed;
          has_kind = subst (λ m. kind_of (new.nodes m) ≡ kind_of (old.nodes m)) (sym is) swaps.head.kind ∙ node.kind.has_kind;
          has_height = subst (λ m. height_of (new.nodes m) ≡ height_of (old.nodes m)) (sym is) swaps.head.height ∙ node.kind.has_height;
        };
        size = subst (λ m. length (new.nodes m) ≡ length (old.nodes m)) (sym is) swaps.head.size ∙ node.size ∙ sym same.node_size;
      }
    ]

    front_same : (i : ℕ) → i < length stands.front → items (new.nodes (get_or stands.front i 0)) ≡ items (old.nodes (get_or stands.front i 0))
    front_same i inside =
        let at : get_or (level_of old low) i 0 ≡ get_or stands.front i 0 = ap (λ l. get_or l i 0) stands.is ∙ get_or_append_left stands.front (leaf ∷ stands.back) 0 i inside in
        subst (λ n. items (new.nodes n) ≡ items (old.nodes n)) at (ap items (other_node low i (omega (arith, stands.some)) (omega (arith, inside, leaf_inside)) (inr (λ is. absurd (omega (arith, inside, is))))))

    back_same : (i : ℕ) → i < length stands.back → items (new.nodes (get_or stands.back i 0)) ≡ items (old.nodes (get_or stands.back i 0))
    back_same i inside =
        let place : ℕ = length stands.front + suc i in
        let at : get_or (level_of old low) (length stands.front + suc i) 0 ≡ get_or stands.back i 0 =
        ap (λ l. get_or l (length stands.front + suc i) 0) stands.is
        ∙ get_or-append_right stands.front (leaf ∷ stands.back) (length stands.front) (length stands.front + suc i) 0 refl (omega arith)
        ∙ ap (λ m. get_or (leaf ∷ stands.back) m 0) {x = length stands.front + suc i - length stands.front} {y = suc i} (omega arith) in
        subst (λ n. items (new.nodes n) ≡ items (old.nodes n)) at
        (ap items (other_node low (length stands.front + suc i) (omega (arith, stands.some)) (omega (arith, inside, ap length stands.is, length-append stands.front (leaf ∷ stands.back))) (inr (λ is. absurd (omega (arith, is))))))

    made : entries new.nodes (leaf ∷ []) ≡ splice (items (old.nodes leaf)) index (index + 1) (bytes ∷ [])
    made =
        append-nil (items (new.nodes leaf)) ∙ swaps.items ∙ set_split (items (old.nodes leaf)) index bytes stands.inside
        ∙ ap (λ m. take index (items (old.nodes leaf)) ++ bytes ∷ drop m (items (old.nodes leaf))) {x = suc index} {y = index + 1} (omega arith)

    leaves_then : entries new.nodes (level_of old low) ≡ records
    leaves_then =
        ap (λ l. entries new.nodes l) stands.is
        ∙ level_spliced old.nodes new.nodes stands.front stands.back (leaf ∷ []) leaf index (index + 1) (bytes ∷ []) front_same back_same (omega arith) (omega (arith, stands.inside)) made
        ∙ ap (λ l. splice (entries old.nodes l) (length (entries old.nodes stands.front) + index) (length (entries old.nodes stands.front) + (index + 1)) (bytes ∷ [])) (sym stands.is)
        ∙ ap (λ m. splice (entries_of old (old.shape.depth - 1)) m (length (entries old.nodes stands.front) + (index + 1)) (bytes ∷ [])) (sym stands.place)
        ∙ ap (λ m. splice (entries_of old (old.shape.depth - 1)) k m (bytes ∷ [])) {x = length (entries old.nodes stands.front) + (index + 1)} {y = k + 1} (omega (arith, stands.place))

    all_at : get_or all k [] ≡ get_or (items (old.nodes leaf)) index []
    all_at =
        ap (λ l. get_or (entries old.nodes l) k []) stands.is
        ∙ ap (λ m. get_or (entries old.nodes (stands.front ++ leaf ∷ stands.back)) m []) stands.place
        ∙ in_node old.nodes stands.front leaf stands.back index stands.inside

    all_inside : k < length all
    all_inside = omega (arith, ap (λ l. length (entries old.nodes l)) stands.is, level_long old.nodes stands.front leaf stands.back, stands.place, stands.inside)

    as_set : records ≡ set all k bytes
    as_set =
        ap (λ m. take k (entries_of old (old.shape.depth - 1)) ++ bytes ∷ drop m (entries_of old (old.shape.depth - 1))) {x = k + 1} {y = suc k} (omega arith)
        ∙ sym (set_split (entries_of old (old.shape.depth - 1)) k bytes all_inside)

    many : length records ≡ length all
    many = ap length as_set ∙ length-set (entries_of old (old.shape.depth - 1)) k bytes

    record_key : (i : ℕ) → key_of (get_or records i []) ≡ key_of (get_or all i [])
    record_key i = ap (λ l. key_of (get_or l i [])) as_set ∙ elim (cases_eq i k) [
      | inl is ↦ subst (λ m. key_of (get_or (set (entries_of old (old.shape.depth - 1)) k bytes) m []) ≡ key_of (get_or (entries_of old (old.shape.depth - 1)) m [])) (sym is)
          (ap key_of (get_or-set_same (entries_of old (old.shape.depth - 1)) k bytes [] all_inside) ∙ own ∙ ap key_of (sym all_at))
      | inr other ↦ ap key_of (get_or-set_other (entries_of old (old.shape.depth - 1)) k i bytes [] other)
    ]

    record_long : (i : ℕ) → length (get_or records i []) ≡ length (get_or all i [])
    record_long i = ap (λ l. length (get_or l i [])) as_set ∙ elim (cases_eq i k) [
      | inl is ↦ subst (λ m. length (get_or (set (entries_of old (old.shape.depth - 1)) k bytes) m []) ≡ length (get_or (entries_of old (old.shape.depth - 1)) m [])) (sym is)
          (ap length (get_or-set_same (entries_of old (old.shape.depth - 1)) k bytes [] all_inside) ∙ long ∙ ap length (sym all_at))
      | inr other ↦ ap length (get_or-set_other (entries_of old (old.shape.depth - 1)) k i bytes [] other)
    ]

    leaf_low : old.shape.depth - 1 < old.shape.depth
    leaf_low = omega (arith, stands.some)

    leaf_keys : (i : ℕ) → i < length records → is_key (key_of (get_or records i []))
    leaf_keys i inside = subst is_key (sym (record_key i)) (tree.levels.keys (old.shape.depth - 1) i leaf_low (omega (arith, inside, many)))

    leaf_ascends : Ascends cmp records
    leaf_ascends i j less inside =
        ap (λ a. cmp a (key_of (get_or records j []))) (record_key i) ∙ ap (λ b. cmp (key_of (get_or all i [])) b) (record_key j)
        ∙ tree.ordered.ascends (old.shape.depth - 1) leaf_low i j less (omega (arith, inside, many))

    leaf_short : (i : ℕ) → i < length records → length (get_or records i []) ≤ new.shape.node_size / 2 - 10
    leaf_short i inside =
        let short = tree.levels.short (old.shape.depth - 1) i (omega (arith, stands.some)) (omega (arith, inside, many)) in
        subst (λ n. length (get_or records i []) ≤ n / 2 - 10) (sym same.node_size) (omega (arith, record_long i, short))

    but : IsTreeBut is_key cmp old old.shape.depth (λ j. level_of old j) old.shape.depth 0 []
    but = but_of_tree old tree 0 []

    leaf_level : IsLevel is_key cmp new (old.shape.depth - low) (level_of old low)
    leaf_level = record {
      nodes = λ i inside. tree_node (old.shape.depth - low) (get_or (level_of old low) i 0) (tree.levels.nodes low i leaf_low inside);
      keys = subst (λ l. (i : ℕ) → i < length l → is_key (key_of (get_or l i []))) (sym leaves_then) leaf_keys;
      ascends = subst (λ l. Ascends cmp l) (sym leaves_then) leaf_ascends;
      linked = linked_same old.nodes new.nodes 0 (level_of old low) 0 (λ i inside. same_back (get_or (level_of old low) i 0)) (λ i inside. same_next (get_or (level_of old low) i 0)) (but.each low leaf_low).linked;
      short = λ is. subst (λ l. (i : ℕ) → i < length l → length (get_or l i []) ≤ new.shape.node_size / 2 - 10) (sym leaves_then) leaf_short;
    }

    each_level : (j : ℕ) → j < old.shape.depth → IsLevel is_key cmp new (old.shape.depth - j) (level_of old j)
    each_level j below = elim (cases_eq j (old.shape.depth - 1)) [
      | inl is ↦ subst (λ m. IsLevel is_key cmp new (old.shape.depth - m) (level_of old m)) (sym is) leaf_level
      | inr other ↦ level_kept old new (old.shape.depth - j) (level_of old j) same.node_size same.total (λ i inside. other_node j i below inside (inl other)) (but.each j below)
    ]

    but_then : IsTreeBut is_key cmp new old.shape.depth (λ j. level_of old j) old.shape.depth 0 []
    but_then = record {
      each = each_level;
      some = λ j below which i inside. omega (arith, same_length (get_or (level_of old j) i 0), but.some j below which i inside);
      named = λ j below other.
          same_entries old.nodes new.nodes (level_of old j) (λ i inside. ap items (other_node j i (omega arith) inside (inl (λ is. absurd (omega arith)))))
          ∙ but.named j below other ∙ sym (same_names (level_of old (j + 1)));
      wanted = λ j below is. absurd (omega arith);
      mapped = λ n inside. omega (arith, but.mapped n (omega (arith, inside, same.total)), ap bit (swaps.used n), ap bit (same.reserved n));
      header = same.reserved 0 ∙ but.header;
      free = omega (
        arith,
        but.free,
        same.total,
        ap (λ s. s.free) shape,
        ap (λ m. count_by (λ n. new.used n) (range_with_len 0 m)) same.total,
        bits_changed new.used old.used [] [] old.shape.total (λ m. ap (λ b. bit b + 0) (swaps.used m)) (λ m inside. absurd (omega arith)) (λ m inside. absurd (omega arith)),
      );
    }

    depth_is : new.shape.depth ≡ old.shape.depth
    depth_is = ap (λ s. s.depth) shape

    moved : IsTreeBut is_key cmp new new.shape.depth (λ j. level_of old j) new.shape.depth 0 []
    moved = subst (λ d. IsTreeBut is_key cmp new d (λ j. level_of old j) d 0 []) (sym depth_is) but_then

    top : 0 < new.shape.depth → level_of old 0 ≡ new.shape.root ∷ []
    top some = ap (λ s. s.root ∷ []) (sym shape)

    level_then : (j : ℕ) → j < new.shape.depth → level_of new j ≡ level_of old j
    level_then = same_level key_length new (λ j. level_of old j) new.shape.depth 0 [] moved (λ j below e. absurd (omega arith)) small top

    pairs_swapped : pairs_of new ≡ map pair_of records
    pairs_swapped =
        pairs_then key_length new (λ j. level_of old j) new.shape.depth 0 [] moved (λ j below e. absurd (omega arith)) small top (omega (arith, depth_is, stands.some))
        ∙ ap (λ d. map pair_of (entries new.nodes (level_of old (d - 1)))) depth_is
        ∙ ap (λ l. map pair_of l) leaves_then

    old_pairs : length (pairs_of old) ≡ length all
    old_pairs =
        ap (λ d. length (leaves old.nodes old.shape.root d)) {x = old.shape.depth} {y = suc (old.shape.depth - 1)} (omega (arith, stands.some))
        ∙ length-map (entries_of old (old.shape.depth - 1)) pair_of

    header_then : HasHeader new
    header_then = let header = tree.header in record {
      depth = omega (arith, header.depth, depth_is);
      empty = λ none. absurd (omega (arith, none, depth_is, stands.some));
      leaf_records = ap (λ s. s.leaf_records) shape ∙ header.leaf_records ∙ old_pairs ∙ sym many ∙ sym (length-map records pair_of) ∙ sym (ap length pairs_swapped);
      first = λ j leaf. ap (λ s. s.first) shape ∙ header.first j (omega (arith, depth_is)) ∙ sym (ap (λ l. get_or l 0 0) (level_then j (omega arith)));
      last = λ j leaf. ap (λ s. s.last) shape ∙ header.last j (omega (arith, depth_is)) ∙ sym (ap (λ l. get_or l (length l - 1) 0) (level_then j (omega arith)));
      no_leaf = λ none. absurd (omega (arith, none, depth_is, stands.some));
    }

    leaf_used : old.used leaf ≡ true
    leaf_used =
        let node = tree.levels.nodes (old.shape.depth - 1) (length stands.front) leaf_low leaf_inside in
        (tree.mapped.used leaf (subst (λ n. n < old.shape.total) leaf_at node.inside)).1
        (inl (record { below = old.shape.depth - 1; place = length stands.front; of_tree = leaf_low; inside = leaf_inside; is = leaf_at }))

    pub swapped : MakesTree is_key cmp old new (splice (entries_of old (old.shape.depth - 1)) k (k + 1) (bytes ∷ []))
    swapped = record {
      tree = tree_of key_length new (λ j. level_of old j) new.shape.depth 0 [] moved (λ j below e. absurd (omega arith)) small top header_then;
      pairs = pairs_swapped;
      filled = λ any. omega (arith, ap length pairs_swapped, length-map records pair_of, many, all_inside);
      others = λ n free unused still. swaps.others n (λ is. absurd (clash (sym unused ∙ ap old.used is ∙ leaf_used)));
    }
      where
        clash : false ≡ true → ⊥
        clash e = cc

-- The pair that was found gets another value of its length.
module _ {is_key : List ℕ → Type 0} {cmp : List ℕ → List ℕ → Ordering} (total : IsTotalOrder cmp) (key_length : (a : List ℕ) → is_key a → length a ≡ big_at 2 a 0 + 2)
    (old : Store) (desk : Desk) (node index k : ℕ) (key value : List ℕ) (tree : IsTree is_key cmp old) (stands : StandsIn old node index k) (holds : HoldsPair old desk k)
    (item : get_or (items (old.nodes node)) index [] ≡ desk.held.key ++ desk.held.value) (long : length value ≡ length desk.held.value)
  where
    found_within : k < length (entries_of old (old.shape.depth - 1))
    found_within = omega (arith, holds.inside, pairs_long is_key cmp total key_length old tree.levels tree.ordered stands.some)

    found_pair : get_or (pairs_of old) k ([], []) ≡ pair_of (get_or (entries_of old (old.shape.depth - 1)) k [])
    found_pair = pair_at is_key cmp total key_length old tree.levels tree.ordered stands.some k found_within

    pub found_key : is_key desk.held.key
    found_key = subst is_key (sym (holds.key ∙ ap (λ (p : Pair). p.0) found_pair)) (tree.levels.keys (old.shape.depth - 1) k (omega (arith, stands.some)) found_within)

    other_own : key_of (desk.held.key ++ value) ≡ key_of (get_or (items (old.nodes node)) index [])
    other_own = key_of_joined desk.held.key (key_length desk.held.key found_key) value ∙ sym (key_of_joined desk.held.key (key_length desk.held.key found_key) desk.held.value) ∙ ap key_of (sym item)

    other_long : length (desk.held.key ++ value) ≡ length (get_or (items (old.nodes node)) index [])
    other_long = omega (arith, ap length item, length-append desk.held.key value, length-append desk.held.key desk.held.value, long)

    found_at : get_or (level_of old (old.shape.depth - 1)) (length stands.front) 0 ≡ node
    found_at = ap (λ l. get_or l (length stands.front) 0) stands.is ∙ get_or_at stands.front node stands.back 0 (length stands.front) refl

    found_inside : length stands.front < length (level_of old (old.shape.depth - 1))
    found_inside = omega (arith, ap length stands.is, length-append stands.front (node ∷ stands.back))

    -- it is a record of a leaf in a store that was read
    pub has_record : (mid : Store) → SameStore old mid → mid.nodes node ≡ old.nodes node → HasRecord mid node index (length (desk.held.key ++ value))
    has_record mid same nodes = record {
      is_node = still_tree_node old mid 1 node same nodes
          (subst (λ h. IsTreeNode old h node) {x = old.shape.depth - (old.shape.depth - 1)} (omega (arith, stands.some))
          (subst (λ n. IsTreeNode old (old.shape.depth - (old.shape.depth - 1)) n) found_at (tree.levels.nodes (old.shape.depth - 1) (length stands.front) (omega (arith, stands.some)) found_inside)));
      of_tree = same.reserved node ∙ tree.mapped.of_tree node (record { below = old.shape.depth - 1; place = length stands.front; of_tree = omega (arith, stands.some); inside = found_inside; is = found_at });
      inside = omega (arith, stands.inside, ap (λ l. length (items l)) nodes);
      long = ap (λ l. length (get_or (items l) index [])) nodes ∙ sym other_long;
    }

    pub value_swapped : (mid new : Store) → SameStore old mid → mid.shape ≡ old.shape → SameNodes old mid → SwapsRecord node index (desk.held.key ++ value) mid new → SameStore mid new → new.shape ≡ mid.shape
        → old.shape.total ≤ 2 ^ 32 → cmp desk.held.key key ≡ Equal → EditsTree is_key cmp old new (λ before after. ChangesPair cmp key value before after)
    value_swapped mid new same_read shape_read read swaps same shape small equal =
        let whole : SwapsRecord node index (desk.held.key ++ value) old new = record {
          items = swaps.items ∙ ap (λ l. set (items l) index (desk.held.key ++ value)) (read.nodes node);
          well_formed = swaps.well_formed;
          head = subst (λ l. SameHead l (new.nodes node)) (read.nodes node) swaps.head;
          others = λ n other. swaps.others n other ∙ read.nodes n;
          used = λ n. swaps.used n ∙ read.used n;
          header = swaps.header ∙ read.header;
        } in
        let both = same_store_both same_read same in
        let makes = swapped key_length old new node index k (desk.held.key ++ value) tree stands whole both (shape ∙ shape_read) (omega (arith, both.total, small)) other_own other_long in
        let pair : pair_of (desk.held.key ++ value) ≡ ((get_or (pairs_of old) k ([], [])).0, value) =
        ap (λ a. (a, value_of (desk.held.key ++ value))) (key_of_joined desk.held.key (key_length desk.held.key found_key) value ∙ holds.key)
        ∙ ap (λ b. ((get_or (pairs_of old) k ([], [])).0, b)) (value_of_joined desk.held.key (key_length desk.held.key found_key) value) in
        record {
          pairs = record {
            place = k;
            inside = holds.inside;
            equal = ap (λ l. cmp l key) (sym holds.key) ∙ equal;
            is = makes.pairs
                ∙ map-splice pair_of (entries_of old (old.shape.depth - 1)) k (k + 1) ((desk.held.key ++ value) ∷ [])
                ∙ ap (λ l. splice l k (k + 1) (pair_of (desk.held.key ++ value) ∷ [])) (sym (pairs_are is_key cmp total key_length old tree.levels tree.ordered stands.some))
                ∙ ap (λ p. splice (pairs_of old) k (k + 1) (p ∷ [])) pair;
          };
          tree = makes.tree;
          filled = makes.filled;
          others = makes.others;
        }

-- a tree has a key once
module _ {is_key : List ℕ → Type 0} {cmp : List ℕ → List ℕ → Ordering} (total : IsTotalOrder cmp) (key_length : (a : List ℕ) → is_key a → length a ≡ big_at 2 a 0 + 2)
    (store : Store) (tree : IsTree is_key cmp store) (key : List ℕ) (some : 0 < store.shape.depth)
  where
    many_pairs : length (pairs_of store) ≡ length (entries_of store (store.shape.depth - 1))
    many_pairs = pairs_long is_key cmp total key_length store tree.levels tree.ordered some

    key_there : (m : ℕ) → m < length (pairs_of store) → (get_or (pairs_of store) m ([], [])).0 ≡ key_of (get_or (entries_of store (store.shape.depth - 1)) m [])
    key_there m inside = ap (λ (p : Pair). p.0) (pair_at is_key cmp total key_length store tree.levels tree.ordered some m (omega (arith, inside, many_pairs)))

    equal_not_greater : Equal ≡ Greater → ⊥
    equal_not_greater e = cc

    less_not_equal : Less ≡ Equal → ⊥
    less_not_equal e = cc

    not_twice : (a b : ℕ) → a < b → b < length (pairs_of store) → cmp (get_or (pairs_of store) a ([], [])).0 key ≡ Equal → cmp (get_or (pairs_of store) b ([], [])).0 key ≡ Equal → ⊥
    not_twice a b less inside is other =
        let below : cmp (get_or (pairs_of store) a ([], [])).0 (get_or (pairs_of store) b ([], [])).0 ≡ Less =
        ap (λ l. cmp l (get_or (pairs_of store) b ([], [])).0) (key_there a (omega arith)) ∙ ap (λ l. cmp (key_of (get_or (entries_of store (store.shape.depth - 1)) a [])) l) (key_there b inside)
        ∙ tree.ordered.ascends (store.shape.depth - 1) (omega (arith, some)) a b less (omega (arith, inside, many_pairs)) in
        less_not_equal (sym (below_all cmp total (get_or (pairs_of store) a ([], [])).0 (get_or (pairs_of store) b ([], [])).0 key below (λ e. equal_not_greater (sym other ∙ e))) ∙ is)

    pub key_once : (i j : ℕ) → i < length (pairs_of store) → j < length (pairs_of store) → cmp (get_or (pairs_of store) i ([], [])).0 key ≡ Equal → cmp (get_or (pairs_of store) j ([], [])).0 key ≡ Equal → i ≡ j
    key_once i j first second one two = elim (cases_lt i j) [
      | inl less ↦ absurd (not_twice i j less second one two)
      | inr more ↦ elim (cases_lt j i) [
        | inl less ↦ absurd (not_twice j i less first two one)
        | inr same ↦ omega (arith, more, same)
      ]
    ]

    -- a value that was found has the length of the one with this key
    pub found_size : (size : ℕ) → HasValueOf cmp key size store → (desk : Desk) (k : ℕ) → HoldsPair store desk k → cmp desk.held.key key ≡ Equal → size ≡ length desk.held.value
    found_size size has desk k holds equal =
        let is : k ≡ has.place = key_once k has.place holds.inside has.inside (ap (λ l. cmp l key) (sym holds.key) ∙ equal) has.equal in
        sym has.long ∙ ap (λ m. length (get_or (pairs_of store) m ([], [])).1) (sym is) ∙ ap (λ (l : List ℕ). length l) (sym holds.value)

-- what a search says of the pair that it found
pub record IsFound (cmp : List ℕ → List ℕ → Ordering) (key : List ℕ) (store : Store) (desk : Desk) (node index : ℕ) : Type 0 where
  pub k : ℕ
  pub holds : HoldsPair store desk k
  pub stands : StandsIn store node index k
  pub equal : cmp desk.held.key key ≡ Equal
  pub item : get_or (items (store.nodes node)) index [] ≡ desk.held.key ++ desk.held.value

pub is_found : (cmp : List ℕ → List ℕ → Ordering) (key : List ℕ) (store : Store) (desk : Desk) (node index : ℕ) (found : Found) → found ≡ At node index → Finds cmp key store desk found → IsInTree store desk found → IsFound cmp key store desk node index
is_found cmp key store desk node index found is finds stands =
    let here : Finds cmp key store desk (At node index) = subst (λ f. Finds cmp key store desk f) is finds in
    let place : IsInTree store desk (At node index) = subst (λ f. IsInTree store desk f) is stands in
    record { k = place.0; holds = place.1; stands = place.2; equal = here.0; item = here.2 }

-- a record takes no more than its node
pub record_short : (store : Store) (leaf index size : ℕ) → HasRecord store leaf index size → size ≤ store.shape.node_size
record_short store leaf index size has =
    omega (arith, has.long, get_or-le-sum_by (λ (bytes : List ℕ). length bytes + 2) (items (store.nodes leaf)) index [] has.inside, node_holds (store.nodes leaf) has.is_node.kind.well_formed, has.is_node.size)

-- a swap leaves each node its number of records, and so the root
pub bounds_swapped : (max : ℕ) (old mid new : Store) (node index : ℕ) (bytes : List ℕ) → mid.shape ≡ old.shape → SameNodes old mid → SwapsRecord node index bytes mid new → new.shape ≡ mid.shape → BoundsRoot max old new new.shape.depth new.shape.root
bounds_swapped max old mid new node index bytes shape_read read swaps shape =
    let deep : new.shape.depth ≡ old.shape.depth = ap (λ h. h.depth) (shape ∙ shape_read) in
    let root : new.shape.root ≡ old.shape.root = ap (λ h. h.root) (shape ∙ shape_read) in
    let long : length (items (new.nodes old.shape.root)) ≡ length (items (mid.nodes old.shape.root)) = elim (cases_eq old.shape.root node) [
      | inl is ↦ subst (λ m. length (items (new.nodes m)) ≡ length (items (mid.nodes m))) (sym is) (ap length swaps.items ∙ length-set (items (mid.nodes node)) index bytes)
      | inr other ↦ ap (λ l. length (items l)) (swaps.others old.shape.root other)
    ] in
    let same : length (items (new.nodes new.shape.root)) ≡ length (items (old.nodes old.shape.root)) = ap (λ n. length (items (new.nodes n))) root ∙ long ∙ ap (λ l. length (items l)) (read.nodes old.shape.root) in
    record {
      grown = λ some is. omega (arith, same);
      two = λ some less. absurd (omega (arith, deep, less));
      over = λ some less. absurd (omega (arith, deep, less));
    }

-- and a root of two records or more still has them
pub thick_swapped : (old mid new : Store) (node index : ℕ) (bytes : List ℕ) → mid.shape ≡ old.shape → SameNodes old mid → SwapsRecord node index bytes mid new → new.shape ≡ mid.shape
    → RootHasTwoChildren old old.shape.depth old.shape.root → RootHasTwoChildren new new.shape.depth new.shape.root
thick_swapped old mid new node index bytes shape_read read swaps shape thick deep =
    let depth : new.shape.depth ≡ old.shape.depth = ap (λ h. h.depth) (shape ∙ shape_read) in
    let root : new.shape.root ≡ old.shape.root = ap (λ h. h.root) (shape ∙ shape_read) in
    let long : length (items (new.nodes old.shape.root)) ≡ length (items (mid.nodes old.shape.root)) = elim (cases_eq old.shape.root node) [
      | inl is ↦ subst (λ m. length (items (new.nodes m)) ≡ length (items (mid.nodes m))) (sym is) (ap length swaps.items ∙ length-set (items (mid.nodes node)) index bytes)
      | inr other ↦ ap (λ l. length (items l)) (swaps.others old.shape.root other)
    ] in
    let same : length (items (new.nodes new.shape.root)) ≡ length (items (old.nodes old.shape.root)) = ap (λ n. length (items (new.nodes n))) root ∙ long ∙ ap (λ l. length (items l)) (read.nodes old.shape.root) in
    omega (arith, same, thick (omega (arith, depth, deep)))

-- reads leave the root as it was
pub thick_read : (old new : Store) → new.shape ≡ old.shape → SameNodes old new → RootHasTwoChildren old old.shape.depth old.shape.root → RootHasTwoChildren new new.shape.depth new.shape.root
thick_read old new shape read thick deep =
    let depth : new.shape.depth ≡ old.shape.depth = ap (λ h. h.depth) shape in
    let same : length (items (new.nodes new.shape.root)) ≡ length (items (old.nodes old.shape.root)) = ap (λ (h : TreeShape). length (items (new.nodes h.root))) shape ∙ ap (λ l. length (items l)) (read.nodes old.shape.root) in
    omega (arith, same, thick (omega (arith, depth, deep)))

-- The pair that was found has another value of its length: what that leaves, over the search before.
module _ {is_key : List ℕ → Type 0} {cmp : List ℕ → List ℕ → Ordering} (total : IsTotalOrder cmp) (key_length : (a : List ℕ) → is_key a → length a ≡ big_at 2 a 0 + 2)
    (old mid new : Store) (desk : Desk) (node index : ℕ) (key value : List ℕ) (tree : IsTree is_key cmp old) (found : IsFound cmp key old desk node index) (long : length value ≡ length desk.held.value)
    (most : ℕ) (reads : ReadsNodes most old mid) (tells : IsTrue old.tells) (small : old.shape.total < 2 ^ 32)
    (swap : IsTrue mid.tells → HasRecord mid node index (length (desk.held.key ++ value)) → SwapsRecord node index (desk.held.key ++ value) mid new)
    (costs : CostsAtMost 1 0 mid new) (shape : new.shape ≡ mid.shape)
  where
    swaps : SwapsRecord node index (desk.held.key ++ value) mid new
    swaps = swap (reads.same.tells ∙ tells) (has_record total key_length old desk node index found.k key value tree found.stands found.holds found.item long mid reads.same ((reads.tree tells).nodes node))

    pub swap_edits : EditsTree is_key cmp old new (λ before after. ChangesPair cmp key value before after)
    swap_edits =
        value_swapped total key_length old desk node index found.k key value tree found.stands found.holds found.item long mid new reads.same reads.shape (reads.tree tells) swaps costs.same shape (omega (arith, small)) found.equal

    pub swap_alone : ChangesLeafAlone cmp key old new
    swap_alone = record {
      leaf = node;
      index = index;
      place = found.k;
      stands = found.stands;
      equal = ap (λ l. cmp l key) (sym found.holds.key) ∙ found.equal;
      others = λ n other. swaps.others n other ∙ (reads.tree tells).nodes n;
    }

    pub swap_header : old.header ≡ old.shape → new.header ≡ new.shape
    swap_header says = swaps.header ∙ (reads.tree tells).header ∙ says ∙ sym reads.shape ∙ sym shape

    pub swap_top : IsNoHigher (top_of new) (top_of old)
    swap_top =
        let root : new.shape.root ≡ old.shape.root = ap (λ h. h.root) (shape ∙ reads.shape) in
        let here : length (items (new.nodes old.shape.root)) ≡ length (items (mid.nodes old.shape.root)) = elim (cases_eq old.shape.root node) [
          | inl is ↦ subst (λ m. length (items (new.nodes m)) ≡ length (items (mid.nodes m))) (sym is) (ap length swaps.items ∙ length-set (items (mid.nodes node)) index (desk.held.key ++ value))
          | inr other ↦ ap (λ l. length (items l)) (swaps.others old.shape.root other)
        ] in
        let records : length (items (new.nodes new.shape.root)) ≡ length (items (old.nodes old.shape.root)) =
        ap (λ n. length (items (new.nodes n))) root ∙ here ∙ ap (λ l. length (items l)) ((reads.tree tells).nodes old.shape.root) in
        record {
          depth = omega (arith, ap (λ h. h.depth) (shape ∙ reads.shape));
          records = λ same deep. omega (arith, ap (λ n. max 1 n) records);
        }
