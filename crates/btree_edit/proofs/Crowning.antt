-- A tree that gets a root, loses one, or stays as it is.
use Rattle.std.proofs.Common.{◌≡◌, ◌≢◌, ◌⊎◌, ℕ, zero, suc, ◌+◌, ◌-◌, ◌/◌, ◌^◌, ◌<◌, ◌≤◌, false, List, [], ◌∷◌, map, length, get_or, inl, inr, refl, sym, ◌∙◌, ap, subst, arith}
use Rattle.std.proofs.lemmas.Bool.{cases_lt}
use Rattle.std.proofs.lemmas.List.{length-map, get_or-map, append-nil, nil_from_length}
use Rattle.std.specs.declared.cmp.Ordering.{Ordering}
use Rattle.std.specs.List.{range_with_len, count_by}
use Rattle.hx_bytes.specs.Field.{big_at, big}
use Rattle.hx_bytes.specs.declared.fields.Order.TheVariants.{Big}
use Rattle.hx_bytes.proofs.Laws.{length-number_bytes}
use Rattle.btree_node.specs.Node.{items, next_of, back_of}
use Rattle.btree_node.specs.Levels.{entries, leaves, key_of, value_of, first_key, child_of, pair_of, record_for, splice, Ascends}
use Rattle.btree_node.specs.Store.{Store}
use Rattle.btree_node.specs.Tree.{level_of, pairs_of, IsTreeNode, HasHeader, IsTree}
use Rattle.btree_node.proofs.Levels.{same_entries}
use Rattle.btree_edit.specs.LevelEdit.{bit, times}
use Rattle.btree_edit.specs.Climb.{LevelLists, IsLevel, NoneEmpty, count_in_levels, IsTreeBut}
use Rattle.btree_edit.proofs.Counting.{bit_same, bit_most, bit_false, times_at, tally_some, tally_below, tally_none, bits_changed}
use Rattle.btree_edit.proofs.Naming.{first_is_key, names_same, name_child}
use Rattle.btree_edit.proofs.Pairs.{value_of_joined}
use Rattle.btree_edit.proofs.Stepping.{level_kept}
use Rattle.btree_edit.proofs.Whole.{but_of_tree, same_level, tree_of, pairs_then}

-- a node of the levels has its bit, stands there once, and isn't reserved
module _ {is_key : List ℕ → Type 0} {cmp : List ℕ → List ℕ → Ordering} (store : Store) (depth : ℕ) (levels : LevelLists) (from place : ℕ) (put : List (List ℕ))
    (but : IsTreeBut is_key cmp store depth levels from place put) (j k : ℕ) (low : j < depth) (inside : k < length (levels j))
  where
    pub in_total : get_or (levels j) k 0 < store.shape.total
    in_total = ((but.each j low).nodes k inside).inside

    pub once_there : count_in_levels levels depth (get_or (levels j) k 0) ≡ 1
    once_there = omega (arith, tally_some levels depth (get_or (levels j) k 0) j low, times_at (levels j) k inside, but.mapped (get_or (levels j) k 0) in_total, bit_most (store.used (get_or (levels j) k 0)))

    pub not_reserved : store.reserved (get_or (levels j) k 0) ≡ false
    not_reserved = bit_false (store.reserved (get_or (levels j) k 0)) (omega (arith, once_there, but.mapped (get_or (levels j) k 0) in_total, bit_most (store.used (get_or (levels j) k 0))))

    pub is_used : bit (store.used (get_or (levels j) k 0)) ≡ 1
    is_used = omega (arith, once_there, but.mapped (get_or (levels j) k 0) in_total, bit_most (store.used (get_or (levels j) k 0)))

-- the same levels in a store that keeps their nodes and the map
module _ {is_key : List ℕ → Type 0} {cmp : List ℕ → List ℕ → Ordering} (old new : Store) (depth : ℕ) (levels : LevelLists) (from place : ℕ) (put : List (List ℕ))
    (but : IsTreeBut is_key cmp old depth levels from place put)
    (size : new.shape.node_size ≡ old.shape.node_size) (total : new.shape.total ≡ old.shape.total) (free : new.shape.free ≡ old.shape.free)
    (same : (j k : ℕ) → j < depth → k < length (levels j) → new.nodes (get_or (levels j) k 0) ≡ old.nodes (get_or (levels j) k 0))
    (used : (n : ℕ) → new.used n ≡ old.used n) (reserved : (n : ℕ) → new.reserved n ≡ old.reserved n)
  where
    kept_items : (j : ℕ) → j < depth → (k : ℕ) → k < length (levels j) → items (new.nodes (get_or (levels j) k 0)) ≡ items (old.nodes (get_or (levels j) k 0))
    kept_items j low k inside = ap items (same j k low inside)

    pub kept_entries : (j : ℕ) → j < depth → entries new.nodes (levels j) ≡ entries old.nodes (levels j)
    kept_entries j low = same_entries old.nodes new.nodes (levels j) (kept_items j low)

    kept_names : (j : ℕ) → j < depth → map (λ n. record_for new.nodes n) (levels j) ≡ map (λ n. record_for old.nodes n) (levels j)
    kept_names j low = names_same old.nodes new.nodes (levels j) (kept_items j low)

    pub but_kept : IsTreeBut is_key cmp new depth levels from place put
    but_kept = record {
      each = λ j low. level_kept old new (depth - j) (levels j) size total (λ k inside. same j k low inside) (but.each j low);
      some = λ j low which k inside. subst (λ l. 0 < length l) (sym (kept_items j low k inside)) (but.some j low which k inside);
      named = λ j low other. kept_entries j (omega arith) ∙ but.named j low other ∙ sym (kept_names (j + 1) low);
      wanted = λ j low is. kept_names (j + 1) low ∙ but.wanted j low is ∙ sym (ap (λ l. splice l place (place + 1) put) (kept_entries j (omega arith)));
      mapped = λ n inside. omega (arith, but.mapped n (omega arith), ap bit (used n), ap bit (reserved n));
      header = reserved 0 ∙ but.header;
      free = omega (
        arith,
        but.free,
        ap (λ m. count_by (λ n. new.used n) (range_with_len 0 m)) total,
        bits_changed new.used old.used [] [] old.shape.total (λ k. ap (λ b. bit b + 0) (used k)) (λ k inside. absurd (omega arith)) (λ k inside. absurd (omega arith)),
      );
    }

-- a tree is one in each store that keeps it
module _ {is_key : List ℕ → Type 0} {cmp : List ℕ → List ℕ → Ordering} (key_length : (a : List ℕ) → is_key a → length a ≡ big_at 2 a 0 + 2)
    (old new : Store) (tree : IsTree is_key cmp old) (small : new.shape.total ≤ 2 ^ 32) (shape : new.shape ≡ old.shape)
    (nodes : (n : ℕ) → new.nodes n ≡ old.nodes n) (used : (n : ℕ) → new.used n ≡ old.used n) (reserved : (n : ℕ) → new.reserved n ≡ old.reserved n)
  where
    moved : IsTreeBut is_key cmp new new.shape.depth (λ j. level_of old j) new.shape.depth 0 []
    moved =
        subst (λ d. IsTreeBut is_key cmp new d (λ j. level_of old j) d 0 []) (sym (ap (λ s. s.depth) shape))
        (but_kept old new old.shape.depth (λ j. level_of old j) old.shape.depth 0 [] (but_of_tree old tree 0 []) (ap (λ s. s.node_size) shape) (ap (λ s. s.total) shape) (ap (λ s. s.free) shape)
        (λ j k low inside. nodes (get_or (level_of old j) k 0)) used reserved)

    top : 0 < new.shape.depth → level_of old 0 ≡ new.shape.root ∷ []
    top some = ap (λ s. s.root ∷ []) (sym shape)

    pub level_then : (j : ℕ) → j < new.shape.depth → level_of new j ≡ level_of old j
    level_then = same_level key_length new (λ j. level_of old j) new.shape.depth 0 [] moved (λ j low e. absurd (omega arith)) small top

    depth_is : new.shape.depth ≡ old.shape.depth
    depth_is = ap (λ s. s.depth) shape

    pub pairs_kept : pairs_of new ≡ pairs_of old
    pairs_kept = elim (cases_lt 0 old.shape.depth) [
      | inl some ↦
          pairs_then key_length new (λ j. level_of old j) new.shape.depth 0 [] moved (λ j low e. absurd (omega arith)) small top (omega (arith, depth_is))
          ∙ ap (λ d. map pair_of (entries new.nodes (level_of old (d - 1)))) depth_is
          ∙ ap (λ l. map pair_of l) (same_entries old.nodes new.nodes (level_of old (old.shape.depth - 1)) (λ k inside. ap items (nodes (get_or (level_of old (old.shape.depth - 1)) k 0))))
          ∙ sym (ap (λ d. leaves old.nodes old.shape.root d) {x = old.shape.depth} {y = suc (old.shape.depth - 1)} (omega arith))
      | inr none ↦
          ap (λ d. leaves new.nodes new.shape.root d) {x = new.shape.depth} {y = 0} (omega (arith, depth_is))
          ∙ sym (ap (λ d. leaves old.nodes old.shape.root d) {x = old.shape.depth} {y = 0} (omega arith))
    ]

    header_kept : HasHeader new
    header_kept = let header = tree.header in record {
      depth = omega (arith, header.depth, depth_is);
      empty = λ none. ap (λ s. s.root) shape ∙ header.empty (omega (arith, depth_is));
      leaf_records = ap (λ s. s.leaf_records) shape ∙ header.leaf_records ∙ sym (ap length pairs_kept);
      first = λ j leaf. ap (λ s. s.first) shape ∙ header.first j (omega (arith, depth_is)) ∙ sym (ap (λ l. get_or l 0 0) (level_then j (omega arith)));
      last = λ j leaf. ap (λ s. s.last) shape ∙ header.last j (omega (arith, depth_is)) ∙ sym (ap (λ l. get_or l (length l - 1) 0) (level_then j (omega arith)));
      no_leaf = λ none. let of_old = header.no_leaf (omega (arith, depth_is)) in (ap (λ s. s.first) shape ∙ of_old.0, ap (λ s. s.last) shape ∙ of_old.1);
    }

    pub tree_kept : IsTree is_key cmp new
    tree_kept = tree_of key_length new (λ j. level_of old j) new.shape.depth 0 [] moved (λ j low e. absurd (omega arith)) small top header_kept

-- a node above the levels
abbrev pub above : ℕ → LevelLists → LevelLists
above m levels zero = m ∷ []
above m levels (suc j) = levels j

module _ {is_key : List ℕ → Type 0} {cmp : List ℕ → List ℕ → Ordering} (key_length : (a : List ℕ) → is_key a → length a ≡ big_at 2 a 0 + 2)
    (old new : Store) (depth : ℕ) (levels : LevelLists) (place : ℕ) (put : List (List ℕ)) (but : IsTreeBut is_key cmp old depth levels 0 place put)
    (m : ℕ) (node : IsTreeNode new (suc depth) m) (next : next_of (new.nodes m) ≡ 0) (back : back_of (new.nodes m) ≡ 0) (some : 0 < length (items (new.nodes m)))
    (keys : (k : ℕ) → k < length (items (new.nodes m)) → is_key (key_of (get_or (items (new.nodes m)) k []))) (ascends : Ascends cmp (items (new.nodes m)))
    (short : depth ≡ 0 → (k : ℕ) → k < length (items (new.nodes m)) → length (get_or (items (new.nodes m)) k []) ≤ old.shape.node_size / 2 - 10)
    (named : 0 < depth → items (new.nodes m) ≡ map (λ n. record_for old.nodes n) (levels 0))
    (same : (n : ℕ) → old.reserved n ≡ false → n ≢ m → new.nodes n ≡ old.nodes n)
    (used : (n : ℕ) → bit (new.used n) ≡ bit (old.used n) + times n (m ∷ []))
    (size : new.shape.node_size ≡ old.shape.node_size) (total : new.shape.total ≡ old.shape.total) (free : new.shape.free + 1 ≡ old.shape.free)
    (reserved : (n : ℕ) → new.reserved n ≡ old.reserved n)
  where
    not_fresh : (j k : ℕ) → j < depth → k < length (levels j) → get_or (levels j) k 0 ≢ m
    not_fresh j k low inside is =
        omega_absurd (is_used old depth levels 0 place put but j k low inside)
      where
        omega_absurd : bit (old.used (get_or (levels j) k 0)) ≡ 1 → ⊥
        omega_absurd here = absurd (omega (arith, ap (λ n. bit (old.used n)) is, used m, bit_same m m refl, bit_most (new.used m)))

    stays : (j k : ℕ) → j < depth → k < length (levels j) → new.nodes (get_or (levels j) k 0) ≡ old.nodes (get_or (levels j) k 0)
    stays j k low inside = same (get_or (levels j) k 0) (not_reserved old depth levels 0 place put but j k low inside) (not_fresh j k low inside)

    one_list : entries new.nodes (m ∷ []) ≡ items (new.nodes m)
    one_list = append-nil (items (new.nodes m))

    root_level : IsLevel is_key cmp new (suc depth) (m ∷ [])
    root_level = record {
      nodes = λ k inside. subst (λ n. IsTreeNode new (suc depth) n) (ap (λ i. get_or (m ∷ []) i 0) {x = 0} {y = k} (omega arith)) node;
      keys = subst (λ l. (k : ℕ) → k < length l → is_key (key_of (get_or l k []))) (sym one_list) keys;
      ascends = subst (λ l. Ascends cmp l) (sym one_list) ascends;
      linked = (back, next, tt);
      short = λ leaf. subst (λ l. (k : ℕ) → k < length l → length (get_or l k []) ≤ new.shape.node_size / 2 - 10) (sym one_list)
          (subst (λ b. (k : ℕ) → k < length (items (new.nodes m)) → length (get_or (items (new.nodes m)) k []) ≤ b / 2 - 10) (sym size) (short (omega arith)));
    }

    level_of_each : (j : ℕ) → j < suc depth → IsLevel is_key cmp new (suc depth - j) (above m levels j)
    level_of_each zero low = subst (λ h. IsLevel is_key cmp new h (m ∷ [])) {x = suc depth} (omega arith) root_level
    level_of_each (suc j) low =
        subst (λ h. IsLevel is_key cmp new h (levels j)) {x = depth - j} (omega arith)
        (level_kept old new (depth - j) (levels j) size total (λ k inside. stays j k (omega arith) inside) (but.each j (omega arith)))

    some_each : (j : ℕ) → j < suc depth → 0 < j ⊎ (0 ≤ j) → NoneEmpty new.nodes (above m levels j)
    some_each zero low which k inside = subst (λ n. 0 < length (items (new.nodes n))) (ap (λ i. get_or (m ∷ []) i 0) {x = 0} {y = k} (omega arith)) some
    some_each (suc j) low which k inside = subst (λ l. 0 < length (items l)) (sym (stays j k (omega arith) inside)) (but.some j (omega arith) (inr (omega arith)) k inside)

    names_stay : (j : ℕ) → j < depth → map (λ n. record_for new.nodes n) (levels j) ≡ map (λ n. record_for old.nodes n) (levels j)
    names_stay j low = names_same old.nodes new.nodes (levels j) (λ k inside. ap items (stays j k low inside))

    named_each : (j : ℕ) → j + 1 < suc depth → j + 1 ≢ 0 → entries new.nodes (above m levels j) ≡ map (λ n. record_for new.nodes n) (above m levels (j + 1))
    named_each zero low other = one_list ∙ named (omega arith) ∙ sym (names_stay 0 (omega arith))
    named_each (suc j) low other =
        same_entries old.nodes new.nodes (levels j) (λ k inside. ap items (stays j k (omega arith) inside))
        ∙ but.named j (omega arith) (λ e. absurd (omega arith))
        ∙ sym (names_stay (j + 1) (omega arith))
        ∙ ap (λ i. map (λ n. record_for new.nodes n) (above m levels i)) {x = suc (j + 1)} {y = suc j + 1} (omega arith)

    pub topped : IsTreeBut is_key cmp new (suc depth) (above m levels) 0 0 []
    topped = record {
      each = level_of_each;
      some = some_each;
      named = named_each;
      wanted = λ j low is. absurd (omega arith);
      mapped = λ n inside. omega (arith, tally_below (above m levels) depth n, but.mapped n (omega arith), used n, ap bit (reserved n));
      header = reserved 0 ∙ but.header;
      free = omega (
        arith,
        but.free,
        ap (λ b. count_by (λ n. new.used n) (range_with_len 0 b)) total,
        bits_changed new.used old.used [] (m ∷ []) old.shape.total (λ k. omega (arith, used k)) (λ k inside. absurd (omega arith))
            (λ k inside. omega (arith, node.inside, ap (λ i. get_or (m ∷ []) i 0) {x = 0} {y = k} (omega arith))),
      );
    }

-- a root that names one node is given back
module _ {is_key : List ℕ → Type 0} {cmp : List ℕ → List ℕ → Ordering} (key_length : (a : List ℕ) → is_key a → length a ≡ big_at 2 a 0 + 2)
    (old : Store) (depth : ℕ) (levels : LevelLists) (place : ℕ) (put : List (List ℕ)) (but : IsTreeBut is_key cmp old (suc depth) levels 0 place put)
    (root : ℕ) (top : levels 0 ≡ root ∷ []) (below : 0 < depth) (one : length (items (old.nodes root)) ≡ 1) (small : old.shape.total ≤ 2 ^ 32)
  where
    root_records : items (old.nodes root) ≡ map (λ n. record_for old.nodes n) (levels 1)
    root_records = sym (append-nil (items (old.nodes root))) ∙ ap (λ l. entries old.nodes l) (sym top) ∙ but.named 0 (omega arith) (λ e. absurd (omega arith))

    child_long : length (levels 1) ≡ 1
    child_long = omega (arith, one, ap length root_records, length-map (levels 1) (λ n. record_for old.nodes n))

    child_is : child_of (get_or (items (old.nodes root)) 0 []) ≡ get_or (levels 1) 0 0
    child_is =
        let level = but.each 1 (omega arith) in
        ap (λ l. child_of (get_or l 0 [])) root_records
        ∙ ap child_of (get_or-map (λ n. record_for old.nodes n) (levels 1) 0 0 [] (omega (arith, child_long)))
        ∙ name_child is_key cmp key_length old.nodes (levels 1) (but.some 1 (omega arith) (inr (omega arith))) level.keys 0 (omega (arith, child_long))
        (omega (arith, in_total old (suc depth) levels 0 place put but 1 0 (omega arith) (omega (arith, child_long))))

    pub child_named : 4 ≤ length (value_of (get_or (items (old.nodes root)) 0 []))
    child_named =
        let level = but.each 1 (omega arith) in
        let first = first_is_key is_key cmp key_length old.nodes (levels 1) (but.some 1 (omega arith) (inr (omega arith))) level.keys 0 (omega (arith, child_long)) in
        omega (
          arith,
          ap (λ l. length (value_of (get_or l 0 []))) root_records,
          ap (λ l. length (value_of l)) (get_or-map (λ n. record_for old.nodes n) (levels 1) 0 0 [] (omega (arith, child_long))),
          ap length (value_of_joined (first_key old.nodes (get_or (levels 1) 0 0)) (key_length (first_key old.nodes (get_or (levels 1) 0 0)) first) (big 4 (get_or (levels 1) 0 0))),
          length-number_bytes Big 4 (get_or (levels 1) 0 0),
        )

    one_of : (l : List ℕ) → length l ≡ 1 → l ≡ get_or l 0 0 ∷ []
    one_of [] long = absurd (omega arith)
    one_of (n ∷ []) long = refl
    one_of (n ∷ k ∷ l) long = absurd (omega arith)

    pub new_top : levels 1 ≡ child_of (get_or (items (old.nodes root)) 0 []) ∷ []
    new_top = one_of (levels 1) child_long ∙ ap (λ n. n ∷ []) (sym child_is)

    module _ (new : Store) (same : (n : ℕ) → old.reserved n ≡ false → new.nodes n ≡ old.nodes n)
        (used : (n : ℕ) → bit (new.used n) + times n (root ∷ []) ≡ bit (old.used n))
        (size : new.shape.node_size ≡ old.shape.node_size) (total : new.shape.total ≡ old.shape.total) (free : new.shape.free ≡ old.shape.free + 1)
        (reserved : (n : ℕ) → new.reserved n ≡ old.reserved n)
      where
        keeps : (j k : ℕ) → j < suc depth → k < length (levels j) → new.nodes (get_or (levels j) k 0) ≡ old.nodes (get_or (levels j) k 0)
        keeps j k low inside = same (get_or (levels j) k 0) (not_reserved old (suc depth) levels 0 place put but j k low inside)

        names_keep : (j : ℕ) → j < suc depth → map (λ n. record_for new.nodes n) (levels j) ≡ map (λ n. record_for old.nodes n) (levels j)
        names_keep j low = names_same old.nodes new.nodes (levels j) (λ k inside. ap items (keeps j k low inside))

        pub lowered : IsTreeBut is_key cmp new depth (λ j. levels (suc j)) 0 0 []
        lowered = record {
          each = λ j low. subst (λ h. IsLevel is_key cmp new h (levels (suc j))) {x = suc depth - suc j} (omega arith)
              (level_kept old new (suc depth - suc j) (levels (suc j)) size total (λ k inside. keeps (suc j) k (omega arith) inside) (but.each (suc j) (omega arith)));
          some = λ j low which k inside. subst (λ l. 0 < length (items l)) (sym (keeps (suc j) k (omega arith) inside)) (but.some (suc j) (omega arith) (inr (omega arith)) k inside);
          named = λ j low other.
              let at : suc j + 1 ≡ suc (j + 1) = omega arith in
              same_entries old.nodes new.nodes (levels (suc j)) (λ k inside. ap items (keeps (suc j) k (omega arith) inside))
              ∙ but.named (suc j) (omega arith) (λ e. absurd (omega arith)) ∙ ap (λ i. map (λ n. record_for old.nodes n) (levels i)) at ∙ sym (names_keep (suc (j + 1)) (omega arith));
          wanted = λ j low is. absurd (omega arith);
          mapped = λ n inside. omega (arith, tally_below levels depth n, but.mapped n (omega arith), used n, ap bit (reserved n), ap (λ (l : List ℕ). times n l) top);
          header = reserved 0 ∙ but.header;
          free = omega (
            arith,
            but.free,
            ap (λ b. count_by (λ n. new.used n) (range_with_len 0 b)) total,
            bits_changed new.used old.used (root ∷ []) [] old.shape.total (λ k. omega (arith, used k))
                (λ k inside. omega (arith, root_in, ap (λ i. get_or (root ∷ []) i 0) {x = 0} {y = k} (omega arith))) (λ k inside. absurd (omega arith)),
          );
        }
          where
            root_in : root < old.shape.total
            root_in =
                subst (λ n. n < old.shape.total) (ap (λ l. get_or l 0 0) top) (in_total old (suc depth) levels 0 place put but 0 0 (omega arith) (omega (arith, ap length top)))

-- levels below none
module _ {is_key : List ℕ → Type 0} {cmp : List ℕ → List ℕ → Ordering}
    (store : Store) (depth : ℕ) (levels : LevelLists) (place : ℕ) (put : List (List ℕ)) (but : IsTreeBut is_key cmp store depth levels 0 place put) (none : levels 0 ≡ [])
  where
    pub none_at : (j : ℕ) → j < depth → levels j ≡ []
    none_at zero low = none
    none_at (suc j) low =
        let up : levels j ≡ [] = none_at j (omega arith) in
        let named : [] ≡ map (λ n. record_for store.nodes n) (levels (j + 1)) = ap (λ l. entries store.nodes l) (sym up) ∙ but.named j (omega arith) (λ e. absurd (omega arith)) in
        nil_from_length (levels (suc j)) (ap (λ i. length (levels i)) {x = suc j} {y = j + 1} (omega arith) ∙ sym (length-map (levels (j + 1)) (λ n. record_for store.nodes n)) ∙ ap length (sym named))

    pub emptied : IsTreeBut is_key cmp store 0 levels 0 0 []
    emptied = record {
      each = λ j low. absurd (omega arith);
      some = λ j low. absurd (omega arith);
      named = λ j low. absurd (omega arith);
      wanted = λ j low. absurd (omega arith);
      mapped = λ n inside. omega (arith, but.mapped n inside, tally_none levels depth n (λ j low. ap (λ (l : List ℕ). times n l) (none_at j low)));
      header = but.header;
      free = but.free;
    }
