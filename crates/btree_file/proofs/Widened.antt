-- A tree whose nodes stay is a tree among more nodes, of which only reserved ones are in use, and has the same pairs.
use Rattle.std.proofs.Common.{◌≡◌, ℕ, zero, suc, ◌+◌, ◌-◌, ◌≤◌, ◌<◌, false, List, [], ◌∷◌, ◌++◌, length, map, get_or, inl, inr, refl, sym, ◌∙◌, ap, subst, arith, ⊎_elim}
use Rattle.std.specs.List.{count_by, range_with_len}
use Rattle.std.specs.declared.cmp.Ordering.{Ordering}
use Rattle.std.proofs.lemmas.Bool.{cases_lt}
use Rattle.btree_node.specs.Levels.{Nodes, Pair, entries, level, leaves, key_of, record_for, pair_of, child_of, Ascends}
use Rattle.hx_bytes.specs.Field.{big}
use Rattle.btree_node.specs.Node.{IsNodeOf, items, next_of, back_of}
use Rattle.btree_node.specs.Store.{Store}
use Rattle.btree_node.specs.Tree.{kind_at, IsTree, IsTreeNode, IsReached, level_of, entries_of, pairs_of}

-- ---- nodes that are the same in a list

entries_same : (a b : Nodes) (ns : List ℕ) → ((k : ℕ) → k < length ns → b (get_or ns k 0) ≡ a (get_or ns k 0)) → entries b ns ≡ entries a ns
entries_same a b [] same = refl
entries_same a b (n ∷ ns) same =
    let first : items (b n) ≡ items (a n) = ap items (same 0 (omega arith)) in
    let rest = entries_same a b ns (λ k low. same (suc k) (omega (arith, low))) in
    rw (first, rest) refl

records_same : (a b : Nodes) (ns : List ℕ) → ((k : ℕ) → k < length ns → b (get_or ns k 0) ≡ a (get_or ns k 0)) → map (λ n. record_for b n) ns ≡ map (λ n. record_for a n) ns
records_same a b [] same = refl
records_same a b (n ∷ ns) same =
    let first : items (b n) ≡ items (a n) = ap items (same 0 (omega arith)) in
    let one : record_for b n ≡ record_for a n = ap (λ (l : List (List ℕ)). key_of (get_or l 0 []) ++ big 4 n) first in
    let rest = records_same a b ns (λ k low. same (suc k) (omega (arith, low))) in
    rw (one, rest) refl

-- ---- the same tree in other nodes

module _ (is_key : List ℕ → Type 0) (cmp : List ℕ → List ℕ → Ordering) (s t : Store) (tree : IsTree is_key cmp s)
    (depth : t.shape.depth ≡ s.shape.depth) (root : t.shape.root ≡ s.shape.root) (first : t.shape.first ≡ s.shape.first) (last : t.shape.last ≡ s.shape.last) (leaf_records : t.shape.leaf_records ≡ s.shape.leaf_records)
    (node_size : t.shape.node_size ≡ s.shape.node_size) (some : 0 < s.shape.total) (order : s.shape.total ≤ t.shape.total)
    (nodes : (n : ℕ) → n < s.shape.total → s.reserved n ≡ false → t.nodes n ≡ s.nodes n) (used : (n : ℕ) → n < s.shape.total → t.used n ≡ s.used n) (reserved : (n : ℕ) → n < s.shape.total → t.reserved n ≡ s.reserved n)
    (fresh : (n : ℕ) → s.shape.total ≤ n → n < t.shape.total → t.used n ≡ t.reserved n)
    (free : t.shape.free + count_by (λ n. t.used n) (range_with_len 0 t.shape.total) ≡ t.shape.total)
  where
    node_at : (j k : ℕ) → j < s.shape.depth → k < length (level_of s j) → t.nodes (get_or (level_of s j) k 0) ≡ s.nodes (get_or (level_of s j) k 0)
    node_at j k low in_level = nodes (get_or (level_of s j) k 0) (tree.levels.nodes j k low in_level).inside (tree.mapped.of_tree (get_or (level_of s j) k 0) (record { below = j; place = k; of_tree = low; inside = in_level; is = refl }))

    level_same : (j : ℕ) → j < s.shape.depth → level t.nodes s.shape.root j ≡ level_of s j
    level_same zero low = refl
    level_same (suc j) low =
        ap (λ (ns : List ℕ). map child_of (entries t.nodes ns)) (level_same j (omega (arith, low)))
        ∙ ap (λ (es : List (List ℕ)). map child_of es) (entries_same s.nodes t.nodes (level_of s j) (λ k in_level. node_at j k (omega (arith, low)) in_level))

    level_is : (j : ℕ) → j < s.shape.depth → level_of t j ≡ level_of s j
    level_is j low = ap (λ r. level t.nodes r j) root ∙ level_same j low

    entries_is : (j : ℕ) → j < s.shape.depth → entries_of t j ≡ entries_of s j
    entries_is j low = ap (λ (ns : List ℕ). entries t.nodes ns) (level_is j low) ∙ entries_same s.nodes t.nodes (level_of s j) (λ k in_level. node_at j k low in_level)

    leaves_same : (d : ℕ) → d ≤ s.shape.depth → leaves t.nodes t.shape.root d ≡ leaves s.nodes s.shape.root d
    leaves_same zero low = refl
    leaves_same (suc below) low = ap (λ (es : List (List ℕ)). map pair_of es) (entries_is below (omega (arith, low)))

    pub pairs_same : pairs_of t ≡ pairs_of s
    pairs_same = ap (λ d. leaves t.nodes t.shape.root d) depth ∙ leaves_same s.shape.depth (omega arith)

    reached_back : (n : ℕ) → IsReached t n → IsReached s n
    reached_back n r =
        let low : r.below < s.shape.depth = omega (arith, r.of_tree, depth) in
        record { below = r.below; place = r.place; of_tree = low; inside = subst (λ (l : List ℕ). r.place < length l) (level_is r.below low) r.inside; is = subst (λ (l : List ℕ). get_or l r.place 0 ≡ n) (level_is r.below low) r.is }

    reached_on : (n : ℕ) → IsReached s n → IsReached t n
    reached_on n r = record {
      below = r.below;
      place = r.place;
      of_tree = omega (arith, r.of_tree, depth);
      inside = subst (λ (l : List ℕ). r.place < length l) (sym (level_is r.below r.of_tree)) r.inside;
      is = subst (λ (l : List ℕ). get_or l r.place 0 ≡ n) (sym (level_is r.below r.of_tree)) r.is;
    }

    inside_of : (n : ℕ) → IsReached s n → n < s.shape.total
    inside_of n r = omega (arith, (tree.levels.nodes r.below r.place r.of_tree r.inside).inside, r.is)

    pub widened : IsTree is_key cmp t
    widened = record {
      levels = record {
        nodes = λ j k low in_level.
            let l : j < s.shape.depth = omega (arith, low, depth) in
            let there : k < length (level_of s j) = subst (λ (ns : List ℕ). k < length ns) (level_is j l) in_level in
            let was = tree.levels.nodes j k l there in
            subst (λ (ns : List ℕ). IsTreeNode t (t.shape.depth - j) (get_or ns k 0)) (sym (level_is j l))
            (subst (λ d. IsTreeNode t (d - j) (get_or (level_of s j) k 0)) (sym depth) (record {
              inside = omega (arith, was.inside, order);
              kind = subst (λ (b : List ℕ). IsNodeOf (kind_at (s.shape.depth - j)) (s.shape.depth - j) b) (sym (node_at j k l there)) was.kind;
              size = ap (λ (b : List ℕ). length b) (node_at j k l there) ∙ was.size ∙ sym node_size;
            }));
        named = λ j low.
            let l : j + 1 < s.shape.depth = omega (arith, low, depth) in
            entries_is j (omega (arith, l)) ∙ tree.levels.named j l ∙ sym (ap (λ (ns : List ℕ). map (λ n. record_for t.nodes n) ns) (level_is (j + 1) l) ∙ records_same s.nodes t.nodes (level_of s (j + 1)) (λ k in_level. node_at (j + 1) k l in_level));
        some = λ j k low in_level.
            let l : j + 1 < s.shape.depth = omega (arith, low, depth) in
            let there : k < length (level_of s (j + 1)) = subst (λ (ns : List ℕ). k < length ns) (level_is (j + 1) l) in_level in
            subst (λ (ns : List ℕ). 0 < length (items (t.nodes (get_or ns k 0)))) (sym (level_is (j + 1) l)) (subst (λ (b : List ℕ). 0 < length (items b)) (sym (node_at (j + 1) k l there)) (tree.levels.some j k l there));
        keys = λ j k low in_level. let l : j < s.shape.depth = omega (arith, low, depth) in
            subst (λ (es : List (List ℕ)). is_key (key_of (get_or es k []))) (sym (entries_is j l)) (tree.levels.keys j k l (subst (λ (es : List (List ℕ)). k < length es) (entries_is j l) in_level));
        short = λ j k low in_level. let l : j < s.shape.depth = omega (arith, low, depth) in
            omega (
              arith,
              tree.levels.short j k (omega (arith, low, depth)) (subst (λ (es : List (List ℕ)). k < length es) (entries_is j l) in_level),
              ap (λ (es : List (List ℕ)). length (get_or es k [])) (entries_is j l),
              node_size,
            );
      };
      ordered = record {
        ascends = λ j low. let l : j < s.shape.depth = omega (arith, low, depth) in subst (λ (es : List (List ℕ)). Ascends cmp es) (sym (entries_is j l)) (tree.ordered.ascends j l);
        next = λ j k low in_level.
            let l : j < s.shape.depth = omega (arith, low, depth) in
            let there : k < length (level_of s j) = subst (λ (ns : List ℕ). k < length ns) (level_is j l) in_level in
            subst (λ (ns : List ℕ). next_of (t.nodes (get_or ns k 0)) ≡ get_or ns (k + 1) 0) (sym (level_is j l)) (ap next_of (node_at j k l there) ∙ tree.ordered.next j k l there);
        back = λ j k low in_level.
            let l : j < s.shape.depth = omega (arith, low, depth) in
            let there : k < length (level_of s j) = subst (λ (ns : List ℕ). k < length ns) (level_is j l) in_level in
            subst (λ (ns : List ℕ). back_of (t.nodes (get_or ns k 0)) ≡ get_or (0 ∷ ns) k 0) (sym (level_is j l)) (ap back_of (node_at j k l there) ∙ tree.ordered.back j k l there);
      };
      header = record {
        depth = omega (arith, tree.header.depth, depth);
        empty = λ e. root ∙ tree.header.empty (sym depth ∙ e);
        leaf_records = leaf_records ∙ tree.header.leaf_records ∙ ap (λ (ps : List Pair). length ps) (sym pairs_same);
        first = λ j e. let l : j < s.shape.depth = omega (arith, e, depth) in first ∙ tree.header.first j (omega (arith, e, depth)) ∙ ap (λ (ns : List ℕ). get_or ns 0 0) (sym (level_is j l));
        last = λ j e. let l : j < s.shape.depth = omega (arith, e, depth) in last ∙ tree.header.last j (omega (arith, e, depth)) ∙ ap (λ (ns : List ℕ). get_or ns (length ns - 1) 0) (sym (level_is j l));
        no_leaf = λ e. let was = tree.header.no_leaf (sym depth ∙ e) in (first ∙ was.0, last ∙ was.1);
      };
      mapped = record {
        used = λ n low. ⊎_elim
            (λ (less : n < s.shape.total). (
              λ u. ⊎_elim (λ r. inl (reached_on n r)) (λ r. inr (reserved n less ∙ r)) ((tree.mapped.used n less).0 (sym (used n less) ∙ u)),
              λ e. used n less ∙ (tree.mapped.used n less).1 (⊎_elim (λ r. inl (reached_back n r)) (λ r. inr (sym (reserved n less) ∙ r)) e),
            ))
            (λ (more : s.shape.total ≤ n). (
              λ u. inr (sym (fresh n more low) ∙ u),
              λ e. ⊎_elim (λ r. absurd (omega (arith, more, inside_of n (reached_back n r)))) (λ r. fresh n more low ∙ r) e,
            ))
            (cases_lt n s.shape.total);
        of_tree = λ n r. let back = reached_back n r in reserved n (inside_of n back) ∙ tree.mapped.of_tree n back;
        header = reserved 0 some ∙ tree.mapped.header;
        distinct = λ j k i m j_low k_in i_low m_in same.
            let a : j < s.shape.depth = omega (arith, j_low, depth) in
            let b : i < s.shape.depth = omega (arith, i_low, depth) in
            tree.mapped.distinct j k i m a (subst (λ (ns : List ℕ). k < length ns) (level_is j a) k_in) b (subst (λ (ns : List ℕ). m < length ns) (level_is i b) m_in)
            (ap (λ (ns : List ℕ). get_or ns k 0) (sym (level_is j a)) ∙ same ∙ ap (λ (ns : List ℕ). get_or ns m 0) (level_is i b));
        free = free;
      };
    }
