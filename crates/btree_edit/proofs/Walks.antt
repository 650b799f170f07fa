-- The pairs that a walk over the leaves passes.
use Rattle.std.proofs.Common.{◌≡◌, ℕ, zero, suc, ◌+◌, ◌-◌, ◌<◌, ◌≤◌, List, [], ◌∷◌, ◌++◌, length, get_or, refl, sym, ◌∙◌, ap, subst, arith, append_assoc, true, false}
use Rattle.std.proofs.lemmas.Bool.{true≢false}
use Rattle.std.specs.Prelude.{Option, Some, None, IsTrue, Result, Ok, Err, IfOk}
use Rattle.std.proofs.lemmas.List.{length-append, append-nil, get_or-append_right, get_or_append_left}
use Rattle.std.specs.Cmp.{IsTotalOrder}
use Rattle.std.specs.declared.cmp.Ordering.{Ordering}
use Rattle.hx_bytes.specs.Field.{big_at}
use Rattle.btree_node.specs.Node.{items, next_of}
use Rattle.btree_node.specs.Levels.{Pair, entries, level, key_of, value_of, pair_of, IsRank}
use Rattle.btree_node.specs.Store.{Store}
use Rattle.btree_node.specs.Tree.{level_of, entries_of, pairs_of, IsTree, IsTreeNode, IsReached}
use Rattle.btree_node.proofs.Levels.{entries-append}
use Rattle.btree_node.proofs.Ranks.{level_long, behind_node, in_node}
use Rattle.btree_edit.specs.Desk.{IsAbove, HoldsPair}
use Rattle.btree_edit.specs.Following.{IsLocated}
use Rattle.btree_edit.specs.Reading.{ReadsNodes, IsPlace}
use Rattle.btree_edit.specs.Walking.{Seeks, StandsAt, StepsOn, Turns, leaves_until}
use Rattle.btree_edit.specs.declared.desk.Desk.{Desk}
use Rattle.btree_edit.proofs.Descent.{pair_at, pairs_long}
use Rattle.btree_edit.proofs.Spans.{until_next}

-- ---- over calls that only read

module _ (most : ℕ) (a b : Store) (reads : ReadsNodes most a b) (tells : IsTrue a.tells) where
  nodes_same : b.nodes ≡ a.nodes
  nodes_same = λ i. λ n. (reads.tree tells).nodes n i

  pub stands_read : (desk : Desk) (at place : ℕ) → StandsAt a desk at place → StandsAt b desk at place
  stands_read desk at place stands = record {
    some = subst (λ s. 0 < s.depth) (sym reads.shape) stands.some;
    leaf = stands.leaf;
    front = stands.front;
    back = stands.back;
    is = level_same ∙ stands.is;
    node = stands.node ∙ sym ((reads.tree tells).nodes stands.leaf);
    within = subst (λ l. at ≤ length (items l)) (sym ((reads.tree tells).nodes stands.leaf)) stands.within;
    passed = stands.passed ∙ ap (λ f. length (entries f stands.front) + at) (sym nodes_same);
  }
    where
      level_same : level_of b (b.shape.depth - 1) ≡ level_of a (a.shape.depth - 1)
      level_same = λ i. level (nodes_same i) (reads.shape i).root ((reads.shape i).depth - 1)

  pub seeks_read : (cmp : List ℕ → List ℕ → Ordering) (key : List ℕ) (desk : Desk) (found : Option ℕ) → pairs_of b ≡ pairs_of a → Seeks cmp key a desk found → Seeks cmp key b desk found
  seeks_read cmp key desk None pairs seeks = ap length pairs ∙ seeks
  seeks_read cmp key desk (Some at) pairs seeks = (seeks.0, stands_read desk at seeks.0 seeks.1, subst (λ l. IsAbove cmp key l seeks.0) (sym pairs) seeks.2)

  pub steps_read : (desk : Desk) (place : ℕ) (on : Option ℕ) → pairs_of b ≡ pairs_of a → StepsOn a desk place on → StepsOn b desk place on
  steps_read desk place None pairs steps = steps ∙ sym (ap length pairs)
  steps_read desk place (Some at) pairs steps = (
    record {
      inside = subst (λ (l : List Pair). place < length l) (sym pairs) steps.0.inside;
      key = subst (λ (l : List Pair). desk.held.key ≡ (get_or l place ([], [])).0) (sym pairs) steps.0.key;
      value = subst (λ (l : List Pair). desk.held.value ≡ (get_or l place ([], [])).1) (sym pairs) steps.0.value;
    },
    stands_read desk at (place + 1) steps.1,
  )

pub stands_same : (store : Store) (a b : Desk) (at place : ℕ) → b.node ≡ a.node → StandsAt store a at place → StandsAt store b at place
stands_same store a b at place same stands = record {
  some = stands.some;
  leaf = stands.leaf;
  front = stands.front;
  back = stands.back;
  is = stands.is;
  node = same ∙ stands.node;
  within = stands.within;
  passed = stands.passed;
}

module _ (is_key : List ℕ → Type 0) (cmp : List ℕ → List ℕ → Ordering) (total : IsTotalOrder cmp)
    (key_length : (a : List ℕ) → is_key a → length a ≡ big_at 2 a 0 + 2)
    (store : Store) (tree : IsTree is_key cmp store) where
  -- a rank among the records of the leaves is one among the pairs
  above : (key : List ℕ) (place : ℕ) → 0 < store.shape.depth → IsRank cmp key (entries_of store (store.shape.depth - 1)) place → IsAbove cmp key (pairs_of store) place
  above key place some rank =
      let many = pairs_long is_key cmp total key_length store tree.levels tree.ordered some in
      let here : (k : ℕ) → k < length (entries_of store (store.shape.depth - 1)) → (get_or (pairs_of store) k ([], [])).0 ≡ key_of (get_or (entries_of store (store.shape.depth - 1)) k []) =
      λ k within. ap (λ (p : Pair). p.0) (pair_at is_key cmp total key_length store tree.levels tree.ordered some k within) in
      record {
        before = λ k low e. rank.before k low (ap (λ l. cmp l key) (sym (here k (omega (arith, rank.within)))) ∙ e);
        behind = λ k from to. ap (λ l. cmp l key) (here k (omega arith)) ∙ rank.behind k from (omega arith);
      }

  -- the search of a key is the begin of a walk
  pub located_seeks : (key : List ℕ) (desk : Desk) (found : Option ℕ) → IsLocated cmp key store desk found → Seeks cmp key store desk found
  located_seeks key desk None located = located
  located_seeks key desk (Some at) located = (
    length (entries store.nodes located.leads.front) + at,
    record {
      some = located.some;
      leaf = located.leaf;
      front = located.leads.front;
      back = located.leads.back;
      is = located.leads.is;
      node = located.is;
      within = subst (λ l. at ≤ length (items l)) located.is located.place.within;
      passed = refl;
    },
    above key (length (entries store.nodes located.leads.front) + at) located.some (located.leads.rank at (subst (λ l. IsPlace cmp key (items l) at) located.is located.place)),
  )

  pub located_seeks_ok : {E : Type 0} (most : ℕ) (read : Store) (reads : ReadsNodes most store read) → IsTrue store.tells → (key : List ℕ) (desk : Desk) → pairs_of read ≡ pairs_of store
      → (result : Result (Option ℕ) E) → IfOk result (λ at. IsLocated cmp key store desk at) → IfOk result (λ at. Seeks cmp key read desk at)
  located_seeks_ok most read reads tells key desk pairs (Ok at) located = seeks_read most store read reads tells cmp key desk at pairs (located_seeks key desk at located)
  located_seeks_ok most read reads tells key desk pairs (Err why) located = located

  holds : (desk : Desk) (k : ℕ) (item : List ℕ) → 0 < store.shape.depth → k < length (entries_of store (store.shape.depth - 1)) → get_or (entries_of store (store.shape.depth - 1)) k [] ≡ item
      → desk.held.key ≡ key_of item → desk.held.value ≡ value_of item → HoldsPair store desk k
  holds desk k item some within is own value =
      let pair : get_or (pairs_of store) k ([], []) ≡ pair_of item = pair_at is_key cmp total key_length store tree.levels tree.ordered some k within ∙ ap pair_of is in
      record {
        inside = omega (arith, pairs_long is_key cmp total key_length store tree.levels tree.ordered some);
        key = own ∙ sym (ap (λ (p : Pair). p.0) pair);
        value = value ∙ sym (ap (λ (p : Pair). p.1) pair);
      }

  module _ (old : Desk) (at place : ℕ) (stands : StandsAt store old at place) where
    whole : length (entries_of store (store.shape.depth - 1)) ≡ length (entries store.nodes stands.front) + (length (items (store.nodes stands.leaf)) + length (entries store.nodes stands.back))
    whole = ap (λ l. length (entries store.nodes l)) stands.is ∙ level_long store.nodes stands.front stands.leaf stands.back

    -- the pair is in the leaf itself
    pub step_here : (new : Desk) → new.node ≡ old.node → at < length (items old.node) → new.held.key ≡ key_of (get_or (items old.node) at []) → new.held.value ≡ value_of (get_or (items old.node) at [])
        → StepsOn store new place (Some (at + 1))
    step_here new kept inside own value =
        let same : items old.node ≡ items (store.nodes stands.leaf) = ap items stands.node in
        let within : at < length (items (store.nodes stands.leaf)) = omega (arith, ap length same, inside) in
        let of : get_or (entries_of store (store.shape.depth - 1)) place [] ≡ get_or (items old.node) at [] =
        ap (λ n. get_or (entries_of store (store.shape.depth - 1)) n []) stands.passed
        ∙ ap (λ l. get_or (entries store.nodes l) (length (entries store.nodes stands.front) + at) []) stands.is
        ∙ in_node store.nodes stands.front stands.leaf stands.back at within ∙ sym (ap (λ (l : List (List ℕ)). get_or l at []) same) in (
          holds new place (get_or (items old.node) at []) stands.some (omega (arith, whole, within, stands.passed)) of own value,
          record {
            some = stands.some;
            leaf = stands.leaf;
            front = stands.front;
            back = stands.back;
            is = stands.is;
            node = kept ∙ stands.node;
            within = omega (arith, within);
            passed = omega (arith, stands.passed);
          },
        )

    module _ (past : length (items old.node) ≤ at) where
      at_end : at ≡ length (items (store.nodes stands.leaf))
      at_end = omega (arith, ap (λ l. length (items l)) stands.node, stands.within, past)

      node_place : get_or (level_of store (store.shape.depth - 1)) (length stands.front) 0 ≡ stands.leaf
      node_place =
          ap (λ l. get_or l (length stands.front) 0) stands.is
          ∙ get_or-append_right stands.front (stands.leaf ∷ stands.back) (length stands.front) (length stands.front) 0 refl (omega arith)
          ∙ ap (λ k. get_or (stands.leaf ∷ stands.back) k 0) {y = 0} (omega arith)

      node_inside : length stands.front < length (level_of store (store.shape.depth - 1))
      node_inside = omega (arith, ap length stands.is, length-append stands.front (stands.leaf ∷ stands.back))

      next_is : next_of old.node ≡ get_or (level_of store (store.shape.depth - 1)) (length stands.front + 1) 0
      next_is =
          ap next_of stands.node ∙ sym (ap (λ n. next_of (store.nodes n)) node_place) ∙ tree.ordered.next (store.shape.depth - 1) (length stands.front) (omega (arith, stands.some)) node_inside

      next_at : get_or (level_of store (store.shape.depth - 1)) (length stands.front + 1) 0 ≡ get_or stands.back 0 0
      next_at =
          ap (λ l. get_or l (length stands.front + 1) 0) stands.is
          ∙ get_or-append_right stands.front (stands.leaf ∷ stands.back) (length stands.front) (length stands.front + 1) 0 refl (omega arith)
          ∙ ap (λ n. get_or (stands.leaf ∷ stands.back) n 0) {y = 1} (omega arith)

      -- no leaf is behind: all pairs are passed
      all_passed : stands.back ≡ [] → place ≡ length (pairs_of store)
      all_passed empty = omega (arith, pairs_long is_key cmp total key_length store tree.levels tree.ordered stands.some, whole, at_end, stands.passed, ap (λ l. length (entries store.nodes l)) empty)

      -- what a leaf behind this one is
      record IsBehind (n : ℕ) (ns : List ℕ) : Type 0 where
        next : next_of old.node ≡ n
        not_zero : next_of old.node ≡ 0 → ⊥
        node : IsTreeNode store 1 n
        some : 0 < length (items (store.nodes n))

      is_behind : (n : ℕ) (ns : List ℕ) → stands.back ≡ n ∷ ns → IsBehind n ns
      is_behind n ns is =
          let next_n : next_of old.node ≡ n = next_is ∙ next_at ∙ ap (λ l. get_or l 0 0) is in
          let at_n : get_or (level_of store (store.shape.depth - 1)) (length stands.front + 1) 0 ≡ n = sym next_is ∙ next_n in
          let inside : length stands.front + 1 < length (level_of store (store.shape.depth - 1)) = omega (arith, ap length stands.is, length-append stands.front (stands.leaf ∷ stands.back), ap length is) in
          let reached : IsReached store n = record { below = store.shape.depth - 1; place = length stands.front + 1; of_tree = omega (arith, stands.some); inside = inside; is = at_n } in
          let deep : 1 < store.shape.depth = deeper (store.shape.depth - 1) refl inside in
          let up : store.shape.depth - 1 ≡ store.shape.depth - 2 + 1 = omega (arith, deep) in
          record {
            next = next_n;
            not_zero = λ e. true≢false (sym tree.mapped.header ∙ ap (λ m. store.reserved m) (sym e ∙ next_n) ∙ tree.mapped.of_tree n reached);
            node = subst (λ h. IsTreeNode store h n) {x = store.shape.depth - (store.shape.depth - 1)} (omega (arith, stands.some))
                (subst (λ m. IsTreeNode store (store.shape.depth - (store.shape.depth - 1)) m) at_n (tree.levels.nodes (store.shape.depth - 1) (length stands.front + 1) (omega (arith, stands.some)) inside));
            some = subst (λ m. 0 < length (items (store.nodes m))) (ap (λ i. get_or (level_of store i) (length stands.front + 1) 0) (sym up) ∙ at_n)
                (tree.levels.some (store.shape.depth - 2) (length stands.front + 1) (omega (arith, deep)) (subst (λ i. length stands.front + 1 < length (level_of store i)) up inside));
          }
        where
          -- a level of more than one node isn't the root's
          deeper : (j : ℕ) → j ≡ store.shape.depth - 1 → length stands.front + 1 < length (level_of store (store.shape.depth - 1)) → 1 < store.shape.depth
          deeper zero e inside = absurd (omega (arith, ap (λ i. length (level_of store i)) e, inside))
          deeper (suc j) e inside = omega (arith, e)

      -- where the walk didn't turn, all pairs are passed
      pub no_turn : (new : Desk) → Turns store old new false → StepsOn store new place None
      no_turn new turns = by_back stands.back refl
        where
          by_back : (l : List ℕ) → stands.back ≡ l → place ≡ length (pairs_of store)
          by_back [] is = all_passed is
          by_back (n ∷ ns) is =
              let behind = is_behind n ns is in
              absurd (true≢false (sym (turns.some behind.not_zero (subst (λ m. IsTreeNode store 1 m) (sym behind.next) behind.node))))

      -- where it did, the leaf has a record, which is the pair at the place
      module _ (mid : Desk) (turns : Turns store old mid true) where
        mid_not_zero : next_of old.node ≡ 0 → ⊥
        mid_not_zero e = true≢false (turns.none e)

        pub first_there : 0 < length (items mid.node)
        first_there = by_back stands.back refl
          where
            by_back : (l : List ℕ) → stands.back ≡ l → 0 < length (items mid.node)
            by_back [] is = absurd (mid_not_zero (next_is ∙ next_at ∙ ap (λ l. get_or l 0 0) is))
            by_back (n ∷ ns) is = let behind = is_behind n ns is in subst (λ l. 0 < length (items l)) (sym (turns.is refl ∙ ap store.nodes behind.next)) behind.some

        -- the leaf behind is one more
        pub one_leaf_more : leaves_until store place + 1 ≤ leaves_until store (place + 1)
        one_leaf_more = by_back stands.back refl
          where
            by_back : (l : List ℕ) → stands.back ≡ l → leaves_until store place + 1 ≤ leaves_until store (place + 1)
            by_back [] is = absurd (mid_not_zero (next_is ∙ next_at ∙ ap (λ l. get_or l 0 0) is))
            by_back (n ∷ ns) is = until_next store old at place n ns stands at_end is (is_behind n ns is).some

        pub step_over : (new : Desk) → new.node ≡ mid.node → new.held.key ≡ key_of (get_or (items mid.node) 0 []) → new.held.value ≡ value_of (get_or (items mid.node) 0 []) → StepsOn store new place (Some 1)
        step_over new kept own value = by_back stands.back refl
          where
            by_back : (l : List ℕ) → stands.back ≡ l → StepsOn store new place (Some 1)
            by_back [] is = absurd (mid_not_zero (next_is ∙ next_at ∙ ap (λ l. get_or l 0 0) is))
            by_back (n ∷ ns) is =
                let behind = is_behind n ns is in
                let mid_is : mid.node ≡ store.nodes n = turns.is refl ∙ ap store.nodes behind.next in
                let first : get_or (entries store.nodes stands.back) 0 [] ≡ get_or (items (store.nodes n)) 0 [] =
                ap (λ l. get_or (entries store.nodes l) 0 []) is ∙ get_or_append_left (items (store.nodes n)) (entries store.nodes ns) [] 0 behind.some in
                let at_place : get_or (entries_of store (store.shape.depth - 1)) place [] ≡ get_or (items mid.node) 0 [] =
                ap (λ l. get_or (entries store.nodes l) place []) stands.is
                ∙ ap (λ k. get_or (entries store.nodes (stands.front ++ stands.leaf ∷ stands.back)) k []) {y = length (entries store.nodes stands.front) + length (items (store.nodes stands.leaf)) + 0} (omega (arith, at_end, stands.passed))
                ∙ behind_node store.nodes stands.front stands.leaf stands.back 0 ∙ first ∙ ap (λ l. get_or (items l) 0 []) (sym mid_is) in
                let within : place < length (entries_of store (store.shape.depth - 1)) =
                omega (arith, whole, at_end, stands.passed, ap (λ l. length (entries store.nodes l)) is, length-append (items (store.nodes n)) (entries store.nodes ns), behind.some) in (
                  holds new place (get_or (items mid.node) 0 []) stands.some within at_place own value,
                  record {
                    some = stands.some;
                    leaf = n;
                    front = stands.front ++ stands.leaf ∷ [];
                    back = ns;
                    is = stands.is ∙ ap (λ l. stands.front ++ stands.leaf ∷ l) is ∙ sym (append_assoc stands.front (stands.leaf ∷ []) (n ∷ ns));
                    node = kept ∙ mid_is;
                    within = omega (arith, behind.some);
                    passed = omega (arith, stands.passed, at_end, ap length (entries-append store.nodes stands.front (stands.leaf ∷ [])), length-append (entries store.nodes stands.front) (entries store.nodes (stands.leaf ∷ [])), ap length (append-nil (items (store.nodes stands.leaf))));
                  },
                )
