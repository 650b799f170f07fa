-- The least pair above a key.
use Rattle.std.proofs.Common.{◌≡◌, ◌≢◌, ℕ, zero, suc, ◌+◌, ◌-◌, ◌<◌, ◌≤◌, List, [], ◌∷◌, ◌++◌, length, get_or, inl, inr, refl, sym, ◌∙◌, ap, subst, arith, true, false}
use Rattle.std.specs.Prelude.{Bool, Option, Some, None, IfSome, IfNone, IsTrue}
use Rattle.std.proofs.lemmas.Bool.{cases_lt, true≢false}
use Rattle.std.proofs.lemmas.List.{length-append, get_or-append_right, get_or_append_left}
use Rattle.std.specs.Cmp.{IsTotalOrder}
use Rattle.std.specs.declared.cmp.Ordering.{Ordering}
use Rattle.hx_bytes.specs.Field.{big_at}
use Rattle.btree_node.specs.Node.{items, next_of, IsNodeOf}
use Rattle.btree_node.specs.Levels.{Pair, entries, key_of, value_of, pair_of, IsRank}
use Rattle.btree_node.specs.Store.{Store}
use Rattle.btree_node.specs.Tree.{level_of, entries_of, pairs_of, IsTree, IsTreeNode, IsReached, kind_at}
use Rattle.btree_node.proofs.Ranks.{level_long, behind_node}
use Rattle.btree_edit.specs.Desk.{FindsNext, IsAbove, HoldsPair, HoldsNone}
use Rattle.btree_edit.specs.Following.{IsInLeaf, IsLocated, StepsOver}
use Rattle.btree_edit.specs.Reading.{LeadsTo, IsPlace, HasNoKey, ReadsNodes}
use Rattle.btree_edit.specs.declared.desk.Desk.{Desk}
use Rattle.btree_edit.proofs.Descent.{leads_keys, of_level, in_level, node_place, node_in_level, pair_at, pairs_long}

-- the step over is the same after calls that only read
pub steps_same : (m : ℕ) (a b : Store) → ReadsNodes m a b → IsTrue a.tells → (old new : Desk) (found : Bool) → StepsOver b old new found → StepsOver a old new found
steps_same m a b reads tells old new found steps =
    let same = reads.tree tells in
    record {
      none = steps.none;
      kept = steps.kept;
      some = λ other node more. steps.some other
          (record {
            inside = omega (arith, node.inside, reads.same.total);
            kind = subst (λ l. IsNodeOf (kind_at 1) 1 l) (sym (same.nodes (next_of old.node))) node.kind;
            size = ap length (same.nodes (next_of old.node)) ∙ node.size ∙ sym reads.same.node_size;
          })
          (subst (λ l. 0 < length (items l)) (sym (same.nodes (next_of old.node))) more);
      key = λ other yes. steps.key other yes ∙ ap (λ l. key_of (get_or (items l) 0 [])) (same.nodes (next_of old.node));
      value = λ other yes. steps.value other yes ∙ ap (λ l. value_of (get_or (items l) 0 [])) (same.nodes (next_of old.node));
    }

pub leaf_same : (cmp : List ℕ → List ℕ → Ordering) (key : List ℕ) (store : Store) (a b : Desk) (at : ℕ) → b.node ≡ a.node → IsInLeaf cmp key store a at → IsInLeaf cmp key store b at
leaf_same cmp key store a b at same found =
    record { leaf = found.leaf; some = found.some; leads = found.leads; is = same ∙ found.is; place = subst (λ l. IsPlace cmp key (items l) at) (sym same) found.place }

pub not_inside : (at many : ℕ) (kept : Bool) → (at < many → kept ≡ true) → kept ≡ false → many ≤ at
not_inside at many kept all lost = elim (cases_lt at many) [
  | inl less ↦ absurd (true≢false (sym (all less) ∙ lost))
  | inr past ↦ past
]

module _ (is_key : List ℕ → Type 0) (cmp : List ℕ → List ℕ → Ordering) (total : IsTotalOrder cmp)
    (key_length : (a : List ℕ) → is_key a → length a ≡ big_at 2 a 0 + 2)
    (store : Store) (tree : IsTree is_key cmp store) (key : List ℕ) where
  -- the place that the search of the leaf answered
  pub located : (leaf : ℕ) → 0 < store.shape.depth → (leads : LeadsTo cmp key store (store.shape.depth - 1) leaf) (desk : Desk) → desk.node ≡ store.nodes leaf
      → (r : Option ℕ) → IfSome r (λ at. IsPlace cmp key (items desk.node) at) → IfNone r (HasNoKey is_key (items desk.node)) → IsLocated cmp key store desk r
  located leaf some leads desk is None place no_key =
      absurd (leads_keys is_key cmp total key_length store tree.levels tree.ordered key (store.shape.depth - 1) leaf leads (omega arith) (subst (λ l. HasNoKey is_key (items l)) is no_key))
  located leaf some leads desk is (Some at) place no_key = record { leaf = leaf; some = some; leads = leads; is = is; place = place }

  -- a rank among the records of the leaves is one among the pairs
  above : (place : ℕ) → 0 < store.shape.depth → IsRank cmp key (entries_of store (store.shape.depth - 1)) place → IsAbove cmp key (pairs_of store) place
  above place some rank =
      let many = pairs_long is_key cmp total key_length store tree.levels tree.ordered some in
      let here : (k : ℕ) → k < length (entries_of store (store.shape.depth - 1)) → (get_or (pairs_of store) k ([], [])).0 ≡ key_of (get_or (entries_of store (store.shape.depth - 1)) k []) =
      λ k within. ap (λ (p : Pair). p.0) (pair_at is_key cmp total key_length store tree.levels tree.ordered some k within) in
      record {
        before = λ k low e. rank.before k low (ap (λ l. cmp l key) (sym (here k (omega (arith, rank.within)))) ∙ e);
        behind = λ k from to. ap (λ l. cmp l key) (here k (omega arith)) ∙ rank.behind k from (omega arith);
      }

  holds : (desk : Desk) (k : ℕ) (item : List ℕ) → 0 < store.shape.depth → k < length (entries_of store (store.shape.depth - 1)) → get_or (entries_of store (store.shape.depth - 1)) k [] ≡ item
      → desk.held.key ≡ key_of item → desk.held.value ≡ value_of item → HoldsPair store desk k
  holds desk k item some within is own value =
      let pair : get_or (pairs_of store) k ([], []) ≡ pair_of item = pair_at is_key cmp total key_length store tree.levels tree.ordered some k within ∙ ap pair_of is in
      record {
        inside = omega (arith, pairs_long is_key cmp total key_length store tree.levels tree.ordered some);
        key = own ∙ sym (ap (λ (p : Pair). p.0) pair);
        value = value ∙ sym (ap (λ (p : Pair). p.1) pair);
      }

  -- the pair is in the leaf itself
  pub next_here : (old new : Desk) (at : ℕ) → IsInLeaf cmp key store old at → at < length (items old.node) → new.held.key ≡ key_of (get_or (items old.node) at []) → new.held.value ≡ value_of (get_or (items old.node) at [])
      → FindsNext cmp key store new true
  next_here old new at found inside own value =
      let start : ℕ = length (entries store.nodes found.leads.front) in
      let same : items old.node ≡ items (store.nodes found.leaf) = ap items found.is in
      let within : at < length (items (store.nodes found.leaf)) = omega (arith, ap length same) in
      let of : get_or (entries_of store (store.shape.depth - 1)) (length (entries store.nodes found.leads.front) + at) [] ≡ get_or (items old.node) at [] =
      of_level is_key cmp total key_length store tree.levels tree.ordered key (store.shape.depth - 1) found.leaf found.leads at within ∙ sym (ap (λ (l : List (List ℕ)). get_or l at []) same) in (
        length (entries store.nodes found.leads.front) + at,
        holds new (length (entries store.nodes found.leads.front) + at) (get_or (items old.node) at []) found.some
            (omega (arith, in_level is_key cmp total key_length store tree.levels tree.ordered key (store.shape.depth - 1) found.leaf found.leads)) of own value,
        above (length (entries store.nodes found.leads.front) + at) found.some (found.leads.rank at (subst (λ (l : List (List ℕ)). IsPlace cmp key l at) same found.place)),
      )

  -- a tree without pairs has none above
  pub next_none : (desk : Desk) → length (pairs_of store) ≡ 0 → HoldsNone desk → FindsNext cmp key store desk false
  next_none desk none holds_none =
      (record { before = λ k low. absurd (omega arith); behind = λ k from to. absurd (omega arith) }, holds_none)

  -- the pair is the first of the leaf behind, or there is none
  module _ (old new : Desk) (at : ℕ) (found : IsInLeaf cmp key store old at) (past : length (items old.node) ≤ at) (none : HoldsNone old) where
    next_is : next_of old.node ≡ get_or (level_of store (store.shape.depth - 1)) (length found.leads.front + 1) 0
    next_is =
        let place = node_place is_key cmp total key_length store tree.levels tree.ordered key (store.shape.depth - 1) found.leaf found.leads in
        let inside = node_in_level is_key cmp total key_length store tree.levels tree.ordered key (store.shape.depth - 1) found.leaf found.leads in
        ap next_of found.is ∙ sym (ap (λ n. next_of (store.nodes n)) place) ∙ tree.ordered.next (store.shape.depth - 1) (length found.leads.front) (omega (arith, found.some)) inside

    at_end : at ≡ length (items (store.nodes found.leaf))
    at_end = omega (arith, ap (λ l. length (items l)) found.is, found.place.within)

    rank : IsRank cmp key (entries_of store (store.shape.depth - 1)) (length (entries store.nodes found.leads.front) + at)
    rank = found.leads.rank at (subst (λ l. IsPlace cmp key (items l) at) found.is found.place)

    whole : length (entries_of store (store.shape.depth - 1)) ≡ length (entries store.nodes found.leads.front) + (length (items (store.nodes found.leaf)) + length (entries store.nodes found.leads.back))
    whole = ap (λ l. length (entries store.nodes l)) found.leads.is ∙ level_long store.nodes found.leads.front found.leaf found.leads.back

    next_at : (k : ℕ) → get_or (level_of store (store.shape.depth - 1)) (length found.leads.front + 1 + k) 0 ≡ get_or found.leads.back k 0
    next_at k =
        ap (λ l. get_or l (length found.leads.front + 1 + k) 0) found.leads.is
        ∙ get_or-append_right found.leads.front (found.leaf ∷ found.leads.back) (length found.leads.front) (length found.leads.front + 1 + k) 0 refl (omega arith)
        ∙ ap (λ n. get_or (found.leaf ∷ found.leads.back) n 0) {y = suc k} (omega arith)

    -- no leaf is behind
    last_leaf : (found_one : Bool) → StepsOver store old new found_one → found.leads.back ≡ [] → FindsNext cmp key store new found_one
    last_leaf found_one steps empty =
        let zero_next : next_of old.node ≡ 0 = next_is ∙ ap (λ n. get_or (level_of store (store.shape.depth - 1)) n 0) {y = length found.leads.front + 1 + 0} (omega arith) ∙ next_at 0 ∙ ap (λ l. get_or l 0 0) empty in
        let no : found_one ≡ false = steps.none zero_next in
        let all : length (pairs_of store) ≡ length (entries store.nodes found.leads.front) + at =
        omega (arith, pairs_long is_key cmp total key_length store tree.levels tree.ordered found.some, whole, at_end, ap (λ l. length (entries store.nodes l)) empty) in
        subst (λ b. FindsNext cmp key store new b) (sym no) (
          subst (λ n. IsAbove cmp key (pairs_of store) n) (sym all) (above (length (entries store.nodes found.leads.front) + at) found.some rank),
          record { key = ap (λ h. h.key) (steps.kept no) ∙ none.key; value = ap (λ h. h.value) (steps.kept no) ∙ none.value },
        )

    -- a leaf is behind
    leaf_behind : (found_one : Bool) → StepsOver store old new found_one → (n : ℕ) (ns : List ℕ) → found.leads.back ≡ n ∷ ns → FindsNext cmp key store new found_one
    leaf_behind found_one steps n ns is =
        let p : ℕ = length found.leads.front + 1 in
        let next_n : next_of old.node ≡ n = next_is ∙ ap (λ k. get_or (level_of store (store.shape.depth - 1)) k 0) {y = length found.leads.front + 1 + 0} (omega arith) ∙ next_at 0 ∙ ap (λ l. get_or l 0 0) is in
        let place : get_or (level_of store (store.shape.depth - 1)) (length found.leads.front + 1) 0 ≡ n = sym next_is ∙ next_n in
        let inside : length found.leads.front + 1 < length (level_of store (store.shape.depth - 1)) = omega (arith, ap length found.leads.is, length-append found.leads.front (found.leaf ∷ found.leads.back), ap length is) in
        let reached : IsReached store n = record { below = store.shape.depth - 1; place = length found.leads.front + 1; of_tree = omega (arith, found.some); inside = inside; is = place } in
        let not_zero : next_of old.node ≢ 0 = λ e. clash (sym tree.mapped.header ∙ ap (λ m. store.reserved m) (sym e ∙ next_n) ∙ tree.mapped.of_tree n reached) in
        let deep : 1 < store.shape.depth = deeper (store.shape.depth - 1) refl inside in
        let up : store.shape.depth - 1 ≡ store.shape.depth - 2 + 1 = omega arith in
        let some : 0 < length (items (store.nodes n)) =
        subst (λ m. 0 < length (items (store.nodes m))) (ap (λ i. get_or (level_of store i) (length found.leads.front + 1) 0) (sym up) ∙ place)
        (tree.levels.some (store.shape.depth - 2) (length found.leads.front + 1) (omega arith) (subst (λ i. length found.leads.front + 1 < length (level_of store i)) up inside)) in
        let node : IsTreeNode store 1 n = subst (λ h. IsTreeNode store h n) {x = store.shape.depth - (store.shape.depth - 1)} (omega (arith, found.some))
        (subst (λ m. IsTreeNode store (store.shape.depth - (store.shape.depth - 1)) m) place (tree.levels.nodes (store.shape.depth - 1) (length found.leads.front + 1) (omega (arith, found.some)) inside)) in
        let back_n : next_of old.node ≡ n = next_n in
        let yes : found_one ≡ true = steps.some not_zero (subst (λ m. IsTreeNode store 1 m) (sym next_n) node) (subst (λ m. 0 < length (items (store.nodes m))) (sym next_n) some) in
        let first : get_or (entries store.nodes found.leads.back) 0 [] ≡ get_or (items (store.nodes n)) 0 [] =
        ap (λ l. get_or (entries store.nodes l) 0 []) is ∙ get_or_append_left (items (store.nodes n)) (entries store.nodes ns) [] 0 some in
        let at_rank : get_or (entries_of store (store.shape.depth - 1)) (length (entries store.nodes found.leads.front) + at) [] ≡ get_or (items (store.nodes n)) 0 [] =
        ap (λ l. get_or (entries store.nodes l) (length (entries store.nodes found.leads.front) + at) []) found.leads.is
        ∙ ap (λ k. get_or (entries store.nodes (found.leads.front ++ found.leaf ∷ found.leads.back)) k []) {y = length (entries store.nodes found.leads.front) + length (items (store.nodes found.leaf)) + 0} (omega (arith, at_end))
        ∙ behind_node store.nodes found.leads.front found.leaf found.leads.back 0 ∙ first in
        let within : length (entries store.nodes found.leads.front) + at < length (entries_of store (store.shape.depth - 1)) =
        omega (arith, whole, at_end, ap (λ l. length (entries store.nodes l)) is, length-append (items (store.nodes n)) (entries store.nodes ns), some) in
        subst (λ b. FindsNext cmp key store new b) (sym yes) (
          length (entries store.nodes found.leads.front) + at,
          holds new (length (entries store.nodes found.leads.front) + at) (get_or (items (store.nodes n)) 0 []) found.some within at_rank
              (steps.key not_zero yes ∙ ap (λ m. key_of (get_or (items (store.nodes m)) 0 [])) next_n)
              (steps.value not_zero yes ∙ ap (λ m. value_of (get_or (items (store.nodes m)) 0 [])) next_n),
          above (length (entries store.nodes found.leads.front) + at) found.some rank,
        )
      where
        clash : true ≡ false → ⊥
        clash e = cc

        -- a level of more than one node isn't the root's
        deeper : (j : ℕ) → j ≡ store.shape.depth - 1 → length found.leads.front + 1 < length (level_of store (store.shape.depth - 1)) → 1 < store.shape.depth
        deeper zero e inside = absurd (omega (arith, ap (λ i. length (level_of store i)) e, inside))
        deeper (suc j) e inside = omega arith

    over : (found_one : Bool) → StepsOver store old new found_one → (l : List ℕ) → found.leads.back ≡ l → FindsNext cmp key store new found_one
    over found_one steps [] is = last_leaf found_one steps is
    over found_one steps (n ∷ ns) is = leaf_behind found_one steps n ns is

    pub next_over : (found_one : Bool) → StepsOver store old new found_one → FindsNext cmp key store new found_one
    next_over found_one steps = over found_one steps found.leads.back refl
