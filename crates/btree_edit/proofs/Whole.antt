-- The rules of a tree, by its levels from the root and by lists of nodes.
use Rattle.std.proofs.Common.{◌≡◌, ◌≢◌, ◌⊎◌, ℕ, zero, suc, add-one, ◌+◌, ◌-◌, ◌^◌, ◌<◌, ◌≤◌, Bool, true, false, List, [], ◌∷◌, map, length, get_or, inl, inr, refl, sym, ◌∙◌, ap, subst, arith}
use Rattle.std.specs.Prelude.{IsTrue}
use Rattle.std.proofs.lemmas.Bool.{cases_lt, cases_eq}
use Rattle.std.specs.declared.cmp.Ordering.{Ordering}
use Rattle.hx_bytes.specs.Field.{big_at}
use Rattle.btree_node.specs.Levels.{Nodes, entries, leaves, child_of, pair_of, record_for}
use Rattle.btree_node.specs.Store.{Store}
use Rattle.btree_node.specs.Tree.{level_of, pairs_of, HasLevels, IsOrdered, HasHeader, IsReached, IsMapped, IsTree}
use Rattle.btree_edit.specs.LevelEdit.{bit, times}
use Rattle.btree_edit.specs.Climb.{LevelLists, IsLevel, NoneEmpty, count_in_levels, IsTreeBut}
use Rattle.btree_edit.proofs.Counting.{bit_most, bit_true, bit_false, times_at, times_is, times_place, times_twice, times_none, times_once, tally_some, tally_place, tally_twice, tally_one}
use Rattle.btree_edit.proofs.Linking.{linked_from, linked_next, linked_backs}
use Rattle.btree_edit.proofs.Naming.{name_child}

-- a tree is one that hands nothing on
module _ {is_key : List ℕ → Type 0} {cmp : List ℕ → List ℕ → Ordering} (store : Store) (tree : IsTree is_key cmp store) where
  level_is : (j : ℕ) → j < store.shape.depth → IsLevel is_key cmp store (store.shape.depth - j) (level_of store j)
  level_is j low = let levels = tree.levels in let ordered = tree.ordered in record {
    nodes = λ k inside. levels.nodes j k low inside;
    keys = λ k inside. levels.keys j k low inside;
    ascends = ordered.ascends j low;
    linked = linked_from store.nodes 0 (level_of store j) (λ k inside. ordered.next j k low inside) (λ k inside. ordered.back j k low inside);
    short = λ leaf k inside. levels.short j k (omega arith) inside;
  }

  some_of : (j : ℕ) → j < store.shape.depth → 0 < j → NoneEmpty store.nodes (level_of store j)
  some_of j low some =
      let up : j - 1 + 1 ≡ j = omega arith in
      subst (λ i. NoneEmpty store.nodes (level_of store i)) up (λ k inside. tree.levels.some (j - 1) k (omega arith) inside)

  reached : (n j : ℕ) → j < store.shape.depth → 1 ≤ times n (level_of store j) → IsReached store n
  reached n j low some =
      let place = times_place n (level_of store j) some in
      record { below = j; place = place.0; of_tree = low; inside = place.1; is = place.2 }

  once : (n j : ℕ) → j < store.shape.depth → 1 ≤ times n (level_of store j) → count_in_levels (λ i. level_of store i) store.shape.depth n ≡ 1
  once n j low some =
      let mapped = tree.mapped in
      let place = times_place n (level_of store j) some in
      let alone : (i : ℕ) → i < store.shape.depth → i ≢ j → times n (level_of store i) ≡ 0 = λ i below other.
      times_none n (level_of store i) (λ k inside e.
      other (mapped.distinct i k j place.0 below inside low place.1 (e ∙ sym place.2)).0) in
      let one = times_once n (level_of store j) (λ i k first second e. (mapped.distinct j i j k low first low second e).1) in
      omega (arith, tally_one (λ i. level_of store i) store.shape.depth n j low alone, one, some)

  mapped_is : (n : ℕ) → n < store.shape.total → count_in_levels (λ i. level_of store i) store.shape.depth n + bit (store.reserved n) ≡ bit (store.used n)
  mapped_is n inside = elim (cases_lt 0 (count_in_levels (λ i. level_of store i) store.shape.depth n)) [
    | inl some ↦
        let place = tally_place (λ i. level_of store i) store.shape.depth n some in
        let there = reached n place.0 place.1 place.2 in
        omega (
          arith,
          once n place.0 place.1 place.2,
          ap bit (tree.mapped.of_tree n there),
          ap bit ((tree.mapped.used n inside).1 (inl there)),
        )
    | inr none ↦ by_reserved (store.reserved n) refl none
  ]
    where
      by_used : (b : Bool) → store.used n ≡ b → store.reserved n ≡ false → count_in_levels (λ i. level_of store i) store.shape.depth n ≤ 0 → b ≡ false
      by_used true e free none = elim ((tree.mapped.used n inside).0 e) [
        | inl there ↦
            absurd (omega (arith, tally_some (λ i. level_of store i) store.shape.depth n there.below there.of_tree, times_is (level_of store there.below) there.place n there.inside there.is))
        | inr held ↦ cc
      ]
      by_used false e free none = refl

      by_reserved : (b : Bool) → store.reserved n ≡ b → count_in_levels (λ i. level_of store i) store.shape.depth n ≤ 0 → count_in_levels (λ i. level_of store i) store.shape.depth n + bit (store.reserved n) ≡ bit (store.used n)
      by_reserved true e none = omega (arith, ap bit e, ap bit ((tree.mapped.used n inside).1 (inr e)))
      by_reserved false e none = omega (arith, ap bit e, ap bit (by_used (store.used n) refl e none))

  pub but_of_tree : (place : ℕ) (put : List (List ℕ)) → IsTreeBut is_key cmp store store.shape.depth (λ j. level_of store j) store.shape.depth place put
  but_of_tree place put = record {
    each = level_is;
    some = λ j low which. elim which [ inl below ↦ some_of j low below | inr past ↦ absurd (omega arith) ];
    named = λ j low other. tree.levels.named j low;
    wanted = λ j low is. absurd (omega arith);
    mapped = mapped_is;
    header = tree.mapped.header;
    free = tree.mapped.free;
  }

child_names : (nodes : Nodes) (ns : List ℕ) → ((k : ℕ) → k < length ns → child_of (record_for nodes (get_or ns k 0)) ≡ get_or ns k 0) → map child_of (map (λ n. record_for nodes n) ns) ≡ ns
child_names nodes [] each = refl
child_names nodes (n ∷ ns) each =
    ap (λ m. m ∷ map child_of (map (λ i. record_for nodes i) ns)) (each 0 (omega arith)) ∙ ap (λ l. n ∷ l) (child_names nodes ns (λ k inside. each (suc k) (omega arith)))

-- levels that hand nothing on are those of a tree
module _ {is_key : List ℕ → Type 0} {cmp : List ℕ → List ℕ → Ordering} (key_length : (a : List ℕ) → is_key a → length a ≡ big_at 2 a 0 + 2)
    (store : Store) (levels : LevelLists) (from place : ℕ) (put : List (List ℕ))
    (but : IsTreeBut is_key cmp store store.shape.depth levels from place put) (nothing : (j : ℕ) → j + 1 < store.shape.depth → j + 1 ≢ from)
    (small : store.shape.total ≤ 2 ^ 32) (top : 0 < store.shape.depth → levels 0 ≡ store.shape.root ∷ [])
  where
    pub same_level : (j : ℕ) → j < store.shape.depth → level_of store j ≡ levels j
    same_level zero low = sym (top low)
    same_level (suc j) low =
        let above : j + 1 < store.shape.depth = omega arith in
        let next : level_of store (suc j) ≡ map child_of (entries store.nodes (levels j)) = ap (λ l. map child_of (entries store.nodes l)) (same_level j (omega arith)) in
        let here = but.each (suc j) low in
        next ∙ ap (λ l. map child_of l) (but.named j above (nothing j above))
        ∙ ap (λ i. map child_of (map (λ n. record_for store.nodes n) (levels i))) (add-one j)
        ∙ child_names store.nodes (levels (suc j))
        (λ k inside. name_child is_key cmp key_length store.nodes (levels (suc j)) (but.some (suc j) low (inl (omega arith))) here.keys k inside
        (omega (arith, (here.nodes k inside).inside)))

    at_level : (P : List ℕ → Type 0) (j : ℕ) → j < store.shape.depth → P (levels j) → P (level_of store j)
    at_level P j low h = subst P (sym (same_level j low)) h

    is_level : (j : ℕ) → j < store.shape.depth → IsLevel is_key cmp store (store.shape.depth - j) (level_of store j)
    is_level j low = at_level (λ l. IsLevel is_key cmp store (store.shape.depth - j) l) j low (but.each j low)

    has_levels : HasLevels is_key store
    has_levels = record {
      nodes = λ j k low inside. (is_level j low).nodes k inside;
      named = λ j low. at_level (λ l. entries store.nodes l ≡ map (λ n. record_for store.nodes n) (level_of store (j + 1))) j (omega arith)
          (at_level (λ l. entries store.nodes (levels j) ≡ map (λ n. record_for store.nodes n) l) (j + 1) low (but.named j low (nothing j low)));
      some = λ j k low inside. at_level (λ l. NoneEmpty store.nodes l) (j + 1) low (but.some (j + 1) low (inl (omega arith))) k inside;
      keys = λ j k low inside. (is_level j low).keys k inside;
      short = λ j k leaf inside. (is_level j (omega arith)).short (omega arith) k inside;
    }

    is_ordered : IsOrdered cmp store
    is_ordered = record {
      ascends = λ j low. (is_level j low).ascends;
      next = λ j k low inside. linked_next store.nodes 0 (level_of store j) (is_level j low).linked k inside;
      back = λ j k low inside. linked_backs store.nodes 0 (level_of store j) (is_level j low).linked k inside;
    }

    some_there : (n : ℕ) → IsReached store n → (n < store.shape.total) × (1 ≤ count_in_levels levels store.shape.depth n)
    some_there n there =
        let inside = (is_level there.below there.of_tree).nodes there.place there.inside in
        let here = times_is (level_of store there.below) there.place n there.inside there.is in (
          omega (arith, inside.inside, there.is),
          omega (
            arith,
            tally_some levels store.shape.depth n there.below there.of_tree,
            ap (λ (l : List ℕ). times n l) (same_level there.below there.of_tree),
            here,
          ),
        )

    used_is : (n : ℕ) → n < store.shape.total → store.used n ≡ true → IsReached store n ⊎ IsTrue (store.reserved n)
    used_is n inside used = elim (cases_lt 0 (count_in_levels levels store.shape.depth n)) [
      | inl some ↦
          let found = tally_place levels store.shape.depth n some in
          let here = times_place n (level_of store found.0) (subst (λ l. 1 ≤ times n l) (sym (same_level found.0 found.1)) found.2) in
          inl (record { below = found.0; place = here.0; of_tree = found.1; inside = here.1; is = here.2 })
      | inr none ↦ inr (bit_true (store.reserved n) (omega (arith, but.mapped n inside, ap bit used)))
    ]

    is_used : (n : ℕ) → n < store.shape.total → IsReached store n ⊎ IsTrue (store.reserved n) → store.used n ≡ true
    is_used n inside which = bit_true (store.used n) (elim which [
      | inl there ↦ omega (arith, but.mapped n inside, some_there n there)
      | inr held ↦ omega (arith, but.mapped n inside, ap bit held)
    ])

    not_held : (n : ℕ) → IsReached store n → store.reserved n ≡ false
    not_held n there =
        let some = some_there n there in
        bit_false (store.reserved n) (omega (arith, but.mapped n some.0, bit_most (store.used n), some.1))

    distinct : (j k i m : ℕ) → j < store.shape.depth → k < length (level_of store j) → i < store.shape.depth → m < length (level_of store i)
        → get_or (level_of store j) k 0 ≡ get_or (level_of store i) m 0 → (j ≡ i) × (k ≡ m)
    distinct j k i m low inside low2 inside2 same =
        let n : ℕ = get_or (level_of store j) k 0 in
        let first : 1 ≤ times (get_or (level_of store j) k 0) (levels j) = subst (λ l. 1 ≤ times (get_or (level_of store j) k 0) l) (same_level j low) (times_at (level_of store j) k inside) in
        let second : 1 ≤ times (get_or (level_of store j) k 0) (levels i) =
        subst (λ l. 1 ≤ times (get_or (level_of store j) k 0) l) (same_level i low2) (times_is (level_of store i) m (get_or (level_of store j) k 0) inside2 (sym same)) in
        let one : count_in_levels levels store.shape.depth (get_or (level_of store j) k 0) ≤ 1 = omega (arith, but.mapped (get_or (level_of store j) k 0) ((is_level j low).nodes k inside).inside, bit_most (store.used (get_or (level_of store j) k 0))) in
        at (get_or (level_of store j) k 0) first second one
      where
        at : (n : ℕ) → 1 ≤ times n (levels j) → 1 ≤ times n (levels i) → count_in_levels levels store.shape.depth n ≤ 1 → (j ≡ i) × (k ≡ m)
        at n first second one = elim (cases_eq j i) [
          | inl is ↦ (is, place_of is)
          | inr other ↦ elim (cases_lt j i) [
            | inl less ↦ absurd (omega (arith, tally_twice levels store.shape.depth n j i less low2 first second))
            | inr more ↦ absurd (omega (arith, tally_twice levels store.shape.depth n i j (omega arith) low second first))
          ]
        ]
          where
            place_of : j ≡ i → k ≡ m
            place_of is = elim (cases_eq k m) [
              | inl e ↦ e
              | inr apart ↦
                  let here : get_or (level_of store j) m 0 ≡ get_or (level_of store j) k 0 = ap (λ p. get_or (level_of store p) m 0) is ∙ sym same in
                  let within : m < length (level_of store j) = omega (arith, ap (λ p. length (level_of store p)) is) in
                  let most : times (get_or (level_of store j) k 0) (level_of store j) ≤ 1 =
                  omega (
                    arith,
                    ap (λ (l : List ℕ). times (get_or (level_of store j) k 0) l) (same_level j low),
                    tally_some levels store.shape.depth (get_or (level_of store j) k 0) j low,
                    but.mapped (get_or (level_of store j) k 0) ((is_level j low).nodes k inside).inside,
                    bit_most (store.used (get_or (level_of store j) k 0)),
                  ) in
                  elim (cases_lt k m) [
                    | inl less ↦ absurd (omega (arith, times_twice (get_or (level_of store j) k 0) (level_of store j) k m less within refl here))
                    | inr more ↦ absurd (omega (arith, times_twice (get_or (level_of store j) k 0) (level_of store j) m k (omega arith) inside here refl))
                  ]
            ]

    is_mapped : IsMapped store
    is_mapped = record {
      used = λ n inside. (used_is n inside, is_used n inside);
      of_tree = not_held;
      header = but.header;
      distinct = distinct;
      free = but.free;
    }

    pub tree_of : HasHeader store → IsTree is_key cmp store
    tree_of header = record { levels = has_levels; ordered = is_ordered; header = header; mapped = is_mapped }

    pub pairs_then : 0 < store.shape.depth → pairs_of store ≡ map pair_of (entries store.nodes (levels (store.shape.depth - 1)))
    pairs_then some =
        ap (λ d. leaves store.nodes store.shape.root d) {x = store.shape.depth} {y = suc (store.shape.depth - 1)} (omega arith)
        ∙ ap (λ l. map pair_of (entries store.nodes l)) (same_level (store.shape.depth - 1) (omega arith))
