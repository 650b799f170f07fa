-- From the edit of a leaf to the sorted list of pairs.
use Rattle.std.proofs.Common.{◌≡◌, ◌⊎◌, ℕ, ◌+◌, ◌-◌, ◌*◌, ◌/◌, ◌^◌, ◌<◌, ◌≤◌, true, false, List, [], ◌∷◌, ◌++◌, map, length, take, get_or, inl, inr, refl, sym, ◌∙◌, ap, subst, arith}
use Rattle.std.proofs.Math.Path.{fun_ext}
use Rattle.std.proofs.lemmas.Bool.{cases_lt}
use Rattle.std.proofs.lemmas.List.{take_at}
use Rattle.std.specs.Cmp.{IsTotalOrder}
use Rattle.std.specs.Ordering.{ordering_reverse}
use Rattle.std.specs.declared.cmp.Ordering.{Ordering}
use Rattle.std.specs.declared.cmp.Ordering.TheVariants.{Less, Equal, Greater}
use Rattle.hx_bytes.specs.Field.{big_at}
use Rattle.btree_node.specs.Node.{items}
use Rattle.btree_node.specs.Levels.{Pair, entries, key_of, value_of, pair_of, splice, Ascends, IsRank}
use Rattle.btree_node.specs.Store.{Store}
use Rattle.btree_node.specs.Tree.{level_of, entries_of, pairs_of, IsTree}
use Rattle.btree_edit.specs.Desk.{HasKey}
use Rattle.btree_edit.specs.LevelEdit.{node_room}
use Rattle.btree_edit.specs.Way.{stop_at, way_place, LeadsWay}
use Rattle.btree_edit.specs.Rising.{leaf_start, leaves_edited, AreOfOneLength, CanClimb}
use Rattle.btree_edit.specs.Sorted.{AddsPair, DropsPair, ChangesPair, HoldsKeyOf}
use Rattle.btree_edit.specs.declared.desk.PathStep.{PathStep}
use Rattle.btree_edit.proofs.Pairs.{key_of_joined, value_of_joined}
use Rattle.btree_edit.proofs.Descent.{of_level, leads_absent, pairs_are, pair_at, pairs_long}
use Rattle.btree_edit.proofs.Splices.{length-splice, map-splice, ascends_spliced}

-- a way in a store that was read
pub way_read : (cmp : List ℕ → List ℕ → Ordering) (key : List ℕ) (a b : Store) (path : List PathStep) → b.shape ≡ a.shape → ((n : ℕ) → b.nodes n ≡ a.nodes n) → LeadsWay cmp key a path → LeadsWay cmp key b path
way_read cmp key a b path shape nodes way =
    let all : a.nodes ≡ b.nodes = fun_ext (λ n. sym (nodes n)) in
    let moved : LeadsWay cmp key (record a { nodes = b.nodes; shape = b.shape }) path =
    subst (λ h. LeadsWay cmp key (record a { nodes = b.nodes; shape = h }) path) (sym shape) (subst (λ f. LeadsWay cmp key (record a { nodes = f }) path) all way) in
    record {
      some = moved.some;
      way = record { inside = moved.way.inside; node = moved.way.node; below = moved.way.below };
      leads = record { front = moved.leads.front; back = moved.leads.back; is = moved.leads.is; rank = moved.leads.rank; first = moved.leads.first };
      front = moved.front;
      place = moved.place;
    }

module _ (is_key : List ℕ → Type 0) (cmp : List ℕ → List ℕ → Ordering) (total : IsTotalOrder cmp)
    (key_length : (x : List ℕ) → is_key x → length x ≡ big_at 2 x 0 + 2) (max : ℕ)
    (s : Store) (tree : IsTree is_key cmp s) (small : s.shape.total ≤ 2 ^ 32) (wide : 3 * (max + 8) ≤ node_room s.shape.node_size)
    (key : List ℕ) (path : List PathStep) (way : LeadsWay cmp key s path)
  where
    low : ℕ
    low = s.shape.depth - 1

    leaf : ℕ
    leaf = (stop_at path (s.shape.depth - 1)).node

    at : ℕ
    at = (stop_at path (s.shape.depth - 1)).at

    front_is : way.leads.front ≡ take (way_place s path (s.shape.depth - 1)) (level_of s (s.shape.depth - 1))
    front_is =
        sym (take_at way.leads.front ((stop_at path (s.shape.depth - 1)).node ∷ way.leads.back) (way_place s path (s.shape.depth - 1)) way.front)
        ∙ ap (λ l. take (way_place s path (s.shape.depth - 1)) l) (sym way.leads.is)

    start_is : length (entries s.nodes way.leads.front) ≡ leaf_start s path
    start_is = ap (λ l. length (entries s.nodes l)) front_is

    rank : IsRank cmp key (entries_of s (s.shape.depth - 1)) (leaf_start s path + (stop_at path (s.shape.depth - 1)).at)
    rank = subst (λ n. IsRank cmp key (entries_of s (s.shape.depth - 1)) (n + (stop_at path (s.shape.depth - 1)).at)) start_is (way.leads.rank (stop_at path (s.shape.depth - 1)).at way.place)

    ascends : Ascends cmp (entries_of s (s.shape.depth - 1))
    ascends = tree.ordered.ascends (s.shape.depth - 1) (omega (arith, way.some))

    pairs_is : pairs_of s ≡ map pair_of (entries_of s (s.shape.depth - 1))
    pairs_is = pairs_are is_key cmp total key_length s tree.levels tree.ordered way.some

    pair_is : (k : ℕ) → k < length (entries_of s (s.shape.depth - 1)) → get_or (pairs_of s) k ([], []) ≡ pair_of (get_or (entries_of s (s.shape.depth - 1)) k [])
    pair_is k inside = pair_at is_key cmp total key_length s tree.levels tree.ordered way.some k inside

    long_is : length (pairs_of s) ≡ length (entries_of s (s.shape.depth - 1))
    long_is = pairs_long is_key cmp total key_length s tree.levels tree.ordered way.some

    -- a key that no pair has goes between those that are less and those that are greater
    module _ (absent : HasKey cmp key (pairs_of s) → ⊥) where
      less_before : (k : ℕ) → k < leaf_start s path + (stop_at path (s.shape.depth - 1)).at → cmp (key_of (get_or (entries_of s (s.shape.depth - 1)) k [])) key ≡ Less
      less_before k before = by (cmp (key_of (get_or (entries_of s (s.shape.depth - 1)) k [])) key) refl
        where
          inside : k < length (entries_of s (s.shape.depth - 1))
          inside = omega (arith, rank.within)

          by : (o : Ordering) → cmp (key_of (get_or (entries_of s (s.shape.depth - 1)) k [])) key ≡ o → o ≡ Less
          by Less e = refl
          by Equal e = absurd (absent (k, omega (arith, long_is, inside), ap (λ (p : Pair). cmp p.0 key) (pair_is k inside) ∙ e))
          by Greater e = absurd (rank.before k before e)

      module _ (is_a_key : is_key key) (value : List ℕ) (short : length (key ++ value) ≤ s.shape.node_size / 2 - 10) where
        key_is : key_of (key ++ value) ≡ key
        key_is = key_of_joined key (key_length key is_a_key) value

        pub can_insert : (spare : ℕ) → s.shape.depth + 1 ≤ spare → CanClimb is_key cmp max s path (stop_at path (s.shape.depth - 1)).at false ((key ++ value) ∷ []) spare
        can_insert spare many = record {
          tree = tree;
          small = small;
          some = way.some;
          way = way.way;
          inside = omega (arith, way.place.within);
          one = omega arith;
          keys = λ k inside. subst (λ i. is_key (key_of (get_or ((key ++ value) ∷ []) i []))) {x = 0} (omega arith) (subst is_key (sym key_is) is_a_key);
          short = λ k inside. subst (λ i. length (get_or ((key ++ value) ∷ []) i []) ≤ s.shape.node_size / 2 - 10) {x = 0} (omega arith) short;
          ascends = ascends_spliced cmp (entries_of s (s.shape.depth - 1)) ((key ++ value) ∷ []) (leaf_start s path + (stop_at path (s.shape.depth - 1)).at) (leaf_start s path + ((stop_at path (s.shape.depth - 1)).at + 0))
              (omega arith) (omega (arith, rank.within)) ascends (λ i j less inside. absurd (omega arith))
              (λ k m before inside. ap (λ i. cmp (key_of (get_or (entries_of s (s.shape.depth - 1)) k [])) (key_of (get_or ((key ++ value) ∷ []) i []))) {y = 0} (omega arith)
              ∙ ap (λ l. cmp (key_of (get_or (entries_of s (s.shape.depth - 1)) k [])) l) key_is ∙ less_before k before)
              (λ k m inside from to. ap (λ i. cmp (key_of (get_or ((key ++ value) ∷ []) i [])) (key_of (get_or (entries_of s (s.shape.depth - 1)) k []))) {y = 0} (omega arith)
              ∙ ap (λ l. cmp l (key_of (get_or (entries_of s (s.shape.depth - 1)) k []))) key_is
              ∙ total.antisymm key (key_of (get_or (entries_of s (s.shape.depth - 1)) k [])) ∙ ap ordering_reverse (rank.behind k (omega arith) to));
          wide = wide;
          enough = inl many;
        }

        pub adds : (new : List Pair) → new ≡ map pair_of (leaves_edited s path (stop_at path (s.shape.depth - 1)).at false ((key ++ value) ∷ [])) → AddsPair cmp key value (pairs_of s) new
        adds new is = record {
          place = leaf_start s path + (stop_at path (s.shape.depth - 1)).at;
          inside = omega (arith, rank.within, long_is);
          before = λ k before. ap (λ (p : Pair). cmp p.0 key) (pair_is k (omega (arith, rank.within))) ∙ less_before k before;
          behind = λ k from to. ap (λ (p : Pair). cmp p.0 key) (pair_is k (omega (arith, long_is))) ∙ rank.behind k from (omega (arith, long_is));
          is = is
              ∙ map-splice pair_of (entries_of s (s.shape.depth - 1)) (leaf_start s path + (stop_at path (s.shape.depth - 1)).at) (leaf_start s path + ((stop_at path (s.shape.depth - 1)).at + 0)) ((key ++ value) ∷ [])
              ∙ ap (λ n. splice (map pair_of (entries_of s (s.shape.depth - 1))) (leaf_start s path + (stop_at path (s.shape.depth - 1)).at) n (pair_of (key ++ value) ∷ [])) {y = leaf_start s path + (stop_at path (s.shape.depth - 1)).at} (omega arith)
              ∙ ap (λ l. splice l (leaf_start s path + (stop_at path (s.shape.depth - 1)).at) (leaf_start s path + (stop_at path (s.shape.depth - 1)).at) (pair_of (key ++ value) ∷ [])) (sym pairs_is)
              ∙ ap (λ (p : Pair). splice (pairs_of s) (leaf_start s path + (stop_at path (s.shape.depth - 1)).at) (leaf_start s path + (stop_at path (s.shape.depth - 1)).at) (p ∷ []))
              (ap (λ (l : List ℕ). (l, value_of (key ++ value))) key_is ∙ ap (λ (l : List ℕ). (key, l)) (value_of_joined key (key_length key is_a_key) value));
        }

        pub count_added : length (leaves_edited s path (stop_at path (s.shape.depth - 1)).at false ((key ++ value) ∷ [])) ≡ s.shape.leaf_records + 1
        count_added = omega (
          arith,
          length-splice (entries_of s (s.shape.depth - 1)) ((key ++ value) ∷ []) (leaf_start s path + (stop_at path (s.shape.depth - 1)).at) (leaf_start s path + ((stop_at path (s.shape.depth - 1)).at + 0)) (omega arith) (omega (arith, rank.within)) [],
          tree.header.leaf_records,
          long_is,
        )

    -- a key that a pair has stands right before its place
    module _ (has : HasKey cmp key (pairs_of s)) where
      found : (0 < (stop_at path (s.shape.depth - 1)).at) × (cmp (key_of (get_or (items (s.nodes (stop_at path (s.shape.depth - 1)).node)) ((stop_at path (s.shape.depth - 1)).at - 1) [])) key ≡ Equal)
      found = elim (cases_lt 0 (stop_at path (s.shape.depth - 1)).at) [
        | inl some ↦ (some, by (cmp (key_of (get_or (items (s.nodes (stop_at path (s.shape.depth - 1)).node)) ((stop_at path (s.shape.depth - 1)).at - 1) [])) key) refl)
        | inr none ↦
            absurd (leads_absent is_key cmp total key_length s tree.levels tree.ordered key (stop_at path (s.shape.depth - 1)).node way.some way.leads (stop_at path (s.shape.depth - 1)).at way.place (λ some. absurd (omega arith)) has)
      ]
        where
          by : (o : Ordering) → cmp (key_of (get_or (items (s.nodes (stop_at path (s.shape.depth - 1)).node)) ((stop_at path (s.shape.depth - 1)).at - 1) [])) key ≡ o → o ≡ Equal
          by Less e =
              absurd (leads_absent is_key cmp total key_length s tree.levels tree.ordered key (stop_at path (s.shape.depth - 1)).node way.some way.leads (stop_at path (s.shape.depth - 1)).at way.place (λ some same. let clash : Less ≡ Equal = sym e ∙ same in cc) has)
          by Equal e = refl
          by Greater e =
              absurd (leads_absent is_key cmp total key_length s tree.levels tree.ordered key (stop_at path (s.shape.depth - 1)).node way.some way.leads (stop_at path (s.shape.depth - 1)).at way.place (λ some same. let clash : Greater ≡ Equal = sym e ∙ same in cc) has)

      pub found_some : 0 < (stop_at path (s.shape.depth - 1)).at
      found_some = found.0

      pub found_equal : cmp (key_of (get_or (items (s.nodes (stop_at path (s.shape.depth - 1)).node)) ((stop_at path (s.shape.depth - 1)).at - 1) [])) key ≡ Equal
      found_equal = found.1

      place : ℕ
      place = leaf_start s path + ((stop_at path (s.shape.depth - 1)).at - 1)

      pub found_inside : (stop_at path (s.shape.depth - 1)).at - 1 < length (items (s.nodes (stop_at path (s.shape.depth - 1)).node))
      found_inside = omega (arith, way.place.within, found.0)

      place_low : leaf_start s path + ((stop_at path (s.shape.depth - 1)).at - 1) < length (entries_of s (s.shape.depth - 1))
      place_low = omega (arith, rank.within, found.0)

      record_is : get_or (entries_of s (s.shape.depth - 1)) (leaf_start s path + ((stop_at path (s.shape.depth - 1)).at - 1)) [] ≡ get_or (items (s.nodes (stop_at path (s.shape.depth - 1)).node)) ((stop_at path (s.shape.depth - 1)).at - 1) []
      record_is =
          ap (λ n. get_or (entries_of s (s.shape.depth - 1)) (n + ((stop_at path (s.shape.depth - 1)).at - 1)) []) (sym start_is)
          ∙ of_level is_key cmp total key_length s tree.levels tree.ordered key (s.shape.depth - 1) (stop_at path (s.shape.depth - 1)).node way.leads ((stop_at path (s.shape.depth - 1)).at - 1) found_inside

      pub pair_found : get_or (pairs_of s) (leaf_start s path + ((stop_at path (s.shape.depth - 1)).at - 1)) ([], []) ≡ pair_of (get_or (items (s.nodes (stop_at path (s.shape.depth - 1)).node)) ((stop_at path (s.shape.depth - 1)).at - 1) [])
      pair_found = pair_is (leaf_start s path + ((stop_at path (s.shape.depth - 1)).at - 1)) place_low ∙ ap pair_of record_is

      pub pair_inside : leaf_start s path + ((stop_at path (s.shape.depth - 1)).at - 1) < length (pairs_of s)
      pair_inside = omega (arith, place_low, long_is)

      pub equal_is : cmp (get_or (pairs_of s) (leaf_start s path + ((stop_at path (s.shape.depth - 1)).at - 1)) ([], [])).0 key ≡ Equal
      equal_is = ap (λ (p : Pair). cmp p.0 key) pair_found ∙ found.1

      end_is : leaf_start s path + ((stop_at path (s.shape.depth - 1)).at - 1 + 1) ≡ leaf_start s path + ((stop_at path (s.shape.depth - 1)).at - 1) + 1
      end_is = omega arith

      edited_pairs : (put : List (List ℕ)) → map pair_of (leaves_edited s path ((stop_at path (s.shape.depth - 1)).at - 1) true put)
          ≡ splice (pairs_of s) (leaf_start s path + ((stop_at path (s.shape.depth - 1)).at - 1)) (leaf_start s path + ((stop_at path (s.shape.depth - 1)).at - 1) + 1) (map pair_of put)
      edited_pairs put =
          map-splice pair_of (entries_of s (s.shape.depth - 1)) (leaf_start s path + ((stop_at path (s.shape.depth - 1)).at - 1)) (leaf_start s path + ((stop_at path (s.shape.depth - 1)).at - 1 + 1)) put
          ∙ ap (λ n. splice (map pair_of (entries_of s (s.shape.depth - 1))) (leaf_start s path + ((stop_at path (s.shape.depth - 1)).at - 1)) n (map pair_of put)) end_is
          ∙ ap (λ l. splice l (leaf_start s path + ((stop_at path (s.shape.depth - 1)).at - 1)) (leaf_start s path + ((stop_at path (s.shape.depth - 1)).at - 1) + 1) (map pair_of put)) (sym pairs_is)

      pub drops : (new : List Pair) → new ≡ map pair_of (leaves_edited s path ((stop_at path (s.shape.depth - 1)).at - 1) true []) → DropsPair cmp key (pairs_of s) new
      drops new is = record {
        place = leaf_start s path + ((stop_at path (s.shape.depth - 1)).at - 1);
        inside = omega (arith, place_low, long_is);
        equal = equal_is;
        is = is ∙ edited_pairs [];
      }

      high : leaf_start s path + ((stop_at path (s.shape.depth - 1)).at - 1 + 1) ≤ length (entries_of s (s.shape.depth - 1))
      high = omega (arith, place_low)

      pub can_remove : (spare : ℕ) → s.shape.depth + 1 ≤ spare ⊎ AreOfOneLength is_key → CanClimb is_key cmp max s path ((stop_at path (s.shape.depth - 1)).at - 1) true [] spare
      can_remove spare many = record {
        tree = tree;
        small = small;
        some = way.some;
        way = way.way;
        inside = omega (arith, found_inside);
        one = omega arith;
        keys = λ k inside. absurd (omega arith);
        short = λ k inside. absurd (omega arith);
        ascends = ascends_spliced cmp (entries_of s (s.shape.depth - 1)) [] (leaf_start s path + ((stop_at path (s.shape.depth - 1)).at - 1)) (leaf_start s path + ((stop_at path (s.shape.depth - 1)).at - 1 + 1))
            (omega arith) high ascends (λ i j less inside. absurd (omega arith)) (λ k m before inside. absurd (omega arith)) (λ k m inside. absurd (omega arith));
        wide = wide;
        enough = elim many [ inl enough ↦ inl enough | inr one ↦ inr (refl, one) ];
      }

      pub count_dropped : length (leaves_edited s path ((stop_at path (s.shape.depth - 1)).at - 1) true []) + 1 ≡ s.shape.leaf_records
      count_dropped = omega (
        arith,
        length-splice (entries_of s (s.shape.depth - 1)) [] (leaf_start s path + ((stop_at path (s.shape.depth - 1)).at - 1)) (leaf_start s path + ((stop_at path (s.shape.depth - 1)).at - 1 + 1)) (omega arith) high [],
        tree.header.leaf_records,
        long_is,
        high,
      )

      -- a pair with the key is the one that was found
      same_place : (k r : ℕ) → k < length (entries_of s (s.shape.depth - 1)) → r < length (entries_of s (s.shape.depth - 1))
          → cmp (key_of (get_or (entries_of s (s.shape.depth - 1)) k [])) key ≡ Equal → cmp (key_of (get_or (entries_of s (s.shape.depth - 1)) r [])) key ≡ Equal → k < r → ⊥
      same_place k r first second equal_k equal_r less =
          let both : cmp (key_of (get_or (entries_of s (s.shape.depth - 1)) k [])) (key_of (get_or (entries_of s (s.shape.depth - 1)) r [])) ≡ cmp key (key_of (get_or (entries_of s (s.shape.depth - 1)) r [])) =
          total.congr (key_of (get_or (entries_of s (s.shape.depth - 1)) k [])) key (key_of (get_or (entries_of s (s.shape.depth - 1)) r [])) equal_k in
          let turned : cmp key (key_of (get_or (entries_of s (s.shape.depth - 1)) r [])) ≡ Equal = total.antisymm key (key_of (get_or (entries_of s (s.shape.depth - 1)) r [])) ∙ ap ordering_reverse equal_r in
          let lesser : cmp (key_of (get_or (entries_of s (s.shape.depth - 1)) k [])) (key_of (get_or (entries_of s (s.shape.depth - 1)) r [])) ≡ Less = ascends k r less second in
          let clash : Less ≡ Equal = sym lesser ∙ both ∙ turned in cc

      pub own_key_is : (own : List ℕ) → HoldsKeyOf cmp key s own → own ≡ key_of (get_or (items (s.nodes (stop_at path (s.shape.depth - 1)).node)) ((stop_at path (s.shape.depth - 1)).at - 1) [])
      own_key_is own (k, inside, equal, is) =
          let low_k : k < length (entries_of s (s.shape.depth - 1)) = omega (arith, inside, long_is) in
          let equal_k : cmp (key_of (get_or (entries_of s (s.shape.depth - 1)) k [])) key ≡ Equal = ap (λ (p : Pair). cmp p.0 key) (sym (pair_is k low_k)) ∙ equal in
          let equal_r : cmp (key_of (get_or (entries_of s (s.shape.depth - 1)) (leaf_start s path + ((stop_at path (s.shape.depth - 1)).at - 1)) [])) key ≡ Equal = ap (λ l. cmp (key_of l) key) record_is ∙ found.1 in
          let here : k ≡ leaf_start s path + ((stop_at path (s.shape.depth - 1)).at - 1) = elim (cases_lt k (leaf_start s path + ((stop_at path (s.shape.depth - 1)).at - 1))) [
            | inl less ↦ absurd (same_place k (leaf_start s path + ((stop_at path (s.shape.depth - 1)).at - 1)) low_k place_low equal_k equal_r less)
            | inr not_less ↦ elim (cases_lt (leaf_start s path + ((stop_at path (s.shape.depth - 1)).at - 1)) k) [
              | inl more ↦ absurd (same_place (leaf_start s path + ((stop_at path (s.shape.depth - 1)).at - 1)) k place_low low_k equal_r equal_k more)
              | inr not_more ↦ omega arith
            ]
          ] in
          is ∙ ap (λ i. (get_or (pairs_of s) i ([], [])).0) here ∙ ap (λ (p : Pair). p.0) pair_found

      -- the key's own record with another value
      module _ (own value : List ℕ) (own_is : own ≡ key_of (get_or (items (s.nodes (stop_at path (s.shape.depth - 1)).node)) ((stop_at path (s.shape.depth - 1)).at - 1) [])) (short : length (own ++ value) ≤ s.shape.node_size / 2 - 10) where
        own_key : own ≡ key_of (get_or (entries_of s (s.shape.depth - 1)) (leaf_start s path + ((stop_at path (s.shape.depth - 1)).at - 1)) [])
        own_key = own_is ∙ ap key_of (sym record_is)

        own_valid : is_key own
        own_valid = subst is_key (sym own_key) (tree.levels.keys (s.shape.depth - 1) (leaf_start s path + ((stop_at path (s.shape.depth - 1)).at - 1)) (omega (arith, way.some)) place_low)

        joined_is : key_of (own ++ value) ≡ own
        joined_is = key_of_joined own (key_length own own_valid) value

        pub changed_pair : pair_of (own ++ value) ≡ (own, value)
        changed_pair = ap (λ (l : List ℕ). (l, value_of (own ++ value))) joined_is ∙ ap (λ (l : List ℕ). (own, l)) (value_of_joined own (key_length own own_valid) value)

        pub can_change : (spare : ℕ) → s.shape.depth + 1 ≤ spare → CanClimb is_key cmp max s path ((stop_at path (s.shape.depth - 1)).at - 1) true ((own ++ value) ∷ []) spare
        can_change spare many = record {
          tree = tree;
          small = small;
          some = way.some;
          way = way.way;
          inside = omega (arith, found_inside);
          one = omega arith;
          keys = λ k inside. subst (λ i. is_key (key_of (get_or ((own ++ value) ∷ []) i []))) {x = 0} (omega arith) (subst is_key (sym joined_is) own_valid);
          short = λ k inside. subst (λ i. length (get_or ((own ++ value) ∷ []) i []) ≤ s.shape.node_size / 2 - 10) {x = 0} (omega arith) short;
          ascends = ascends_spliced cmp (entries_of s (s.shape.depth - 1)) ((own ++ value) ∷ []) (leaf_start s path + ((stop_at path (s.shape.depth - 1)).at - 1)) (leaf_start s path + ((stop_at path (s.shape.depth - 1)).at - 1 + 1))
              (omega arith) high ascends (λ i j less inside. absurd (omega arith))
              (λ k m before inside. ap (λ i. cmp (key_of (get_or (entries_of s (s.shape.depth - 1)) k [])) (key_of (get_or ((own ++ value) ∷ []) i []))) {y = 0} (omega arith)
              ∙ ap (λ l. cmp (key_of (get_or (entries_of s (s.shape.depth - 1)) k [])) l) (joined_is ∙ own_key)
              ∙ ascends k (leaf_start s path + ((stop_at path (s.shape.depth - 1)).at - 1)) before place_low)
              (λ k m inside from to. ap (λ i. cmp (key_of (get_or ((own ++ value) ∷ []) i [])) (key_of (get_or (entries_of s (s.shape.depth - 1)) k []))) {y = 0} (omega arith)
              ∙ ap (λ l. cmp l (key_of (get_or (entries_of s (s.shape.depth - 1)) k []))) (joined_is ∙ own_key)
              ∙ ascends (leaf_start s path + ((stop_at path (s.shape.depth - 1)).at - 1)) k (omega arith) to);
          wide = wide;
          enough = inl many;
        }

        pub changes : (new : List Pair) → new ≡ map pair_of (leaves_edited s path ((stop_at path (s.shape.depth - 1)).at - 1) true ((own ++ value) ∷ [])) → ChangesPair cmp key value (pairs_of s) new
        changes new is = record {
          place = leaf_start s path + ((stop_at path (s.shape.depth - 1)).at - 1);
          inside = omega (arith, place_low, long_is);
          equal = equal_is;
          is = is ∙ edited_pairs ((own ++ value) ∷ [])
              ∙ ap (λ (p : Pair). splice (pairs_of s) (leaf_start s path + ((stop_at path (s.shape.depth - 1)).at - 1)) (leaf_start s path + ((stop_at path (s.shape.depth - 1)).at - 1) + 1) (p ∷ []))
              (changed_pair ∙ ap (λ (l : List ℕ). (l, value)) (own_is ∙ sym (ap (λ (p : Pair). p.0) pair_found)));
        }

        pub count_changed : length (leaves_edited s path ((stop_at path (s.shape.depth - 1)).at - 1) true ((own ++ value) ∷ [])) ≡ s.shape.leaf_records
        count_changed = omega (
          arith,
          length-splice (entries_of s (s.shape.depth - 1)) ((own ++ value) ∷ []) (leaf_start s path + ((stop_at path (s.shape.depth - 1)).at - 1)) (leaf_start s path + ((stop_at path (s.shape.depth - 1)).at - 1 + 1)) (omega arith) high [],
          tree.header.leaf_records,
          long_is,
          high,
        )

-- the first pair of all
pub first_pair : (is_key : List ℕ → Type 0) (cmp : List ℕ → List ℕ → Ordering) → ((x : List ℕ) → is_key x → length x ≡ big_at 2 x 0 + 2) → (key own value : List ℕ) → is_key own → own ≡ key
    → (old new : List Pair) → old ≡ [] → new ≡ map pair_of ((own ++ value) ∷ []) → AddsPair cmp key value old new
first_pair is_key cmp key_length key own value is_own same old new none is = record {
  place = 0;
  inside = omega arith;
  before = λ k before. absurd (omega arith);
  behind = λ k from to. absurd (omega (arith, ap length none));
  is = is
      ∙ ap (λ (p : Pair). p ∷ []) (ap (λ (l : List ℕ). (l, value_of (own ++ value))) (key_of_joined own (key_length own is_own) value ∙ same) ∙ ap (λ (l : List ℕ). (key, l)) (value_of_joined own (key_length own is_own) value))
      ∙ sym (ap (λ (l : List Pair). splice l 0 0 ((key, value) ∷ [])) none);
}
