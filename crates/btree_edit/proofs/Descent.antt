-- From level to level towards a key.
use Rattle.std.proofs.Common.{◌≡◌, ◌≢◌, ℕ, zero, suc, add-one, ◌+◌, ◌-◌, ◌<◌, ◌≤◌, List, [], ◌∷◌, ◌++◌, map, length, take, drop, get_or, inl, inr, refl, sym, ◌∙◌, ap, subst, arith, length-drop}
use Rattle.std.proofs.Math.Seq.{drop-cons}
use Rattle.std.proofs.lemmas.Bool.{cases_lt}
use Rattle.std.proofs.lemmas.List.{length-take, length-append, length-map, get_or-map, get_or-drop, get_or-append_right, take-append-drop, append-nil}
use Rattle.std.specs.Cmp.{IsTotalOrder}
use Rattle.std.specs.declared.cmp.Ordering.{Ordering}
use Rattle.std.specs.declared.cmp.Ordering.TheVariants.{Less, Equal, Greater}
use Rattle.hx_bytes.specs.Field.{big_at, big}
use Rattle.hx_bytes.specs.declared.fields.Order.TheVariants.{Big}
use Rattle.hx_bytes.proofs.Laws.{length-number_bytes}
use Rattle.btree_node.specs.Node.{items}
use Rattle.btree_node.specs.Levels.{Pair, entries, level, leaves, key_of, value_of, child_of, pair_of, first_key, record_for, Ascends, IsRank}
use Rattle.btree_node.specs.Store.{Store}
use Rattle.btree_node.specs.Tree.{level_of, entries_of, pairs_of, HasLevels, IsOrdered, IsTreeNode}
use Rattle.btree_node.proofs.Ranks.{below_all, above_all, in_node, level_long, none_before, rank_below, front}
use Rattle.btree_edit.specs.Desk.{HasKey}
use Rattle.btree_edit.specs.Reading.{IsPlace, HasNoKey, IsLead, LeadsTo}
use Rattle.btree_edit.specs.declared.search.ChildStep.{ChildStep}
use Rattle.btree_edit.proofs.Pairs.{key_of_joined, value_of_joined}

-- among rising keys the first that is above a key has all others behind it
pub place_rank : (cmp : List ℕ → List ℕ → Ordering) → IsTotalOrder cmp → (key : List ℕ) (records : List (List ℕ)) (place : ℕ) → Ascends cmp records → IsPlace cmp key records place → IsRank cmp key records place
place_rank cmp total key records place ascends is = record {
  within = is.within;
  before = λ k low e. elim (cases_lt k (place - 1)) [
    | inl less ↦
        let far = below_all cmp total (key_of (get_or records k [])) (key_of (get_or records (place - 1) [])) key (ascends k (place - 1) less (omega (arith, low, is.within))) (is.before (omega (arith, low))) in
        let no : Less ≡ Greater = sym far ∙ e in cc no
    | inr same ↦ let last : k ≡ place - 1 = omega (arith, same, low) in is.before (omega (arith, low)) (ap (λ n. cmp (key_of (get_or records n [])) key) (sym last) ∙ e)
  ];
  behind = λ i from to. elim (cases_lt place i) [
    | inl less ↦ above_all cmp total (key_of (get_or records place [])) (key_of (get_or records i [])) key (ascends place i less to) (is.behind (omega arith))
    | inr same ↦ let e : place ≡ i = omega arith in subst (λ k. cmp (key_of (get_or records k [])) key ≡ Greater) e (is.behind (omega arith))
  ];
}

pub leads_root : (cmp : List ℕ → List ℕ → Ordering) → IsTotalOrder cmp → (key : List ℕ) (store : Store) → Ascends cmp (entries_of store 0) → LeadsTo cmp key store 0 store.shape.root
leads_root cmp total key store ascends =
    let one : items (store.nodes store.shape.root) ++ [] ≡ items (store.nodes store.shape.root) = append-nil (items (store.nodes store.shape.root)) in
    record {
      front = [];
      back = [];
      is = refl;
      rank = λ place at. subst (λ n. IsRank cmp key (entries_of store 0) n) {x = place} (omega arith)
          (place_rank cmp total key (entries_of store 0) place ascends (subst (λ l. IsPlace cmp key l place) (sym one) at));
      first = λ place at none. refl;
    }

pub leads_root_front : (cmp : List ℕ → List ℕ → Ordering) (total : IsTotalOrder cmp) (key : List ℕ) (store : Store) (ascends : Ascends cmp (entries_of store 0)) → length (leads_root cmp total key store ascends).front ≡ 0
unfolding leads_root
leads_root_front cmp total key store ascends = refl

-- the list with one place in the middle
pub split_at : (l : List ℕ) (p : ℕ) → p < length l → l ≡ take p l ++ get_or l p 0 ∷ drop (suc p) l
split_at l p inside = sym (take-append-drop p l) ∙ ap (λ r. take p l ++ r) (drop-cons l p 0 inside)

module _ (is_key : List ℕ → Type 0) (cmp : List ℕ → List ℕ → Ordering) (total : IsTotalOrder cmp)
    (key_length : (a : List ℕ) → is_key a → length a ≡ big_at 2 a 0 + 2)
    (store : Store) (levels : HasLevels is_key store) (ordered : IsOrdered cmp store) where
  -- a record of a node in a level is one of the level's
  pub of_level : (key : List ℕ) (j node : ℕ) (leads : LeadsTo cmp key store j node) (k : ℕ) → k < length (items (store.nodes node))
      → get_or (entries_of store j) (length (entries store.nodes leads.front) + k) [] ≡ get_or (items (store.nodes node)) k []
  of_level key j node leads k inside =
      ap (λ l. get_or (entries store.nodes l) (length (entries store.nodes leads.front) + k) []) leads.is ∙ in_node store.nodes leads.front node leads.back k inside

  pub in_level : (key : List ℕ) (j node : ℕ) (leads : LeadsTo cmp key store j node) → length (entries store.nodes leads.front) + length (items (store.nodes node)) ≤ length (entries_of store j)
  in_level key j node leads = omega (arith, ap (λ l. length (entries store.nodes l)) leads.is, level_long store.nodes leads.front node leads.back)

  pub node_place : (key : List ℕ) (j node : ℕ) (leads : LeadsTo cmp key store j node) → get_or (level_of store j) (length leads.front) 0 ≡ node
  node_place key j node leads =
      ap (λ l. get_or l (length leads.front) 0) leads.is
      ∙ get_or-append_right leads.front (node ∷ leads.back) (length leads.front) (length leads.front) 0 refl (omega arith)
      ∙ ap (λ k. get_or (node ∷ leads.back) k 0) {y = 0} (omega arith)

  pub node_in_level : (key : List ℕ) (j node : ℕ) (leads : LeadsTo cmp key store j node) → length leads.front < length (level_of store j)
  node_in_level key j node leads = omega (arith, ap length leads.is, length-append leads.front (node ∷ leads.back))

  -- the records of an index level name the nodes of the level below
  module _ (j : ℕ) (above : j + 1 < store.shape.depth) where
    upper : List (List ℕ)
    upper = entries_of store j

    lower : List ℕ
    lower = level_of store (j + 1)

    lower_is : lower ≡ map child_of upper
    unfolding lower upper
    lower_is = ap (λ n. level store.nodes store.shape.root n) (add-one j)

    same_long : length upper ≡ length lower
    unfolding lower upper
    same_long = ap length (levels.named j above) ∙ length-map (level_of store (j + 1)) (λ n. record_for store.nodes n)

    some_of : (k : ℕ) → k < length lower → 0 < length (items (store.nodes (get_or lower k 0)))
    unfolding lower
    some_of k inside = levels.some j k above inside

    -- each node of the level below begins with a key
    first_is_key : (k : ℕ) → k < length lower → is_key (first_key store.nodes (get_or lower k 0))
    unfolding lower
    first_is_key k inside =
        let split = split_at (level_of store (j + 1)) k inside in
        let at : get_or (entries_of store (j + 1)) (length (entries store.nodes (take k (level_of store (j + 1)))) + 0) [] ≡ get_or (items (store.nodes (get_or (level_of store (j + 1)) k 0))) 0 [] =
        ap (λ l. get_or (entries store.nodes l) (length (entries store.nodes (take k (level_of store (j + 1)))) + 0) []) split
        ∙ in_node store.nodes (take k (level_of store (j + 1))) (get_or (level_of store (j + 1)) k 0) (drop (suc k) (level_of store (j + 1))) 0 (levels.some j k above inside) in
        let long = ap (λ l. length (entries store.nodes l)) split in
        let whole = level_long store.nodes (take k (level_of store (j + 1))) (get_or (level_of store (j + 1)) k 0) (drop (suc k) (level_of store (j + 1))) in
        let some = levels.some j k above inside in
        subst (λ l. is_key (key_of l)) at (levels.keys (j + 1) (length (entries store.nodes (take k (level_of store (j + 1)))) + 0) above (omega arith))

    record_is : (k : ℕ) → k < length lower → get_or upper k [] ≡ record_for store.nodes (get_or lower k 0)
    unfolding lower upper
    record_is k inside =
        ap (λ l. get_or l k []) (levels.named j above) ∙ get_or-map (λ n. record_for store.nodes n) (level_of store (j + 1)) k 0 [] inside

    name_is : (k : ℕ) → k < length lower → key_of (get_or upper k []) ≡ first_key store.nodes (get_or lower k 0)
    name_is k inside =
        ap key_of (record_is k inside) ∙ key_of_joined (first_key store.nodes (get_or lower k 0)) (key_length (first_key store.nodes (get_or lower k 0)) (first_is_key k inside)) (big 4 (get_or lower k 0))

    number_long : (k : ℕ) → k < length lower → length (value_of (get_or upper k [])) ≡ 4
    number_long k inside =
        ap (λ l. length (value_of l)) (record_is k inside)
        ∙ ap length (value_of_joined (first_key store.nodes (get_or lower k 0)) (key_length (first_key store.nodes (get_or lower k 0)) (first_is_key k inside)) (big 4 (get_or lower k 0)))
        ∙ length-number_bytes Big 4 (get_or lower k 0)

    child_is : (k : ℕ) → k < length upper → child_of (get_or upper k []) ≡ get_or lower k 0
    child_is k inside = sym (get_or-map child_of upper k [] 0 inside) ∙ ap (λ l. get_or l k 0) (sym lower_is)

    -- the step from a node to its child
    module _ (key : List ℕ) (node : ℕ) (leads : LeadsTo cmp key store j node) (step : ChildStep) (is_step : IsLead cmp key (items (store.nodes node)) step) where
      start : ℕ
      start = length (entries store.nodes leads.front)

      p : ℕ
      p = start + step.index

      in_upper : p < length upper
      unfolding p start upper
      in_upper = omega (arith, in_level key j node leads, is_step.inside)

      in_lower : p < length lower
      in_lower = omega (arith, in_upper, same_long)

      child_of_step : step.child ≡ get_or lower p 0
      unfolding p start upper
      child_of_step =
          let here : get_or (entries_of store j) (length (entries store.nodes leads.front) + step.index) [] ≡ get_or (items (store.nodes node)) step.index [] = of_level key j node leads step.index is_step.inside in
          is_step.child (omega (arith, ap (λ l. length (value_of l)) here, number_long p in_lower))
          ∙ ap child_of (sym here) ∙ child_is p in_upper

      here_is : length (take p lower) ≡ start + step.place - 1
      unfolding p start
      here_is =
          let long : length (take (length (entries store.nodes leads.front) + step.index) lower) ≡ length (entries store.nodes leads.front) + step.index = omega (arith, length-take (length (entries store.nodes leads.front) + step.index) lower, in_lower) in
          elim (cases_lt 0 step.place) [
            | inl some ↦ omega (arith, long, is_step.index)
            | inr none ↦ omega (arith, long, is_step.index, leads.first step.place is_step.place (omega arith))
          ]

      whole : lower ≡ take p lower ++ get_or lower p 0 ∷ drop (suc p) lower
      whole = split_at lower p in_lower

      ascends_below : Ascends cmp (entries store.nodes (take p lower ++ get_or lower p 0 ∷ drop (suc p) lower))
      unfolding lower
      ascends_below = subst (λ l. Ascends cmp (entries store.nodes l)) whole (ordered.ascends (j + 1) above)

      long_is : length upper ≡ length (take p lower ++ get_or lower p 0 ∷ drop (suc p) lower)
      long_is = same_long ∙ ap length whole

      named_is : (k : ℕ) → k < length upper → key_of (get_or upper k []) ≡ first_key store.nodes (get_or (take p lower ++ get_or lower p 0 ∷ drop (suc p) lower) k 0)
      named_is k inside = name_is k (omega (arith, same_long)) ∙ ap (λ l. first_key store.nodes (get_or l k 0)) whole

      ranked : IsRank cmp key upper (start + step.place)
      unfolding start upper
      ranked = leads.rank step.place is_step.place

      some_behind : (k : ℕ) → k < length (drop (suc p) lower) → 0 < length (items (store.nodes (get_or (drop (suc p) lower) k 0)))
      some_behind k inside =
          subst (λ n. 0 < length (items (store.nodes n))) (sym (get_or-drop (suc p) lower k 0)) (some_of (suc p + k) (omega (arith, length-drop (suc p) lower)))

      rank_of : (place : ℕ) → IsPlace cmp key (items (store.nodes (get_or lower p 0))) place
          → IsRank cmp key (entries store.nodes (take p lower ++ get_or lower p 0 ∷ drop (suc p) lower)) (length (entries store.nodes (take p lower)) + place)
      rank_of place at =
          rank_below cmp total key store.nodes (take p lower) (get_or lower p 0) (drop (suc p) lower) upper (start + step.place) place
          ascends_below long_is named_is ranked here_is (some_of p in_lower) some_behind at.within
          at.before at.behind

      first_of_level : (place : ℕ) → IsPlace cmp key (items (store.nodes (get_or lower p 0))) place → place ≡ 0 → length (entries store.nodes (take p lower)) ≡ 0
      first_of_level place at none =
          none_before store.nodes (take p lower)
          (front cmp total key store.nodes (take p lower) (get_or lower p 0) (drop (suc p) lower) upper (start + step.place) place
          ascends_below long_is named_is ranked here_is (some_of p in_lower) some_behind at.within
          at.before at.behind none)

      pub leads_step : LeadsTo cmp key store (j + 1) step.child
      unfolding lower
      leads_step = record {
        front = take p lower;
        back = drop (suc p) lower;
        is = whole ∙ ap (λ n. take p lower ++ n ∷ drop (suc p) lower) (sym child_of_step);
        rank = λ place at. subst (λ l. IsRank cmp key l (length (entries store.nodes (take p lower)) + place)) (ap (λ l. entries store.nodes l) (sym whole))
            (rank_of place (subst (λ n. IsPlace cmp key (items (store.nodes n)) place) child_of_step at));
        first = λ place at none. first_of_level place (subst (λ n. IsPlace cmp key (items (store.nodes n)) place) child_of_step at) none;
      }

      -- the child stands behind those of the records before
      pub leads_step_front : length leads_step.front ≡ length (entries store.nodes leads.front) + step.index
      unfolding leads_step p start
      leads_step_front = omega (arith, length-take p lower, in_lower)

  -- a node that a key leads to is one of the tree
  pub leads_node : (key : List ℕ) (j node : ℕ) → LeadsTo cmp key store j node → j < store.shape.depth → IsTreeNode store (store.shape.depth - j) node
  leads_node key j node leads inside =
      subst (λ n. IsTreeNode store (store.shape.depth - j) n) (node_place key j node leads) (levels.nodes j (length leads.front) inside (node_in_level key j node leads))

  pub leads_keys : (key : List ℕ) (j node : ℕ) → LeadsTo cmp key store j node → j < store.shape.depth → HasNoKey is_key (items (store.nodes node)) → ⊥
  leads_keys key j node leads inside no_key =
      no_key.2 (subst (λ l. is_key (key_of l)) (of_level key j node leads no_key.0 no_key.1)
      (levels.keys j (length (entries store.nodes leads.front) + no_key.0) inside (omega (arith, in_level key j node leads, no_key.1))))

  -- below a level without records there is none
  none_below : (k : ℕ) → length (entries_of store 0) ≡ 0 → length (entries_of store k) ≡ 0
  none_below zero none = none
  none_below (suc k) none = none_before store.nodes (level_of store (suc k)) (length-map (entries_of store k) child_of ∙ none_below k none)

  pub pairs_are : 0 < store.shape.depth → pairs_of store ≡ map pair_of (entries_of store (store.shape.depth - 1))
  pairs_are some = ap (λ d. leaves store.nodes store.shape.root d) {x = store.shape.depth} {y = suc (store.shape.depth - 1)} (omega arith)

  -- a node without records is the root of a tree without pairs
  pub leads_empty : (key : List ℕ) (j node : ℕ) → LeadsTo cmp key store j node → j < store.shape.depth → length (items (store.nodes node)) ≡ 0 → length (pairs_of store) ≡ 0
  leads_empty key j node leads inside none = elim (cases_lt 0 j) [
    | inl below ↦
        let up : j ≡ j - 1 + 1 = omega arith in
        let place : length leads.front < length (level_of store (j - 1 + 1)) = subst (λ i. length leads.front < length (level_of store i)) up (node_in_level key j node leads) in
        let some : 0 < length (items (store.nodes (get_or (level_of store (j - 1 + 1)) (length leads.front) 0))) = levels.some (j - 1) (length leads.front) (omega arith) place in
        let is : get_or (level_of store (j - 1 + 1)) (length leads.front) 0 ≡ node = ap (λ i. get_or (level_of store i) (length leads.front) 0) (sym up) ∙ node_place key j node leads in
        absurd (omega (arith, some, ap (λ n. length (items (store.nodes n))) is, none))
    | inr root ↦
        let top : level_of store j ≡ level_of store 0 = ap (λ i. level_of store i) {x = j} {y = 0} (omega arith) in
        let one : length leads.front + (1 + length leads.back) ≡ 1 = omega (arith, ap length top, ap length leads.is, length-append leads.front (node ∷ leads.back)) in
        let all : length (entries_of store 0) ≡ 0 =
        ap (λ l. length (entries store.nodes l)) (sym top ∙ leads.is) ∙ omega (arith, level_long store.nodes leads.front node leads.back, none, none_before store.nodes leads.front (omega arith), none_before store.nodes leads.back (omega arith)) in
        ap length (pairs_are (omega arith)) ∙ length-map (entries_of store (store.shape.depth - 1)) pair_of ∙ none_below (store.shape.depth - 1) all
  ]

  -- no pair has a key that isn't in the leaf that it leads to
  pub leads_absent : (key : List ℕ) (node : ℕ) → 0 < store.shape.depth → (leads : LeadsTo cmp key store (store.shape.depth - 1) node) (place : ℕ) → IsPlace cmp key (items (store.nodes node)) place
      → (0 < place → cmp (key_of (get_or (items (store.nodes node)) (place - 1) [])) key ≢ Equal) → HasKey cmp key (pairs_of store) → ⊥
  leads_absent key node some leads place at unlike (k, inside, same) =
      let records : List (List ℕ) = entries_of store (store.shape.depth - 1) in
      let start : ℕ = length (entries store.nodes leads.front) in
      let rank : IsRank cmp key (entries_of store (store.shape.depth - 1)) (length (entries store.nodes leads.front) + place) = leads.rank place at in
      let many : length (pairs_of store) ≡ length (entries_of store (store.shape.depth - 1)) = ap length (pairs_are some) ∙ length-map (entries_of store (store.shape.depth - 1)) pair_of in
      let within : k < length (entries_of store (store.shape.depth - 1)) = omega arith in
      let here : (get_or (pairs_of store) k ([], [])).0 ≡ key_of (get_or (entries_of store (store.shape.depth - 1)) k []) =
      ap (λ (l : List Pair). (get_or l k ([], [])).0) (pairs_are some) ∙ ap (λ (p : Pair). p.0) (get_or-map pair_of (entries_of store (store.shape.depth - 1)) k [] ([], []) within) in
      let equal : cmp (key_of (get_or (entries_of store (store.shape.depth - 1)) k [])) key ≡ Equal = ap (λ l. cmp l key) (sym here) ∙ same in
      elim (cases_lt k (length (entries store.nodes leads.front) + place)) [
        | inr past ↦
            let greater : cmp (key_of (get_or (entries_of store (store.shape.depth - 1)) k [])) key ≡ Greater = rank.behind k past within in
            cc
        | inl before ↦ elim (cases_lt 0 place) [
          | inr none ↦ absurd (omega (arith, leads.first place at (omega arith)))
          | inl any ↦
              let last : get_or (entries_of store (store.shape.depth - 1)) (length (entries store.nodes leads.front) + (place - 1)) [] ≡ get_or (items (store.nodes node)) (place - 1) [] =
              of_level key (store.shape.depth - 1) node leads (place - 1) (omega (arith, at.within)) in
              elim (cases_lt k (length (entries store.nodes leads.front) + (place - 1))) [
                | inl less ↦
                    let below = ordered.ascends (store.shape.depth - 1) (omega arith) k (length (entries store.nodes leads.front) + (place - 1)) less (omega (arith, rank.within)) in
                    let least : cmp (key_of (get_or (entries_of store (store.shape.depth - 1)) (length (entries store.nodes leads.front) + (place - 1)) [])) key ≢ Greater = rank.before (length (entries store.nodes leads.front) + (place - 1)) (omega arith) in
                    let is : cmp (key_of (get_or (entries_of store (store.shape.depth - 1)) k [])) key ≡ Less =
                    below_all cmp total (key_of (get_or (entries_of store (store.shape.depth - 1)) k [])) (key_of (get_or (entries_of store (store.shape.depth - 1)) (length (entries store.nodes leads.front) + (place - 1)) [])) key below least in
                    cc
                | inr last_one ↦
                    let at_last : k ≡ length (entries store.nodes leads.front) + (place - 1) = omega arith in
                    unlike any (ap (λ l. cmp (key_of l) key) (sym last) ∙ ap (λ n. cmp (key_of (get_or (entries_of store (store.shape.depth - 1)) n [])) key) (sym at_last) ∙ equal)
              ]
        ]
      ]

  -- the pair of a record of the leaf
  pub leads_pair : (key : List ℕ) (node : ℕ) → 0 < store.shape.depth → (leads : LeadsTo cmp key store (store.shape.depth - 1) node) (index : ℕ) → index < length (items (store.nodes node))
      → (k : ℕ) × (k < length (pairs_of store)) × (get_or (pairs_of store) k ([], []) ≡ pair_of (get_or (items (store.nodes node)) index []))
  leads_pair key node some leads index inside =
      let k : ℕ = length (entries store.nodes leads.front) + index in
      let within : length (entries store.nodes leads.front) + index < length (entries_of store (store.shape.depth - 1)) = omega (arith, in_level key (store.shape.depth - 1) node leads) in
      let many : length (pairs_of store) ≡ length (entries_of store (store.shape.depth - 1)) = ap length (pairs_are some) ∙ length-map (entries_of store (store.shape.depth - 1)) pair_of in (
        length (entries store.nodes leads.front) + index,
        omega arith,
        ap (λ l. get_or l (length (entries store.nodes leads.front) + index) ([], [])) (pairs_are some)
            ∙ get_or-map pair_of (entries_of store (store.shape.depth - 1)) (length (entries store.nodes leads.front) + index) [] ([], []) within
            ∙ ap pair_of (of_level key (store.shape.depth - 1) node leads index inside),
      )

  -- the pair at a place of the leaf level
  pub pair_at : 0 < store.shape.depth → (k : ℕ) → k < length (entries_of store (store.shape.depth - 1)) → get_or (pairs_of store) k ([], []) ≡ pair_of (get_or (entries_of store (store.shape.depth - 1)) k [])
  pair_at some k within =
      ap (λ (l : List Pair). get_or l k ([], [])) (pairs_are some) ∙ get_or-map pair_of (entries_of store (store.shape.depth - 1)) k [] ([], []) within

  pub pairs_long : 0 < store.shape.depth → length (pairs_of store) ≡ length (entries_of store (store.shape.depth - 1))
  pairs_long some = ap length (pairs_are some) ∙ length-map (entries_of store (store.shape.depth - 1)) pair_of

  -- the record at an index of the leaf stands at this place of all leaves
  pub leaf_place : (key : List ℕ) (node : ℕ) → 0 < store.shape.depth → (leads : LeadsTo cmp key store (store.shape.depth - 1) node) (index : ℕ) → index < length (items (store.nodes node))
      → (length (entries store.nodes leads.front) + index < length (pairs_of store))
      × (get_or (pairs_of store) (length (entries store.nodes leads.front) + index) ([], []) ≡ pair_of (get_or (items (store.nodes node)) index []))
  leaf_place key node some leads index inside =
      let within : length (entries store.nodes leads.front) + index < length (entries_of store (store.shape.depth - 1)) = omega (arith, in_level key (store.shape.depth - 1) node leads) in (
        omega (arith, pairs_long some, within),
        pair_at some (length (entries store.nodes leads.front) + index) within ∙ ap pair_of (of_level key (store.shape.depth - 1) node leads index inside),
      )
