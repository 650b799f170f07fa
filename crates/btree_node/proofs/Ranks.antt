-- Where a key belongs among the records of a level, found from where it belongs in the level above.
use Rattle.std.proofs.Common.{◌≡◌, ◌≢◌, ℕ, ◌+◌, ◌-◌, ◌<◌, ◌≤◌, List, [], ◌∷◌, ◌++◌, length, get_or, inl, inr, refl, sym, ◌∙◌, ap, subst, arith}
use Rattle.std.proofs.lemmas.Bool.{cases_lt}
use Rattle.std.proofs.lemmas.List.{length-append, get_or_append_left, get_or-append_right}
use Rattle.std.specs.Cmp.{IsTotalOrder}
use Rattle.std.specs.Ordering.{ordering_reverse}
use Rattle.std.specs.declared.cmp.Ordering.{Ordering}
use Rattle.std.specs.declared.cmp.Ordering.TheVariants.{Less, Equal, Greater}
use Rattle.btree_node.specs.Node.{items}
use Rattle.btree_node.specs.Levels.{Nodes, entries, key_of, first_key, Ascends, IsRank}
use Rattle.btree_node.proofs.Levels.{entries-append}

module _ (cmp : List ℕ → List ℕ → Ordering) (total : IsTotalOrder cmp) where
  -- below what isn't above
  pub below_all : (x y z : List ℕ) → cmp x y ≡ Less → cmp y z ≢ Greater → cmp x z ≡ Less
  below_all x y z less most = below_by (cmp y z) refl
    where
      below_by : (o : Ordering) → cmp y z ≡ o → cmp x z ≡ Less
      below_by Less e = total.trans x y z less e
      below_by Equal e =
          let turned : cmp y x ≡ Greater = total.antisymm y x ∙ ap ordering_reverse less in
          let same : cmp y x ≡ cmp z x = total.congr y z x e in
          total.antisymm x z ∙ ap ordering_reverse (sym same ∙ turned)
      below_by Greater e = absurd (most e)

  -- above what is above
  pub above_all : (x y z : List ℕ) → cmp x y ≡ Less → cmp x z ≡ Greater → cmp y z ≡ Greater
  above_all x y z less more =
      let turned : cmp z x ≡ Less = total.antisymm z x ∙ ap ordering_reverse more in
      total.antisymm y z ∙ ap ordering_reverse (total.trans z x y turned less)

-- the place of a record in a level whose nodes are xs, m and ys
module _ (nodes : Nodes) (xs : List ℕ) (m : ℕ) (ys : List ℕ) where
  pub in_node : (k : ℕ) → k < length (items (nodes m)) → get_or (entries nodes (xs ++ m ∷ ys)) (length (entries nodes xs) + k) [] ≡ get_or (items (nodes m)) k []
  in_node k inside =
      ap (λ l. get_or l (length (entries nodes xs) + k) []) (entries-append nodes xs (m ∷ ys))
      ∙ get_or-append_right (entries nodes xs) (items (nodes m) ++ entries nodes ys) (length (entries nodes xs)) (length (entries nodes xs) + k) [] refl (omega arith)
      ∙ ap (λ n. get_or (items (nodes m) ++ entries nodes ys) n []) (omega arith)
      ∙ get_or_append_left (items (nodes m)) (entries nodes ys) [] k inside

  pub level_long : length (entries nodes (xs ++ m ∷ ys)) ≡ length (entries nodes xs) + (length (items (nodes m)) + length (entries nodes ys))
  level_long =
      ap length (entries-append nodes xs (m ∷ ys))
      ∙ length-append (entries nodes xs) (items (nodes m) ++ entries nodes ys)
      ∙ ap (λ n. length (entries nodes xs) + n) (length-append (items (nodes m)) (entries nodes ys))

  pub behind_node : (k : ℕ) → get_or (entries nodes (xs ++ m ∷ ys)) (length (entries nodes xs) + length (items (nodes m)) + k) [] ≡ get_or (entries nodes ys) k []
  behind_node k =
      ap (λ l. get_or l (length (entries nodes xs) + length (items (nodes m)) + k) []) (entries-append nodes xs (m ∷ ys))
      ∙ get_or-append_right (entries nodes xs) (items (nodes m) ++ entries nodes ys) (length (entries nodes xs)) (length (entries nodes xs) + length (items (nodes m)) + k) [] refl (omega arith)
      ∙ ap (λ n. get_or (items (nodes m) ++ entries nodes ys) n []) (omega arith)
      ∙ get_or-append_right (items (nodes m)) (entries nodes ys) (length (items (nodes m))) (length (items (nodes m)) + k) [] refl (omega arith)
      ∙ ap (λ n. get_or (entries nodes ys) n []) (omega arith)

-- no record stands before the first node
pub none_before : (nodes : Nodes) (xs : List ℕ) → length xs ≡ 0 → length (entries nodes xs) ≡ 0
none_before nodes [] none = refl
none_before nodes (x ∷ xs) none = absurd (omega arith)

-- A key's place in a level, from its place among the keys of the level's nodes and its place in the node that it leads to.
module _ (cmp : List ℕ → List ℕ → Ordering) (total : IsTotalOrder cmp) (key : List ℕ) (nodes : Nodes)
    (xs : List ℕ) (m : ℕ) (ys : List ℕ) (names : List (List ℕ)) (upper place : ℕ)
    (ascends : Ascends cmp (entries nodes (xs ++ m ∷ ys)))
    (long : length names ≡ length (xs ++ m ∷ ys))
    (named : (k : ℕ) → k < length names → key_of (get_or names k []) ≡ first_key nodes (get_or (xs ++ m ∷ ys) k 0))
    (ranked : IsRank cmp key names upper) (here : length xs ≡ upper - 1)
    (some : 0 < length (items (nodes m)))
    (some_behind : (k : ℕ) → k < length ys → 0 < length (items (nodes (get_or ys k 0))))
    (within : place ≤ length (items (nodes m)))
    (before : 0 < place → cmp (key_of (get_or (items (nodes m)) (place - 1) [])) key ≢ Greater)
    (behind : place < length (items (nodes m)) → cmp (key_of (get_or (items (nodes m)) place [])) key ≡ Greater)
  where
    whole : List (List ℕ)
    whole = entries nodes (xs ++ m ∷ ys)

    start : ℕ
    start = length (entries nodes xs)

    size_is : length names ≡ length xs + (1 + length ys)
    size_is = omega (arith, length-append xs (m ∷ ys))

    name_here : key_of (get_or names (length xs) []) ≡ first_key nodes m
    name_here = named (length xs) (omega (arith, size_is)) ∙ ap (λ n. first_key nodes n) (get_or-append_right xs (m ∷ ys) (length xs) (length xs) 0 refl (omega arith) ∙ ap (λ k. get_or (m ∷ ys) k 0) {y = 0} (omega arith))

    -- a key that belongs before all records of the node belongs before all of the level
    pub front : place ≡ 0 → length xs ≡ 0
    front none = elim (cases_lt 0 (length xs)) [
      | inl some_before ↦
          let greater : cmp (key_of (get_or (items (nodes m)) 0 [])) key ≡ Greater = subst (λ k. cmp (key_of (get_or (items (nodes m)) k [])) key ≡ Greater) none (behind (omega arith)) in
          let least : cmp (key_of (get_or names (length xs) [])) key ≢ Greater = ranked.before (length xs) (omega arith) in
          absurd (least (ap (λ l. cmp l key) name_here ∙ greater))
      | inr none_before ↦ omega arith
    ]

    before_place : (i : ℕ) → i < start + place → cmp (key_of (get_or whole i [])) key ≢ Greater
    unfolding whole start
    before_place i low e = elim (cases_lt 0 place) [
      | inl some_here ↦
          let last : get_or (entries nodes (xs ++ m ∷ ys)) (start + (place - 1)) [] ≡ get_or (items (nodes m)) (place - 1) [] = in_node nodes xs m ys (place - 1) (omega arith) in
          let least : cmp (key_of (get_or (entries nodes (xs ++ m ∷ ys)) (start + (place - 1)) [])) key ≢ Greater = λ g. before some_here (ap (λ l. cmp (key_of l) key) (sym last) ∙ g) in
          elim (cases_lt i (start + (place - 1))) [
            | inl less ↦
                let below : cmp (key_of (get_or (entries nodes (xs ++ m ∷ ys)) i [])) (key_of (get_or (entries nodes (xs ++ m ∷ ys)) (start + (place - 1)) [])) ≡ Less = ascends i (start + (place - 1)) less (omega (arith, level_long nodes xs m ys)) in
                let is = below_all cmp total (key_of (get_or (entries nodes (xs ++ m ∷ ys)) i [])) (key_of (get_or (entries nodes (xs ++ m ∷ ys)) (start + (place - 1)) [])) key below least in
                cc
            | inr same ↦
                let is : i ≡ start + (place - 1) = omega arith in
                least (ap (λ k. cmp (key_of (get_or (entries nodes (xs ++ m ∷ ys)) k [])) key) (sym is) ∙ e)
          ]
      | inr none ↦ absurd (omega (arith, none_before nodes xs (front (omega arith))))
    ]

    -- the first record behind the node is above the key
    next_node : (n : ℕ) (ns : List ℕ) → ys ≡ n ∷ ns → cmp (key_of (get_or (entries nodes ys) 0 [])) key ≡ Greater
    next_node n ns is =
        let inside : 0 < length (items (nodes n)) = subst (λ l. 0 < length (items (nodes (get_or l 0 0)))) is (some_behind 0 (omega (arith, ap length is))) in
        let first : get_or (entries nodes ys) 0 [] ≡ get_or (items (nodes n)) 0 [] = ap (λ l. get_or (entries nodes l) 0 []) is ∙ get_or_append_left (items (nodes n)) (entries nodes ns) [] 0 inside in
        let at : get_or (xs ++ m ∷ ys) (length xs + 1) 0 ≡ n = get_or-append_right xs (m ∷ ys) (length xs) (length xs + 1) 0 refl (omega arith) ∙ ap (λ k. get_or (m ∷ ys) k 0) {y = 1} (omega arith) ∙ ap (λ l. get_or l 0 0) is in
        let name : key_of (get_or names (length xs + 1) []) ≡ first_key nodes n = named (length xs + 1) (omega (arith, size_is, ap length is)) ∙ ap (λ k. first_key nodes k) at in
        let greater : cmp (key_of (get_or names (length xs + 1) [])) key ≡ Greater = ranked.behind (length xs + 1) (omega arith) (omega (arith, size_is, ap length is)) in
        ap (λ l. cmp (key_of l) key) first ∙ ap (λ l. cmp l key) (sym name) ∙ greater

    behind_here : (l : List ℕ) → ys ≡ l → 0 < length (entries nodes ys) → cmp (key_of (get_or (entries nodes ys) 0 [])) key ≡ Greater
    behind_here [] is any = absurd (omega (arith, ap (λ l. length (entries nodes l)) is))
    behind_here (n ∷ ns) is any = next_node n ns is

    at_place : start + place < length whole → cmp (key_of (get_or whole (start + place) [])) key ≡ Greater
    unfolding whole start
    at_place inside = elim (cases_lt place (length (items (nodes m)))) [
      | inl less ↦ ap (λ l. cmp (key_of l) key) (in_node nodes xs m ys place less) ∙ behind less
      | inr past ↦
          let is : length (entries nodes xs) + place ≡ length (entries nodes xs) + length (items (nodes m)) + 0 = omega arith in
          ap (λ k. cmp (key_of (get_or (entries nodes (xs ++ m ∷ ys)) k [])) key) is
          ∙ ap (λ l. cmp (key_of l) key) (behind_node nodes xs m ys 0)
          ∙ behind_here ys refl (omega (arith, level_long nodes xs m ys))
    ]

    behind_place : (i : ℕ) → start + place ≤ i → i < length whole → cmp (key_of (get_or whole i [])) key ≡ Greater
    unfolding whole start
    behind_place i low inside = elim (cases_lt (start + place) i) [
      | inl less ↦
          above_all cmp total (key_of (get_or (entries nodes (xs ++ m ∷ ys)) (start + place) [])) (key_of (get_or (entries nodes (xs ++ m ∷ ys)) i [])) key
          (ascends (start + place) i less inside) (at_place (omega arith))
      | inr same ↦
          let is : i ≡ start + place = omega arith in
          ap (λ k. cmp (key_of (get_or (entries nodes (xs ++ m ∷ ys)) k [])) key) is ∙ at_place (omega arith)
    ]

    pub rank_below : IsRank cmp key (entries nodes (xs ++ m ∷ ys)) (length (entries nodes xs) + place)
    unfolding whole start
    rank_below = record {
      within = omega (arith, level_long nodes xs m ys);
      before = before_place;
      behind = behind_place;
    }
