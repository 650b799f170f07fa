-- Where the reading of a level ends, a rule fails at the node that it names.
use Rattle.std.proofs.Common.{◌≡◌, ◌<◌, ◌≤◌, ℕ, suc, ◌+◌, ◌-◌, ◌/◌, List, [], ◌++◌, length, take, drop, get_or, inl, inr, refl, sym, ◌∙◌, ap, subst, arith, length-append, append_assoc, ⊎_elim}
use Rattle.std.specs.Prelude.{Contains, slice_index}
use Rattle.std.specs.declared.cmp.Ordering.{Ordering}
use Rattle.std.specs.declared.cmp.Ordering.TheVariants.{Less}
use Rattle.std.proofs.lemmas.Bool.{cases_lt}
use Rattle.std.proofs.lemmas.List.{get_or_default, get_or_append_left, get_or-append-add, get_or-take, get_or-map, length-take, take-append-drop}
use Rattle.std.proofs.lemmas.List.Concat.{flat_map-append}
use Rattle.btree_node.specs.Node.{items}
use Rattle.btree_node.specs.Levels.{entries, key_of, child_of, first_key}
use Rattle.btree_node.specs.TreeFile.{TreeFile}
use Rattle.hfs_volume.specs.Broken.{node_place, levels_in, level_in, IsGoodNode, IsInOrderAt, FailsNode, FailsOrder}
use Rattle.fsck_scan.specs.Good.{GoesOn}
use Rattle.fsck_scan.specs.Level.{FailsAt}
use Rattle.fsck_scan.specs.declared.look.Fault.TheVariants as fault
use Rattle.fsck_scan.proofs.LevelLaws.{entries_more}

stands_here : (xs : List ℕ) (k : ℕ) → k < length xs → Contains xs (slice_index xs k)
stands_here xs k inside = (k, inside, get_or_default xs k (slice_index xs k) 0 inside)

-- an item of the front of a list
front_item : (old fresh rest : List (List ℕ)) (m i : ℕ) → m ≤ length fresh → i < length old + m → get_or (old ++ take m fresh) i [] ≡ get_or (old ++ (fresh ++ rest)) i []
front_item old fresh rest m i within inside = ⊎_elim
    (λ (low : i < length old). get_or_append_left old (take m fresh) [] i low ∙ sym (get_or_append_left old (fresh ++ rest) [] i low))
    (λ (high : length old ≤ i).
    let k = i - length old in
    let less : k < m = omega (arith, high, inside) in
    let is : i ≡ length old + k = omega (arith, high) in
    ap (λ n. get_or (old ++ take m fresh) n []) is ∙ get_or-append-add old (take m fresh) k [] ∙ get_or-take m fresh k [] less
    ∙ sym (get_or_append_left fresh rest [] k (omega (arith, less, within))) ∙ sym (get_or-append-add old (fresh ++ rest) k []) ∙ ap (λ n. get_or (old ++ (fresh ++ rest)) n []) (sym is))
    (cases_lt i (length old))

here_item : (old fresh rest : List (List ℕ)) (m : ℕ) → m < length fresh → get_or (old ++ (fresh ++ rest)) (length old + m) [] ≡ get_or fresh m []
here_item old fresh rest m inside = get_or-append-add old (fresh ++ rest) m [] ∙ get_or_append_left fresh rest [] m inside

-- the records of a level are those of its first nodes, those of the next one, and those of the nodes behind
split_entries : (nodes : ℕ → List ℕ) (ns : List ℕ) (k : ℕ) → k < length ns → entries nodes ns ≡ entries nodes (take k ns) ++ (items (nodes (slice_index ns k)) ++ entries nodes (drop (k + 1) ns))
split_entries nodes ns k inside =
    ap (entries nodes) (sym (take-append-drop (k + 1) ns)) ∙ flat_map-append (λ n. items (nodes n)) (take (k + 1) ns) (drop (k + 1) ns)
    ∙ ap (λ l. l ++ entries nodes (drop (k + 1) ns)) (entries_more nodes ns k inside)
    ∙ append_assoc (entries nodes (take k ns)) (items (nodes (slice_index ns k))) (entries nodes (drop (k + 1) ns))

module _ (is_key is_value : List ℕ → Type 0) (cmp : List ℕ → List ℕ → Ordering) (id : ℕ) (tree : TreeFile) (j : ℕ) (less : j < levels_in tree) where
  -- a node that isn't of its kind, or has a record that is none
  pub node_fails : (names : List (List ℕ)) (k : ℕ) → FailsAt is_key is_value cmp tree.nodes (tree.head.node_size / 2 - 10) (levels_in tree - j) (level_in tree j) names k fault.Node
      → FailsNode is_key is_value id tree (node_place id (slice_index (level_in tree j) k))
  node_fails names k fails = inr (j, slice_index (level_in tree j) k, less, stands_here (level_in tree j) k fails.inside, refl, not_good)
    where
      not_good : IsGoodNode is_key is_value tree (levels_in tree - j) (slice_index (level_in tree j) k) → ⊥
      not_good good = elim (fails.before.3) [
        | inl kind ↦ kind good.kind
        | inr bad ↦ bad.2 (record {
          key = good.keys bad.0 [] bad.1;
          short = good.short bad.0 [] bad.1;
          leaf = λ one. good.leaf one bad.0 [] bad.1;
          index = λ many. good.index many bad.0 [] bad.1;
        })
      ]

  -- a node that doesn't name its neighbours, or whose keys don't rise
  pub order_fails : (names : List (List ℕ)) (k : ℕ) → FailsAt is_key is_value cmp tree.nodes (tree.head.node_size / 2 - 10) (levels_in tree - j) (level_in tree j) names k fault.Order
      → FailsOrder cmp id tree (node_place id (slice_index (level_in tree j) k))
  order_fails names k fails = (j, k, less, fails.inside, refl, not_ordered)
    where
      not_ordered : IsInOrderAt cmp tree j k → ⊥
      not_ordered ordered = elim (fails.before.3) [
        | inl links ↦ links ordered.next ordered.back
        | inr bad ↦ bad.2 (goes_on bad.0 bad.1)
      ]
        where
          goes_on : (m : ℕ) → m < length (items (tree.nodes (slice_index (level_in tree j) k)))
              → GoesOn cmp (fails.before.0 ++ take m (items (tree.nodes (slice_index (level_in tree j) k)))) (get_or (items (tree.nodes (slice_index (level_in tree j) k))) m [])
          goes_on m inside some =
              let all : List (List ℕ) = entries tree.nodes (level_in tree j) in
              let old : List (List ℕ) = fails.before.0 in
              let fresh : List (List ℕ) = items (tree.nodes (slice_index (level_in tree j) k)) in
              let rest : List (List ℕ) = entries tree.nodes (drop (k + 1) (level_in tree j)) in
              let are : old ≡ entries tree.nodes (take k (level_in tree j)) = fails.before.2.records_are in
              let whole : all ≡ old ++ (fresh ++ rest) = split_entries tree.nodes (level_in tree j) k fails.inside ∙ ap (λ (l : List (List ℕ)). l ++ (fresh ++ rest)) (sym are) in
              let long : length (old ++ take m fresh) ≡ length old + m = omega (arith, length-append old (take m fresh), length-take m fresh, inside) in
              let last : length (old ++ take m fresh) - 1 ≡ length old + m - 1 = ap (λ n. n - 1) long in
              let first : get_or (old ++ take m fresh) (length (old ++ take m fresh) - 1) [] ≡ get_or all (length old + m - 1) [] =
              ap (λ n. get_or (old ++ take m fresh) n []) last ∙ front_item old fresh rest m (length old + m - 1) (omega (arith, inside)) (omega (arith, some, long)) ∙ ap (λ (l : List (List ℕ)). get_or l (length old + m - 1) []) (sym whole) in
              let second : get_or fresh m [] ≡ get_or all (length old + m) [] = sym (here_item old fresh rest m inside) ∙ ap (λ (l : List (List ℕ)). get_or l (length old + m) []) (sym whole) in
              let end : length (entries tree.nodes (take (k + 1) (level_in tree j))) ≡ length (entries tree.nodes (take k (level_in tree j))) + length fresh =
              ap (λ (l : List (List ℕ)). length l) (entries_more tree.nodes (level_in tree j) k fails.inside) ∙ length-append (entries tree.nodes (take k (level_in tree j))) fresh in
              let size : length old ≡ length (entries tree.nodes (take k (level_in tree j))) = ap (λ (l : List (List ℕ)). length l) are in
              subst (λ a. cmp (key_of a) (key_of (get_or fresh m [])) ≡ Less) (sym first)
              (subst (λ b. cmp (key_of (get_or all (length old + m - 1) [])) (key_of b) ≡ Less) (sym second)
              (ordered.rising (length old + m - 1) (length old + m) (omega (arith, some, long)) (omega (arith, size)) (omega (arith, size, end, inside))))

  -- a node whose first key isn't that of the record that names it
  pub name_fails : (k i : ℕ) → j + 1 < levels_in tree → i < length (level_in tree j) → length (entries tree.nodes (take i (level_in tree j))) ≤ k → k < length (entries tree.nodes (take (i + 1) (level_in tree j)))
      → FailsAt is_key is_value cmp tree.nodes (tree.head.node_size / 2 - 10) (levels_in tree - (j + 1)) (level_in tree (j + 1)) (entries tree.nodes (level_in tree j)) k fault.Name
      → FailsOrder cmp id tree (node_place id (slice_index (level_in tree j) i))
  name_fails k i more inside low high fails = (j, i, less, inside, refl, not_ordered)
    where
      not_ordered : IsInOrderAt cmp tree j i → ⊥
      not_ordered ordered =
          let m = k - length (entries tree.nodes (take i (level_in tree j))) in
          let own : List (List ℕ) = items (tree.nodes (slice_index (level_in tree j) i)) in
          let within : m < length own = omega (arith, low, high, ap (λ (l : List (List ℕ)). length l) (entries_more tree.nodes (level_in tree j) i inside), length-append (entries tree.nodes (take i (level_in tree j))) own) in
          let is : k ≡ length (entries tree.nodes (take i (level_in tree j))) + m = omega (arith, low) in
          let item : get_or (entries tree.nodes (level_in tree j)) k [] ≡ get_or own m [] =
          ap (λ (l : List (List ℕ)). get_or l k []) (split_entries tree.nodes (level_in tree j) i inside)
          ∙ ap (λ n. get_or (entries tree.nodes (take i (level_in tree j)) ++ (own ++ entries tree.nodes (drop (i + 1) (level_in tree j)))) n []) is
          ∙ here_item (entries tree.nodes (take i (level_in tree j))) own (entries tree.nodes (drop (i + 1) (level_in tree j))) m within in
          let child : slice_index (level_in tree (j + 1)) k ≡ child_of (get_or (entries tree.nodes (level_in tree j)) k []) =
          ap (λ n. slice_index (level_in tree n) k) (let next : j + 1 ≡ suc j = omega arith in next) ∙ get_or-map child_of (entries tree.nodes (level_in tree j)) k [] 0 (fails.before.3).0 in
          (fails.before.3).1 (ap (λ n. first_key tree.nodes n) (child ∙ ap child_of item) ∙ ordered.named more m [] within ∙ ap key_of (sym item))
