-- The steps of a scan from one level to the next.
use Rattle.std.proofs.Common.{◌≡◌, ◌⊎◌, ◌<◌, ◌≤◌, ℕ, zero, suc, ◌+◌, ◌-◌, ◌/◌, Bool, true, false, List, [], ◌∷◌, ◌++◌, length, map, take, get_or, set, inl, inr, refl, sym, ◌∙◌, ap, subst, arith, ⊎_elim, if◌then◌else◌}
use Rattle.std.specs.Prelude.{Contains, slice_index}
use Rattle.std.specs.List.{All, range_with_len}
use Rattle.std.specs.declared.cmp.Ordering.{Ordering}
use Rattle.std.proofs.lemmas.Bool.{cases_lt}
use Rattle.std.proofs.lemmas.List.{length-map, take_all}
use Rattle.std.proofs.lemmas.List.FromFn.{length-map-range_with_len, get_or-map-range_with_len}
use Rattle.btree_node.specs.Levels.{Nodes, entries, child_of}
use Rattle.btree_node.specs.TreeFile.{TreeFile, TreeForm}
use Rattle.hfs_volume.specs.Broken.{Finding, node_place, levels_in, level_in, FailsNode, FailsOrder, IsBrokenTree}
use Rattle.hfs_volume.proofs.TreeWants.{stands_at}
use Rattle.fsck_scan.specs.Level.{IsRight, IsWrong, HasRead, FailsAt, place_in}
use Rattle.fsck_scan.specs.Marks.{MarksAll, IsNoChild, children_of}
use Rattle.fsck_scan.specs.Scan.{names_at, IsLevelRead, HasScanned, StandsAt, HasNodes, Descends, ComesToRoot, failure, IsWrongNode}
use Rattle.fsck_scan.specs.declared.look.Fault.{Fault}
use Rattle.fsck_scan.specs.declared.look.Fault.TheVariants as fault
use Rattle.fsck_scan.proofs.LevelLaws.{read_none, read_more, fails_here}
use Rattle.fsck_scan.proofs.MarkLaws.{marks_none, marks_more}
use Rattle.fsck_scan.proofs.Failing.{node_fails, order_fails, name_fails}
use Rattle.fsck_scan.proofs.ScanLaws.{scanned_more, node_taken, node_again}

abbrev rule_of : Finding → ℕ
rule_of f = f.rule

abbrev place_of : Finding → ℕ
place_of f = f.place

abbrev found_of : Finding → ℕ
found_of f = f.found

abbrev wanted_of : Finding → ℕ
wanted_of f = f.wanted

module _ (form : TreeForm) (is_key is_value : List ℕ → Type 0) (cmp : List ℕ → List ℕ → Ordering) (id : ℕ) (tree : TreeFile) where
  abbrev Broken : Finding → Type 0
  Broken = IsBrokenTree form is_key is_value cmp id tree

  module _ (nodes : Nodes) (size total height j : ℕ) (marks : List Bool) (ns : List ℕ) (records : List (List ℕ)) (ends : List ℕ) (at : Descends is_key is_value cmp tree nodes size total height j marks ns records ends) where
    records_are : records ≡ entries tree.nodes (level_in tree j)
    records_are = at.stands.read.records_are ∙ ap (entries tree.nodes) (take_all (length (level_in tree j)) (level_in tree j) (omega arith))

    level_is : children_of records ≡ level_in tree (j + 1)
    level_is = ap children_of records_are ∙ ap (λ i. level_in tree i) (let is : suc j ≡ j + 1 = omega arith in is)

    names_are : records ≡ names_at tree (j + 1)
    names_are = records_are ∙ ap (λ i. names_at tree i) (let is : suc j ≡ j + 1 = omega arith in is)

    -- what was read of the next level, in the words of the tree
    read_is : (below : List ℕ) (fresh : List (List ℕ)) (others : List ℕ) → below ≡ children_of records → HasRead is_key is_value cmp nodes (size / 2 - 10) height below records (length below) fresh others → IsLevelRead is_key is_value cmp tree (j + 1) fresh others
    read_is below fresh others are read =
        subst (λ (l : List (List ℕ)). HasRead is_key is_value cmp tree.nodes (tree.head.node_size / 2 - 10) (levels_in tree - (j + 1)) (level_in tree (j + 1)) l (length (level_in tree (j + 1))) fresh others) names_are
        (subst (λ (l : List ℕ). HasRead is_key is_value cmp tree.nodes (tree.head.node_size / 2 - 10) (levels_in tree - (j + 1)) l records (length l) fresh others) (are ∙ level_is)
        (subst (λ h. HasRead is_key is_value cmp tree.nodes (tree.head.node_size / 2 - 10) h below records (length below) fresh others) (sym at.height_is)
        (subst (λ s. HasRead is_key is_value cmp tree.nodes (s / 2 - 10) height below records (length below) fresh others) (sym at.of_tree.size_is)
        (subst (λ (f : Nodes). HasRead is_key is_value cmp f (size / 2 - 10) height below records (length below) fresh others) (sym at.of_tree.are) read))))

    fails_is : (below : List ℕ) (k : ℕ) (wrong : Fault) → below ≡ children_of records → FailsAt is_key is_value cmp nodes (size / 2 - 10) height below records k wrong
        → FailsAt is_key is_value cmp tree.nodes (tree.head.node_size / 2 - 10) (levels_in tree - (j + 1)) (level_in tree (j + 1)) (entries tree.nodes (level_in tree j)) k wrong
    fails_is below k wrong are fails =
        subst (λ (l : List (List ℕ)). FailsAt is_key is_value cmp tree.nodes (tree.head.node_size / 2 - 10) (levels_in tree - (j + 1)) (level_in tree (j + 1)) l k wrong) records_are
        (subst (λ (l : List ℕ). FailsAt is_key is_value cmp tree.nodes (tree.head.node_size / 2 - 10) (levels_in tree - (j + 1)) l records k wrong) (are ∙ level_is)
        (subst (λ h. FailsAt is_key is_value cmp tree.nodes (tree.head.node_size / 2 - 10) h below records k wrong) (sym at.height_is)
        (subst (λ s. FailsAt is_key is_value cmp tree.nodes (s / 2 - 10) height below records k wrong) (sym at.of_tree.size_is)
        (subst (λ (f : Nodes). FailsAt is_key is_value cmp f (size / 2 - 10) height below records k wrong) (sym at.of_tree.are) fails))))

    -- the next level was read
    pub descended : (new : List Bool) (below : List ℕ) (fresh : List (List ℕ)) (others : List ℕ) → below ≡ children_of records → All (λ n. n < total) below → MarksAll below marks new
        → HasRead is_key is_value cmp nodes (size / 2 - 10) height below records (length below) fresh others → StandsAt is_key is_value cmp tree (j + 1) new below fresh others
    descended new below fresh others are inside marked read = record {
      scanned = scanned_more is_key is_value cmp tree (j + 1) marks new fresh others at.stands.scanned
          (subst (λ (l : List ℕ). All (λ n. n < tree.head.total) l) (are ∙ level_is) (subst (λ t. All (λ n. n < t) below) (sym at.of_tree.total_is) inside))
          (subst (λ (l : List ℕ). MarksAll l marks new) (are ∙ level_is) marked) (read_is below fresh others are read);
      nodes_are = are ∙ level_is;
      read = read_is below fresh others are read;
    }

    -- a child that the next level can't have
    pub child_broken : (n : ℕ) (again : Bool) → IsNoChild total records marks n again → Broken (failure (if again then 6 else 5) (node_place id n))
    child_broken n true wrong = inr (inr (inl (refl, refl, refl, node_again is_key is_value cmp tree id j n records marks at.stands.scanned at.more records_are (subst (λ t. IsNoChild t records marks n true) (sym at.of_tree.total_is) wrong))))
    child_broken n false wrong = inr (inl (refl, refl, refl, node_taken is_key is_value cmp tree id (j + 1) n marks at.stands.scanned at.more stands at.blank (subst (λ t. (t ≤ n) ⊎ (get_or marks n true ≡ true)) (sym at.of_tree.total_is) (wrong.taken refl))))
      where
        stands : Contains (level_in tree (j + 1)) n
        stands = subst (λ m. Contains (level_in tree (j + 1)) m) (sym (wrong.is ∙ ap (λ (l : List ℕ). slice_index l wrong.at) level_is))
            (stands_at (level_in tree (j + 1)) wrong.at (omega (arith, wrong.inside, ap (λ (l : List ℕ). length l) level_is, length-map records child_of)))

    -- where the records of a node of the level end
    end_is : (i : ℕ) → i < length (level_in tree j) → slice_index ends i ≡ length (entries tree.nodes (take (i + 1) (level_in tree j)))
    end_is i inside = ap (λ (l : List ℕ). slice_index l i) at.stands.read.ends_are ∙ get_or-map-range_with_len (λ k. length (entries tree.nodes (take (k + 1) (level_in tree j)))) 0 (length (level_in tree j)) i i 0 inside (omega arith)

    ends_long : length ends ≡ length (level_in tree j)
    ends_long = ap (λ (l : List ℕ). length l) at.stands.read.ends_are ∙ length-map-range_with_len (λ k. length (entries tree.nodes (take (k + 1) (level_in tree j)))) 0 (length (level_in tree j))

    -- a node of the next level that is wrong
    pub node_broken : (below : List ℕ) (k : ℕ) (wrong : Fault) (finding : Finding) → below ≡ children_of records → FailsAt is_key is_value cmp nodes (size / 2 - 10) height below records k wrong → IsWrongNode id ns ends below k wrong finding → Broken finding
    node_broken below k fault.Node finding are fails is = inr (inl (
      ap rule_of is,
      ap found_of is,
      ap wanted_of is,
      subst (λ p. FailsNode is_key is_value id tree p) (sym (ap place_of is ∙ ap (λ (l : List ℕ). node_place id (slice_index l k)) (are ∙ level_is)))
          (node_fails is_key is_value cmp id tree (j + 1) at.more (entries tree.nodes (level_in tree j)) k (fails_is below k fault.Node are fails)),
    ))
    node_broken below k fault.Order finding are fails is = inr (inr (inl (
      ap rule_of is,
      ap found_of is,
      ap wanted_of is,
      subst (λ p. FailsOrder cmp id tree p) (sym (ap place_of is ∙ ap (λ (l : List ℕ). node_place id (slice_index l k)) (are ∙ level_is)))
          (order_fails is_key is_value cmp id tree (j + 1) at.more (entries tree.nodes (level_in tree j)) k (fails_is below k fault.Order are fails)),
    )))
    node_broken below k fault.Name finding are fails (i, is, before, here, within) = inr (inr (inl (
      ap rule_of is,
      ap found_of is,
      ap wanted_of is,
      subst (λ p. FailsOrder cmp id tree p) (sym (ap place_of is ∙ ap (λ (l : List ℕ). node_place id (slice_index l i)) at.stands.nodes_are))
          (name_fails is_key is_value cmp id tree j (omega (arith, at.more)) k i at.more inside low high (fails_is below k fault.Name are fails)),
    )))
      where
        all_low : k < length (entries tree.nodes (level_in tree j))
        all_low = omega (arith, (fails.before.3).0, ap (λ (l : List (List ℕ)). length l) records_are)

        last_end : 0 < length (level_in tree j) → slice_index ends (length (level_in tree j) - 1) ≡ length (entries tree.nodes (level_in tree j))
        last_end some = end_is (length (level_in tree j) - 1) (omega (arith, some)) ∙ ap (λ (l : List ℕ). length (entries tree.nodes l)) (take_all (length (level_in tree j) - 1 + 1) (level_in tree j) (omega (arith, some)))

        some_node : (ns : List ℕ) → k < length (entries tree.nodes ns) → 0 < length ns
        some_node [] inside = absurd (omega (arith, inside))
        some_node (n ∷ ns) inside = omega arith

        inside : i < length (level_in tree j)
        inside = ⊎_elim
            (λ (low : i < length (level_in tree j)). low)
            (λ (past : length (level_in tree j) ≤ i).
            let some : 0 < length (level_in tree j) = some_node (level_in tree j) all_low in
            absurd (omega (arith, before (length (level_in tree j) - 1) (omega (arith, past, some)), last_end some, all_low)))
            (cases_lt i (length (level_in tree j)))

        low : length (entries tree.nodes (take i (level_in tree j))) ≤ k
        low = from i refl
          where
            from : (m : ℕ) → m ≡ i → length (entries tree.nodes (take i (level_in tree j))) ≤ k
            from zero is_zero = subst (λ m. length (entries tree.nodes (take m (level_in tree j))) ≤ k) is_zero (omega arith)
            from (suc m) is_more =
                let end : slice_index ends m ≡ length (entries tree.nodes (take (m + 1) (level_in tree j))) = end_is m (omega (arith, is_more, inside)) in
                let same : m + 1 ≡ i = omega (arith, is_more) in
                subst (λ n. length (entries tree.nodes (take n (level_in tree j))) ≤ k) same (omega (arith, end, before m (omega (arith, is_more))))

        high : k < length (entries tree.nodes (take (i + 1) (level_in tree j)))
        high = omega (arith, end_is i inside, here (omega (arith, inside, ends_long)))

  -- ---- the root

  module _ (size total height root : ℕ) (marks : List Bool) (node : List ℕ) (at : ComesToRoot is_key is_value cmp tree size total height root marks node) where
    root_stands : root ∷ [] ≡ level_in tree 0
    root_stands = ap (λ n. n ∷ []) (sym at.root_is)

    some_level : 0 < levels_in tree
    some_level = omega (arith, at.some, at.height_is)

    -- the root was read
    pub root_taken : (new : List Bool) (records : List (List ℕ)) → root < total → get_or marks root true ≡ false → new ≡ set marks root true
        → IsRight is_key is_value cmp (place_in (size / 2 - 10) height (root ∷ []) 0) [] 0 node [] records → StandsAt is_key is_value cmp tree 0 new (root ∷ []) records (length records ∷ [])
    root_taken new records low clear marked right = record {
      scanned = scanned_more is_key is_value cmp tree 0 marks new records (length records ∷ []) at.scanned
          (subst (λ (l : List ℕ). All (λ n. n < tree.head.total) l) root_stands (λ k d inside. one k d inside))
          (subst (λ (l : List ℕ). MarksAll l marks new) root_stands (subst (λ (l : List Bool). MarksAll (root ∷ []) marks l) (sym marked) (marks_more marks marks [] root (marks_none marks) clear)))
          read;
      nodes_are = root_stands;
      read = read;
    }
      where
        one : (k d : ℕ) → k < length (root ∷ []) → get_or (root ∷ []) k d < tree.head.total
        one zero d inside = omega (arith, low, at.total_is)
        one (suc k) d inside = absurd (omega (arith, inside))

        first : HasRead is_key is_value cmp tree.nodes (size / 2 - 10) height (root ∷ []) [] 1 records (length records ∷ [])
        first = read_more is_key is_value cmp tree.nodes (size / 2 - 10) height (root ∷ []) [] 0 [] records [] (omega arith) (read_none is_key is_value cmp tree.nodes (size / 2 - 10) height (root ∷ []) [])
            (subst (λ (b : List ℕ). IsRight is_key is_value cmp (place_in (size / 2 - 10) height (root ∷ []) 0) [] 0 b [] records) at.node_is right)

        read : IsLevelRead is_key is_value cmp tree 0 records (length records ∷ [])
        read =
            subst (λ n. HasRead is_key is_value cmp tree.nodes (tree.head.node_size / 2 - 10) (levels_in tree - 0) (n ∷ []) [] 1 records (length records ∷ [])) (sym at.root_is)
            (subst (λ s. HasRead is_key is_value cmp tree.nodes (s / 2 - 10) (levels_in tree - 0) (root ∷ []) [] 1 records (length records ∷ [])) (sym at.size_is)
            (subst (λ h. HasRead is_key is_value cmp tree.nodes (size / 2 - 10) h (root ∷ []) [] 1 records (length records ∷ [])) (let is : height ≡ levels_in tree - 0 = omega (arith, at.height_is) in is) first))

    -- the root isn't in the file, or is the header node or a map node
    pub root_broken : (total ≤ root) ⊎ (get_or marks root true ≡ true) → Broken (failure 5 (node_place id root))
    root_broken why = inr (inl (
      refl,
      refl,
      refl,
      node_taken is_key is_value cmp tree id 0 root marks at.scanned some_level
          (subst (λ (l : List ℕ). Contains l root) root_stands (0, omega arith, refl)) at.blank (subst (λ t. (t ≤ root) ⊎ (get_or marks root true ≡ true)) (sym at.total_is) why),
    ))

    -- the root is wrong
    pub root_wrong : (above ends : List ℕ) (wrong : Fault) (finding : Finding) → IsWrong is_key is_value cmp (place_in (size / 2 - 10) height (root ∷ []) 0) [] 0 node [] wrong → IsWrongNode id above ends (root ∷ []) 0 wrong finding → Broken finding
    root_wrong above ends wrong finding is names = by wrong fails names
      where
        here : FailsAt is_key is_value cmp tree.nodes (size / 2 - 10) height (root ∷ []) [] 0 wrong
        here = fails_here is_key is_value cmp tree.nodes (size / 2 - 10) height (root ∷ []) [] 0 [] [] wrong (omega arith) (read_none is_key is_value cmp tree.nodes (size / 2 - 10) height (root ∷ []) [])
            (subst (λ (b : List ℕ). IsWrong is_key is_value cmp (place_in (size / 2 - 10) height (root ∷ []) 0) [] 0 b [] wrong) at.node_is is)

        fails : FailsAt is_key is_value cmp tree.nodes (tree.head.node_size / 2 - 10) (levels_in tree - 0) (level_in tree 0) [] 0 wrong
        fails =
            subst (λ (l : List ℕ). FailsAt is_key is_value cmp tree.nodes (tree.head.node_size / 2 - 10) (levels_in tree - 0) l [] 0 wrong) root_stands
            (subst (λ s. FailsAt is_key is_value cmp tree.nodes (s / 2 - 10) (levels_in tree - 0) (root ∷ []) [] 0 wrong) (sym at.size_is)
            (subst (λ h. FailsAt is_key is_value cmp tree.nodes (size / 2 - 10) h (root ∷ []) [] 0 wrong) (let same : height ≡ levels_in tree - 0 = omega (arith, at.height_is) in same) here))

        by : (w : Fault) → FailsAt is_key is_value cmp tree.nodes (tree.head.node_size / 2 - 10) (levels_in tree - 0) (level_in tree 0) [] 0 w → IsWrongNode id above ends (root ∷ []) 0 w finding → Broken finding
        by fault.Node failing found = inr (inl (
          ap rule_of found,
          ap found_of found,
          ap wanted_of found,
          subst (λ p. FailsNode is_key is_value id tree p) (sym (ap place_of found ∙ ap (λ (l : List ℕ). node_place id (slice_index l 0)) root_stands)) (node_fails is_key is_value cmp id tree 0 some_level [] 0 failing),
        ))
        by fault.Order failing found = inr (inr (inl (
          ap rule_of found,
          ap found_of found,
          ap wanted_of found,
          subst (λ p. FailsOrder cmp id tree p) (sym (ap place_of found ∙ ap (λ (l : List ℕ). node_place id (slice_index l 0)) root_stands)) (order_fails is_key is_value cmp id tree 0 some_level [] 0 failing),
        )))
        by fault.Name failing found = absurd (omega (arith, (failing.before.3).0))
