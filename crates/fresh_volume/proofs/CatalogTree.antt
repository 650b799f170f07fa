-- The catalog that a volume is made with, one leaf with six records, is a tree in its file.
use Rattle.std.proofs.Common.{◌≡◌, ◌⊎◌, inl, inr, ⊎_elim, ℕ, zero, suc, ◌+◌, ◌-◌, ◌*◌, ◌^◌, ◌<◌, ◌≤◌, nat_lt, Bool, true, false, true≢false, cond, List, [], ◌∷◌, ◌++◌, length, get_or, codes, IsTrue, refl, sym, ◌∙◌, ap, subst, arith, append_assoc}
use Rattle.std.specs.List.{range_with_len, count_by}
use Rattle.std.specs.Ordering.{nat_cmp, ordering_then, on}
use Rattle.std.specs.Cmp.Lexicographic.{slice_cmp}
use Rattle.std.specs.declared.cmp.Ordering.{Ordering}
use Rattle.std.specs.declared.cmp.Ordering.TheVariants.{Less}
use Rattle.std.proofs.lemmas.Bool.{ne_eqb}
use Rattle.std.proofs.lemmas.List.{append-nil, length-map}
use Rattle.std.proofs.lemmas.List.Elements.{All-from_get_or}
use Rattle.hx_bytes.specs.Field.{big, big_at, number_bytes, number_at}
use Rattle.hx_bytes.proofs.Reading.{Behind, behind_number, number_here}
use Rattle.cat_records.specs.declared.record.CatRecord.{CatRecord}
use Rattle.cat_records.specs.Keys.{catalog_key_bytes}
use Rattle.cat_records.specs.Records.{units_bytes}
use Rattle.flag_rows.specs.Bits.{bit_of}
use Rattle.btree_node.specs.Codec.{ReadsBack, head_of, leaf_head}
use Rattle.btree_node.specs.Keys.{IsCatalogKey, catalog_cmp, catalog_parent, catalog_units, anything}
use Rattle.btree_node.specs.Levels.{Nodes, Pair, key_of, pair_of, level, entries, Ascends}
use Rattle.btree_node.specs.MemLaws.{count_step, count_none}
use Rattle.btree_node.specs.Node.{items, next_of, back_of}
use Rattle.btree_node.specs.Store.{Store}
use Rattle.btree_node.specs.Tree.{IsTree, IsTreeNode, IsReached, pairs_of}
use Rattle.btree_node.specs.TreeFile.{TreeFile, TreeHead, IsTreeFile, catalog_form, shape_of, store_of}
use Rattle.btree_node.specs.declared.codec.TreeHeader.{TreeHeader}
use Rattle.hfs_model.specs.Fresh.{catalog_tree, catalog_item, new_folder, new_thread}
use Rattle.hfs_model.proofs.Lengths.{length-thread}
use Rattle.volume_make.specs.declared.layout.Layout.{Layout}
use Rattle.volume_make.specs.Texts.{new_file, leaf_items}
use Rattle.volume_make.proofs.Leaves.{length-key, length-folder, length-file}
use Rattle.fresh_volume.specs.Fresh.{IsFreshTree}
use Rattle.fresh_volume.proofs.Pairs.{pair_is}
use Rattle.fresh_volume.proofs.EmptyTrees.{map_bit, no_bit, reserved_is, form_is, map_nodes_are}

-- the fields of a key
record Fields (parent : ℕ) (name : List ℕ) : Type 0 where
  size : big_at 2 (catalog_key_bytes parent name) 0 ≡ 6 + 2 * length name
  count : big_at 2 (catalog_key_bytes parent name) 6 ≡ length name
  parent_is : parent < 2 ^ 32 → big_at 4 (catalog_key_bytes parent name) 2 ≡ parent

fields : (parent : ℕ) (name : List ℕ) → length name ≤ 255 → Fields parent name
fields parent name short =
    let whole = catalog_key_bytes parent name in
    let start : Behind whole (big 2 (6 + 2 * length name) ++ (big 4 parent ++ (big 2 (length name) ++ units_bytes name))) 0 = record { is = simp (append_assoc) } in
    let at_parent = behind_number 2 (6 + 2 * length name) start in
    let at_count = behind_number 4 parent at_parent in
    record {
      size = number_here _ 2 (6 + 2 * length name) (omega (arith, short)) start;
      count = number_here _ 2 (length name) (omega (arith, short)) at_count;
      parent_is = λ small. number_here _ 4 parent small at_parent;
    }

good_key : (parent : ℕ) (name : List ℕ) → length name ≤ 255 → IsCatalogKey (catalog_key_bytes parent name)
good_key parent name short =
    let f = fields parent name short in
    let long = length-key parent name in
    let size = f.size in
    let count = f.count in
    record { long = omega (arith, long); size = omega (arith, long, size); name = omega (arith, size, count); most = omega (arith, count, short) }

parent_of_key : (parent : ℕ) (name : List ℕ) → length name ≤ 255 → parent < 2 ^ 32 → catalog_parent (catalog_key_bytes parent name) ≡ parent
parent_of_key parent name short small = (fields parent name short).parent_is small

key_is : (parent : ℕ) (name : List ℕ) (value : CatRecord) → length name ≤ 255 → key_of (catalog_item parent name value) ≡ catalog_key_bytes parent name
key_is parent name value short = ap (λ (pair : Pair). pair.0) (pair_is parent name value short)

-- a lower parent comes first
less_parent : (a b : List ℕ) (p q : ℕ) → catalog_parent a ≡ p → catalog_parent b ≡ q → nat_cmp p q ≡ Less → catalog_cmp a b ≡ Less
less_parent a b p q first second less =
    let rest : Ordering = on catalog_units (slice_cmp nat_cmp) a b in
    ap (λ (m : ℕ). ordering_then (nat_cmp m (catalog_parent b)) rest) first
    ∙ ap (λ (n : ℕ). ordering_then (nat_cmp p n) rest) second
    ∙ ap (λ (o : Ordering). ordering_then o rest) less

-- names of the root's records, which are known
none_first : catalog_cmp (catalog_key_bytes 2 []) (catalog_key_bytes 2 (codes ".journal")) ≡ Less
unfolding number_bytes number_at
none_first = refl

none_before_info : catalog_cmp (catalog_key_bytes 2 []) (catalog_key_bytes 2 (codes ".journal_info_block")) ≡ Less
unfolding number_bytes number_at
none_before_info = refl

journal_first : catalog_cmp (catalog_key_bytes 2 (codes ".journal")) (catalog_key_bytes 2 (codes ".journal_info_block")) ≡ Less
unfolding number_bytes number_at
journal_first = refl

-- ---- the six records
module _ (layout : Layout) (name : List ℕ) (short : length name ≤ 255) where
  records : List (List ℕ)
  records = leaf_items layout name

  pub six : length (leaf_items layout name) ≡ 6
  unfolding leaf_items
  six = refl

  -- the keys of the six
  keys : List (List ℕ)
  keys = catalog_key_bytes 1 name ∷ catalog_key_bytes 2 [] ∷ catalog_key_bytes 2 (codes ".journal") ∷ catalog_key_bytes 2 (codes ".journal_info_block") ∷ catalog_key_bytes 16 [] ∷ catalog_key_bytes 17 [] ∷ []

  key_at : (k : ℕ) → k < 6 → key_of (get_or (leaf_items layout name) k []) ≡ get_or keys k []
  unfolding leaf_items keys
  key_at zero inside = key_is 1 name (new_folder 2 2) short
  key_at (suc zero) inside = key_is 2 [] (new_thread false 1 name) (omega arith)
  key_at (suc (suc zero)) inside = key_is 2 (codes ".journal") (new_file layout.block 17 layout.journal) (omega arith)
  key_at (suc (suc (suc zero))) inside = key_is 2 (codes ".journal_info_block") (new_file layout.block 16 layout.info) (omega arith)
  key_at (suc (suc (suc (suc zero)))) inside = key_is 16 [] (new_thread true 2 (codes ".journal_info_block")) (omega arith)
  key_at (suc (suc (suc (suc (suc zero))))) inside = key_is 17 [] (new_thread true 2 (codes ".journal")) (omega arith)
  key_at (suc (suc (suc (suc (suc (suc k)))))) inside = absurd (omega (arith, inside))

  good : (k : ℕ) → k < 6 → IsCatalogKey (get_or keys k [])
  unfolding keys
  good zero inside = good_key 1 name short
  good (suc zero) inside = good_key 2 [] (omega arith)
  good (suc (suc zero)) inside = good_key 2 (codes ".journal") (omega arith)
  good (suc (suc (suc zero))) inside = good_key 2 (codes ".journal_info_block") (omega arith)
  good (suc (suc (suc (suc zero)))) inside = good_key 16 [] (omega arith)
  good (suc (suc (suc (suc (suc zero))))) inside = good_key 17 [] (omega arith)
  good (suc (suc (suc (suc (suc (suc k)))))) inside = absurd (omega (arith, inside))

  parents : List ℕ
  parents = 1 ∷ 2 ∷ 2 ∷ 2 ∷ 16 ∷ 17 ∷ []

  parent_at : (k : ℕ) → k < 6 → catalog_parent (get_or keys k []) ≡ get_or parents k 0
  unfolding keys parents
  parent_at zero inside = parent_of_key 1 name short (omega arith)
  parent_at (suc zero) inside = parent_of_key 2 [] (omega arith) (omega arith)
  parent_at (suc (suc zero)) inside = parent_of_key 2 (codes ".journal") (omega arith) (omega arith)
  parent_at (suc (suc (suc zero))) inside = parent_of_key 2 (codes ".journal_info_block") (omega arith) (omega arith)
  parent_at (suc (suc (suc (suc zero)))) inside = parent_of_key 16 [] (omega arith) (omega arith)
  parent_at (suc (suc (suc (suc (suc zero))))) inside = parent_of_key 17 [] (omega arith) (omega arith)
  parent_at (suc (suc (suc (suc (suc (suc k)))))) inside = absurd (omega (arith, inside))

  lower : (i j : ℕ) → i < 6 → j < 6 → nat_cmp (get_or parents i 0) (get_or parents j 0) ≡ Less → catalog_cmp (get_or keys i []) (get_or keys j []) ≡ Less
  lower i j i_in j_in less = less_parent (get_or keys i []) (get_or keys j []) (get_or parents i 0) (get_or parents j 0) (parent_at i i_in) (parent_at j j_in) less

  rises : (i j : ℕ) → i < j → j < 6 → catalog_cmp (get_or keys i []) (get_or keys j []) ≡ Less
  unfolding keys parents
  rises zero zero before inside = absurd (omega (arith, before))
  rises zero (suc zero) before inside = lower 0 1 (omega arith) (omega arith) refl
  rises zero (suc (suc zero)) before inside = lower 0 2 (omega arith) (omega arith) refl
  rises zero (suc (suc (suc zero))) before inside = lower 0 3 (omega arith) (omega arith) refl
  rises zero (suc (suc (suc (suc zero)))) before inside = lower 0 4 (omega arith) (omega arith) refl
  rises zero (suc (suc (suc (suc (suc zero))))) before inside = lower 0 5 (omega arith) (omega arith) refl
  rises zero (suc (suc (suc (suc (suc (suc j)))))) before inside = absurd (omega (arith, inside))
  rises (suc zero) zero before inside = absurd (omega (arith, before))
  rises (suc zero) (suc zero) before inside = absurd (omega (arith, before))
  rises (suc zero) (suc (suc zero)) before inside = none_first
  rises (suc zero) (suc (suc (suc zero))) before inside = none_before_info
  rises (suc zero) (suc (suc (suc (suc zero)))) before inside = lower 1 4 (omega arith) (omega arith) refl
  rises (suc zero) (suc (suc (suc (suc (suc zero))))) before inside = lower 1 5 (omega arith) (omega arith) refl
  rises (suc zero) (suc (suc (suc (suc (suc (suc j)))))) before inside = absurd (omega (arith, inside))
  rises (suc (suc zero)) zero before inside = absurd (omega (arith, before))
  rises (suc (suc zero)) (suc zero) before inside = absurd (omega (arith, before))
  rises (suc (suc zero)) (suc (suc zero)) before inside = absurd (omega (arith, before))
  rises (suc (suc zero)) (suc (suc (suc zero))) before inside = journal_first
  rises (suc (suc zero)) (suc (suc (suc (suc zero)))) before inside = lower 2 4 (omega arith) (omega arith) refl
  rises (suc (suc zero)) (suc (suc (suc (suc (suc zero))))) before inside = lower 2 5 (omega arith) (omega arith) refl
  rises (suc (suc zero)) (suc (suc (suc (suc (suc (suc j)))))) before inside = absurd (omega (arith, inside))
  rises (suc (suc (suc zero))) zero before inside = absurd (omega (arith, before))
  rises (suc (suc (suc zero))) (suc zero) before inside = absurd (omega (arith, before))
  rises (suc (suc (suc zero))) (suc (suc zero)) before inside = absurd (omega (arith, before))
  rises (suc (suc (suc zero))) (suc (suc (suc zero))) before inside = absurd (omega (arith, before))
  rises (suc (suc (suc zero))) (suc (suc (suc (suc zero)))) before inside = lower 3 4 (omega arith) (omega arith) refl
  rises (suc (suc (suc zero))) (suc (suc (suc (suc (suc zero))))) before inside = lower 3 5 (omega arith) (omega arith) refl
  rises (suc (suc (suc zero))) (suc (suc (suc (suc (suc (suc j)))))) before inside = absurd (omega (arith, inside))
  rises (suc (suc (suc (suc zero)))) zero before inside = absurd (omega (arith, before))
  rises (suc (suc (suc (suc zero)))) (suc zero) before inside = absurd (omega (arith, before))
  rises (suc (suc (suc (suc zero)))) (suc (suc zero)) before inside = absurd (omega (arith, before))
  rises (suc (suc (suc (suc zero)))) (suc (suc (suc zero))) before inside = absurd (omega (arith, before))
  rises (suc (suc (suc (suc zero)))) (suc (suc (suc (suc zero)))) before inside = absurd (omega (arith, before))
  rises (suc (suc (suc (suc zero)))) (suc (suc (suc (suc (suc zero))))) before inside = lower 4 5 (omega arith) (omega arith) refl
  rises (suc (suc (suc (suc zero)))) (suc (suc (suc (suc (suc (suc j)))))) before inside = absurd (omega (arith, inside))
  rises (suc (suc (suc (suc (suc i))))) j before inside = absurd (omega (arith, before, inside))

  pub keys_good : (k : ℕ) → k < 6 → IsCatalogKey (key_of (get_or (leaf_items layout name) k []))
  keys_good k inside = subst IsCatalogKey (sym (key_at k inside)) (good k inside)

  pub keys_rise : Ascends catalog_cmp (leaf_items layout name)
  keys_rise i j before inside =
      let count = six in
      let j_in : j < 6 = omega (arith, inside, count) in
      let i_in : i < 6 = omega (arith, before, j_in) in
      ap (λ (k : List ℕ). catalog_cmp k (key_of (get_or (leaf_items layout name) j []))) (key_at i i_in) ∙ ap (catalog_cmp (get_or keys i [])) (key_at j j_in) ∙ rises i j before j_in

  pub items_short : (k : ℕ) → k < 6 → length (get_or (leaf_items layout name) k []) ≤ 2038
  unfolding leaf_items
  items_short zero inside = omega (arith, length-folder 1 2 2 name, short)
  items_short (suc zero) inside = omega (arith, length-thread 2 1 name false, short)
  items_short (suc (suc zero)) inside = omega (arith, length-file 2 17 layout.block layout.journal (codes ".journal"))
  items_short (suc (suc (suc zero))) inside = omega (arith, length-file 2 16 layout.block layout.info (codes ".journal_info_block"))
  items_short (suc (suc (suc (suc zero)))) inside = omega (arith, length-thread 16 2 (codes ".journal_info_block") true)
  items_short (suc (suc (suc (suc (suc zero))))) inside = omega (arith, length-thread 17 2 (codes ".journal") true)
  items_short (suc (suc (suc (suc (suc (suc k)))))) inside = absurd (omega (arith, inside))

-- ---- a tree with one leaf
module _ (block : ℕ) (file : TreeFile) (fresh : IsFreshTree (catalog_tree block 0) 2 file) (records : List (List ℕ)) (leaf : ReadsBack (file.nodes 1) leaf_head records) (long : length (file.nodes 1) ≡ 4096) (six_are : length records ≡ 6) (good_keys : (k : ℕ) → k < 6 → IsCatalogKey (key_of (get_or records k []))) (short_items : (k : ℕ) → k < 6 → length (get_or records k []) ≤ 2038) (rise : Ascends catalog_cmp records) where
  abbrev tree : TreeHeader
  tree = catalog_tree block 0

  abbrev nodes : Nodes
  nodes = file.nodes

  abbrev store : Store
  store = record (store_of file) { shape = shape_of (head_of tree); header = shape_of (head_of tree); unwritten = 64 }

  entries_are : entries nodes (1 ∷ []) ≡ records
  entries_are = append-nil (items (nodes 1)) ∙ leaf.items

  entries_long : length (entries nodes (1 ∷ [])) ≡ 6
  entries_long = ap length entries_are ∙ six_are

  level_node : (j k : ℕ) → j < 1 → k < length (level nodes 1 j) → IsTreeNode store (1 - j) (get_or (level nodes 1 j) k 0)
  level_node zero zero low inside = record { inside = omega arith; kind = leaf.is_node; size = long }
  level_node zero (suc k) low inside = absurd (omega (arith, inside))
  level_node (suc j) k low inside = absurd (omega (arith, low))

  level_key : (j k : ℕ) → j < 1 → k < length (entries nodes (level nodes 1 j)) → IsCatalogKey (key_of (get_or (entries nodes (level nodes 1 j)) k []))
  level_key zero k low inside = subst (λ (l : List (List ℕ)). IsCatalogKey (key_of (get_or l k []))) (sym entries_are) (good_keys k (omega (arith, inside, entries_long)))
  level_key (suc j) k low inside = absurd (omega (arith, low))

  level_short : (j k : ℕ) → j + 1 ≡ 1 → k < length (entries nodes (level nodes 1 j)) → length (get_or (entries nodes (level nodes 1 j)) k []) ≤ 2038
  level_short zero k is inside = subst (λ (l : List (List ℕ)). length (get_or l k []) ≤ 2038) (sym entries_are) (short_items k (omega (arith, inside, entries_long)))
  level_short (suc j) k is inside = absurd (omega (arith, is))

  level_rises : (j : ℕ) → j < 1 → Ascends catalog_cmp (entries nodes (level nodes 1 j))
  level_rises zero low = subst (Ascends catalog_cmp) (sym entries_are) rise
  level_rises (suc j) low = absurd (omega (arith, low))

  level_next : (j k : ℕ) → j < 1 → k < length (level nodes 1 j) → next_of (nodes (get_or (level nodes 1 j) k 0)) ≡ get_or (level nodes 1 j) (k + 1) 0
  level_next zero zero low inside = leaf.next
  level_next zero (suc k) low inside = absurd (omega (arith, inside))
  level_next (suc j) k low inside = absurd (omega (arith, low))

  level_back : (j k : ℕ) → j < 1 → k < length (level nodes 1 j) → back_of (nodes (get_or (level nodes 1 j) k 0)) ≡ get_or (0 ∷ level nodes 1 j) k 0
  level_back zero zero low inside = leaf.back
  level_back zero (suc k) low inside = absurd (omega (arith, inside))
  level_back (suc j) k low inside = absurd (omega (arith, low))

  level_first : (j : ℕ) → j + 1 ≡ 1 → 1 ≡ get_or (level nodes 1 j) 0 0
  level_first zero is = refl
  level_first (suc j) is = absurd (omega (arith, is))

  level_last : (j : ℕ) → j + 1 ≡ 1 → 1 ≡ get_or (level nodes 1 j) (length (level nodes 1 j) - 1) 0
  level_last zero is = refl
  level_last (suc j) is = absurd (omega (arith, is))

  at_level : (below place n : ℕ) → below < 1 → place < length (level nodes 1 below) → get_or (level nodes 1 below) place 0 ≡ n → (place ≡ 0) × (n ≡ 1)
  at_level zero zero n low inside is = (refl, sym is)
  at_level zero (suc place) n low inside is = absurd (omega (arith, inside))
  at_level (suc below) place n low inside is = absurd (omega (arith, low))

  reached_one : (n : ℕ) → IsReached store n → n ≡ 1
  reached_one n reached = (at_level reached.below reached.place n reached.of_tree reached.inside reached.is).1

  bit : (n : ℕ) → n < 30720 → bit_of file.map n ≡ nat_lt n 2
  bit n low = map_bit tree 2 file fresh n low

  used_is : (n : ℕ) → n < 64 → (bit_of file.map n ≡ true → IsReached store n ⊎ IsTrue (store.reserved n)) × (IsReached store n ⊎ IsTrue (store.reserved n) → bit_of file.map n ≡ true)
  used_is zero low = (λ used. inr (reserved_is tree 2 file fresh 0), λ why. bit 0 (omega arith))
  used_is (suc zero) low = (λ used. inl (record { below = 0; place = 0; of_tree = omega arith; inside = omega arith; is = refl }), λ why. bit 1 (omega arith))
  used_is (suc (suc n)) low = (
    λ used. absurd (true≢false (sym used ∙ no_bit tree 2 file fresh (suc (suc n)) (omega arith))),
    λ why. ⊎_elim (λ (reached : IsReached store (suc (suc n))). absurd (omega (arith, reached_one (suc (suc n)) reached)))
        (λ (reserved : IsTrue (store.reserved (suc (suc n)))). absurd (true≢false (sym reserved ∙ reserved_is tree 2 file fresh (suc (suc n)) ∙ ne_eqb (suc (suc n)) 0 (λ zero_is. absurd (omega (arith, zero_is))))))
        why,
  )

  counted : count_by (λ n. bit_of file.map n) (range_with_len 0 64) ≡ 2
  counted =
      let p : ℕ → Bool = λ n. bit_of file.map n in
      let none : count_by p (range_with_len 2 62) ≡ 0 = count_none p 2 62 (λ k low high. no_bit tree 2 file fresh k low) in
      let one : count_by p (range_with_len 1 63) ≡ 1 = count_step p 1 62 ∙ ap (λ (b : Bool). cond b 1 0 + count_by p (range_with_len 2 62)) (bit 1 (omega arith)) ∙ ap (λ (n : ℕ). 1 + n) none in
      count_step p 0 63 ∙ ap (λ (b : Bool). cond b 1 0 + count_by p (range_with_len 1 63)) (bit 0 (omega arith)) ∙ ap (λ (n : ℕ). 1 + n) one

  one_place : (j k i m : ℕ) → j < 1 → k < length (level nodes 1 j) → i < 1 → m < length (level nodes 1 i) → (j ≡ i) × (k ≡ m)
  one_place j k i m j_in k_in i_in m_in =
      let first = (at_level j k (get_or (level nodes 1 j) k 0) j_in k_in refl).0 in
      let second = (at_level i m (get_or (level nodes 1 i) m 0) i_in m_in refl).0 in
      (omega (arith, j_in, i_in), omega (arith, first, second))

  rules_are : IsTree IsCatalogKey catalog_cmp store
  rules_are = record {
    levels = record {
      nodes = level_node;
      named = λ j low. absurd (omega (arith, low));
      some = λ j k low inside. absurd (omega (arith, low));
      keys = level_key;
      short = level_short;
    };
    ordered = record { ascends = level_rises; next = level_next; back = level_back };
    header = record {
      depth = omega arith;
      empty = λ none. absurd (omega (arith, none));
      leaf_records = sym (length-map (entries nodes (1 ∷ [])) pair_of ∙ entries_long);
      first = level_first;
      last = level_last;
      no_leaf = λ none. absurd (omega (arith, none));
    };
    mapped = record {
      used = used_is;
      of_tree = λ n reached. reserved_is tree 2 file fresh n ∙ ne_eqb n 0 (λ zero_is. absurd (omega (arith, zero_is, reached_one n reached)));
      header = reserved_is tree 2 file fresh 0;
      distinct = λ j k i m j_in k_in i_in m_in same. one_place j k i m j_in k_in i_in m_in;
      free = omega (arith, counted);
    };
  }

  -- the store of the file, whose header record is the one that was made
  store_is : store ≡ store_of file
  store_is = ap (λ (h : TreeHead). record (store_of file) { shape = shape_of h; header = shape_of h; unwritten = h.total }) (sym fresh.head)

  pub one_leaf_stands : IsTreeFile catalog_form IsCatalogKey anything catalog_cmp file
  one_leaf_stands =
      let total : file.head.total ≡ 64 = ap (λ (h : TreeHead). h.total) fresh.head in
      record {
        has_form = form_is tree 2 file fresh catalog_form refl (omega arith) (omega arith) refl refl;
        map_nodes = map_nodes_are tree 2 file fresh (omega arith);
        rules = subst (λ (s : Store). IsTree IsCatalogKey catalog_cmp s) store_is rules_are;
        values = All-from_get_or (λ (pair : Pair). anything pair.1) (pairs_of (store_of file)) ([], []) (λ i low. tt);
        no_more = λ n past. no_bit tree 2 file fresh n (omega (arith, past, total));
      }
