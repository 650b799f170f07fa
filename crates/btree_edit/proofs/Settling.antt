-- The end of an edit: the root, and the tree's numbers.
use Rattle.std.proofs.Common.{◌≡◌, ◌≢◌, ℕ, zero, suc, ◌+◌, ◌-◌, ◌*◌, ◌/◌, ◌^◌, ◌<◌, ◌≤◌, Bool, true, false, List, [], ◌∷◌, map, length, get_or, inl, inr, refl, sym, ◌∙◌, ap, subst, arith}
use Rattle.std.proofs.lemmas.Bool.{cases_lt, cases_eq}
use Rattle.std.proofs.lemmas.List.{length-map, length-append, append-nil}
use Rattle.std.specs.declared.cmp.Ordering.{Ordering}
use Rattle.hx_bytes.specs.Field.{big_at}
use Rattle.btree_node.specs.Node.{items, next_of, back_of, IsNodeOf}
use Rattle.btree_node.specs.Levels.{entries, leaves, key_of, value_of, child_of, pair_of, record_for, Ascends}
use Rattle.btree_node.specs.Store.{Store, SameStore, SameNodes, ChangesOnly, MapsOnly, ShapesOnly, with_free}
use Rattle.btree_node.specs.Tree.{level_of, pairs_of, kind_at, IsTreeNode, HasHeader}
use Rattle.btree_node.specs.declared.store.TreeShape.{TreeShape}
use Rattle.btree_node.proofs.Levels.{same_entries}
use Rattle.btree_edit.specs.Halves.{put_of}
use Rattle.btree_edit.specs.LevelEdit.{bit, times, head_or, last_or, taken, node_room, records_on}
use Rattle.btree_edit.specs.Climb.{LevelLists, IsTreeBut, NoneEmpty}
use Rattle.btree_edit.specs.Rising.{Climbs, leaf_records, Rises, IsLowering, BoundsRoot, RootHasTwoChildren, MakesTree, IsBare, IsLeafRecord, TakesNode}
use Rattle.btree_edit.specs.declared.desk.Desk.{Desk}
use Rattle.btree_edit.proofs.Counting.{bit_same, bit_other, bit_most, bit_true}
use Rattle.btree_edit.proofs.Fitting.{taken_two}
use Rattle.btree_edit.proofs.Linking.{head_get, last_get}
use Rattle.btree_edit.proofs.Naming.{names_keys, names_ascend, names_short}
use Rattle.btree_edit.proofs.Repeated.{same_store_both}
use Rattle.btree_edit.proofs.Whole.{tree_of, same_level, pairs_then}
use Rattle.btree_edit.proofs.Crowning.{not_reserved, is_used, but_kept, above, topped, lowered, child_named, new_top, emptied, none_at}

-- a fresh node that was taken and written
pub takes_node : (s m t : Store) (node : ℕ) (bytes : List ℕ) → 0 < s.shape.free → node < s.shape.total → s.used node ≡ false → s.reserved node ≡ false → MapsOnly node true s m
    → m.shape ≡ with_free s.shape (s.shape.free - 1) → SameStore s m → ChangesOnly node bytes m t → t.shape ≡ m.shape → SameStore m t → TakesNode s t node bytes
takes_node s m t node bytes some low unused free maps shape same changes shape2 same2 =
    let used2 : (n : ℕ) → t.used n ≡ m.used n = changes.used in
    record {
      here = changes.here;
      low = low;
      others = λ n unreserved other. changes.others n other ∙ maps.nodes n unreserved;
      used = λ n. elim (cases_eq n node) [
        | inl is ↦ omega (arith, ap bit (used2 n ∙ ap (λ k. m.used k) is ∙ maps.here), ap bit (ap (λ k. s.used k) is ∙ unused), bit_same node n (sym is))
        | inr other ↦ omega (arith, ap bit (used2 n ∙ maps.others n other), bit_other node n (λ e. other (sym e)))
      ];
      free = omega (arith, ap (λ h. h.free) shape2, ap (λ h. h.free) shape);
      same = same_store_both same same2;
    }

-- nodes that were free and are free, over one node more
module _ (start s t : Store) (node : ℕ) (bytes : List ℕ) (takes : TakesNode s t node bytes) (same : SameStore start s)
    (others : (n : ℕ) → start.reserved n ≡ false → start.used n ≡ false → s.used n ≡ false → s.nodes n ≡ start.nodes n)
  where
    pub others_taken : (n : ℕ) → start.reserved n ≡ false → start.used n ≡ false → t.used n ≡ false → t.nodes n ≡ start.nodes n
    others_taken n free unused still =
        let other : n ≢ node = λ e. absurd (omega (arith, takes.used n, ap bit still, bit_same node n (sym e))) in
        let before : s.used n ≡ false = by (s.used n) refl (omega (arith, takes.used n, ap bit still, bit_other node n (λ e. other (sym e)))) in
        takes.others n (same.reserved n ∙ free) other ∙ others n free unused before
      where
        by : (b : Bool) → s.used n ≡ b → bit (s.used n) ≡ 0 → s.used n ≡ false
        by true e none = absurd (omega (arith, ap bit e))
        by false e none = e

-- each level of a whole tree has a node, and each of its nodes a record
module _ (is_key : List ℕ → Type 0) (cmp : List ℕ → List ℕ → Ordering) (s : Store) (depth : ℕ) (levels : LevelLists) (but : IsTreeBut is_key cmp s depth levels 0 0 []) (top : 0 < depth → length (levels 0) ≡ 1)
  where
    some_entries : (ns : List ℕ) → 0 < length ns → NoneEmpty s.nodes ns → 0 < length (entries s.nodes ns)
    some_entries [] some full = absurd (omega (arith, some))
    some_entries (n ∷ ns) some full = omega (arith, full 0 (omega arith), length-append (items (s.nodes n)) (entries s.nodes ns))

    some_nodes : (j : ℕ) → j < depth → 0 < length (levels j)
    some_nodes zero low = omega (arith, top (omega (arith, low)))
    some_nodes (suc j) low =
        let here = some_entries (levels j) (some_nodes j (omega (arith, low))) (but.some j (omega (arith, low)) (inr (omega arith))) in
        let named = ap length (but.named j (omega (arith, low)) (λ is. absurd (omega (arith, is)))) in
        let next : levels (j + 1) ≡ levels (suc j) = ap levels {x = j + 1} {y = suc j} (omega arith) in
        omega (arith, here, named, length-map (levels (j + 1)) (λ n. record_for s.nodes n), ap length next)

    pub some_records : 0 < depth → 0 < length (leaf_records s levels depth)
    some_records some =
        let low : depth ≡ suc (depth - 1) = omega (arith, some) in
        let full = some_entries (levels (depth - 1)) (some_nodes (depth - 1) (omega (arith, some))) (but.some (depth - 1) (omega (arith, some)) (inr (omega arith))) in
        omega (arith, full, ap (λ d. length (leaf_records s levels d)) low)

module _ {is_key : List ℕ → Type 0} {cmp : List ℕ → List ℕ → Ordering} (max : ℕ)
    (key_length : (x : List ℕ) → is_key x → length x ≡ big_at 2 x 0 + 2) (key_most : (x : List ℕ) → is_key x → length x ≤ max + 2)
  where
    -- what two records that name nodes take
    pub two_fit : (start s : Store) (records : List (List ℕ)) (shape : TreeShape) (left budget : ℕ) (desk : Desk) → Climbs is_key cmp max start s records shape 2 left desk budget → 0 < start.shape.depth
        → 3 * (max + 8) ≤ node_room s.shape.node_size → taken (put_of 2 desk.first desk.second) ≤ node_room s.shape.node_size
    two_fit start s records shape left budget desk climbs some wide =
        let names : records_on 2 desk ≡ map (λ n. record_for s.nodes n) (climbs.levels 0) = climbs.handed refl in
        let level = climbs.but.each 0 some in
        let each = names_short is_key cmp key_length s.nodes (climbs.levels 0) (climbs.but.some 0 some (inr (omega arith))) level.keys (max + 2) key_most in
        let here : (k : ℕ) → k < length (records_on 2 desk) → length (get_or (records_on 2 desk) k []) + 2 ≤ max + 8 =
        subst (λ l. (k : ℕ) → k < length l → length (get_or l k []) + 2 ≤ max + 8) (sym names) (λ k inside. omega (arith, each k inside)) in
        omega (arith, taken_two (max + 8) (records_on 2 desk) (omega arith) here)

    -- a root above two nodes
    pub rises_raised : (start s t : Store) (records : List (List ℕ)) (shape : TreeShape) (left budget : ℕ) (desk : Desk) → Climbs is_key cmp max start s records shape 2 left desk budget → 0 < start.shape.depth
        → (node : ℕ) (bytes : List ℕ) → TakesNode s t node bytes → IsNodeOf (kind_at (shape.depth + 1)) (shape.depth + 1) bytes → length bytes ≡ s.shape.node_size
        → next_of bytes ≡ 0 → back_of bytes ≡ 0 → items bytes ≡ put_of 2 desk.first desk.second
        → Rises is_key cmp max start t records (record shape { depth = shape.depth + 1; root = node })
    rises_raised start s t records shape left budget desk climbs some node bytes takes is_node size next back are =
        let names : items bytes ≡ map (λ n. record_for s.nodes n) (climbs.levels 0) = are ∙ climbs.handed refl in
        let level = climbs.but.each 0 some in
        let none_empty = climbs.but.some 0 some (inr (omega arith)) in
        let here : items (t.nodes node) ≡ map (λ n. record_for s.nodes n) (climbs.levels 0) = ap items takes.here ∙ names in
        let at : shape.depth + 1 ≡ suc start.shape.depth = omega (arith, climbs.depth) in
        let tree_node : IsTreeNode t (suc start.shape.depth) node = record {
          inside = omega (arith, takes.low, takes.same.total);
          kind = subst (λ h. IsNodeOf (kind_at h) h (t.nodes node)) at (subst (λ l. IsNodeOf (kind_at (shape.depth + 1)) (shape.depth + 1) l) (sym takes.here) is_node);
          size = ap length takes.here ∙ size ∙ sym takes.same.node_size;
        } in
        let but = topped key_length s t start.shape.depth climbs.levels 0 [] climbs.but node tree_node
        (ap next_of takes.here ∙ next) (ap back_of takes.here ∙ back)
        (omega (arith, ap length (ap items takes.here ∙ are)))
        (subst (λ l. (k : ℕ) → k < length l → is_key (key_of (get_or l k []))) (sym here) (names_keys is_key cmp key_length s.nodes (climbs.levels 0) none_empty level.keys))
        (subst (λ l. Ascends cmp l) (sym here) (names_ascend is_key cmp key_length s.nodes (climbs.levels 0) none_empty level.keys level.ascends))
        (λ none. absurd (omega arith)) (λ any. here) takes.others takes.used takes.same.node_size takes.same.total takes.free takes.same.reserved in
        let deep : suc start.shape.depth ≡ shape.depth + 1 = sym at in
        let low : start.shape.depth ≡ suc (start.shape.depth - 1) = omega arith in
        let lowest : (f : ℕ → List ℕ) → above node climbs.levels start.shape.depth ≡ climbs.levels (start.shape.depth - 1) = λ f. ap (λ i. above node climbs.levels i) low in
        let not_node : (k : ℕ) → k < length (climbs.levels (start.shape.depth - 1)) → items (t.nodes (get_or (climbs.levels (start.shape.depth - 1)) k 0)) ≡ items (s.nodes (get_or (climbs.levels (start.shape.depth - 1)) k 0)) = λ k inside.
        let used = is_used s start.shape.depth climbs.levels 0 0 [] climbs.but (start.shape.depth - 1) k (omega arith) inside in
        ap items (takes.others (get_or (climbs.levels (start.shape.depth - 1)) k 0) (not_reserved s start.shape.depth climbs.levels 0 0 [] climbs.but (start.shape.depth - 1) k (omega arith) inside)
        (λ e. absurd (omega (arith, used, ap (λ n. bit (s.used n)) e, takes.used node, bit_same node node refl, bit_most (t.used node))))) in
        record {
          levels = above node climbs.levels;
          but = subst (λ d. IsTreeBut is_key cmp t d (above node climbs.levels) 0 0 []) deep but;
          top = λ any. refl;
          made = ap (λ d. leaf_records t (above node climbs.levels) d) (sym deep) ∙ ap (λ l. entries t.nodes l) (lowest (λ i. []))
              ∙ same_entries s.nodes t.nodes (climbs.levels (start.shape.depth - 1)) not_node ∙ climbs.made;
          first = λ any. climbs.first ∙ ap (λ l. head_or l 0) (sym (lowest (λ i. [])) ∙ ap (λ i. above node climbs.levels i) {y = shape.depth + 1 - 1} (omega arith));
          last = λ any. climbs.last ∙ ap (λ l. last_or l 0) (sym (lowest (λ i. [])) ∙ ap (λ i. above node climbs.levels i) {y = shape.depth + 1 - 1} (omega arith));
          none = λ none. absurd (omega arith);
          bounds = record {
            grown = λ deep_start same_depth. absurd (omega (arith, climbs.depth));
            two = λ any less. ap length (ap items takes.here ∙ are);
            over = λ deep_start less. climbs.over deep_start refl;
          };
          same = same_store_both climbs.same takes.same;
          others = others_taken start s t node bytes takes climbs.same climbs.others;
        }

    -- a first leaf
    pub rises_planted : (s t : Store) (shape : TreeShape) (bytes rec : List ℕ) → IsBare is_key cmp s → IsLeafRecord is_key s rec
        → (node : ℕ) → TakesNode s t node bytes → IsNodeOf (kind_at 1) 1 bytes → length bytes ≡ s.shape.node_size
        → next_of bytes ≡ 0 → back_of bytes ≡ 0 → items bytes ≡ rec ∷ []
        → Rises is_key cmp max s t (rec ∷ []) (record shape { depth = 1; root = node; first = node; last = node })
    rises_planted s t shape bytes rec bare is_record node takes is_node size next back are =
        let here : items (t.nodes node) ≡ rec ∷ [] = ap items takes.here ∙ are in
        let tree_node : IsTreeNode t 1 node = record {
          inside = omega (arith, takes.low, takes.same.total);
          kind = subst (λ l. IsNodeOf (kind_at 1) 1 l) (sym takes.here) is_node;
          size = ap length takes.here ∙ size ∙ sym takes.same.node_size;
        } in
        let only : (P : List ℕ → Type 0) → P rec → (k : ℕ) → k < length (items (t.nodes node)) → P (get_or (items (t.nodes node)) k []) = λ P h.
        subst (λ l. (k : ℕ) → k < length l → P (get_or l k [])) (sym here) (λ k inside. subst (λ i. P (get_or (rec ∷ []) i [])) {x = 0} (omega arith) h) in
        let but = topped key_length s t 0 (λ j. []) 0 [] bare node tree_node (ap next_of takes.here ∙ next) (ap back_of takes.here ∙ back) (omega (arith, ap length here))
        (only (λ r. is_key (key_of r)) is_record.key)
        (subst (λ l. Ascends cmp l) (sym here) (λ i j less inside. absurd (omega arith)))
        (λ none. only (λ r. length r ≤ s.shape.node_size / 2 - 10) is_record.short) (λ some. absurd (omega arith)) takes.others takes.used takes.same.node_size takes.same.total takes.free takes.same.reserved in
        record {
          levels = above node (λ j. []);
          but = but;
          top = λ any. refl;
          made = append-nil (items (t.nodes node)) ∙ here;
          first = λ any. refl;
          last = λ any. refl;
          none = λ none. absurd (omega arith);
          bounds = record { grown = λ deep same_depth. absurd (omega arith); two = λ any less. absurd (omega arith); over = λ deep less. absurd (omega arith) };
          same = takes.same;
          others = λ n free unused still. takes.others n free (λ e. absurd (omega (arith, takes.used n, ap bit still, bit_same node n (sym e))));
        }

    -- a tree whose leaves are gone
    pub rises_emptied : (start s : Store) (records : List (List ℕ)) (shape after : TreeShape) (left budget : ℕ) (desk : Desk) → Climbs is_key cmp max start s records shape 0 left desk budget → 0 < start.shape.depth
        → after.depth ≡ 0 → after.root ≡ 0 → after.first ≡ 0 → after.last ≡ 0 → Rises is_key cmp max start s records after
    rises_emptied start s records shape after left budget desk climbs some depth root first last = record {
      levels = climbs.levels;
      but = subst (λ d. IsTreeBut is_key cmp s d climbs.levels 0 0 []) (sym depth) (emptied s start.shape.depth climbs.levels 0 [] climbs.but climbs.top);
      top = λ any. absurd (omega arith);
      made = ap (λ d. leaf_records s climbs.levels d) depth
          ∙ sym (ap (λ l. entries s.nodes l) (none_at s start.shape.depth climbs.levels 0 [] climbs.but climbs.top (start.shape.depth - 1) (omega arith))) ∙ climbs.made;
      first = λ any. absurd (omega arith);
      last = λ any. absurd (omega arith);
      none = λ none. (root, first, last);
      bounds = record { grown = λ deep same_depth. absurd (omega (arith, depth)); two = λ any less. absurd (omega (arith, depth)); over = λ deep less. absurd (omega (arith, depth)) };
      same = climbs.same;
      others = climbs.others;
    }

    -- a root that stays
    pub rises_kept : (start s : Store) (records : List (List ℕ)) (shape : TreeShape) (left budget : ℕ) (desk : Desk) → Climbs is_key cmp max start s records shape 1 left desk budget → 0 < start.shape.depth
        → IsLowering is_key cmp max start s records shape (budget + 5)
    rises_kept start s records shape left budget desk climbs some = record {
      some = omega (arith, climbs.depth);
      split = climbs.thrift.split;
      twin = λ any. subst (λ n. 2 ≤ length (climbs.levels (n - climbs.thrift.split))) (sym climbs.depth) (climbs.thrift.twin any);
      enough = omega (arith, climbs.thrift.enough, climbs.depth);
      low = omega (arith, climbs.depth);
      alone = λ j inside one. climbs.alone j (omega (arith, climbs.depth)) one;
      rises = record {
        levels = climbs.levels;
        but = subst (λ d. IsTreeBut is_key cmp s d climbs.levels 0 0 []) (sym climbs.depth) climbs.but;
        top = λ any. climbs.top ∙ ap (λ n. n ∷ []) (sym climbs.root);
        made = ap (λ d. leaf_records s climbs.levels d) {y = suc (start.shape.depth - 1)} (omega (arith, climbs.depth)) ∙ climbs.made;
        first = λ any. climbs.first ∙ ap (λ i. head_or (climbs.levels i) 0) {y = shape.depth - 1} (omega (arith, climbs.depth));
        last = λ any. climbs.last ∙ ap (λ i. last_or (climbs.levels i) 0) {y = shape.depth - 1} (omega (arith, climbs.depth));
        none = λ none. absurd (omega (arith, climbs.depth));
        bounds = record {
          grown = λ deep same_depth. omega (arith, climbs.grown deep refl, ap (λ n. length (items (s.nodes n))) climbs.root);
          two = λ any less. absurd (omega (arith, climbs.depth));
          over = λ deep less. absurd (omega (arith, climbs.depth));
        };
        same = climbs.same;
        others = climbs.others;
      };
    }

    -- a store that was read
    pub rises_read : (start s t : Store) (records : List (List ℕ)) (shape : TreeShape) → t.shape ≡ s.shape → SameNodes s t → SameStore s t → Rises is_key cmp max start s records shape → Rises is_key cmp max start t records shape
    rises_read start s t records shape shape_is nodes same rises =
        let same_all : (ns : List ℕ) → entries t.nodes ns ≡ entries s.nodes ns = λ ns. same_entries s.nodes t.nodes ns (λ k inside. ap items (nodes.nodes (get_or ns k 0))) in
        let leaves_same : (d : ℕ) → leaf_records t rises.levels d ≡ leaf_records s rises.levels d = λ d. by_depth d same_all rises.levels in
        record {
          levels = rises.levels;
          but = but_kept s t shape.depth rises.levels 0 0 [] rises.but (ap (λ h. h.node_size) shape_is) (ap (λ h. h.total) shape_is) (ap (λ h. h.free) shape_is)
              (λ j k low inside. nodes.nodes (get_or (rises.levels j) k 0)) nodes.used same.reserved;
          top = rises.top;
          made = leaves_same shape.depth ∙ rises.made;
          first = rises.first;
          last = rises.last;
          none = rises.none;
          bounds = record {
            grown = λ deep same_depth. omega (arith, rises.bounds.grown deep same_depth, ap (λ l. length (items l)) (nodes.nodes shape.root));
            two = λ any less. ap (λ l. length (items l)) (nodes.nodes shape.root) ∙ rises.bounds.two any less;
            over = rises.bounds.over;
          };
          same = same_store_both rises.same same;
          others = λ n free unused still. nodes.nodes n ∙ rises.others n free unused (sym (nodes.used n) ∙ still);
        }
      where
        by_depth : (d : ℕ) → ((ns : List ℕ) → entries t.nodes ns ≡ entries s.nodes ns) → (levels : LevelLists) → leaf_records t levels d ≡ leaf_records s levels d
        by_depth zero all levels = refl
        by_depth (suc d) all levels = all (levels d)

    -- a root with one record is given back
    module _ (start s t : Store) (records : List (List ℕ)) (shape : TreeShape) (rest : ℕ) (lowering : IsLowering is_key cmp max start s records shape rest) (more : 0 < rest) (deep : 1 < shape.depth) (one : length (items (s.nodes shape.root)) ≡ 1) (small : s.shape.total ≤ 2 ^ 32)
      where
        abbrev rises : Rises is_key cmp max start s records shape
        rises = lowering.rises

        deep_is : shape.depth ≡ suc (shape.depth - 1)
        deep_is = omega arith

        but_root : IsTreeBut is_key cmp s (suc (shape.depth - 1)) rises.levels 0 0 []
        but_root = subst (λ d. IsTreeBut is_key cmp s d rises.levels 0 0 []) deep_is rises.but

        top_is : rises.levels 0 ≡ shape.root ∷ []
        top_is = rises.top (omega arith)

        root_at : get_or (rises.levels 0) 0 0 ≡ shape.root
        root_at = ap (λ l. get_or l 0 0) top_is

        split_inside : 0 < lowering.split → shape.depth - lowering.split ≡ suc (shape.depth - 1 - lowering.split)
        split_inside any = elim (cases_lt lowering.split shape.depth) [
          | inl below ↦ omega arith
          | inr past ↦
              let top_two = lowering.twin any in
              absurd (omega (arith, top_two, ap (λ i. length (rises.levels i)) {x = shape.depth - lowering.split} {y = 0} (omega arith), ap length top_is))
        ]

        -- it may be given back
        pub root_used : s.used shape.root ≡ true
        root_used = bit_true (s.used shape.root) (omega (arith, subst (λ n. bit (s.used n) ≡ 1) root_at (is_used s shape.depth rises.levels 0 0 [] rises.but 0 0 (omega arith) (omega (arith, ap length top_is)))))

        pub root_free : s.reserved shape.root ≡ false
        root_free = subst (λ n. s.reserved n ≡ false) root_at (not_reserved s shape.depth rises.levels 0 0 [] rises.but 0 0 (omega arith) (omega (arith, ap length top_is)))

        -- its record names its child
        pub root_record : 4 ≤ length (value_of (get_or (items (s.nodes shape.root)) 0 []))
        root_record = child_named key_length s (shape.depth - 1) rises.levels 0 [] but_root shape.root top_is (omega arith) one small

        pub rises_lowered : MapsOnly shape.root false s t → t.shape.node_size ≡ s.shape.node_size → t.shape.free ≡ s.shape.free + 1 → SameStore s t
            → IsLowering is_key cmp max start t records (record shape { root = child_of (get_or (items (s.nodes shape.root)) 0 []); depth = shape.depth - 1 }) (rest - 1)
        rises_lowered maps size free same =
            let used : (n : ℕ) → bit (t.used n) + times n (shape.root ∷ []) ≡ bit (s.used n) = λ n. elim (cases_eq n shape.root) [
              | inl is ↦ omega (arith, ap bit (ap (λ k. t.used k) is ∙ maps.here), ap bit (ap (λ k. s.used k) is ∙ root_used), bit_same shape.root n (sym is))
              | inr other ↦ omega (arith, ap bit (maps.others n other), bit_other shape.root n (λ e. other (sym e)))
            ] in
            let but = lowered key_length s (shape.depth - 1) rises.levels 0 [] but_root shape.root top_is (omega arith) one small t maps.nodes used size same.total free same.reserved in
            let low : shape.depth - 1 ≡ suc (shape.depth - 1 - 1) = omega arith in
            let lowest : (i : ℕ) → i ≡ shape.depth - 1 - 1 → rises.levels (suc i) ≡ rises.levels (shape.depth - 1) = λ i is. ap (λ k. rises.levels k) (omega arith) in
            record {
              rises = record {
                levels = λ j. rises.levels (suc j);
                but = but;
                top = λ some. new_top key_length s (shape.depth - 1) rises.levels 0 [] but_root shape.root top_is (omega arith) one small;
                made = ap (λ d. leaf_records t (λ j. rises.levels (suc j)) d) low
                    ∙ ap (λ l. entries t.nodes l) (lowest (shape.depth - 1 - 1) refl)
                    ∙ same_entries s.nodes t.nodes (rises.levels (shape.depth - 1)) (λ k inside. ap items (maps.nodes (get_or (rises.levels (shape.depth - 1)) k 0)
                    (not_reserved s shape.depth rises.levels 0 0 [] rises.but (shape.depth - 1) k (omega arith) inside)))
                    ∙ ap (λ d. leaf_records s rises.levels d) {x = suc (shape.depth - 1)} {y = shape.depth} (omega arith)
                    ∙ rises.made;
                first = λ some. rises.first (omega arith) ∙ ap (λ l. head_or l 0) (sym (lowest (shape.depth - 1 - 1) refl));
                last = λ some. rises.last (omega arith) ∙ ap (λ l. last_or l 0) (sym (lowest (shape.depth - 1 - 1) refl));
                none = λ none. absurd (omega arith);
                bounds = record {
                  grown = λ deep_start same_depth. absurd (omega (arith, lowering.low));
                  two = λ any less. absurd (omega (arith, lowering.low));
                  over = λ deep_start less. absurd (omega (arith, lowering.low));
                };
                same = same_store_both rises.same same;
                others = λ n free_one unused still.
                    let before : s.used n ≡ false = elim (cases_eq n shape.root) [
                      | inl is ↦
                          let was : start.used shape.root ≡ true = subst (λ m. start.used m ≡ true) root_at (lowering.alone 0 (omega arith) (ap length top_is)) in
                          absurd (omega (arith, ap bit was, ap bit unused, ap (λ m. bit (start.used m)) is))
                      | inr other ↦ sym (maps.others n other) ∙ still
                    ] in
                    maps.nodes n (rises.same.reserved n ∙ free_one) ∙ rises.others n free_one unused before;
              };
              low = omega (arith, lowering.low);
              some = omega arith;
              split = lowering.split;
              twin = λ any. subst (λ i. 2 ≤ length (rises.levels i)) {x = shape.depth - lowering.split} (split_inside any) (lowering.twin any);
              enough = omega (arith, lowering.enough);
              alone = λ j inside one_node. lowering.alone (suc j) (omega arith) one_node;
            }

    -- the tree's numbers are written
    pub settled : (start s t : Store) (records : List (List ℕ)) (shape : TreeShape) → Rises is_key cmp max start s records shape → s.shape.total ≤ 2 ^ 32 → shape.depth ≤ 12 → shape.leaf_records ≡ length records
        → t.shape ≡ (record { node_size = s.shape.node_size; depth = shape.depth; root = shape.root; first = shape.first; last = shape.last; leaf_records = shape.leaf_records; total = s.shape.total; free = s.shape.free })
        → ShapesOnly s t → SameStore s t → MakesTree is_key cmp start t records
    settled start s t records shape rises small low many shape_is only same =
        let depth : t.shape.depth ≡ shape.depth = ap (λ h. h.depth) shape_is in
        let total : t.shape.total ≡ s.shape.total = ap (λ h. h.total) shape_is in
        let kept = but_kept s t shape.depth rises.levels 0 0 [] rises.but (ap (λ h. h.node_size) shape_is) total (ap (λ h. h.free) shape_is)
        (λ j k inside_depth inside. only.nodes (get_or (rises.levels j) k 0) (not_reserved s shape.depth rises.levels 0 0 [] rises.but j k inside_depth inside)) only.used same.reserved in
        let but : IsTreeBut is_key cmp t t.shape.depth rises.levels 0 0 [] = subst (λ d. IsTreeBut is_key cmp t d rises.levels 0 0 []) (sym depth) kept in
        let top : 0 < t.shape.depth → rises.levels 0 ≡ t.shape.root ∷ [] = λ some. rises.top (omega (arith, depth)) ∙ ap (λ h. h.root ∷ []) (sym shape_is) in
        let nothing : (j : ℕ) → j + 1 < t.shape.depth → j + 1 ≢ 0 = λ j less e. absurd (omega arith) in
        let small2 : t.shape.total ≤ 2 ^ 32 = omega (arith, total) in
        let leaves_is : leaf_records t rises.levels shape.depth ≡ records = by_depth shape.depth refl ∙ rises.made in
        let pairs : pairs_of t ≡ map pair_of records = elim (cases_lt 0 shape.depth) [
          | inl some ↦
              pairs_then key_length t rises.levels 0 0 [] but nothing small2 top (omega (arith, depth))
              ∙ ap (λ l. map pair_of l) (ap (λ d. leaf_records t rises.levels d) {x = suc (t.shape.depth - 1)} {y = shape.depth} (omega (arith, depth)) ∙ leaves_is)
          | inr none ↦
              ap (λ d. leaves t.nodes t.shape.root d) {x = t.shape.depth} {y = 0} (omega (arith, depth))
              ∙ ap (λ l. map pair_of l) (ap (λ d. leaf_records t rises.levels d) {x = 0} {y = shape.depth} (omega arith) ∙ leaves_is)
        ] in
        let level : (j : ℕ) → j < t.shape.depth → level_of t j ≡ rises.levels j = same_level key_length t rises.levels 0 0 [] but nothing small2 top in
        let header : HasHeader t = record {
          depth = omega (arith, depth);
          empty = λ none. ap (λ h. h.root) shape_is ∙ (rises.none (omega (arith, depth))).0;
          leaf_records = ap (λ h. h.leaf_records) shape_is ∙ many ∙ sym (length-map records pair_of) ∙ sym (ap length pairs);
          first = λ j leaf. ap (λ h. h.first) shape_is ∙ rises.first (omega (arith, depth)) ∙ sym (head_get (rises.levels (shape.depth - 1)))
              ∙ ap (λ i. get_or (rises.levels i) 0 0) {y = j} (omega (arith, depth)) ∙ sym (ap (λ l. get_or l 0 0) (level j (omega arith)));
          last = λ j leaf. ap (λ h. h.last) shape_is ∙ rises.last (omega (arith, depth)) ∙ last_place (rises.levels (shape.depth - 1))
              ∙ ap (λ i. get_or (rises.levels i) (length (rises.levels i) - 1) 0) {y = j} (omega (arith, depth)) ∙ sym (ap (λ l. get_or l (length l - 1) 0) (level j (omega arith)));
          no_leaf = λ none. let zeros = rises.none (omega (arith, depth)) in (ap (λ h. h.first) shape_is ∙ zeros.1, ap (λ h. h.last) shape_is ∙ zeros.2);
        } in
        record {
          tree = tree_of key_length t rises.levels 0 0 [] but nothing small2 top header;
          pairs = pairs;
          filled = λ some. omega (arith, ap length pairs, length-map records pair_of, ap length (sym rises.made), some_records is_key cmp s shape.depth rises.levels rises.but (λ any. ap length (rises.top any)) (omega (arith, some, depth)));
          others = λ n free unused still. only.nodes n (rises.same.reserved n ∙ free) ∙ rises.others n free unused (sym (only.used n) ∙ still);
        }
      where
        last_place : (l : List ℕ) → last_or l 0 ≡ get_or l (length l - 1) 0
        last_place [] = refl
        last_place (n ∷ l) = last_get (n ∷ l) 0 (omega arith)

        by_depth : (d : ℕ) → d ≡ shape.depth → leaf_records t rises.levels d ≡ leaf_records s rises.levels d
        by_depth zero is = refl
        by_depth (suc d) is =
            same_entries s.nodes t.nodes (rises.levels d) (λ k inside. ap items (only.nodes (get_or (rises.levels d) k 0) (not_reserved s shape.depth rises.levels 0 0 [] rises.but d k (omega arith) inside)))

    pub lowering_read : (start s t : Store) (records : List (List ℕ)) (shape : TreeShape) (rest : ℕ) → t.shape ≡ s.shape → SameNodes s t → SameStore s t → IsLowering is_key cmp max start s records shape rest → IsLowering is_key cmp max start t records shape rest
    unfolding rises_read
    lowering_read start s t records shape rest shape_is nodes same lowering = record {
      some = lowering.some;
      split = lowering.split;
      twin = lowering.twin;
      enough = lowering.enough;
      rises = rises_read start s t records shape shape_is nodes same lowering.rises;
      low = lowering.low;
      alone = λ j inside one. lowering.alone j inside one;
    }

    -- the count of the records is beside the rest
    pub with_records : (start s : Store) (records : List (List ℕ)) (shape : TreeShape) (many : ℕ) → Rises is_key cmp max start s records shape → Rises is_key cmp max start s records (record shape { leaf_records = many })
    with_records start s records shape many rises = record {
      levels = rises.levels;
      but = rises.but;
      top = rises.top;
      made = rises.made;
      first = rises.first;
      last = rises.last;
      none = rises.none;
      bounds = rises.bounds;
      same = rises.same;
      others = rises.others;
    }

    pub settled_root : (start s t : Store) (records : List (List ℕ)) (shape : TreeShape) → Rises is_key cmp max start s records shape
        → t.shape ≡ (record { node_size = s.shape.node_size; depth = shape.depth; root = shape.root; first = shape.first; last = shape.last; leaf_records = shape.leaf_records; total = s.shape.total; free = s.shape.free })
        → ShapesOnly s t → BoundsRoot max start t t.shape.depth t.shape.root
    settled_root start s t records shape rises shape_is only =
        let depth : t.shape.depth ≡ shape.depth = ap (λ h. h.depth) shape_is in
        let root : t.shape.root ≡ shape.root = ap (λ h. h.root) shape_is in
        let same : 0 < shape.depth → length (items (t.nodes t.shape.root)) ≡ length (items (s.nodes shape.root)) = λ some.
        let top = rises.top some in
        let unreserved : s.reserved shape.root ≡ false = subst (λ n. s.reserved n ≡ false) (ap (λ l. get_or l 0 0) top) (not_reserved s shape.depth rises.levels 0 0 [] rises.but 0 0 some (omega (arith, ap length top))) in
        ap (λ n. length (items (t.nodes n))) root ∙ ap (λ l. length (items l)) (only.nodes shape.root unreserved) in
        record {
          grown = λ deep same_depth. omega (arith, same (omega (arith, depth)), rises.bounds.grown deep (sym depth ∙ same_depth));
          two = λ any less. same (omega (arith, depth)) ∙ rises.bounds.two any (omega (arith, depth));
          over = λ deep less. rises.bounds.over deep (omega (arith, depth));
        }

    -- while a root has one record, another may be given back
    pub lowering_end : (start s : Store) (records : List (List ℕ)) (shape : TreeShape) → IsLowering is_key cmp max start s records shape 0 → ⊥
    lowering_end start s records shape lowering =
        let top = lowering.rises.top lowering.some in
        let two = lowering.twin (omega (arith, lowering.enough, lowering.some)) in
        absurd (omega (arith, two, ap (λ i. length (lowering.rises.levels i)) {x = shape.depth - lowering.split} {y = 0} (omega (arith, lowering.enough)), ap length top))

    pub lowering_root : (start s : Store) (records : List (List ℕ)) (shape : TreeShape) (rest : ℕ) → IsLowering is_key cmp max start s records shape rest → IsTreeNode s shape.depth shape.root × (1 ≤ length (items (s.nodes shape.root)))
    lowering_root start s records shape rest lowering =
        let top = lowering.rises.top lowering.some in
        let at : get_or (lowering.rises.levels 0) 0 0 ≡ shape.root = ap (λ l. get_or l 0 0) top in
        let inside : 0 < length (lowering.rises.levels 0) = omega (arith, ap length top) in (
          subst (λ h. IsTreeNode s h shape.root) {x = shape.depth - 0} (omega arith) (subst (λ n. IsTreeNode s (shape.depth - 0) n) at ((lowering.rises.but.each 0 lowering.some).nodes 0 inside)),
          subst (λ n. 1 ≤ length (items (s.nodes n))) at (lowering.rises.but.some 0 lowering.some (inr (omega arith)) 0 inside),
        )

    pub settled_thick : (s t : Store) (start : Store) (records : List (List ℕ)) (shape : TreeShape) → Rises is_key cmp max start s records shape
        → t.shape ≡ (record { node_size = s.shape.node_size; depth = shape.depth; root = shape.root; first = shape.first; last = shape.last; leaf_records = shape.leaf_records; total = s.shape.total; free = s.shape.free })
        → ShapesOnly s t → RootHasTwoChildren s shape.depth shape.root → RootHasTwoChildren t t.shape.depth t.shape.root
    settled_thick s t start records shape rises shape_is only thick = λ deep.
        let depth : t.shape.depth ≡ shape.depth = ap (λ h. h.depth) shape_is in
        let root : t.shape.root ≡ shape.root = ap (λ h. h.root) shape_is in
        let some : 0 < shape.depth = omega (arith, depth) in
        let top = rises.top some in
        let unreserved : s.reserved shape.root ≡ false = subst (λ n. s.reserved n ≡ false) (ap (λ l. get_or l 0 0) top) (not_reserved s shape.depth rises.levels 0 0 [] rises.but 0 0 some (omega (arith, ap length top))) in
        omega (arith, thick (omega (arith, depth)), ap (λ n. length (items (t.nodes n))) root, ap (λ l. length (items l)) (only.nodes shape.root unreserved))
