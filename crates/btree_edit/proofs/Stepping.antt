-- One level of an edit keeps the rules of a tree, and hands on what is still to be done.
use Rattle.std.proofs.Common.{◌≡◌, ◌≢◌, ◌⊎◌, ℕ, suc, ◌+◌, ◌-◌, ◌/◌, ◌<◌, ◌≤◌, Bool, false, List, [], ◌∷◌, ◌++◌, map, length, get_or, inl, inr, refl, sym, ◌∙◌, ap, subst, arith}
use Rattle.std.proofs.lemmas.Bool.{cases_lt, cases_eq}
use Rattle.std.proofs.lemmas.List.{nil_from_length, length-append, length-take-le, get_or_append_left, get_or-append_right}
use Rattle.std.specs.declared.cmp.Ordering.{Ordering}
use Rattle.std.specs.Prelude.{eqb}
use Rattle.std.specs.List.{range_with_len, count_by}
use Rattle.btree_node.specs.Node.{items, IsNode, next_of, back_of, kind_of, height_of, SetsLinks}
use Rattle.btree_node.specs.Levels.{entries, key_of, record_for, splice, Ascends}
use Rattle.btree_node.specs.Store.{Store}
use Rattle.btree_node.specs.Tree.{IsTreeNode}
use Rattle.btree_node.specs.declared.store.TreeShape.{TreeShape}
use Rattle.btree_node.proofs.Levels.{same_entries, level_spliced, names_spliced}
use Rattle.btree_edit.specs.LevelEdit.{bit, times, head_or, last_or, Linked, parts_of, LevelEdit}
use Rattle.btree_edit.specs.Climb.{LevelLists, IsLevel, NoneEmpty, count_in_levels, IsTreeBut}
use Rattle.btree_edit.specs.declared.desk.Desk.{Desk}
use Rattle.btree_edit.proofs.Counting.{bit_same, bit_other, bit_most, bit_false, times-append, times_at, times_place, times_twice, tally_some, tally_changed, tally_twice, bits_changed}
use Rattle.btree_edit.proofs.Naming.{names_same}
use Rattle.btree_edit.proofs.Linking.{head_or-append, head_get, head_in, last_in, last_get, linked_split, linked_join, linked_same, linked_front, linked_back}

-- what holds of each of three lists' nodes
pub each_of : (P : ℕ → Type 0) (xs ys : List ℕ) → ((k : ℕ) → k < length xs → P (get_or xs k 0)) → ((k : ℕ) → k < length ys → P (get_or ys k 0))
    → (k : ℕ) → k < length (xs ++ ys) → P (get_or (xs ++ ys) k 0)
each_of P xs ys first second k inside = elim (cases_lt k (length xs)) [
  | inl front ↦ subst P (sym (get_or_append_left xs ys 0 k front)) (first k front)
  | inr back ↦ subst P (sym (get_or-append_right xs ys (length xs) k 0 refl back)) (second (k - length xs) (omega (arith, length-append xs ys)))
]

-- a level whose nodes stay
pub level_kept : {is_key : List ℕ → Type 0} {cmp : List ℕ → List ℕ → Ordering} (old new : Store) (height : ℕ) (ns : List ℕ)
    → new.shape.node_size ≡ old.shape.node_size → new.shape.total ≡ old.shape.total → ((k : ℕ) → k < length ns → new.nodes (get_or ns k 0) ≡ old.nodes (get_or ns k 0))
    → IsLevel is_key cmp old height ns → IsLevel is_key cmp new height ns
level_kept {is_key} {cmp} old new height ns size total same level =
    let same_items : entries new.nodes ns ≡ entries old.nodes ns = same_entries old.nodes new.nodes ns (λ k inside. ap items (same k inside)) in
    record {
      nodes = λ k inside. let node = level.nodes k inside in record {
        inside = omega (arith, node.inside, total);
        kind = let kind = node.kind in record {
          well_formed = subst (λ l. IsNode l) (sym (same k inside)) kind.well_formed;
          has_kind = ap kind_of (same k inside) ∙ kind.has_kind;
          has_height = ap height_of (same k inside) ∙ kind.has_height;
        };
        size = ap length (same k inside) ∙ node.size ∙ sym size;
      };
      keys = subst (λ l. (k : ℕ) → k < length l → is_key (key_of (get_or l k []))) (sym same_items) level.keys;
      ascends = subst (λ l. Ascends cmp l) (sym same_items) level.ascends;
      linked = linked_same old.nodes new.nodes 0 ns 0 (λ k inside. ap back_of (same k inside)) (λ k inside. ap next_of (same k inside)) level.linked;
      short = λ leaf. subst (λ l. (k : ℕ) → k < length l → length (get_or l k []) ≤ new.shape.node_size / 2 - 10) (sym same_items)
          (subst (λ n. (k : ℕ) → k < length (entries old.nodes ns) → length (get_or (entries old.nodes ns) k []) ≤ n / 2 - 10) (sym size) (level.short leaf));
    }

module _ {is_key : List ℕ → Type 0} {cmp : List ℕ → List ℕ → Ordering} (old new : Store) (depth : ℕ) (levels : LevelLists) (j upper : ℕ) (handed : List (List ℕ))
    (but : IsTreeBut is_key cmp old depth levels (j + 1) upper handed)
    (node place : ℕ) (removed : Bool) (put : List (List ℕ)) (count : ℕ) (changed : Bool) (desk : Desk) (before after : TreeShape)
    (edit : LevelEdit old new (depth - j) node place removed put count changed desk before after)
    (xs ys : List ℕ) (at : levels j ≡ xs ++ node ∷ ys) (of_tree : j < depth)
  where
    abbrev pub parts : List ℕ
    parts = parts_of count node edit.fresh

    -- a node of a level
    inside_total : (i k : ℕ) → i < depth → k < length (levels i) → get_or (levels i) k 0 < old.shape.total
    inside_total i k low inside = ((but.each i low).nodes k inside).inside

    -- it stands in the levels once, has its bit, and isn't reserved
    stands_once : (n i : ℕ) → i < depth → 1 ≤ times n (levels i) → n < old.shape.total → (count_in_levels levels depth n ≡ 1) × (bit (old.used n) ≡ 1) × (bit (old.reserved n) ≡ 0)
    stands_once n i low some inside =
        let here = tally_some levels depth n i low in
        let one = but.mapped n inside in
        let most = bit_most (old.used n) in (omega arith, omega arith, omega arith)

    times_node : times node (levels j) ≡ times node xs + (1 + times node ys)
    times_node = ap (λ (l : List ℕ). times node l) at ∙ times-append node xs (node ∷ ys) ∙ omega (arith, bit_same node node refl)

    node_low : node < old.shape.total
    node_low =
        let long : length xs < length (levels j) = omega (arith, ap length at, length-append xs (node ∷ ys)) in
        let is : get_or (levels j) (length xs) 0 ≡ node = ap (λ l. get_or l (length xs) 0) at ∙ get_or-append_right xs (node ∷ ys) (length xs) (length xs) 0 refl (omega arith) ∙ ap (λ k. get_or (node ∷ ys) k 0) {y = 0} (omega arith) in
        subst (λ n. n < old.shape.total) is (inside_total j (length xs) of_tree long)

    node_once : count_in_levels levels depth node ≡ 1
    node_once = (stands_once node j of_tree (omega (arith, times_node)) node_low).0

    not_zero : (n i : ℕ) → i < depth → 1 ≤ times n (levels i) → n < old.shape.total → n ≢ 0
    not_zero n i low some inside is =
        let free : bit (old.reserved n) ≡ 0 = (stands_once n i low some inside).2 in
        let held : bit (old.reserved n) ≡ 1 = ap (λ k. bit (old.reserved k)) is ∙ ap bit but.header in
        absurd (omega arith)

    -- another node of the tree isn't among those that hold the records then
    apart : (n i : ℕ) → i < depth → 1 ≤ times n (levels i) → n < old.shape.total → n ≢ node → times n parts ≡ 0
    apart n i low some inside other =
        let used = (stands_once n i low some inside).1 in
        let none : times n (node ∷ []) ≡ 0 = omega (arith, bit_other node n (λ e. other (sym e))) in
        omega (arith, edit.used n, bit_most (new.used n))

    in_front : (k : ℕ) → k < length xs → 1 ≤ times (get_or xs k 0) (levels j)
    in_front k inside =
        omega (arith, ap (λ (l : List ℕ). times (get_or xs k 0) l) at, times-append (get_or xs k 0) xs (node ∷ ys), times_at xs k inside)

    in_back : (k : ℕ) → k < length ys → 1 ≤ times (get_or ys k 0) (levels j)
    in_back k inside =
        omega (arith, ap (λ (l : List ℕ). times (get_or ys k 0) l) at, times-append (get_or ys k 0) xs (node ∷ ys), times_at ys k inside)

    abbrev pub before_node : ℕ
    before_node = back_of (old.nodes node)

    abbrev pub behind_node : ℕ
    behind_node = next_of (old.nodes node)

    old_links : Linked old.nodes 0 (xs ++ node ∷ ys) 0
    old_links = subst (λ l. Linked old.nodes 0 l 0) at (but.each j of_tree).linked

    links_split : Linked old.nodes 0 xs node × Linked old.nodes (last_or xs 0) (node ∷ ys) 0
    links_split = linked_split old.nodes 0 xs (node ∷ ys) 0 old_links

    pub before_is : before_node ≡ last_or xs 0
    before_is = links_split.1.0

    pub behind_is : behind_node ≡ head_or ys 0
    behind_is = links_split.1.1

    links_behind : Linked old.nodes node ys 0
    links_behind = links_split.1.2

    -- what stays of a node beside the changed one
    record Stays (n : ℕ) : Type 0 where
      records : items (new.nodes n) ≡ items (old.nodes n)
      is_node : IsTreeNode new (depth - j) n
      next : n ≢ before_node → next_of (new.nodes n) ≡ next_of (old.nodes n)
      back : n ≢ behind_node → back_of (new.nodes n) ≡ back_of (old.nodes n)

    still_node : (n behind earlier : ℕ) → SetsLinks behind earlier (old.nodes n) (new.nodes n) → IsTreeNode old (depth - j) n → IsTreeNode new (depth - j) n
    still_node n behind earlier sets is = let kind = is.kind in record {
      inside = omega (arith, is.inside, edit.same.total);
      kind = record { well_formed = sets.well_formed kind.well_formed; has_kind = sets.kind ∙ kind.has_kind; has_height = sets.height ∙ kind.has_height };
      size = sets.size ∙ is.size ∙ sym edit.same.node_size;
    }

    stays : (n : ℕ) → n ≢ node → times n parts ≡ 0 → old.reserved n ≡ false → n ≢ 0 → IsTreeNode old (depth - j) n → Stays n
    stays n other none free some is = elim (cases_eq n (back_of (old.nodes node))) [
      | inl first ↦
          let sets = edit.back (λ e. some (first ∙ e)) in
          subst Stays (sym first) (record {
            records = sets.items (subst (λ m. IsTreeNode old (depth - j) m) first is).kind.well_formed;
            is_node = still_node (back_of (old.nodes node)) _ _ sets (subst (λ m. IsTreeNode old (depth - j) m) first is);
            next = λ e. absurd (e refl);
            back = λ e. sets.back;
          })
      | inr not_first ↦ elim (cases_eq n (next_of (old.nodes node))) [
        | inl second ↦
            let sets = edit.next (λ e. some (second ∙ e)) in
            subst Stays (sym second) (record {
              records = sets.items (subst (λ m. IsTreeNode old (depth - j) m) second is).kind.well_formed;
              is_node = still_node (next_of (old.nodes node)) _ _ sets (subst (λ m. IsTreeNode old (depth - j) m) second is);
              next = λ e. sets.next;
              back = λ e. absurd (e refl);
            })
        | inr not_second ↦
            let same = edit.others n free other none not_first not_second in
            let kind = is.kind in
            record {
              records = ap items same;
              is_node = record {
                inside = omega (arith, is.inside, edit.same.total);
                kind = record {
                  well_formed = subst (λ l. IsNode l) (sym same) kind.well_formed;
                  has_kind = ap kind_of same ∙ kind.has_kind;
                  has_height = ap height_of same ∙ kind.has_height;
                };
                size = ap length same ∙ is.size ∙ sym edit.same.node_size;
              };
              next = λ e. ap next_of same;
              back = λ e. ap back_of same;
            }
      ]
    ]

    place_in_level : (n : ℕ) → 1 ≤ times n (levels j) → (k : ℕ) × (k < length (levels j)) × (get_or (levels j) k 0 ≡ n)
    place_in_level n some = times_place n (levels j) some

    node_of_level : (n : ℕ) → 1 ≤ times n (levels j) → IsTreeNode old (depth - j) n
    node_of_level n some =
        let place_of = place_in_level n some in subst (λ m. IsTreeNode old (depth - j) m) place_of.2 ((but.each j of_tree).nodes place_of.0 place_of.1)

    stays_beside : (n : ℕ) → 1 ≤ times n (levels j) → n ≢ node → Stays n
    stays_beside n some other =
        let is = node_of_level n some in
        let once = stands_once n j of_tree some is.inside in
        stays n other (apart n j of_tree some is.inside other) (bit_false (old.reserved n) once.2) (not_zero n j of_tree some is.inside) is

    most_once : (n : ℕ) → 1 ≤ times n (levels j) → times n xs + (bit (eqb node n) + times n ys) ≤ 1
    most_once n some =
        let once = stands_once n j of_tree some (node_of_level n some).inside in
        omega (arith, tally_some levels depth n j of_tree, ap (λ (l : List ℕ). times n l) at, times-append n xs (node ∷ ys))

    pub front_other : (k : ℕ) → k < length xs → get_or xs k 0 ≢ node
    front_other k inside is =
        let once = most_once (get_or xs k 0) (in_front k inside) in
        absurd (omega (arith, times_at xs k inside, bit_same node (get_or xs k 0) (sym is)))

    pub back_other : (k : ℕ) → k < length ys → get_or ys k 0 ≢ node
    back_other k inside is =
        let once = most_once (get_or ys k 0) (in_back k inside) in
        absurd (omega (arith, times_at ys k inside, bit_same node (get_or ys k 0) (sym is)))

    front_stays : (k : ℕ) → k < length xs → Stays (get_or xs k 0)
    front_stays k inside = stays_beside (get_or xs k 0) (in_front k inside) (front_other k inside)

    back_stays : (k : ℕ) → k < length ys → Stays (get_or ys k 0)
    back_stays k inside = stays_beside (get_or ys k 0) (in_back k inside) (back_other k inside)

    -- a node before the changed one isn't the one behind it, and only the last of them is the one before it
    pub front_not_behind : (k : ℕ) → k < length xs → get_or xs k 0 ≢ behind_node
    front_not_behind k inside is = elim (cases_lt 0 (length ys)) [
      | inl some ↦
          let head : 1 ≤ times (get_or xs k 0) ys = subst (λ n. 1 ≤ times n ys) (sym (is ∙ behind_is)) (head_in ys 0 some) in
          absurd (omega (arith, most_once (get_or xs k 0) (in_front k inside), times_at xs k inside, head))
      | inr none ↦
          let empty : ys ≡ [] = nil_from_length ys (omega arith) in
          let zero_is : get_or xs k 0 ≡ 0 = is ∙ behind_is ∙ ap (λ l. head_or l 0) empty in
          not_zero (get_or xs k 0) j of_tree (in_front k inside) (node_of_level (get_or xs k 0) (in_front k inside)).inside zero_is
    ]

    back_not_before : (k : ℕ) → k < length ys → get_or ys k 0 ≢ before_node
    back_not_before k inside is = elim (cases_lt 0 (length xs)) [
      | inl some ↦
          let last : 1 ≤ times (get_or ys k 0) xs = subst (λ n. 1 ≤ times n xs) (sym (is ∙ before_is)) (last_in xs 0 some) in
          absurd (omega (arith, most_once (get_or ys k 0) (in_back k inside), times_at ys k inside, last))
      | inr none ↦
          let empty : xs ≡ [] = nil_from_length xs (omega arith) in
          let zero_is : get_or ys k 0 ≡ 0 = is ∙ before_is ∙ ap (λ l. last_or l 0) empty in
          not_zero (get_or ys k 0) j of_tree (in_back k inside) (node_of_level (get_or ys k 0) (in_back k inside)).inside zero_is
    ]

    front_not_before : (k : ℕ) → suc k < length xs → get_or xs k 0 ≢ before_node
    front_not_before k inside is =
        let last : get_or xs (length xs - 1) 0 ≡ get_or xs k 0 = sym (last_get xs 0 (omega arith)) ∙ sym before_is ∙ sym is in
        let twice = times_twice (get_or xs k 0) xs k (length xs - 1) (omega arith) (omega arith) refl last in
        absurd (omega (arith, most_once (get_or xs k 0) (in_front k (omega arith)), twice))

    back_not_behind : (k : ℕ) → suc k < length ys → get_or ys (suc k) 0 ≢ behind_node
    back_not_behind k inside is =
        let first : get_or ys 0 0 ≡ get_or ys (suc k) 0 = head_get ys ∙ sym behind_is ∙ sym is in
        let twice = times_twice (get_or ys (suc k) 0) ys 0 (suc k) (omega arith) (omega arith) first refl in
        absurd (omega (arith, most_once (get_or ys (suc k) 0) (in_back (suc k) (omega arith)), twice))

    links_front : Linked new.nodes 0 xs (head_or (parts ++ ys) 0)
    links_front =
        linked_front old.nodes new.nodes 0 xs node (head_or (parts_of count node edit.fresh ++ ys) 0)
        (λ k inside. (front_stays k inside).back (front_not_behind k inside))
        (λ k inside. (front_stays k (omega arith)).next (front_not_before k inside))
        (λ some.
        let nonzero : back_of (old.nodes node) ≢ 0 = λ e.
        let last = last_in xs 0 some in
        not_zero (last_or xs 0) j of_tree (omega (arith, last, ap (λ (l : List ℕ). times (last_or xs 0) l) at, times-append (last_or xs 0) xs (node ∷ ys)))
        (node_of_level (last_or xs 0) (omega (arith, last, ap (λ (l : List ℕ). times (last_or xs 0) l) at, times-append (last_or xs 0) xs (node ∷ ys)))).inside (sym before_is ∙ e) in
        ap (λ n. next_of (new.nodes n)) (sym before_is) ∙ (edit.back nonzero).next
        ∙ ap (λ n. head_or (parts_of count node edit.fresh) n) behind_is ∙ sym (head_or-append (parts_of count node edit.fresh) ys 0))
        links_split.0

    links_back : Linked new.nodes (last_or parts (last_or xs 0)) ys 0
    links_back =
        linked_back old.nodes new.nodes node (last_or (parts_of count node edit.fresh) (last_or xs 0)) ys 0
        (λ k inside. (back_stays k inside).next (back_not_before k inside))
        (λ k inside. (back_stays (suc k) (omega arith)).back (back_not_behind k inside))
        (λ some.
        let head : 1 ≤ times (head_or ys 0) (levels j) = omega (arith, head_in ys 0 some, ap (λ (l : List ℕ). times (head_or ys 0) l) at, times-append (head_or ys 0) xs (node ∷ ys)) in
        let nonzero : next_of (old.nodes node) ≢ 0 = λ e. not_zero (head_or ys 0) j of_tree head (node_of_level (head_or ys 0) head).inside (sym behind_is ∙ e) in
        ap (λ n. back_of (new.nodes n)) (sym behind_is) ∙ (edit.next nonzero).back ∙ ap (λ n. last_or (parts_of count node edit.fresh) n) before_is)
        links_behind

    new_links : Linked new.nodes 0 (xs ++ (parts ++ ys)) 0
    new_links =
        let middle : Linked new.nodes (last_or xs 0) (parts_of count node edit.fresh) (head_or ys 0) =
        subst (λ n. Linked new.nodes n (parts_of count node edit.fresh) (head_or ys 0)) before_is (subst (λ n. Linked new.nodes (back_of (old.nodes node)) (parts_of count node edit.fresh) n) behind_is edit.links) in
        linked_join new.nodes 0 xs (parts_of count node edit.fresh ++ ys) 0 links_front
        (linked_join new.nodes (last_or xs 0) (parts_of count node edit.fresh) ys 0 middle links_back)

    -- the nodes of the other levels stay as they were
    pub others_kept : (i : ℕ) → i < depth → i ≢ j → (k : ℕ) → k < length (levels i) → new.nodes (get_or (levels i) k 0) ≡ old.nodes (get_or (levels i) k 0)
    others_kept i low other k inside =
        let n : ℕ = get_or (levels i) k 0 in
        let some : 1 ≤ times (get_or (levels i) k 0) (levels i) = times_at (levels i) k inside in
        let small = inside_total i k low inside in
        let once = stands_once (get_or (levels i) k 0) i low some small in
        -- it stands in no other level
        let alone : times (get_or (levels i) k 0) (levels j) ≡ 0 = elim (cases_lt 0 (times (get_or (levels i) k 0) (levels j))) [
          | inl too ↦ elim (cases_lt i j) [
            | inl less ↦ absurd (omega (arith, once.0, tally_twice levels depth (get_or (levels i) k 0) i j less of_tree some too))
            | inr more ↦ absurd (omega (arith, once.0, tally_twice levels depth (get_or (levels i) k 0) j i (omega arith) low too some))
          ]
          | inr none ↦ omega arith
        ] in
        let whole : times (get_or (levels i) k 0) xs + (bit (eqb node (get_or (levels i) k 0)) + times (get_or (levels i) k 0) ys) ≡ 0 =
        omega (arith, ap (λ (l : List ℕ). times (get_or (levels i) k 0) l) at, times-append (get_or (levels i) k 0) xs (node ∷ ys)) in
        let not_node : get_or (levels i) k 0 ≢ node = λ e. absurd (omega (arith, bit_same node (get_or (levels i) k 0) (sym e))) in
        let zero_not = not_zero (get_or (levels i) k 0) i low some small in
        let not_before : get_or (levels i) k 0 ≢ back_of (old.nodes node) = λ e. elim (cases_lt 0 (length xs)) [
          | inl any ↦ absurd (omega (arith, subst (λ m. 1 ≤ times m xs) (sym (e ∙ before_is)) (last_in xs 0 any)))
          | inr none ↦ zero_not (e ∙ before_is ∙ ap (λ l. last_or l 0) (nil_from_length xs (omega arith)))
        ] in
        let not_behind : get_or (levels i) k 0 ≢ next_of (old.nodes node) = λ e. elim (cases_lt 0 (length ys)) [
          | inl any ↦ absurd (omega (arith, subst (λ m. 1 ≤ times m ys) (sym (e ∙ behind_is)) (head_in ys 0 any)))
          | inr none ↦ zero_not (e ∙ behind_is ∙ ap (λ l. head_or l 0) (nil_from_length ys (omega arith)))
        ] in
        edit.others (get_or (levels i) k 0) (bit_false (old.reserved (get_or (levels i) k 0)) once.2) not_node (apart (get_or (levels i) k 0) i low some small not_node) not_before not_behind

    same_level : (i : ℕ) → i < depth → i ≢ j → entries new.nodes (levels i) ≡ entries old.nodes (levels i)
    same_level i low other = same_entries old.nodes new.nodes (levels i) (λ k inside. ap items (others_kept i low other k inside))

    same_level_names : (i : ℕ) → i < depth → i ≢ j → map (λ n. record_for new.nodes n) (levels i) ≡ map (λ n. record_for old.nodes n) (levels i)
    same_level_names i low other = names_same old.nodes new.nodes (levels i) (λ k inside. ap items (others_kept i low other k inside))

    -- the records of the level then
    abbrev pub goal_records : List (List ℕ)
    goal_records = splice (entries old.nodes (levels j)) (length (entries old.nodes xs) + place) (length (entries old.nodes xs) + (place + bit removed)) put

    parts_long : length parts ≡ count
    parts_long = omega (arith, length-take-le count (node ∷ edit.fresh ∷ []) edit.most)

    module _ (within : place + bit removed ≤ length (items (old.nodes node)))
        (keys : (k : ℕ) → k < length goal_records → is_key (key_of (get_or goal_records k [])))
        (ascends : Ascends cmp goal_records)
        (short : depth - j ≡ 1 → (k : ℕ) → k < length goal_records → length (get_or goal_records k []) ≤ old.shape.node_size / 2 - 10)
        (some_front : NoneEmpty old.nodes xs) (some_back : NoneEmpty old.nodes ys)
        (named : j + 1 < depth → map (λ n. record_for old.nodes n) (levels (j + 1)) ≡ goal_records)
        (changed_levels : LevelLists) (here : changed_levels j ≡ xs ++ (parts ++ ys)) (elsewhere : (i : ℕ) → i ≢ j → changed_levels i ≡ levels i)
      where
        records_here : entries new.nodes (xs ++ (parts ++ ys)) ≡ goal_records
        records_here =
            level_spliced old.nodes new.nodes xs ys (parts_of count node edit.fresh) node place (place + bit removed) put
            (λ k inside. (front_stays k inside).records) (λ k inside. (back_stays k inside).records) (omega arith) within edit.records
            ∙ ap (λ l. splice (entries old.nodes l) (length (entries old.nodes xs) + place) (length (entries old.nodes xs) + (place + bit removed)) put) (sym at)

        pub records_then : entries new.nodes (changed_levels j) ≡ goal_records
        records_then = ap (λ l. entries new.nodes l) here ∙ records_here

        part_node : (k : ℕ) → k < length parts → IsTreeNode new (depth - j) (get_or parts k 0)
        part_node k inside = edit.nodes k (omega (arith, parts_long))

        part_some : (k : ℕ) → k < length parts → 0 < length (items (new.nodes (get_or parts k 0)))
        part_some k inside = edit.some k (omega (arith, parts_long))

        is_level : IsLevel is_key cmp new (depth - j) (xs ++ (parts ++ ys))
        is_level = record {
          nodes = each_of (λ n. IsTreeNode new (depth - j) n) xs (parts ++ ys) (λ k inside. (front_stays k inside).is_node)
              (each_of (λ n. IsTreeNode new (depth - j) n) parts ys (λ k inside. part_node k inside) (λ k inside. (back_stays k inside).is_node));
          keys = subst (λ l. (k : ℕ) → k < length l → is_key (key_of (get_or l k []))) (sym records_here) keys;
          ascends = subst (λ l. Ascends cmp l) (sym records_here) ascends;
          linked = new_links;
          short = λ leaf. subst (λ l. (k : ℕ) → k < length l → length (get_or l k []) ≤ new.shape.node_size / 2 - 10) (sym records_here)
              (subst (λ m. (k : ℕ) → k < length goal_records → length (get_or goal_records k []) ≤ m / 2 - 10) (sym edit.same.node_size) (short leaf));
        }

        none_empty : NoneEmpty new.nodes (xs ++ (parts ++ ys))
        none_empty =
            each_of (λ n. 0 < length (items (new.nodes n))) xs (parts ++ ys)
            (λ k inside. subst (λ l. 0 < length l) (sym (front_stays k inside).records) (some_front k inside))
            (each_of (λ n. 0 < length (items (new.nodes n))) parts ys (λ k inside. part_some k inside)
            (λ k inside. subst (λ l. 0 < length l) (sym (back_stays k inside).records) (some_back k inside)))

        level_then : (i : ℕ) → i < depth → IsLevel is_key cmp new (depth - i) (changed_levels i)
        level_then i low = elim (cases_eq i j) [
          | inl is ↦ subst (λ m. IsLevel is_key cmp new (depth - m) (changed_levels m)) (sym is) (subst (λ l. IsLevel is_key cmp new (depth - j) l) (sym here) is_level)
          | inr other ↦
              subst (λ l. IsLevel is_key cmp new (depth - i) l) (sym (elsewhere i other))
              (level_kept old new (depth - i) (levels i) edit.same.node_size edit.same.total (others_kept i low other) (but.each i low))
        ]

        some_then : (i : ℕ) → i < depth → 0 < i ⊎ (j ≤ i) → NoneEmpty new.nodes (changed_levels i)
        some_then i low which = elim (cases_eq i j) [
          | inl is ↦ subst (λ m. NoneEmpty new.nodes (changed_levels m)) (sym is) (subst (λ l. NoneEmpty new.nodes l) (sym here) none_empty)
          | inr other ↦
              let above : 0 < i ⊎ (j + 1 ≤ i) = elim which [ inl low_one ↦ inl low_one | inr from ↦ inr (omega arith) ] in
              subst (λ l. NoneEmpty new.nodes l) (sym (elsewhere i other))
              (λ k inside. subst (λ l. 0 < length l) (sym (ap items (others_kept i low other k inside))) (but.some i low above k inside))
        ]

        names_of : (i : ℕ) → i < depth → i ≢ j → map (λ n. record_for new.nodes n) (changed_levels i) ≡ map (λ n. record_for old.nodes n) (levels i)
        names_of i low other = ap (λ l. map (λ n. record_for new.nodes n) l) (elsewhere i other) ∙ same_level_names i low other

        records_of : (i : ℕ) → i < depth → i ≢ j → entries new.nodes (changed_levels i) ≡ entries old.nodes (levels i)
        records_of i low other = ap (λ l. entries new.nodes l) (elsewhere i other) ∙ same_level i low other

        named_then : (i : ℕ) → i + 1 < depth → i + 1 ≢ j → entries new.nodes (changed_levels i) ≡ map (λ n. record_for new.nodes n) (changed_levels (i + 1))
        named_then i low other = elim (cases_eq i j) [
          | inl is ↦
              let next_low : j + 1 < depth = omega arith in
              ap (λ m. entries new.nodes (changed_levels m)) is ∙ records_then ∙ sym (named next_low) ∙ sym (names_of (j + 1) next_low (λ e. absurd (omega arith)))
              ∙ ap (λ m. map (λ n. record_for new.nodes n) (changed_levels (m + 1))) (sym is)
          | inr apart_one ↦
              records_of i (omega arith) apart_one ∙ but.named i low (λ e. absurd (omega arith)) ∙ sym (names_of (i + 1) low other)
        ]

        wanted_then : (i : ℕ) → i + 1 < depth → i + 1 ≡ j
            → map (λ n. record_for new.nodes n) (changed_levels (i + 1)) ≡ splice (entries new.nodes (changed_levels i)) (length xs) (length xs + 1) (map (λ n. record_for new.nodes n) parts)
        wanted_then i low is =
            let above : entries new.nodes (changed_levels i) ≡ map (λ n. record_for old.nodes n) (xs ++ node ∷ ys) =
            records_of i (omega arith) (λ e. absurd (omega arith)) ∙ but.named i low (λ e. absurd (omega arith)) ∙ ap (λ m. map (λ n. record_for old.nodes n) (levels m)) is ∙ ap (λ l. map (λ n. record_for old.nodes n) l) at in
            ap (λ m. map (λ n. record_for new.nodes n) (changed_levels m)) is
            ∙ ap (λ l. map (λ n. record_for new.nodes n) l) here
            ∙ names_spliced old.nodes new.nodes xs ys parts node (λ k inside. (front_stays k inside).records) (λ k inside. (back_stays k inside).records)
            ∙ ap (λ l. splice l (length xs) (length xs + 1) (map (λ n. record_for new.nodes n) parts)) (sym above)

        mapped_then : (n : ℕ) → n < new.shape.total → count_in_levels changed_levels depth n + bit (new.reserved n) ≡ bit (new.used n)
        mapped_then n inside =
            omega (
              arith,
              but.mapped n (omega (arith, edit.same.total)),
              tally_changed levels changed_levels depth n j of_tree (λ i low other. elsewhere i other),
              ap (λ (l : List ℕ). times n l) at,
              times-append n xs (node ∷ ys),
              ap (λ (l : List ℕ). times n l) here,
              times-append n xs (parts_of count node edit.fresh ++ ys),
              times-append n (parts_of count node edit.fresh) ys,
              edit.used n,
              ap bit (edit.same.reserved n),
            )

        free_then : new.shape.free + count_by (λ n. new.used n) (range_with_len 0 new.shape.total) ≡ new.shape.total
        free_then =
            let bits = bits_changed new.used old.used (node ∷ []) (parts_of count node edit.fresh) old.shape.total edit.used
            (λ k inside. subst (λ n. n < old.shape.total) (ap (λ i. get_or (node ∷ []) i 0) {x = 0} {y = k} (omega arith)) node_low)
            (λ k inside. omega (arith, (edit.nodes k (omega (arith, parts_long))).inside, edit.same.total)) in
            omega (arith, bits, ap (λ m. count_by (λ n. new.used n) (range_with_len 0 m)) edit.same.total, but.free, edit.free, parts_long, edit.same.total)

        pub stepped : IsTreeBut is_key cmp new depth changed_levels j (length xs) (map (λ n. record_for new.nodes n) parts)
        stepped = record {
          each = level_then;
          some = some_then;
          named = named_then;
          wanted = wanted_then;
          mapped = mapped_then;
          header = edit.same.reserved 0 ∙ but.header;
          free = free_then;
        }
