-- The climb of an edit, level by level.
use Rattle.std.proofs.Common.{◌≡◌, ◌≢◌, ◌⊎◌, ℕ, suc, ◌+◌, ◌-◌, ◌*◌, ◌/◌, ◌<◌, ◌≤◌, Bool, true, false, cond, List, [], ◌∷◌, ◌++◌, map, length, take, drop, get_or, inl, inr, refl, sym, ◌∙◌, ap, subst, arith}
use Rattle.std.proofs.lemmas.Bool.{cases_lt, cases_eq}
use Rattle.std.proofs.lemmas.Bool.Decides.{eqb_tells}
use Rattle.std.proofs.lemmas.List.{nil_from_length, length-append, length-map, length-take, length-take-le, length-drop, get_or-take, get_or-drop, get_or-map, append-nil}
use Rattle.std.proofs.Math.Nat.{mul-le-mul_left}
use Rattle.std.specs.Prelude.{eqb}
use Rattle.std.specs.declared.cmp.Ordering.{Ordering}
use Rattle.hx_bytes.specs.Field.{big_at}
use Rattle.btree_node.specs.Node.{items, next_of, back_of}
use Rattle.btree_node.specs.Levels.{entries, key_of, first_key, record_for, splice, Ascends}
use Rattle.btree_node.specs.Store.{Store, SameStore}
use Rattle.btree_node.specs.Tree.{level_of, entries_of, IsTreeNode}
use Rattle.btree_node.specs.declared.store.TreeShape.{TreeShape}
use Rattle.btree_node.proofs.Levels.{same_entries}
use Rattle.btree_node.proofs.Ranks.{in_node, level_long}
use Rattle.btree_edit.specs.LevelEdit.{bit, times, head_or, last_or, taken, node_room, parts_of, records_on, edited, IsInLevel, FitsTwo, CanEdit, LevelEdit}
use Rattle.btree_edit.specs.Climb.{LevelLists, IsLevel, NoneEmpty, IsTreeBut}
use Rattle.btree_edit.specs.Way.{stop_at, way_place}
use Rattle.btree_edit.specs.Rising.{leaf_start, leaves_edited, IsThrifty, AreOfOneLength, CanClimb, Climbs}
use Rattle.btree_edit.specs.declared.desk.Desk.{Desk}
use Rattle.btree_edit.specs.declared.desk.PathStep.{PathStep}
use Rattle.btree_edit.proofs.Counting.{bit_true, bit_other, times-append, times_at, times_place}
use Rattle.btree_edit.proofs.Descent.{split_at}
use Rattle.btree_edit.proofs.Splices.{length-splice, spliced_middle, each_spliced, splice_same}
use Rattle.btree_edit.proofs.Naming.{names_same, named_at, names_long, name_long, names_keys, names_short, names_ascend, first_is_key}
use Rattle.btree_edit.proofs.Fitting.{taken_fits, taken_put, taken_replaced, taken_one, taken_two, taken_each}
use Rattle.btree_edit.proofs.Linking.{head_get, last_get, head_or-append, last_or-append, last_some}
use Rattle.btree_edit.proofs.Stepping.{stepped, records_then, others_kept, front_other, back_other, before_is, behind_is}
use Rattle.btree_edit.proofs.Whole.{but_of_tree}
use Rattle.btree_edit.proofs.Crowning.{but_kept, is_used}
use Rattle.btree_edit.proofs.Spots.{spot_of}
use Rattle.btree_edit.proofs.Repeated.{same_store_both}

-- where a climb is: so many levels are done, and this is handed on to the next
pub record IsAscent (is_key : List ℕ → Type 0) (cmp : List ℕ → List ℕ → Ordering) (max : ℕ) (a s : Store) (path : List PathStep) (at : ℕ) (removed : Bool) (put : List (List ℕ)) (spare : ℕ)
    (shape : TreeShape) (desk : Desk) (done next : ℕ) (gone : Bool) (left budget : ℕ) : Type 0 where
  pub levels : LevelLists
  pub fresh : ℕ
  pub but : IsTreeBut is_key cmp s a.shape.depth levels (a.shape.depth - done) (way_place a path (a.shape.depth - done)) (records_on next desk)
  pub old_levels : (i : ℕ) → i < a.shape.depth - done → levels i ≡ level_of a i
  pub kept : (i k : ℕ) → i < a.shape.depth - done → k < length (level_of a i) → s.nodes (get_or (level_of a i) k 0) ≡ a.nodes (get_or (level_of a i) k 0)
  pub begin : done ≡ 0 → (gone ≡ removed) × (records_on next desk ≡ put)
  pub later : 0 < done → (gone ≡ true) × (entries s.nodes (levels (a.shape.depth - 1)) ≡ leaves_edited a path at removed put)
  pub top : 0 < done → a.shape.depth ≡ done → (levels 0 ≡ parts_of next a.shape.root fresh) × (records_on next desk ≡ map (λ n. record_for s.nodes n) (levels 0))
  pub few : next ≤ 2
  pub alone : AreOfOneLength is_key → put ≡ [] → next ≤ 1
  pub enough : spare ≤ left + done
  pub thrift : IsThrifty a.shape.depth levels done budget
  pub first : shape.first ≡ head_or (levels (a.shape.depth - 1)) 0
  pub last : shape.last ≡ last_or (levels (a.shape.depth - 1)) 0
  pub root : shape.root ≡ a.shape.root
  pub depth : shape.depth ≡ a.shape.depth
  pub single : (i : ℕ) → i < a.shape.depth → length (levels i) ≡ 1 → a.used (get_or (levels i) 0 0) ≡ true
  pub grown : 0 < done → a.shape.depth ≡ done → 1 < a.shape.depth → next ≡ 1 → length (items (s.nodes a.shape.root)) ≤ length (items (a.nodes a.shape.root)) + 1
  pub over : 0 < done → a.shape.depth ≡ done → 1 < a.shape.depth → next ≡ 2 → node_room a.shape.node_size < (max + 8) * (length (items (a.nodes a.shape.root)) + 1)
  pub others : (n : ℕ) → a.reserved n ≡ false → a.used n ≡ false → s.used n ≡ false → s.nodes n ≡ a.nodes n

last_is : (l : List ℕ) → get_or l (length l - 1) 0 ≡ last_or l 0
last_is [] = refl
last_is (n ∷ l) = sym (last_get (n ∷ l) 0 (omega arith))

head_some : (l : List ℕ) (d b : ℕ) → 0 < length l → get_or l 0 d ≡ head_or l b
head_some [] d b some = absurd (omega arith)
head_some (n ∷ l) d b some = refl

-- one level is another list
abbrev pub with_level : ℕ → List ℕ → LevelLists → LevelLists
with_level j l levels i = cond (eqb i j) l (levels i)

with_level_here : (j : ℕ) (l : List ℕ) (levels : LevelLists) → with_level j l levels j ≡ l
with_level_here j l levels = elim (eqb_tells j j) [
  | inl (yes_is, same) ↦ ap (λ b. cond b l (levels j)) yes_is
  | inr (no_is, other) ↦ absurd (other refl)
]

with_level_other : (j : ℕ) (l : List ℕ) (levels : LevelLists) (i : ℕ) → i ≢ j → with_level j l levels i ≡ levels i
with_level_other j l levels i apart = elim (eqb_tells i j) [
  | inl (yes_is, same) ↦ absurd (apart same)
  | inr (no_is, other) ↦ ap (λ b. cond b l (levels i)) no_is
]

pub but_whole : {is_key : List ℕ → Type 0} {cmp : List ℕ → List ℕ → Ordering} {s : Store} {depth : ℕ} {levels : LevelLists} (place : ℕ) (put : List (List ℕ))
    → IsTreeBut is_key cmp s depth levels 0 place put → IsTreeBut is_key cmp s depth levels 0 0 []
but_whole place put but = record {
  each = but.each;
  some = but.some;
  named = but.named;
  wanted = λ j low is. absurd (omega arith);
  mapped = but.mapped;
  header = but.header;
  free = but.free;
}

module _ {is_key : List ℕ → Type 0} {cmp : List ℕ → List ℕ → Ordering} (max : ℕ)
    (key_length : (x : List ℕ) → is_key x → length x ≡ big_at 2 x 0 + 2) (key_most : (x : List ℕ) → is_key x → length x ≤ max + 2)
    (a : Store) (path : List PathStep) (at : ℕ) (removed : Bool) (put : List (List ℕ)) (spare : ℕ) (can : CanClimb is_key cmp max a path at removed put spare)
  where
    used_in_tree : (i k : ℕ) → i < a.shape.depth → k < length (level_of a i) → a.used (get_or (level_of a i) k 0) ≡ true
    used_in_tree i k low inside =
        bit_true (a.used (get_or (level_of a i) k 0)) (omega (arith, is_used a a.shape.depth (λ m. level_of a m) a.shape.depth 0 [] (but_of_tree a can.tree 0 []) i k low inside))

    -- at first nothing is done
    pub ascent_start : (shape : TreeShape) (desk : Desk) (next : ℕ) → shape ≡ a.shape → records_on next desk ≡ put → next ≤ 2
        → IsAscent is_key cmp max a a path at removed put spare shape desk 0 next removed spare (4 * a.shape.depth)
    ascent_start shape desk next shape_is on few =
        let deep : a.shape.depth - 0 ≡ a.shape.depth = omega arith in
        let leaf : a.shape.depth - 1 + 1 ≡ a.shape.depth = omega (arith, can.some) in
        record {
          levels = λ i. level_of a i;
          fresh = 0;
          but = subst (λ d. IsTreeBut is_key cmp a a.shape.depth (λ i. level_of a i) d (way_place a path d) (records_on next desk)) (sym deep)
              (but_of_tree a can.tree (way_place a path a.shape.depth) (records_on next desk));
          old_levels = λ i low. refl;
          kept = λ i k low inside. refl;
          begin = λ none. (refl, on);
          later = λ some. absurd (omega arith);
          top = λ some. absurd (omega arith);
          few = few;
          alone = λ one none. omega (arith, ap length (on ∙ none), length-take next ((desk.first.key ++ desk.first.value) ∷ (desk.second.key ++ desk.second.value) ∷ []));
          enough = omega arith;
          thrift = record { split = 0; low = omega arith; twin = λ some. absurd (omega arith); enough = omega arith };
          first = ap (λ h. h.first) shape_is ∙ can.tree.header.first (a.shape.depth - 1) leaf ∙ head_get (level_of a (a.shape.depth - 1));
          last = ap (λ h. h.last) shape_is ∙ can.tree.header.last (a.shape.depth - 1) leaf ∙ last_is (level_of a (a.shape.depth - 1));
          root = ap (λ h. h.root) shape_is;
          depth = ap (λ h. h.depth) shape_is;
          single = λ i low one. used_in_tree i 0 low (omega arith);
          grown = λ some. absurd (omega arith);
          over = λ some. absurd (omega arith);
          others = λ n free unused still. refl;
        }

    -- a store that was read
    pub ascent_read : (s t : Store) (shape : TreeShape) (desk desk2 : Desk) (done next : ℕ) (gone : Bool) (left budget : ℕ)
        → t.shape ≡ s.shape → ((n : ℕ) → t.nodes n ≡ s.nodes n) → ((n : ℕ) → t.used n ≡ s.used n) → ((n : ℕ) → t.reserved n ≡ s.reserved n)
        → records_on next desk2 ≡ records_on next desk
        → IsAscent is_key cmp max a s path at removed put spare shape desk done next gone left budget → IsAscent is_key cmp max a t path at removed put spare shape desk2 done next gone left budget
    ascent_read s t shape desk desk2 done next gone left budget same nodes used reserved on asc =
        let same_all : (ns : List ℕ) → entries t.nodes ns ≡ entries s.nodes ns = λ ns. same_entries s.nodes t.nodes ns (λ k inside. ap items (nodes (get_or ns k 0))) in
        record {
          levels = asc.levels;
          fresh = asc.fresh;
          but = subst (λ rs. IsTreeBut is_key cmp t a.shape.depth asc.levels (a.shape.depth - done) (way_place a path (a.shape.depth - done)) rs) (sym on)
              (but_kept s t a.shape.depth asc.levels (a.shape.depth - done) (way_place a path (a.shape.depth - done)) (records_on next desk) asc.but
              (ap (λ h. h.node_size) same) (ap (λ h. h.total) same) (ap (λ h. h.free) same) (λ j k low inside. nodes (get_or (asc.levels j) k 0)) used reserved);
          old_levels = asc.old_levels;
          kept = λ i k low inside. nodes (get_or (level_of a i) k 0) ∙ asc.kept i k low inside;
          begin = λ none. ((asc.begin none).0, on ∙ (asc.begin none).1);
          later = λ some. ((asc.later some).0, same_all (asc.levels (a.shape.depth - 1)) ∙ (asc.later some).1);
          top = λ some all. ((asc.top some all).0, on ∙ (asc.top some all).1 ∙ sym (names_same s.nodes t.nodes (asc.levels 0) (λ k inside. ap items (nodes (get_or (asc.levels 0) k 0)))));
          few = asc.few;
          alone = asc.alone;
          enough = asc.enough;
          thrift = asc.thrift;
          first = asc.first;
          last = asc.last;
          root = asc.root;
          depth = asc.depth;
          single = asc.single;
          grown = λ some all deep one. omega (arith, asc.grown some all deep one, ap (λ l. length (items l)) (nodes a.shape.root));
          over = asc.over;
          others = λ n free unused still. nodes n ∙ asc.others n free unused (sym (used n) ∙ still);
        }

    -- the node of the way is one of the tree
    pub way_node : (s : Store) (shape : TreeShape) (desk : Desk) (done next : ℕ) (gone : Bool) (left budget : ℕ) → IsAscent is_key cmp max a s path at removed put spare shape desk done next gone left budget
        → (j : ℕ) → j + (done + 1) ≡ a.shape.depth → IsTreeNode s (done + 1) (stop_at path j).node
    way_node s shape desk done next gone left budget asc j j_is =
        let of_tree : j < a.shape.depth = omega arith in
        let is : asc.levels j ≡ level_of a j = asc.old_levels j (omega arith) in
        let inside : way_place a path j < length (asc.levels j) = omega (arith, can.way.inside j of_tree, ap length is) in
        let node : get_or (asc.levels j) (way_place a path j) 0 ≡ (stop_at path j).node = ap (λ l. get_or l (way_place a path j) 0) is ∙ can.way.node j of_tree in
        subst (λ h. IsTreeNode s h (stop_at path j).node) {x = a.shape.depth - j} (omega arith)
        (subst (λ n. IsTreeNode s (a.shape.depth - j) n) node ((asc.but.each j of_tree).nodes (way_place a path j) inside))

    -- the next level
    module _ (s : Store) (same : SameStore a s) (shape : TreeShape) (desk : Desk) (done next : ℕ) (gone : Bool) (left budget : ℕ)
        (asc : IsAscent is_key cmp max a s path at removed put spare shape desk done next gone left budget)
        (j : ℕ) (j_is : j + (done + 1) ≡ a.shape.depth) (p : ℕ) (p_leaf : done ≡ 0 → p ≡ at) (p_above : 0 < done → p ≡ (stop_at path j).at)
      where
        abbrev pub node : ℕ
        node = (stop_at path j).node

        from_is : a.shape.depth - done ≡ j + 1
        from_is = omega arith

        but : IsTreeBut is_key cmp s a.shape.depth asc.levels (j + 1) (way_place a path (j + 1)) (records_on next desk)
        but = subst (λ d. IsTreeBut is_key cmp s a.shape.depth asc.levels d (way_place a path d) (records_on next desk)) from_is asc.but

        of_tree : j < a.shape.depth
        of_tree = omega arith

        level_is : asc.levels j ≡ level_of a j
        level_is = asc.old_levels j (omega arith)

        q_inside : way_place a path j < length (asc.levels j)
        q_inside = omega (arith, can.way.inside j of_tree, ap length level_is)

        node_is : get_or (asc.levels j) (way_place a path j) 0 ≡ node
        node_is = ap (λ l. get_or l (way_place a path j) 0) level_is ∙ can.way.node j of_tree

        abbrev pub xs : List ℕ
        xs = take (way_place a path j) (asc.levels j)

        abbrev pub ys : List ℕ
        ys = drop (suc (way_place a path j)) (asc.levels j)

        xs_long : length xs ≡ way_place a path j
        xs_long = length-take-le (way_place a path j) (asc.levels j) (omega (arith, q_inside))

        whole : asc.levels j ≡ xs ++ node ∷ ys
        whole = split_at (asc.levels j) (way_place a path j) q_inside ∙ ap (λ n. xs ++ n ∷ ys) node_is

        -- the level is as it was
        level_same : (k : ℕ) → k < length (asc.levels j) → s.nodes (get_or (asc.levels j) k 0) ≡ a.nodes (get_or (asc.levels j) k 0)
        level_same k inside =
            subst (λ l. s.nodes (get_or l k 0) ≡ a.nodes (get_or l k 0)) (sym level_is) (asc.kept j k (omega arith) (omega (arith, ap length level_is)))

        records_same : entries s.nodes (asc.levels j) ≡ entries_of a j
        records_same = same_entries a.nodes s.nodes (asc.levels j) (λ k inside. ap items (level_same k inside)) ∙ ap (λ l. entries a.nodes l) level_is

        front_same : entries s.nodes xs ≡ entries a.nodes (take (way_place a path j) (level_of a j))
        front_same =
            same_entries a.nodes s.nodes xs (λ k inside.
            let at_k : get_or (take (way_place a path j) (asc.levels j)) k 0 ≡ get_or (asc.levels j) k 0 = get_or-take (way_place a path j) (asc.levels j) k 0 (omega (arith, xs_long)) in
            ap (λ n. items (s.nodes n)) at_k ∙ ap items (level_same k (omega (arith, xs_long, q_inside))) ∙ sym (ap (λ n. items (a.nodes n)) at_k))
            ∙ ap (λ l. entries a.nodes (take (way_place a path j) l)) level_is

        node_same : items (s.nodes node) ≡ items (a.nodes node)
        node_same = ap (λ n. items (s.nodes n)) (sym node_is) ∙ ap items (level_same (way_place a path j) q_inside) ∙ ap (λ n. items (a.nodes n)) node_is

        start_is : length (entries s.nodes xs) ≡ length (entries a.nodes (take (way_place a path j) (level_of a j)))
        start_is = ap length front_same

        leaf_is : done ≡ 0 → j ≡ a.shape.depth - 1
        leaf_is none = omega arith

        -- the place is one of the node's
        pub within : p + bit gone ≤ length (items (s.nodes node))
        within = elim (cases_lt 0 done) [
          | inl some ↦
              let below = can.way.below j (omega arith) in
              omega (arith, below, p_above some, ap bit (asc.later some).0, ap length node_same)
          | inr none ↦
              let first : done ≡ 0 = omega arith in
              omega (arith, can.inside, p_leaf first, ap bit (asc.begin first).0, ap length node_same, ap (λ i. length (items (a.nodes (stop_at path i).node))) (leaf_is first))
        ]

        in_level : length (entries s.nodes xs) + length (items (s.nodes node)) ≤ length (entries s.nodes (asc.levels j))
        in_level = omega (arith, ap (λ l. length (entries s.nodes l)) whole, level_long s.nodes xs node ys)

        abbrev pub goal : List (List ℕ)
        goal = splice (entries s.nodes (asc.levels j)) (length (entries s.nodes xs) + p) (length (entries s.nodes xs) + (p + bit gone)) (records_on next desk)

        goal_leaf : done ≡ 0 → goal ≡ leaves_edited a path at removed put
        goal_leaf first =
            let at_leaf : j ≡ a.shape.depth - 1 = leaf_is first in
            let start : length (entries s.nodes xs) ≡ leaf_start a path = start_is ∙ ap (λ i. length (entries a.nodes (take (way_place a path i) (level_of a i)))) at_leaf in
            let place : p ≡ at = p_leaf first in
            let took : gone ≡ removed = (asc.begin first).0 in
            ap (λ l. splice l (length (entries s.nodes xs) + p) (length (entries s.nodes xs) + (p + bit gone)) (records_on next desk)) (records_same ∙ ap (λ i. entries_of a i) at_leaf)
            ∙ ap (λ n. splice (entries_of a (a.shape.depth - 1)) (n + p) (n + (p + bit gone)) (records_on next desk)) start
            ∙ ap (λ n. splice (entries_of a (a.shape.depth - 1)) (leaf_start a path + n) (leaf_start a path + (n + bit gone)) (records_on next desk)) place
            ∙ ap (λ b. splice (entries_of a (a.shape.depth - 1)) (leaf_start a path + at) (leaf_start a path + (at + bit b)) (records_on next desk)) took
            ∙ ap (λ l. splice (entries_of a (a.shape.depth - 1)) (leaf_start a path + at) (leaf_start a path + (at + bit removed)) l) (asc.begin first).1

        place_above : 0 < done → length (entries s.nodes xs) + p ≡ way_place a path (j + 1)
        place_above some = omega (arith, start_is, p_above some, ap (λ i. way_place a path i) {x = j + 1} {y = suc j} (omega arith))

        goal_above : 0 < done → map (λ n. record_for s.nodes n) (asc.levels (j + 1)) ≡ goal
        goal_above some =
            let place = place_above some in
            let took : gone ≡ true = (asc.later some).0 in
            but.wanted j (omega arith) refl
            ∙ ap (λ n. splice (entries s.nodes (asc.levels j)) n (n + 1) (records_on next desk)) (sym place)
            ∙ ap (λ n. splice (entries s.nodes (asc.levels j)) (length (entries s.nodes xs) + p) n (records_on next desk)) {y = length (entries s.nodes xs) + (p + bit gone)} (omega (arith, ap bit took))

        low_place : length (entries s.nodes xs) + p ≤ length (entries s.nodes xs) + (p + bit gone)
        low_place = omega arith

        high_place : length (entries s.nodes xs) + (p + bit gone) ≤ length (entries s.nodes (asc.levels j))
        high_place = omega (arith, within, in_level)

        here : IsLevel is_key cmp s (a.shape.depth - j) (asc.levels j)
        here = but.each j of_tree

        below_level : 0 < done → IsLevel is_key cmp s (a.shape.depth - (j + 1)) (asc.levels (j + 1))
        below_level some = but.each (j + 1) (omega arith)

        below_some : 0 < done → NoneEmpty s.nodes (asc.levels (j + 1))
        below_some some = but.some (j + 1) (omega arith) (inl (omega arith))

        pub goal_keys : (k : ℕ) → k < length goal → is_key (key_of (get_or goal k []))
        goal_keys = elim (cases_lt 0 done) [
          | inl some ↦
              subst (λ l. (k : ℕ) → k < length l → is_key (key_of (get_or l k []))) (goal_above some)
              (names_keys is_key cmp key_length s.nodes (asc.levels (j + 1)) (below_some some) (below_level some).keys)
          | inr none ↦
              let first : done ≡ 0 = omega arith in
              each_spliced (entries s.nodes (asc.levels j)) (records_on next desk) (length (entries s.nodes xs) + p) (length (entries s.nodes xs) + (p + bit gone)) low_place high_place []
              (λ r. is_key (key_of r)) here.keys (subst (λ l. (k : ℕ) → k < length l → is_key (key_of (get_or l k []))) (sym (asc.begin first).1) can.keys)
        ]

        pub goal_ascends : Ascends cmp goal
        goal_ascends = elim (cases_lt 0 done) [
          | inl some ↦
              subst (λ l. Ascends cmp l) (goal_above some)
              (names_ascend is_key cmp key_length s.nodes (asc.levels (j + 1)) (below_some some) (below_level some).keys (below_level some).ascends)
          | inr none ↦ subst (λ l. Ascends cmp l) (sym (goal_leaf (omega arith))) can.ascends
        ]

        size_same : s.shape.node_size ≡ a.shape.node_size
        size_same = same.node_size

        put_short : done ≡ 0 → (k : ℕ) → k < length (records_on next desk) → length (get_or (records_on next desk) k []) ≤ s.shape.node_size / 2 - 10
        put_short first = subst (λ n. (k : ℕ) → k < length (records_on next desk) → length (get_or (records_on next desk) k []) ≤ n / 2 - 10) (sym size_same)
            (subst (λ l. (k : ℕ) → k < length l → length (get_or l k []) ≤ a.shape.node_size / 2 - 10) (sym (asc.begin first).1) can.short)

        pub goal_short : a.shape.depth - j ≡ 1 → (k : ℕ) → k < length goal → length (get_or goal k []) ≤ s.shape.node_size / 2 - 10
        goal_short leaf =
            each_spliced (entries s.nodes (asc.levels j)) (records_on next desk) (length (entries s.nodes xs) + p) (length (entries s.nodes xs) + (p + bit gone)) low_place high_place []
            (λ r. length r ≤ s.shape.node_size / 2 - 10) (here.short leaf) (put_short (omega arith))

        -- what holds of each record of the level holds of each of the node's
        of_node : (P : List ℕ → Type 0) → ((k : ℕ) → k < length (entries s.nodes (asc.levels j)) → P (get_or (entries s.nodes (asc.levels j)) k []))
            → (k : ℕ) → k < length (items (s.nodes node)) → P (get_or (items (s.nodes node)) k [])
        of_node P each k inside =
            subst P (ap (λ l. get_or (entries s.nodes l) (length (entries s.nodes xs) + k) []) whole ∙ in_node s.nodes xs node ys k inside)
            (each (length (entries s.nodes xs) + k) (omega (arith, in_level)))

        node_of_tree : IsTreeNode s (a.shape.depth - j) node
        node_of_tree = subst (λ n. IsTreeNode s (a.shape.depth - j) n) node_is (here.nodes (way_place a path j) q_inside)

        room : ℕ
        room = node_room s.shape.node_size

        items_fit : taken (items (s.nodes node)) ≤ node_room s.shape.node_size
        items_fit = omega (arith, taken_fits (s.nodes node) node_of_tree.kind.well_formed, node_of_tree.size)

        edited_is : bit gone ≡ 0 → taken (edited s node p gone (records_on next desk)) ≡ taken (items (s.nodes node)) + taken (records_on next desk)
        edited_is none = ap (λ n. taken (splice (items (s.nodes node)) p n (records_on next desk))) {y = p} (omega arith) ∙ taken_put (items (s.nodes node)) (records_on next desk) p

        edited_less : bit gone ≡ 1
            → taken (edited s node p gone (records_on next desk)) + (length (get_or (items (s.nodes node)) p []) + 2) ≡ taken (items (s.nodes node)) + taken (records_on next desk)
        edited_less one =
            ap (λ n. taken (splice (items (s.nodes node)) p n (records_on next desk)) + (length (get_or (items (s.nodes node)) p []) + 2)) {y = p + 1} (omega arith)
            ∙ taken_replaced (items (s.nodes node)) (records_on next desk) p (omega (arith, within))

        edited_most : taken (edited s node p gone (records_on next desk)) ≤ taken (items (s.nodes node)) + taken (records_on next desk)
        edited_most = by gone refl
          where
            by : (b : Bool) → gone ≡ b → taken (edited s node p gone (records_on next desk)) ≤ taken (items (s.nodes node)) + taken (records_on next desk)
            by true e = omega (arith, edited_less (ap bit e))
            by false e = omega (arith, edited_is (ap bit e))

        edited_each : (P : List ℕ → Type 0) → ((k : ℕ) → k < length (entries s.nodes (asc.levels j)) → P (get_or (entries s.nodes (asc.levels j)) k []))
            → ((k : ℕ) → k < length (records_on next desk) → P (get_or (records_on next desk) k []))
            → (k : ℕ) → k < length (edited s node p gone (records_on next desk)) → P (get_or (edited s node p gone (records_on next desk)) k [])
        edited_each P old new =
            each_spliced (items (s.nodes node)) (records_on next desk) p (p + bit gone) (omega arith) within [] P (of_node P old) new

        -- of a leaf
        module _ (first : done ≡ 0) where
          leaf_height : a.shape.depth - j ≡ 1
          leaf_height = omega arith

          half_room : ℕ
          half_room = node_room s.shape.node_size / 2

          fits_half : (n : ℕ) → n ≤ s.shape.node_size / 2 - 10 → n + 2 ≤ node_room s.shape.node_size / 2
          fits_half n short = omega (arith, short, can.wide, size_same)

          put_one : length (records_on next desk) ≤ 1
          put_one = omega (arith, can.one, ap length (asc.begin first).1)

          leaf_fits : FitsTwo s.shape.node_size (edited s node p gone (records_on next desk))
          leaf_fits = record {
            longest = node_room s.shape.node_size / 2;
            each = edited_each (λ r. length r + 2 ≤ node_room s.shape.node_size / 2)
                (λ k inside. fits_half (length (get_or (entries s.nodes (asc.levels j)) k [])) (here.short leaf_height k inside))
                (λ k inside. fits_half (length (get_or (records_on next desk) k [])) (put_short first k inside));
            half = omega arith;
            whole = omega (
              arith,
              edited_most,
              items_fit,
              taken_one (node_room s.shape.node_size / 2) (records_on next desk) put_one (λ k inside. fits_half (length (get_or (records_on next desk) k [])) (put_short first k inside)),
            );
          }

        -- of a node above the leaves
        module _ (some : 0 < done) where
          names : List (List ℕ)
          names = map (λ n. record_for s.nodes n) (asc.levels (j + 1))

          names_most : (k : ℕ) → k < length (map (λ n. record_for s.nodes n) (asc.levels (j + 1))) → length (get_or (map (λ n. record_for s.nodes n) (asc.levels (j + 1))) k []) + 2 ≤ max + 8
          names_most k inside =
              omega (arith, names_short is_key cmp key_length s.nodes (asc.levels (j + 1)) (below_some some) (below_level some).keys (max + 2) key_most k inside)

          goal_most : (k : ℕ) → k < length goal → length (get_or goal k []) + 2 ≤ max + 8
          goal_most = subst (λ l. (k : ℕ) → k < length l → length (get_or l k []) + 2 ≤ max + 8) (goal_above some) names_most

          put_in_goal : (k : ℕ) → k < length (records_on next desk) → length (entries s.nodes xs) + p + k < length goal
          put_in_goal k inside =
              omega (arith, length-splice (entries s.nodes (asc.levels j)) (records_on next desk) (length (entries s.nodes xs) + p) (length (entries s.nodes xs) + (p + bit gone)) low_place high_place [], high_place)

          put_at : (k : ℕ) → k < length (records_on next desk) → get_or goal (length (entries s.nodes xs) + p + k) [] ≡ get_or (records_on next desk) k []
          put_at k inside =
              spliced_middle (entries s.nodes (asc.levels j)) (records_on next desk) (length (entries s.nodes xs) + p) (length (entries s.nodes xs) + (p + bit gone)) low_place high_place [] k inside

          put_most : (k : ℕ) → k < length (records_on next desk) → length (get_or (records_on next desk) k []) + 2 ≤ max + 8
          put_most k inside = omega (arith, goal_most (length (entries s.nodes xs) + p + k) (put_in_goal k inside), ap length (put_at k inside))

          -- the level's own records named the nodes below it before
          old_level : entries s.nodes (asc.levels j) ≡ map (λ n. record_for a.nodes n) (level_of a (j + 1))
          old_level = records_same ∙ can.tree.levels.named j (omega arith)

          a_level : IsLevel is_key cmp a (a.shape.depth - (j + 1)) (level_of a (j + 1))
          a_level = (but_of_tree a can.tree 0 []).each (j + 1) (omega arith)

          a_some : NoneEmpty a.nodes (level_of a (j + 1))
          a_some = (but_of_tree a can.tree 0 []).some (j + 1) (omega arith) (inl (omega arith))

          old_most : (k : ℕ) → k < length (entries s.nodes (asc.levels j)) → length (get_or (entries s.nodes (asc.levels j)) k []) + 2 ≤ max + 8
          old_most =
              subst (λ l. (k : ℕ) → k < length l → length (get_or l k []) + 2 ≤ max + 8) (sym old_level)
              (λ k inside. omega (arith, names_short is_key cmp key_length a.nodes (level_of a (j + 1)) a_some a_level.keys (max + 2) key_most k inside))

          put_few : length (records_on next desk) ≤ 2
          put_few = omega (arith, length-take next ((desk.first.key ++ desk.first.value) ∷ (desk.second.key ++ desk.second.value) ∷ []), asc.few)

          index_fits : FitsTwo s.shape.node_size (edited s node p gone (records_on next desk))
          index_fits = record {
            longest = max + 8;
            each = edited_each (λ r. length r + 2 ≤ max + 8) old_most put_most;
            half = omega (arith, can.wide, size_same);
            whole = omega (arith, edited_most, items_fit, taken_two (max + 8) (records_on next desk) put_few put_most, can.wide, size_same);
          }

          -- where all keys have one length, the new record takes what the old one took
          module _ (one : AreOfOneLength is_key) (single : length (records_on next desk) ≤ 1) where
            old_place : length (entries s.nodes xs) + p < length (level_of a (j + 1))
            old_place = omega (arith, within, ap bit (asc.later some).0, in_level, ap length old_level, names_long is_key cmp key_length a.nodes (level_of a (j + 1)) a_some a_level.keys)

            old_record : length (get_or (items (s.nodes node)) p []) ≡ length (first_key a.nodes (get_or (level_of a (j + 1)) (length (entries s.nodes xs) + p) 0)) + 4
            old_record =
                ap length (sym (ap (λ l. get_or (entries s.nodes l) (length (entries s.nodes xs) + p) []) whole ∙ in_node s.nodes xs node ys p (omega (arith, within, ap bit (asc.later some).0))))
                ∙ ap (λ l. length (get_or l (length (entries s.nodes xs) + p) [])) old_level
                ∙ ap length (named_at is_key cmp key_length a.nodes (level_of a (j + 1)) a_some a_level.keys (length (entries s.nodes xs) + p) old_place)
                ∙ name_long is_key cmp key_length a.nodes (level_of a (j + 1)) a_some a_level.keys (length (entries s.nodes xs) + p) old_place

            new_record : (k : ℕ) → k < length (records_on next desk) → length (get_or (records_on next desk) k []) ≡ length (get_or (items (s.nodes node)) p [])
            new_record k inside =
                let at_k : ℕ = length (entries s.nodes xs) + p + k in
                let new_place : length (entries s.nodes xs) + p + k < length (asc.levels (j + 1)) =
                omega (arith, put_in_goal k inside, ap length (goal_above some), names_long is_key cmp key_length s.nodes (asc.levels (j + 1)) (below_some some) (below_level some).keys) in
                ap length (sym (put_at k inside))
                ∙ ap (λ l. length (get_or l (length (entries s.nodes xs) + p + k) [])) (sym (goal_above some))
                ∙ ap length (named_at is_key cmp key_length s.nodes (asc.levels (j + 1)) (below_some some) (below_level some).keys (length (entries s.nodes xs) + p + k) new_place)
                ∙ name_long is_key cmp key_length s.nodes (asc.levels (j + 1)) (below_some some) (below_level some).keys (length (entries s.nodes xs) + p + k) new_place
                ∙ ap (λ n. n + 4)
                (one (first_key s.nodes (get_or (asc.levels (j + 1)) (length (entries s.nodes xs) + p + k) 0)) (first_key a.nodes (get_or (level_of a (j + 1)) (length (entries s.nodes xs) + p) 0))
                (first_is_key is_key cmp key_length s.nodes (asc.levels (j + 1)) (below_some some) (below_level some).keys (length (entries s.nodes xs) + p + k) new_place)
                (first_is_key is_key cmp key_length a.nodes (level_of a (j + 1)) a_some a_level.keys (length (entries s.nodes xs) + p) old_place))
                ∙ sym old_record

            same_room : taken (edited s node p gone (records_on next desk)) ≤ node_room s.shape.node_size
            same_room =
                omega (
                  arith,
                  edited_less (ap bit (asc.later some).0),
                  items_fit,
                  taken_one (length (get_or (items (s.nodes node)) p []) + 2) (records_on next desk) single (λ k inside. omega (arith, new_record k inside)),
                )

        pub fits : FitsTwo s.shape.node_size (edited s node p gone (records_on next desk))
        fits = elim (cases_lt 0 done) [ inl some ↦ index_fits some | inr none ↦ leaf_fits (omega arith) ]

        -- where no node may be taken, none is needed
        pub needs_none : AreOfOneLength is_key → put ≡ [] → taken (edited s node p gone (records_on next desk)) ≤ node_room s.shape.node_size
        needs_none one none_put = elim (cases_lt 0 done) [
          | inl some ↦
              same_room some one (omega (arith, length-take next ((desk.first.key ++ desk.first.value) ∷ (desk.second.key ++ desk.second.value) ∷ []), asc.alone one none_put))
          | inr none ↦ omega (arith, edited_most, items_fit, ap taken ((asc.begin (omega arith)).1 ∙ none_put))
        ]

        pub can_edit : CanEdit s (a.shape.depth - j) node p gone (records_on next desk) left
        can_edit = record {
          spot = spot_of s a.shape.depth asc.levels (j + 1) (way_place a path (j + 1)) (records_on next desk) but j of_tree (way_place a path j) node q_inside node_is;
          inside = within;
          fits = fits;
          enough = elim can.enough [ inl many ↦ inr (omega (arith, asc.enough)) | inr (none_put, one) ↦ inl (needs_none one none_put) ];
        }

        module _ (t : Store) (count : ℕ) (changed : Bool) (desk2 : Desk) (shape2 : TreeShape) (left2 : ℕ)
            (edit : LevelEdit s t (a.shape.depth - j) node p gone (records_on next desk) count changed desk2 shape shape2) (spent : left ≤ left2 + 1)
            (budget2 cost : ℕ) (paid : budget ≤ budget2 + cost) (cheap : cost ≤ 4) (thrifty : (count ≡ 2) ⊎ (cost ≤ 3))
          where
            abbrev pub parts : List ℕ
            parts = parts_of count node edit.fresh

            levels2 : LevelLists
            levels2 = with_level j (xs ++ (parts ++ ys)) asc.levels

            at_j : levels2 j ≡ xs ++ (parts ++ ys)
            unfolding levels2
            at_j = with_level_here j (xs ++ (parts ++ ys)) asc.levels

            elsewhere : (i : ℕ) → i ≢ j → levels2 i ≡ asc.levels i
            unfolding levels2
            elsewhere i other = with_level_other j (xs ++ (parts ++ ys)) asc.levels i other

            -- beside the root there is no node of its level, and elsewhere none is empty
            root_alone : length (level_of a 0) ≡ 1
            root_alone = refl

            xs_none : j ≡ 0 → length xs ≡ 0
            xs_none root = omega (arith, xs_long, ap (λ i. way_place a path i) root)

            ys_none : j ≡ 0 → length ys ≡ 0
            ys_none root = omega (arith, length-drop (suc (way_place a path j)) (asc.levels j), ap length level_is, ap (λ i. length (level_of a i)) root)

            some_level : 0 < j → NoneEmpty s.nodes (asc.levels j)
            some_level above_root = but.some j of_tree (inl above_root)

            some_xs : NoneEmpty s.nodes xs
            some_xs k inside = elim (cases_lt 0 j) [
              | inl above_root ↦
                  subst (λ n. 0 < length (items (s.nodes n))) (sym (get_or-take (way_place a path j) (asc.levels j) k 0 (omega (arith, xs_long)))) (some_level above_root k (omega (arith, xs_long, q_inside)))
              | inr root ↦ absurd (omega (arith, xs_none (omega arith)))
            ]

            some_ys : NoneEmpty s.nodes ys
            some_ys k inside = elim (cases_lt 0 j) [
              | inl above_root ↦
                  subst (λ n. 0 < length (items (s.nodes n))) (sym (get_or-drop (suc (way_place a path j)) (asc.levels j) k 0))
                  (some_level above_root (suc (way_place a path j) + k) (omega (arith, length-drop (suc (way_place a path j)) (asc.levels j))))
              | inr root ↦ absurd (omega (arith, ys_none (omega arith)))
            ]

            named_goal : j + 1 < a.shape.depth → map (λ n. record_for s.nodes n) (asc.levels (j + 1)) ≡ goal
            named_goal low = goal_above (omega arith)

            but2 : IsTreeBut is_key cmp t a.shape.depth levels2 j (length xs) (map (λ n. record_for t.nodes n) parts)
            but2 =
                stepped s t a.shape.depth asc.levels j (way_place a path (j + 1)) (records_on next desk) but node p gone (records_on next desk) count changed desk2 shape shape2 edit xs ys whole of_tree
                within goal_keys goal_ascends goal_short some_xs some_ys named_goal levels2 at_j elsewhere

            made_here : entries t.nodes (levels2 j) ≡ goal
            made_here =
                records_then s t a.shape.depth asc.levels j (way_place a path (j + 1)) (records_on next desk) but node p gone (records_on next desk) count changed desk2 shape shape2 edit xs ys whole of_tree
                within goal_keys goal_ascends goal_short some_xs some_ys named_goal levels2 at_j elsewhere

            stays : (i : ℕ) → i < a.shape.depth → i ≢ j → (k : ℕ) → k < length (asc.levels i) → t.nodes (get_or (asc.levels i) k 0) ≡ s.nodes (get_or (asc.levels i) k 0)
            stays = others_kept s t a.shape.depth asc.levels j (way_place a path (j + 1)) (records_on next desk) but node p gone (records_on next desk) count changed desk2 shape shape2 edit xs ys whole of_tree

            kept2 : (i k : ℕ) → i < j → k < length (level_of a i) → t.nodes (get_or (level_of a i) k 0) ≡ a.nodes (get_or (level_of a i) k 0)
            kept2 i k low inside =
                let is : asc.levels i ≡ level_of a i = asc.old_levels i (omega arith) in
                subst (λ l. t.nodes (get_or l k 0) ≡ s.nodes (get_or l k 0)) is (stays i (omega arith) (λ e. absurd (omega arith)) k (omega (arith, ap length is)))
                ∙ asc.kept i k (omega arith) inside

            leaves_then : entries t.nodes (levels2 (a.shape.depth - 1)) ≡ leaves_edited a path at removed put
            leaves_then = elim (cases_lt 0 done) [
              | inl some ↦
                  let other : a.shape.depth - 1 ≢ j = λ e. absurd (omega arith) in
                  ap (λ l. entries t.nodes l) (elsewhere (a.shape.depth - 1) other)
                  ∙ same_entries s.nodes t.nodes (asc.levels (a.shape.depth - 1)) (λ k inside. ap items (stays (a.shape.depth - 1) (omega arith) other k inside))
                  ∙ (asc.later some).1
              | inr none ↦ ap (λ i. entries t.nodes (levels2 i)) (sym (leaf_is (omega arith))) ∙ made_here ∙ goal_leaf (omega arith)
            ]

            handed_on : records_on count desk2 ≡ map (λ n. record_for t.nodes n) parts
            handed_on = edit.handed

            root_is : j ≡ 0 → node ≡ a.shape.root
            root_is root = sym (can.way.node j of_tree) ∙ ap (λ i. get_or (level_of a i) (way_place a path i) 0) root

            top_parts : j ≡ 0 → levels2 0 ≡ parts
            top_parts root =
                ap (λ i. levels2 i) (sym root) ∙ at_j ∙ ap (λ l. l ++ (parts ++ ys)) (nil_from_length xs (xs_none root))
                ∙ ap (λ l. parts ++ l) (nil_from_length ys (ys_none root)) ∙ append-nil parts

            front_is : shape2.first ≡ head_or (levels2 (a.shape.depth - 1)) 0
            front_is = elim (cases_lt 0 done) [
              | inl some ↦
                  let other : a.shape.depth - 1 ≢ j = λ e. absurd (omega arith) in
                  (edit.ends.above (λ e. absurd (omega arith))).0 ∙ asc.first ∙ sym (ap (λ l. head_or l 0) (elsewhere (a.shape.depth - 1) other))
              | inr none ↦
                  let leaf : j ≡ a.shape.depth - 1 = leaf_is (omega arith) in
                  let was : shape.first ≡ head_or xs node = asc.first ∙ ap (λ i. head_or (asc.levels i) 0) (sym leaf) ∙ ap (λ l. head_or l 0) whole ∙ head_or-append xs (node ∷ ys) 0 in
                  let is : head_or (levels2 (a.shape.depth - 1)) 0 ≡ head_or xs (head_or (parts ++ ys) 0) =
                  ap (λ i. head_or (levels2 i) 0) (sym leaf) ∙ ap (λ l. head_or l 0) at_j ∙ head_or-append xs (parts ++ ys) 0 in
                  elim (cases_lt 0 (length xs)) [
                    | inl any ↦
                        let first_node : get_or xs 0 0 ≡ head_or xs node = head_some xs 0 node any in
                        let not_it : shape.first ≢ node = λ e.
                        front_other s t a.shape.depth asc.levels j (way_place a path (j + 1)) (records_on next desk) but node p gone (records_on next desk) count changed desk2 shape shape2 edit xs ys whole of_tree 0 any (first_node ∙ sym was ∙ e) in
                        edit.ends.other_first (omega arith) not_it ∙ was ∙ sym first_node ∙ head_some xs 0 (head_or (parts ++ ys) 0) any ∙ sym is
                    | inr none_xs ↦
                        let empty : xs ≡ [] = nil_from_length xs (omega arith) in
                        edit.ends.first (omega arith) (was ∙ ap (λ l. head_or l node) empty)
                        ∙ ap (λ n. head_or parts n) (behind_is s t a.shape.depth asc.levels j (way_place a path (j + 1)) (records_on next desk) but node p gone (records_on next desk) count changed desk2 shape shape2 edit xs ys whole of_tree)
                        ∙ sym (head_or-append parts ys 0) ∙ sym (ap (λ l. head_or l (head_or (parts ++ ys) 0)) empty) ∙ sym is
                  ]
            ]

            back_is : shape2.last ≡ last_or (levels2 (a.shape.depth - 1)) 0
            back_is = elim (cases_lt 0 done) [
              | inl some ↦
                  let other : a.shape.depth - 1 ≢ j = λ e. absurd (omega arith) in
                  (edit.ends.above (λ e. absurd (omega arith))).1 ∙ asc.last ∙ sym (ap (λ l. last_or l 0) (elsewhere (a.shape.depth - 1) other))
              | inr none ↦
                  let leaf : j ≡ a.shape.depth - 1 = leaf_is (omega arith) in
                  let was : shape.last ≡ last_or ys node = asc.last ∙ ap (λ i. last_or (asc.levels i) 0) (sym leaf) ∙ ap (λ l. last_or l 0) whole ∙ last_or-append xs (node ∷ ys) 0 in
                  let is : last_or (levels2 (a.shape.depth - 1)) 0 ≡ last_or ys (last_or parts (last_or xs 0)) =
                  ap (λ i. last_or (levels2 i) 0) (sym leaf) ∙ ap (λ l. last_or l 0) at_j ∙ last_or-append xs (parts ++ ys) 0 ∙ last_or-append parts ys (last_or xs 0) in
                  elim (cases_lt 0 (length ys)) [
                    | inl any ↦
                        let last_node : get_or ys (length ys - 1) 0 ≡ last_or ys node = sym (last_get ys node any) in
                        let not_it : shape.last ≢ node = λ e.
                        back_other s t a.shape.depth asc.levels j (way_place a path (j + 1)) (records_on next desk) but node p gone (records_on next desk) count changed desk2 shape shape2 edit xs ys whole of_tree (length ys - 1) (omega arith) (last_node ∙ sym was ∙ e) in
                        edit.ends.other_last (omega arith) not_it ∙ was ∙ last_some ys node (last_or parts (last_or xs 0)) any ∙ sym is
                    | inr none_ys ↦
                        let empty : ys ≡ [] = nil_from_length ys (omega arith) in
                        edit.ends.last (omega arith) (was ∙ ap (λ l. last_or l node) empty)
                        ∙ ap (λ n. last_or parts n) (before_is s t a.shape.depth asc.levels j (way_place a path (j + 1)) (records_on next desk) but node p gone (records_on next desk) count changed desk2 shape shape2 edit xs ys whole of_tree)
                        ∙ sym (ap (λ l. last_or l (last_or parts (last_or xs 0))) empty) ∙ sym is
                  ]
            ]

            others_then : (n : ℕ) → a.reserved n ≡ false → a.used n ≡ false → t.used n ≡ false → t.nodes n ≡ a.nodes n
            others_then n free unused still = by (s.used n) refl
              where
                spot : IsInLevel s (a.shape.depth - j) node
                spot = can_edit.spot

                free_now : s.reserved n ≡ false
                free_now = same.reserved n ∙ free

                not_zero : n ≢ 0
                not_zero is =
                    let held : a.reserved n ≡ true = ap (λ m. a.reserved m) is ∙ can.tree.mapped.header in cc

                node_in_a : get_or (level_of a j) (way_place a path j) 0 ≡ node
                node_in_a = can.way.node j of_tree

                node_used : bit (a.used node) ≡ 1
                node_used =
                    subst (λ m. bit (a.used m) ≡ 1) node_in_a
                    (is_used a a.shape.depth (λ i. level_of a i) a.shape.depth 0 [] (but_of_tree a can.tree 0 []) j (way_place a path j) of_tree (can.way.inside j of_tree))

                by : (b : Bool) → s.used n ≡ b → t.nodes n ≡ a.nodes n
                by true used =
                    let is : node ≡ n = elim (cases_eq node n) [
                      | inl e ↦ e
                      | inr other ↦ absurd (omega (arith, edit.used n, ap bit used, ap bit still, bit_other node n other))
                    ] in
                    absurd (omega (arith, node_used, ap (λ m. bit (a.used m)) is, ap bit unused))
                by false unused_now =
                    let other : n ≢ node = λ e.
                    let u1 : s.used n ≡ true = ap (λ m. s.used m) e ∙ spot.used in absurd (omega (arith, ap bit u1, ap bit unused_now)) in
                    let none : times n (parts_of count node edit.fresh) ≡ 0 = omega (arith, edit.used n, ap bit unused_now, ap bit still, bit_other node n (λ e. other (sym e))) in
                    let not_back : n ≢ back_of (s.nodes node) = λ e. elim (cases_eq (back_of (s.nodes node)) 0) [
                      | inl zero_is ↦ not_zero (e ∙ zero_is)
                      | inr some ↦ let u1 : s.used n ≡ true = ap (λ m. s.used m) e ∙ (spot.before some).0.used in absurd (omega (arith, ap bit u1, ap bit unused_now))
                    ] in
                    let not_next : n ≢ next_of (s.nodes node) = λ e. elim (cases_eq (next_of (s.nodes node)) 0) [
                      | inl zero_is ↦ not_zero (e ∙ zero_is)
                      | inr some ↦ let u1 : s.used n ≡ true = ap (λ m. s.used m) e ∙ (spot.behind some).0.used in absurd (omega (arith, ap bit u1, ap bit unused_now))
                    ] in
                    edit.others n free_now other none not_back not_next ∙ asc.others n free unused unused_now

            used_of_level : (n : ℕ) → 1 ≤ times n (asc.levels j) → a.used n ≡ true
            used_of_level n some =
                let place = times_place n (asc.levels j) some in
                subst (λ m. a.used m ≡ true) (ap (λ l. get_or l place.0 0) (sym level_is) ∙ place.2) (used_in_tree j place.0 of_tree (omega (arith, place.1, ap length level_is)))

            part_used : (n : ℕ) → length parts ≤ 1 → 1 ≤ times n parts → a.used n ≡ true
            part_used n few some =
                let long : length parts ≡ count = length-take-le count (node ∷ edit.fresh ∷ []) edit.most in
                elim (cases_eq count 1) [
                  | inl one ↦
                      let is : times n (node ∷ []) ≡ times n parts = ap (λ c. times n (parts_of c node edit.fresh)) (sym one) in
                      used_of_level n (omega (arith, is, some, ap (λ (l : List ℕ). times n l) whole, times-append n xs (node ∷ ys)))
                  | inr other ↦
                      let none : count ≡ 0 = omega arith in
                      absurd (omega (arith, some, ap (λ c. times n (parts_of c node edit.fresh)) none))
                ]

            single_here : length (levels2 j) ≡ 1 → a.used (get_or (levels2 j) 0 0) ≡ true
            single_here one =
                let n : ℕ = get_or (levels2 j) 0 0 in
                let long : length xs + (length parts + length ys) ≡ 1 = omega (arith, one, ap length at_j, length-append xs (parts ++ ys), length-append parts ys) in
                let there : 1 ≤ times (get_or (levels2 j) 0 0) xs + (times (get_or (levels2 j) 0 0) parts + times (get_or (levels2 j) 0 0) ys) =
                omega (arith, times_at (levels2 j) 0 (omega (arith, one)), ap (λ (l : List ℕ). times (get_or (levels2 j) 0 0) l) at_j, times-append (get_or (levels2 j) 0 0) xs (parts ++ ys), times-append (get_or (levels2 j) 0 0) parts ys) in
                elim (cases_lt 0 (times (get_or (levels2 j) 0 0) parts)) [
                  | inl some ↦ part_used (get_or (levels2 j) 0 0) (omega arith) some
                  | inr none ↦ used_of_level (get_or (levels2 j) 0 0) (omega (arith, there, ap (λ (l : List ℕ). times (get_or (levels2 j) 0 0) l) whole, times-append (get_or (levels2 j) 0 0) xs (node ∷ ys)))
                ]

            single_then : (i : ℕ) → i < a.shape.depth → length (levels2 i) ≡ 1 → a.used (get_or (levels2 i) 0 0) ≡ true
            single_then i low one = elim (cases_eq i j) [
              | inl is ↦ subst (λ m. a.used (get_or (levels2 m) 0 0) ≡ true) (sym is) (single_here (ap (λ m. length (levels2 m)) (sym is) ∙ one))
              | inr other ↦ subst (λ l. a.used (get_or l 0 0) ≡ true) (sym (elsewhere i other)) (asc.single i low (ap length (sym (elsewhere i other)) ∙ one))
            ]

            alone_then : AreOfOneLength is_key → put ≡ [] → count ≤ 1
            alone_then one none_put = elim (cases_eq count 2) [
              | inl two ↦ absurd (omega (arith, edit.split two, needs_none one none_put))
              | inr other ↦ omega (arith, edit.most)
            ]

            -- the root's records, where it is the last to be changed
            edited_long : 0 < done → length (edited s node p gone (records_on next desk)) ≤ length (items (s.nodes node)) + 1
            edited_long some =
                let long = length-splice (items (s.nodes node)) (records_on next desk) p (p + bit gone) (omega arith) within [] in
                omega (arith, long, ap bit (asc.later some).0, put_few some)

            root_grown : j ≡ 0 → 0 < done → count ≡ 1 → length (items (t.nodes a.shape.root)) ≤ length (items (a.nodes a.shape.root)) + 1
            root_grown top some one =
                let made : items (t.nodes node) ≡ edited s node p gone (records_on next desk) =
                sym (append-nil (items (t.nodes node))) ∙ ap (λ c. entries t.nodes (parts_of c node edit.fresh)) (sym one) ∙ edit.records in
                omega (
                  arith,
                  ap length made,
                  edited_long some,
                  ap length node_same,
                  ap (λ n. length (items (t.nodes n))) (root_is top),
                  ap (λ n. length (items (a.nodes n))) (root_is top),
                )

            root_over : j ≡ 0 → 0 < done → count ≡ 2 → node_room a.shape.node_size < (max + 8) * (length (items (a.nodes a.shape.root)) + 1)
            root_over top some two =
                let full = edit.split two in
                let each = taken_each (max + 8) (edited s node p gone (records_on next desk)) (edited_each (λ r. length r + 2 ≤ max + 8) (old_most some) (put_most some)) in
                let more : (max + 8) * length (edited s node p gone (records_on next desk)) ≤ (max + 8) * (length (items (a.nodes a.shape.root)) + 1) =
                mul-le-mul_left (max + 8) (omega (arith, edited_long some, ap length node_same, ap (λ n. length (items (a.nodes n))) (root_is top))) in
                omega (arith, full, each, more, size_same)

            thrift_then : IsThrifty a.shape.depth levels2 (done + 1) budget2
            thrift_then = elim thrifty [
              | inl two ↦
                  let here : a.shape.depth - (done + 1) ≡ j = omega arith in
                  let long : length parts ≡ count = length-take-le count (node ∷ edit.fresh ∷ []) edit.most in
                  record {
                    split = done + 1;
                    low = omega arith;
                    twin = λ some. omega (arith, ap (λ i. length (levels2 i)) here, ap length at_j, length-append xs (parts ++ ys), length-append parts ys, long);
                    enough = omega (arith, asc.thrift.enough, asc.thrift.low, paid, cheap);
                  }
              | inr few ↦ record {
                split = asc.thrift.split;
                low = omega (arith, asc.thrift.low);
                twin = λ some. subst (λ l. 2 ≤ length l) (sym (elsewhere (a.shape.depth - asc.thrift.split) (λ e. absurd (omega (arith, asc.thrift.low))))) (asc.thrift.twin some);
                enough = omega (arith, asc.thrift.enough, paid);
              }
            ]

            pub ascent_step : IsAscent is_key cmp max a t path at removed put spare shape2 desk2 (done + 1) count true left2 budget2
            ascent_step =
                let from2 : j ≡ a.shape.depth - (done + 1) = omega arith in
                let as_handed : IsTreeBut is_key cmp t a.shape.depth levels2 j (way_place a path j) (records_on count desk2) =
                subst (λ l. IsTreeBut is_key cmp t a.shape.depth levels2 j (way_place a path j) l) (sym handed_on)
                (subst (λ n. IsTreeBut is_key cmp t a.shape.depth levels2 j n (map (λ m. record_for t.nodes m) parts)) xs_long but2) in
                record {
                  levels = levels2;
                  fresh = edit.fresh;
                  but = subst (λ d. IsTreeBut is_key cmp t a.shape.depth levels2 d (way_place a path d) (records_on count desk2)) from2 as_handed;
                  old_levels = λ i low. elsewhere i (λ e. absurd (omega arith)) ∙ asc.old_levels i (omega arith);
                  kept = λ i k low inside. kept2 i k (omega arith) inside;
                  begin = λ none. absurd (omega arith);
                  later = λ some. (refl, leaves_then);
                  top = λ some all.
                      let root : j ≡ 0 = omega arith in (
                        top_parts root ∙ ap (λ n. parts_of count n edit.fresh) (root_is root),
                        handed_on ∙ sym (ap (λ l. map (λ n. record_for t.nodes n) l) (top_parts root)),
                      );
                  few = edit.most;
                  alone = alone_then;
                  enough = omega (arith, asc.enough, spent);
                  thrift = thrift_then;
                  first = front_is;
                  last = back_is;
                  root = edit.ends.root ∙ asc.root;
                  depth = edit.ends.depth ∙ asc.depth;
                  single = single_then;
                  grown = λ some all deep one. root_grown (omega arith) (omega arith) one;
                  over = λ some all deep two. root_over (omega arith) (omega arith) two;
                  others = others_then;
                }

            -- where the record that names the node stays, the level above stays too
            module _ (unchanged : changed ≡ false) where
              one_part : count ≡ 1
              one_part = (edit.kept unchanged).0

              same_name : record_for t.nodes node ≡ record_for s.nodes node
              same_name = (edit.kept unchanged).1

              parts_is : parts ≡ node ∷ []
              parts_is = ap (λ n. parts_of n node edit.fresh) one_part

              names_stay : map (λ n. record_for t.nodes n) parts ≡ record_for s.nodes node ∷ []
              names_stay = ap (λ l. map (λ n. record_for t.nodes n) l) parts_is ∙ ap (λ l. l ∷ []) same_name

              named_whole : (i : ℕ) → i + 1 < a.shape.depth → i + 1 ≢ 0 → entries t.nodes (levels2 i) ≡ map (λ n. record_for t.nodes n) (levels2 (i + 1))
              named_whole i low other = elim (cases_eq (i + 1) j) [
                | inr apart ↦ but2.named i low apart
                | inl is ↦
                    let above_j : asc.levels i ≡ level_of a i = asc.old_levels i (omega arith) in
                    let was : entries t.nodes (levels2 i) ≡ map (λ n. record_for s.nodes n) (asc.levels j) =
                    ap (λ l. entries t.nodes l) (elsewhere i (λ e. absurd (omega arith)))
                    ∙ same_entries s.nodes t.nodes (asc.levels i) (λ k inside. ap items (stays i (omega arith) (λ e. absurd (omega arith)) k inside))
                    ∙ but.named i low (λ e. absurd (omega arith)) ∙ ap (λ m. map (λ n. record_for s.nodes n) (asc.levels m)) is in
                    let place : get_or (entries t.nodes (levels2 i)) (length xs) [] ≡ record_for s.nodes node =
                    ap (λ l. get_or l (length xs) []) was
                    ∙ ap (λ n. get_or (map (λ m. record_for s.nodes m) (asc.levels j)) n []) xs_long
                    ∙ get_or-map (λ m. record_for s.nodes m) (asc.levels j) (way_place a path j) 0 [] q_inside
                    ∙ ap (λ n. record_for s.nodes n) node_is in
                    let long : length xs < length (entries t.nodes (levels2 i)) = omega (arith, ap length was, length-map (asc.levels j) (λ n. record_for s.nodes n), xs_long, q_inside) in
                    sym (
                    but2.wanted i low is
                    ∙ ap (λ l. splice (entries t.nodes (levels2 i)) (length xs) (length xs + 1) l) (names_stay ∙ ap (λ r. r ∷ []) (sym place))
                    ∙ splice_same (entries t.nodes (levels2 i)) (length xs) [] long
                    )
              ]

              root_some : 0 < j → 0 < length (items (t.nodes a.shape.root))
              root_some above_root =
                  let below = can.way.below 0 (omega arith) in
                  let root : (stop_at path 0).node ≡ a.shape.root = sym (can.way.node 0 (omega arith)) in
                  omega (arith, below, ap (λ n. length (items (a.nodes n))) root, ap (λ l. length (items l)) (kept2 0 0 above_root (omega arith)))

              top_level : levels2 0 ≡ a.shape.root ∷ []
              top_level = elim (cases_lt 0 j) [
                | inl above_root ↦ elsewhere 0 (λ e. absurd (omega arith)) ∙ asc.old_levels 0 (omega arith)
                | inr none ↦ let root : j ≡ 0 = omega arith in top_parts root ∙ parts_is ∙ ap (λ n. n ∷ []) (root_is root)
              ]

              pub ascent_stop : Climbs is_key cmp max a t (leaves_edited a path at removed put) shape2 1 left2 desk2 budget2
              ascent_stop = record {
                levels = levels2;
                fresh = 0;
                but = record {
                  each = but2.each;
                  some = λ i low which. elim (cases_lt 0 i) [
                    | inl below ↦ but2.some i low (inl below)
                    | inr none ↦ elim (cases_lt 0 j) [
                      | inr root ↦ but2.some i low (inr (omega arith))
                      | inl above_root ↦
                          let first : i ≡ 0 = omega arith in
                          subst (λ m. NoneEmpty t.nodes (levels2 m)) (sym first)
                          (subst (λ l. NoneEmpty t.nodes l) (sym top_level)
                          (λ k inside. subst (λ n. 0 < length (items (t.nodes n))) (ap (λ m. get_or (a.shape.root ∷ []) m 0) {x = 0} {y = k} (omega arith)) (root_some above_root)))
                    ]
                  ];
                  named = named_whole;
                  wanted = λ i low is. absurd (omega arith);
                  mapped = but2.mapped;
                  header = but2.header;
                  free = but2.free;
                };
                most = omega arith;
                top = top_level;
                made = leaves_then;
                handed = λ two. absurd (omega arith);
                spare = λ two. absurd (omega arith);
                first = front_is;
                last = back_is;
                root = edit.ends.root ∙ asc.root;
                depth = edit.ends.depth ∙ asc.depth;
                alone = single_then;
                thrift = record { split = thrift_then.split; low = omega (arith, thrift_then.low); twin = thrift_then.twin; enough = omega (arith, thrift_then.enough) };
                grown = λ deep one. elim (cases_lt 0 j) [
                  | inl above_root ↦ omega (arith, ap (λ l. length (items l)) (kept2 0 0 above_root (omega arith)))
                  | inr none ↦ root_grown (omega arith) (omega arith) one_part
                ];
                over = λ deep two. absurd (omega arith);
                same = same_store_both same edit.same;
                others = others_then;
              }

    -- all levels are done
    pub ascent_end : (s : Store) → SameStore a s → (shape : TreeShape) (desk : Desk) (done next : ℕ) (gone : Bool) (left budget : ℕ) → a.shape.depth ≡ done
        → IsAscent is_key cmp max a s path at removed put spare shape desk done next gone left budget → Climbs is_key cmp max a s (leaves_edited a path at removed put) shape next left desk budget
    ascent_end s same shape desk done next gone left budget all asc =
        let some : 0 < done = omega (arith, can.some) in
        record {
          levels = asc.levels;
          fresh = asc.fresh;
          but = but_whole (way_place a path 0) (records_on next desk)
              (subst (λ d. IsTreeBut is_key cmp s a.shape.depth asc.levels d (way_place a path d) (records_on next desk)) {x = a.shape.depth - done} {y = 0} (omega arith) asc.but);
          most = asc.few;
          top = (asc.top some all).0;
          made = (asc.later some).1;
          handed = λ two. (asc.top some all).1;
          spare = λ two. elim can.enough [ inl many ↦ omega (arith, asc.enough) | inr (none_put, one) ↦ absurd (omega (arith, asc.alone one none_put)) ];
          first = asc.first;
          last = asc.last;
          root = asc.root;
          depth = asc.depth;
          alone = asc.single;
          thrift = record { split = asc.thrift.split; low = omega (arith, asc.thrift.low); twin = asc.thrift.twin; enough = omega (arith, asc.thrift.enough) };
          grown = λ deep one. asc.grown some all deep one;
          over = λ deep two. asc.over some all deep two;
          same = same;
          others = asc.others;
        }
