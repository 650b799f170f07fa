-- The step of each command keeps plain trees.
use Rattle.std.proofs.Common.{◌≡◌, ◌≢◌, ◌⊎◌, ◌<◌, ◌≤◌, ℕ, zero, suc, ◌+◌, ◌==◌, Bool, true, false, not, List, [], ◌∷◌, length, map, take, drop, refl, sym, ◌∙◌, ap, subst, arith, inl, inr, eq-eqb, add-zero}
use Rattle.std.specs.Prelude.{Contains, ◌&&◌, ◌||◌, nat_le, count_by, find, is_some, Option, Some, None, ok_or, Result, Ok, Err, if◌then◌else◌}
use Rattle.std.specs.Str.{bytes_eq}
use Rattle.std.proofs.lemmas.Bool.{eqb-true, ltb-true, true≢false}
use Rattle.std.proofs.lemmas.Slice.Eq.{bytes_eq-Decides}
use Rattle.hfs_language.specs.declared.command.Command.{Command}
use Rattle.hfs_language.specs.declared.command.Command.TheVariants as command
use Rattle.hfs_language.specs.declared.refusal.Refusal.{Refusal}
use Rattle.hfs_language.specs.declared.refusal.Refusal.TheVariants as refusal
use Rattle.hfs_language.specs.declared.reply.Reply.TheVariants as reply
use Rattle.hfs_model.specs.declared.plain.PlainAttribute.{PlainAttribute}
use Rattle.hfs_model.specs.declared.plain.PlainEntry.{PlainEntry}
use Rattle.hfs_model.specs.declared.plain.PlainNode.{PlainNode}
use Rattle.hfs_model.specs.declared.plain.PlainTree.{PlainTree}
use Rattle.std.specs.Ordering.{is_eq, nat_cmp}
use Rattle.std.specs.Cmp.{IsTotalOrder}
use Rattle.std.specs.Cmp.Lexicographic.{slice_cmp}
use Rattle.std.proofs.lemmas.Cmp.{on_total, nat_list_cmp_total}
use Rattle.std.proofs.lemmas.Map.Text.{is_eq-slice_cmp}
use Rattle.hx_bytes.specs.Field.{put_at}
use Rattle.hfs_model.specs.Sorted.{kept, IsInOrder}
use Rattle.hfs_model.specs.Plain.{is_at, entry_at, entries_in, names_of, is_node, node_at, node_before, attribute_before, with_entry, without_entry, with_node, without_node, with_changed, new_node, with_attribute, without_attribute, with_mode, is_named, IsNamed}
use Rattle.hfs_model.specs.Step.{then_, unless, root_entry, child, walk, reached, Place, place, place_in, front, last_name, is_root, new_place, to_make, to_rm, to_rmdir, to_pair, to_mv, to_ln, to_link, to_node, to_folder, is_same_file, vacated, moved_over, touched, marked, drawn, with_private, made, unnamed, removed, removed_folder, moved, linked, link_ids, with_bytes, written, resized, padded, facts_of, listed, listed_attribute, to_write, to_read, to_trunc, to_set, to_attribute, most_links, on, step, Step, to_value}
use Rattle.hfs_volume.specs.Books.{StepKeepsTrees}
use Rattle.hfs_volume.specs.Laws.{one_if}
use Rattle.hfs_volume.proofs.Counting.{count_cons}
use Rattle.hfs_volume.proofs.Members.{at_front, behind, first_or_later, kept_stands, kept_cases}
use Rattle.hfs_volume.proofs.Flat.{found_some, found_none, some_same}
use Rattle.hfs_volume.proofs.Reaching.{ok_same, then_ok, unless_ok, if_ok, found_ok}
use Rattle.hfs_volume.proofs.InOrder.{each_by, put_cases, put_in_order, kept_in_order, total_trans, total_other}
use Rattle.hfs_volume.proofs.Vacating.{moving_is, vacates, moves_later}
use Rattle.hfs_volume.proofs.Booking.{IsBook, HasNames, IsRightlyNamed, given_is, book_of, names_in, changed_in, book_changed, names_changed, book_renumbered, names_renumbered, book_with_node, node_still, node_there, book_with_entry, names_with_entry, book_without, names_without, book_without_node, differs}

-- ---- what paths reach

-- the entry stands at its place
abbrev IsThere : PlainTree → PlainEntry → Type 0
IsThere tree at = entry_at tree at.parent at.name ≡ Some at

module _ (tree : PlainTree) where
  both : (a b : Bool) → (a && b) ≡ true → (a ≡ true) × (b ≡ true)
  both true b is = (refl, is)
  both false b is = absurd (cc)

  key_is : (parent : ℕ) (name : List ℕ) (at : PlainEntry) → entry_at tree parent name ≡ Some at → (at.parent ≡ parent) × (at.name ≡ name)
  key_is parent name at found =
      let key = both (at.parent == parent) (bytes_eq at.name name) (found_some (is_at parent name) tree.entries at found).1 in
      (eqb-true at.parent parent key.0, (bytes_eq-Decides at.name name).0 key.1)

  there_is : (parent : ℕ) (name : List ℕ) (at : PlainEntry) → entry_at tree parent name ≡ Some at → IsThere tree at
  there_is parent name at found = let key = key_is parent name at found in (λ i. entry_at tree (key.0 i) (key.1 i)) ∙ found

  stands_in : (at : PlainEntry) → IsThere tree at → Contains tree.entries at
  stands_in at there = (found_some (is_at at.parent at.name) tree.entries at there).0

  child_is : (from at : PlainEntry) (name : List ℕ) → child tree from name ≡ Ok at → IsThere tree at
  child_is from at name is =
      let found = if_ok from.folder (ok_or (entry_at tree from.id name) refusal.NotFound) refusal.NotFolder at is in
      there_is from.id name at (found_ok (entry_at tree from.id name) refusal.NotFound at found.1)

  walk_is : (path : List (List ℕ)) (from at : PlainEntry) → walk tree from path ≡ Ok at → (at ≡ from) ⊎ IsThere tree at
  walk_is [] from at is = inl (sym (ok_same from at is))
  walk_is (name ∷ path) from at is =
      let first = then_ok (child tree from name) (λ next. walk tree next path) at is in
      elim (walk_is path first.0 at first.2) [
        | inl same ↦ inr (subst (IsThere tree) (sym same) (child_is from first.0 name first.1))
        | inr there ↦ inr there
      ]

  module _ (book : IsBook tree) where
    -- what is reached is a folder or file of the tree, of the kind that its entry says
    reached_node : (path : List (List ℕ)) (at : PlainEntry) → reached tree path ≡ Ok at → (node : PlainNode) × (node_at tree at.id ≡ Some node) × (node.folder ≡ at.folder)
    reached_node path at is = elim (walk_is path root_entry at is) [
      | inl same ↦ subst (λ (e : PlainEntry). (node : PlainNode) × (node_at tree e.id ≡ Some node) × (node.folder ≡ e.folder)) (sym same) (book.root.0, book.root.1, book.root.2)
      | inr there ↦ (book.named at (stands_in at there)).named
    ]

    -- the place of a new name is free, in a folder of the tree
    place_is : (path : List (List ℕ)) (at : Place) → place tree path ≡ Ok at
        → (at.found ≡ entry_at tree at.folder at.name) × ((node : PlainNode) × (node_at tree at.folder ≡ Some node) × (node.folder ≡ true))
    place_is path at is =
        let first = then_ok (reached tree (front path)) (place_in tree (last_name path)) at is in
        let found = if_ok first.0.folder (Ok (record { folder = first.0.id; name = last_name path; found = entry_at tree first.0.id (last_name path) })) refusal.NotFolder at first.2 in
        let same : (let p : Place = record { folder = first.0.id; name = last_name path; found = entry_at tree first.0.id (last_name path) } in p ≡ at) = ok_same _ at found.1 in
        let node = reached_node (front path) first.0 first.1 in
        subst (λ (p : Place). (p.found ≡ entry_at tree p.folder p.name) × ((n : PlainNode) × (node_at tree p.folder ≡ Some n) × (n.folder ≡ true))) same (refl, (node.0, node.1, node.2 ∙ found.0))

    none_found : (o : Option PlainEntry) → is_some o ≡ false → o ≡ None
    none_found None is = refl
    none_found (Some e) is = absurd (true≢false is)

    new_place_is : (path : List (List ℕ)) (at : Place) → new_place tree path ≡ Ok at
        → (entry_at tree at.folder at.name ≡ None) × ((node : PlainNode) × (node_at tree at.folder ≡ Some node) × (node.folder ≡ true))
    new_place_is path at is =
        let first = then_ok (place tree path) (λ at. unless (is_some at.found) refusal.Exists at) at is in
        let free = unless_ok (is_some first.0.found) refusal.Exists first.0 at first.2 in
        let facts = place_is path first.0 first.1 in
        subst (λ (p : Place). (entry_at tree p.folder p.name ≡ None) × ((n : PlainNode) × (node_at tree p.folder ≡ Some n) × (n.folder ≡ true))) free.1 (sym facts.0 ∙ none_found first.0.found free.0, facts.1)

    reached_there : (path : List (List ℕ)) (at : PlainEntry) → is_root path ≡ false → reached tree path ≡ Ok at → IsThere tree at
    reached_there [] at not_root is = absurd (true≢false not_root)
    reached_there (name ∷ path) at not_root is =
        let first = then_ok (child tree root_entry name) (λ next. walk tree next path) at is in
        elim (walk_is path first.0 at first.2) [
          | inl same ↦ subst (IsThere tree) (sym same) (child_is root_entry first.0 name first.1)
          | inr there ↦ there
        ]

-- ---- counts of names

count_none : {X : Type 0} (test : X → Bool) (xs : List X) → ((x : X) → Contains xs x → test x ≡ false) → count_by test xs ≡ 0
count_none test [] none = refl
count_none test (x ∷ xs) none = omega (arith, count_cons test x xs, ap one_if (none x (at_front x xs)), count_none test xs (λ y stands. none y (behind x y xs stands)))

count_some : {X : Type 0} (test : X → Bool) (xs : List X) (x : X) → Contains xs x → test x ≡ true → 0 < count_by test xs
count_some test [] x none passes = absurd (omega (arith, none.1))
count_some test (y ∷ ys) x stands passes = elim (first_or_later y x ys stands) [
  | inl is ↦ omega (arith, count_cons test y ys, ap one_if (ap test (sym is) ∙ passes))
  | inr later ↦ omega (arith, count_cons test y ys, count_some test ys x later passes)
]

not_found : {X : Type 0} (test : X → Bool) (xs : List X) → ((x : X) → Contains xs x → test x ≡ false) → find test xs ≡ None
not_found test [] none = refl
not_found test (x ∷ xs) none = (λ i. if none x (at_front x xs) i then Some x else find test xs) ∙ not_found test xs (λ y stands. none y (behind x y xs stands))

module _ (tree : PlainTree) (book : IsBook tree) where
  -- an entry's folder or file has a name
  has_name : (entry : PlainEntry) → Contains tree.entries entry → 0 < names_of tree entry.id
  has_name entry stands = count_some (λ (e : PlainEntry). e.id == entry.id) tree.entries entry stands (eq-eqb entry.id entry.id refl)

  not_the_root : (entry : PlainEntry) → Contains tree.entries entry → entry.id ≢ 2
  not_the_root entry stands same = omega (arith, has_name entry stands, ap (names_of tree) same, book.root.3)

  no_name : (id : ℕ) → names_of tree id ≡ 0 → (entry : PlainEntry) → Contains tree.entries entry → entry.id ≢ id
  no_name id none entry stands same = omega (arith, has_name entry stands, ap (names_of tree) same, none)

  found_is_given : (id : ℕ) (node : PlainNode) → node_at tree id ≡ Some node → id < tree.next_id
  found_is_given id node at =
      let found = found_some (is_node id) tree.nodes node at in
      subst (λ k. k < tree.next_id) (eqb-true node.id id found.1) (book.given node found.0)

  entry_is_given : (entry : PlainEntry) → Contains tree.entries entry → entry.id < tree.next_id
  entry_is_given entry stands = let one = (book.named entry stands).named in found_is_given entry.id one.0 one.1

  -- ids are those of one folder or file
  node_is_at : (node : PlainNode) → Contains tree.nodes node → node_at tree node.id ≡ Some node
  node_is_at node stands = first_is tree.nodes book.nodes_sorted node stands
    where
      later_differs : (x y : PlainNode) → node_before x y ≡ true → (x.id == y.id) ≡ false
      later_differs x y before = differs x.id y.id (λ same. omega (arith, ltb-true x.id y.id before, same))

      first_is : (xs : List PlainNode) → IsInOrder node_before xs → (x : PlainNode) → Contains xs x → find (is_node x.id) xs ≡ Some x
      first_is [] order x none = absurd (omega (arith, none.1))
      first_is (y ∷ ys) order x there = elim (first_or_later y x ys there) [
        | inl is ↦ (λ i. if eq-eqb y.id x.id (ap (λ (n : PlainNode). n.id) (sym is)) i then Some y else find (is_node x.id) ys) ∙ ap Some (sym is)
        | inr later ↦ (λ i. if later_differs y x (each_by (λ z. node_before y z ≡ true) ys order.0 x later) i then Some y else find (is_node x.id) ys) ∙ first_is ys order.1 x later
      ]

-- ---- changes that keep ids, kinds and names

abbrev IsSteady : PlainTree → Type 0
IsSteady tree = IsBook tree × HasNames tree

module _ (tree : PlainTree) (id : ℕ) (change : PlainNode → PlainNode) (same_id : (node : PlainNode) → (change node).id ≡ node.id) (same_folder : (node : PlainNode) → (change node).folder ≡ node.folder)
    (attributes : (node : PlainNode) → IsInOrder attribute_before node.attributes → IsInOrder attribute_before (change node).attributes) where
  sorted_still : IsBook tree → (node : PlainNode) → Contains tree.nodes node → IsInOrder attribute_before (changed_in id change same_id same_folder node).attributes
  unfolding changed_in
  sorted_still book node stands = by (is_node id node)
    where
      by : (b : Bool) → (let n : PlainNode = if b then change node else node in IsInOrder attribute_before n.attributes)
      by true = attributes node (book.attributes_sorted node stands)
      by false = book.attributes_sorted node stands

  changed_keeps : IsSteady tree → IsSteady (with_changed id change tree)
  changed_keeps steady =
      (book_changed id change same_id same_folder tree (sorted_still steady.0) steady.0, names_changed id change same_id same_folder tree (sorted_still steady.0) steady.1)

touched_keeps : (tree : PlainTree) (id : ℕ) → IsSteady tree → IsSteady (touched id tree)
touched_keeps tree id = changed_keeps tree id (λ node. record node { changed = tree.moment; attribute = tree.moment }) (λ node. refl) (λ node. refl) (λ node sorted. sorted)

marked_keeps : (tree : PlainTree) (id : ℕ) → IsSteady tree → IsSteady (marked id tree)
marked_keeps tree id = changed_keeps tree id (λ node. record node { attribute = tree.moment }) (λ node. refl) (λ node. refl) (λ node sorted. sorted)

bytes_keep : (tree : PlainTree) (id : ℕ) (bytes : List ℕ) → IsSteady tree → IsSteady (with_bytes id bytes tree)
bytes_keep tree id bytes = changed_keeps tree id (λ node. record node { bytes = bytes; changed = tree.moment; attribute = tree.moment }) (λ node. refl) (λ node. refl) (λ node sorted. sorted)

numbers_keep : (tree : PlainTree) (next moment : ℕ) (private_folder : Bool) → tree.next_id ≤ next → IsSteady tree → IsSteady (record tree { next_id = next; has_private = private_folder; moment = moment })
numbers_keep tree next moment private_folder more steady = (book_renumbered tree next moment private_folder more steady.0, names_renumbered tree next moment private_folder more steady.1)

-- ---- a new folder or file

module _ (tree : PlainTree) (steady : IsSteady tree) (folder : Bool) (at : Place) (free : entry_at tree at.folder at.name ≡ None)
    (above : (node : PlainNode) × (node_at tree at.folder ≡ Some node) × (node.folder ≡ true)) where
  abbrev item : PlainNode
  item = new_node folder tree.next_id tree.moment

  abbrev name_of_it : PlainEntry
  name_of_it = record { parent = at.folder; name = at.name; folder = folder; id = tree.next_id }

  abbrev drawn_one : PlainTree
  drawn_one = record tree { next_id = tree.next_id + 1; has_private = tree.has_private; moment = tree.moment }

  drawn_steady : IsSteady drawn_one
  drawn_steady = numbers_keep tree (tree.next_id + 1) tree.moment tree.has_private (omega arith) steady

  new_id : (node : PlainNode) → Contains drawn_one.nodes node → node.id ≢ item.id
  new_id node stands same = omega (arith, steady.0.given node stands, same)

  with_it : IsBook (with_node item drawn_one)
  with_it = book_with_node drawn_one item new_id (omega arith) tt drawn_steady.0

  two_is_low : 2 < tree.next_id
  two_is_low = found_is_given tree steady.0 2 steady.0.root.0 steady.0.root.1

  its_names : IsNamed (with_node item drawn_one) name_of_it
  its_names = record {
    parent = (above.0, node_still drawn_one item new_id (omega arith) tt at.folder above.0 above.1, above.2);
    named = (item, node_there drawn_one item new_id (omega arith) tt, refl);
  }

  not_two : name_of_it.id ≢ 2
  not_two same = omega (arith, two_is_low, same)

  abbrev with_both : PlainTree
  with_both = with_entry name_of_it (with_node item drawn_one)

  book_both : IsBook with_both
  book_both = book_with_entry (with_node item drawn_one) name_of_it free its_names not_two with_it

  names_now : (id : ℕ) → names_of with_both id ≡ names_of tree id + one_if (tree.next_id == id)
  names_now id = names_with_entry (with_node item drawn_one) name_of_it free its_names not_two id

  none_before : names_of tree tree.next_id ≡ 0
  none_before = count_none (λ (e : PlainEntry). e.id == tree.next_id) tree.entries (λ e stands. differs e.id tree.next_id (λ same. omega (arith, entry_is_given tree steady.0 e stands, same)))

  names_both : HasNames with_both
  names_both node stands = elim (put_cases node_before item tree.nodes node stands) [
    | inl is ↦
        let one : names_of with_both tree.next_id ≡ 1 = names_now tree.next_id ∙ (λ i. none_before i + one_if (eq-eqb tree.next_id tree.next_id refl i)) in
        subst (IsRightlyNamed with_both) (sym is) ((λ folder_is. inr one), (λ file_is. omega (arith, one)))
    | inr old ↦
        let same : names_of with_both node.id ≡ names_of tree node.id =
        names_now node.id ∙ (λ i. names_of tree node.id + one_if (differs tree.next_id node.id (λ same. omega (arith, steady.0.given node old, same)) i)) ∙ add-zero (names_of tree node.id) in
        ((λ folder_is. subst (λ n. (node.id ≡ 2) ⊎ (n ≡ 1)) (sym same) ((steady.1 node old).0 folder_is)), (λ file_is. subst (λ n. 0 < n) (sym same) ((steady.1 node old).1 file_is)))
  ]

  made_keeps : IsSteady (made folder at tree)
  made_keeps = touched_keeps with_both at.folder (book_both, names_both)

-- ---- a name less

module _ (tree : PlainTree) (steady : IsSteady tree) (at : PlainEntry) (there : IsThere tree at) where
  abbrev without_it : PlainTree
  without_it = without_entry at.parent at.name tree

  book_less : IsBook without_it
  book_less = book_without tree at.parent at.name at there steady.0

  names_less : (id : ℕ) → names_of without_it id + one_if (at.id == id) ≡ names_of tree id
  names_less id = names_without tree at.parent at.name at there steady.0 id

  others_same : (id : ℕ) → at.id ≢ id → names_of without_it id ≡ names_of tree id
  others_same id differ = sym (add-zero (names_of without_it id)) ∙ (λ i. names_of without_it id + one_if (sym (differs at.id id differ) i)) ∙ names_less id

  its_node : (node : PlainNode) × (node_at tree at.id ≡ Some node) × (node.folder ≡ at.folder)
  its_node = (steady.0.named at (stands_in tree at there)).named

  not_the_root_ : at.id ≢ 2
  not_the_root_ = not_the_root tree steady.0 at (stands_in tree at there)

  -- a folder or file of another id is named as before
  named_as_before : (node : PlainNode) → Contains tree.nodes node → at.id ≢ node.id → IsRightlyNamed without_it node
  named_as_before node stands differ =
      let same = others_same node.id differ in
      ((λ folder_is. subst (λ n. (node.id ≡ 2) ⊎ (n ≡ 1)) (sym same) ((steady.1 node stands).0 folder_is)), (λ file_is. subst (λ n. 0 < n) (sym same) ((steady.1 node stands).1 file_is)))

  -- without its node, where no name of it is left and nothing stands in it
  gone : names_of without_it at.id ≡ 0 → ((entry : PlainEntry) → Contains without_it.entries entry → entry.parent ≢ at.id) → IsSteady (without_node at.id without_it)
  gone none empty = (
    book_without_node without_it at.id not_the_root_ (λ entry stands. (no_name without_it book_less at.id none entry stands, empty entry stands)) book_less,
    λ node stands.
        let old = kept_cases (λ (n : PlainNode). not (is_node at.id n)) tree.nodes node stands in
        named_as_before node old.0 (λ same. true≢false (sym (eq-eqb node.id at.id (sym same)) ∙ not_true (is_node at.id node) old.1)),
  )
    where
      not_true : (b : Bool) → not b ≡ true → b ≡ false
      not_true true is = absurd (true≢false (sym is))
      not_true false is = refl

  -- no entry stands in a file
  module _ (file : at.folder ≡ false) where
    no_parent : (entry : PlainEntry) → Contains without_it.entries entry → entry.parent ≢ at.id
    no_parent entry stands same =
        let above = (book_less.named entry stands).parent in
        let one : above.0 ≡ its_node.0 = some_same above.0 its_node.0 (sym above.1 ∙ (λ i. node_at tree (same i)) ∙ its_node.1) in
        true≢false (sym above.2 ∙ ap (λ (n : PlainNode). n.folder) one ∙ its_node.2 ∙ file)

    still_named : (names_of without_it at.id == 0) ≡ false → (node : PlainNode) → Contains tree.nodes node → (b : Bool) → (at.id == node.id) ≡ b → IsRightlyNamed without_it node
    still_named some node stands false differ = named_as_before node stands (λ same. true≢false (sym (eq-eqb at.id node.id same) ∙ differ))
    still_named some node stands true is =
        let same : at.id ≡ node.id = eqb-true at.id node.id is in
        let one : node ≡ its_node.0 = some_same node its_node.0 (sym (node_is_at tree steady.0 node stands) ∙ (λ i. node_at tree (sym same i)) ∙ its_node.1) in
        let is_file : node.folder ≡ false = ap (λ (n : PlainNode). n.folder) one ∙ its_node.2 ∙ file in
        ((λ folder_is. absurd (true≢false (sym folder_is ∙ is_file))), (λ file_is. subst (λ k. 0 < names_of without_it k) same (not_zero (names_of without_it at.id) some)))
      where
        not_zero : (n : ℕ) → (n == 0) ≡ false → 0 < n
        not_zero zero no_ = absurd (true≢false no_)
        not_zero (suc n) no_ = omega arith

    unnamed_keeps : IsSteady (unnamed at.id without_it)
    unnamed_keeps = by (names_of without_it at.id == 0) refl
      where
        by : (b : Bool) → (names_of without_it at.id == 0) ≡ b → IsSteady (if b then with_private (without_node at.id without_it) else marked at.id without_it)
        by true none =
            numbers_keep (without_node at.id without_it) (tree.next_id + (if tree.has_private then 0 else 1)) tree.moment true (omega arith) (gone (eqb-true (names_of without_it at.id) 0 none) no_parent)
        by false some = marked_keeps without_it at.id (book_less, λ node stands. still_named some node stands (at.id == node.id) refl)

    removed_keeps : IsSteady (removed at tree)
    removed_keeps = touched_keeps (unnamed at.id without_it) at.parent unnamed_keeps

  -- a folder without entries
  module _ (folder : at.folder ≡ true) (empty : length (entries_in tree at.id) ≡ 0) where
    none_in : (entry : PlainEntry) → Contains without_it.entries entry → entry.parent ≢ at.id
    none_in entry stands same =
        let old = (kept_cases (λ (e : PlainEntry). not (is_at at.parent at.name e)) tree.entries entry stands).0 in
        let listed = kept_stands (λ (e : PlainEntry). e.parent == at.id) tree.entries entry old (eq-eqb entry.parent at.id same) in
        omega (arith, listed.1, empty)

    one_name : names_of tree at.id ≡ 1
    one_name =
        let node = its_node in
        let found = found_some (is_node at.id) tree.nodes node.0 node.1 in
        let id_is : node.0.id ≡ at.id = eqb-true node.0.id at.id found.1 in
        elim ((steady.1 node.0 found.0).0 (node.2 ∙ folder)) [
          | inl root ↦ absurd (not_the_root_ (sym id_is ∙ root))
          | inr one ↦ (λ i. names_of tree (sym id_is i)) ∙ one
        ]

    no_name_left : names_of without_it at.id ≡ 0
    no_name_left = omega (arith, names_less at.id, one_name, ap one_if (eq-eqb at.id at.id refl))

    removed_folder_keeps : IsSteady (removed_folder at tree)
    removed_folder_keeps = touched_keeps (without_node at.id without_it) at.parent (gone no_name_left none_in)

  -- ---- an entry at another place

  module _ (to : Place) (free : entry_at tree to.folder to.name ≡ None) (above : (node : PlainNode) × (node_at tree to.folder ≡ Some node) × (node.folder ≡ true)) where
    abbrev moved_entry : PlainEntry
    moved_entry = record at { parent = to.folder; name = to.name }

    still_free : entry_at without_it to.folder to.name ≡ None
    still_free = find_none_kept (is_at to.folder to.name) (λ (e : PlainEntry). not (is_at at.parent at.name e)) tree.entries (found_none (is_at to.folder to.name) tree.entries free)
      where
        find_none_kept : {X : Type 0} (test keep : X → Bool) (xs : List X) → ((x : X) → Contains xs x → test x ≡ false) → find test (kept keep xs) ≡ None
        find_none_kept test keep xs none = not_found test (kept keep xs) (λ x stands. none x (kept_cases keep xs x stands).0)

    its_place : IsNamed without_it moved_entry
    its_place = record { parent = above; named = its_node }

    abbrev with_moved : PlainTree
    with_moved = with_entry moved_entry without_it

    book_moved : IsBook with_moved
    book_moved = book_with_entry without_it moved_entry still_free its_place not_the_root_ book_less

    names_moved : (id : ℕ) → names_of with_moved id ≡ names_of tree id
    names_moved id = names_with_entry without_it moved_entry still_free its_place not_the_root_ id ∙ names_less id

    moved_keeps : IsSteady (moved at to tree)
    moved_keeps = marked_keeps (touched to.folder (touched at.parent with_moved)) at.id (touched_keeps (touched at.parent with_moved) to.folder (touched_keeps with_moved at.parent (
      book_moved,
      λ node stands. (
        (λ folder_is. subst (λ n. (node.id ≡ 2) ⊎ (n ≡ 1)) (sym (names_moved node.id)) ((steady.1 node stands).0 folder_is)),
        (λ file_is. subst (λ n. 0 < n) (sym (names_moved node.id)) ((steady.1 node stands).1 file_is)),
      ),
    )))

-- ---- a further name of a file

module _ (tree : PlainTree) (steady : IsSteady tree) (file : PlainNode) (there : node_at tree file.id ≡ Some file) (kind : file.folder ≡ false) (to : Place)
    (free : entry_at tree to.folder to.name ≡ None) (above : (node : PlainNode) × (node_at tree to.folder ≡ Some node) × (node.folder ≡ true)) where
  abbrev further : PlainEntry
  further = record { parent = to.folder; name = to.name; folder = false; id = file.id }

  abbrev drawn_ids : PlainTree
  drawn_ids = drawn (link_ids file) (with_private tree)

  drawn_ids_steady : IsSteady drawn_ids
  drawn_ids_steady = numbers_keep tree (tree.next_id + (if tree.has_private then 0 else 1) + link_ids file) tree.moment true (omega arith) steady

  further_named : IsNamed drawn_ids further
  further_named = record { parent = above; named = (file, there, kind) }

  file_not_root : further.id ≢ 2
  file_not_root same =
      let one : file ≡ steady.0.root.0 = some_same file steady.0.root.0 (sym there ∙ (λ i. node_at tree (same i)) ∙ steady.0.root.1) in
      true≢false (sym steady.0.root.2 ∙ sym (ap (λ (n : PlainNode). n.folder) one) ∙ kind)

  abbrev with_further : PlainTree
  with_further = with_entry further drawn_ids

  names_further : (id : ℕ) → names_of with_further id ≡ names_of tree id + one_if (file.id == id)
  names_further id = names_with_entry drawn_ids further free further_named file_not_root id

  further_steady : IsSteady with_further
  further_steady = (book_with_entry drawn_ids further free further_named file_not_root drawn_ids_steady.0, λ node stands. by node stands (file.id == node.id) refl)
    where
      by : (node : PlainNode) → Contains tree.nodes node → (b : Bool) → (file.id == node.id) ≡ b → IsRightlyNamed with_further node
      by node stands true is =
          let same : file.id ≡ node.id = eqb-true file.id node.id is in
          let one : node ≡ file = some_same node file (sym (node_is_at tree steady.0 node stands) ∙ (λ i. node_at tree (sym same i)) ∙ there) in
          ((λ folder_is. absurd (true≢false (sym folder_is ∙ ap (λ (n : PlainNode). n.folder) one ∙ kind))), (λ file_is. omega (arith, names_further node.id, ap one_if is)))
      by node stands false is =
          let same : names_of with_further node.id ≡ names_of tree node.id = names_further node.id ∙ (λ i. names_of tree node.id + one_if (is i)) ∙ add-zero (names_of tree node.id) in
          ((λ folder_is. subst (λ n. (node.id ≡ 2) ⊎ (n ≡ 1)) (sym same) ((steady.1 node stands).0 folder_is)), (λ file_is. subst (λ n. 0 < n) (sym same) ((steady.1 node stands).1 file_is)))

  linked_keeps : IsSteady (linked file to tree)
  linked_keeps = touched_keeps (marked file.id (with_changed file.id (λ node. record node { linked = true }) with_further)) to.folder
      (marked_keeps (with_changed file.id (λ node. record node { linked = true }) with_further) file.id
      (changed_keeps with_further file.id (λ node. record node { linked = true }) (λ node. refl) (λ node. refl) (λ node sorted. sorted) further_steady))

-- ---- attributes

attribute_total : IsTotalOrder (λ (x y : PlainAttribute). slice_cmp nat_cmp x.name y.name)
attribute_total = on_total (λ (a : PlainAttribute). a.name) nat_list_cmp_total

attribute_other : (x y : PlainAttribute) → attribute_before x y ≡ false → is_named x.name y ≡ false → attribute_before y x ≡ true
attribute_other x y not_first differ = total_other (λ (x y : PlainAttribute). slice_cmp nat_cmp x.name y.name) attribute_total x y not_first (λ equal.
    let names : x.name ≡ y.name = (bytes_eq-Decides x.name y.name).0 (sym (is_eq-slice_cmp x.name y.name) ∙ ap is_eq equal) in
    true≢false (sym ((bytes_eq-Decides y.name x.name).1 (sym names)) ∙ differ))

set_sorted : (name value : List ℕ) (node : PlainNode) → IsInOrder attribute_before node.attributes → IsInOrder attribute_before (with_attribute name value node).attributes
set_sorted name value node sorted =
    put_in_order attribute_before (total_trans (λ (x y : PlainAttribute). slice_cmp nat_cmp x.name y.name) attribute_total) (record { name = name; value = value }) (kept (λ x. not (is_named name x)) node.attributes)
    (kept_in_order attribute_before (λ x. not (is_named name x)) node.attributes sorted)
    (λ y stands not_first. attribute_other (record { name = name; value = value }) y not_first (not_true_ (is_named name y) (kept_cases (λ x. not (is_named name x)) node.attributes y stands).1))
  where
    not_true_ : (b : Bool) → not b ≡ true → b ≡ false
    not_true_ true is = absurd (true≢false (sym is))
    not_true_ false is = refl

-- ---- the step

-- a refusal keeps the tree, and so does what comes of something that isn't refused
on_keeps : {X : Type 0} (tree : PlainTree) (r : Result X Refusal) (next : X → Step) → IsSteady tree → ((x : X) → r ≡ Ok x → IsSteady (next x).1) → IsSteady (on tree r next).1
on_keeps {X} tree r next steady keeps = by r refl
  where
    by : (o : Result X Refusal) → r ≡ o → IsSteady (on tree o next).1
    by (Ok x) is = keeps x is
    by (Err why) is = steady

module _ (tree : PlainTree) (steady : IsSteady tree) where
  -- what both paths of `mv` and `ln` reach
  pair_is : (from to : List (List ℕ)) (pair : PlainEntry × Place) → to_pair tree from to ≡ Ok pair
      → (IsThere tree pair.0) × (pair.1.found ≡ entry_at tree pair.1.folder pair.1.name) × ((node : PlainNode) × (node_at tree pair.1.folder ≡ Some node) × (node.folder ≡ true))
  pair_is from to pair is =
      let first = then_ok (unless (is_root from || is_root to) refusal.Root from) (λ named. then_ (reached tree named) (λ at. then_ (place tree to) (λ goal. Ok (at, goal)))) pair is in
      let root = unless_ok (is_root from || is_root to) refusal.Root from first.0 first.1 in
      let second = then_ok (reached tree first.0) (λ at. then_ (place tree to) (λ goal. Ok (at, goal))) pair first.2 in
      let third = then_ok (place tree to) (λ goal. Ok (second.0, goal)) pair second.2 in
      let same : (let p : PlainEntry × Place = (second.0, third.0) in p ≡ pair) = ok_same _ pair third.2 in
      let facts = place_is tree steady.0 to third.0 third.1 in
      subst (λ (p : PlainEntry × Place). (IsThere tree p.0) × (p.1.found ≡ entry_at tree p.1.folder p.1.name) × ((node : PlainNode) × (node_at tree p.1.folder ≡ Some node) × (node.folder ≡ true))) same
      (reached_there tree steady.0 from second.0 (left_false (is_root from) (is_root to) root.0) (ap (reached tree) root.1 ∙ second.1), facts.0, facts.1)
    where
      left_false : (a b : Bool) → (a || b) ≡ false → a ≡ false
      left_false true b is = absurd (true≢false is)
      left_false false b is = refl

  -- to a free place
  free_keeps : (from to : List (List ℕ)) (pair : PlainEntry × Place) → to_mv tree from to ≡ Ok pair → pair.1.found ≡ None → IsSteady (moved pair.0 pair.1 tree)
  free_keeps from to pair is free = let facts = pair_is from to pair (moving_is tree from to pair is).is_pair in moved_keeps tree steady pair.0 facts.0 pair.1 (sym facts.1 ∙ free) facts.2

module _ (tree : PlainTree) (steady : IsSteady tree) where
  make_keeps : (folder : Bool) (path : List (List ℕ)) (at : Place) → to_make tree path ≡ Ok at → IsSteady (made folder at tree)
  make_keeps folder path at is =
      let first = then_ok (unless (is_root path) refusal.Root path) (new_place tree) at is in
      let facts = new_place_is tree steady.0 first.0 at first.2 in
      made_keeps tree steady folder at facts.0 facts.1

  rm_keeps : (path : List (List ℕ)) (at : PlainEntry) → to_rm tree path ≡ Ok at → IsSteady (removed at tree)
  rm_keeps path at is =
      let first = then_ok (unless (is_root path) refusal.Root path) (λ named. then_ (reached tree named) (λ x. unless x.folder refusal.IsFolder x)) at is in
      let root = unless_ok (is_root path) refusal.Root path first.0 first.1 in
      let second = then_ok (reached tree first.0) (λ x. unless x.folder refusal.IsFolder x) at first.2 in
      let kind = unless_ok second.0.folder refusal.IsFolder second.0 at second.2 in
      let there : IsThere tree second.0 = reached_there tree steady.0 path second.0 root.0 (ap (reached tree) root.1 ∙ second.1) in
      subst (λ (e : PlainEntry). IsSteady (removed e tree)) kind.1 (removed_keeps tree steady second.0 there kind.0)

  rmdir_keeps : (path : List (List ℕ)) (at : PlainEntry) → to_rmdir tree path ≡ Ok at → IsSteady (removed_folder at tree)
  rmdir_keeps path at is =
      let first = then_ok (unless (is_root path) refusal.Root path)
      (λ named. then_ (reached tree named) (λ x. then_ (unless (not x.folder) refusal.NotFolder x) (λ folder. unless (not (length (entries_in tree folder.id) == 0)) refusal.NotEmpty folder))) at is in
      let root = unless_ok (is_root path) refusal.Root path first.0 first.1 in
      let second = then_ok (reached tree first.0) (λ x. then_ (unless (not x.folder) refusal.NotFolder x) (λ folder. unless (not (length (entries_in tree folder.id) == 0)) refusal.NotEmpty folder)) at first.2 in
      let third = then_ok (unless (not second.0.folder) refusal.NotFolder second.0) (λ folder. unless (not (length (entries_in tree folder.id) == 0)) refusal.NotEmpty folder) at second.2 in
      let kind = unless_ok (not second.0.folder) refusal.NotFolder second.0 third.0 third.1 in
      let empty = unless_ok (not (length (entries_in tree third.0.id) == 0)) refusal.NotEmpty third.0 at third.2 in
      let there : IsThere tree second.0 = reached_there tree steady.0 path second.0 root.0 (ap (reached tree) root.1 ∙ second.1) in
      let none : length (entries_in tree second.0.id) ≡ 0 = eqb-true (length (entries_in tree second.0.id)) 0 ((λ i. length (entries_in tree (kind.1 i).id) == 0) ∙ is_true (length (entries_in tree third.0.id) == 0) empty.0) in
      subst (λ (e : PlainEntry). IsSteady (removed_folder e tree)) (kind.1 ∙ empty.1) (removed_folder_keeps tree steady second.0 there (is_true second.0.folder kind.0) none)
    where
      is_true : (b : Bool) → not b ≡ false → b ≡ true
      is_true true is = refl
      is_true false is = absurd (true≢false is)

  mv_keeps : (from to : List (List ℕ)) (pair : PlainEntry × Place) → to_mv tree from to ≡ Ok pair → IsSteady (moved_over pair.0 pair.1 tree)
  mv_keeps from to pair is = by pair.1.found refl (is_same_file pair.0 pair.1.found) refl
    where
      by : (o : Option PlainEntry) → pair.1.found ≡ o → (b : Bool) → is_same_file pair.0 pair.1.found ≡ b → IsSteady (if b then tree else moved pair.0 pair.1 (vacated o tree))
      by o is_o true itself = steady
      by None free false differs = free_keeps tree steady from to pair is free
      by (Some other) stood false differs =
          free_keeps (removed other tree) (rm_keeps to other (vacates tree from to pair is other stood)) from to (pair.0, record pair.1 { found = None }) (moves_later tree from to pair is other stood differs) refl

  ln_keeps : (from to : List (List ℕ)) (pair : PlainNode × Place) → to_link tree from to ≡ Ok pair → IsSteady (linked pair.0 pair.1 tree)
  ln_keeps from to pair is =
      let linking = then_ok (to_ln tree from to) (λ p. then_ (ok_or (node_at tree p.0.id) refusal.NotFound) (λ file. Ok (file, p.1))) pair is in
      let found = then_ok (ok_or (node_at tree linking.0.0.id) refusal.NotFound) (λ file. Ok (file, linking.0.1)) pair linking.2 in
      let same : (let p : PlainNode × Place = (found.0, linking.0.1) in p ≡ pair) = ok_same _ pair found.2 in
      let node : node_at tree linking.0.0.id ≡ Some found.0 = found_ok (node_at tree linking.0.0.id) refusal.NotFound found.0 found.1 in
      let first = then_ok (to_pair tree from to) (λ p. then_ (unless p.0.folder refusal.IsFolder p) (λ file. then_ (unless (is_some file.1.found) refusal.Exists file) (unless (nat_le most_links (names_of tree file.0.id)) refusal.TooManyLinks))) linking.0 linking.1 in
      let second = then_ok (unless first.0.0.folder refusal.IsFolder first.0) (λ file. then_ (unless (is_some file.1.found) refusal.Exists file) (unless (nat_le most_links (names_of tree file.0.id)) refusal.TooManyLinks)) linking.0 first.2 in
      let kind = unless_ok first.0.0.folder refusal.IsFolder first.0 second.0 second.1 in
      let third = then_ok (unless (is_some second.0.1.found) refusal.Exists second.0) (unless (nat_le most_links (names_of tree second.0.0.id)) refusal.TooManyLinks) linking.0 second.2 in
      let free = unless_ok (is_some second.0.1.found) refusal.Exists second.0 third.0 third.1 in
      let few = unless_ok (nat_le most_links (names_of tree second.0.0.id)) refusal.TooManyLinks third.0 linking.0 third.2 in
      let all : first.0 ≡ linking.0 = kind.1 ∙ free.1 ∙ few.1 in
      let facts = pair_is tree steady from to linking.0 (first.1 ∙ ap Ok all) in
      let its = (steady.0.named linking.0.0 (stands_in tree linking.0.0 facts.0)).named in
      let is_file : found.0.folder ≡ false =
      ap (λ (n : PlainNode). n.folder) (some_same found.0 its.0 (sym node ∙ its.1)) ∙ its.2 ∙ sym (ap (λ (p : PlainEntry × Place). p.0.folder) all) ∙ kind.0 in
      let id_is : found.0.id ≡ linking.0.0.id = eqb-true found.0.id linking.0.0.id (found_some (is_node linking.0.0.id) tree.nodes found.0 node).1 in
      let place_free : entry_at tree linking.0.1.folder linking.0.1.name ≡ None =
      sym facts.1 ∙ none_found tree steady.0 linking.0.1.found (ap (λ (p : PlainEntry × Place). is_some p.1.found) (sym (free.1 ∙ few.1)) ∙ free.0) in
      subst (λ (p : PlainNode × Place). IsSteady (linked p.0 p.1 tree)) same
      (linked_keeps tree steady found.0 ((λ i. node_at tree (id_is i)) ∙ node) is_file linking.0.1 place_free facts.2)

  written_keeps : (file : PlainNode) (from : ℕ) (value : List ℕ) → IsSteady (written file from value tree)
  written_keeps file from [] = steady
  written_keeps file from (byte ∷ value) = bytes_keep tree file.id (put_at (padded from file.bytes) from (byte ∷ value)) steady

  step_steady : (asked : Command) → IsSteady (step tree asked).1
  step_steady (command.Mkdir path) = on_keeps tree (to_make tree path) (λ at. (reply.Ok, made true at tree)) steady (make_keeps true path)
  step_steady (command.Create path) = on_keeps tree (to_make tree path) (λ at. (reply.Ok, made false at tree)) steady (make_keeps false path)
  step_steady (command.Rm path) = on_keeps tree (to_rm tree path) (λ at. (reply.Ok, removed at tree)) steady (rm_keeps path)
  step_steady (command.Rmdir path) = on_keeps tree (to_rmdir tree path) (λ at. (reply.Ok, removed_folder at tree)) steady (rmdir_keeps path)
  step_steady (command.Mv from to) = on_keeps tree (to_mv tree from to) (λ pair. (reply.Ok, moved_over pair.0 pair.1 tree)) steady (mv_keeps from to)
  step_steady (command.Ln from to) = on_keeps tree (to_link tree from to) (λ pair. (reply.Ok, linked pair.0 pair.1 tree)) steady (ln_keeps from to)
  step_steady (command.Write path from value) = on_keeps tree (to_write tree path from value) (λ file. (reply.Ok, written file from value tree)) steady (λ file is. written_keeps file from value)
  step_steady (command.Read path from long) = on_keeps tree (to_read tree path long) (λ file. (reply.Content (take long (drop from file.bytes)), tree)) steady (λ file is. steady)
  step_steady (command.Trunc path size) = on_keeps tree (to_trunc tree path size) (λ file. (reply.Ok, resized file size tree)) steady (λ file is. bytes_keep tree file.id (take size (padded size file.bytes)) steady)
  step_steady (command.Ls path) = on_keeps tree (to_folder tree path) (λ folder. (reply.Listing (map listed (entries_in tree folder.id)), tree)) steady (λ folder is. steady)
  step_steady (command.Stat path) = on_keeps tree (to_node tree path) (λ node. (reply.Facts (facts_of tree node), tree)) steady (λ node is. steady)
  step_steady (command.Chmod path mode) = on_keeps tree (to_node tree path) (λ node. (reply.Ok, marked node.id (with_changed node.id (with_mode mode) tree))) steady
      (λ node is. marked_keeps (with_changed node.id (with_mode mode) tree) node.id (changed_keeps tree node.id (with_mode mode) (λ old. refl) (λ old. refl) (λ old sorted. sorted) steady))
  step_steady (command.SetAttr path name value) = on_keeps tree (to_set tree path value) (λ node. (reply.Ok, marked node.id (with_changed node.id (with_attribute name value) tree))) steady
      (λ node is. marked_keeps (with_changed node.id (with_attribute name value) tree) node.id (changed_keeps tree node.id (with_attribute name value) (λ old. refl) (λ old. refl) (set_sorted name value) steady))
  step_steady (command.GetAttr path name) = on_keeps tree (to_value tree path name) (λ pair. (reply.Content pair.1.value, tree)) steady (λ pair is. steady)
  step_steady (command.DelAttr path name) = on_keeps tree (to_attribute tree path name) (λ pair. (reply.Ok, marked pair.0.id (with_changed pair.0.id (without_attribute name) tree))) steady
      (λ pair is. marked_keeps (with_changed pair.0.id (without_attribute name) tree) pair.0.id
      (changed_keeps tree pair.0.id (without_attribute name) (λ old. refl) (λ old. refl) (λ old sorted. kept_in_order attribute_before (λ x. not (is_named name x)) old.attributes sorted) steady))
  step_steady (command.LsAttr path) = on_keeps tree (to_node tree path) (λ node. (reply.Listing (map listed_attribute node.attributes), tree)) steady (λ node is. steady)
  step_steady (command.At moment) = numbers_keep tree tree.next_id moment tree.has_private (omega arith) steady
  step_steady command.Df = steady
  step_steady command.Sync = steady

-- the law
pub step_keeps_trees : StepKeepsTrees
step_keeps_trees tree asked given = let after = step_steady tree (book_of tree given, names_in tree given) asked in given_is (step tree asked).1 after.0 after.1
