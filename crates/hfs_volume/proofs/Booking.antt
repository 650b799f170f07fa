-- Changes of a plain tree, and what each keeps: sorted lists, named entries, the root, ids that were given out.
use Rattle.std.proofs.Common.{◌≡◌, ◌≢◌, ◌⊎◌, ◌<◌, ◌≤◌, ℕ, ◌+◌, ◌==◌, Bool, true, false, not, List, [], ◌∷◌, ◌++◌, map, refl, sym, ◌∙◌, ap, subst, arith, inl, inr, eq-eqb}
use Rattle.std.specs.Prelude.{Contains, ◌&&◌, nat_lt, count_by, find, Some, None, if◌then◌else◌}
use Rattle.std.specs.Str.{bytes_eq}
use Rattle.std.specs.Option.{option_map}
use Rattle.std.specs.declared.cmp.Ordering.TheVariants.{Less, Equal, Greater}
use Rattle.std.specs.declared.cmp.Ordering.{Ordering}
use Rattle.std.specs.Ordering.{is_lt, is_eq, nat_cmp, ordering_then, then_cmp, on, MatchOrdering}
use Rattle.std.proofs.lemmas.Cmp.{then_total, on_total, nat_cmp_total, nat_list_cmp_total}
use Rattle.std.proofs.lemmas.Map.Text.{is_eq-slice_cmp}
use Rattle.std.proofs.lemmas.Slice.Eq.{bytes_eq-Decides}
use Rattle.std.specs.Cmp.{IsTotalOrder, ranks}
use Rattle.std.specs.Cmp.Lexicographic.{slice_cmp}
use Rattle.std.proofs.lemmas.Bool.{eqb-true, true≢false}
use Rattle.hfs_model.specs.declared.plain.PlainEntry.{PlainEntry}
use Rattle.hfs_model.specs.declared.plain.PlainNode.{PlainNode}
use Rattle.hfs_model.specs.declared.plain.PlainTree.{PlainTree}
use Rattle.hfs_model.specs.Sorted.{kept, put_before, IsInOrder}
use Rattle.hfs_model.specs.Plain.{is_at, entry_before, entry_at, names_of, is_node, node_at, node_before, attribute_before, with_entry, without_entry, with_node, without_node, with_changed, IsNamed}
use Rattle.hfs_volume.specs.Books.{IsGivenTree}
use Rattle.hfs_volume.specs.Laws.{one_if}
use Rattle.hfs_volume.proofs.Counting.{count_cons}
use Rattle.hfs_volume.proofs.Members.{at_front, behind, kept_cases, map_cases}
use Rattle.hfs_volume.proofs.Flat.{found_some, found_none, some_same, none_or_some}
use Rattle.hfs_volume.proofs.InOrder.{each_by, put_cases, put_in_order, kept_in_order, map_in_order, lt_trans, lt_other, total_trans, total_other}
use Rattle.hfs_volume.proofs.Ranks.{entry_one_way}

-- what holds of a plain tree beside the number of names of each folder and file
pub record IsBook (tree : PlainTree) : Type 0 where
  pub entries_sorted : IsInOrder entry_before tree.entries
  pub nodes_sorted : IsInOrder node_before tree.nodes
  pub attributes_sorted : (node : PlainNode) → Contains tree.nodes node → IsInOrder attribute_before node.attributes
  pub root : (node : PlainNode) × (node_at tree 2 ≡ Some node) × (node.folder ≡ true) × (names_of tree 2 ≡ 0)
  pub named : (entry : PlainEntry) → Contains tree.entries entry → IsNamed tree entry
  pub given : (node : PlainNode) → Contains tree.nodes node → node.id < tree.next_id

-- a folder other than the root has one name, a file at least one
abbrev pub IsRightlyNamed : PlainTree → PlainNode → Type 0
IsRightlyNamed tree node = (node.folder ≡ true → (node.id ≡ 2) ⊎ (names_of tree node.id ≡ 1)) × (node.folder ≡ false → 0 < names_of tree node.id)

abbrev pub HasNames : PlainTree → Type 0
HasNames tree = (node : PlainNode) → Contains tree.nodes node → IsRightlyNamed tree node

pub given_is : (tree : PlainTree) → IsBook tree → HasNames tree → IsGivenTree tree
given_is tree book names = record {
  plain = record {
    entries_sorted = book.entries_sorted;
    nodes_sorted = book.nodes_sorted;
    attributes_sorted = book.attributes_sorted;
    root = book.root;
    named = book.named;
    folders = λ node stands folder. (names node stands).0 folder;
    files = λ node stands file. (names node stands).1 file;
  };
  given = book.given;
}

pub book_of : (tree : PlainTree) → IsGivenTree tree → IsBook tree
book_of tree given = record {
  entries_sorted = given.plain.entries_sorted;
  nodes_sorted = given.plain.nodes_sorted;
  attributes_sorted = given.plain.attributes_sorted;
  root = given.plain.root;
  named = given.plain.named;
  given = given.given;
}

pub names_in : (tree : PlainTree) → IsGivenTree tree → HasNames tree
names_in tree given node stands = (λ folder. given.plain.folders node stands folder, λ file. given.plain.files node stands file)

-- ---- a folder or file changed

find_map : {X : Type 0} (test : X → Bool) (f : X → X) → ((x : X) → test (f x) ≡ test x) → (xs : List X) → find test (map f xs) ≡ option_map f (find test xs)
find_map test f same [] = refl
find_map {X} test f same (x ∷ xs) = (λ i. if same x i then Some (f x) else find_map test f same xs i) ∙ by (test x)
  where
    by : (b : Bool) → (if b then Some (f x) else option_map f (find test xs)) ≡ option_map f (if b then Some x else find test xs)
    by true = refl
    by false = refl

module _ (id : ℕ) (change : PlainNode → PlainNode) (same_id : (node : PlainNode) → (change node).id ≡ node.id) (same_folder : (node : PlainNode) → (change node).folder ≡ node.folder) where
  unfoldable pub changed_in : PlainNode → PlainNode
  changed_in node = if is_node id node then change node else node

  same_test : (k : ℕ) (node : PlainNode) → is_node k (changed_in node) ≡ is_node k node
  unfolding changed_in
  same_test k node = by (is_node id node)
    where
      by : (b : Bool) → is_node k (if b then change node else node) ≡ is_node k node
      by true = ap (λ n. n == k) (same_id node)
      by false = refl

  kept_id : (node : PlainNode) → (changed_in node).id ≡ node.id
  unfolding changed_in
  kept_id node = by (is_node id node)
    where
      by : (b : Bool) → (let n : PlainNode = if b then change node else node in n.id ≡ node.id)
      by true = same_id node
      by false = refl

  kept_folder : (node : PlainNode) → (changed_in node).folder ≡ node.folder
  unfolding changed_in
  kept_folder node = by (is_node id node)
    where
      by : (b : Bool) → (let n : PlainNode = if b then change node else node in n.folder ≡ node.folder)
      by true = same_folder node
      by false = refl

  node_at_changed : (tree : PlainTree) (k : ℕ) → node_at (with_changed id change tree) k ≡ option_map changed_in (node_at tree k)
  unfolding changed_in
  node_at_changed tree k = find_map (is_node k) changed_in (same_test k) tree.nodes

  found_changed : (tree : PlainTree) (k : ℕ) (folder : Bool) → (node : PlainNode) × (node_at tree k ≡ Some node) × (node.folder ≡ folder)
      → (node : PlainNode) × (node_at (with_changed id change tree) k ≡ Some node) × (node.folder ≡ folder)
  found_changed tree k folder found = (changed_in found.0, node_at_changed tree k ∙ ap (option_map changed_in) found.1, kept_folder found.0 ∙ found.2)

  module _ (tree : PlainTree) (sorted : (node : PlainNode) → Contains tree.nodes node → IsInOrder attribute_before (changed_in node).attributes) where
    changed_nodes : (node : PlainNode) → Contains (with_changed id change tree).nodes node → (old : PlainNode) × Contains tree.nodes old × (node ≡ changed_in old)
    unfolding changed_in
    changed_nodes node stands = map_cases changed_in tree.nodes node stands

    pub book_changed : IsBook tree → IsBook (with_changed id change tree)
    unfolding changed_in
    book_changed book = record {
      entries_sorted = book.entries_sorted;
      nodes_sorted = map_in_order node_before changed_in (λ x y. λ i. nat_lt (kept_id x i) (kept_id y i)) tree.nodes book.nodes_sorted;
      attributes_sorted = λ node stands. let from = changed_nodes node stands in subst (λ (n : PlainNode). IsInOrder attribute_before n.attributes) (sym from.2) (sorted from.0 from.1);
      root = (changed_in book.root.0, node_at_changed tree 2 ∙ ap (option_map changed_in) book.root.1, kept_folder book.root.0 ∙ book.root.2, book.root.3);
      named = λ entry stands. record {
        parent = found_changed tree entry.parent true (book.named entry stands).parent;
        named = found_changed tree entry.id entry.folder (book.named entry stands).named;
      };
      given = λ node stands. let from = changed_nodes node stands in subst (λ k. k < tree.next_id) (sym (kept_id from.0) ∙ ap (λ (n : PlainNode). n.id) (sym from.2)) (book.given from.0 from.1);
    }

    pub names_changed : HasNames tree → HasNames (with_changed id change tree)
    names_changed names node stands =
        let from = changed_nodes node stands in
        subst (IsRightlyNamed tree) (sym from.2) (
          λ folder. subst (λ k. (k ≡ 2) ⊎ (names_of tree k ≡ 1)) (sym (kept_id from.0)) ((names from.0 from.1).0 (sym (kept_folder from.0) ∙ folder)),
          λ file. subst (λ k. 0 < names_of tree k) (sym (kept_id from.0)) ((names from.0 from.1).1 (sym (kept_folder from.0) ∙ file)),
        )

-- ---- ids drawn, the private folder, the moment

module _ (tree : PlainTree) (next moment : ℕ) (private_folder : Bool) (more : tree.next_id ≤ next) where
  abbrev renumbered : PlainTree
  renumbered = record tree { next_id = next; has_private = private_folder; moment = moment }

  pub book_renumbered : IsBook tree → IsBook renumbered
  book_renumbered book = record {
    entries_sorted = book.entries_sorted;
    nodes_sorted = book.nodes_sorted;
    attributes_sorted = book.attributes_sorted;
    root = book.root;
    named = λ entry stands. record { parent = (book.named entry stands).parent; named = (book.named entry stands).named };
    given = λ node stands. omega (arith, more, book.given node stands);
  }

  pub names_renumbered : HasNames tree → HasNames renumbered
  names_renumbered names = names

-- ---- a folder or file more

find_put : {X : Type 0} (before : X → X → Bool) (test : X → Bool) (item : X) (xs : List X) → test item ≡ false → find test (put_before before item xs) ≡ find test xs
find_put before test item [] fails = λ i. if fails i then Some item else None
find_put {X} before test item (y ∷ ys) fails = by (find_put before test item ys fails) (before item y)
  where
    by : find test (put_before before item ys) ≡ find test ys → (b : Bool) → find test (if b then item ∷ y ∷ ys else y ∷ put_before before item ys) ≡ find test (y ∷ ys)
    by rest true = λ i. if fails i then Some item else find test (y ∷ ys)
    by rest false = λ i. if test y then Some y else rest i

find_put_it : {X : Type 0} (before : X → X → Bool) (test : X → Bool) (item : X) (xs : List X) → test item ≡ true → ((x : X) → Contains xs x → test x ≡ false) → find test (put_before before item xs) ≡ Some item
find_put_it before test item [] passes others = λ i. if passes i then Some item else None
find_put_it {X} before test item (y ∷ ys) passes others = by (find_put_it before test item ys passes (λ x stands. others x (behind y x ys stands))) (before item y)
  where
    by : find test (put_before before item ys) ≡ Some item → (b : Bool) → find test (if b then item ∷ y ∷ ys else y ∷ put_before before item ys) ≡ Some item
    by rest true = λ i. if passes i then Some item else find test (y ∷ ys)
    by rest false = (λ i. if others y (at_front y ys) i then Some y else find test (put_before before item ys)) ∙ rest

pub differs : (a b : ℕ) → a ≢ b → (a == b) ≡ false
differs a b differ = by (a == b) refl
  where
    by : (t : Bool) → (a == b) ≡ t → t ≡ false
    by true is = absurd (differ (eqb-true a b is))
    by false is = refl

module _ (tree : PlainTree) (item : PlainNode) (new : (node : PlainNode) → Contains tree.nodes node → node.id ≢ item.id) (low : item.id < tree.next_id) (sorted : IsInOrder attribute_before item.attributes) where
  pub node_still : (k : ℕ) (node : PlainNode) → node_at tree k ≡ Some node → node_at (with_node item tree) k ≡ Some node
  node_still k node at =
      let found = found_some (is_node k) tree.nodes node at in
      let id_is : node.id ≡ k = eqb-true node.id k found.1 in
      find_put node_before (is_node k) item tree.nodes (differs item.id k (λ same. new node found.0 (id_is ∙ sym same))) ∙ at

  pub node_there : node_at (with_node item tree) item.id ≡ Some item
  node_there = find_put_it node_before (is_node item.id) item tree.nodes (eq-eqb item.id item.id refl) (λ node stands. differs node.id item.id (new node stands))

  pub book_with_node : IsBook tree → IsBook (with_node item tree)
  book_with_node book = record {
    entries_sorted = book.entries_sorted;
    nodes_sorted = put_in_order node_before (λ x y z. lt_trans x.id y.id z.id) item tree.nodes book.nodes_sorted (λ node stands not_first. lt_other item.id node.id not_first (λ same. new node stands (sym same)));
    attributes_sorted = λ node stands. elim (put_cases node_before item tree.nodes node stands) [
      | inl is ↦ subst (λ (n : PlainNode). IsInOrder attribute_before n.attributes) (sym is) sorted
      | inr old ↦ book.attributes_sorted node old
    ];
    root = (book.root.0, node_still 2 book.root.0 book.root.1, book.root.2, book.root.3);
    named = λ entry stands. record {
      parent = (let one = (book.named entry stands).parent in (one.0, node_still entry.parent one.0 one.1, one.2));
      named = (let one = (book.named entry stands).named in (one.0, node_still entry.id one.0 one.1, one.2));
    };
    given = λ node stands. elim (put_cases node_before item tree.nodes node stands) [
      | inl is ↦ subst (λ (n : PlainNode). n.id < tree.next_id) (sym is) low
      | inr old ↦ book.given node old
    ];
  }

-- ---- a name more

count_put : {X : Type 0} (before : X → X → Bool) (test : X → Bool) (item : X) (xs : List X) → count_by test (put_before before item xs) ≡ count_by test xs + one_if (test item)
count_put before test item [] = omega (arith, count_cons test item [])
count_put {X} before test item (y ∷ ys) = by (count_put before test item ys) (before item y)
  where
    by : count_by test (put_before before item ys) ≡ count_by test ys + one_if (test item) → (b : Bool) → count_by test (if b then item ∷ y ∷ ys else y ∷ put_before before item ys) ≡ count_by test (y ∷ ys) + one_if (test item)
    by rest true = omega (arith, count_cons test item (y ∷ ys))
    by rest false = omega (arith, count_cons test y (put_before before item ys), count_cons test y ys, rest)

entry_total : IsTotalOrder (then_cmp (on (λ (e : PlainEntry). e.parent) nat_cmp) (on (λ (e : PlainEntry). e.name) (slice_cmp nat_cmp)))
entry_total = then_total (on_total (λ (e : PlainEntry). e.parent) nat_cmp_total) (on_total (λ (e : PlainEntry). e.name) nat_list_cmp_total)

entry_trans : (x y z : PlainEntry) → entry_before x y ≡ true → entry_before y z ≡ true → entry_before x z ≡ true
entry_trans = total_trans (then_cmp (on (λ (e : PlainEntry). e.parent) nat_cmp) (on (λ (e : PlainEntry). e.name) (slice_cmp nat_cmp))) entry_total

nat_cmp_equal : (a b : ℕ) → nat_cmp a b ≡ Equal → a ≡ b
nat_cmp_equal a b is = subst (λ o. MatchOrdering o (a < b) (a ≡ b) (b < a)) is (ranks a b)

-- entries whose keys compare as equal have one key
same_key : (x y : PlainEntry) → ordering_then (nat_cmp x.parent y.parent) (slice_cmp nat_cmp x.name y.name) ≡ Equal → is_at x.parent x.name y ≡ true
same_key x y equal = by (nat_cmp x.parent y.parent) refl equal
  where
    by : (o : Ordering) → nat_cmp x.parent y.parent ≡ o → ordering_then o (slice_cmp nat_cmp x.name y.name) ≡ Equal → is_at x.parent x.name y ≡ true
    by Less is then_ = absurd (cc)
    by Greater is then_ = absurd (cc)
    by Equal is then_ =
        let parents : x.parent ≡ y.parent = nat_cmp_equal x.parent y.parent is in
        let names : x.name ≡ y.name = (bytes_eq-Decides x.name y.name).0 (sym (is_eq-slice_cmp x.name y.name) ∙ ap is_eq then_) in
        λ i. (eq-eqb y.parent x.parent (sym parents) i) && ((bytes_eq-Decides y.name x.name).1 (sym names) i)

entry_other : (x y : PlainEntry) → entry_before x y ≡ false → is_at x.parent x.name y ≡ false → entry_before y x ≡ true
entry_other x y not_first differ = total_other (then_cmp (on (λ (e : PlainEntry). e.parent) nat_cmp) (on (λ (e : PlainEntry). e.name) (slice_cmp nat_cmp))) entry_total x y not_first (λ equal. true≢false (sym (same_key x y equal) ∙ differ))

module _ (tree : PlainTree) (item : PlainEntry) (free : entry_at tree item.parent item.name ≡ None) (named : IsNamed tree item) (not_root : item.id ≢ 2) where
  pub names_with_entry : (id : ℕ) → names_of (with_entry item tree) id ≡ names_of tree id + one_if (item.id == id)
  names_with_entry id = count_put entry_before (λ (e : PlainEntry). e.id == id) item tree.entries

  pub book_with_entry : IsBook tree → IsBook (with_entry item tree)
  book_with_entry book = record {
    entries_sorted = put_in_order entry_before entry_trans item tree.entries book.entries_sorted (λ entry stands not_first. entry_other item entry not_first (found_none (is_at item.parent item.name) tree.entries free entry stands));
    nodes_sorted = book.nodes_sorted;
    attributes_sorted = book.attributes_sorted;
    root = (book.root.0, book.root.1, book.root.2, names_with_entry 2 ∙ (λ i. book.root.3 i + one_if (differs item.id 2 not_root i)));
    named = λ entry stands. elim (put_cases entry_before item tree.entries entry stands) [
      | inl is ↦ subst (IsNamed (with_entry item tree)) (sym is) (record { parent = named.parent; named = named.named })
      | inr old ↦ record { parent = (book.named entry old).parent; named = (book.named entry old).named }
    ];
    given = book.given;
  }

-- ---- a name less

count_kept : {X : Type 0} (p test : X → Bool) (xs : List X) → count_by p xs ≡ count_by p (kept (λ x. not (test x)) xs) + count_by p (kept test xs)
count_kept p test [] = refl
count_kept {X} p test (x ∷ xs) = by (count_kept p test xs) (test x)
  where
    by : count_by p xs ≡ count_by p (kept (λ y. not (test y)) xs) + count_by p (kept test xs) → (b : Bool)
        → count_by p (x ∷ xs) ≡ count_by p ((if not b then x ∷ [] else []) ++ kept (λ y. not (test y)) xs) + count_by p ((if b then x ∷ [] else []) ++ kept test xs)
    by rest true = omega (arith, count_cons p x xs, count_cons p x (kept test xs), rest)
    by rest false = omega (arith, count_cons p x xs, count_cons p x (kept (λ y. not (test y)) xs), rest)

kept_none : {X : Type 0} (test : X → Bool) (xs : List X) → ((x : X) → Contains xs x → test x ≡ false) → kept test xs ≡ []
kept_none test [] none = refl
kept_none test (x ∷ xs) none = λ i. (if none x (at_front x xs) i then x ∷ [] else []) ++ kept_none test xs (λ y stands. none y (behind x y xs stands)) i

kept_only : {X : Type 0} (before : X → X → Bool) (test : X → Bool) → ((x y : X) → test x ≡ true → test y ≡ true → before x y ≡ true → ⊥)
    → (xs : List X) (x : X) → IsInOrder before xs → find test xs ≡ Some x → kept test xs ≡ x ∷ []
kept_only before test once [] x order found = absurd (none_or_some x found)
kept_only {X} before test once (y ∷ ys) x order found = by (kept_only before test once ys x order.1) (test y) refl found
  where
    another : (z : X) → test y ≡ true → before y z ≡ true → (b : Bool) → test z ≡ b → test z ≡ false
    another z passes first true again = absurd (once y z passes again first)
    another z passes first false fails = fails

    by : (find test ys ≡ Some x → kept test ys ≡ x ∷ []) → (b : Bool) → test y ≡ b → (if b then Some y else find test ys) ≡ Some x → (if b then y ∷ [] else []) ++ kept test ys ≡ x ∷ []
    by rest true passes is =
        let no_more = kept_none test ys (λ z stands. another z passes (each_by (λ later. before y later ≡ true) ys order.0 z stands) (test z) refl) in
        λ i. some_same y x is i ∷ no_more i
    by rest false fails is = rest is

-- two entries at one place don't come one before the other
one_at_a_place : (parent : ℕ) (name : List ℕ) (x y : PlainEntry) → is_at parent name x ≡ true → is_at parent name y ≡ true → entry_before x y ≡ true → ⊥
one_at_a_place parent name x y at_x at_y first =
    let kx = both (x.parent == parent) (bytes_eq x.name name) at_x in
    let ky = both (y.parent == parent) (bytes_eq y.name name) at_y in
    let px : x.parent ≡ parent = eqb-true x.parent parent kx.0 in
    let py : y.parent ≡ parent = eqb-true y.parent parent ky.0 in
    let nx : x.name ≡ name = (bytes_eq-Decides x.name name).0 kx.1 in
    let ny : y.name ≡ name = (bytes_eq-Decides y.name name).0 ky.1 in
    let forth : entry_before x y ≡ is_lt (ordering_then (nat_cmp parent parent) (slice_cmp nat_cmp name name)) = λ i. is_lt (ordering_then (nat_cmp (px i) (py i)) (slice_cmp nat_cmp (nx i) (ny i))) in
    let back : entry_before y x ≡ is_lt (ordering_then (nat_cmp parent parent) (slice_cmp nat_cmp name name)) = λ i. is_lt (ordering_then (nat_cmp (py i) (px i)) (slice_cmp nat_cmp (ny i) (nx i))) in
    true≢false (sym (back ∙ sym forth ∙ first) ∙ entry_one_way x y first)
  where
    both : (a b : Bool) → (a && b) ≡ true → (a ≡ true) × (b ≡ true)
    both true b is = (refl, is)
    both false b is = absurd (cc)

module _ (tree : PlainTree) (parent : ℕ) (name : List ℕ) (item : PlainEntry) (there : entry_at tree parent name ≡ Some item) where
  pub names_without : (book : IsBook tree) (id : ℕ) → names_of (without_entry parent name tree) id + one_if (item.id == id) ≡ names_of tree id
  names_without book id =
      let parts = count_kept (λ (e : PlainEntry). e.id == id) (is_at parent name) tree.entries in
      let only = ap (count_by (λ (e : PlainEntry). e.id == id)) (kept_only entry_before (is_at parent name) (one_at_a_place parent name) tree.entries item book.entries_sorted there) in
      omega (arith, parts, only, count_cons (λ (e : PlainEntry). e.id == id) item [])

  pub book_without : IsBook tree → IsBook (without_entry parent name tree)
  book_without book = record {
    entries_sorted = kept_in_order entry_before (λ entry. not (is_at parent name entry)) tree.entries book.entries_sorted;
    nodes_sorted = book.nodes_sorted;
    attributes_sorted = book.attributes_sorted;
    root = (book.root.0, book.root.1, book.root.2, omega (arith, names_without book 2, book.root.3));
    named = λ entry stands. let old = book.named entry (kept_cases (λ (e : PlainEntry). not (is_at parent name e)) tree.entries entry stands).0 in record { parent = old.parent; named = old.named };
    given = book.given;
  }

-- ---- a folder or file less

pub find_kept : {X : Type 0} (test keep : X → Bool) → ((x : X) → test x ≡ true → keep x ≡ true) → (xs : List X) → find test (kept keep xs) ≡ find test xs
find_kept test keep keeps [] = refl
find_kept {X} test keep keeps (x ∷ xs) = by (find_kept test keep keeps xs) (keep x) (test x) refl refl
  where
    by : find test (kept keep xs) ≡ find test xs → (k t : Bool) → keep x ≡ k → test x ≡ t → find test ((if k then x ∷ [] else []) ++ kept keep xs) ≡ (if t then Some x else find test xs)
    by rest true true kept_it passes = λ i. if passes i then Some x else find test (kept keep xs)
    by rest true false kept_it fails = (λ i. if fails i then Some x else find test (kept keep xs)) ∙ rest
    by rest false true dropped passes = absurd (true≢false (sym (keeps x passes) ∙ dropped))
    by rest false false dropped fails = rest

module _ (tree : PlainTree) (id : ℕ) (not_root : id ≢ 2) (unnamed : (entry : PlainEntry) → Contains tree.entries entry → (entry.id ≢ id) × (entry.parent ≢ id)) where
  pub node_remains : (k : ℕ) → k ≢ id → node_at (without_node id tree) k ≡ node_at tree k
  node_remains k differ = find_kept (is_node k) (λ node. not (is_node id node)) (λ node is. ap not (differs node.id id (λ same. differ (sym (eqb-true node.id k is) ∙ same)))) tree.nodes

  pub book_without_node : IsBook tree → IsBook (without_node id tree)
  book_without_node book = record {
    entries_sorted = book.entries_sorted;
    nodes_sorted = kept_in_order node_before (λ node. not (is_node id node)) tree.nodes book.nodes_sorted;
    attributes_sorted = λ node stands. book.attributes_sorted node (kept_cases (λ (n : PlainNode). not (is_node id n)) tree.nodes node stands).0;
    root = (book.root.0, node_remains 2 (λ same. not_root (sym same)) ∙ book.root.1, book.root.2, book.root.3);
    named = λ entry stands. record {
      parent = (let one = (book.named entry stands).parent in (one.0, node_remains entry.parent (unnamed entry stands).1 ∙ one.1, one.2));
      named = (let one = (book.named entry stands).named in (one.0, node_remains entry.id (unnamed entry stands).0 ∙ one.1, one.2));
    };
    given = λ node stands. book.given node (kept_cases (λ (n : PlainNode). not (is_node id n)) tree.nodes node stands).0;
  }
