-- What an edit leaves, over reads before it.
use Rattle.std.proofs.Common.{◌≡◌, ◌≢◌, ℕ, zero, suc, ◌+◌, ◌-◌, ◌*◌, ◌^◌, ◌<◌, ◌≤◌, true, false, List, [], ◌∷◌, map, length, get_or, Result, Ok, Err, OnOk, inl, inr, sym, ◌∙◌, ap, subst, arith}
use Rattle.std.specs.Prelude.{IsTrue}
use Rattle.std.proofs.lemmas.Bool.{cases_lt, cases_eq}
use Rattle.std.proofs.lemmas.List.{append-nil, nil_from_length}
use Rattle.std.specs.declared.cmp.Ordering.{Ordering}
use Rattle.std.specs.List.{range_with_len, count_by}
use Rattle.hx_bytes.specs.Field.{big_at}
use Rattle.btree_node.specs.Node.{items}
use Rattle.btree_node.specs.Levels.{Pair, entries, leaves, child_of, pair_of}
use Rattle.btree_node.specs.Store.{Store, SameStore, SameNodes, MapsOnly}
use Rattle.btree_node.specs.Tree.{level_of, entries_of, pairs_of, IsTree}
use Rattle.btree_edit.specs.LevelEdit.{bit, times, node_room}
use Rattle.btree_edit.specs.Climb.{count_in_levels}
use Rattle.btree_edit.specs.Reading.{ReadsNodes}
use Rattle.btree_edit.specs.Rising.{BoundsRoot, MakesTree, IsBare}
use Rattle.btree_edit.specs.Sorted.{KeepsFreeNodes, EditsTree}
use Rattle.btree_edit.proofs.Counting.{bit_same, bit_other, bit_true, tally_below, tally_none, bits_changed}
use Rattle.btree_edit.proofs.Crowning.{tree_kept, pairs_kept, is_used, not_reserved}
use Rattle.btree_edit.proofs.Whole.{but_of_tree}

pub on_ok_then : {T E : Type 0} {P Q : Type 0} (r : Result T E) → (P → Q) → OnOk r P → OnOk r Q
on_ok_then (Ok x) f h = f h
on_ok_then (Err x) f h = h

pub on_ok_both : {T E : Type 0} {P Q R : Type 0} (r : Result T E) → (P → Q → R) → OnOk r P → OnOk r Q → OnOk r R
on_ok_both (Ok x) f p q = f p q
on_ok_both (Err x) f p q = q

module _ {is_key : List ℕ → Type 0} {cmp : List ℕ → List ℕ → Ordering} (key_length : (x : List ℕ) → is_key x → length x ≡ big_at 2 x 0 + 2)
    (most : ℕ) (a b : Store) (reads : ReadsNodes most a b) (tells : IsTrue a.tells) (small : a.shape.total ≤ 2 ^ 32) (tree : IsTree is_key cmp a)
  where
    nodes : SameNodes a b
    nodes = reads.tree tells

    small_b : b.shape.total ≤ 2 ^ 32
    small_b = omega (arith, small, reads.same.total)

    -- a tree that was read
    pub read_tree : IsTree is_key cmp b
    read_tree = tree_kept key_length a b tree small_b reads.shape nodes.nodes nodes.used reads.same.reserved

    pub read_pairs : pairs_of b ≡ pairs_of a
    read_pairs = pairs_kept key_length a b tree small_b reads.shape nodes.nodes nodes.used reads.same.reserved

    pub read_others : KeepsFreeNodes a b
    read_others = λ n free unused still. nodes.nodes n

    -- an edit of a tree that was read
    pub edits_read : (t : Store) (P : List Pair → List Pair → Type 0) → EditsTree is_key cmp b t P → EditsTree is_key cmp a t P
    edits_read t P edits = record {
      pairs = subst (λ l. P l (pairs_of t)) read_pairs edits.pairs;
      tree = edits.tree;
      filled = edits.filled;
      others = λ n free unused still. edits.others n (reads.same.reserved n ∙ free) (nodes.used n ∙ unused) still ∙ nodes.nodes n;
    }

pub edits_made : {is_key : List ℕ → Type 0} {cmp : List ℕ → List ℕ → Ordering} (s t : Store) (records : List (List ℕ)) (P : List Pair → List Pair → Type 0)
    → (pairs_of t ≡ map pair_of records → P (pairs_of s) (pairs_of t)) → MakesTree is_key cmp s t records → EditsTree is_key cmp s t P
edits_made s t records P change makes = record { pairs = change makes.pairs; tree = makes.tree; filled = makes.filled; others = makes.others }

-- a tree whose root has no record has no pair
module _ {is_key : List ℕ → Type 0} {cmp : List ℕ → List ℕ → Ordering} (s : Store) (tree : IsTree is_key cmp s) where
  no_entries : length (items (s.nodes s.shape.root)) ≡ 0 → (j : ℕ) → entries_of s j ≡ []
  no_entries none zero = append-nil (items (s.nodes s.shape.root)) ∙ nil_from_length (items (s.nodes s.shape.root)) none
  no_entries none (suc j) = ap (λ l. entries s.nodes (map child_of l)) (no_entries none j)

  no_level : length (items (s.nodes s.shape.root)) ≡ 0 → (j : ℕ) → level_of s (suc j) ≡ []
  no_level none j = ap (λ l. map child_of l) (no_entries none j)

  pub bare_pairs : (0 < s.shape.depth → length (items (s.nodes s.shape.root)) ≡ 0) → pairs_of s ≡ []
  bare_pairs none = elim (cases_lt 0 s.shape.depth) [
    | inl some ↦
        ap (λ d. leaves s.nodes s.shape.root d) {x = s.shape.depth} {y = suc (s.shape.depth - 1)} (omega arith) ∙ ap (λ l. map pair_of l) (no_entries (none some) (s.shape.depth - 1))
    | inr empty ↦ ap (λ d. leaves s.nodes s.shape.root d) {x = s.shape.depth} {y = 0} (omega arith)
  ]

  module _ (some : 0 < s.shape.depth) (none : length (items (s.nodes s.shape.root)) ≡ 0) where
    tally_root : (n : ℕ) → count_in_levels (λ j. level_of s j) s.shape.depth n ≡ times n (s.shape.root ∷ [])
    tally_root n =
        omega (
          arith,
          ap (λ d. count_in_levels (λ j. level_of s j) d n) {x = s.shape.depth} {y = suc (s.shape.depth - 1)} (omega arith),
          tally_below (λ j. level_of s j) (s.shape.depth - 1) n,
          tally_none (λ j. level_of s (suc j)) (s.shape.depth - 1) n (λ j low. ap (λ (l : List ℕ). times n l) (no_level none j)),
        )

    pub root_in_use : s.used s.shape.root ≡ true
    root_in_use = bit_true (s.used s.shape.root) (omega (arith, is_used s s.shape.depth (λ j. level_of s j) s.shape.depth 0 [] (but_of_tree s tree 0 []) 0 0 some (omega arith)))

    pub root_not_reserved : s.reserved s.shape.root ≡ false
    root_not_reserved = not_reserved s s.shape.depth (λ j. level_of s j) s.shape.depth 0 [] (but_of_tree s tree 0 []) 0 0 some (omega arith)

    root_low : s.shape.root < s.shape.total
    root_low = (tree.levels.nodes 0 0 some (omega arith)).inside

    -- without it nothing is left
    pub bare_then : (t : Store) → MapsOnly s.shape.root false s t → t.shape.free ≡ s.shape.free + 1 → SameStore s t → IsBare is_key cmp t
    bare_then t maps free same =
        let used : (n : ℕ) → bit (t.used n) + times n (s.shape.root ∷ []) ≡ bit (s.used n) = λ n. elim (cases_eq n s.shape.root) [
          | inl is ↦ omega (arith, ap bit (ap (λ k. t.used k) is ∙ maps.here), ap bit (ap (λ k. s.used k) is ∙ root_in_use), bit_same s.shape.root n (sym is))
          | inr other ↦ omega (arith, ap bit (maps.others n other), bit_other s.shape.root n (λ e. other (sym e)))
        ] in
        let but = but_of_tree s tree 0 [] in
        record {
          each = λ j low. absurd (omega arith);
          some = λ j low. absurd (omega arith);
          named = λ j low. absurd (omega arith);
          wanted = λ j low. absurd (omega arith);
          mapped = λ n inside. omega (arith, but.mapped n (omega (arith, same.total)), tally_root n, used n, ap bit (same.reserved n));
          header = same.reserved 0 ∙ but.header;
          free = omega (
            arith,
            but.free,
            free,
            same.total,
            ap (λ m. count_by (λ n. t.used n) (range_with_len 0 m)) same.total,
            bits_changed t.used s.used (s.shape.root ∷ []) [] s.shape.total (λ k. omega (arith, used k))
                (λ k inside. omega (arith, root_low, ap (λ i. get_or (s.shape.root ∷ []) i 0) {x = 0} {y = k} (omega arith))) (λ k inside. absurd (omega arith)),
          );
        }

    pub makes_from_bare : (t u : Store) (records : List (List ℕ)) → MapsOnly s.shape.root false s t → SameStore s t → MakesTree is_key cmp t u records → MakesTree is_key cmp s u records
    makes_from_bare t u records maps same makes = record {
      tree = makes.tree;
      pairs = makes.pairs;
      filled = makes.filled;
      others = λ n free unused still.
          let other : n ≢ s.shape.root = λ e. absurd (omega (arith, ap bit root_in_use, ap (λ k. bit (s.used k)) e, ap bit unused)) in
          makes.others n (same.reserved n ∙ free) (maps.others n other ∙ unused) still ∙ maps.nodes n free;
    }

-- a tree without levels
pub bare_of_none : {is_key : List ℕ → Type 0} {cmp : List ℕ → List ℕ → Ordering} (s : Store) → IsTree is_key cmp s → s.shape.depth ≡ 0 → IsBare is_key cmp s
bare_of_none s tree none =
    let but = but_of_tree s tree 0 [] in
    record {
      each = λ j low. absurd (omega arith);
      some = λ j low. absurd (omega arith);
      named = λ j low. absurd (omega arith);
      wanted = λ j low. absurd (omega arith);
      mapped = λ n inside. omega (arith, but.mapped n inside, ap (λ d. count_in_levels (λ j. level_of s j) d n) none);
      header = but.header;
      free = but.free;
    }

pub makes_read : {is_key : List ℕ → Type 0} {cmp : List ℕ → List ℕ → Ordering} (most : ℕ) (a b t : Store) (records : List (List ℕ)) → ReadsNodes most a b → IsTrue a.tells → MakesTree is_key cmp b t records → MakesTree is_key cmp a t records
makes_read most a b t records reads tells makes =
    let nodes = reads.tree tells in
    record {
      tree = makes.tree;
      pairs = makes.pairs;
      filled = makes.filled;
      others = λ n free unused still. makes.others n (reads.same.reserved n ∙ free) (nodes.used n ∙ unused) still ∙ nodes.nodes n;
    }

-- the root's records, over reads before
pub bounds_read : (max most : ℕ) (a b t : Store) (depth root : ℕ) → ReadsNodes most a b → IsTrue a.tells → BoundsRoot max b t depth root → BoundsRoot max a t depth root
bounds_read max most a b t depth root reads tells bounds =
    let deep : b.shape.depth ≡ a.shape.depth = ap (λ h. h.depth) reads.shape in
    let same : length (items (b.nodes b.shape.root)) ≡ length (items (a.nodes a.shape.root)) =
    ap (λ h. length (items (b.nodes h.root))) reads.shape ∙ ap (λ l. length (items l)) ((reads.tree tells).nodes a.shape.root) in
    record {
      grown = λ some is. omega (arith, bounds.grown (omega (arith, deep)) (is ∙ sym deep), same);
      two = λ some less. bounds.two (omega (arith, deep)) (omega (arith, deep));
      over = λ some less.
          subst (λ n. node_room a.shape.node_size < (max + 8) * (n + 1)) same
          (subst (λ n. node_room n < (max + 8) * (length (items (b.nodes b.shape.root)) + 1)) reads.same.node_size (bounds.over (omega (arith, deep)) (omega (arith, deep))));
    }

-- a first leaf
pub bounds_first : (max : ℕ) (a t : Store) (depth root : ℕ) → depth ≡ 1 → BoundsRoot max a t depth root
bounds_first max a t depth root one = record {
  grown = λ some is. absurd (omega arith);
  two = λ some less. absurd (omega arith);
  over = λ some less. absurd (omega arith);
}

-- nothing but reads
pub bounds_same : (max most : ℕ) (a b : Store) → ReadsNodes most a b → IsTrue a.tells → BoundsRoot max a b b.shape.depth b.shape.root
bounds_same max most a b reads tells =
    let deep : b.shape.depth ≡ a.shape.depth = ap (λ h. h.depth) reads.shape in
    let same : length (items (b.nodes b.shape.root)) ≡ length (items (a.nodes a.shape.root)) =
    ap (λ h. length (items (b.nodes h.root))) reads.shape ∙ ap (λ l. length (items l)) ((reads.tree tells).nodes a.shape.root) in
    record {
      grown = λ some is. omega (arith, same);
      two = λ some less. absurd (omega (arith, deep));
      over = λ some less. absurd (omega (arith, deep));
    }
