-- What the desk holds after a search: the first record of a name, or of a folder or file.
use Rattle.std.proofs.Common.{◌≡◌, inl, inr, ℕ, ◌<◌, Bool, true, false, List, [], length, refl, sym, ◌∙◌, ap, subst, arith}
use Rattle.std.specs.Prelude.{slice_index_or, IsTrue, ◌↔◌, ◌==◌, ◌-◌, ◌^◌, ◌+◌, min, if◌then◌else◌}
use Rattle.std.specs.declared.cmp.Ordering.TheVariants.{Equal}
use Rattle.std.proofs.lemmas.Bool.{cases_lt}
use Rattle.btree_node.specs.Keys.{IsAttrKey, attr_cmp, attr_file, attr_start, attr_units}
use Rattle.btree_node.specs.Levels.{Pair}
use Rattle.btree_node.specs.Store.{Store}
use Rattle.btree_node.specs.Tree.{IsTree, pairs_of}
use Rattle.btree_edit.specs.Desk.{HasKey, HoldsPair, IsAbove}
use Rattle.btree_edit.specs.declared.desk.Desk.{Desk}
use Rattle.hfs_model.specs.Sorted.{kept}
use Rattle.hfs_volume.specs.Forks.{in_use}
use Rattle.hfs_volume.specs.Records.{attribute_of, spelled_value}
use Rattle.hfs_volume.specs.Values.{extents_in}
use Rattle.attributes.specs.Dropping.{HoldsFirst, IsFirstAt, counted, extents_of_pair}
use Rattle.attributes.specs.Owned.{is_of}
use Rattle.attributes.specs.Values.{AreSpelled}
use Rattle.attributes.proofs.Lists.{false_so, none_kept, not_so}
use Rattle.attributes.proofs.Owned.{file_of, first_owned, none_owned, of_file, other_owned}
use Rattle.attributes.proofs.Places.{first_by_key, is_under, none_under_behind, none_under_below, tied_is_under, tree_ascends, tree_keys, under_from, under_parts}

-- the extents of a pair are those that its bytes spell
pub pair_extents : (pair : Pair) (bytes : List ℕ) → bytes ≡ pair.1 → in_use (extents_in (spelled_value bytes)) ≡ extents_of_pair pair
unfolding attribute_of
pair_extents pair bytes is = ap (λ l. in_use (extents_in (spelled_value l))) is

-- a count with one more for the first record of an attribute, by its key
pub counted_is : (count : ℕ) (pair : Pair) (key : List ℕ) → key ≡ pair.0 → min (count + (if attr_start key == 0 then 1 else 0)) (2 ^ 32 - 1) ≡ counted count pair
unfolding attribute_of
counted_is count pair key is = ap (λ l. min (count + (if attr_start l == 0 then 1 else 0)) (2 ^ 32 - 1)) is

pub holds_same : (desk : Desk) (one other : Store) → pairs_of one ≡ pairs_of other → (k : ℕ) → HoldsPair one desk k → HoldsPair other desk k
holds_same desk one other same k holds = record {
  inside = subst (λ (l : List Pair). k < length l) same holds.inside;
  key = holds.key ∙ ap (λ (l : List Pair). (slice_index_or l k ([], [])).0) same;
  value = holds.value ∙ ap (λ (l : List Pair). (slice_index_or l k ([], [])).1) same;
}

-- a search says the same of a store with the same pairs
pub held_same : (test : Pair → Bool) (desk : Desk) (one other : Store) → pairs_of one ≡ pairs_of other → (some : Bool) → HoldsFirst test one desk some → HoldsFirst test other desk some
held_same test desk one other same true held = (held.0, holds_same desk one other same held.0 held.1, subst (λ l. IsFirstAt test l held.0) same held.2)
held_same test desk one other same false none = ap (kept test) (sym same) ∙ none

module _ (key : List ℕ) (store : Store) (desk : Desk) (tree : IsTree IsAttrKey attr_cmp store) (start : attr_start key ≡ 0) where
  -- a record has the key
  pub found_first : (k : ℕ) → HoldsPair store desk k → attr_cmp desk.held.key key ≡ Equal → (some : Bool)
      → IsTrue some ↔ (IsAttrKey desk.held.key × (attr_file desk.held.key ≡ attr_file key) × (attr_units desk.held.key ≡ attr_units key)) → HoldsFirst (is_under key) store desk some
  found_first k holds ties true tests = (k, holds, first_by_key key (pairs_of store) (tree_ascends store tree) start k holds.inside (sym (ap (λ l. attr_cmp l key) holds.key) ∙ ties))
  found_first k holds ties false tests =
      let pair = slice_index_or (pairs_of store) k ([], []) in
      let parts = under_parts key pair (tied_is_under pair key (sym (ap (λ l. attr_cmp l key) holds.key) ∙ ties)) in
      absurd (not_so (tests.1 (subst IsAttrKey (sym holds.key) (tree_keys store tree k holds.inside), ap attr_file holds.key ∙ parts.0, ap attr_units holds.key ∙ parts.1)))

  module _ (absent : HasKey attr_cmp key (pairs_of store) → ⊥) where
    -- none does, and no pair stands above it
    pub none_first : IsAbove attr_cmp key (pairs_of store) (length (pairs_of store)) → HoldsFirst (is_under key) store desk false
    none_first above = none_kept (is_under key) (pairs_of store) ([], []) (λ i inside. none_under_below key (pairs_of store) (tree_ascends store tree) start absent (length (pairs_of store)) (omega arith) above i inside)

    -- none does, and the least pair above it is on the desk
    pub later_first : (k : ℕ) → HoldsPair store desk k → IsAbove attr_cmp key (pairs_of store) k → (some : Bool)
        → IsTrue some ↔ (IsAttrKey desk.held.key × (attr_file desk.held.key ≡ attr_file key) × (attr_units desk.held.key ≡ attr_units key)) → HoldsFirst (is_under key) store desk some
    later_first k holds above true tests = (
      k,
      holds,
      record {
        inside = holds.inside;
        passes = under_from key (slice_index_or (pairs_of store) k ([], [])) (ap attr_file (sym holds.key) ∙ (tests.0 refl).1) (ap attr_units (sym holds.key) ∙ (tests.0 refl).2);
        before = none_under_below key (pairs_of store) (tree_ascends store tree) start absent k (omega (arith, holds.inside)) above;
      },
    )
    later_first k holds above false tests = none_kept (is_under key) (pairs_of store) ([], []) (λ i inside. elim (cases_lt i k) [
      | inl low ↦ none_under_below key (pairs_of store) (tree_ascends store tree) start absent k (omega (arith, holds.inside)) above i low
      | inr from ↦ none_under_behind key (pairs_of store) (tree_ascends store tree) start k holds.inside (above.behind k (omega arith) holds.inside) other i from inside
    ])
      where
        other : is_under key (slice_index_or (pairs_of store) k ([], [])) ≡ false
        other = false_so _ (λ under.
            let parts = under_parts key (slice_index_or (pairs_of store) k ([], [])) under in
            not_so (tests.1 (subst IsAttrKey (sym holds.key) (tree_keys store tree k holds.inside), ap attr_file holds.key ∙ parts.0, ap attr_units holds.key ∙ parts.1)))

module _ (id : ℕ) (start : List ℕ) (store : Store) (desk : Desk) (tree : IsTree IsAttrKey attr_cmp store) (spelled : AreSpelled (pairs_of store)) (file : attr_file start ≡ id) (units : attr_units start ≡ []) where
  pub none_owned_first : IsAbove attr_cmp start (pairs_of store) (length (pairs_of store)) → HoldsFirst (is_of id) store desk false
  none_owned_first above = none_owned id start (pairs_of store) (tree_ascends store tree) spelled file units above

  pub owned_first : (k : ℕ) → HoldsPair store desk k → IsAbove attr_cmp start (pairs_of store) k → (some : Bool) → IsTrue some ↔ (IsAttrKey desk.held.key × (attr_file desk.held.key ≡ id)) → HoldsFirst (is_of id) store desk some
  owned_first k holds above true tests =
      (k, holds, first_owned id start (pairs_of store) (tree_ascends store tree) spelled file units k holds.inside above (of_file id (slice_index_or (pairs_of store) k ([], [])) (ap attr_file (sym holds.key) ∙ (tests.0 refl).1)))
  owned_first k holds above false tests = other_owned id start (pairs_of store) (tree_ascends store tree) spelled file units k holds.inside above
      (false_so _ (λ own. not_so (tests.1 (subst IsAttrKey (sym holds.key) (tree_keys store tree k holds.inside), ap attr_file holds.key ∙ file_of id (slice_index_or (pairs_of store) k ([], [])) own))))
