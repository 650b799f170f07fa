-- What the record on the desk tells of the value of its name.
use Rattle.std.proofs.Common.{◌≡◌, inl, inr, ◌++◌, ℕ, List, [], refl, sym, ◌∙◌, ap}
use Rattle.std.specs.Prelude.{slice_index_or, not, None, Some}
use Rattle.std.specs.Ordering.{nat_cmp}
use Rattle.std.specs.declared.cmp.Ordering.TheVariants.{Equal}
use Rattle.std.proofs.lemmas.Bool.{eqb-true, true≢false}
use Rattle.std.proofs.lemmas.Cmp.{nat_cmp_total}
use Rattle.hx_bytes.specs.declared.extents.Extent.{Extent}
use Rattle.btree_node.specs.Keys.{IsAttrKey, attr_cmp, attr_file, attr_start, attr_units}
use Rattle.btree_node.specs.Levels.{Pair}
use Rattle.btree_node.specs.Store.{Store}
use Rattle.btree_node.specs.Tree.{IsTree, pairs_of}
use Rattle.btree_edit.specs.Desk.{HasKey}
use Rattle.btree_edit.specs.declared.desk.Desk.{Desk}
use Rattle.cat_records.specs.declared.attribute.AttrRecord.{AttrRecord}
use Rattle.cat_records.specs.declared.attribute.AttrRecord.TheVariants as attribute
use Rattle.hx_bytes.specs.declared.extents.ExtentRecord.{ExtentRecord}
use Rattle.hx_bytes.specs.declared.extents.ForkRecord.{ForkRecord}
use Rattle.hfs_volume.specs.Forks.{in_use}
use Rattle.hfs_volume.specs.Records.{attribute_of, spelled_value}
use Rattle.hfs_volume.specs.Values.{extents_in, is_more}
use Rattle.attributes.specs.Dropping.{HoldsKey, extents_of_pair}
use Rattle.attributes.specs.Values.{AreValued, later_extents, value_at, value_in}
use Rattle.attributes.specs.declared.value.ValueAt.TheVariants as held
use Rattle.attributes.proofs.Firsts.{first_is_own, first_or_more, first_place, first_then_later, items, no_value, start_is, value_of_record}
use Rattle.attributes.proofs.Places.{by_start, cmp_same, first_by_key, is_under, tree_ascends, under_parts}

-- the record of a pair is the one that its bytes spell
value_spelled : (pair : Pair) → (attribute_of pair).value ≡ spelled_value pair.1
unfolding attribute_of
value_spelled pair = refl

-- where no record has the key of a name's first block, there is no value
pub no_key_no_value : (key : List ℕ) (store : Store) → IsTree IsAttrKey attr_cmp store → AreValued (pairs_of store) → attr_start key ≡ 0 → (HasKey attr_cmp key (pairs_of store) → ⊥)
    → value_at (pairs_of store) (attr_file key) (attr_units key) ≡ None
no_key_no_value key store tree valued start absent = elim (first_place (is_under key) (pairs_of store)) [
  | inl none ↦ no_value (attr_file key) (attr_units key) (pairs_of store) none
  | inr found ↦
      let pair = slice_index_or (pairs_of store) found.0 ([], []) in
      let rises = tree_ascends store tree in
      let own = first_is_own (pairs_of store) rises valued key found.0 found.1 in
      let first = first_or_more (pairs_of store) rises valued found.0 found.1.inside ∙ ap not own in
      let parts = under_parts key pair found.1.passes in
      let begins : attr_start pair.0 ≡ attr_start key = sym (start_is pair) ∙ eqb-true (attribute_of pair).start 0 first ∙ sym start in
      let ties : attr_cmp pair.0 key ≡ Equal = by_start pair.0 key parts.0 parts.1 ∙ ap (λ n. nat_cmp n (attr_start key)) begins ∙ cmp_same nat_cmp_total (attr_start key) in
      absurd (absent (found.0, found.1.inside, ties))
]

module _ (key : List ℕ) (store : Store) (desk : Desk) (tree : IsTree IsAttrKey attr_cmp store) (valued : AreValued (pairs_of store)) (start : attr_start key ≡ 0) (held_is : HoldsKey key store desk) (bytes : List ℕ)
    (bytes_are : bytes ≡ desk.held.value) where
  abbrev pair : Pair
  pair = slice_index_or (pairs_of store) held_is.0 ([], [])

  ties : attr_cmp pair.0 key ≡ Equal
  ties = sym (ap (λ l. attr_cmp l key) held_is.1.key) ∙ held_is.2

  value_is : (found : AttrRecord) → found ≡ spelled_value bytes → (attribute_of pair).value ≡ found
  value_is found is = value_spelled pair ∙ ap spelled_value (sym (bytes_are ∙ held_is.1.value)) ∙ sym is

  -- what the record says is the value
  told : (found : AttrRecord) → found ≡ spelled_value bytes → value_at (pairs_of store) (attr_file key) (attr_units key) ≡ value_in (items (pairs_of store)) (attr_file key) (attr_units key) found
  told found is =
      value_of_record (attr_file key) (attr_units key) (pairs_of store) held_is.0 (first_by_key key (pairs_of store) (tree_ascends store tree) start held_is.0 held_is.1.inside ties)
      ∙ ap (value_in (items (pairs_of store)) (attr_file key) (attr_units key)) (value_is found is)

  pub inline_told : (found : AttrRecord) (value : List ℕ) → found ≡ spelled_value bytes → found ≡ attribute.Inline value → Some (held.Inline value) ≡ value_at (pairs_of store) (attr_file key) (attr_units key)
  inline_told found value is which = sym (told (attribute.Inline value) (sym which ∙ is))

  pub fork_told : (found : AttrRecord) (fork : ForkRecord) (list : List Extent) → found ≡ spelled_value bytes → found ≡ attribute.Fork fork
      → list ≡ in_use fork.extents.extents ++ later_extents (pairs_of store) (attr_file key) (attr_units key) → Some (held.Blocks fork.logical_size list) ≡ value_at (pairs_of store) (attr_file key) (attr_units key)
  fork_told found fork list is which all =
      let rises = tree_ascends store tree in
      let own : in_use fork.extents.extents ≡ extents_of_pair pair = ap (λ v. in_use (extents_in v)) (sym (value_is (attribute.Fork fork) (sym which ∙ is))) in
      let whole = first_then_later key (pairs_of store) held_is.0 rises held_is.1.inside ties start (first_by_key key (pairs_of store) rises start held_is.0 held_is.1.inside ties) in
      ap (λ l. Some (held.Blocks fork.logical_size l)) (all ∙ ap (λ l. l ++ later_extents (pairs_of store) (attr_file key) (attr_units key)) own ∙ sym whole)
      ∙ sym (told (attribute.Fork fork) (sym which ∙ is))

  -- it isn't a further record
  pub more_told : (found : AttrRecord) (more : ExtentRecord) → found ≡ spelled_value bytes → found ≡ attribute.More more → ⊥
  more_told found more is which =
      let rises = tree_ascends store tree in
      let own = first_is_own (pairs_of store) rises valued key held_is.0 (first_by_key key (pairs_of store) rises start held_is.0 held_is.1.inside ties) in
      true≢false (sym (ap is_more (value_is (attribute.More more) (sym which ∙ is))) ∙ own)
