-- The attributes of one folder or file have no more records and blocks than there are.
use Rattle.std.proofs.Common.{◌≡◌, ◌<◌, ◌≤◌, ◌^◌, ℕ, ◌+◌, ◌==◌, Bool, true, false, not, List, [], ◌∷◌, ◌++◌, length, map, refl, sym, ◌∙◌, ap, subst, arith}
use Rattle.std.specs.Prelude.{◌&&◌, All, Contains, IsTrue, sum, if◌then◌else◌}
use Rattle.std.specs.List.{flat_map, range_with_len}
use Rattle.std.specs.Str.{bytes_eq}
use Rattle.std.proofs.lemmas.Bool.{and_parts, eqb-true, true≢false}
use Rattle.std.proofs.lemmas.List.{length-append, length-map}
use Rattle.std.proofs.lemmas.Grind.{flat_map-append}
use Rattle.std.proofs.lemmas.Slice.Eq.{bytes_eq-Decides}
use Rattle.hx_bytes.specs.declared.extents.Extent.{Extent}
use Rattle.attributes.specs.Owned.{is_own, names_of}
use Rattle.attributes.specs.Values.{AreValued, extents_at as extents_of_value}
use Rattle.btree_node.specs.Levels.{Pair}
use Rattle.btree_node.specs.Keys.{IsAttrKey, attr_cmp, anything}
use Rattle.btree_node.specs.TreeFile.{attributes_form}
use Rattle.btree_node.specs.declared.store.TreeShape.{TreeShape}
use Rattle.btree_file.specs.Standing.{HoldsTree, pairs_in}
use Rattle.btree_file.specs.State.{sectors_of_tree}
use Rattle.btree_file.proofs.StandingLaws.{shape_is}
use Rattle.file_io.proofs.CutLaws.{few_used}
use Rattle.fork_map.specs.Blocks.{blocks_of}
use Rattle.hfs_model.specs.Sorted.{kept, IsInOrder}
use Rattle.hfs_volume.specs.Changes.{AreSortedAttributes, attribute_before}
use Rattle.hfs_volume.specs.Content.{VolumeState, attributes_of, has_attributes, volume_of}
use Rattle.hfs_volume.specs.Cost.{overflow_records}
use Rattle.hfs_volume.specs.Laws.{one_if}
use Rattle.hfs_volume.specs.Records.{Attribute, attribute_of}
use Rattle.hfs_volume.specs.Values.{blocks_of_values, is_more, is_record_of, used_extents, value_extents}
use Rattle.hfs_volume.proofs.Members.{at_front, behind, kept_cases}
use Rattle.hfs_volume.proofs.ValueTrades.{kept_both}
use Rattle.sector_disk.specs.Lists.{Content}
use Rattle.sector_disk.specs.Space.{Space}
use Rattle.volume_base.specs.Looking.{ReadsVolume}
use Rattle.volume_base.specs.Lists.{lists_of}
use Rattle.volume_base.specs.Standing.{HoldsTrees, IsSettled}
use Rattle.volume_base.specs.Values.{values_owned}
use Rattle.volume_base.specs.declared.volume.Volume.{Volume}
use Rattle.volume_base.proofs.AttributesEdited.{pairs_where}
use Rattle.volume_base.proofs.FoundBefore.{not_before_start}
use Rattle.volume_base.proofs.OwnedChange.{settled_valued}
use Rattle.volume_base.proofs.Rising.{settled_attributes_sorted}
use Rattle.volume_base.proofs.Still.{lists_still}
use Rattle.volume_base.proofs.ValueFreed.{values_apart, values_used}
use Rattle.volume_base.proofs.ValueRecords.{each_in, eight_each, further_most, kept_sorted, split_many, start_of, sum_add, sum_blocks, sum_cons, sum_in, sum_mono, sum_more, values_joined}

-- ---- what one record has is counted under one name at most

when_most : (b : Bool) (n : ℕ) → (if b then n else 0) ≤ n
when_most true n = omega arith
when_most false n = omega arith

module _ (id n : ℕ) (a : Attribute) where
  abbrev here : List ℕ → ℕ
  here name = if is_record_of id name a then n else 0

  not_here : (name : List ℕ) → bytes_eq a.name name ≡ false → here name ≡ 0
  not_here name other = ap (λ b. if (a.id == id) && b then n else 0) other ∙ by (a.id == id)
    where
      by : (b : Bool) → (if b && false then n else 0) ≡ 0
      by true = refl
      by false = refl

  none_named : (owners : List Attribute) → ((x : Attribute) → Contains owners x → bytes_eq a.name x.name ≡ false) → sum (map here (map (λ (x : Attribute). x.name) owners)) ≡ 0
  none_named [] none = refl
  none_named (x ∷ rest) none =
      omega (arith, sum_cons here x.name (map (λ (y : Attribute). y.name) rest), not_here x.name (none x (at_front x rest)), none_named rest (λ y stands. none y (behind x y rest stands)))

  once_named : (owners : List Attribute) → IsInOrder attribute_before owners → ((x : Attribute) → Contains owners x → (x.id ≡ id) × (x.start ≡ 0)) → sum (map here (map (λ (x : Attribute). x.name) owners)) ≤ n
  once_named [] order each = omega arith
  once_named (x ∷ rest) order each = by (once_named rest order.1 (λ y stands. each y (behind x y rest stands))) (bytes_eq a.name x.name) refl
    where
      other : (y : Attribute) → Contains rest y → bytes_eq a.name x.name ≡ true → (b : Bool) → bytes_eq a.name y.name ≡ b → bytes_eq a.name y.name ≡ false
      other y stands one false is = is
      other y stands one true is =
          let first = each x (at_front x rest) in
          let second = each y (behind x y rest stands) in
          absurd (true≢false (sym (each_in (λ later. attribute_before x later ≡ true) rest order.0 y stands)
          ∙ not_before_start x y (first.0 ∙ sym second.0) (sym ((bytes_eq-Decides a.name x.name).0 one) ∙ (bytes_eq-Decides a.name y.name).0 is) second.1))

      by : sum (map here (map (λ (y : Attribute). y.name) rest)) ≤ n → (b : Bool) → bytes_eq a.name x.name ≡ b → sum (map here (map (λ (y : Attribute). y.name) (x ∷ rest))) ≤ n
      by later false is = omega (arith, sum_cons here x.name (map (λ (y : Attribute). y.name) rest), not_here x.name is, later)
      by later true is =
          let none = none_named rest (λ y stands. other y stands is (bytes_eq a.name y.name) refl) in
          omega (arith, sum_cons here x.name (map (λ (y : Attribute). y.name) rest), when_most (is_record_of id x.name a) n, none)

  not_mine : (names : List (List ℕ)) → (a.id == id) ≡ false → sum (map here names) ≡ 0
  not_mine [] other = refl
  not_mine (name ∷ rest) other = omega (arith, sum_cons here name rest, ap (λ b. if b && bytes_eq a.name name then n else 0) other, not_mine rest other)

-- so what all records have is counted once at most
sum_none : (names : List (List ℕ)) → sum (map (λ (name : List ℕ). 0) names) ≡ 0
sum_none [] = refl
sum_none (name ∷ rest) = omega (arith, sum_cons (λ (n : List ℕ). 0) name rest, sum_none rest)

named_within : (id : ℕ) (names : List (List ℕ)) (has : Attribute → ℕ) → ((a : Attribute) → sum (map (λ (name : List ℕ). if is_record_of id name a then has a else 0) names) ≤ (if a.id == id then has a else 0)) → (records : List Attribute)
    → sum (map (λ (name : List ℕ). sum_in (is_record_of id name) has records) names) ≤ sum_in (λ a. a.id == id) has records
named_within id names has each [] = omega (arith, sum_none names)
named_within id names has each (a ∷ rest) =
    omega (arith, sum_add (λ (name : List ℕ). if is_record_of id name a then has a else 0) (λ (name : List ℕ). sum_in (is_record_of id name) has rest) names, each a, named_within id names has each rest)

-- ---- blocks

blocks_append : (xs ys : List Extent) → length (blocks_of (xs ++ ys)) ≡ length (blocks_of xs) + length (blocks_of ys)
blocks_append xs ys = ap length (flat_map-append (λ (extent : Extent). range_with_len extent.start extent.count) xs ys) ∙ length-append (blocks_of xs) (blocks_of ys)

kept_blocks : (test : Attribute → Bool) (records : List Attribute) → length (blocks_of (flat_map used_extents (kept test records))) ≤ length (blocks_of (flat_map used_extents records))
kept_blocks test [] = omega arith
kept_blocks test (a ∷ rest) = by (test a) (kept_blocks test rest)
  where
    by : (b : Bool) → length (blocks_of (flat_map used_extents (kept test rest))) ≤ length (blocks_of (flat_map used_extents rest))
        → length (blocks_of (flat_map used_extents ((if b then a ∷ [] else []) ++ kept test rest))) ≤ length (blocks_of (flat_map used_extents (a ∷ rest)))
    by true few = omega (arith, few, blocks_append (used_extents a) (flat_map used_extents (kept test rest)), blocks_append (used_extents a) (flat_map used_extents rest))
    by false few = omega (arith, few, blocks_append (used_extents a) (flat_map used_extents rest))

-- ---- over the pairs of the attributes file

module _ (pairs : List Pair) (sorted : AreSortedAttributes pairs) (valued : AreValued pairs) (id : ℕ) where
  abbrev all : List Attribute
  all = map attribute_of pairs

  abbrev owners : List Attribute
  owners = kept (is_own id) (map attribute_of pairs)

  not_so : (b : Bool) → not b ≡ true → b ≡ false
  not_so true is = absurd (true≢false (sym is))
  not_so false is = refl

  owner_first : (x : Attribute) → Contains (kept (is_own id) (map attribute_of pairs)) x → (x.id ≡ id) × (x.start ≡ 0)
  owner_first x stands =
      let it = kept_cases (is_own id) (map attribute_of pairs) x stands in
      let parts = and_parts (x.id == id) (not (is_more x.value)) it.1 in
      (eqb-true x.id id parts.0, start_of (map attribute_of pairs) sorted valued.values (eight_each pairs sorted valued) x it.0 (not_so (is_more x.value) parts.1))

  names_once : (has : Attribute → ℕ) (a : Attribute) → sum (map (λ (name : List ℕ). if is_record_of id name a then has a else 0) (names_of id pairs)) ≤ (if a.id == id then has a else 0)
  names_once has a = by (a.id == id) refl
    where
      by : (b : Bool) → (a.id == id) ≡ b → sum (map (λ (name : List ℕ). if is_record_of id name a then has a else 0) (names_of id pairs)) ≤ (if b then has a else 0)
      by true is = once_named id (has a) a (kept (is_own id) (map attribute_of pairs)) (kept_sorted (is_own id) (map attribute_of pairs) sorted) owner_first
      by false is = omega (arith, not_mine id (has a) a (names_of id pairs) is)

  -- names and further records are no more than the records are
  pub owned_most : length (names_of id pairs) + sum (map (λ (name : List ℕ). overflow_records (length (extents_of_value pairs id name))) (names_of id pairs)) ≤ length pairs
  owned_most =
      let more = λ (a : Attribute). one_if (is_more a.value) in
      let least = sum_mono (λ (name : List ℕ). overflow_records (length (extents_of_value pairs id name))) (λ (name : List ℕ). sum_in (is_record_of id name) more (map attribute_of pairs)) (names_of id pairs)
      (λ name. omega (arith, sum_more (is_record_of id name) (map attribute_of pairs), further_most (map attribute_of pairs) sorted valued.values (eight_each pairs sorted valued) id name)) in
      let within = named_within id (names_of id pairs) more (names_once more) (map attribute_of pairs) in
      let further : sum_in (λ (a : Attribute). a.id == id) more (map attribute_of pairs) ≡ length (kept (λ (a : Attribute). is_more a.value) (kept (λ (a : Attribute). a.id == id) (map attribute_of pairs))) =
      sum_more (λ (a : Attribute). a.id == id) (map attribute_of pairs) ∙ ap (λ l. length l) (kept_both (λ (a : Attribute). a.id == id) (λ (a : Attribute). is_more a.value) (map attribute_of pairs)) in
      let firsts : length (names_of id pairs) ≡ length (kept (λ (a : Attribute). not (is_more a.value)) (kept (λ (a : Attribute). a.id == id) (map attribute_of pairs))) =
      length-map (kept (is_own id) (map attribute_of pairs)) (λ (a : Attribute). a.name) ∙ ap (λ l. length l) (kept_both (λ (a : Attribute). a.id == id) (λ (a : Attribute). not (is_more a.value)) (map attribute_of pairs)) in
      let mine = split_many (λ (a : Attribute). is_more a.value) (kept (λ (a : Attribute). a.id == id) (map attribute_of pairs)) in
      let whole = split_many (λ (a : Attribute). a.id == id) (map attribute_of pairs) in
      omega (arith, least, within, further, firsts, mine, whole, length-map pairs attribute_of)

  -- nor have they more blocks than all values have
  pub owned_blocks_most : sum (map (λ (name : List ℕ). length (blocks_of (extents_of_value pairs id name))) (names_of id pairs)) ≤ length (blocks_of (flat_map used_extents (map attribute_of pairs)))
  owned_blocks_most =
      let blocks = λ (a : Attribute). length (blocks_of (used_extents a)) in
      let least = sum_mono (λ (name : List ℕ). length (blocks_of (extents_of_value pairs id name))) (λ (name : List ℕ). sum_in (is_record_of id name) blocks (map attribute_of pairs)) (names_of id pairs)
      (λ name. omega (arith, sum_blocks (is_record_of id name) (map attribute_of pairs))) in
      let within = named_within id (names_of id pairs) blocks (names_once blocks) (map attribute_of pairs) in
      omega (arith, least, within, sum_blocks (λ (a : Attribute). a.id == id) (map attribute_of pairs), kept_blocks (λ (a : Attribute). a.id == id) (map attribute_of pairs))

-- ---- of a settled volume

module _ (v : Volume) (content : Content) (holds : HoldsTrees v content) (settled : IsSettled v content) (has : IsTrue (has_attributes v.header)) (id : ℕ) where
  pairs_are : (volume_of content).attribute_pairs ≡ (lists_of v content).attribute_pairs
  pairs_are = ap (λ (l : VolumeState). l.attribute_pairs) settled.lists

  attribute_tree : HoldsTree attributes_form IsAttrKey anything attr_cmp v.attributes.file content
  attribute_tree = holds.attributes has

  -- the pairs are as many as the tree's header record counts
  pub records_are : v.attributes.file.shape.leaf_records ≡ length (lists_of v content).attribute_pairs
  records_are =
      sym (ap (λ (s : TreeShape). s.leaf_records) (shape_is v.attributes.file content attribute_tree.stands)) ∙ attribute_tree.file.rules.header.leaf_records
      ∙ sym (ap (λ (l : List Pair). length l) (pairs_where v content has))

  owned_sorted : AreSortedAttributes (lists_of v content).attribute_pairs
  owned_sorted = subst AreSortedAttributes pairs_are (settled_attributes_sorted v content holds settled)

  -- the names and the further records of their values
  pub owned_records_most : length (names_of id (lists_of v content).attribute_pairs) + (values_owned (volume_of content) id).records ≤ v.attributes.file.shape.leaf_records
  owned_records_most = omega (
    arith,
    owned_most (lists_of v content).attribute_pairs owned_sorted (settled_valued v content settled) id,
    records_are,
    ap (λ (l : List Pair). sum (map (λ (name : List ℕ). overflow_records (length (extents_of_value l id name))) (names_of id l))) pairs_are,
  )

  -- their blocks are the volume's
  pub owned_freed_few : (values_owned (volume_of content) id).freed ≤ length v.map.used
  owned_freed_few = omega (
    arith,
    owned_blocks_most (lists_of v content).attribute_pairs owned_sorted (settled_valued v content settled) id,
    ap (λ (l : List Pair). sum (map (λ (name : List ℕ). length (blocks_of (extents_of_value l id name))) (names_of id l))) pairs_are,
    ap (λ (l : List Pair). length (blocks_of (flat_map used_extents (map attribute_of l)))) pairs_are,
    ap (λ (l : List ℕ). length l) (values_joined (attributes_of (volume_of content))),
    few_used v.map (blocks_of_values (attributes_of (volume_of content))) (values_apart v content settled (blocks_of_values (attributes_of (volume_of content))) (λ block. omega arith))
        (values_used v content settled (blocks_of_values (attributes_of (volume_of content))) (λ block there. there)),
  )

-- ---- behind reads

module _ (v w : Volume) (a b : Space) (reads : ReadsVolume v w a b) (tells : IsTrue a.tells) (holds : HoldsTrees v a.content) (settled : IsSettled v a.content) (id : ℕ) where
  leaf_same : w.attributes.file.shape.leaf_records ≡ v.attributes.file.shape.leaf_records
  leaf_same = ap (λ (l : VolumeState). l.attributes_tree.shape.leaf_records) (lists_still v w a b reads tells)

  no_pairs : has_attributes v.header ≡ false → (lists_of v a.content).attribute_pairs ≡ []
  no_pairs none = ap (λ h. if h then pairs_in (sectors_of_tree v.attributes.file) a.content else []) none

  pub loss_records : length (names_of id (lists_of v a.content).attribute_pairs) + (values_owned (volume_of a.content) id).records ≤ w.attributes.file.shape.leaf_records
  loss_records = by (has_attributes v.header) refl
    where
      by : (h : Bool) → has_attributes v.header ≡ h → length (names_of id (lists_of v a.content).attribute_pairs) + (values_owned (volume_of a.content) id).records ≤ w.attributes.file.shape.leaf_records
      by true has = omega (arith, leaf_same, owned_records_most v a.content holds settled has id)
      by false none = omega (
        arith,
        ap (λ (l : List Pair). length (names_of id l)) (no_pairs none),
        ap (λ (l : List Pair). sum (map (λ (name : List ℕ). overflow_records (length (extents_of_value l id name))) (names_of id l))) (ap (λ (l : VolumeState). l.attribute_pairs) settled.lists ∙ no_pairs none),
      )

  pub loss_freed : (values_owned (volume_of a.content) id).freed ≤ length v.map.used
  loss_freed = by (has_attributes v.header) refl
    where
      by : (h : Bool) → has_attributes v.header ≡ h → (values_owned (volume_of a.content) id).freed ≤ length v.map.used
      by true has = owned_freed_few v a.content holds settled has id
      by false none = omega (
        arith,
        ap (λ (l : List Pair). sum (map (λ (name : List ℕ). length (blocks_of (extents_of_value l id name))) (names_of id l))) (ap (λ (l : VolumeState). l.attribute_pairs) settled.lists ∙ no_pairs none),
      )
