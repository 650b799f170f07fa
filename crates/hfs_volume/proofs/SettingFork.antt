-- `setattr` of a value that has blocks of its own, on the lists of a sound volume.
use Rattle.std.proofs.Common.{◌≡◌, ◌<◌, ◌≤◌, ℕ, suc, ◌*◌, ◌==◌, nat_lt, Bool, true, false, List, [], ◌∷◌, ◌++◌, length, map, refl, sym, ◌∙◌, ap, subst, arith}
use Rattle.std.specs.Prelude.{Contains, All, IsTrue, ◌&&◌, not, if◌then◌else◌}
use Rattle.std.specs.Str.{bytes_eq}
use Rattle.std.specs.List.{flat_map}
use Rattle.std.proofs.lemmas.Bool.{eqb-true, ltb-false, true≢false, and_parts}
use Rattle.std.proofs.lemmas.Slice.Eq.{bytes_eq-Decides}
use Rattle.hx_bytes.specs.declared.extents.Extent.{Extent}
use Rattle.fork_map.specs.Blocks.{blocks_of}
use Rattle.btree_node.specs.Levels.{Pair}
use Rattle.cat_records.specs.Attributes.{is_attr}
use Rattle.cat_records.specs.declared.attribute.AttrRecord.{AttrRecord}
use Rattle.cat_records.specs.declared.attribute.AttrRecord.TheVariants as attribute
use Rattle.hfs_model.specs.Sorted.{kept, put_before, IsInOrder}
use Rattle.hfs_model.specs.Plain.{is_named, with_attribute, with_changed, attribute_before as plain_before}
use Rattle.hfs_volume.specs.Records.{Attribute, attribute_of}
use Rattle.hfs_volume.specs.Forks.{parts_for}
use Rattle.hfs_volume.specs.Values.{IsValue, is_more, is_record_of, longest_inline, used_extents, value_blocks, value_extents}
use Rattle.hfs_volume.specs.Attributes.{HasOwner, IsAttribute}
use Rattle.hfs_volume.specs.Content.{VolumeState, attributes_of, records_of}
use Rattle.hfs_volume.specs.Sound.{IsSoundVolume}
use Rattle.hfs_volume.specs.TreeOf.{BytesOf, tree_in, valued, with_value}
use Rattle.hfs_volume.specs.Weight.{blocks_for_value}
use Rattle.hfs_volume.specs.Data.{SetsValueBlocks}
use Rattle.hfs_volume.specs.Changes.{Adds, AreSortedAttributes, InValues, SetsFork, attribute_before, is_attribute_of}
use Rattle.hfs_volume.specs.Attributing.{SetForkDoes, SetsAttributeFork}
use Rattle.hfs_volume.proofs.Members.{at_front, behind, each_of, kept_cases, kept_stands}
use Rattle.hfs_volume.proofs.Fields.{redated}
use Rattle.hfs_volume.proofs.Finishing.{sound_is_both}
use Rattle.hfs_volume.proofs.BlockSound.{recounted, recounted_tree}
use Rattle.hfs_volume.proofs.PutValues.{values_sound}
use Rattle.hfs_volume.proofs.Refielding.{marked_is, moment_is}
use Rattle.hfs_volume.proofs.Untouched.{whole_blocks}
use Rattle.hfs_volume.proofs.Valued.{kept_within, not_named, valued_in_order, valued_left, valued_starts}
use Rattle.hfs_volume.proofs.ValueTrades.{all_more, extents_is, others_same, records_are, set_balance, set_blocks, set_blocks_stay, set_sizes, set_values, set_were}
use Rattle.hfs_volume.proofs.AttributesTree.{attributes_tree}
use Rattle.hfs_volume.proofs.Attributing.{attributes_still, marked_sound, marked_tree, plain_left, plain_others, plain_put, plain_put_others, set_on, sorted_still, stepped_with}

-- where none passes, none is taken away
none_passes : {X : Type 0} (test : X → Bool) (xs : List X) → kept test xs ≡ [] → kept (λ x. not (test x)) xs ≡ xs
none_passes test [] none = refl
none_passes {X} test (x ∷ xs) none = by (test x) refl none (none_passes test xs)
  where
    by : (b : Bool) → test x ≡ b → (if b then x ∷ [] else []) ++ kept test xs ≡ [] → (kept test xs ≡ [] → kept (λ y. not (test y)) xs ≡ xs) → (if not (test x) then x ∷ [] else []) ++ kept (λ y. not (test y)) xs ≡ x ∷ xs
    by true is some later = absurd (omega (arith, ap length some))
    by false is rest later = ap (λ b. (if not b then x ∷ [] else []) ++ kept (λ y. not (test y)) xs) is ∙ ap (λ l. x ∷ l) (later rest)

-- a list with one item that passes is the others with it
one_adds : {X : Type 0} (test : X → Bool) (x : X) (xs : List X) → kept test xs ≡ x ∷ [] → Adds x (kept (λ y. not (test y)) xs) xs
one_adds test x [] none = absurd (omega (arith, ap length none))
one_adds {X} test x (y ∷ ys) one = by_test (test y) refl (one_adds test x ys)
  where
    first_is : (a b : X) (xs zs : List X) → a ∷ xs ≡ b ∷ zs → a ≡ b
    first_is a b xs zs same = ap (λ l. head_or a l) same
      where
        head_or : X → List X → X
        head_or none [] = none
        head_or none (z ∷ zs) = z

    rest_is : (a b : X) (xs zs : List X) → a ∷ xs ≡ b ∷ zs → xs ≡ zs
    rest_is a b xs zs same = ap tail_of same
      where
        tail_of : List X → List X
        tail_of [] = []
        tail_of (z ∷ zs) = zs

    by_test : (b : Bool) → test y ≡ b → (kept test ys ≡ x ∷ [] → Adds x (kept (λ z. not (test z)) ys) ys) → Adds x (kept (λ z. not (test z)) (y ∷ ys)) (y ∷ ys)
    by_test true is later =
        let one_now : y ∷ kept test ys ≡ x ∷ [] = ap (λ b. (if b then y ∷ [] else []) ++ kept test ys) (sym is) ∙ one in
        let others : kept (λ z. not (test z)) (y ∷ ys) ≡ ys = ap (λ b. (if not b then y ∷ [] else []) ++ kept (λ z. not (test z)) ys) is ∙ none_passes test ys (rest_is y x (kept test ys) [] one_now) in
        subst (λ l. Adds x l (y ∷ ys)) (sym others) (record { place = 0; within = omega arith; is = ap (λ z. z ∷ ys) (first_is y x (kept test ys) [] one_now) })
    by_test false is later =
        let rest = later (ap (λ b. (if b then y ∷ [] else []) ++ kept test ys) (sym is) ∙ one) in
        let others : kept (λ z. not (test z)) (y ∷ ys) ≡ y ∷ kept (λ z. not (test z)) ys = ap (λ b. (if not b then y ∷ [] else []) ++ kept (λ z. not (test z)) ys) is in
        subst (λ l. Adds x l (y ∷ ys)) (sym others) (record { place = suc rest.place; within = omega (arith, rest.within); is = ap (λ l. y ∷ l) rest.is })

-- ---- its value, on the tree

module _ (id : ℕ) (name : List ℕ) (size : ℕ) (extents : List Extent) (old new : List Pair) (sets : SetsFork id name size extents old new) (bytes_of : BytesOf) where
  abbrev was : List Attribute
  was = map attribute_of old

  abbrev is : List Attribute
  is = map attribute_of new

  abbrev it : Attribute → Bool
  it a = is_record_of id name a

  abbrev in_its_record : Attribute
  in_its_record = record { id = id; name = name; start = 0; value = attribute.Inline (bytes_of.value size extents) }

  others_valued : kept (λ a. not (it a)) (valued bytes_of is) ≡ kept (λ a. not (it a)) (valued bytes_of was)
  others_valued =
      sym (valued_left bytes_of (not_named id name) is) ∙ ap (valued bytes_of) (others_same id name size extents old new sets) ∙ valued_left bytes_of (not_named id name) was

  abbrev the_first : Attribute
  the_first = record { id = id; name = name; start = 0; value = attribute.Fork sets.fork }

  abbrev the_further : List Attribute
  the_further = map attribute_of sets.further

  -- further records give no attribute
  none_more : (records items : List Attribute) → ((a : Attribute) → Contains items a → is_more a.value ≡ true) → flat_map (λ a. with_value bytes_of records a a.value) items ≡ []
  none_more records [] each = refl
  none_more records (a ∷ rest) each = (λ i. of_value a.value (each a (at_front a rest)) i ++ none_more records rest (λ b there. each b (behind a b rest there)) i)
    where
      of_value : (value : AttrRecord) → is_more value ≡ true → with_value bytes_of records a value ≡ []
      of_value (attribute.Inline v) more = absurd (true≢false (sym more))
      of_value (attribute.Fork f) more = absurd (true≢false (sym more))
      of_value (attribute.More e) more = refl

  -- the extents of the value, among its records alone
  extents_alone : value_extents (the_first ∷ the_further) id name ≡ extents
  extents_alone =
      ap (λ l. value_extents l id name) (sym (records_are id name size extents old new sets))
      ∙ ap (flat_map used_extents) (kept_within it it (λ a here. here) is) ∙ extents_is id name size extents old new sets

  one_valued : kept it (valued bytes_of is) ≡ in_its_record ∷ []
  unfolding valued
  one_valued =
      sym (valued_left bytes_of (λ i n. (i == id) && bytes_eq n name) is)
      ∙ ap (valued bytes_of) (records_are id name size extents old new sets)
      ∙ (λ i. record in_its_record { value = attribute.Inline (bytes_of.value (sets.size_is i) (extents_alone i)) } ∷ none_more (the_first ∷ the_further) the_further (all_more id name size extents old new sets) i)

  pub fork_adds : Adds in_its_record (kept (λ a. not (it a)) (valued bytes_of was)) (valued bytes_of is)
  fork_adds = subst (λ l. Adds in_its_record l (valued bytes_of is)) others_valued (one_adds it in_its_record (valued bytes_of is) one_valued)

module _ (id : ℕ) (name value : List ℕ) (extents : List Extent) (old new : VolumeState) (bytes_after : BytesOf) (freed : List ℕ)
    (sets : InValues (SetsFork id name (length value) extents) (blocks_of extents) freed old new) (holds : bytes_after.value (length value) extents ≡ value) where
  fork_tree : AreSortedAttributes new.attribute_pairs → All (IsValue (attributes_of new)) (attributes_of new) → tree_in new bytes_after ≡ with_changed id (with_attribute name value) (tree_in old bytes_after)
  fork_tree sorted values =
      attributes_tree id (recounted sets.free sets.next old) new bytes_after sets.rest
      (λ l. put_before plain_before (record { name = name; value = value }) (kept (λ a. not (is_named name a)) l))
      (plain_put id name value others (valued bytes_after (attributes_of new)) adds order starts ∙ ap (put_before plain_before (record { name = name; value = value })) (plain_left id name (valued bytes_after (attributes_of old))))
      (λ other differ. plain_put_others id name value others (valued bytes_after (attributes_of new)) adds other differ ∙ plain_others id name (valued bytes_after (attributes_of old)) other differ)
      ∙ ap (with_changed id (with_attribute name value)) (recounted_tree sets.free sets.next old bytes_after)
    where
      others : List Attribute
      others = kept (λ a. not (is_attribute_of id name a)) (valued bytes_after (attributes_of old))

      adds : Adds (record { id = id; name = name; start = 0; value = attribute.Inline value }) others (valued bytes_after (attributes_of new))
      adds = subst (λ v. Adds (record { id = id; name = name; start = 0; value = attribute.Inline v }) others (valued bytes_after (attributes_of new))) holds
          (fork_adds id name (length value) extents old.attribute_pairs new.attribute_pairs sets.changes bytes_after)

      order : IsInOrder attribute_before (valued bytes_after (attributes_of new))
      order = valued_in_order bytes_after (attributes_of new) sorted

      starts : (a : Attribute) → Contains (valued bytes_after (attributes_of new)) a → a.start ≡ 0
      starts = valued_starts bytes_after (attributes_of new) values

-- ---- its blocks

-- blocks hold the bytes that they are for
blocks_hold : (size block : ℕ) → 0 < block → size ≤ parts_for size block * block
blocks_hold size block some = omega arith

long_takes : (block long : ℕ) → longest_inline < long → parts_for long block ≡ blocks_for_value block long
long_takes block long longer = sym (ap (λ b. if b then parts_for long block else 0) (is_longer (nat_lt longest_inline long) refl))
  where
    is_longer : (b : Bool) → nat_lt longest_inline long ≡ b → b ≡ true
    is_longer true is = refl
    is_longer false is = absurd (omega (arith, longer, ltb-false longest_inline long is))

module _ (id : ℕ) (name : List ℕ) (size : ℕ) (extents : List Extent) (old new : VolumeState) (does : SetsAttributeFork id name size extents old new) (sound : IsSoundVolume old) (named : 0 < length name) (owner : HasOwner (records_of old) id) where
  abbrev set : VolumeState
  set = does.set

  abbrev sets : SetsFork id name size extents old.attribute_pairs does.set.attribute_pairs
  sets = does.sets.changes

  shaped_attributes : (pair : Pair) → Contains old.attribute_pairs pair → IsAttribute (records_of old) pair
  shaped_attributes = each_of (IsAttribute (records_of old)) old.attribute_pairs sound.attributes.each

  each : (pair : Pair) → Contains set.attribute_pairs pair → IsAttribute (records_of old) pair
  each pair there = by_test (is_attribute_of id name (attribute_of pair)) refl
    where
      by_test : (b : Bool) → is_attribute_of id name (attribute_of pair) ≡ b → IsAttribute (records_of old) pair
      by_test true here =
          let among = subst (λ l. Contains l pair) sets.records (kept_stands (λ p. is_attribute_of id name (attribute_of p)) set.attribute_pairs pair there here) in
          let parts = and_parts ((attribute_of pair).id == id) (bytes_eq (attribute_of pair).name name) here in
          record {
            spelled = each_of (λ p. IsTrue (is_attr p.1)) (sets.first ∷ sets.further) sets.spelled pair among;
            named = subst (λ n. 0 < length n) (sym ((bytes_eq-Decides (attribute_of pair).name name).0 parts.1)) named;
            owner = subst (HasOwner (records_of old)) (sym (eqb-true (attribute_of pair).id id parts.0)) owner;
          }
      by_test false other =
          let kept_now = kept_stands (λ p. not (is_attribute_of id name (attribute_of p))) set.attribute_pairs pair there (ap not other) in
          shaped_attributes pair (kept_cases (λ p. not (is_attribute_of id name (attribute_of p))) old.attribute_pairs pair (subst (λ l. Contains l pair) sets.others kept_now)).0

  pub set_sound : 0 < old.head.block_size → IsSoundVolume set
  set_sound some =
      values_sound (blocks_of extents) (value_blocks (attributes_of old) id name) old set does.sets
      (set_balance id name size extents old.attribute_pairs set.attribute_pairs sets)
      (set_were id name size extents old.attribute_pairs set.attribute_pairs sets)
      each
      (set_values id name size extents old.attribute_pairs set.attribute_pairs sets sound.attributes.values)
      (set_sizes id name size extents old.attribute_pairs set.attribute_pairs sets old.head.total_blocks old.head.block_size does.sets.are_fresh.inside
      (subst (λ n. size ≤ n * old.head.block_size) (sym does.many) (blocks_hold size old.head.block_size some)) sound.blocks.forks.values)
      sound

-- `setattr` of a long value
pub set_fork_law : SetForkDoes
set_fork_law path name value extents node old new bytes_of bytes_after are sound named longer holds same allowed does = (
  marked_sound old.head.modify_date node.id does.set new set_is_sound (sorted_still (blocks_of extents) (value_blocks (attributes_of old) node.id name) old does.set does.sets does.sorted) does.marks,
  marked_tree old.head.modify_date node.id does.set new bytes_after are set_is_sound does.marks
      ∙ ap (with_changed node.id (redated old.head.modify_date)) (fork_tree node.id name value extents old does.set bytes_after (value_blocks (attributes_of old) node.id name) does.sets holds does.sorted_again set_is_sound.attributes.values)
      ∙ ap (λ t. with_changed node.id (redated old.head.modify_date) (with_changed node.id (with_attribute name value) t)) same
      ∙ sym (marked_is node.id old.head.modify_date (with_changed node.id (with_attribute name value) (tree_in old bytes_of)) (moment_is old bytes_of))
      ∙ sym (ap (λ r. stepped_with (tree_in old bytes_of) name value r) allowed),
  subst (λ r. SetsValueBlocks name (length value) r old new) (sym allowed) (
    record {
      fresh = blocks_of extents;
      are_fresh = does.sets.are_fresh;
      many = does.many ∙ long_takes old.head.block_size (length value) longer;
      is = ap (λ l. value_blocks l node.id name) still ∙ set_blocks node.id name (length value) extents old.attribute_pairs does.set.attribute_pairs does.sets.changes;
    },
    λ id other differ. ap (λ l. value_blocks l id other) still ∙ set_blocks_stay node.id name (length value) extents old.attribute_pairs does.set.attribute_pairs does.sets.changes id other differ,
  ),
)
  where
    owner : HasOwner (records_of old) node.id
    owner = set_on old bytes_of path value node ((sound_is_both old).0 sound).0 allowed

    some : 0 < old.head.block_size
    some = let whole = whole_blocks old.sectors old.head sound.blocks.header.accepted in omega (arith, whole.whole, whole.some)

    set_is_sound : IsSoundVolume does.set
    set_is_sound = set_sound node.id name (length value) extents old new does sound named owner some

    still : attributes_of new ≡ attributes_of does.set
    still = attributes_still node.id does.set new does.marks
