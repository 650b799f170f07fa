-- `setattr`, `delattr` and `at` on the lists of a sound volume.
use Rattle.alloc_bitmap.specs.Apart.{AreApart}
use Rattle.hfs_volume.specs.Forks.{parts_for, used_blocks}
use Rattle.hfs_volume.specs.Data.{DropsValueBlocks, SetsValueBlocks}
use Rattle.hfs_volume.specs.Weight.{blocks_for_value}
use Rattle.fork_map.specs.Blocks.{blocks_of}
use Rattle.hfs_volume.specs.Values.{IsValue, blocks_of_values, longest_inline, used_extents, value_blocks}
use Rattle.hfs_volume.proofs.BlockSound.{recounted, recounted_tree}
use Rattle.hfs_volume.proofs.PutValues.{bared_sound}
use Rattle.hfs_volume.proofs.ValueTrades.{blocks_gone, blocks_stay, itself, named_blocks}
use Rattle.hfs_volume.proofs.Valued.{valued_starts, valued_in_order, valued_left, kept_mapped, values_with, sizes_with, valued_with, extents_with, KeepsValues, not_named}
use Rattle.std.proofs.Common.{nat_lt, ◌≡◌, ℕ, ◌+◌, ◌*◌, ◌<◌, ◌≤◌, Bool, true, false, List, [], ◌∷◌, ◌++◌, length, map, inl, inr, refl, sym, ◌∙◌, ap, subst, arith}
use Rattle.std.specs.Prelude.{Contains, ◌==◌, ◌&&◌, ◌||◌, not, count_by, Result, Ok, cond, if◌then◌else◌, All}
use Rattle.std.specs.Str.{bytes_eq}
use Rattle.std.specs.Option.{ok_or}
use Rattle.std.specs.List.{flat_map}
use Rattle.std.specs.Ordering.{is_lt, nat_cmp, ordering_then}
use Rattle.std.specs.Cmp.Lexicographic.{slice_cmp}
use Rattle.std.proofs.lemmas.Bool.{eqb-true, ltb-true, true≢false, and_parts}
use Rattle.btree_node.specs.Levels.{Pair}
use Rattle.cat_records.specs.declared.record.EntryFields.{EntryFields}
use Rattle.cat_records.specs.declared.record.CatRecord.{CatRecord}
use Rattle.cat_records.specs.declared.record.CatRecord.TheVariants.{Folder, File, Thread}
use Rattle.cat_records.specs.declared.attribute.AttrRecord.TheVariants.{Inline}
use Rattle.hfs_language.specs.declared.reply.Reply.TheVariants as reply
use Rattle.hfs_language.specs.declared.refusal.Refusal.TheVariants as refusal
use Rattle.hfs_language.specs.declared.refusal.Refusal.{Refusal}
use Rattle.volume_header.specs.declared.header.VolumeHeader.{VolumeHeader}
use Rattle.hfs_volume.specs.Blocks.{IsGoodHeader, count_used}
use Rattle.std.proofs.lemmas.Cmp.{on_total, nat_list_cmp_total}
use Rattle.std.specs.Ordering.{on as on_}
use Rattle.std.specs.declared.cmp.Ordering.{Ordering}
use Rattle.std.specs.declared.cmp.Ordering.TheVariants.{Less, Equal, Greater}
use Rattle.std.proofs.lemmas.Grind.{flat_map-append}
use Rattle.std.specs.List.{insert}
use Rattle.hfs_model.specs.Sorted.{kept, put_before, IsInOrder}
use Rattle.hfs_model.specs.Step.{on, unless, to_node, to_set, reached, marked, most_attribute, linked}
use Rattle.hfs_model.specs.Plain.{is_node, node_at, with_changed, is_named, with_attribute, without_attribute, attribute_before as plain_before}
use Rattle.hfs_model.specs.declared.plain.PlainAttribute.{PlainAttribute}
use Rattle.hfs_model.specs.declared.plain.PlainNode.{PlainNode}
use Rattle.hfs_model.specs.declared.plain.PlainTree.{PlainTree}
use Rattle.hfs_volume.specs.Records.{Placed, Attribute, attribute_of, entries_of, is_folder, is_file, is_link, special_of}
use Rattle.hfs_volume.specs.Entries.{count_in}
use Rattle.hfs_volume.specs.Links.{links_to}
use Rattle.hfs_volume.specs.Attributes.{IsAttribute, HasOwner}
use Rattle.hfs_volume.specs.Content.{VolumeState, records_of, attributes_of, overflow_in_volume}
use Rattle.hfs_volume.specs.Blocks.{is_among, used_in}
use Rattle.hfs_volume.specs.Sound.{IsSoundVolume}
use Rattle.hfs_volume.specs.TreeOf.{tree_in, plain_attribute, plain_attributes, plain_node, node_in, is_seen, is_linked, is_plain_file, BytesOf, valued}
use Rattle.hfs_volume.specs.Changes.{Adds, AddsAttribute, DropsAttribute, is_attribute_of, attribute_before, AreSortedAttributes, AreSorted, InAttributes, InValues, with_numbers}
use Rattle.hfs_volume.specs.Laws.{IsShaped, AttributeAdded}
use Rattle.hfs_volume.specs.Commands.{AreBytesOf, IsMarkedAlone, ChangesFields}
use Rattle.hfs_volume.specs.Attributing.{SetAttrDoes, DelAttrDoes, AtDoes, RemountKeeps, with_header_numbers}
use Rattle.hfs_volume.proofs.Fields.{marked_views, redated}
use Rattle.hfs_volume.proofs.Counting.{map_insert}
use Rattle.hfs_volume.proofs.Members.{all_of, each_of, inserted_cases}
use Rattle.hfs_volume.proofs.Flat.{flat_none, flat_one, flat_agree, found_some, AllBefore, flat_in_order}
use Rattle.hfs_volume.proofs.Ordering.{added_is_put}
use Rattle.hfs_volume.proofs.Ranks.{one_way}
use Rattle.hfs_volume.proofs.Seeing.{same_number, other_way}
use Rattle.hfs_volume.proofs.Heading.{numbered_shaped, used_numbered}
use Rattle.hfs_volume.proofs.Finishing.{sound_is_both}
use Rattle.hfs_volume.proofs.Reaching.{then_ok, unless_ok, found_ok, folder_no_link}
use Rattle.hfs_volume.proofs.Marks.{shared_no_link}
use Rattle.hfs_volume.proofs.Sharing.{linked_is}
use Rattle.hfs_volume.proofs.NodesOf.{nodes_from}
use Rattle.hfs_volume.proofs.Telling.{nodes_are}
use Rattle.hfs_volume.proofs.AttributesTree.{attributes_tree, with_values}
use Rattle.hfs_volume.proofs.Accounts.{Account, Debts, no_debts, opened, closed}
use Rattle.hfs_volume.proofs.Refielding.{mark_account, fields_tree, marked_is, moment_is}
use Rattle.hfs_volume.proofs.Marking.{twice}
use Rattle.hfs_volume.proofs.HidingFile.{shaped}
use Rattle.hfs_volume.proofs.Fitting.{map_long, differs, not_same}

-- ---- other attributes

-- the volume has other attributes
abbrev with_attributes : VolumeState → VolumeState → VolumeState
with_attributes old new = record old { attribute_pairs = new.attribute_pairs; attributes_tree = new.attributes_tree }

module _ {Changes : List Pair → List Pair → Type 0} (old new : VolumeState) (changes : InAttributes Changes old new) (each : (pair : Pair) → Contains new.attribute_pairs pair → IsAttribute (records_of old) pair)
    (keeps : KeepsValues old new) (blocks : blocks_of_values (attributes_of new) ≡ blocks_of_values (attributes_of old)) where
  pub attributes_shaped : IsShaped old → IsShaped new
  attributes_shaped shaped = subst IsShaped (sym changes.rest) (record {
    threads = shaped.threads;
    rooted = shaped.rooted;
    ids = shaped.ids;
    links = shaped.links;
    attributes = record {
      each = all_of (IsAttribute (records_of old)) new.attribute_pairs each;
      values = keeps.0 shaped;
      journal = shaped.attributes.journal;
      info_block = shaped.attributes.info_block;
    };
    header = shaped.header;
    alternate = shaped.alternate;
    files = record {
      extents = shaped.files.extents;
      catalog = shaped.files.catalog;
      attributes = λ has. let was = shaped.files.attributes has in record { blocks = was.blocks; nodes = was.nodes ∙ (λ i. sym changes.nodes.total i * sym changes.nodes.size i) };
      bits = shaped.files.bits;
      no_more = shaped.files.no_more;
    };
    forks = record {
      sizes = shaped.forks.sizes;
      more_inside = shaped.forks.more_inside;
      goes_on = shaped.forks.goes_on;
      bad_goes_on = shaped.forks.bad_goes_on;
      owned = shaped.forks.owned;
      values = keeps.1 shaped;
      once = subst (λ l. AreApart (used_blocks old.sectors old.head (records_of old) (overflow_in_volume old) ++ l)) (sym blocks) shaped.forks.once;
    };
  })

  pub attributes_account : (start : VolumeState) (debts : Debts) → Account start old debts → Account start new debts
  attributes_account start debts account =
      let shaped = attributes_shaped account.shaped in
      subst (λ v. Account start v debts) (sym changes.rest) (record {
        shaped = subst IsShaped changes.rest shaped;
        sorted = account.sorted;
        valences = account.valences;
        specials = account.specials;
        files = account.files;
        folders = account.folders;
        used = λ block. ap (λ l. is_among (used_blocks old.sectors old.head (records_of old) (overflow_in_volume old) ++ l) block) blocks ∙ account.used block;
        bits = account.bits;
        total = account.total;
        free = account.free;
      })

-- the attributes have one more
pub attribute_adds : (id : ℕ) (name value : List ℕ) (old new : VolumeState) → InAttributes (AddsAttribute id name value) old new
    → Adds (record { id = id; name = name; start = 0; value = Inline value }) (attributes_of old) (attributes_of new)
attribute_adds id name value old new changes = record {
  place = changes.changes.added.place;
  within = omega (arith, changes.changes.added.within, map_long attribute_of old.attribute_pairs);
  is = ap (map attribute_of) changes.changes.added.is ∙ map_insert attribute_of old.attribute_pairs changes.changes.added.place changes.changes.pair ∙ ap (insert (attributes_of old) changes.changes.added.place) changes.changes.stands;
}

pub added_keeps : (id : ℕ) (name value : List ℕ) (old new : VolumeState) → InAttributes (AddsAttribute id name value) old new → KeepsValues old new
added_keeps id name value old new changes =
    let it : Attribute = record { id = id; name = name; start = 0; value = Inline value } in (
      λ shaped. values_with it (value, refl) (attributes_of old) (attributes_of new) (attribute_adds id name value old new changes) refl shaped.attributes.values,
      λ shaped. sizes_with it (value, refl) (attributes_of old) (attributes_of new) (attribute_adds id name value old new changes) old.head.total_blocks old.head.block_size shaped.forks.values,
    )

-- and no block of a value more
pub added_blocks : (id : ℕ) (name value : List ℕ) (old new : VolumeState) → InAttributes (AddsAttribute id name value) old new → blocks_of_values (attributes_of new) ≡ blocks_of_values (attributes_of old)
unfolding blocks_of_values
added_blocks id name value old new changes = flat_none (λ a. blocks_of (used_extents a)) (record { id = id; name = name; start = 0; value = Inline value }) (attributes_of old) (attributes_of new) (attribute_adds id name value old new changes) refl

each_with : (id : ℕ) (name value : List ℕ) (old new : VolumeState) → InAttributes (AddsAttribute id name value) old new → HasOwner (records_of old) id → 0 < length name → IsShaped old → (pair : Pair) → Contains new.attribute_pairs pair → IsAttribute (records_of old) pair
each_with id name value old new changes owner named shaped pair stands =
    let adds = changes.changes in
    elim (inserted_cases old.attribute_pairs adds.added.place adds.pair pair (subst (λ l. Contains l pair) adds.added.is stands)) [
      | inl same ↦ subst (IsAttribute (records_of old)) (sym same) (record {
        spelled = adds.spelled;
        named = subst (λ (a : Attribute). 0 < length a.name) (sym adds.stands) named;
        owner = subst (λ (a : Attribute). HasOwner (records_of old) a.id) (sym adds.stands) owner;
      })
      | inr there ↦ each_of (IsAttribute (records_of old)) old.attribute_pairs shaped.attributes.each pair there
    ]

-- the law
pub attribute_added_law : AttributeAdded
attribute_added_law id name value old new changes owner named shaped = (
  attributes_shaped old new changes (each_with id name value old new changes owner named shaped) (added_keeps id name value old new changes) blocks shaped,
  record {
    in_folder = λ id. ap (λ (v : VolumeState). count_in (entries_of (records_of v)) id) changes.rest;
    files = ap (λ (v : VolumeState). count_by (λ placed. is_file placed.value) (entries_of (records_of v))) changes.rest;
    folders = ap (λ (v : VolumeState). count_by (λ placed. is_folder placed.value) (entries_of (records_of v))) changes.rest;
    links = λ reference. ap (λ (v : VolumeState). length (links_to (records_of v) reference)) changes.rest;
    used = λ block. ap (λ l. is_among l block) used_kept;
  },
)
  where
    blocks : blocks_of_values (attributes_of new) ≡ blocks_of_values (attributes_of old)
    blocks = added_blocks id name value old new changes

    used_kept : used_in new ≡ used_in old
    used_kept = ap used_in changes.rest ∙ ap (λ l. used_blocks old.sectors old.head (records_of old) (overflow_in_volume old) ++ l) blocks

-- ---- the tree

rest_of : {Changes : List Pair → List Pair → Type 0} (old new : VolumeState) → InAttributes Changes old new → new ≡ with_values old new
rest_of old new changes = changes.rest ∙ (λ i. record old { attribute_pairs = new.attribute_pairs; attributes_tree = new.attributes_tree; bits = ap (λ (v : VolumeState). v.bits) (sym changes.rest) i })

-- ---- lists of attributes

-- those of one CNID, one by one
abbrev piece : ℕ → Attribute → List PlainAttribute
piece id a = if a.id == id then plain_attribute a ∷ [] else []

pub plain_is_flat : (id : ℕ) (attributes : List Attribute) → plain_attributes attributes id ≡ flat_map (piece id) attributes
plain_is_flat id [] = refl
plain_is_flat id (a ∷ rest) = by_test (a.id == id) (plain_is_flat id rest)
  where
    by_test : (b : Bool) → plain_attributes rest id ≡ flat_map (piece id) rest → map plain_attribute ((if b then a ∷ [] else []) ++ kept (λ (x : Attribute). x.id == id) rest) ≡ (if b then plain_attribute a ∷ [] else []) ++ flat_map (piece id) rest
    by_test true later = ap (λ l. plain_attribute a ∷ l) later
    by_test false later = later

kept_append : {X : Type 0} (test : X → Bool) (xs ys : List X) → kept test (xs ++ ys) ≡ kept test xs ++ kept test ys
kept_append test xs ys = flat_map-append (λ x. if test x then x ∷ [] else []) xs ys

-- what is left of a CNID's attributes without one of its names
named_left : (id : ℕ) (name : List ℕ) (attributes : List Attribute) → flat_map (piece id) (kept (λ a. not (is_attribute_of id name a)) attributes) ≡ kept (λ a. not (is_named name a)) (flat_map (piece id) attributes)
named_left id name [] = refl
named_left id name (a ∷ attributes) =
    by_tests (a.id == id) (bytes_eq a.name name) refl refl (named_left id name attributes)
    ∙ sym (kept_append (λ a. not (is_named name a)) (piece id a) (flat_map (piece id) attributes))
  where
    by_tests : (b c : Bool) → (a.id == id) ≡ b → bytes_eq a.name name ≡ c
        → flat_map (piece id) (kept (λ p. not (is_attribute_of id name p)) attributes) ≡ kept (λ a. not (is_named name a)) (flat_map (piece id) attributes)
        → flat_map (piece id) ((if not ((a.id == id) && bytes_eq a.name name) then a ∷ [] else []) ++ kept (λ p. not (is_attribute_of id name p)) attributes)
        ≡ kept (λ a. not (is_named name a)) (piece id a) ++ kept (λ a. not (is_named name a)) (flat_map (piece id) attributes)
    by_tests true true one other rest =
        (λ i. flat_map (piece id) ((if not (one i && other i) then a ∷ [] else []) ++ kept (λ p. not (is_attribute_of id name p)) attributes))
        ∙ rest ∙ sym ((λ i. kept (λ a. not (is_named name a)) (if one i then plain_attribute a ∷ [] else []) ++ kept (λ a. not (is_named name a)) (flat_map (piece id) attributes))
        ∙ (λ i. ((if not (other i) then plain_attribute a ∷ [] else []) ++ []) ++ kept (λ a. not (is_named name a)) (flat_map (piece id) attributes)))
    by_tests true false one other rest =
        (λ i. flat_map (piece id) ((if not (one i && other i) then a ∷ [] else []) ++ kept (λ p. not (is_attribute_of id name p)) attributes))
        ∙ (λ i. (if one i then plain_attribute a ∷ [] else []) ++ rest i)
        ∙ sym ((λ i. kept (λ a. not (is_named name a)) (if one i then plain_attribute a ∷ [] else []) ++ kept (λ a. not (is_named name a)) (flat_map (piece id) attributes))
        ∙ (λ i. ((if not (other i) then plain_attribute a ∷ [] else []) ++ []) ++ kept (λ a. not (is_named name a)) (flat_map (piece id) attributes)))
    by_tests false c one other rest =
        (λ i. flat_map (piece id) ((if not (one i && bytes_eq a.name name) then a ∷ [] else []) ++ kept (λ p. not (is_attribute_of id name p)) attributes))
        ∙ (λ i. (if one i then plain_attribute a ∷ [] else []) ++ rest i)
        ∙ sym (λ i. kept (λ a. not (is_named name a)) (if one i then plain_attribute a ∷ [] else []) ++ kept (λ a. not (is_named name a)) (flat_map (piece id) attributes))

-- those of another CNID are as they were
others_left : (id other : ℕ) (name : List ℕ) → (other == id) ≡ false → (attributes : List Attribute) → flat_map (piece other) (kept (λ a. not (is_attribute_of id name a)) attributes) ≡ flat_map (piece other) attributes
others_left id other name differs_it [] = refl
others_left id other name differs_it (a ∷ attributes) = by_test (a.id == id) refl (others_left id other name differs_it attributes)
  where
    gone : (b c : Bool) → (a.id == id) ≡ true → flat_map (piece other) (kept (λ p. not (is_attribute_of id name p)) attributes) ≡ flat_map (piece other) attributes
        → flat_map (piece other) ((if not c then a ∷ [] else []) ++ kept (λ p. not (is_attribute_of id name p)) attributes) ≡ piece other a ++ flat_map (piece other) attributes
    gone b true same rest =
        rest ∙ sym (ap (λ x. (if x then plain_attribute a ∷ [] else []) ++ flat_map (piece other) attributes)
        (differs a.id other (λ is. not_same other id differs_it (sym is ∙ eqb-true a.id id same))))
    gone b false same rest = ap (λ l. piece other a ++ l) rest

    by_test : (b : Bool) → (a.id == id) ≡ b → flat_map (piece other) (kept (λ p. not (is_attribute_of id name p)) attributes) ≡ flat_map (piece other) attributes
        → flat_map (piece other) ((if not ((a.id == id) && bytes_eq a.name name) then a ∷ [] else []) ++ kept (λ p. not (is_attribute_of id name p)) attributes)
        ≡ piece other a ++ flat_map (piece other) attributes
    by_test true same rest = gone true ((a.id == id) && bytes_eq a.name name) same rest
    by_test false same rest =
        (λ i. flat_map (piece other) ((if not (same i && bytes_eq a.name name) then a ∷ [] else []) ++ kept (λ p. not (is_attribute_of id name p)) attributes))
        ∙ ap (λ l. piece other a ++ l) rest

-- ---- order

-- those of one CNID that stand in one piece
abbrev whole : ℕ → Attribute → List PlainAttribute
whole id a = if (a.id == id) && (a.start == 0) then plain_attribute a ∷ [] else []

then_equal : (o : Ordering) → is_lt (ordering_then o Equal) ≡ true → is_lt o ≡ true
then_equal Less is = is
then_equal Equal is = is
then_equal Greater is = is

cmp_same : (n : ℕ) → nat_cmp n n ≡ Equal
cmp_same n = λ i. cond (not_below i) Less (cond (same_number n i) Equal Greater)
  where
    not_below : nat_lt n n ≡ false
    not_below = grind arith

names_before : (x y : Attribute) → attribute_before x y ≡ true → x.id ≡ y.id → x.start ≡ y.start → plain_before (plain_attribute x) (plain_attribute y) ≡ true
names_before x y before id start =
    then_equal (slice_cmp nat_cmp x.name y.name)
    (sym ((λ i. is_lt (ordering_then (nat_cmp (id i) y.id) (ordering_then (slice_cmp nat_cmp x.name y.name) (nat_cmp (start i) y.start)))) ∙ (λ i. is_lt (ordering_then (cmp_same y.id i) (ordering_then (slice_cmp nat_cmp x.name y.name) (cmp_same y.start i))))) ∙ before)

pub wholes_in_order : (id : ℕ) (attributes : List Attribute) → IsInOrder attribute_before attributes → IsInOrder plain_before (flat_map (whole id) attributes)
wholes_in_order id attributes order = flat_in_order attribute_before plain_before (whole id) each across attributes order
  where
    each : (x : Attribute) → IsInOrder plain_before (whole id x)
    each x = by_bool ((x.id == id) && (x.start == 0))
      where
        by_bool : (b : Bool) → IsInOrder plain_before (if b then plain_attribute x ∷ [] else [])
        by_bool true = (tt, tt)
        by_bool false = tt

    across : (x y : Attribute) → attribute_before x y ≡ true → AllBefore plain_before (whole id x) (whole id y)
    across x y before = by_bools ((x.id == id) && (x.start == 0)) ((y.id == id) && (y.start == 0)) refl refl
      where
        by_bools : (b c : Bool) → ((x.id == id) && (x.start == 0)) ≡ b → ((y.id == id) && (y.start == 0)) ≡ c → AllBefore plain_before (if b then plain_attribute x ∷ [] else []) (if c then plain_attribute y ∷ [] else [])
        by_bools true true one other =
            let first = and_parts (x.id == id) (x.start == 0) one in
            let second = and_parts (y.id == id) (y.start == 0) other in
            ((names_before x y before (eqb-true x.id id first.0 ∙ sym (eqb-true y.id id second.0)) (eqb-true x.start 0 first.1 ∙ sym (eqb-true y.start 0 second.1)), tt), tt)
        by_bools true false one other = (tt, tt)
        by_bools false c one other = tt

pub wholes_are : (id : ℕ) (attributes : List Attribute) → ((a : Attribute) → Contains attributes a → a.start ≡ 0) → flat_map (whole id) attributes ≡ flat_map (piece id) attributes
wholes_are id attributes starts = flat_agree (whole id) (piece id) attributes (λ a stands. (λ i. if (a.id == id) && (starts a stands i == 0) then plain_attribute a ∷ [] else []) ∙ ap (λ b. if b then plain_attribute a ∷ [] else []) (and_true (a.id == id)))
  where
    and_true : (b : Bool) → (b && true) ≡ b
    and_true true = refl
    and_true false = refl

plain_one_way : (x y : PlainAttribute) → plain_before x y ≡ true → plain_before y x ≡ false
plain_one_way = one_way {R = on_ (λ (a : PlainAttribute). a.name) (slice_cmp nat_cmp)} (on_total (λ (a : PlainAttribute). a.name) nat_list_cmp_total)

-- ---- what the tree has after each

-- without one name
pub plain_left : (id : ℕ) (name : List ℕ) (attributes : List Attribute) → plain_attributes (kept (λ a. not (is_attribute_of id name a)) attributes) id ≡ kept (λ a. not (is_named name a)) (plain_attributes attributes id)
plain_left id name attributes =
    plain_is_flat id (kept (λ a. not (is_attribute_of id name a)) attributes) ∙ named_left id name attributes ∙ ap (kept (λ a. not (is_named name a))) (sym (plain_is_flat id attributes))

pub plain_others : (id : ℕ) (name : List ℕ) (attributes : List Attribute) (other : ℕ) → (other == id) ≡ false → plain_attributes (kept (λ a. not (is_attribute_of id name a)) attributes) other ≡ plain_attributes attributes other
plain_others id name attributes other differs_it =
    plain_is_flat other (kept (λ a. not (is_attribute_of id name a)) attributes) ∙ others_left id other name differs_it attributes ∙ sym (plain_is_flat other attributes)

-- the attributes of a volume without one are those of the other, in their records
pub valued_bared : (id : ℕ) (name : List ℕ) (bytes_of : BytesOf) (old new : List Pair) → DropsAttribute id name old new
    → valued bytes_of (map attribute_of new) ≡ kept (λ a. not (is_attribute_of id name a)) (valued bytes_of (map attribute_of old))
valued_bared id name bytes_of old new drops = ap (valued bytes_of) (ap (map attribute_of) drops ∙ kept_mapped attribute_of (λ a. not (is_attribute_of id name a)) old) ∙ valued_left bytes_of (not_named id name) (map attribute_of old)

pub bared_tree : (id : ℕ) (name freed : List ℕ) (old new : VolumeState) (bytes_of : BytesOf) → InValues (DropsAttribute id name) [] freed old new
    → tree_in new bytes_of ≡ with_changed id (without_attribute name) (tree_in old bytes_of)
bared_tree id name freed old new bytes_of does =
    let begun = recounted does.free does.next old in
    let left = valued_bared id name bytes_of old.attribute_pairs new.attribute_pairs does.changes in
    attributes_tree id begun new bytes_of does.rest (kept (λ a. not (is_named name a)))
    (ap (λ l. plain_attributes l id) left ∙ plain_left id name (valued bytes_of (attributes_of old)))
    (λ other differs_it. ap (λ l. plain_attributes l other) left ∙ plain_others id name (valued bytes_of (attributes_of old)) other differs_it)
    ∙ ap (with_changed id (without_attribute name)) (recounted_tree does.free does.next old bytes_of)

-- one attribute more, whose value is in its record
module _ (id : ℕ) (name value : List ℕ) (old new : List Attribute) (adds : Adds (record { id = id; name = name; start = 0; value = Inline value }) old new) where
  abbrev it : Attribute
  it = record { id = id; name = name; start = 0; value = Inline value }

  pub plain_put : IsInOrder attribute_before new → ((a : Attribute) → Contains new a → a.start ≡ 0) → plain_attributes new id ≡ put_before plain_before (record { name = name; value = value }) (plain_attributes old id)
  plain_put order starts =
      plain_is_flat id new
      ∙ added_is_put plain_before plain_one_way (record { name = name; value = value }) (flat_map (piece id) old) (flat_map (piece id) new)
      (flat_one (piece id) it (record { name = name; value = value }) old new adds (ap (λ b. if b then plain_attribute it ∷ [] else []) (same_number id)))
      (subst (IsInOrder plain_before) (wholes_are id new starts) (wholes_in_order id new order))
      ∙ ap (put_before plain_before (record { name = name; value = value })) (sym (plain_is_flat id old))

  pub plain_put_others : (other : ℕ) → (other == id) ≡ false → plain_attributes new other ≡ plain_attributes old other
  plain_put_others other differs_it =
      plain_is_flat other new ∙ flat_none (piece other) it old new adds (ap (λ b. if b then plain_attribute it ∷ [] else []) (other_way other id differs_it)) ∙ sym (plain_is_flat other old)

added_tree : (id : ℕ) (name value : List ℕ) (old new : VolumeState) (bytes_of : BytesOf) → InAttributes (AddsAttribute id name value) old new → AreSortedAttributes new.attribute_pairs
    → All (IsValue (attributes_of new)) (attributes_of new)
    → tree_in new bytes_of ≡ with_changed id (λ node. record node { attributes = put_before plain_before (record { name = name; value = value }) node.attributes }) (tree_in old bytes_of)
added_tree id name value old new bytes_of changes sorted values =
    attributes_tree id old new bytes_of (rest_of old new changes) (put_before plain_before (record { name = name; value = value }))
    (plain_put id name value (valued bytes_of (attributes_of old)) (valued bytes_of (attributes_of new)) adds (valued_in_order bytes_of (attributes_of new) sorted) (valued_starts bytes_of (attributes_of new) values))
    (plain_put_others id name value (valued bytes_of (attributes_of old)) (valued bytes_of (attributes_of new)) adds)
  where
    adds : Adds (record { id = id; name = name; start = 0; value = Inline value }) (valued bytes_of (attributes_of old)) (valued bytes_of (attributes_of new))
    adds = valued_with (record { id = id; name = name; start = 0; value = Inline value }) (value, refl) (attributes_of old) (attributes_of new) (attribute_adds id name value old new changes) bytes_of

-- ---- whose node it is

owner_of : (volume : VolumeState) (bytes_of : BytesOf) → IsShaped volume → (node : PlainNode) → Contains (tree_in volume bytes_of).nodes node → HasOwner (records_of volume) node.id
owner_of volume bytes_of shaped node stands =
    let it = nodes_from (valued bytes_of (attributes_of volume)) bytes_of (records_of volume) node (subst (λ l. Contains l node) (nodes_are volume bytes_of) stands) in
    (it.entry, it.stands, sym it.id, by_link it.entry it.stands it.entry.value refl it.has (is_link it.entry) refl)
  where
    not_linked : (e : Placed) → Contains (entries_of (records_of volume)) e → is_link e ≡ true → (b : Bool) → is_linked (records_of volume) e ≡ b → b ≡ false
    not_linked e there link false isnt = refl
    not_linked e there link true linked = let links = linked_is (records_of volume) e linked in absurd (true≢false (sym link ∙ shared_no_link volume shaped (special_of links.link) e there links.names))

    and_none : (b : Bool) → (b && false) ≡ false
    and_none true = refl
    and_none false = refl

    by_link : (e : Placed) → Contains (entries_of (records_of volume)) e → (value : CatRecord) → e.value ≡ value → Contains (node_in (valued bytes_of (attributes_of volume)) (records_of volume) bytes_of e value) node → (b : Bool) → is_link e ≡ b → b ≡ false
    by_link e there value is has false isnt = refl
    by_link e there (Folder f) is has true link = absurd (true≢false (sym link ∙ folder_no_link e (ap is_folder is)))
    by_link e there (File f) is has true link =
        let none : is_plain_file (records_of volume) e ≡ false = (λ i. (is_seen (records_of volume) e && not (link i)) || not_linked e there link (is_linked (records_of volume) e) refl i) ∙ (λ i. and_none (is_seen (records_of volume) e) i || false) in
        let empty : Contains [] node = subst (λ b. Contains (if b then plain_node (valued bytes_of (attributes_of volume)) f.fields false (bytes_of.file f) (is_linked (records_of volume) e) ∷ [] else []) node) none has in
        absurd (omega (arith, empty.1))
    by_link e there (Thread f) is has true link = absurd (omega (arith, has.1))

node_there : (tree : PlainTree) (path : List (List ℕ)) (node : PlainNode) → to_node tree path ≡ Ok node → Contains tree.nodes node
node_there tree path node allowed =
    let step = then_ok (reached tree path) (λ at. ok_or (node_at tree at.id) refusal.NotFound) node allowed in
    (found_some (is_node step.0.id) tree.nodes node (found_ok (node_at tree step.0.id) refusal.NotFound node step.2)).0

-- ---- the commands

abbrev stepped_without : PlainTree → List ℕ → Result (PlainNode × PlainAttribute) Refusal → PlainTree
stepped_without tree name r = (on tree r (λ pair. (reply.Ok, marked pair.0.id (with_changed pair.0.id (without_attribute name) tree)))).1

abbrev pub stepped_with : PlainTree → List ℕ → List ℕ → Result PlainNode Refusal → PlainTree
stepped_with tree name value r = (on tree r (λ node. (reply.Ok, marked node.id (with_changed node.id (with_attribute name value) tree)))).1

-- a node is marked on a sound volume
pub marked_sound : (moment id : ℕ) (old new : VolumeState) → IsSoundVolume old → AreSorted old.catalog_pairs → (does : ChangesFields id (IsMarkedAlone moment) old new) → IsSoundVolume new
marked_sound moment id old new sound sorted does =
    closed old new _ sound (mark_account old old new no_debts id 0 0 (opened old sound sorted) does does.fields.marked.count (ap (λ n. n + 0) does.fields.special))
    (record { valences = λ n. refl; specials = λ reference file stands shared. refl; files = refl; folders = refl })

-- and its tree has that mark
pub marked_tree : (moment id : ℕ) (old new : VolumeState) (bytes_of : BytesOf) → AreBytesOf bytes_of → IsSoundVolume old → (does : ChangesFields id (IsMarkedAlone moment) old new)
    → tree_in new bytes_of ≡ with_changed id (redated moment) (tree_in old bytes_of)
marked_tree moment id old new bytes_of are sound does =
    fields_tree id old new does bytes_of are.by_fork (redated moment) (marked_views moment does.before does.after does.fields.marked) does.fields.marked.id ((sound_is_both old).0 sound).0

-- the catalog of a volume whose values have changed is as it was
pub sorted_still : {Changes : List Pair → List Pair → Type 0} (fresh freed : List ℕ) (old new : VolumeState) → InValues Changes fresh freed old new → AreSorted old.catalog_pairs → AreSorted new.catalog_pairs
sorted_still fresh freed old new does sorted = subst AreSorted (sym (ap (λ (v : VolumeState). v.catalog_pairs) does.rest)) sorted

-- the attributes of a volume with other fields in a node are as they were
pub attributes_still : {Changes : EntryFields → EntryFields → Type 0} (id : ℕ) (old new : VolumeState) → ChangesFields id Changes old new → attributes_of new ≡ attributes_of old
attributes_still id old new does = ap attributes_of does.changes.rest

-- one attribute without its blocks
pub attribute_bared : (id : ℕ) (name : List ℕ) (old new : VolumeState) → InValues (DropsAttribute id name) [] (value_blocks (attributes_of old) id name) old new → IsSoundVolume old → IsSoundVolume new
attribute_bared id name old new does sound = bared_sound (λ i n. (i == id) && bytes_eq n name) (value_blocks (attributes_of old) id name) old new (sym (named_blocks (attributes_of old) id name)) (as_gone does) sound
  where
    as_gone : InValues (DropsAttribute id name) [] (value_blocks (attributes_of old) id name) old new
        → InValues (λ before after. after ≡ kept (λ pair. not (((attribute_of pair).id == id) && bytes_eq (attribute_of pair).name name)) before) [] (value_blocks (attributes_of old) id name) old new
    as_gone has = record { changes = has.changes; are_fresh = has.are_fresh; flips = has.flips; nodes = has.nodes; free = has.free; next = has.next; counts = has.counts; rest = has.rest }

-- its attributes are those that were, without it
pub attribute_gone : (id : ℕ) (name : List ℕ) (old new : List Pair) → DropsAttribute id name old new → map attribute_of new ≡ kept (λ a. not ((a.id == id) && bytes_eq a.name name)) (map attribute_of old)
attribute_gone id name old new drops = ap (map attribute_of) drops ∙ kept_mapped attribute_of (λ a. not (is_attribute_of id name a)) old

pub delattr_law : DelAttrDoes
delattr_law path name node attribute old new bytes_of are sound allowed does =
    let bared = attribute_bared node.id name old does.bared does.bares sound in
    let left = attribute_gone node.id name old.attribute_pairs does.bared.attribute_pairs does.bares.changes in
    let is_it : ℕ → List ℕ → Bool = λ i n. (i == node.id) && bytes_eq n name in
    let still = attributes_still node.id does.bared new does.marks in (
      marked_sound old.head.modify_date node.id does.bared new bared (sorted_still [] (value_blocks (attributes_of old) node.id name) old does.bared does.bares does.sorted) does.marks,
      marked_tree old.head.modify_date node.id does.bared new bytes_of are bared does.marks
          ∙ ap (with_changed node.id (redated old.head.modify_date)) (bared_tree node.id name (value_blocks (attributes_of old) node.id name) old does.bared bytes_of does.bares)
          ∙ sym (marked_is node.id old.head.modify_date (with_changed node.id (without_attribute name) (tree_in old bytes_of)) (moment_is old bytes_of))
          ∙ sym (ap (λ r. stepped_without (tree_in old bytes_of) name r) allowed),
      subst (λ r. DropsValueBlocks name r old new) (sym allowed) (
        ap (λ l. value_blocks l node.id name) still ∙ blocks_gone is_it (attributes_of old) (attributes_of does.bared) left node.id name (itself node.id name),
        λ id other differs_it. ap (λ l. value_blocks l id other) still ∙ blocks_stay is_it (attributes_of old) (attributes_of does.bared) left id other differs_it,
      ),
    )

-- what a path and a value are set on
pub set_on : (volume : VolumeState) (bytes_of : BytesOf) (path : List (List ℕ)) (value : List ℕ) (node : PlainNode) → IsShaped volume → to_set (tree_in volume bytes_of) path value ≡ Ok node → HasOwner (records_of volume) node.id
set_on volume bytes_of path value node shaped allowed =
    let found = then_ok (to_node (tree_in volume bytes_of) path) (λ x. unless (nat_lt most_attribute (length value)) refusal.AttributeTooLarge x) node allowed in
    let same = (unless_ok (nat_lt most_attribute (length value)) refusal.AttributeTooLarge found.0 node found.2).1 in
    owner_of volume bytes_of shaped node (node_there (tree_in volume bytes_of) path node (found.1 ∙ ap Ok same))

-- a short value takes no block
short_takes_none : (block long : ℕ) → long ≤ longest_inline → 0 ≡ blocks_for_value block long
short_takes_none block long short = sym (ap (λ b. if b then parts_for long block else 0) (not_longer (nat_lt longest_inline long) refl))
  where
    not_longer : (b : Bool) → nat_lt longest_inline long ≡ b → b ≡ false
    not_longer true is = absurd (omega (arith, short, ltb-true longest_inline long is))
    not_longer false is = refl

pub setattr_law : SetAttrDoes
setattr_law path name value node old new bytes_of are sound named short allowed does =
    let bared = attribute_bared node.id name old does.bared does.bares sound in
    let sorted = sorted_still [] (value_blocks (attributes_of old) node.id name) old does.bared does.bares does.sorted in
    let owner = set_on old bytes_of path value node ((sound_is_both old).0 sound).0 allowed in
    let first = opened does.bared bared sorted in
    let each = each_with node.id name value does.bared does.added does.adds (subst (λ (v : VolumeState). HasOwner (records_of v) node.id) (sym does.bares.rest) owner) named first.shaped in
    let second = attributes_account does.bared does.added does.adds each (added_keeps node.id name value does.bared does.added does.adds) (added_blocks node.id name value does.bared does.added does.adds) does.bared no_debts first in
    let added : IsSoundVolume does.added = closed does.bared does.added no_debts bared second (record { valences = λ n. refl; specials = λ reference file stands shared. refl; files = refl; folders = refl }) in
    let left = attribute_gone node.id name old.attribute_pairs does.bared.attribute_pairs does.bares.changes in
    let is_it : ℕ → List ℕ → Bool = λ i n. (i == node.id) && bytes_eq n name in
    let with_it : (id : ℕ) (other : List ℕ) → value_blocks (attributes_of new) id other ≡ value_blocks (attributes_of does.bared) id other = λ id other.
    ap (λ l. value_blocks l id other) (attributes_still node.id does.added new does.marks)
    ∙ ap blocks_of (extents_with (record { id = node.id; name = name; start = 0; value = Inline value }) (value, refl) (attributes_of does.bared) (attributes_of does.added) (attribute_adds node.id name value does.bared does.added does.adds) id other) in (
      marked_sound old.head.modify_date node.id does.added new added second.sorted does.marks,
      marked_tree old.head.modify_date node.id does.added new bytes_of are added does.marks
          ∙ ap (with_changed node.id (redated old.head.modify_date))
          (added_tree node.id name value does.bared does.added bytes_of does.adds does.sorted_again second.shaped.attributes.values
          ∙ ap (with_changed node.id (λ n. record n { attributes = put_before plain_before (record { name = name; value = value }) n.attributes })) (bared_tree node.id name (value_blocks (attributes_of old) node.id name) old does.bared bytes_of does.bares)
          ∙ (λ i. record (tree_in old bytes_of) { nodes = twice node.id (without_attribute name) (λ n. record n { attributes = put_before plain_before (record { name = name; value = value }) n.attributes }) (λ n. refl) (tree_in old bytes_of).nodes i }))
          ∙ sym (marked_is node.id old.head.modify_date (with_changed node.id (with_attribute name value) (tree_in old bytes_of)) (moment_is old bytes_of))
          ∙ sym (ap (λ r. stepped_with (tree_in old bytes_of) name value r) allowed),
      subst (λ r. SetsValueBlocks name (length value) r old new) (sym allowed) (
        record {
          fresh = [];
          are_fresh = record { inside = does.bares.are_fresh.inside; free = does.bares.are_fresh.free; once = does.bares.are_fresh.once };
          many = short_takes_none old.head.block_size (length value) short;
          is = with_it node.id name ∙ blocks_gone is_it (attributes_of old) (attributes_of does.bared) left node.id name (itself node.id name);
        },
        λ id other differs_it. with_it id other ∙ blocks_stay is_it (attributes_of old) (attributes_of does.bared) left id other differs_it,
      ),
    )

-- ---- numbers of the header alone

numbers_sound : (head : VolumeHeader) (old : VolumeState) → IsSoundVolume old → IsGoodHeader old.sectors (with_numbers old.head head) → head.file_count ≡ old.head.file_count → head.folder_count ≡ old.head.folder_count → head.free_blocks ≡ old.head.free_blocks
    → head.next_catalog_id ≡ old.head.next_catalog_id → IsSoundVolume (with_header_numbers head old)
numbers_sound head old sound good files folders free next = (sound_is_both (with_header_numbers head old)).1 (
  numbered_shaped old head (omega (arith, next)) good ((sound_is_both old).0 sound).0,
  record {
    entries = record { valences = sound.entries.counts.valences; files = files ∙ sound.entries.counts.files; folders = ap (λ n. n + 1) folders ∙ sound.entries.counts.folders };
    links = sound.links.counts;
    bits = record {
      bits = λ block inside. sound.blocks.bits.bits block inside ∙ sym (ap (λ l. is_among l block) (used_numbered old head));
      free = (λ i. free i + count_used old.head.total_blocks (used_numbered old head i)) ∙ sound.blocks.bits.free;
    };
  },
)

pub remount_law : RemountKeeps
unfolding tree_in
remount_law head old bytes_of sound good is = (
  numbers_sound head old sound good is.files is.folders is.free is.next,
  λ i. record (tree_in old bytes_of) { next_id = is.next i; moment = is.moment i },
)

pub at_law : AtDoes
unfolding tree_in
at_law moment old bytes_of sound = (
  numbers_sound (record old.head { modify_date = moment }) old sound (record { accepted = sound.blocks.header.accepted; next_id = sound.blocks.header.next_id }) refl refl refl refl,
  refl,
)
