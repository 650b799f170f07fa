-- What a content's trees hold, and findings of its first ten rules.
use Rattle.std.proofs.Common.{◌≡◌, ◌≢◌, ◌⊎◌, ◌<◌, ◌≤◌, ℕ, zero, suc, ◌*◌, ◌/◌, Bool, true, false, not, List, [], ◌∷◌, length, map, get_or, inl, inr, refl, sym, ◌∙◌, ap, subst, arith, IsTrue}
use Rattle.std.specs.Prelude.{Contains, All, None, Some, Option, Result, Ok, Err, IfOk, MatchOption, slice_index_or, if◌then◌else◌}
use Rattle.std.specs.List.{AllByRecursion}
use Rattle.std.specs.Ordering.{is_lt}
use Rattle.std.specs.declared.cmp.Ordering.{Ordering}
use Rattle.std.specs.declared.cmp.Ordering.TheVariants.{Less}
use Rattle.std.proofs.lemmas.List.{get_or_default}
use Rattle.sector_disk.specs.Space.{Space}
use Rattle.jnl_format.specs.Recovery.{Content, header_of_volume}
use Rattle.volume_header.specs.declared.header.VolumeHeader.{VolumeHeader}
use Rattle.btree_file.specs.Frame.{ReadsSpace}
use Rattle.btree_node.specs.Keys.{IsCatalogKey, IsExtentKey, IsAttrKey, catalog_cmp, extent_cmp, attr_cmp, is_eight_extents, anything}
use Rattle.btree_node.specs.Levels.{Pair, Ascends, pair_of, key_of, entries, level, leaves}
use Rattle.btree_node.specs.Store.{Store}
use Rattle.btree_node.specs.Tree.{IsTree, pairs_of}
use Rattle.btree_node.specs.TreeFile.{TreeFile, TreeForm, IsTreeFile, store_of, extents_form, catalog_form, attributes_form}
use Rattle.fsck_list.specs.declared.finding.Finding.{Finding as Listed}
use Rattle.hfs_volume.specs.Blocks.{IsGoodHeader}
use Rattle.hfs_volume.specs.Broken.{Finding, want, node_place, AllMet, IsUnmet, IsBrokenTree, file_wants}
use Rattle.hfs_model.specs.Sorted.{IsInOrder}
use Rattle.hfs_volume.specs.Changes.{AreSorted, AreSortedAttributes, attribute_before}
use Rattle.hfs_volume.specs.Content.{volume_of, extents_file, catalog_file, attributes_file, has_attributes, overflow_of_content}
use Rattle.hfs_volume.specs.Forks.{extents_id, catalog_id, attributes_id}
use Rattle.hfs_volume.proofs.Ascending.{tree_sorted}
use Rattle.hfs_volume.proofs.Members.{all_of, each_of, map_cases}
use Rattle.fsck_core.specs.Overflows.{IsOverflowPair, overflows_in, overflows_of}
use Rattle.fsck_core.specs.declared.overflow.OverflowRow.{OverflowRow}
use Rattle.hfs_volume.specs.Findings.{HasBytes}
use Rattle.hfs_volume.specs.Records.{Attribute, Overflow, attribute_of}
use Rattle.std.proofs.lemmas.Bool.{true≢false, eq-eqb, ne_eqb}
use Rattle.fsck_core.specs.Attributes.{AreKeyed}
use Rattle.fsck_core.specs.Shown.{Shows, IsEarly, FindsEarly, IsBrokenHeader, HoldsExtents, HoldsCatalog, HoldsAttributes, HoldsTrees}
use Rattle.fsck_core.specs.Wants.{as_found}
use Rattle.fsck_core.specs.Judged.{Judged}
use Rattle.fsck_core.specs.Passed.{Passed}
use Rattle.fsck_core.specs.Flags.{AreBits}
use Rattle.fsck_core.specs.Lists.{AreLists}
use Rattle.fsck_core.specs.declared.lists.Lists.{Lists}
use Rattle.fsck_scan.specs.Form.{head_in, tree_in}
use Rattle.fsck_scan.specs.declared.form.Head.{Head}
use Rattle.hfs_volume.specs.Blocks.{HasFiles}
use Rattle.hfs_volume.specs.Content.{JournalPlace, journal_place, bit_in, bitmap_sectors}
use Rattle.hfs_volume.specs.Forks.{data_kind, extents_of}
use Rattle.hfs_volume.specs.Nodes.{HasTrees}
use Rattle.hfs_volume.proofs.HeaderWants.{files_hold}
use Rattle.hfs_volume.proofs.Wants.{first_met}
use Rattle.hx_bytes.specs.declared.extents.Extent.{Extent}
use Rattle.jnl_format.specs.Info.{info_of}
use Rattle.jnl_format.specs.Recovery.{sector, info_sector_of}
use Rattle.jnl_format.specs.declared.structures.Info.{Info}
use Rattle.std.proofs.lemmas.List.FromFn.{length-map-range_with_len}
use Rattle.fsck_core.proofs.Joining.{passed_both, passed_as, passed_judged}
use Rattle.fsck_core.proofs.Limits.{extents_lie, catalog_lies, attributes_lie}

-- ---- what is shown

pub shows_still : (a b : Space) (content : Content) → Shows a content → ReadsSpace a b → Shows b content
shows_still a b content shows reads = record {
  tells = reads.same.tells ∙ shows.tells;
  is = (reads.sectors shows.tells).content ∙ shows.is;
  bytes = shows.bytes;
  size = reads.same.sectors ∙ shows.size;
}

pub good_there : (space : Space) (content : Content) (head : VolumeHeader) → Shows space content → head ≡ header_of_volume content → IsGoodHeader space.sectors head → IsGoodHeader (length content) (header_of_volume content)
good_there space content head shows is good = subst (λ n. IsGoodHeader n (header_of_volume content)) shows.size (subst (λ (h : VolumeHeader). IsGoodHeader space.sectors h) is good)

pub good_still : (a b : Space) (head : VolumeHeader) → ReadsSpace a b → IsGoodHeader a.sectors head → IsGoodHeader b.sectors head
good_still a b head reads good = subst (λ n. IsGoodHeader n head) (sym reads.same.sectors) good

-- ---- the pairs of trees

-- the keys of a tree are keys
pub tree_keys : (is_key : List ℕ → Type 0) (cmp : List ℕ → List ℕ → Ordering) (store : Store) → IsTree is_key cmp store → All (λ (pair : Pair). is_key pair.0) (pairs_of store)
tree_keys is_key cmp store tree = all_of (λ (pair : Pair). is_key pair.0) (pairs_of store) (by_depth store.shape.depth refl)
  where
    by_depth : (depth : ℕ) → store.shape.depth ≡ depth → (pair : Pair) → Contains (leaves store.nodes store.shape.root depth) pair → is_key pair.0
    by_depth zero is pair stands = absurd (omega (arith, stands.1))
    by_depth (suc below) is pair stands =
        let xs = entries store.nodes (level store.nodes store.shape.root below) in
        let from = map_cases pair_of xs pair stands in
        let there : get_or xs from.1.0 [] ≡ from.0 = get_or_default xs from.1.0 [] from.0 from.1.1 ∙ from.1.2 in
        subst (λ (p : Pair). is_key p.0) (sym from.2) (subst (λ (l : List ℕ). is_key (key_of l)) there (tree.levels.keys below from.1.0 (omega (arith, is)) from.1.1))

pub overflow_pairs : (tree : TreeFile) → IsTreeFile extents_form IsExtentKey is_eight_extents extent_cmp tree → All IsOverflowPair (pairs_of (store_of tree))
overflow_pairs tree is = all_of IsOverflowPair (pairs_of (store_of tree)) (λ pair stands.
    let key = each_of (λ (p : Pair). IsExtentKey p.0) (pairs_of (store_of tree)) (tree_keys IsExtentKey extent_cmp (store_of tree) is.rules) pair stands in
    let value = each_of (λ (p : Pair). is_eight_extents p.1) (pairs_of (store_of tree)) is.values pair stands in
    record { key = key.long; value = value })

pub catalog_keys : (tree : TreeFile) → IsTreeFile catalog_form IsCatalogKey anything catalog_cmp tree → All (λ (pair : Pair). IsCatalogKey pair.0) (pairs_of (store_of tree))
catalog_keys tree is = tree_keys IsCatalogKey catalog_cmp (store_of tree) is.rules

pub catalog_sorted : (tree : TreeFile) → IsTreeFile catalog_form IsCatalogKey anything catalog_cmp tree → AreSorted (pairs_of (store_of tree))
catalog_sorted tree is = tree_sorted IsCatalogKey (store_of tree) is.rules

attribute_first : (x : List ℕ) (xs : List (List ℕ)) → ((j : ℕ) → j < length xs → attr_cmp (key_of x) (key_of (slice_index_or xs j [])) ≡ Less)
    → AllByRecursion (λ (later : Attribute). attribute_before (attribute_of (pair_of x)) later ≡ true) (map attribute_of (map pair_of xs))
unfolding attribute_of
attribute_first x [] before = tt
attribute_first x (y ∷ ys) before = (ap is_lt (before 0 (omega arith)), attribute_first x ys (λ j fits. before (suc j) (omega (arith, fits))))

attributes_rise : (xs : List (List ℕ)) → Ascends attr_cmp xs → IsInOrder attribute_before (map attribute_of (map pair_of xs))
attributes_rise [] rises = tt
attributes_rise (x ∷ xs) rises =
    (attribute_first x xs (λ j fits. rises 0 (suc j) (omega arith) (omega (arith, fits))), attributes_rise xs (λ i j before fits. rises (suc i) (suc j) (omega (arith, before)) (omega (arith, fits))))

attributes_sorted : (store : Store) → IsTree IsAttrKey attr_cmp store → AreSortedAttributes (pairs_of store)
attributes_sorted store tree = by_depth store.shape.depth refl
  where
    by_depth : (depth : ℕ) → store.shape.depth ≡ depth → AreSortedAttributes (leaves store.nodes store.shape.root depth)
    by_depth zero is = tt
    by_depth (suc below) is = attributes_rise (entries store.nodes (level store.nodes store.shape.root below)) (tree.ordered.ascends below (omega (arith, is)))

pub attributes_keyed : (content : Content) → (IsTrue (has_attributes (header_of_volume content)) → IsTreeFile attributes_form IsAttrKey anything attr_cmp (attributes_file content))
    → AreKeyed (if has_attributes (header_of_volume content) then pairs_of (store_of (attributes_file content)) else [])
attributes_keyed content is = by (has_attributes (header_of_volume content)) is
  where
    by : (b : Bool) → (IsTrue b → IsTreeFile attributes_form IsAttrKey anything attr_cmp (attributes_file content)) → AreKeyed (if b then pairs_of (store_of (attributes_file content)) else [])
    by true tree =
        let file = tree refl in record { keys = tree_keys IsAttrKey attr_cmp (store_of (attributes_file content)) file.rules; sorted = attributes_sorted (store_of (attributes_file content)) file.rules }
    by false tree = record { keys = all_of (λ (pair : Pair). IsAttrKey pair.0) [] (λ pair stands. absurd (omega (arith, stands.1))); sorted = tt }

-- ---- findings of the first ten rules

pub tree_low : (form : TreeForm) (is_key is_value : List ℕ → Type 0) (cmp : List ℕ → List ℕ → Ordering) (id : ℕ) (tree : TreeFile) (f : Finding) → IsBrokenTree form is_key is_value cmp id tree f → f.rule ≤ 7
tree_low form is_key is_value cmp id tree f (inl unmet) = let is : f.rule ≡ 4 = unmet.0 in omega (arith, is)
tree_low form is_key is_value cmp id tree f (inr (inl fails)) = let is : f.rule ≡ 5 = fails.0 in omega (arith, is)
tree_low form is_key is_value cmp id tree f (inr (inr (inl fails))) = let is : f.rule ≡ 6 = fails.0 in omega (arith, is)
tree_low form is_key is_value cmp id tree f (inr (inr (inr unmet))) = let is : f.rule ≡ 7 = unmet.0 in omega (arith, is)

module _ (content : Content) (f : Finding) where
  pub extents_early : IsBrokenTree extents_form IsExtentKey is_eight_extents extent_cmp extents_id (extents_file content) f → IsEarly content f
  extents_early broken = (inl (inl broken), tree_low extents_form IsExtentKey is_eight_extents extent_cmp extents_id (extents_file content) f broken)

  pub catalog_early : IsBrokenTree catalog_form IsCatalogKey anything catalog_cmp catalog_id (catalog_file content) f → IsEarly content f
  catalog_early broken = (inl (inr (inl broken)), tree_low catalog_form IsCatalogKey anything catalog_cmp catalog_id (catalog_file content) f broken)

  pub attributes_early : IsTrue (has_attributes (header_of_volume content)) → IsBrokenTree attributes_form IsAttrKey anything attr_cmp attributes_id (attributes_file content) f → IsEarly content f
  attributes_early has broken = (inl (inr (inr (inr (inr (has, inl broken))))), tree_low attributes_form IsAttrKey anything attr_cmp attributes_id (attributes_file content) f broken)

  pub compare_early : IsUnmet 4 f (want (node_place catalog_id 0) (catalog_file content).head.compare 0xBC ∷ []) → IsEarly content f
  compare_early unmet = (inl (inr (inr (inl unmet))), (let is : f.rule ≡ 4 = unmet.0 in omega (arith, is)))

  pub files_early : IsUnmet 3 f (file_wants (volume_of content)) → IsEarly content f
  files_early unmet = (inr (inr (inr (inr (inr (inl unmet))))), (let is : f.rule ≡ 3 = unmet.0 in omega (arith, is)))

  pub header_early : IsBrokenHeader (length content) (header_of_volume content) (volume_of content).alternate f → IsEarly content f
  unfolding volume_of
  header_early (inl unmet) = (inr (inr (inr (inl unmet))), (let is : f.rule ≡ 1 = unmet.0 in omega (arith, is)))
  header_early (inr unmet) = (inr (inr (inr (inr (inl unmet)))), (let is : f.rule ≡ 2 = unmet.0 in omega (arith, is)))

-- ---- a content that is shown

pub bytes_back : (space : Space) (content : Content) → Shows space content → HasBytes space.content
bytes_back space content shows = subst (λ (ct : Content). HasBytes ct) (sym shows.is) shows.bytes

pub head_back : (space : Space) (content : Content) (head : VolumeHeader) → Shows space content → head ≡ header_of_volume content → head ≡ header_of_volume space.content
head_back space content head shows is = is ∙ ap (λ (ct : Content). header_of_volume ct) (sym shows.is)

pub overflow_back : (space : Space) (content : Content) (overflow : List Overflow) → Shows space content → overflow ≡ overflow_of_content content → overflow ≡ overflow_of_content space.content
overflow_back space content overflow shows is = is ∙ ap (λ (ct : Content). overflow_of_content ct) (sym shows.is)

-- the overflow records that a tree's pairs spell
pub extents_held : (space : Space) (content : Content) (pairs : List Pair) (rows : List OverflowRow) (out : List Listed) → Shows space content
    → IsTreeFile extents_form IsExtentKey is_eight_extents extent_cmp (extents_file space.content) × (pairs ≡ pairs_of (store_of (extents_file space.content))) × (out ≡ [])
    → (All IsOverflowPair pairs → overflows_in rows ≡ overflows_of pairs) → HoldsExtents content rows
unfolding overflow_of_content
extents_held space content pairs rows out shows found reads =
    subst (λ (ct : Content). HoldsExtents ct rows) shows.is
    (record { tree = found.0; rows_are = reads (subst (λ (l : List Pair). All IsOverflowPair l) (sym found.1) (overflow_pairs (extents_file space.content) found.0)) ∙ ap (λ (l : List Pair). overflows_of l) found.1 })

pub catalog_held : (space : Space) (content : Content) (pairs : List Pair) (out : List Listed) → Shows space content
    → IsTreeFile catalog_form IsCatalogKey anything catalog_cmp (catalog_file space.content) × (pairs ≡ pairs_of (store_of (catalog_file space.content))) × (out ≡ []) → HoldsCatalog content pairs
catalog_held space content pairs out shows found = subst (λ (ct : Content). HoldsCatalog ct pairs) shows.is (record { tree = found.0; pairs_are = found.1 })

-- a volume with an attributes file, or without
pub attributes_held : (space : Space) (content : Content) (pairs : List Pair) (out : List Listed) → Shows space content → has_attributes (header_of_volume content) ≡ true
    → IsTreeFile attributes_form IsAttrKey anything attr_cmp (attributes_file space.content) × (pairs ≡ pairs_of (store_of (attributes_file space.content))) × (out ≡ []) → HoldsAttributes content pairs
attributes_held space content pairs out shows has found = record {
  tree = λ _. subst (λ (ct : Content). IsTreeFile attributes_form IsAttrKey anything attr_cmp (attributes_file ct)) shows.is found.0;
  pairs_are = found.1 ∙ (λ i. pairs_of (store_of (attributes_file (shows.is i)))) ∙ sym (ap (λ b. if b then pairs_of (store_of (attributes_file content)) else []) has);
}

pub no_attributes_held : (content : Content) (pairs : List Pair) → pairs ≡ [] → has_attributes (header_of_volume content) ≡ false → HoldsAttributes content pairs
no_attributes_held content pairs none has = record {
  tree = λ yes. absurd (true≢false (sym yes ∙ has));
  pairs_are = none ∙ sym (ap (λ b. if b then pairs_of (store_of (attributes_file content)) else []) has);
}

pub extents_find_early : (space : Space) (content : Content) (out : List Listed) → Shows space content
    → ((f : Listed) → Contains out f → IsBrokenTree extents_form IsExtentKey is_eight_extents extent_cmp extents_id (extents_file space.content) (as_found f)) → FindsEarly content out
extents_find_early space content out shows each f stands =
    extents_early content (as_found f) (subst (λ (ct : Content). IsBrokenTree extents_form IsExtentKey is_eight_extents extent_cmp extents_id (extents_file ct) (as_found f)) shows.is (each f stands))

pub catalog_find_early : (space : Space) (content : Content) (out : List Listed) → Shows space content
    → ((f : Listed) → Contains out f → IsBrokenTree catalog_form IsCatalogKey anything catalog_cmp catalog_id (catalog_file space.content) (as_found f)) → FindsEarly content out
catalog_find_early space content out shows each f stands =
    catalog_early content (as_found f) (subst (λ (ct : Content). IsBrokenTree catalog_form IsCatalogKey anything catalog_cmp catalog_id (catalog_file ct) (as_found f)) shows.is (each f stands))

pub attributes_find_early : (space : Space) (content : Content) (out : List Listed) → Shows space content → IsTrue (has_attributes (header_of_volume content))
    → ((f : Listed) → Contains out f → IsBrokenTree attributes_form IsAttrKey anything attr_cmp attributes_id (attributes_file space.content) (as_found f)) → FindsEarly content out
attributes_find_early space content out shows has each f stands =
    attributes_early content (as_found f) has (subst (λ (ct : Content). IsBrokenTree attributes_form IsAttrKey anything attr_cmp attributes_id (attributes_file ct) (as_found f)) shows.is (each f stands))

pub none_early : (content : Content) (out : List Listed) → out ≡ [] → FindsEarly content out
none_early content out none f stands = absurd (let there : Contains [] f = subst (λ (l : List Listed). Contains l f) none stands in omega (arith, there.1))

-- findings of the first ten rules, one list after the other
pub still_early : (content : Content) (Broken : Finding → Type 0) (old new : List Listed) → old ≡ [] → ((f : Finding) → Broken f → IsEarly content f) → ((f : Listed) → Contains new f → Contains old f ⊎ Broken (as_found f)) → FindsEarly content new
still_early content Broken old new none early each f stands = elim (each f stands) [
  | inl before ↦ none_early content old none f before
  | inr broken ↦ early (as_found f) broken
]

-- a header says whether there is an attributes file
pub has_them : (content : Content) (head : VolumeHeader) → head ≡ header_of_volume content → head.attributes_fork.logical_size ≢ 0 → has_attributes (header_of_volume content) ≡ true
has_them content head is some = subst (λ (h : VolumeHeader). has_attributes h ≡ true) is (ap not (ne_eqb head.attributes_fork.logical_size 0 some))

pub has_none : (content : Content) (head : VolumeHeader) → head ≡ header_of_volume content → head.attributes_fork.logical_size ≡ 0 → has_attributes (header_of_volume content) ≡ false
has_none content head is none = subst (λ (h : VolumeHeader). has_attributes h ≡ false) is (ap not (eq-eqb head.attributes_fork.logical_size 0 none))

-- what a scan of the attributes file gives
pub attributes_found : {E : Type 0} (space : Space) (content : Content) (result : Result (Option (List Pair)) E) (out : List Listed) → Shows space content → has_attributes (header_of_volume content) ≡ true
    → IfOk result (λ o. MatchOption o (0 < length out) (λ pairs. IsTreeFile attributes_form IsAttrKey anything attr_cmp (attributes_file space.content) × (pairs ≡ pairs_of (store_of (attributes_file space.content))) × (out ≡ [])))
    → IfOk result (λ o. MatchOption o (0 < length out) (λ pairs. HoldsAttributes content pairs))
attributes_found space content (Err e) out shows has found = tt
attributes_found space content (Ok None) out shows has found = found
attributes_found space content (Ok (Some pairs)) out shows has found = attributes_held space content pairs out shows has found

pub attributes_found_early : {E : Type 0} (space : Space) (content : Content) (result : Result (Option (List Pair)) E) (out : List Listed) → Shows space content → has_attributes (header_of_volume content) ≡ true
    → ((f : Listed) → Contains out f → IsBrokenTree attributes_form IsAttrKey anything attr_cmp attributes_id (attributes_file space.content) (as_found f)) → IfOk result (λ _. FindsEarly content out)
attributes_found_early space content (Err e) out shows has each = tt
attributes_found_early space content (Ok o) out shows has each = attributes_find_early space content out shows has each

-- ---- where the trees lie

pub extents_there : (space : Space) (content : Content) (head : VolumeHeader) (fork : List Extent) → Shows space content → IsGoodHeader space.sectors head → head ≡ header_of_volume content → fork ≡ extents_of [] extents_id data_kind head.extents_fork
    → tree_in space.content space.sectors head.block_size fork ≡ extents_file content
extents_there space content head fork shows good is fork_is =
    let lies : fork ≡ extents_of [] extents_id data_kind (header_of_volume content).extents_fork = fork_is ∙ (λ i. extents_of [] extents_id data_kind (is i).extents_fork) in
    (λ i. tree_in (shows.is i) (shows.size i) (is i).block_size (lies i)) ∙ extents_lie content (good_there space content head shows is good)

pub catalog_there : (space : Space) (content : Content) (head : VolumeHeader) (overflow : List Overflow) (fork : List Extent) → Shows space content → IsGoodHeader space.sectors head → head ≡ header_of_volume content → overflow ≡ overflow_of_content content
    → fork ≡ extents_of overflow catalog_id data_kind head.catalog_fork → tree_in space.content space.sectors head.block_size fork ≡ catalog_file content
catalog_there space content head overflow fork shows good is overflow_is fork_is =
    let lies : fork ≡ extents_of (overflow_of_content content) catalog_id data_kind (header_of_volume content).catalog_fork = fork_is ∙ (λ i. extents_of (overflow_is i) catalog_id data_kind (is i).catalog_fork) in
    (λ i. tree_in (shows.is i) (shows.size i) (is i).block_size (lies i)) ∙ catalog_lies content (good_there space content head shows is good)

pub attributes_there : (space : Space) (content : Content) (head : VolumeHeader) (overflow : List Overflow) (fork : List Extent) → Shows space content → IsGoodHeader space.sectors head → head ≡ header_of_volume content → overflow ≡ overflow_of_content content
    → fork ≡ extents_of overflow attributes_id data_kind head.attributes_fork → tree_in space.content space.sectors head.block_size fork ≡ attributes_file content
attributes_there space content head overflow fork shows good is overflow_is fork_is =
    let lies : fork ≡ extents_of (overflow_of_content content) attributes_id data_kind (header_of_volume content).attributes_fork = fork_is ∙ (λ i. extents_of (overflow_is i) attributes_id data_kind (is i).attributes_fork) in
    (λ i. tree_in (shows.is i) (shows.size i) (is i).block_size (lies i)) ∙ attributes_lie content (good_there space content head shows is good)

pub head_told : {E : Type 0} (result : Result Head E) (one other : TreeFile) → one ≡ other → IfOk result (λ tree. head_in tree ≡ one.head) → IfOk result (λ tree. head_in tree ≡ other.head)
head_told (Err e) one other same told = tt
head_told (Ok tree) one other same told = told ∙ ap (λ (t : TreeFile). t.head) same

-- the lists that were read are those of the volume
pub lists_there : (content : Content) (lists : Lists) → HoldsTrees content lists.overflow.items lists.catalog lists.attributes → lists.sectors ≡ length content → lists.head ≡ header_of_volume content
    → (volume_of content).journal ≡ record { offset = lists.info.offset; size = lists.info.size } → AreBits (volume_of content) lists.flags → AreLists (volume_of content) lists
unfolding volume_of overflow_of_content
lists_there content lists trees sectors head journal flags = record {
  sectors = sectors;
  head = head;
  journal = journal;
  overflow = trees.of_extents.rows_are;
  catalog = trees.of_catalog.pairs_are;
  attributes = trees.of_attributes.pairs_are;
  flags = flags;
  keys = subst (λ (l : List Pair). All (λ (pair : Pair). IsCatalogKey pair.0) l) (sym trees.of_catalog.pairs_are) (catalog_keys (catalog_file content) trees.of_catalog.tree);
  sorted = subst (λ (l : List Pair). AreSorted l) (sym trees.of_catalog.pairs_are) (catalog_sorted (catalog_file content) trees.of_catalog.tree);
  keyed = subst (λ (l : List Pair). AreKeyed l) (sym trees.of_attributes.pairs_are) (attributes_keyed content trees.of_attributes.tree);
}

pub trees_there : (content : Content) (rows : List OverflowRow) (catalog attributes : List Pair) → HoldsTrees content rows catalog attributes → (catalog_file content).head.compare ≡ 0xBC → HasTrees content
trees_there content rows catalog attributes trees compare = record { extents = trees.of_extents.tree; catalog = trees.of_catalog.tree; compare = compare; attributes = trees.of_attributes.tree }

pub journal_there : (space : Space) (content : Content) (head : VolumeHeader) (at : ℕ) (bytes : List ℕ) (info : Info) → Shows space content → head ≡ header_of_volume content → at ≡ head.journal_info_block * (head.block_size / 512) → bytes ≡ sector space.content at → info ≡ info_of bytes
    → (volume_of content).journal ≡ record { offset = info.offset; size = info.size }
unfolding volume_of
journal_there space content head at bytes info shows head_is at_is bytes_are is =
    sym (ap (λ (i : Info). journal_of i) is ∙ ap (λ b. journal_place b) (bytes_are ∙ (λ i. sector (shows.is i) (at_is i)) ∙ ap (λ (h : VolumeHeader). sector content (info_sector_of h)) head_is))
  where
    journal_of : Info → JournalPlace
    journal_of i = record { offset = i.offset; size = i.size }

-- the allocation file has so many bits
bits_few : (content : Content) → length (volume_of content).bits ≤ 8 * (volume_of content).head.allocation_fork.logical_size
unfolding volume_of
bits_few content = omega (arith, length-map-range_with_len (bit_in content (bitmap_sectors content)) 0 (8 * (header_of_volume content).allocation_fork.logical_size))

-- rules 3 and 4 of the special files
pub specials_passed : (content : Content) (old mid new : List Listed) (one other : Bool) → Judged 3 (file_wants (volume_of content)) old mid one → Judged 4 (want (node_place catalog_id 0) (catalog_file content).head.compare 0xBC ∷ []) mid new other
    → Passed (IsEarly content) (HasFiles (volume_of content) × ((catalog_file content).head.compare ≡ 0xBC)) old new
specials_passed content old mid new one other files compare =
    passed_both (IsEarly content) (HasFiles (volume_of content)) ((catalog_file content).head.compare ≡ 0xBC) old mid new
    (passed_as (IsEarly content) (AllMet (file_wants (volume_of content))) (HasFiles (volume_of content)) old mid (files_hold (volume_of content) (bits_few content))
    (passed_judged (IsEarly content) 3 (file_wants (volume_of content)) old mid one (files_early content) files))
    (passed_as (IsEarly content) (AllMet (want (node_place catalog_id 0) (catalog_file content).head.compare 0xBC ∷ [])) ((catalog_file content).head.compare ≡ 0xBC) mid new
    (λ met. first_met (want (node_place catalog_id 0) (catalog_file content).head.compare 0xBC) [] met)
    (passed_judged (IsEarly content) 4 (want (node_place catalog_id 0) (catalog_file content).head.compare 0xBC ∷ []) mid new other (compare_early content) compare))

-- rule 3 gives a bit for each block
pub bits_fit : (content : Content) (head : VolumeHeader) → head ≡ header_of_volume content → HasFiles (volume_of content) → head.total_blocks ≤ 8 * head.allocation_fork.logical_size
unfolding volume_of
bits_fit content head is files = subst (λ (h : VolumeHeader). h.total_blocks ≤ 8 * h.allocation_fork.logical_size) (sym is) files.bits

-- lists of trees that keep their rules
pub lists_told : {E : Type 0} (content : Content) (rows : List OverflowRow) (catalog attributes : List Pair) (result : Result (Option Lists) E) (out : List Listed) → HoldsTrees content rows catalog attributes
    → IfOk result (λ o. MatchOption o (0 < length out) (λ lists. AreLists (volume_of content) lists × (HasFiles (volume_of content) × ((catalog_file content).head.compare ≡ 0xBC))))
    → IfOk result (λ o. MatchOption o (0 < length out) (λ lists. AreLists (volume_of content) lists × (HasFiles (volume_of content) × HasTrees content)))
lists_told content rows catalog attributes (Err e) out trees found = tt
lists_told content rows catalog attributes (Ok None) out trees found = found
lists_told content rows catalog attributes (Ok (Some lists)) out trees found = (found.0, (found.1.0, trees_there content rows catalog attributes trees found.1.1))

pub shows_first : (space : Space) → IsTrue space.tells → HasBytes space.content → length space.content ≡ space.sectors → Shows space space.content
shows_first space tells bytes size = record { tells = tells; is = refl; bytes = bytes; size = sym size }
