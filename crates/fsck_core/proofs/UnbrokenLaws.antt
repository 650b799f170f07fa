-- A rule that holds has no finding, each by itself.
use Rattle.std.proofs.Common.{◌≡◌, ◌≢◌, ◌⊎◌, ◌<◌, ◌≤◌, ℕ, ◌+◌, ◌-◌, ◌*◌, ◌/◌, ap, Bool, true, false, List, [], ◌∷◌, ◌++◌, length, inl, inr, refl, sym, ◌∙◌, subst, arith, T, IsTrue}
use Rattle.std.specs.Prelude.{Contains, All}
use Rattle.std.proofs.Math.Nat.{mul-div_cancel}
use Rattle.std.specs.List.{flat_map}
use Rattle.std.proofs.lemmas.List.Elements.{Contains-append_cases}
use Rattle.alloc_bitmap.specs.Apart.{AreApart}
use Rattle.jnl_format.specs.Recovery.{Content, header_of_volume}
use Rattle.btree_node.specs.Keys.{IsCatalogKey, IsExtentKey, IsAttrKey, catalog_cmp, extent_cmp, attr_cmp, is_eight_extents, anything}
use Rattle.btree_node.specs.Levels.{Pair}
use Rattle.btree_node.specs.Node.{IsNodeSize}
use Rattle.btree_node.specs.TreeFile.{TreeFile, extents_form, catalog_form, attributes_form}
use Rattle.cat_records.specs.Records.{is_catalog}
use Rattle.cat_records.specs.declared.attribute.AttrRecord.{AttrRecord}
use Rattle.cat_records.specs.declared.attribute.AttrRecord.TheVariants as attribute
use Rattle.hx_bytes.specs.declared.extents.ForkRecord.{ForkRecord}
use Rattle.hfs_volume.specs.Records.{Placed, Attribute, Overflow, placed_of, placed_in, entries_of, is_thread, is_empty, is_folder, attribute_of}
use Rattle.hfs_volume.specs.Entries.{AreSpelled, AreThreaded, AreRooted, HasThread, IsRoot, LiesIn}
use Rattle.hfs_volume.specs.Links.{AreLinks}
use Rattle.hfs_volume.specs.Attributes.{IsAttribute}
use Rattle.hfs_volume.specs.Values.{IsValue, extents_in}
use Rattle.hfs_volume.specs.Forks.{extents_id, catalog_id, attributes_id}
use Rattle.hfs_volume.specs.Nodes.{HasTrees}
use Rattle.hfs_volume.specs.Blocks.{IsGoodHeader, AgreesWith, HasFiles, GoesOn, GoOnBad, HasFork, HasValueSizes, FitsIn, forks_of, used_in}
use Rattle.hfs_volume.specs.Content.{VolumeState, volume_of, records_of, overflow_in_volume, attributes_of, extents_file, catalog_file, attributes_file, has_attributes}
use Rattle.hfs_volume.specs.Broken.{Finding, Want, want, AllMet, IsUnmet, IsFailed, node_place, header_wants, alternate_wants, file_wants, use_wants, link_wants, fit_wants, extent_wants, value_wants, total_wants, FailsKind, FailsThread, FailsParent, FailsLink, FailsAttribute, FailsOverflow, IsBrokenTree, IsBrokenNode}
use Rattle.hfs_volume.proofs.Members.{all_of, each_of, in_one, map_stands}
use Rattle.hfs_volume.proofs.Wants.{met_no_finding, met_each, each_met}
use Rattle.hfs_volume.proofs.EntryWants.{flat_cases}
use Rattle.hfs_volume.proofs.BlockWants.{inside_met, once_met, alternate_met}
use Rattle.hfs_volume.proofs.HeaderWants.{header_met, files_met}
use Rattle.hfs_volume.proofs.LinkWants.{counts_met}
use Rattle.hfs_volume.proofs.Sounding.{contains_map}
use Rattle.hfs_volume.proofs.TreeUnbroken.{tree_is_unbroken}
use Rattle.fsck_core.specs.Attributes.{KeepsAttributes, IsBrokenOfNames}
use Rattle.fsck_core.specs.Links.{IsBrokenName}

-- ---- the catalog (rules 8 to 10)

module _ (pairs : List Pair) where
  pub kind_unbroken : AreSpelled pairs → All (λ (placed : Placed). is_thread placed.value ≡ is_empty placed.name) (placed_in pairs) → (f : Finding) → IsFailed 8 f (FailsKind pairs) → ⊥
  kind_unbroken spelled kinds f fails = at f.place fails.3
    where
      at : (place : ℕ) → FailsKind pairs place → ⊥
      at place (pair, stands, is, wrong) = elim wrong [
        | inl unspelled ↦ unspelled (all_of (λ (p : Pair). IsTrue (is_catalog p.1)) (pair ∷ []) (λ p one. subst (λ (q : Pair). IsTrue (is_catalog q.1)) (sym (in_one pair p one)) (each_of (λ (q : Pair). IsTrue (is_catalog q.1)) pairs spelled pair stands)))
        | inr differs ↦ differs (each_of (λ (p : Placed). is_thread p.value ≡ is_empty p.name) (placed_in pairs) kinds (placed_of pair) (contains_map placed_of pairs pair stands))
      ]

  pub thread_unbroken : AreThreaded pairs → (f : Finding) → IsFailed 9 f (FailsThread (placed_in pairs)) → ⊥
  thread_unbroken threads f fails = at f.place fails.3
    where
      at : (place : ℕ) → FailsThread (placed_in pairs) place → ⊥
      at place (inl (entry, stands, is, without)) = without (each_of (HasThread (placed_in pairs)) (entries_of (placed_in pairs)) threads.threaded entry stands)
      at place (inr (placed, thread, stands, value, is, without)) = let found = threads.named placed thread stands value in without found.0 found.1 (found.2 ∙ is) found.3

  pub parent_unbroken : AreRooted (entries_of (placed_in pairs)) → (f : Finding) → IsFailed 10 f (FailsParent (entries_of (placed_in pairs))) → ⊥
  parent_unbroken rooted f fails = at f.place fails.3
    where
      at : (place : ℕ) → FailsParent (entries_of (placed_in pairs)) place → ⊥
      at place (inl (is, none)) = none rooted.root.0 rooted.root.1 rooted.root.2
      at place (inr (placed, stands, is, no_root, no_way)) = elim (each_of (λ p. IsRoot p ⊎ LiesIn (entries_of (placed_in pairs)) 2 p.parent) (entries_of (placed_in pairs)) rooted.each placed stands) [
        | inl root ↦ no_root root
        | inr lies ↦ no_way lies
      ]

-- ---- blocks, links and attributes (rules 16 to 20)

module _ (volume : VolumeState) where
  pub use_unbroken : AreApart (used_in volume) → (f : Finding) → IsUnmet 18 f (use_wants volume) → ⊥
  use_unbroken apart f unmet = met_no_finding 18 (use_wants volume) f (once_met volume apart) unmet

  pub overflow_unbroken : All (GoesOn (overflow_in_volume volume)) (forks_of volume) × (GoOnBad (overflow_in_volume volume) × All (HasFork (forks_of volume)) (overflow_in_volume volume)) → (f : Finding) → IsFailed 17 f (FailsOverflow volume) → ⊥
  overflow_unbroken holds f fails = at f.place fails.3
    where
      at : (place : ℕ) → FailsOverflow volume place → ⊥
      at place (inl (owned, stands, is, bad)) = bad (each_of (GoesOn (overflow_in_volume volume)) (forks_of volume) holds.0 owned stands)
      at place (inr (inl (is, bad))) = bad holds.1.0
      at place (inr (inr (m, stands, is, bad))) = bad (each_of (HasFork (forks_of volume)) (overflow_in_volume volume) holds.1.1 m stands)

  false_folder : (placed : Placed) → is_folder placed.value ≡ true → is_folder placed.value ≡ false → ⊥
  false_folder placed is never = subst T (sym (sym never ∙ is)) tt

  pub link_unbroken : AreLinks (records_of volume) (overflow_in_volume volume) → (f : Finding) → IsBrokenName volume f → ⊥
  link_unbroken links f (inl count) = met_no_finding 19 (flat_map (link_wants (records_of volume)) (entries_of (records_of volume))) f (counts_met (records_of volume) (overflow_in_volume volume) links.counts) count
  link_unbroken links f (inr fails) = at f.place fails.3
    where
      at : (place : ℕ) → FailsLink volume place → ⊥
      at place (inl (placed, stands, is, link, bad)) = bad (links.good.links placed stands link)
      at place (inr (placed, is, same, never)) = false_folder placed (links.good.private_folder placed is) never

  fits_met : (record_ : Attribute) (value : AttrRecord) → FitsIn volume.head.block_size (attributes_of volume) record_ value → AllMet (fit_wants volume record_ value)
  fits_met record_ (attribute.Inline bytes) has = met_each (fit_wants volume record_ (attribute.Inline bytes)) tt
  fits_met record_ (attribute.Fork fork) has = met_each (fit_wants volume record_ (attribute.Fork fork)) (sym has.0, ((let most = has.1 in omega (arith, most)), tt))
  fits_met record_ (attribute.More extents) has = met_each (fit_wants volume record_ (attribute.More extents)) tt

  values_met : All (HasValueSizes volume.head.total_blocks volume.head.block_size (attributes_of volume)) (attributes_of volume) → AllMet (flat_map (value_wants volume) (attributes_of volume))
  values_met sizes = all_of (λ (w : Want). w.found ≡ w.wanted) (flat_map (value_wants volume) (attributes_of volume)) (λ w stands. of_record w (flat_cases (value_wants volume) (attributes_of volume) w stands))
    where
      of_record : (w : Want) → (record_ : Attribute) × Contains (attributes_of volume) record_ × Contains (value_wants volume record_) w → w.found ≡ w.wanted
      of_record w (record_, stands, there) =
          let has = each_of (HasValueSizes volume.head.total_blocks volume.head.block_size (attributes_of volume)) (attributes_of volume) sizes record_ stands in
          elim (Contains-append_cases (fit_wants volume record_ record_.value) (extent_wants record_.id volume.head.total_blocks (extents_in record_.value)) w there) [
            | inl early ↦ each_of (λ (v : Want). v.found ≡ v.wanted) (fit_wants volume record_ record_.value) (fits_met record_ record_.value has.fits) w early
            | inr late ↦ each_of (λ (v : Want). v.found ≡ v.wanted) (extent_wants record_.id volume.head.total_blocks (extents_in record_.value)) (inside_met record_.id volume.head.total_blocks (extents_in record_.value) has.inside) w late
          ]

  pub attribute_unbroken : KeepsAttributes volume → (f : Finding) → IsBrokenOfNames volume f → ⊥
  attribute_unbroken keeps f (inr unmet) = met_no_finding 16 (flat_map (value_wants volume) (attributes_of volume)) f (values_met keeps.sizes) unmet
  attribute_unbroken keeps f (inl fails) = at f.place fails.3
    where
      at : (place : ℕ) → FailsAttribute volume place → ⊥
      at place (inl (pair, stands, is, inl bad)) = bad (each_of (IsAttribute (records_of volume)) volume.attribute_pairs keeps.attributes.each pair stands)
      at place (inl (pair, stands, is, inr bad)) = bad (each_of (IsValue (attributes_of volume)) (attributes_of volume) keeps.attributes.values (attribute_of pair) (map_stands attribute_of volume.attribute_pairs pair stands))
      at place (inr (inl (is, bad))) = bad keeps.attributes.journal
      at place (inr (inr (is, bad))) = bad keeps.attributes.info_block

-- ---- the header, the special files and the trees (rules 1 to 7)

some_size : (n : ℕ) → IsNodeSize n → 0 < n
some_size n (inl same) = omega (arith, same)
some_size n (inr (inl same)) = omega (arith, same)
some_size n (inr (inr (inl same))) = omega (arith, same)
some_size n (inr (inr (inr (inl same)))) = omega (arith, same)
some_size n (inr (inr (inr (inr (inl same))))) = omega (arith, same)
some_size n (inr (inr (inr (inr (inr (inl same)))))) = omega (arith, same)
some_size n (inr (inr (inr (inr (inr (inr same)))))) = omega (arith, same)

total_met : (id : ℕ) (fork : ForkRecord) (tree : TreeFile) → IsNodeSize tree.head.node_size → fork.logical_size ≡ tree.head.total * tree.head.node_size → AllMet (total_wants id fork tree)
total_met id fork tree size is = met_each (total_wants id fork tree) (sym (ap (λ n. n / tree.head.node_size) is ∙ mul-div_cancel tree.head.total (some_size tree.head.node_size size)), tt)

catalog_long : (key : List ℕ) → IsCatalogKey key → length key + 4 ≤ 4096 / 2 - 10
catalog_long key is = let own = is.size in let name = is.name in let most = is.most in omega (arith, own, name, most)

attr_long : (key : List ℕ) → IsAttrKey key → length key + 4 ≤ 4096 / 2 - 10
attr_long key is = let own = is.size in let name = is.name in let most = is.most in omega (arith, own, name, most)

extent_long : (key : List ℕ) → IsExtentKey key → length key + 4 ≤ 512 / 2 - 10
extent_long key is = let long = is.long in omega (arith, long)

module _ (content : Content) (files : HasFiles (volume_of content)) (trees : HasTrees content) where
  extents_unbroken : (f : Finding) → IsBrokenTree extents_form IsExtentKey is_eight_extents extent_cmp extents_id (extents_file content) f → ⊥
  extents_unbroken = tree_is_unbroken extents_form IsExtentKey is_eight_extents extent_cmp extents_id (extents_file content) trees.extents (λ key is. let long = is.long in omega (arith, long)) (λ key is. let long = is.long in let own = is.size in omega (arith, long, own)) extent_long

  catalog_unbroken : (f : Finding) → IsBrokenTree catalog_form IsCatalogKey anything catalog_cmp catalog_id (catalog_file content) f → ⊥
  catalog_unbroken = tree_is_unbroken catalog_form IsCatalogKey anything catalog_cmp catalog_id (catalog_file content) trees.catalog (λ key is. let long = is.long in omega (arith, long)) (λ key is. is.size) catalog_long

  attributes_unbroken : IsTrue (has_attributes (header_of_volume content)) → (f : Finding) → IsBrokenTree attributes_form IsAttrKey anything attr_cmp attributes_id (attributes_file content) f → ⊥
  attributes_unbroken has = tree_is_unbroken attributes_form IsAttrKey anything attr_cmp attributes_id (attributes_file content) (trees.attributes has) (λ key is. let long = is.long in omega (arith, long)) (λ key is. is.size) attr_long

  extents_total : AllMet (total_wants extents_id (header_of_volume content).extents_fork (extents_file content))
  unfolding volume_of
  extents_total = total_met extents_id (header_of_volume content).extents_fork (extents_file content) trees.extents.has_form.size files.extents.nodes

  catalog_total : AllMet (total_wants catalog_id (header_of_volume content).catalog_fork (catalog_file content))
  unfolding volume_of
  catalog_total = total_met catalog_id (header_of_volume content).catalog_fork (catalog_file content) trees.catalog.has_form.size files.catalog.nodes

  attributes_total : IsTrue (has_attributes (header_of_volume content)) → AllMet (total_wants attributes_id (header_of_volume content).attributes_fork (attributes_file content))
  unfolding volume_of
  attributes_total has = total_met attributes_id (header_of_volume content).attributes_fork (attributes_file content) (trees.attributes has).has_form.size (files.attributes has).nodes

  pub nodes_unbroken : (f : Finding) → IsBrokenNode content f → ⊥
  nodes_unbroken f (inl extents) = extents_unbroken f extents
  nodes_unbroken f (inr (inl catalog)) = catalog_unbroken f catalog
  nodes_unbroken f (inr (inr (inl compare))) = met_no_finding 4 (want (node_place catalog_id 0) (catalog_file content).head.compare 0xBC ∷ []) f (met_each (want (node_place catalog_id 0) (catalog_file content).head.compare 0xBC ∷ []) (trees.compare, tt)) compare
  nodes_unbroken f (inr (inr (inr (inl totals)))) =
      met_no_finding 4 (total_wants extents_id (header_of_volume content).extents_fork (extents_file content) ++ total_wants catalog_id (header_of_volume content).catalog_fork (catalog_file content)) f
      (met_each (total_wants extents_id (header_of_volume content).extents_fork (extents_file content) ++ total_wants catalog_id (header_of_volume content).catalog_fork (catalog_file content))
      ((each_met (total_wants extents_id (header_of_volume content).extents_fork (extents_file content)) extents_total).0, ((each_met (total_wants catalog_id (header_of_volume content).catalog_fork (catalog_file content)) catalog_total).0, tt))) totals
  nodes_unbroken f (inr (inr (inr (inr (has, inl attributes))))) = attributes_unbroken has f attributes
  nodes_unbroken f (inr (inr (inr (inr (has, inr total))))) = met_no_finding 4 (total_wants attributes_id (header_of_volume content).attributes_fork (attributes_file content)) f (attributes_total has) total

  pub header_unbroken : IsGoodHeader (volume_of content).sectors (volume_of content).head → (f : Finding) → IsUnmet 1 f (header_wants (volume_of content).sectors (volume_of content).head) → ⊥
  header_unbroken good f unmet = met_no_finding 1 (header_wants (volume_of content).sectors (volume_of content).head) f (header_met (volume_of content).sectors (volume_of content).head good) unmet

  pub alternate_unbroken : AgreesWith (volume_of content).head (volume_of content).alternate → (f : Finding) → IsUnmet 2 f (alternate_wants (volume_of content).head (volume_of content).alternate) → ⊥
  alternate_unbroken agrees f unmet = met_no_finding 2 (alternate_wants (volume_of content).head (volume_of content).alternate) f (alternate_met (volume_of content).head (volume_of content).alternate agrees) unmet

  pub files_unbroken : (f : Finding) → IsUnmet 3 f (file_wants (volume_of content)) → ⊥
  files_unbroken f unmet = met_no_finding 3 (file_wants (volume_of content)) f (files_met (volume_of content) files) unmet
