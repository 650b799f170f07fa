-- What a content counts, and whether it can be repaired.
use Rattle.std.proofs.Common.{◌≡◌, ◌↔◌, ◌≤◌, ℕ, ◌+◌, Bool, true, false, not, ◌==◌, List, length, inl, inr, refl, sym, ◌∙◌, subst, IsTrue}
use Rattle.std.specs.Prelude.{Contains, All}
use Rattle.std.specs.List.{flat_map}
use Rattle.std.proofs.lemmas.Bool.{true≢false}
use Rattle.std.proofs.lemmas.List.Elements.{Contains-append_cases}
use Rattle.hx_bytes.specs.declared.extents.Extent.{Extent}
use Rattle.hx_bytes.specs.declared.extents.ForkRecord.{ForkRecord}
use Rattle.fork_map.specs.Blocks.{blocks_of}
use Rattle.alloc_bitmap.specs.Apart.{times}
use Rattle.jnl_format.specs.Recovery.{Content, header_of_volume}
use Rattle.volume_header.specs.declared.header.VolumeHeader.{VolumeHeader}
use Rattle.btree_node.specs.Levels.{Pair}
use Rattle.hfs_volume.specs.Blocks.{IsGoodHeader, LieInside, used_in}
use Rattle.hfs_volume.specs.Content.{VolumeState, volume_of, catalog_file, overflow_of_content, overflow_in_volume}
use Rattle.hfs_volume.specs.Entries.{AreSpelled}
use Rattle.hfs_volume.specs.Forks.{in_use, extents_of, overflow_in, allocation_id, data_kind}
use Rattle.hfs_volume.specs.Records.{Overflow, placed_in, is_thread, is_empty}
use Rattle.hfs_volume.proofs.EntryWants.{flat_cases}
use Rattle.hfs_volume.proofs.Members.{all_of, each_of, kept_stands, kept_cases}
use Rattle.btree_node.specs.Keys.{IsCatalogKey}
use Rattle.hfs_volume.specs.Changes.{AreSorted}
use Rattle.fsck_core.proofs.ShownLaws.{catalog_keys, catalog_sorted}
use Rattle.fsck_core.specs.Overflows.{overflows_in}
use Rattle.volume_repair.specs.Repair.{IsMendable, blocks_written}
use Rattle.fsck_repair.specs.Counted.{AreTrees, AreSized, HasHeaders, UsesOnce}
use Rattle.fsck_repair.specs.declared.trees.Trees.{Trees}
use Rattle.fsck_core.specs.declared.reading.Headers.{Headers}
use Rattle.fsck_scan.specs.declared.form.Head.{Head}

pub good_as : (sectors n : ℕ) (head other : VolumeHeader) → sectors ≡ n → head ≡ other → IsGoodHeader n other → IsGoodHeader sectors head
good_as sectors n head other same is good = subst (λ k. IsGoodHeader k head) (sym same) (subst (λ (h : VolumeHeader). IsGoodHeader n h) (sym is) good)

pub good_in : (sectors n : ℕ) (head : VolumeHeader) → n ≡ sectors → IsGoodHeader sectors head → IsGoodHeader n head
good_in sectors n head same good = subst (λ k. IsGoodHeader k head) (sym same) good

-- ---- extents inside the volume

abbrev IsUsed : Extent → Bool
IsUsed extent = not (extent.count == 0)

used_all : (P : Extent → Type 0) (extents : List Extent) → All P extents → All P (in_use extents)
used_all P extents all = all_of P (in_use extents) (λ e stands. each_of P extents all e (kept_cases IsUsed extents e stands).0)

-- the extents of a fork are in use
are_used : (overflow : List Overflow) (id kind : ℕ) (fork : ForkRecord) (e : Extent) → Contains (extents_of overflow id kind fork) e → IsUsed e ≡ true
unfolding extents_of
are_used overflow id kind fork e stands = elim (Contains-append_cases (in_use fork.extents.extents) (flat_map (λ (more : Overflow). in_use more.extents) (overflow_in overflow id kind)) e stands) [
  | inl own ↦ (kept_cases IsUsed fork.extents.extents e own).1
  | inr later ↦ let from = flat_cases (λ (more : Overflow). in_use more.extents) (overflow_in overflow id kind) e later in (kept_cases IsUsed from.0.extents e from.2).1
]

all_used : (P : Extent → Type 0) (overflow : List Overflow) (id kind : ℕ) (fork : ForkRecord) → All P (in_use (extents_of overflow id kind fork)) → All P (extents_of overflow id kind fork)
all_used P overflow id kind fork all = all_of P (extents_of overflow id kind fork) (λ e stands. each_of P (in_use (extents_of overflow id kind fork)) all e (kept_stands IsUsed (extents_of overflow id kind fork) e stands (are_used overflow id kind fork e stands)))

-- ---- blocks that are used once

pub once_told : (volume : VolumeState) (extents written : List Extent) (met : Bool) → blocks_of extents ≡ used_in volume → blocks_of written ≡ blocks_written volume
    → IsTrue met ↔ All (λ block. times block (blocks_of extents) ≤ 1) (blocks_of written) → IsTrue met ↔ UsesOnce volume
once_told volume extents written met used writes told = (
  λ is. subst (λ us. All (λ block. times block us ≤ 1) (blocks_written volume)) used (subst (λ ws. All (λ block. times block (blocks_of extents) ≤ 1) ws) writes (told.0 is)),
  λ has. told.1 (subst (λ ws. All (λ block. times block (blocks_of extents) ≤ 1) ws) (sym writes) (subst (λ us. All (λ block. times block us ≤ 1) (blocks_written volume)) (sym used) has)),
)

-- ---- all conditions

pub sectors_of_volume : (content : Content) → length content ≡ (volume_of content).sectors
unfolding volume_of
sectors_of_volume content = refl

pub keys_there : (content : Content) (trees : Trees) → AreTrees content trees → All (λ (pair : Pair). IsCatalogKey pair.0) trees.catalog
keys_there content trees are = subst (λ (l : List Pair). All (λ (pair : Pair). IsCatalogKey pair.0) l) (sym are.of_catalog.pairs_are) (catalog_keys (catalog_file content) are.of_catalog.tree)

pub sorted_there : (content : Content) (trees : Trees) → AreTrees content trees → AreSorted trees.catalog
sorted_there content trees are = subst (λ (l : List Pair). AreSorted l) (sym are.of_catalog.pairs_are) (catalog_sorted (catalog_file content) are.of_catalog.tree)

module _ (content : Content) (headers : Headers) (tree : Head) (trees : Trees) (has : HasHeaders content headers) (sized : AreSized content tree) (are : AreTrees content trees) where
  pairs_are : trees.catalog ≡ (volume_of content).catalog_pairs
  unfolding volume_of
  pairs_are = are.of_catalog.pairs_are

  pub overflow_is : overflows_in trees.overflow.items ≡ overflow_in_volume (volume_of content)
  unfolding volume_of overflow_of_content
  overflow_is = are.of_extents.rows_are

  pub catalog_is : trees.catalog ≡ (volume_of content).catalog_pairs
  catalog_is = pairs_are

  pub attributes_are : trees.attributes ≡ (volume_of content).attribute_pairs
  unfolding volume_of
  attributes_are = are.of_attributes.pairs_are

  pub head_is : headers.head ≡ (volume_of content).head
  unfolding volume_of
  head_is = has.head

  -- the records aren't those of a catalog
  pub no_kinds : (met : Bool) → met ≡ false → IsTrue met ↔ AreSpelled trees.catalog × All (λ placed. is_thread placed.value ≡ is_empty placed.name) (placed_in trees.catalog) → ¬ IsMendable content
  no_kinds met not_met told can =
      true≢false (sym (told.1 (subst (λ (l : List Pair). AreSpelled l) (sym pairs_are) can.spelled, subst (λ (l : List Pair). All (λ placed. is_thread placed.value ≡ is_empty placed.name) (placed_in l)) (sym pairs_are) can.kinds)) ∙ not_met)

  -- the allocation file doesn't lie in the volume
  pub no_inside : (extents : List Extent) (met : Bool) → extents ≡ extents_of (overflow_in_volume (volume_of content)) allocation_id data_kind headers.head.allocation_fork → met ≡ false → IsTrue met ↔ All (λ extent. extent.start + extent.count ≤ headers.head.total_blocks) extents → ¬ IsMendable content
  no_inside extents met is not_met told can =
      let inside = subst (λ (h : VolumeHeader). LieInside h.total_blocks (extents_of (overflow_in_volume (volume_of content)) allocation_id data_kind h.allocation_fork)) (sym head_is) can.inside in
      true≢false (sym (told.1 (subst (λ (l : List Extent). All (λ extent. extent.start + extent.count ≤ headers.head.total_blocks) l) (sym is)
      (all_used (λ extent. extent.start + extent.count ≤ headers.head.total_blocks) (overflow_in_volume (volume_of content)) allocation_id data_kind headers.head.allocation_fork inside))) ∙ not_met)

  pub no_once : ¬ UsesOnce (volume_of content) → ¬ IsMendable content
  no_once none can = none can.once

  pub can_mend : (extents : List Extent) (kinds inside : Bool) → extents ≡ extents_of (overflow_in_volume (volume_of content)) allocation_id data_kind headers.head.allocation_fork
      → kinds ≡ true → IsTrue kinds ↔ AreSpelled trees.catalog × All (λ placed. is_thread placed.value ≡ is_empty placed.name) (placed_in trees.catalog)
      → inside ≡ true → IsTrue inside ↔ All (λ extent. extent.start + extent.count ≤ headers.head.total_blocks) extents → UsesOnce (volume_of content) → IsMendable content
  can_mend extents kinds inside is kinds_met kinds_told inside_met inside_told once = record {
    header = has.good;
    sizes = sized.sizes;
    trees = record { extents = are.of_extents.tree; catalog = are.of_catalog.tree; compare = sized.compare; attributes = are.of_attributes.tree };
    spelled = subst (λ (l : List Pair). AreSpelled l) pairs_are (kinds_told.0 kinds_met).0;
    kinds = subst (λ (l : List Pair). All (λ placed. is_thread placed.value ≡ is_empty placed.name) (placed_in l)) pairs_are (kinds_told.0 kinds_met).1;
    inside = subst (λ (h : VolumeHeader). LieInside h.total_blocks (extents_of (overflow_in_volume (volume_of content)) allocation_id data_kind h.allocation_fork)) head_is
        (used_all (λ extent. extent.start + extent.count ≤ headers.head.total_blocks) (extents_of (overflow_in_volume (volume_of content)) allocation_id data_kind headers.head.allocation_fork)
        (subst (λ (l : List Extent). All (λ extent. extent.start + extent.count ≤ headers.head.total_blocks) l) is (inside_told.0 inside_met)));
    once = once;
  }

  -- the lists of extents by the content's own records
  pub fork_is : (extents : List Extent) (rows : List Overflow) (id : ℕ) (part : VolumeHeader → ForkRecord) → rows ≡ overflow_in_volume (volume_of content) → extents ≡ extents_of rows id data_kind (part headers.head)
      → extents ≡ extents_of (overflow_of_content content) id data_kind (part (header_of_volume content))
  unfolding volume_of overflow_of_content
  fork_is extents rows id part same is = is ∙ (λ i. extents_of (same i) id data_kind (part (has.head i)))
