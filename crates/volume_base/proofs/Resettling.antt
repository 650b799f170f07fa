-- A volume that stands over a content with its header in place has the lists of that content.
use Rattle.std.proofs.Common.{◌≡◌, ◌⊎◌, ◌<◌, ◌≤◌, ℕ, ◌+◌, ◌-◌, ◌*◌, ◌/◌, ◌%◌, ◌++◌, Bool, true, false, List, [], ◌∷◌, length, map, refl, sym, ◌∙◌, ap, subst, arith, inl, inr, ⊎_elim}
use Rattle.std.specs.Prelude.{Contains, IsTrue, Option, None, Some, slice_get, if◌then◌else◌}
use Rattle.std.specs.List.{range_with_len}
use Rattle.std.proofs.lemmas.Option.{slice_get_within, get_or_from_slice_get}
use Rattle.std.proofs.lemmas.List.Elements.{Contains-append_left, Contains-append_right}
use Rattle.hx_bytes.specs.declared.extents.Extent.{Extent}
use Rattle.volume_header.specs.Header.{header_of}
use Rattle.volume_header.specs.declared.header.VolumeHeader.{VolumeHeader}
use Rattle.sector_disk.specs.Lists.{Content, sector}
use Rattle.sector_disk.specs.Space.{Space}
use Rattle.jnl_format.specs.Recovery.{header_of_volume, info_sector_of}
use Rattle.flag_rows.specs.Bits.{bit_of}
use Rattle.fork_map.specs.Blocks.{blocks_of, sectors_of}
use Rattle.btree_node.specs.Levels.{Pair}
use Rattle.btree_node.specs.Tree.{pairs_of}
use Rattle.btree_node.specs.Keys.{IsCatalogKey, IsExtentKey, IsAttrKey, catalog_cmp, extent_cmp, attr_cmp, is_eight_extents, anything}
use Rattle.btree_node.specs.TreeFile.{TreeFile as File, TreeHead, IsTreeFile, store_of, extents_form, catalog_form, attributes_form}
use Rattle.btree_file.specs.Standing.{pairs_in}
use Rattle.btree_file.specs.State.{sectors_of_tree}
use Rattle.hfs_volume.specs.Content.{VolumeState, TreeFacts, volume_of, records_of, overflow_in_volume, overflow_of_content, extents_file, catalog_file, attributes_file, facts_of, has_attributes, bit_in, bit_of_sector, bitmap_sectors, block_limit, block_sector, sectors_in, journal_place, tree_of_fork}
use Rattle.hfs_volume.specs.Blocks.{HasTreeSize}
use Rattle.hfs_volume.specs.Forks.{per_block_of, extents_of, data_kind, extents_id, catalog_id, allocation_id, attributes_id}
use Rattle.hfs_volume.specs.Links.{private_id}
use Rattle.hfs_volume.specs.Records.{Overflow, overflow_of, placed_in}
use Rattle.hfs_volume.specs.Sound.{IsSoundVolume}
use Rattle.hfs_volume.specs.TreeOf.{tree_in, tree_of, file_bytes}
use Rattle.hfs_volume.proofs.Rereading.{same_block_sector}
use Rattle.volume_base.specs.Lists.{lists_of, facts_on, bits_on}
use Rattle.volume_base.specs.Standing.{IsStanding, IsSettled, attribute_sectors, map_sectors, file_sectors, blocks_end, with_attributes_tree}
use Rattle.volume_base.specs.declared.volume.Volume.{Volume}
use Rattle.hfs_volume.specs.Nodes.{HasTrees}
use Rattle.volume_base.proofs.Bridged.{pairs_read, facts_read, file_read, head_read}
use Rattle.volume_base.proofs.CatalogEdited.{there_is}

-- the numbers of the attributes' tree mean nothing where there is no such tree
pub other_tree : (lists : VolumeState) (other : TreeFacts) → (IsTrue (has_attributes lists.head) → other ≡ lists.attributes_tree) → IsSoundVolume lists → IsSoundVolume (record lists { attributes_tree = other })
other_tree lists other same sound = record {
  entries = sound.entries;
  links = sound.links;
  attributes = sound.attributes;
  blocks = record {
    header = sound.blocks.header;
    alternate = sound.blocks.alternate;
    files = record {
      extents = sound.blocks.files.extents;
      catalog = sound.blocks.files.catalog;
      attributes = λ there. subst (λ (t : TreeFacts). HasTreeSize lists.head lists.head.attributes_fork t) (sym (same there)) (sound.blocks.files.attributes there);
      bits = sound.blocks.files.bits;
      no_more = sound.blocks.files.no_more;
    };
    forks = record {
      sizes = sound.blocks.forks.sizes;
      more_inside = sound.blocks.forks.more_inside;
      goes_on = sound.blocks.forks.goes_on;
      bad_goes_on = sound.blocks.forks.bad_goes_on;
      owned = sound.blocks.forks.owned;
      once = sound.blocks.forks.once;
      values = sound.blocks.forks.values;
    };
    bits = record { bits = sound.blocks.bits.bits; free = sound.blocks.bits.free };
  };
}

-- the bits that a content has in the sectors of the bitmap
abbrev pub bits_at : Content → Volume → List Bool
bits_at content volume = map (bit_in content (map_sectors volume)) (range_with_len 0 (8 * volume.header.allocation_fork.logical_size))

module _ (volume : Volume) (space : Space) (stands : IsStanding volume space) (headed : header_of_volume space.content ≡ volume.header) where
  abbrev content : Content
  content = space.content

  abbrev limit : ℕ
  limit = blocks_end volume

  each : (at : ℕ) → Contains (file_sectors volume) at → (at < limit) × (length (sector space.content at) ≡ 512)
  each at has = (stands.inside at has, stands.whole at (omega (arith, stands.inside at has, stands.fit)))

  in_extents : (at : ℕ) → Contains (sectors_of_tree volume.extents.file) at → Contains (file_sectors volume) at
  in_extents at has = Contains-append_left (sectors_of_tree volume.extents.file) (sectors_of_tree volume.catalog.file ++ (attribute_sectors volume ++ map_sectors volume)) at has

  in_catalog : (at : ℕ) → Contains (sectors_of_tree volume.catalog.file) at → Contains (file_sectors volume) at
  in_catalog at has = Contains-append_right (sectors_of_tree volume.extents.file) (sectors_of_tree volume.catalog.file ++ (attribute_sectors volume ++ map_sectors volume)) at
      (Contains-append_left (sectors_of_tree volume.catalog.file) (attribute_sectors volume ++ map_sectors volume) at has)

  in_attributes : IsTrue (has_attributes volume.header) → (at : ℕ) → Contains (sectors_of_tree volume.attributes.file) at → Contains (file_sectors volume) at
  in_attributes there at has = Contains-append_right (sectors_of_tree volume.extents.file) (sectors_of_tree volume.catalog.file ++ (attribute_sectors volume ++ map_sectors volume)) at
      (Contains-append_right (sectors_of_tree volume.catalog.file) (attribute_sectors volume ++ map_sectors volume) at
      (Contains-append_left (attribute_sectors volume) (map_sectors volume) at (subst (λ (l : List ℕ). Contains l at) (sym (there_is (has_attributes volume.header) (sectors_of_tree volume.attributes.file) there)) has)))

  -- ---- the three trees

  extents_is : extents_file space.content ≡ tree_of_fork space.content limit (sectors_of_tree volume.extents.file)
  unfolding extents_file
  extents_is =
      (λ i. tree_of_fork space.content ((headed i).total_blocks * per_block_of (headed i)) (sectors_of (per_block_of (headed i)) (blocks_of (extents_of [] extents_id data_kind (headed i).extents_fork))))
      ∙ (λ i. tree_of_fork space.content limit (sectors_of (sym stands.forks.extents_per i) (blocks_of (sym stands.forks.extents i))))

  extents_pairs : pairs_of (store_of (extents_file space.content)) ≡ pairs_in (sectors_of_tree volume.extents.file) space.content
  extents_pairs = ap (λ (f : File). pairs_of (store_of f)) extents_is
      ∙ pairs_read space.content limit extents_form IsExtentKey is_eight_extents extent_cmp volume.extents.file (λ at has. each at (in_extents at has)) stands.trees.extents

  extents_facts : facts_of (extents_file space.content) ≡ facts_on volume.extents.file
  extents_facts = ap facts_of extents_is
      ∙ facts_read space.content limit extents_form IsExtentKey is_eight_extents extent_cmp volume.extents.file (λ at has. each at (in_extents at has)) stands.trees.extents

  overflow_here : overflow_of_content space.content ≡ overflow_in_volume (lists_of volume space.content)
  unfolding overflow_of_content
  overflow_here = ap (λ (ps : List Pair). map overflow_of ps) extents_pairs

  catalog_is : catalog_file space.content ≡ tree_of_fork space.content limit (sectors_of_tree volume.catalog.file)
  unfolding catalog_file
  catalog_is =
      (λ i. tree_of_fork space.content ((headed i).total_blocks * per_block_of (headed i)) (sectors_of (per_block_of (headed i)) (blocks_of (extents_of (overflow_here i) catalog_id data_kind (headed i).catalog_fork))))
      ∙ (λ i. tree_of_fork space.content limit (sectors_of (sym stands.forks.catalog_per i) (blocks_of (sym stands.forks.catalog i))))

  catalog_pairs_are : pairs_of (store_of (catalog_file space.content)) ≡ pairs_in (sectors_of_tree volume.catalog.file) space.content
  catalog_pairs_are = ap (λ (f : File). pairs_of (store_of f)) catalog_is
      ∙ pairs_read space.content limit catalog_form IsCatalogKey anything catalog_cmp volume.catalog.file (λ at has. each at (in_catalog at has)) stands.trees.catalog

  catalog_facts : facts_of (catalog_file space.content) ≡ facts_on volume.catalog.file
  catalog_facts = ap facts_of catalog_is
      ∙ facts_read space.content limit catalog_form IsCatalogKey anything catalog_cmp volume.catalog.file (λ at has. each at (in_catalog at has)) stands.trees.catalog

  attributes_is : IsTrue (has_attributes volume.header) → attributes_file space.content ≡ tree_of_fork space.content limit (sectors_of_tree volume.attributes.file)
  unfolding attributes_file
  attributes_is there =
      (λ i. tree_of_fork space.content ((headed i).total_blocks * per_block_of (headed i)) (sectors_of (per_block_of (headed i)) (blocks_of (extents_of (overflow_here i) attributes_id data_kind (headed i).attributes_fork))))
      ∙ (λ i. tree_of_fork space.content limit (sectors_of (sym (stands.forks.attributes_per there) i) (blocks_of (sym (stands.forks.attributes there) i))))

  attribute_pairs_are : (if has_attributes (header_of_volume space.content) then pairs_of (store_of (attributes_file space.content)) else []) ≡ (if has_attributes volume.header then pairs_in (sectors_of_tree volume.attributes.file) space.content else [])
  attribute_pairs_are = ap (λ (h : VolumeHeader). if has_attributes h then pairs_of (store_of (attributes_file space.content)) else []) headed ∙ by (has_attributes volume.header) (λ there.
      ap (λ (f : File). pairs_of (store_of f)) (attributes_is there)
      ∙ pairs_read space.content limit attributes_form IsAttrKey anything attr_cmp volume.attributes.file (λ at has. each at (in_attributes there at has)) (stands.trees.attributes there))
    where
      by : (b : Bool) → (b ≡ true → pairs_of (store_of (attributes_file space.content)) ≡ pairs_in (sectors_of_tree volume.attributes.file) space.content)
          → (if b then pairs_of (store_of (attributes_file space.content)) else []) ≡ (if b then pairs_in (sectors_of_tree volume.attributes.file) space.content else [])
      by true same = same refl
      by false same = refl

  attributes_facts : IsTrue (has_attributes volume.header) → facts_of (attributes_file space.content) ≡ facts_on volume.attributes.file
  attributes_facts there = ap facts_of (attributes_is there)
      ∙ facts_read space.content limit attributes_form IsAttrKey anything attr_cmp volume.attributes.file (λ at has. each at (in_attributes there at has)) (stands.trees.attributes there)

  -- they are trees in their files
  pub trees_here : HasTrees space.content
  trees_here = record {
    extents = subst (λ (f : File). IsTreeFile extents_form IsExtentKey is_eight_extents extent_cmp f) (sym extents_is)
        (file_read space.content limit extents_form IsExtentKey is_eight_extents extent_cmp volume.extents.file (λ at has. each at (in_extents at has)) stands.trees.extents);
    catalog = subst (λ (f : File). IsTreeFile catalog_form IsCatalogKey anything catalog_cmp f) (sym catalog_is)
        (file_read space.content limit catalog_form IsCatalogKey anything catalog_cmp volume.catalog.file (λ at has. each at (in_catalog at has)) stands.trees.catalog);
    compare = ap (λ (f : File). f.head.compare) catalog_is
        ∙ ap (λ (h : TreeHead). h.compare) (head_read space.content limit catalog_form IsCatalogKey anything catalog_cmp volume.catalog.file (λ at has. each at (in_catalog at has)) stands.trees.catalog) ∙ stands.trees.compare;
    attributes = λ there_is_one. let there = subst (λ (h : VolumeHeader). IsTrue (has_attributes h)) headed there_is_one in
        subst (λ (f : File). IsTreeFile attributes_form IsAttrKey anything attr_cmp f) (sym (attributes_is there))
        (file_read space.content limit attributes_form IsAttrKey anything attr_cmp volume.attributes.file (λ at has. each at (in_attributes there at has)) (stands.trees.attributes there));
  }

  -- ---- the bitmap

  pub map_is : bitmap_sectors space.content ≡ map_sectors volume
  map_is =
      (λ i. sectors_of (per_block_of (headed i)) (blocks_of (extents_of (overflow_here i) allocation_id data_kind (headed i).allocation_fork)))
      ∙ (λ i. sectors_of (sym stands.forks.map_per i) (blocks_of (sym stands.forks.map i)))

  pub bits_here : (volume_of space.content).bits ≡ bits_at space.content volume
  unfolding volume_of
  bits_here = λ i. map (bit_in space.content (map_is i)) (range_with_len 0 (8 * (headed i).allocation_fork.logical_size))

  -- ---- the lists

  module _ (bits : bits_at space.content volume ≡ bits_on volume) where
    pub lists_anew : volume_of space.content ≡ with_attributes_tree (lists_of volume space.content) (volume_of space.content)
    unfolding volume_of
    lists_anew = λ i. record {
      sectors = length space.content;
      head = headed i;
      alternate = header_of (sector space.content (length space.content - 2));
      journal = journal_place (sector space.content (info_sector_of (headed i)));
      overflow_pairs = extents_pairs i;
      catalog_pairs = catalog_pairs_are i;
      attribute_pairs = attribute_pairs_are i;
      extents_tree = extents_facts i;
      catalog_tree = catalog_facts i;
      attributes_tree = facts_of (attributes_file space.content);
      bits = (bits_here ∙ bits) i;
    }

    pub settles : (other : TreeFacts) → (IsTrue (has_attributes volume.header) → other ≡ facts_on volume.attributes.file) → IsSoundVolume (record (lists_of volume space.content) { attributes_tree = other })
        → volume.private ≡ private_id (placed_in (lists_of volume space.content).catalog_pairs) → IsSettled volume space.content
    unfolding volume_of
    settles other same sound private = record {
      blocks = stands.blocks;
      lists = lists_anew;
      attributes = λ there. attributes_facts there;
      sound = subst IsSoundVolume (sym lists_anew) (other_tree (record (lists_of volume space.content) { attributes_tree = other }) (volume_of space.content).attributes_tree (λ there. attributes_facts there ∙ sym (same there)) sound);
      private = private ∙ sym (ap (λ (ps : List Pair). private_id (placed_in ps)) catalog_pairs_are);
    }
