-- A volume is settled again behind a command that changed its catalog, its attributes and the numbers of its header, and its tree is that of
-- the new lists.
use Rattle.std.proofs.Common.{◌≡◌, ◌≢◌, ℕ, ◌*◌, ◌/◌, ◌%◌, ◌++◌, Bool, true, false, List, [], ◌∷◌, map, refl, sym, ◌∙◌, ap, subst, arith, ⊎_elim}
use Rattle.std.specs.Prelude.{Contains, IsTrue, Option, None, Some, slice_get, if◌then◌else◌}
use Rattle.std.specs.List.{range_with_len}
use Rattle.std.proofs.lemmas.Option.{slice_get_within, get_or_from_slice_get}
use Rattle.alloc_bitmap.specs.Map.{BlockMap}
use Rattle.alloc_bitmap.proofs.ApartLaws.{times-append}
use Rattle.sector_disk.specs.Lists.{Content, sector}
use Rattle.sector_disk.specs.Space.{Space}
use Rattle.jnl_format.specs.Recovery.{header_of_volume}
use Rattle.volume_header.specs.declared.header.VolumeHeader.{VolumeHeader}
use Rattle.flag_rows.specs.Bits.{bit_of}
use Rattle.fork_map.specs.Blocks.{blocks_of, sectors_of, fork_sectors}
use Rattle.btree_file.specs.State.{sectors_of_tree}
use Rattle.hfs_volume.specs.Content.{VolumeState, TreeFacts, volume_of, has_attributes, bit_in, bit_of_sector, block_limit, block_sector}
use Rattle.hfs_volume.specs.Forks.{per_block_of}
use Rattle.hfs_volume.specs.Links.{private_id}
use Rattle.hfs_volume.specs.Records.{placed_in}
use Rattle.hfs_volume.specs.Sound.{IsSoundVolume}
use Rattle.hfs_volume.specs.TreeOf.{tree_in, tree_of, bytes_in}
use Rattle.hfs_volume.proofs.Rereading.{same_block_sector}
use Rattle.volume_base.specs.Lists.{lists_of, facts_on, bits_on}
use Rattle.volume_base.specs.Standing.{IsStanding, IsSettled, attribute_sectors, map_sectors, file_sectors}
use Rattle.volume_base.specs.Trees.{ChangesTrees}
use Rattle.volume_base.specs.declared.volume.Volume.{Volume}
use Rattle.volume_base.proofs.FilesKept.{catalog_sectors, attributes_sectors, tree_stays}
use Rattle.volume_base.proofs.Placing.{stands_once}
use Rattle.volume_base.proofs.Resettling.{bits_at, bits_here, lists_anew, settles}

-- a tree says nothing of the numbers of the attributes' tree
pub tree_without : (lists : VolumeState) (other : TreeFacts) (bytes_of : _) → tree_in (record lists { attributes_tree = other }) bytes_of ≡ tree_in lists bytes_of
unfolding tree_in
tree_without lists other bytes_of = refl

pub header_settled : (v : Volume) (content : Content) → IsSettled v content → header_of_volume content ≡ v.header
unfolding volume_of
header_settled v content settled = ap (λ (l : VolumeState). l.head) settled.lists

-- a volume that keeps another private folder stands as it did
pub stands_private : (w : Volume) (b : Space) (private : Option ℕ) → IsStanding w b → IsStanding (record w { private = private }) b
stands_private w b private stands = record {
  trees = record { extents = stands.trees.extents; catalog = stands.trees.catalog; compare = stands.trees.compare; attributes = stands.trees.attributes };
  forks = record {
    extents = stands.forks.extents;
    extents_per = stands.forks.extents_per;
    catalog = stands.forks.catalog;
    catalog_per = stands.forks.catalog_per;
    attributes = stands.forks.attributes;
    attributes_per = stands.forks.attributes_per;
    map = stands.forks.map;
    map_per = stands.forks.map_per;
  };
  whole = stands.whole;
  apart = stands.apart;
  blocks = stands.blocks;
  closed = stands.closed;
  aside = stands.aside;
  large = stands.large;
  inside = stands.inside;
  fit = stands.fit;
  live = stands.live;
}

-- the lists that a command leads to: those that the volume keeps, and where it has no attributes file, any numbers of its tree
abbrev pub lists_with : TreeFacts → Volume → Content → VolumeState
lists_with other w after = record (lists_of w after) { attributes_tree = other }

-- the numbers of the attributes' tree, or those that meant nothing before
abbrev pub facts_then : Content → Volume → TreeFacts
facts_then before w = if has_attributes w.header then facts_on w.attributes.file else (volume_of before).attributes_tree

pub facts_there : (before : Content) (w : Volume) → IsTrue (has_attributes w.header) → facts_then before w ≡ facts_on w.attributes.file
facts_there before w there = ap (λ b. if b then facts_on w.attributes.file else (volume_of before).attributes_tree) there

-- a sector of the attributes file is in it where there is one
if_has : (b : Bool) (at : ℕ) (sectors : List ℕ) → Contains (if b then sectors else []) at → (b ≡ true) × Contains sectors at
if_has true at sectors has = (refl, has)
if_has false at sectors has = absurd (omega (arith, has.1))

module _ (v w : Volume) (a b : Space) (changes : ChangesTrees v w a.content b.content) (settled : IsSettled v a.content) (was : IsStanding v a) (stands : IsStanding w b) (headed : header_of_volume b.content ≡ w.header)
    (other : TreeFacts) (other_is : IsTrue (has_attributes w.header) → other ≡ facts_on w.attributes.file)
  where
    -- ---- the bits

    map_part : (at : ℕ) → Contains (map_sectors v) at → (at ≢ 2) × (Contains (sectors_of_tree v.catalog.file) at → ⊥) × (Contains (attribute_sectors v) at → ⊥)
    map_part at has =
        let parts = times-append at (sectors_of_tree v.extents.file) (sectors_of_tree v.catalog.file ++ (attribute_sectors v ++ map_sectors v)) in
        let more = times-append at (sectors_of_tree v.catalog.file) (attribute_sectors v ++ map_sectors v) in
        let rest = times-append at (attribute_sectors v) (map_sectors v) in
        let first = times-append at (2 ∷ []) (file_sectors v) in (
          λ is. absurd (omega (arith, was.apart at, parts, more, rest, first, stands_once at (map_sectors v) has, stands_once at (2 ∷ []) (0, omega arith, sym is))),
          λ here. absurd (omega (arith, was.apart at, parts, more, rest, first, stands_once at (map_sectors v) has, stands_once at (sectors_of_tree v.catalog.file) here)),
          λ here. absurd (omega (arith, was.apart at, parts, more, rest, first, stands_once at (map_sectors v) has, stands_once at (attribute_sectors v) here)),
        )

    map_stays : (at : ℕ) → Contains (map_sectors v) at → sector b.content at ≡ sector a.content at
    map_stays at has = ⊎_elim (λ same. same)
        (λ here. absurd (⊎_elim (λ is. (map_part at has).0 is) (λ there. ⊎_elim (λ one. (map_part at has).1 one) (λ two. (map_part at has).2 two) there) here))
        (changes.outside.each at)

    limit_same : block_limit b.content ≡ block_limit a.content
    limit_same = ap (λ (h : VolumeHeader). h.total_blocks * per_block_of h) headed ∙ ap (λ (h : VolumeHeader). h.total_blocks * per_block_of h) changes.numbers
        ∙ sym (ap (λ (h : VolumeHeader). h.total_blocks * per_block_of h) (header_settled v a.content settled))

    same_bit : (k : ℕ) → bit_in b.content (map_sectors v) k ≡ bit_in a.content (map_sectors v) k
    unfolding bit_in bit_of_sector
    same_bit k = by (slice_get (map_sectors v) (k / 4096)) refl
      where
        by : (o : Option ℕ) → slice_get (map_sectors v) (k / 4096) ≡ o → bit_of_sector b.content (k % 4096) o ≡ bit_of_sector a.content (k % 4096) o
        by None found = refl
        by (Some at) found =
            let same = map_stays at (k / 4096, slice_get_within (map_sectors v) (k / 4096) at found, get_or_from_slice_get (map_sectors v) (k / 4096) at at found) in
            ap (λ n. bit_of (block_sector b.content n at) (k % 4096)) limit_same
            ∙ ap (λ (s : List ℕ). bit_of s (k % 4096)) (same_block_sector a.content b.content (block_limit a.content) at same)

    map_same : map_sectors w ≡ map_sectors v
    map_same = ap (λ (m : BlockMap). fork_sectors m.fork m.per_block) changes.map

    bits_before : bits_at a.content v ≡ bits_on v
    bits_before = sym (bits_here v a was (header_settled v a.content settled)) ∙ ap (λ (l : VolumeState). l.bits) settled.lists

    bits_still : bits_on w ≡ bits_on v
    bits_still = ap (λ (l : VolumeState). l.bits) changes.lists

    bits_now : bits_at b.content w ≡ bits_on w
    bits_now =
        (λ i. map (bit_in b.content (map_same i)) (range_with_len 0 (8 * (changes.numbers i).allocation_fork.logical_size)))
        ∙ (λ i. map (λ k. same_bit k i) (range_with_len 0 (8 * v.header.allocation_fork.logical_size)))
        ∙ bits_before ∙ sym bits_still

    -- the lists that the law speaks of
    pub lists_told : lists_with other w b.content ≡ record (volume_of a.content) {
      head = w.header;
      catalog_pairs = (lists_of w b.content).catalog_pairs;
      catalog_tree = facts_on w.catalog.file;
      attribute_pairs = (lists_of w b.content).attribute_pairs;
      attributes_tree = other;
    }
    lists_told =
        (λ i. record (changes.lists i) { attributes_tree = other })
        ∙ sym (λ i. record (settled.lists i) { head = w.header; catalog_pairs = (lists_of w b.content).catalog_pairs; catalog_tree = facts_on w.catalog.file; attribute_pairs = (lists_of w b.content).attribute_pairs; attributes_tree = other })

    -- ---- settled again

    module _ (sound : IsSoundVolume (lists_with other w b.content)) where
      pub settles_again : private_id (placed_in (lists_of w b.content).catalog_pairs) ≡ private_id (placed_in (lists_of v a.content).catalog_pairs) → IsSettled w b.content
      settles_again private = settles w b stands headed bits_now other other_is sound
          (changes.private ∙ settled.private ∙ ap (λ (l : VolumeState). private_id (placed_in l.catalog_pairs)) settled.lists ∙ sym private)

      -- settled again with a private folder that was made
      pub settles_private : (private : Option ℕ) → private ≡ private_id (placed_in (lists_of w b.content).catalog_pairs) → IsSettled (record w { private = private }) b.content
      settles_private private is = settles (record w { private = private }) b (stands_private w b private stands) headed bits_now other other_is sound is

      -- ---- its tree

      catalog_is : sectors_of_tree w.catalog.file ≡ catalog_sectors (lists_with other w b.content)
      catalog_is = λ i. sectors_of (stands.forks.catalog_per i) (blocks_of (stands.forks.catalog i))

      attributes_are : IsTrue (has_attributes w.header) → sectors_of_tree w.attributes.file ≡ attributes_sectors (lists_with other w b.content)
      attributes_are there = λ i. sectors_of (stands.forks.attributes_per there i) (blocks_of (stands.forks.attributes there i))

      has_still : IsTrue (has_attributes v.header) → IsTrue (has_attributes w.header)
      has_still there = subst (λ (h : VolumeHeader). IsTrue (has_attributes h)) (sym changes.numbers) there

      apart : (at : ℕ) → at ≢ 2 → (Contains (catalog_sectors (lists_with other w b.content)) at → ⊥) → (Contains (attributes_sectors (lists_with other w b.content)) at → ⊥) → sector b.content at ≡ sector a.content at
      apart at differs none nor = ⊎_elim (λ same. same)
          (λ here. absurd (⊎_elim (λ is. differs is) (λ there. ⊎_elim
          (λ one. none (subst (λ (l : List ℕ). Contains l at) (sym changes.catalog.sectors ∙ catalog_is) one))
          (λ two.
          let it = if_has (has_attributes v.header) at (sectors_of_tree v.attributes.file) two in
          nor (subst (λ (l : List ℕ). Contains l at) (sym changes.attributes.sectors ∙ attributes_are (has_still it.0)) it.1))
          there) here))
          (changes.outside.each at)

      pub tree_again : tree_of b.content ≡ tree_in (lists_with other w b.content) (bytes_in a.content)
      unfolding tree_of
      tree_again =
          ap (λ (l : VolumeState). tree_in l (bytes_in b.content)) (lists_anew w b stands headed bits_now)
          ∙ tree_without (lists_of w b.content) (volume_of b.content).attributes_tree (bytes_in b.content)
          ∙ sym (tree_without (lists_of w b.content) other (bytes_in b.content))
          ∙ tree_stays (lists_with other w b.content) sound a.content b.content
          (record {
            overflow = ap (λ (l : VolumeState). l.overflow_pairs) settled.lists ∙ sym (ap (λ (l : VolumeState). l.overflow_pairs) changes.lists);
            total = ap (λ (h : VolumeHeader). h.total_blocks) (header_settled v a.content settled) ∙ sym (ap (λ (h : VolumeHeader). h.total_blocks) changes.numbers);
            block = ap (λ (h : VolumeHeader). h.block_size) (header_settled v a.content settled) ∙ sym (ap (λ (h : VolumeHeader). h.block_size) changes.numbers);
          })
          (record {
            overflow = ap (λ (l : VolumeState). l.overflow_pairs) (lists_anew w b stands headed bits_now);
            total = ap (λ (h : VolumeHeader). h.total_blocks) headed;
            block = ap (λ (h : VolumeHeader). h.block_size) headed;
          })
          apart
