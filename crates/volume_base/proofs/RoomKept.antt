-- What a command costs by the room that a volume keeps is what it costs by that of its content.
use Rattle.std.proofs.Common.{◌≡◌, ◌⊎◌, ◌<◌, ◌≤◌, ℕ, suc, ◌+◌, ◌-◌, ◌*◌, ◌/◌, ◌++◌, Bool, true, false, not, List, [], ◌∷◌, length, refl, sym, ◌∙◌, ap, subst, arith, inl, inr, ⊎_elim}
use Rattle.std.specs.Prelude.{Contains, IsTrue, count_by, nat_le, nat_lt, slice_index, None, ◌&&◌, if◌then◌else◌}
use Rattle.std.proofs.Math.Nat.{mul-le-mul_left}
use Rattle.std.proofs.lemmas.Bool.{and_parts, leb-true}
use Rattle.std.proofs.lemmas.List.Elements.{Contains-append_left, Contains-append_right}
use Rattle.sector_disk.specs.Lists.{Content}
use Rattle.sector_disk.specs.Space.{Space}
use Rattle.alloc_bitmap.specs.Apart.{times}
use Rattle.alloc_bitmap.proofs.ApartLaws.{times-append}
use Rattle.btree_node.specs.Store.{IsWellFormed}
use Rattle.btree_node.specs.Node.{IsNodeSize}
use Rattle.btree_file.specs.FrameLaws.{state_well_formed}
use Rattle.btree_file.specs.State.{sectors_of_tree}
use Rattle.btree_file.specs.declared.tree.TreeFile.{TreeFile}
use Rattle.hx_bytes.specs.declared.extents.Extent.{Extent}
use Rattle.hx_bytes.specs.declared.extents.ForkRecord.{ForkRecord}
use Rattle.volume_header.specs.Refusal.{header_refusal, is_volume_size}
use Rattle.volume_header.specs.declared.header.VolumeHeader.{VolumeHeader}
use Rattle.volume_header.specs.declared.refusal.HeaderRefusal.{HeaderRefusal}
use Rattle.volume_header.specs.declared.refusal.HeaderRefusal.TheVariants.{LimitSectors}
use Rattle.hfs_volume.specs.Content.{VolumeState, TreeFacts, volume_of, has_attributes, overflow_in_volume}
use Rattle.hfs_volume.specs.Cost.{attributes_key, catalog_key, cost_of, extents_key, no_tree}
use Rattle.hfs_volume.specs.Forks.{attributes_id, catalog_id, data_kind, extents_id, extents_of}
use Rattle.hfs_volume.specs.Laws.{one_if}
use Rattle.hfs_volume.specs.Records.{Overflow}
use Rattle.hfs_volume.specs.Weight.{cost_of_tree, extents_in_use, free_blocks, room_with}
use Rattle.hfs_volume.specs.declared.cost.Needs.{Needs}
use Rattle.hfs_volume.specs.declared.cost.Room.{Room}
use Rattle.hfs_volume.specs.declared.cost.TreeCost.{TreeCost}
use Rattle.hfs_volume.proofs.Counting.{count_cons}
use Rattle.hfs_volume.proofs.Members.{at_front, behind}
use Rattle.tree_weights.specs.Weights.{GrowsByEnough}
use Rattle.volume_base.specs.Lists.{lists_of, facts_on}
use Rattle.volume_base.specs.Room.{attributes_on, cost_on, counted, free_in, room_on}
use Rattle.volume_base.specs.Standing.{HasItsForks, IsSettled, IsStanding, attribute_sectors, blocks_end, file_sectors, map_sectors, with_attributes_tree}
use Rattle.volume_base.specs.declared.room.FreeBlocks.{FreeBlocks}
use Rattle.volume_base.specs.declared.room.FreeBlocks.TheVariants as blocks
use Rattle.volume_base.specs.declared.volume.Volume.{Volume}
use Rattle.volume_base.proofs.CatalogEdited.{there_is}
use Rattle.volume_base.proofs.CostSame.{IsUsual, cost_same}
use Rattle.volume_base.proofs.Counted.{low_true, no_more}
use Rattle.volume_base.proofs.Facts.{size_is}
use Rattle.volume_base.proofs.Gauging.{free_is}
use Rattle.volume_base.proofs.MarkRoom.{some_node}
use Rattle.volume_base.proofs.SoundForks.{passed}

-- ---- the room

-- the extents overflow file has no overflow itself
no_overflow : (overflow : List Overflow) (fork : ForkRecord) → extents_of [] extents_id data_kind fork ≡ extents_of overflow extents_id data_kind fork
unfolding extents_of
no_overflow overflow fork = refl

-- the three trees of a volume
abbrev first_tree : VolumeState → TreeCost
first_tree volume = cost_of_tree volume.extents_tree (extents_in_use volume extents_id volume.head.extents_fork)

abbrev second_tree : VolumeState → TreeCost
second_tree volume = cost_of_tree volume.catalog_tree (extents_in_use volume catalog_id volume.head.catalog_fork)

abbrev third_tree : VolumeState → TreeCost
third_tree volume = if has_attributes volume.head then cost_of_tree volume.attributes_tree (extents_in_use volume attributes_id volume.head.attributes_fork) else no_tree

module _ (free : FreeBlocks) (v : Volume) (content : Content) (settled : IsSettled v content) (forks : HasItsForks v content) where
  abbrev lists : VolumeState
  lists = with_attributes_tree (lists_of v content) (volume_of content)

  -- a room with counts of 32 bits
  abbrev cut_room : VolumeState → Room
  cut_room volume = record (room_with v.capacity (free_in free v.map) volume) { trees = counted (first_tree volume) ∷ counted (second_tree volume) ∷ counted (third_tree volume) ∷ [] }

  third_is : attributes_on v ≡ counted (third_tree (with_attributes_tree (lists_of v content) (volume_of content)))
  third_is = by (has_attributes v.header) (λ has. settled.attributes has) (λ has. forks.attributes has)
    where
      by : (b : Bool) → (b ≡ true → (volume_of content).attributes_tree ≡ facts_on v.attributes.file) → (b ≡ true → v.attributes.file.fork ≡ extents_of (overflow_in_volume (lists_of v content)) attributes_id data_kind v.header.attributes_fork)
          → (if b then cost_on v.attributes.file else no_tree)
          ≡ counted (if b then cost_of_tree (volume_of content).attributes_tree (extents_in_use (with_attributes_tree (lists_of v content) (volume_of content)) attributes_id v.header.attributes_fork) else no_tree)
      by true facts fork = λ i. counted (cost_of_tree (sym (facts refl) i) (length (fork refl i)))
      by false facts fork = refl

  room_lists : room_on free v ≡ cut_room (with_attributes_tree (lists_of v content) (volume_of content))
  unfolding room_with
  room_lists = λ i. record (room_on free v) {
    trees = counted (cost_of_tree (facts_on v.extents.file) (length ((forks.extents ∙ no_overflow (overflow_in_volume (lists_of v content)) v.header.extents_fork) i)))
        ∷ counted (cost_of_tree (facts_on v.catalog.file) (length (forks.catalog i)))
        ∷ third_is i
        ∷ [];
  }

  room_is : room_on free v ≡ cut_room (volume_of content)
  room_is = room_lists ∙ sym (ap cut_room settled.lists)

  cost_by : GrowsByEnough → v.header.block_size ≤ 65536 → IsUsual extents_key (first_tree (volume_of content)) → IsUsual catalog_key (second_tree (volume_of content)) → (needs : Needs)
      → (0 < slice_index needs.edits 2 → IsUsual attributes_key (third_tree (volume_of content))) → cost_of needs (room_on free v) ≡ cost_of needs (room_with v.capacity (free_in free v.map) (volume_of content))
  unfolding room_with
  cost_by law low first second needs third =
      ap (cost_of needs) room_is
      ∙ cost_same law needs (room_with v.capacity (free_in free v.map) (volume_of content)) (first_tree (volume_of content)) (second_tree (volume_of content)) (third_tree (volume_of content))
      (omega (arith, low, ap (λ (l : VolumeState). l.head.block_size) settled.lists)) first (λ some. second) third

-- ---- the trees

all_counted : (n : ℕ) (xs : List ℕ) → ((x : ℕ) → Contains xs x → x < n) → length xs ≤ count_by (λ x. nat_lt x n) xs
all_counted n [] low = omega arith
all_counted n (x ∷ xs) low =
    omega (arith, count_cons (λ y. nat_lt y n) x xs, ap one_if (low_true x n (low x (at_front x xs))), all_counted n xs (λ y stands. low y (behind x y xs stands)))

-- a list of numbers below one, none of them twice, is no longer than that
few_listed : (n : ℕ) (xs : List ℕ) → ((k : ℕ) → times k xs ≤ 1) → ((x : ℕ) → Contains xs x → x < n) → length xs ≤ n
few_listed n xs once low = omega (arith, all_counted n xs low, no_more (λ (x : ℕ). x) n xs once)

pub node_size_low : (size : ℕ) → IsNodeSize size → (512 ≤ size) × (size ≤ 32768)
node_size_low size (inl is) = (omega (arith, is), omega (arith, is))
node_size_low size (inr (inl is)) = (omega (arith, is), omega (arith, is))
node_size_low size (inr (inr (inl is))) = (omega (arith, is), omega (arith, is))
node_size_low size (inr (inr (inr (inl is)))) = (omega (arith, is), omega (arith, is))
node_size_low size (inr (inr (inr (inr (inl is))))) = (omega (arith, is), omega (arith, is))
node_size_low size (inr (inr (inr (inr (inr (inl is)))))) = (omega (arith, is), omega (arith, is))
node_size_low size (inr (inr (inr (inr (inr (inr is)))))) = (omega (arith, is), omega (arith, is))

-- a tree in sectors of a volume is a usual one
usual_of : (key : ℕ) (tree : TreeFile) (space : Space) (extents : ℕ) → length (sectors_of_tree tree) ≤ 2147483648 → 3 * (key + 8) ≤ tree.shape.node_size - 16 → IsUsual key (cost_of_tree (facts_on tree) extents)
usual_of key tree space extents few three =
    let more : tree.shape.total * 1 ≤ tree.shape.total * (tree.shape.node_size / 512) = mul-le-mul_left tree.shape.total (some_node tree space) in
    record {
      nodes = omega (arith, more, tree.kept.whole, few);
      size = (node_size_low tree.shape.node_size (state_well_formed [] tree space).node_size).1;
      three = three;
    }

pub few_sectors : (sectors : ℕ) (head : VolumeHeader) → header_refusal head sectors ≡ None → sectors ≤ 2147483648
few_sectors sectors head accepted = leb-true sectors 2147483648 (and_parts (nat_le 2048 sectors) (nat_le sectors 2147483648) (passed (is_volume_size sectors) (LimitSectors sectors) _ accepted).0).1

module _ (v : Volume) (a : Space) (was : IsStanding v a) (settled : IsSettled v a.content) where
  few : length a.content ≤ 2147483648
  few = omega (arith, few_sectors (volume_of a.content).sectors (volume_of a.content).head settled.sound.blocks.header.accepted, ap (λ (l : VolumeState). l.sectors) settled.lists)

  -- a part of the volume's files has no more sectors than it
  part_few : (sectors : List ℕ) → ((at : ℕ) → times at sectors ≤ times at (file_sectors v)) → ((at : ℕ) → Contains sectors at → Contains (file_sectors v) at) → length sectors ≤ 2147483648
  part_few sectors part inside = omega (
    arith,
    few,
    was.fit,
    few_listed (blocks_end v) sectors (λ at. omega (arith, part at, was.apart at, times-append at (2 ∷ []) (file_sectors v))) (λ at stands. was.inside at (inside at stands)),
  )

  extents_few : length (sectors_of_tree v.extents.file) ≤ 2147483648
  extents_few = part_few (sectors_of_tree v.extents.file) (λ at. omega (arith, times-append at (sectors_of_tree v.extents.file) (sectors_of_tree v.catalog.file ++ (attribute_sectors v ++ map_sectors v))))
      (λ at stands. Contains-append_left (sectors_of_tree v.extents.file) (sectors_of_tree v.catalog.file ++ (attribute_sectors v ++ map_sectors v)) at stands)

  catalog_few : length (sectors_of_tree v.catalog.file) ≤ 2147483648
  catalog_few = part_few (sectors_of_tree v.catalog.file)
      (λ at. omega (arith, times-append at (sectors_of_tree v.extents.file) (sectors_of_tree v.catalog.file ++ (attribute_sectors v ++ map_sectors v)), times-append at (sectors_of_tree v.catalog.file) (attribute_sectors v ++ map_sectors v)))
      (λ at stands. Contains-append_right (sectors_of_tree v.extents.file) (sectors_of_tree v.catalog.file ++ (attribute_sectors v ++ map_sectors v)) at
      (Contains-append_left (sectors_of_tree v.catalog.file) (attribute_sectors v ++ map_sectors v) at stands))

  attributes_few : IsTrue (has_attributes v.header) → length (sectors_of_tree v.attributes.file) ≤ 2147483648
  attributes_few has = subst (λ (l : List ℕ). length l ≤ 2147483648) (there_is (has_attributes v.header) (sectors_of_tree v.attributes.file) has)
      (part_few (attribute_sectors v)
      (λ at. omega (arith, times-append at (sectors_of_tree v.extents.file) (sectors_of_tree v.catalog.file ++ (attribute_sectors v ++ map_sectors v)), times-append at (sectors_of_tree v.catalog.file) (attribute_sectors v ++ map_sectors v), times-append at (attribute_sectors v) (map_sectors v)))
      (λ at stands. Contains-append_right (sectors_of_tree v.extents.file) (sectors_of_tree v.catalog.file ++ (attribute_sectors v ++ map_sectors v)) at
      (Contains-append_right (sectors_of_tree v.catalog.file) (attribute_sectors v ++ map_sectors v) at
      (Contains-append_left (attribute_sectors v) (map_sectors v) at stands))))

  usual_first : IsUsual extents_key (first_tree (volume_of a.content))
  usual_first = subst (λ (f : TreeFacts). IsUsual extents_key (cost_of_tree f (extents_in_use (volume_of a.content) extents_id (volume_of a.content).head.extents_fork))) (sym (ap (λ (l : VolumeState). l.extents_tree) settled.lists))
      (usual_of extents_key v.extents.file a (extents_in_use (volume_of a.content) extents_id (volume_of a.content).head.extents_fork) extents_few (omega (arith, (node_size_low v.extents.file.shape.node_size (state_well_formed [] v.extents.file a).node_size).0)))

  usual_second : IsUsual catalog_key (second_tree (volume_of a.content))
  usual_second =
      let holds = was.trees.catalog in
      subst (λ (f : TreeFacts). IsUsual catalog_key (cost_of_tree f (extents_in_use (volume_of a.content) catalog_id (volume_of a.content).head.catalog_fork))) (sym (ap (λ (l : VolumeState). l.catalog_tree) settled.lists))
      (usual_of catalog_key v.catalog.file a (extents_in_use (volume_of a.content) catalog_id (volume_of a.content).head.catalog_fork) catalog_few (omega (arith, was.trees.catalog.file.has_form.least, size_is v.catalog.file a.content was.trees.catalog.stands)))

  usual_third : IsTrue (has_attributes v.header) → IsUsual attributes_key (third_tree (volume_of a.content))
  usual_third has =
      let holds = was.trees.attributes has in
      subst (λ (t : TreeCost). IsUsual attributes_key t)
      (sym (ap (λ b. if b then cost_of_tree (volume_of a.content).attributes_tree (extents_in_use (volume_of a.content) attributes_id (volume_of a.content).head.attributes_fork) else no_tree) (ap (λ (l : VolumeState). has_attributes l.head) settled.lists ∙ has)))
      (subst (λ (f : TreeFacts). IsUsual attributes_key (cost_of_tree f (extents_in_use (volume_of a.content) attributes_id (volume_of a.content).head.attributes_fork))) (sym (settled.attributes has))
      (usual_of attributes_key v.attributes.file a (extents_in_use (volume_of a.content) attributes_id (volume_of a.content).head.attributes_fork) (attributes_few has) (omega (arith, holds.file.has_form.least, size_is v.attributes.file a.content holds.stands))))

  -- by the room that the volume keeps a command costs what it costs by its content's
  pub cost_kept : GrowsByEnough → v.header.block_size ≤ 65536 → (free : FreeBlocks) (needs : Needs) → (0 < slice_index needs.edits 2 → IsTrue (has_attributes v.header))
      → cost_of needs (room_on free v) ≡ cost_of needs (room_with v.capacity (free_in free v.map) (volume_of a.content))
  cost_kept law low free needs tree = cost_by free v a.content settled was.forks law low usual_first usual_second needs (λ some. usual_third (tree some))

-- where held blocks count as free, it is the content's
pub free_content : (v : Volume) (content : Content) → IsSettled v content → free_in blocks.All v.map ≡ free_blocks (volume_of content)
free_content v content settled = free_is v content settled ∙ sym (ap free_blocks settled.lists)
