-- Room that the cost of edits tells.
use Rattle.std.proofs.Common.{◌≡◌, ◌<◌, ◌≤◌, ℕ, ◌+◌, ◌-◌, ◌*◌, ◌/◌, ◌^◌, Bool, true, false, List, refl, sym, ◌∙◌, ap, subst, arith, mul-le-mul_right}
use Rattle.std.specs.Prelude.{◌==◌, ◌&&◌, nat_le, slice_index, IsTrue, if◌then◌else◌}
use Rattle.std.proofs.lemmas.Bool.{and_parts, eqb-true, leb-true, true≢false}
use Rattle.sector_disk.specs.Space.{Space}
use Rattle.hfs_volume.specs.Content.{TreeFacts, VolumeState, has_attributes, volume_of}
use Rattle.hfs_volume.specs.Cost.{attributes_key, catalog_key, cost_of, growth, growth_for, is_too_deep, node_sectors, no_tree, plan_of, tree_at, tree_load}
use Rattle.hfs_volume.specs.Forks.{attributes_id, catalog_id}
use Rattle.hfs_volume.specs.Weight.{Edits as Asked, cost_of_tree, extents_in_use, room_with}
use Rattle.hfs_volume.specs.declared.cost.Cost.{Cost}
use Rattle.hfs_volume.specs.declared.cost.Cost.TheVariants as cost
use Rattle.hfs_volume.specs.declared.cost.Needs.{Needs}
use Rattle.hfs_volume.specs.declared.cost.Room.{Room}
use Rattle.hfs_volume.specs.declared.cost.TreeCost.{TreeCost}
use Rattle.volume_header.specs.declared.header.VolumeHeader.{VolumeHeader}
use Rattle.tree_weights.specs.Weights.{IsAfforded, LoadIsOfParts, LoadSaysEnough, load_at}
use Rattle.volume_base.specs.Changing.{HasRoomToUpdate}
use Rattle.volume_base.specs.Fitting.{AreMet, is_met}
use Rattle.volume_base.specs.Lists.{facts_on}
use Rattle.volume_base.specs.Making.{HasRoomToMake}
use Rattle.volume_base.specs.Moving.{HasRoomToMove}
use Rattle.volume_base.specs.Unlinking.{HasRoomToUnlinkLast}
use Rattle.volume_base.specs.Removing.{HasRoomToRemove}
use Rattle.volume_base.specs.Room.{capacity_of, free_in}
use Rattle.volume_base.specs.declared.room.FreeBlocks.TheVariants as blocks
use Rattle.volume_base.specs.Standing.{IsSettled}
use Rattle.volume_base.specs.Weighing.{needs_asked}
use Rattle.volume_base.specs.declared.volume.Volume.{Volume}
use Rattle.volume_base.specs.declared.weighing.Edits.{Edits}

-- ---- a cost that is met

pub record IsMet (cost_ : Cost) (spare : ℕ) : Type 0 where
  pub load : ℕ
  pub grow : List ℕ
  pub is : cost_ ≡ cost.Load load grow
  pub catalog : slice_index grow 1 ≡ 0
  pub attributes : slice_index grow 2 ≡ 0
  pub fits : load ≤ spare

pub met : (cost_ : Cost) (spare : ℕ) → is_met cost_ spare ≡ true → IsMet cost_ spare
met (cost.Refused why) spare is = absurd (true≢false (sym is))
met (cost.Load load grow) spare is =
    let first = and_parts (slice_index grow 1 == 0) ((slice_index grow 2 == 0) && nat_le load spare) is in
    let second = and_parts (slice_index grow 2 == 0) (nat_le load spare) first.1 in
    record {
      load = load;
      grow = grow;
      is = refl;
      catalog = eqb-true (slice_index grow 1) 0 first.0;
      attributes = eqb-true (slice_index grow 2) 0 second.0;
      fits = leb-true load spare second.1;
    }

-- ---- the trees of a volume

module _ (capacity : ℕ) (free : List Bool) (volume : VolumeState) where
  pub block_is : (room_with capacity free volume).block ≡ volume.head.block_size
  unfolding room_with
  block_is = refl

  id_is : (room_with capacity free volume).next_id ≡ volume.head.next_catalog_id
  unfolding room_with
  id_is = refl

  pub catalog_is : tree_at (room_with capacity free volume) 1 ≡ cost_of_tree volume.catalog_tree (extents_in_use volume catalog_id volume.head.catalog_fork)
  unfolding room_with
  catalog_is = refl

  pub attributes_is : IsTrue (has_attributes volume.head) → tree_at (room_with capacity free volume) 2 ≡ cost_of_tree volume.attributes_tree (extents_in_use volume attributes_id volume.head.attributes_fork)
  unfolding room_with
  attributes_is has = ap (λ b. if b then cost_of_tree volume.attributes_tree (extents_in_use volume attributes_id volume.head.attributes_fork) else no_tree) has

-- growth doesn't hang on the extents of a tree
pub growth_alike : (block key edits : ℕ) (tree : TreeFacts) (extents : ℕ) → growth block key (cost_of_tree tree extents) edits ≡ growth block key (cost_of_tree tree 0) edits
unfolding growth_for
growth_alike block key edits tree extents = refl

-- what is known of one tree whose edits are afforded
pub record IsRoomy (block key edits spare others : ℕ) (tree : TreeFacts) : Type 0 where
  pub shallow : is_too_deep key (cost_of_tree tree 0) edits ≡ false
  pub none : growth block key (cost_of_tree tree 0) edits ≡ 0
  pub load : others + tree_load key (cost_of_tree tree 0) edits 0 ≤ spare

pub roomy : (block key edits spare others extents more : ℕ) (tree : TreeFacts) (cost_ : TreeCost) → cost_ ≡ cost_of_tree tree extents → is_too_deep key cost_ edits ≡ false → growth block key cost_ edits ≡ 0 → more ≡ 0
    → others + tree_load key cost_ edits more ≤ spare → IsRoomy block key edits spare others tree
roomy block key edits spare others extents more tree cost_ is shallow none no_more load = record {
  shallow = subst (λ t. is_too_deep key t edits ≡ false) is shallow;
  none = sym (growth_alike block key edits tree extents) ∙ subst (λ t. growth block key t edits ≡ 0) is none;
  load = subst (λ n. others + tree_load key (cost_of_tree tree 0) edits n ≤ spare) no_more (subst (λ t. others + tree_load key t edits more ≤ spare) is load);
}

module _ (says : LoadSaysEnough) (of_parts : LoadIsOfParts) (v : Volume) (a : Space) (settled : IsSettled v a.content) (asked : Edits)
    (ok : is_met (cost_of (needs_asked asked) (room_with (capacity_of v) (free_in blocks.Takable v.map) (volume_of a.content))) a.spare ≡ true)
  where
    abbrev room : Room
    room = room_with (capacity_of v) (free_in blocks.Takable v.map) (volume_of a.content)

    abbrev needs : Needs
    needs = needs_asked asked

    is : IsMet (cost_of needs room) a.spare
    is = met (cost_of needs room) a.spare ok

    afforded : IsAfforded needs room is.load is.grow
    afforded = says needs room is.load is.grow is.is

    parts : 1 + asked.updates * node_sectors (tree_at room 1) + load_at needs room 0 + load_at needs room 1 + load_at needs room 2 ≤ a.spare
    parts = let it = of_parts needs room is.load is.grow afforded in omega (arith, it, is.fits)

    same_catalog : (volume_of a.content).catalog_tree ≡ facts_on v.catalog.file
    same_catalog = ap (λ (l : VolumeState). l.catalog_tree) settled.lists

    same_head : (volume_of a.content).head ≡ v.header
    same_head = ap (λ (l : VolumeState). l.head) settled.lists

    node_is : node_sectors (tree_at room 1) ≡ v.catalog.file.shape.node_size / 512
    node_is = ap (λ (t : TreeCost). t.node_size / 512) (catalog_is (capacity_of v) (free_in blocks.Takable v.map) (volume_of a.content)) ∙ ap (λ (t : TreeFacts). t.shape.node_size / 512) same_catalog

    nodes_are : asked.updates * node_sectors (tree_at room 1) ≡ asked.updates * (v.catalog.file.shape.node_size / 512)
    nodes_are = ap (λ n. asked.updates * n) node_is

    no_catalog : slice_index (plan_of needs room).grow 1 ≡ 0
    no_catalog = sym (ap (λ l. slice_index l 1) afforded.grows) ∙ is.catalog

    pub catalog : IsRoomy v.header.block_size catalog_key asked.catalog a.spare (1 + asked.updates * (v.catalog.file.shape.node_size / 512)) (facts_on v.catalog.file)
    catalog =
        subst (λ (k : TreeFacts × VolumeHeader). IsRoomy k.1.block_size catalog_key asked.catalog a.spare (1 + asked.updates * (v.catalog.file.shape.node_size / 512)) k.0) {x = ((volume_of a.content).catalog_tree, (volume_of a.content).head)} {y = (facts_on v.catalog.file, v.header)}
        (λ i. (same_catalog i, same_head i))
        (subst (λ block. IsRoomy block catalog_key asked.catalog a.spare (1 + asked.updates * (v.catalog.file.shape.node_size / 512)) (volume_of a.content).catalog_tree) (block_is (capacity_of v) (free_in blocks.Takable v.map) (volume_of a.content))
        (roomy room.block catalog_key asked.catalog a.spare (1 + asked.updates * (v.catalog.file.shape.node_size / 512)) _ _ (volume_of a.content).catalog_tree (tree_at room 1) (catalog_is (capacity_of v) (free_in blocks.Takable v.map) (volume_of a.content))
        afforded.catalog no_catalog no_catalog (omega (arith, parts, nodes_are))))

    -- records are updated in place
    pub nodes_fit : asked.updates * (v.catalog.file.shape.node_size / 512) ≤ a.spare
    nodes_fit = omega (arith, parts, nodes_are)

    -- there are as many CNIDs
    pub ids_fit : v.header.next_catalog_id + asked.ids ≤ 4294967295
    ids_fit = omega (arith, afforded.ids, id_is (capacity_of v) (free_in blocks.Takable v.map) (volume_of a.content), ap (λ (h : VolumeHeader). h.next_catalog_id) same_head)

    -- and a sector may be put
    pub some_fit : 1 ≤ a.spare
    some_fit = omega (arith, parts)

-- ---- the rooms

mul_least : (n k : ℕ) → 1 ≤ k → n ≤ k * n
mul_least n k some = let it : 1 * n ≤ k * n = mul-le-mul_right n some in omega (arith, it)

module _ (says : LoadSaysEnough) (of_parts : LoadIsOfParts) (v : Volume) (a : Space) (settled : IsTrue a.tells → IsSettled v a.content) where
  abbrev Meets : Edits → Type 0
  Meets asked = IsTrue a.tells → is_met (cost_of (needs_asked asked) (room_with (capacity_of v) (free_in blocks.Takable v.map) (volume_of a.content))) a.spare ≡ true

  abbrev counted : Asked → Edits
  counted asked = record { ids = asked.ids; catalog = asked.catalog; attributes = asked.attributes; updates = asked.updates }

  -- and the tests that stand before that of the cost
  pub ids_pass : (asked : Asked) → IsTrue a.tells → AreMet asked v a → v.header.next_catalog_id + asked.ids ≤ 4294967295
  ids_pass asked tells ok = ids_fit says of_parts v a (settled tells) (counted asked) ok

  pub some_pass : (asked : Asked) → IsTrue a.tells → AreMet asked v a → 1 ≤ a.spare
  some_pass asked tells ok = some_fit says of_parts v a (settled tells) (counted asked) ok

  pub update_passes : (asked : Asked) → IsTrue a.tells → 1 ≤ asked.updates → AreMet asked v a → v.catalog.file.shape.node_size / 512 ≤ a.spare
  update_passes asked tells some ok = let it = nodes_fit says of_parts v a (settled tells) (counted asked) ok in omega (arith, it, mul_least (v.catalog.file.shape.node_size / 512) asked.updates some)

  pub make_fits : Meets (record { ids = 1; catalog = 2; attributes = 0; updates = 1 }) → v.header.next_catalog_id + 1 < 2 ^ 32 → 1 ≤ a.spare → HasRoomToMake v a
  make_fits ok ids some = record {
    ids = ids;
    some = some;
    told = λ tells. let it = catalog says of_parts v a (settled tells) (record { ids = 1; catalog = 2; attributes = 0; updates = 1 }) (ok tells) in (omega (arith, it.load), it.shallow, it.none);
  }

  pub remove_fits : Meets (record { ids = 0; catalog = 2; attributes = 0; updates = 1 }) → 1 ≤ a.spare → HasRoomToRemove v a
  remove_fits ok some = record {
    some = some;
    told = λ tells. let it = catalog says of_parts v a (settled tells) (record { ids = 0; catalog = 2; attributes = 0; updates = 1 }) (ok tells) in (omega (arith, it.load), it.shallow, it.none);
  }

  pub unlink_last_fits : Meets (record { ids = 0; catalog = 5; attributes = 0; updates = 4 }) → 1 ≤ a.spare → HasRoomToUnlinkLast v a
  unlink_last_fits ok some = record {
    some = some;
    told = λ tells. let it = catalog says of_parts v a (settled tells) (record { ids = 0; catalog = 5; attributes = 0; updates = 4 }) (ok tells) in (omega (arith, it.load), it.shallow, it.none);
  }

  pub move_fits : Meets (record { ids = 0; catalog = 3; attributes = 0; updates = 3 }) → HasRoomToMove v a
  move_fits ok = record {
    told = λ tells. let it = catalog says of_parts v a (settled tells) (record { ids = 0; catalog = 3; attributes = 0; updates = 3 }) (ok tells) in (omega (arith, it.load), it.shallow, it.none);
  }
