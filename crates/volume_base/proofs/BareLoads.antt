-- The load of `rmdir` counts the attributes of the folder.
use Rattle.std.proofs.Common.{◌≡◌, ◌≤◌, ℕ, ◌+◌, ◌*◌, ◌/◌, Bool, true, false, List, [], ◌∷◌, ◌++◌, length, map, refl, sym, ◌∙◌, ap, subst, arith, mul-le-mul_left}
use Rattle.std.specs.Prelude.{◌==◌, ◌&&◌, Contains, IsTrue, None, Option, Some, Result, Ok, min, sum, if◌then◌else◌}
use Rattle.std.specs.List.{flat_map}
use Rattle.std.proofs.lemmas.Bool.{eqb-true}
use Rattle.std.proofs.lemmas.List.{length-map}
use Rattle.sector_disk.specs.Lists.{Content}
use Rattle.sector_disk.specs.Space.{Space}
use Rattle.attributes.specs.Owned.{names_of}
use Rattle.btree_node.specs.Levels.{Pair}
use Rattle.btree_file.specs.Standing.{pairs_in}
use Rattle.btree_file.specs.State.{sectors_of_tree}
use Rattle.hfs_language.specs.declared.command.Command.TheVariants as command
use Rattle.hfs_language.specs.declared.refusal.Refusal.{Refusal}
use Rattle.hfs_model.specs.Plain.{is_node, node_at}
use Rattle.hfs_model.specs.Sorted.{kept}
use Rattle.hfs_model.specs.Step.{to_rmdir}
use Rattle.hfs_model.specs.declared.plain.PlainAttribute.{PlainAttribute}
use Rattle.hfs_model.specs.declared.plain.PlainEntry.{PlainEntry}
use Rattle.hfs_model.specs.declared.plain.PlainNode.{PlainNode}
use Rattle.hfs_model.specs.declared.plain.PlainTree.{PlainTree}
use Rattle.volume_header.specs.declared.header.VolumeHeader.{VolumeHeader}
use Rattle.hfs_volume.specs.Books.{SoundHasPlainTree}
use Rattle.hfs_volume.specs.Content.{VolumeState, attributes_of, has_attributes, records_of, volume_of}
use Rattle.flag_rows.specs.Bits.{sectors_for}
use Rattle.hfs_volume.specs.Cost.{attributes_key, bitmap_load, catalog_key, cost_of, depth_of, growth, growth_blocks, load_of, new_maps, no_tree, node_sectors, plan_of, resource_refusal, rises, tree_at, tree_load}
use Rattle.hfs_volume.specs.Forks.{attributes_id, catalog_id, parts_for}
use Rattle.hfs_volume.specs.Records.{Attribute}
use Rattle.hfs_volume.specs.TreeOf.{bytes_in, plain_attribute, plain_attributes, seen_entry, tree_in, tree_of, valued}
use Rattle.hfs_volume.specs.Weight.{attribute_count, cost_of_tree, edits, extents_in_use, free_blocks, freed_blocks, further_records, needs_for, removed_values, rmdir_edits, room_with, values_of_node, weight, weight_with, with_values}
use Rattle.hfs_volume.specs.declared.cost.Needs.{Needs}
use Rattle.hfs_volume.specs.declared.cost.Room.{Room}
use Rattle.hfs_volume.specs.declared.cost.ValueChange.{ValueChange}
use Rattle.hfs_volume.specs.declared.cost.Cost.TheVariants as cost
use Rattle.hfs_volume.specs.declared.cost.TreeCost.{TreeCost}
use Rattle.hfs_volume.proofs.Flat.{found_some}
use Rattle.hfs_volume.proofs.FoundValue.{valued_names}
use Rattle.hfs_volume.proofs.Reaching.{seen_stands}
use Rattle.volume_base.specs.Lists.{lists_of}
use Rattle.volume_base.specs.Looking.{ReadsVolume}
use Rattle.volume_base.specs.Making.{catalog_cost, entry_load}
use Rattle.volume_base.specs.Attributing.{attributes_cost}
use Rattle.volume_base.specs.Removing.{IsLeaving, bare_load, folder_at, owned_at, records_owned, remove_load}
use Rattle.volume_base.specs.Values.{values_owned}
use Rattle.volume_base.specs.declared.value_changes.OwnedValues.{OwnedValues}
use Rattle.volume_base.specs.Standing.{IsSettled, IsStanding}
use Rattle.volume_base.specs.declared.removing.Leaving.{Leaving}
use Rattle.volume_base.specs.declared.volume.Volume.{Volume}
use Rattle.volume_base.proofs.Emptied.{left}
use Rattle.volume_base.proofs.Identities.{node_attributes}
use Rattle.volume_base.proofs.Listed.{entries_are}
use Rattle.volume_base.proofs.Loads.{growth_any, load_is}
use Rattle.volume_base.proofs.Rising.{settled_is_plain}
use Rattle.volume_base.proofs.Still.{lists_still}

-- ---- the attributes of a folder

nodes_are : (content : Content) (n : PlainNode) → Contains (tree_of content).nodes n → n.attributes ≡ plain_attributes (valued (bytes_in content) (attributes_of (volume_of content))) n.id
unfolding tree_of tree_in
nodes_are content n stands = node_attributes (valued (bytes_in content) (attributes_of (volume_of content))) (records_of (volume_of content)) (bytes_in content) n stands

-- an attribute as users see it has its name
plain_names : (attributes : List Attribute) → map (λ (a : PlainAttribute). a.name) (map plain_attribute attributes) ≡ map (λ (a : Attribute). a.name) attributes
plain_names [] = refl
plain_names (a ∷ rest) = ap (λ l. a.name ∷ l) (plain_names rest)

by_names : {X : Type 0} (f : List ℕ → X) (attributes : List PlainAttribute) → map (λ (a : PlainAttribute). f a.name) attributes ≡ map f (map (λ (a : PlainAttribute). a.name) attributes)
by_names f [] = refl
by_names f (a ∷ rest) = ap (λ l. f a.name ∷ l) (by_names f rest)

-- The node of a CNID in a tree, with the names of its attributes.
record HasNode (content : Content) (id : ℕ) : Type 0 where
  node : PlainNode
  at : node_at (tree_of content) id ≡ Some node
  same : node.id ≡ id
  names : map (λ (a : PlainAttribute). a.name) node.attributes ≡ names_of id (volume_of content).attribute_pairs

module _ (law : SoundHasPlainTree) (v : Volume) (a : Space) (was : IsStanding v a) (settled : IsSettled v a.content) (at : Leaving) (name : List ℕ) (leaving : IsLeaving (tree_of a.content) at name) where
  its_node : HasNode a.content at.id
  its_node =
      let seen = (left v a was settled at name leaving).0 in
      let stands : Contains (tree_of a.content).entries (folder_at at name) =
      subst (λ l. Contains l (folder_at at name)) (sym (entries_are a.content)) (subst (λ (e : PlainEntry). Contains (flat_map (seen_entry (records_of (volume_of a.content))) (records_of (volume_of a.content))) e) seen.is (seen_stands (records_of (volume_of a.content)) seen.placed seen.stands seen.seen)) in
      let named = ((settled_is_plain law v a.content was.trees settled).named (folder_at at name) stands).named in
      let it = found_some (is_node at.id) (tree_of a.content).nodes named.0 named.1 in
      let same : named.0.attributes ≡ plain_attributes (valued (bytes_in a.content) (attributes_of (volume_of a.content))) at.id =
      nodes_are a.content named.0 it.0 ∙ ap (plain_attributes (valued (bytes_in a.content) (attributes_of (volume_of a.content)))) (eqb-true named.0.id at.id it.1) in
      record {
        node = named.0;
        at = named.1;
        same = eqb-true named.0.id at.id it.1;
        names = ap (map (λ (x : PlainAttribute). x.name)) same ∙ plain_names (kept (λ (x : Attribute). x.id == at.id) (valued (bytes_in a.content) (attributes_of (volume_of a.content)))) ∙ valued_names (bytes_in a.content) (attributes_of (volume_of a.content)) at.id;
      }

  -- the step counts as many attributes as there are names
  pub owner_count : attribute_count (node_at (tree_of a.content) at.id) ≡ length (names_of at.id (volume_of a.content).attribute_pairs)
  owner_count =
      let it = its_node in
      ap attribute_count it.at ∙ sym (length-map it.node.attributes (λ (x : PlainAttribute). x.name)) ∙ ap (λ l. length l) it.names

  -- and what becomes of their values is told by the names
  pub owner_values : values_of_node (volume_of a.content) (node_at (tree_of a.content) at.id) ≡ Some (values_owned (volume_of a.content) at.id)
  owner_values =
      let it = its_node in
      let summed : (f : List ℕ → ℕ) → sum (map (λ (x : PlainAttribute). f x.name) it.node.attributes) ≡ sum (map f (names_of at.id (volume_of a.content).attribute_pairs)) =
      λ f. ap sum (by_names f it.node.attributes ∙ ap (map f) it.names) in
      ap (values_of_node (volume_of a.content)) it.at
      ∙ (λ i. Some (record {
        records = (ap (λ id. sum (map (λ (x : PlainAttribute). further_records (volume_of a.content) id x.name) it.node.attributes)) it.same ∙ summed (further_records (volume_of a.content) at.id)) i;
        freed = (ap (λ id. sum (map (λ (x : PlainAttribute). freed_blocks (volume_of a.content) id x.name) it.node.attributes)) it.same ∙ summed (freed_blocks (volume_of a.content) at.id)) i;
        blocks = 0;
      }))

-- ---- the load

-- what removes a folder with so many edits of the attributes file, and gives so many blocks back
abbrev removing : ℕ → ℕ → Needs
removing attributes freed = record { ids = 0; edits = 0 ∷ 2 ∷ attributes ∷ []; updates = 1; new_blocks = 0; old_blocks = freed; runs = 0 }

bitmap_least : (needs : Needs) (room : Room) (blocks : ℕ) → min (parts_for room.total 4096) (needs.new_blocks / 4096 + 2 * needs.runs + needs.old_blocks) ≤ bitmap_load needs room blocks
bitmap_least needs room blocks = omega arith

counts_all : (free : List Bool) (capacity : ℕ) (volume : VolumeState) (attributes freed : ℕ) (n : ℕ) (grow : List ℕ) → cost_of (removing attributes freed) (room_with capacity free volume) ≡ cost.Load n grow
    → 1 + 1 * (volume.catalog_tree.shape.node_size / 512)
    + tree_load catalog_key (cost_of_tree volume.catalog_tree (extents_in_use volume catalog_id volume.head.catalog_fork)) 2
    (growth volume.head.block_size catalog_key (cost_of_tree volume.catalog_tree (extents_in_use volume catalog_id volume.head.catalog_fork)) 2)
    + tree_load attributes_key (tree_at (room_with capacity free volume) 2) attributes (growth volume.head.block_size attributes_key (tree_at (room_with capacity free volume) 2) attributes)
    + min (parts_for volume.head.total_blocks 4096) freed ≤ n
unfolding cost_of load_of room_with
counts_all free capacity volume attributes freed n grow is =
    omega (
      arith,
      load_is (resource_refusal (removing attributes freed) (room_with capacity free volume) (plan_of (removing attributes freed) (room_with capacity free volume)))
          (load_of (removing attributes freed) (room_with capacity free volume) (plan_of (removing attributes freed) (room_with capacity free volume))) n _ grow is,
      bitmap_least (removing attributes freed) (room_with capacity free volume) (growth_blocks (plan_of (removing attributes freed) (room_with capacity free volume)) (room_with capacity free volume)),
    )

third_tree : (free : List Bool) (capacity : ℕ) (volume : VolumeState) → IsTrue (has_attributes volume.head)
    → tree_at (room_with capacity free volume) 2 ≡ cost_of_tree volume.attributes_tree (extents_in_use volume attributes_id volume.head.attributes_fork)
unfolding room_with
third_tree free capacity volume has = ap (λ b. if b then cost_of_tree volume.attributes_tree (extents_in_use volume attributes_id volume.head.attributes_fork) else no_tree) has

-- a tree that grows takes no less
min_more : (a b c d : ℕ) → a ≤ c → b ≤ d → min a b ≤ min c d
min_more a b c d one two = omega (arith, one, two)

load_more : (key many more : ℕ) (tree : TreeCost) → tree_load key tree many 0 ≤ tree_load key tree many more
load_more key many more tree = by (many == 0) (more == 0)
  where
    writes : ℕ
    writes = many * (4 * (depth_of tree + 2 + rises key tree many) + 4)

    less : (m : Bool) → many * (4 * (depth_of tree + 2 + rises key tree many) + 4) + 0 ≤ many * (4 * (depth_of tree + 2 + rises key tree many) + 4) + (if m then 0 else 2 + new_maps tree more)
    less true = omega arith
    less false = omega arith

    by : (e m : Bool) → (if e && true then 0 else node_sectors tree * min (many * (4 * (depth_of tree + 2 + rises key tree many) + 4) + 0) (tree.nodes + 0))
        ≤ (if e && m then 0 else node_sectors tree * min (many * (4 * (depth_of tree + 2 + rises key tree many) + 4) + (if m then 0 else 2 + new_maps tree more)) (tree.nodes + more))
    by true true = omega arith
    by true false = omega arith
    by false m = mul-le-mul_left {m = min (many * (4 * (depth_of tree + 2 + rises key tree many) + 4) + 0) (tree.nodes + 0)} {n = min (many * (4 * (depth_of tree + 2 + rises key tree many) + 4) + (if m then 0 else 2 + new_maps tree more)) (tree.nodes + more)} (node_sectors tree)
        (min_more (many * (4 * (depth_of tree + 2 + rises key tree many) + 4) + 0) (tree.nodes + 0) (many * (4 * (depth_of tree + 2 + rises key tree many) + 4) + (if m then 0 else 2 + new_maps tree more)) (tree.nodes + more) (less m) (omega arith))

removing_all : (capacity : ℕ) (volume : VolumeState) (path : List (List ℕ)) (tree : PlainTree) (at : PlainEntry) (owned : OwnedValues) (n : ℕ) (grow : List ℕ) → to_rmdir tree path ≡ Ok at → attribute_count (node_at tree at.id) ≡ owned.count
    → values_of_node volume (node_at tree at.id) ≡ Some owned.change → owned.change.blocks ≡ 0 → weight capacity volume tree (command.Rmdir path) ≡ cost.Load n grow
    → cost_of (removing (owned.count + owned.change.records) owned.change.freed) (room_with capacity (free_blocks volume) volume) ≡ cost.Load n grow
unfolding weight_with
removing_all capacity volume path tree at owned n grow allowed counted changed none is =
    let of : Result PlainEntry Refusal → Needs = λ r. with_values (free_blocks volume) (removed_values volume tree r) (needs_for (free_blocks volume) volume (rmdir_edits tree r) None) in
    let by_count : ℕ → Option ValueChange → Needs = λ many change. with_values (free_blocks volume) change (needs_for (free_blocks volume) volume (edits 0 2 many 1) None) in
    let by_blocks : ℕ → Needs = λ blocks. by_count owned.count (Some (record { records = owned.change.records; freed = owned.change.freed; blocks = blocks })) in
    let no_more : owned.count + owned.change.records ≡ owned.count + owned.change.records + 0 = omega arith in
    (λ i. cost_of (removing (no_more i) owned.change.freed) (room_with capacity (free_blocks volume) volume))
    ∙ (λ i. cost_of (by_blocks (sym none i)) (room_with capacity (free_blocks volume) volume))
    ∙ (λ i. cost_of (by_count (sym counted i) (sym changed i)) (room_with capacity (free_blocks volume) volume))
    ∙ (λ i. cost_of (of (sym allowed i)) (room_with capacity (free_blocks volume) volume))
    ∙ is

module _ (law : SoundHasPlainTree) (v : Volume) (a : Space) (was : IsStanding v a) (settled : IsSettled v a.content) (none : growth v.header.block_size catalog_key (catalog_cost v) 2 ≡ 0) (capacity : ℕ) (path : List (List ℕ)) (at : Leaving) (name : List ℕ) where
  abbrev volume : VolumeState
  volume = volume_of a.content

  abbrev extents : ℕ
  extents = extents_in_use (volume_of a.content) catalog_id (volume_of a.content).head.catalog_fork

  same : growth (volume_of a.content).head.block_size catalog_key (cost_of_tree (volume_of a.content).catalog_tree extents) 2 ≡ 0
  same = growth_any (volume_of a.content).head.block_size catalog_key 2 extents 0 (volume_of a.content).catalog_tree ∙ (λ i. growth (settled.lists i).head.block_size catalog_key (cost_of_tree (settled.lists i).catalog_tree 0) 2) ∙ none

  load : tree_load catalog_key (cost_of_tree (volume_of a.content).catalog_tree extents) 2 (growth (volume_of a.content).head.block_size catalog_key (cost_of_tree (volume_of a.content).catalog_tree extents) 2) ≡ entry_load v
  load = ap (tree_load catalog_key (cost_of_tree (volume_of a.content).catalog_tree extents) 2) same ∙ (λ i. tree_load catalog_key (cost_of_tree (settled.lists i).catalog_tree 0) 2 0)

  abbrev third : TreeCost
  third = tree_at (room_with capacity (free_blocks (volume_of a.content)) (volume_of a.content)) 2

  -- the records are counted, or there are none
  owned_load : (k : ℕ) → (has_attributes v.header ≡ false → k ≡ 0) → (g : ℕ) → tree_load attributes_key (attributes_cost v) k 0 ≤ tree_load attributes_key third k g
  owned_load k nothing g = by (has_attributes v.header) refl
    where
      by : (b : Bool) → has_attributes v.header ≡ b → tree_load attributes_key (attributes_cost v) k 0 ≤ tree_load attributes_key third k g
      by true has =
          let head : (volume_of a.content).head ≡ v.header = ap (λ (l : VolumeState). l.head) settled.lists in
          let is_third = third_tree (free_blocks (volume_of a.content)) capacity (volume_of a.content) (subst (λ (h : VolumeHeader). IsTrue (has_attributes h)) (sym head) has) in
          let counted : tree_load attributes_key third k 0 ≡ tree_load attributes_key (attributes_cost v) k 0 =
          ap (λ (t : TreeCost). tree_load attributes_key t k 0) is_third ∙ (λ i. tree_load attributes_key (cost_of_tree (settled.attributes has i) 0) k 0) in
          omega (arith, counted, load_more attributes_key k g third)
      by false hasnt = subst (λ n. tree_load attributes_key (attributes_cost v) n 0 ≤ tree_load attributes_key third n g) (sym (nothing hasnt)) (omega arith)

  -- without an attributes file there are none
  no_records : has_attributes v.header ≡ false → records_owned (owned_at at.id (volume_of a.content)) ≡ 0
  no_records hasnt =
      let nothing : (volume_of a.content).attribute_pairs ≡ [] = ap (λ (l : VolumeState). l.attribute_pairs) settled.lists ∙ ap (λ b. if b then pairs_in (sectors_of_tree v.attributes.file) a.content else []) hasnt in
      ap (λ (l : List Pair). length (names_of at.id l) + sum (map (λ name_. further_records (volume_of a.content) at.id name_) (names_of at.id l))) nothing

  total_is : parts_for (volume_of a.content).head.total_blocks 4096 ≡ sectors_for (length v.map.used)
  total_is = omega (arith, ap (λ (l : VolumeState). l.head.total_blocks) settled.lists, settled.blocks)

  pub remove_all_told : (n : ℕ) (grow : List ℕ) → IsLeaving (tree_of a.content) at name → to_rmdir (tree_of a.content) path ≡ Ok (folder_at at name)
      → weight capacity (volume_of a.content) (tree_of a.content) (command.Rmdir path) ≡ cost.Load n grow → bare_load (owned_at at.id (volume_of a.content)) v + remove_load v ≤ n
  remove_all_told n grow leaving allowed is =
      let owned : OwnedValues = owned_at at.id (volume_of a.content) in
      let cost_is = removing_all capacity (volume_of a.content) path (tree_of a.content) (folder_at at name) owned n grow allowed (owner_count law v a was settled at name leaving) (owner_values law v a was settled at name leaving) refl is in
      let all = counts_all (free_blocks (volume_of a.content)) capacity (volume_of a.content) (records_owned owned) owned.change.freed n grow cost_is in
      let third_load = owned_load (records_owned owned) no_records (growth (volume_of a.content).head.block_size attributes_key third (records_owned owned)) in
      omega (arith, all, third_load, load, ap (λ (l : VolumeState). l.catalog_tree.shape.node_size / 512) settled.lists, ap (λ k. min k owned.change.freed) total_is)

-- ---- reads leave the load

pub bare_load_still : (v w : Volume) (a b : Space) → ReadsVolume v w a b → IsTrue a.tells → (owned : OwnedValues) → bare_load owned w ≡ bare_load owned v
bare_load_still v w a b reads tells owned =
    λ i. tree_load attributes_key (cost_of_tree (lists_still v w a b reads tells i).attributes_tree 0) (records_owned owned) 0 + min (sectors_for (length (reads.keeps.map i).used)) owned.change.freed

pub names_still : (v w : Volume) (a b : Space) → ReadsVolume v w a b → IsTrue a.tells → (id : ℕ) → names_of id (lists_of w b.content).attribute_pairs ≡ names_of id (lists_of v a.content).attribute_pairs
names_still v w a b reads tells id = ap (λ (l : VolumeState). names_of id l.attribute_pairs) (lists_still v w a b reads tells)
