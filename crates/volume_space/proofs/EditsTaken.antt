-- What the edits of the extents overflow file that store a fork take of a space, by what the load counts for them.
use Rattle.std.proofs.Common.{◌≡◌, ◌≤◌, ℕ, ◌+◌, ◌-◌, ◌*◌, ◌==◌, ◌&&◌, Bool, true, false, List, length, min, refl, sym, ap, subst, arith, mul-le-mul_left, zero-mul, ◌/◌}
use Rattle.overflow.specs.Changes.{are_light}
use Rattle.std.proofs.Math.Nat.{mul-le-mul_right}
use Rattle.btree_edit.specs.Editing.{CostsAtMost, edit_writes}
use Rattle.std.specs.Prelude.{IsTrue, not, if◌then◌else◌}
use Rattle.std.specs.List.{range_with_len}
use Rattle.std.proofs.lemmas.List.FromFn.{length-range_with_len}
use Rattle.std.proofs.lemmas.List.Sums.{count_by-le-length}
use Rattle.hx_bytes.specs.declared.extents.Extent.{Extent}
use Rattle.sector_disk.specs.Space.{Space}
use Rattle.btree_node.specs.Store.{SameStore, Store, IsWellFormed, unwritten_sectors}
use Rattle.btree_edit.specs.Edits.{TakesAtMost}
use Rattle.btree_edit.proofs.EditLaws.{takes_fewer}
use Rattle.btree_file.specs.FrameLaws.{state_well_formed}
use Rattle.btree_file.specs.State.{is_written, state_of}
use Rattle.btree_file.specs.declared.tree.TreeFile.{TreeFile}
use Rattle.hfs_volume.specs.Cost.{depth_of, growth, growth_for, growth_writes, missing, node_sectors, overflow_records, rises, takes_extent, tree_load}
use Rattle.hfs_volume.specs.Forks.{in_use}
use Rattle.hfs_volume.specs.declared.cost.TreeCost.{TreeCost}
use Rattle.overflow.specs.Reading.{fork_records}
use Rattle.overflow.specs.Room.{changes_for, edits_for}
use Rattle.tree_weights.specs.Weights.{EditsTakeTheirLoad, HasGrown, HoldsThree, IsWrittenByGrowth}
use Rattle.volume_space.specs.Spreading.{cost_of_shape, edits_load, ChangesFew, light_load}
use Rattle.volume_space.proofs.ExtentRoom.{edits_few, some_node}

-- edits of a tree that didn't grow put no more sectors than the load counts for as many or more
pub edits_taken : (law : EditsTakeTheirLoad) (names : List ℕ) (tree : TreeFile) (a : Space) (new : Store) (few many : ℕ) → IsTrue a.tells → SameStore (state_of names tree a) new → TakesAtMost few 10 (state_of names tree a) new → few ≤ many
    → a.spare ≤ new.sectors_left + edits_load tree.shape many
edits_taken law names tree a new few many tells same taken more = omega (
  arith,
  law 10 many 0 0 (cost_of_shape tree.shape) (state_of names tree a) new tells three grown written same (subst (λ n. TakesAtMost n 10 (state_of names tree a) new) (sym sum) (takes_fewer few (many - few) 10 (state_of names tree a) new taken)),
)
  where
    sum : many ≡ few + (many - few)
    sum = omega (arith, more)

    three : HoldsThree 10 (cost_of_shape tree.shape)
    three = let large = some_node tree.shape.node_size (state_well_formed names tree a).node_size in omega (arith, large)

    grown : HasGrown (cost_of_shape tree.shape) 0 (state_of names tree a)
    grown = record { node_size = refl; depth = refl; records = refl; total = omega arith; free = omega arith }

    written : IsWrittenByGrowth (cost_of_shape tree.shape) 0 0 (state_of names tree a)
    written = record {
      few = omega arith;
      others = omega (arith, count_by-le-length (λ n. not (is_written tree a.put n)) (range_with_len 0 tree.shape.total), length-range_with_len 0 tree.shape.total);
    }

-- nor do the edits that store a fork, where they are no more than so many
pub stored_taken : (law : EditsTakeTheirLoad) (names : List ℕ) (tree : TreeFile) (a : Space) (new : Store) (id kind : ℕ) (list : List Extent) (many : ℕ) → IsTrue a.tells → SameStore (state_of names tree a) new
    → TakesAtMost (edits_for (state_of names tree a) id kind list) 10 (state_of names tree a) new → ((others : List ℕ) → edits_for (state_of others tree a) id kind list ≤ many) → a.spare ≤ new.sectors_left + edits_load tree.shape many
stored_taken law names tree a new id kind list many tells same taken low = edits_taken law names tree a new (edits_for (state_of names tree a) id kind list) many tells same taken (low names)

-- what takes no free node puts no more sectors than so many nodes have, or all that there are
pub light_cost : (old new : Store) (most : ℕ) → IsWellFormed old → CostsAtMost most 0 old new → old.sectors_left ≤ new.sectors_left + old.shape.node_size / 512 * min most old.shape.total
unfolding unwritten_sectors
light_cost old new most formed costs =
    let few : old.unwritten ≤ old.shape.total = omega (arith, formed.unwritten, count_by-le-length (λ n. not (old.written n)) (range_with_len 0 old.shape.total), length-range_with_len 0 old.shape.total) in
    let least : old.unwritten - new.unwritten ≤ min most old.shape.total = omega (arith, few, costs.some) in
    let it = mul-le-mul_left (old.shape.node_size / 512) least in
    let size = ap (λ n. new.unwritten * (n / 512)) costs.same.node_size in
    let parts : old.unwritten ≡ new.unwritten + (old.unwritten - new.unwritten) = omega (arith, costs.fewer) in
    let product = ap (λ n. n * (old.shape.node_size / 512)) parts in
    omega (arith, costs.sectors, it, size, product)

-- changes that store a fork and add no record put no more than so many write, where they are no more
pub light_taken : (names : List ℕ) (tree : TreeFile) (a : Space) (new : Store) (id kind : ℕ) (list : List Extent) (many : ℕ)
    → (are_light (changes_for (state_of names tree a) id kind list) ≡ true → CostsAtMost (edits_for (state_of names tree a) id kind list * edit_writes tree.shape.depth) 0 (state_of names tree a) new)
    → ((others : List ℕ) → ChangesFew many (state_of others tree a) id kind list) → a.spare ≤ new.sectors_left + light_load tree.shape many
light_taken names tree a new id kind list many costs few =
    let cost = light_cost (state_of names tree a) new (edits_for (state_of names tree a) id kind list * edit_writes tree.shape.depth) (state_well_formed names tree a) (costs (few names).0) in
    let more : min (edits_for (state_of names tree a) id kind list * edit_writes tree.shape.depth) tree.shape.total ≤ min (many * edit_writes tree.shape.depth) tree.shape.total =
    omega (arith, mul-le-mul_right {m = edits_for (state_of names tree a) id kind list} {n = many} (edit_writes tree.shape.depth) (few names).1) in
    omega (arith, cost, mul-le-mul_left (tree.shape.node_size / 512) more)

-- the edits that store a fork are no more than its records and those of so many extents
pub edits_low : (store : Store) (id kind records : ℕ) (new : List Extent) (most : ℕ) → records ≡ length (fork_records id kind store) → in_use new ≡ new → length new ≤ most → edits_for store id kind new ≤ records + overflow_records most
edits_low store id kind records new most has used few = omega (arith, edits_few store id kind records new has used, few)

-- ---- what the load of a command counts for a tree

-- no edit lacks a node
pub none_lacks : (block key : ℕ) (tree : TreeCost) → growth block key tree 0 ≡ 0
none_lacks block key tree = ap (λ n. if n == 0 then 0 else growth_for block tree n) none
  where
    none : missing key tree 0 ≡ 0
    none = let it : 0 * (depth_of tree + 2 + rises key tree 0) ≡ 0 = zero-mul (depth_of tree + 2 + rises key tree 0) in omega (arith, it)

-- a tree that no edit is counted for takes no extent
pub takes_none : (block key : ℕ) (tree : TreeCost) → takes_extent tree (growth block key tree 0) ≡ 0
takes_none block key tree = ap (λ n. takes_extent tree n) (none_lacks block key tree)

-- a growth adds to what edits put
pub load_grown : (key edits more : ℕ) (tree : TreeCost) → tree_load key tree edits 0 ≤ tree_load key tree edits more
load_grown key edits more tree = by (edits == 0) refl
  where
    by : (b : Bool) → (edits == 0) ≡ b → tree_load key tree edits 0 ≤ tree_load key tree edits more
    by true is = subst (λ c. (if c && true then 0 else node_sectors tree * min (edits * (4 * (depth_of tree + 2 + rises key tree edits) + 4) + 0) (tree.nodes + 0)) ≤ tree_load key tree edits more) (sym is) (omega arith)
    by false is =
        subst (λ c. (if c && true then 0 else node_sectors tree * min (edits * (4 * (depth_of tree + 2 + rises key tree edits) + 4) + 0) (tree.nodes + 0)) ≤ (if c && (more == 0) then 0 else node_sectors tree * min (edits * (4 * (depth_of tree + 2 + rises key tree edits) + 4) + growth_writes tree more) (tree.nodes + more))) (sym is)
        (mul-le-mul_left (node_sectors tree) (omega arith))
