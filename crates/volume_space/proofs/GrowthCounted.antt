-- A growth that a load counts has the room that it takes.
use Rattle.std.proofs.Common.{◌≡◌, ◌≢◌, ◌⊎◌, inl, inr, ◌<◌, ◌≤◌, ℕ, ◌+◌, ◌-◌, ◌*◌, ◌/◌, ◌%◌, max, min, Bool, true, false, List, [], ◌∷◌, length, refl, sym, ◌∙◌, ap, subst, arith, ⊎_elim}
use Rattle.std.specs.Prelude.{Contains, ◌&&◌, ◌==◌, if◌then◌else◌, nat_le, nat_lt, None}
use Rattle.std.specs.Int.{is_power_of_two}
use Rattle.std.specs.Int.RustNames.{count_ones}
use Rattle.std.specs.List.{count_by}
use Rattle.std.proofs.Math.Nat.{mul-div_cancel, mul-le-mul_left, mul-le-mul_right, mul_comm, mul_left_comm, div-add-mod', zero-mul}
use Rattle.std.proofs.lemmas.Bool.{and_parts, cases_eq, eqb-true, ne_eqb}
use Rattle.std.proofs.lemmas.Nat.{ones_cat, ones_le_self}
use Rattle.hx_bytes.specs.declared.extents.ForkRecord.{ForkRecord}
use Rattle.flag_rows.specs.Runs.{longest_of, runs_of}
use Rattle.alloc_bitmap.specs.Apart.{times}
use Rattle.alloc_bitmap.specs.Map.{free_of}
use Rattle.btree_file.specs.Standing.{Stands}
use Rattle.btree_file.specs.State.{sectors_of_tree}
use Rattle.btree_file.specs.declared.tree.TreeFile.{TreeFile}
use Rattle.btree_node.specs.Node.{IsNodeSize}
use Rattle.sector_disk.specs.Space.{Space}
use Rattle.volume_header.specs.Refusal.{header_refusal, is_block_size, is_hfsx, is_volume_size}
use Rattle.volume_header.specs.declared.header.VolumeHeader.{VolumeHeader}
use Rattle.volume_header.specs.declared.refusal.HeaderRefusal.TheVariants.{BadGeometry, LimitSectors, NotHfsx}
use Rattle.hfs_volume.specs.Blocks.{HasTreeSize}
use Rattle.hfs_volume.specs.Cost.{bitmap_load, depth_of, growth, new_maps, node_sectors, rises, tree_load}
use Rattle.hfs_volume.specs.Forks.{parts_for, per_block_of}
use Rattle.hfs_volume.specs.Laws.{one_if}
use Rattle.hfs_volume.specs.Weight.{cost_of_tree}
use Rattle.hfs_volume.specs.declared.cost.Needs.{Needs}
use Rattle.hfs_volume.specs.declared.cost.Room.{Room}
use Rattle.hfs_volume.specs.declared.cost.TreeCost.{TreeCost}
use Rattle.hfs_volume.proofs.Counting.{count_cons}
use Rattle.hfs_volume.proofs.Members.{at_front, behind}
use Rattle.tree_weights.specs.Weights.{GrowsByEnough, HoldsThree}
use Rattle.volume_base.specs.Lists.{facts_on}
use Rattle.volume_base.specs.declared.volume.Volume.{Volume}
use Rattle.volume_base.proofs.Counted.{low_true, no_more}
use Rattle.volume_base.proofs.RoomKept.{node_size_low}
use Rattle.volume_base.proofs.SoundForks.{passed}
use Rattle.volume_cost.proofs.GrowthLaws.{div_le, parts_above}
use Rattle.volume_space.specs.Growing.{FileFits, blocks_filled, maps_among, nodes_load, run_load}
use Rattle.volume_space.specs.SpreadGrowth.{NumbersHaveRoom}
use Rattle.volume_space.proofs.GrowthUnits.{each_divides, fill_blocks, in_units, past_maps}

-- ---- map nodes

most_maps : (x e : ℕ) → 0 < e → x / e + min 1 (x % e) ≤ parts_for x e
most_maps x e some = ⊎_elim
    (λ (none : x % e ≡ 0). omega (arith, none, div_le x (x + e - 1) e some (omega (arith, some))))
    (λ (rest : x % e ≢ 0). omega (arith, rest, parts_above x e (x / e) some (omega (arith, rest, div-add-mod' x e))))
    (cases_eq (x % e) 0)

-- ---- what the load of a tree holds

and_false : (b : Bool) → (b && false) ≡ false
and_false true = refl
and_false false = refl

pub load_holds : (key edits more : ℕ) (tree : TreeCost) → 0 < more → 1 ≤ tree.nodes → new_maps tree more + 1 ≤ more → (2 + new_maps tree more) * node_sectors tree ≤ tree_load key tree edits more
load_holds key edits more tree some nodes past =
    let none : (more == 0) ≡ false = ne_eqb more 0 (λ e. omega (arith, e, some)) in
    let most : ℕ = min (edits * (4 * (depth_of tree + 2 + rises key tree edits) + 4) + (2 + new_maps tree more)) (tree.nodes + more) in
    let is : tree_load key tree edits more ≡ node_sectors tree * min (edits * (4 * (depth_of tree + 2 + rises key tree edits) + 4) + (2 + new_maps tree more)) (tree.nodes + more) =
    ap (λ b. if (edits == 0) && b then 0 else node_sectors tree * min (edits * (4 * (depth_of tree + 2 + rises key tree edits) + 4) + (if b then 0 else 2 + new_maps tree more)) (tree.nodes + more)) none
    ∙ ap (λ b. if b then 0 else node_sectors tree * min (edits * (4 * (depth_of tree + 2 + rises key tree edits) + 4) + (2 + new_maps tree more)) (tree.nodes + more)) (and_false (edits == 0)) in
    let low : 2 + new_maps tree more ≤ min (edits * (4 * (depth_of tree + 2 + rises key tree edits) + 4) + (2 + new_maps tree more)) (tree.nodes + more) = omega (arith, past, nodes) in
    subst (λ n. (2 + new_maps tree more) * node_sectors tree ≤ n) (mul_comm (min (edits * (4 * (depth_of tree + 2 + rises key tree edits) + 4) + (2 + new_maps tree more)) (tree.nodes + more)) (node_sectors tree) ∙ sym is) (mul-le-mul_right (node_sectors tree) low)

-- the sectors of the bitmap that a run changes are counted, too
pub run_counted_in : (needs : Needs) (room : Room) (v : Volume) (all blocks : ℕ) → room.total ≡ length v.map.used → blocks ≤ all → 0 < blocks → run_load v blocks ≤ bitmap_load needs room all
run_counted_in needs room v all blocks total within some =
    let none : (all == 0) ≡ false = ne_eqb all 0 (λ e. omega (arith, e, some, within)) in
    omega (arith, within, total, ap (λ b. if b then 0 else all / 4096 + 2) none)

-- ---- a file

module _ (file : TreeFile) (extents block key edits more : ℕ) (law : GrowsByEnough) (three : HoldsThree key (cost_of_tree (facts_on file) extents)) (is : more ≡ growth block key (cost_of_tree (facts_on file) extents) edits) (some : 0 < more) where
  abbrev tree : TreeCost
  tree = cost_of_tree (facts_on file) extents

  past : new_maps (cost_of_tree (facts_on file) extents) more + 1 ≤ more
  past = subst (λ m. new_maps (cost_of_tree (facts_on file) extents) m + 1 ≤ m) (sym is) (past_maps block key (cost_of_tree (facts_on file) extents) edits law three (subst (λ m. 0 < m) is some))

  pub maps_low : 512 ≤ file.shape.node_size → maps_among file more ≤ new_maps (cost_of_tree (facts_on file) extents) more
  maps_low least = most_maps (file.shape.total + more - (cost_of_tree (facts_on file) extents).map_bits) (8 * (file.shape.node_size - 20)) (omega (arith, least))

  pub nodes_counted : 512 ≤ file.shape.node_size → 1 ≤ file.shape.total → nodes_load file more ≤ tree_load key (cost_of_tree (facts_on file) extents) edits more
  nodes_counted least nodes =
      let low : (2 + maps_among file more) * (file.shape.node_size / 512) ≤ (2 + new_maps (cost_of_tree (facts_on file) extents) more) * (file.shape.node_size / 512) = mul-le-mul_right (file.shape.node_size / 512) (omega (arith, maps_low least)) in
      let high : (2 + new_maps (cost_of_tree (facts_on file) extents) more) * (file.shape.node_size / 512) ≤ tree_load key (cost_of_tree (facts_on file) extents) edits more = load_holds key edits more (cost_of_tree (facts_on file) extents) some nodes past in
      omega (arith, low, high)

-- ---- sizes

all_counted : (n : ℕ) (xs : List ℕ) → ((x : ℕ) → Contains xs x → x < n) → length xs ≤ count_by (λ x. nat_lt x n) xs
all_counted n [] low = omega arith
all_counted n (x ∷ xs) low = omega (arith, count_cons (λ y. nat_lt y n) x xs, ap one_if (low_true x n (low x (at_front x xs))), all_counted n xs (λ y stands. low y (behind x y xs stands)))

-- numbers below one, none of them twice, are no more than that
pub few_listed : (n : ℕ) (xs : List ℕ) → ((k : ℕ) → times k xs ≤ 1) → ((x : ℕ) → Contains xs x → x < n) → length xs ≤ n
few_listed n xs once low = omega (arith, all_counted n xs low, no_more (λ (x : ℕ). x) n xs once)

-- the blocks of an accepted header have a power of two of sectors
pub power_of : (sectors : ℕ) (head : VolumeHeader) → header_refusal head sectors ≡ None → head.block_size ≡ 512 * per_block_of head → count_ones (per_block_of head) ≡ 1
power_of sectors head accepted whole =
    let p1 = passed (is_volume_size sectors) (LimitSectors sectors) _ accepted in
    let p2 = passed (is_hfsx head) (NotHfsx head.signature head.version) _ p1.1 in
    let p3 = passed (is_block_size head.block_size) (BadGeometry 40) _ p2.1 in
    let most = and_parts (is_power_of_two head.block_size && nat_le 512 head.block_size) (nat_le head.block_size 65536) p3.0 in
    let least = and_parts (is_power_of_two head.block_size) (nat_le 512 head.block_size) most.0 in
    let one : count_ones head.block_size ≡ 1 = eqb-true (count_ones head.block_size) 1 least.0 in
    let same : head.block_size / 512 * 512 + 0 ≡ head.block_size = omega (arith, whole) in
    let split : count_ones (head.block_size / 512 * 512 + 0) ≡ count_ones (head.block_size / 512) + count_ones 0 = ones_cat 9 (head.block_size / 512) 0 (omega arith) in
    omega (arith, split, ap count_ones same, one, ones_le_self 0)

scaled_left : (k m n : ℕ) → m ≤ n → k * m ≤ k * n
scaled_left k m n le = mul-le-mul_left k le

scaled_right : (k m n : ℕ) → m ≤ n → m * k ≤ n * k
scaled_right k m n le = mul-le-mul_right k le

no_product : (m n : ℕ) → 0 < m → 0 < n → m * n ≡ 0 → ⊥
no_product m n some other none = omega (arith, some, scaled_left m 1 n (omega (arith, other)), none)

module _ (file : TreeFile) (fork : ForkRecord) (v : Volume) (a : Space) (per_is : file.per_block ≡ per_block_of v.header) (block_is : v.header.block_size ≡ 512 * per_block_of v.header) (one : count_ones (per_block_of v.header) ≡ 1) (low : per_block_of v.header < 129) (some_per : 0 < per_block_of v.header)
    (size_is : IsNodeSize file.shape.node_size) (stands : Stands file a.content) (size : HasTreeSize v.header fork (facts_on file)) (few : length (sectors_of_tree file) + 1 ≤ 2147483648) (inside : v.header.total_blocks * per_block_of v.header ≤ 2147483648) (free_low : v.header.free_blocks ≤ v.header.total_blocks)
    (extents key edits more : ℕ) (law : GrowsByEnough) (three : HoldsThree key (cost_of_tree (facts_on file) extents)) (is : more ≡ growth v.header.block_size key (cost_of_tree (facts_on file) extents) edits) (some : 0 < more)
  where
    abbrev n : ℕ
    n = file.shape.node_size / 512

    abbrev per : ℕ
    per = per_block_of v.header

    node_low : (512 ≤ file.shape.node_size) × (file.shape.node_size ≤ 32768)
    node_low = node_size_low file.shape.node_size size_is

    node_is : file.shape.node_size ≡ 512 * (file.shape.node_size / 512)
    node_is = whole_node file.shape.node_size size_is
      where
        whole_node : (m : ℕ) → IsNodeSize m → m ≡ 512 * (m / 512)
        whole_node m (inl e) = omega (arith, e)
        whole_node m (inr (inl e)) = omega (arith, e)
        whole_node m (inr (inr (inl e))) = omega (arith, e)
        whole_node m (inr (inr (inr (inl e)))) = omega (arith, e)
        whole_node m (inr (inr (inr (inr (inl e))))) = omega (arith, e)
        whole_node m (inr (inr (inr (inr (inr (inl e)))))) = omega (arith, e)
        whole_node m (inr (inr (inr (inr (inr (inr e)))))) = omega (arith, e)

    some_node : 0 < file.shape.node_size / 512
    some_node = omega (arith, node_is, node_low)

    unit : (k : ℕ) × (growth v.header.block_size key (cost_of_tree (facts_on file) extents) edits ≡ k * max 1 (v.header.block_size / file.shape.node_size))
    unit = in_units v.header.block_size key (cost_of_tree (facts_on file) extents) edits (subst (λ m. 0 < m) is some)

    whole_header : more * (file.shape.node_size / 512) / per_block_of v.header * per_block_of v.header ≡ more * (file.shape.node_size / 512)
    whole_header = fill_blocks file.shape.node_size v.header.block_size (file.shape.node_size / 512) (per_block_of v.header) more unit.0 node_is block_is some_node some_per
        (each_divides (file.shape.node_size / 512) (per_block_of v.header) (subst IsNodeSize node_is size_is) low one) (is ∙ unit.1)

    pub whole : blocks_filled file more * file.per_block ≡ more * (file.shape.node_size / 512)
    whole = (λ i. more * (file.shape.node_size / 512) / per_is i * per_is i) ∙ whole_header

    in_blocks : blocks_filled file more * per_block_of v.header ≡ more * (file.shape.node_size / 512)
    in_blocks = ap (λ m. blocks_filled file more * m) (sym per_is) ∙ whole

    -- they are as many as the load counts
    pub blocks_same : more * file.shape.node_size / v.header.block_size ≡ blocks_filled file more
    blocks_same =
        let bytes : more * file.shape.node_size ≡ blocks_filled file more * v.header.block_size =
        ap (λ m. more * m) node_is ∙ mul_left_comm more 512 (file.shape.node_size / 512) ∙ ap (λ m. 512 * m) (sym in_blocks) ∙ sym (mul_left_comm (blocks_filled file more) 512 (per_block_of v.header)) ∙ ap (λ m. blocks_filled file more * m) (sym block_is) in
        ap (λ m. m / v.header.block_size) bytes ∙ mul-div_cancel (blocks_filled file more) (omega (arith, block_is, some_per))

    pub some_blocks : 0 < blocks_filled file more
    some_blocks = ⊎_elim
        (λ (none : blocks_filled file more ≡ 0). absurd (no_product more (file.shape.node_size / 512) some some_node (sym in_blocks ∙ ap (λ m. m * per_block_of v.header) none ∙ zero-mul (per_block_of v.header))))
        (λ (more_ : blocks_filled file more ≢ 0). omega (arith, more_))
        (cases_eq (blocks_filled file more) 0)

    module _ (load : ℕ) (long : blocks_filled file more ≤ longest_of (runs_of (free_of v.map))) (enough : blocks_filled file more ≤ v.header.free_blocks)
        (parts : tree_load key (cost_of_tree (facts_on file) extents) edits more + (run_load v (blocks_filled file more) + 1) ≤ load) (within : load ≤ a.spare)
      where
        sectors_is : file.shape.total * (file.shape.node_size / 512) ≡ length (sectors_of_tree file)
        sectors_is = stands.whole

        -- the new sectors lie in the volume
        new_low : more * (file.shape.node_size / 512) ≤ 2147483648
        new_low = omega (arith, in_blocks, scaled_right (per_block_of v.header) (blocks_filled file more) v.header.total_blocks (omega (arith, enough, free_low)), inside)

        total_low : file.shape.total ≤ length (sectors_of_tree file)
        total_low = omega (arith, sectors_is, scaled_left file.shape.total 1 (file.shape.node_size / 512) (omega (arith, some_node)))

        more_low : more ≤ more * (file.shape.node_size / 512)
        more_low = omega (arith, scaled_left more 1 (file.shape.node_size / 512) (omega (arith, some_node)))

        blocks_low : blocks_filled file more ≤ more * (file.shape.node_size / 512)
        blocks_low = omega (arith, in_blocks, scaled_left (blocks_filled file more) 1 (per_block_of v.header) (omega (arith, some_per)))

        bytes_are : fork.logical_size ≡ 512 * length (sectors_of_tree file)
        bytes_are = size.nodes ∙ ap (λ m. file.shape.total * m) node_is ∙ mul_left_comm file.shape.total 512 (file.shape.node_size / 512) ∙ ap (λ m. 512 * m) sectors_is

        fork_low : fork.total_blocks ≤ length (sectors_of_tree file)
        fork_low = omega (arith, bytes_are, size.blocks, scaled_left fork.total_blocks 512 v.header.block_size (omega (arith, block_is, some_per)))

        new_bytes : blocks_filled file more * v.header.block_size ≡ 512 * (more * (file.shape.node_size / 512))
        new_bytes = ap (λ m. blocks_filled file more * m) block_is ∙ mul_left_comm (blocks_filled file more) 512 (per_block_of v.header) ∙ ap (λ m. 512 * m) in_blocks

        pub numbers_fit : NumbersHaveRoom more file fork v
        numbers_fit = record {
          least = node_low.0;
          most = node_low.1;
          whole = whole;
          nodes = omega (arith, total_low, few, more_low, new_low);
          blocks = omega (arith, fork_low, few, blocks_low, new_low);
          bytes = omega (arith, bytes_are, few, new_bytes, new_low);
          counted = enough;
        }

        pub file_fits : length file.fork < 8 → FileFits more file fork v a
        file_fits short = record {
          some = some_blocks;
          run = long;
          counts = record {
            least = node_low.0;
            most = node_low.1;
            whole = whole;
            extents = short;
            nodes = numbers_fit.nodes;
            blocks = numbers_fit.blocks;
            bytes = numbers_fit.bytes;
            counted = enough;
          };
          room = omega (arith, nodes_counted file extents v.header.block_size key edits more law three is some node_low.0 stands.agrees.some, parts, within);
        }
