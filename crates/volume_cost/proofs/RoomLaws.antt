-- Bounds of what edits need.
use Rattle.std.proofs.Common.{◌≡◌, ℕ, ◌+◌, ◌*◌, ◌/◌, ◌^◌, ◌≤◌, ◌<◌, ◌∙◌, ap, arith, ⊎_elim}
use Rattle.std.proofs.Math.Nat.{mul-le-mul, mul-le-mul_right, div-le_of_le-mul, lt-div-mul-add, zero-mul}
use Rattle.std.proofs.lemmas.Bool.{cases_lt}
use Rattle.hfs_volume.specs.declared.cost.TreeCost.{TreeCost}
use Rattle.hfs_volume.specs.Cost.{depth_of, rises, need}
use Rattle.volume_cost.specs.Sizes.{IsWide, IsGrown, IsLoaded}

-- the nodes that edits need of a tree that isn't too deep
pub need_few : (key : ℕ) (tree : TreeCost) (edits : ℕ) → depth_of tree + 1 + rises key tree edits ≤ 11 → need key tree edits ≤ 12 * edits
need_few key tree edits le =
    let product : edits * (depth_of tree + 2 + rises key tree edits) ≤ edits * 12 = mul-le-mul {n₁ = edits} {m₁ = depth_of tree + 2 + rises key tree edits} {n₂ = edits} {m₂ = 12} (omega arith) (omega (arith, le)) in
    omega (arith, product)

pub blocks_few : (block size more : ℕ) → 512 ≤ block → (0 < more → size ≤ 32768) → more * size / block ≤ 64 * more
blocks_few block size more least most = ⊎_elim
    (λ (none : more < 1).
    let zero_more : more ≡ 0 = omega (arith, none) in
    let product : more * size ≡ 0 = ap (λ m. m * size) zero_more ∙ zero-mul size in
    div-le_of_le-mul block (omega (arith, product)))
    (λ (some : 1 ≤ more).
    let high : more * size ≤ more * 32768 = mul-le-mul {n₁ = more} {m₁ = size} {n₂ = more} {m₂ = 32768} (omega arith) (most (omega (arith, some))) in
    let low : 512 * (64 * more) ≤ block * (64 * more) = mul-le-mul_right (64 * more) least in
    div-le_of_le-mul block (omega (arith, high, low)))
    (cases_lt more 1)

pub grown_size : (block key : ℕ) (tree : TreeCost) (edits more : ℕ) → IsGrown block key tree edits more → 0 < more → IsWide key tree
grown_size block key tree edits more grown some = ⊎_elim
    (λ (none : edits < 1). absurd (omega (arith, grown.none (omega (arith, none)), some)))
    (λ (there : 1 ≤ edits). grown.wide (omega (arith, there)))
    (cases_lt edits 1)

-- nodes whose blocks fit in a volume
pub grow_small : (block key : ℕ) (tree : TreeCost) (edits more total : ℕ) → IsGrown block key tree edits more → 0 < block → block ≤ 65536 → total * block ≤ 2 ^ 40 → more * tree.node_size / block ≤ total → more < 2 ^ 32
grow_small block key tree edits more total grown some most bytes fits = ⊎_elim
    (λ (none : more < 1). omega (arith, none))
    (λ (there : 1 ≤ more).
    let wide = grown_size block key tree edits more grown (omega (arith, there)) in
    let nodes : more * 512 ≤ more * tree.node_size = mul-le-mul {n₁ = more} {m₁ = 512} {n₂ = more} {m₂ = tree.node_size} (omega arith) wide.least in
    let below : more * tree.node_size < more * tree.node_size / block * block + block = lt-div-mul-add some in
    let inside : more * tree.node_size / block * block ≤ total * block = mul-le-mul_right block fits in
    omega (arith, nodes, below, inside, bytes, most))
    (cases_lt more 1)

-- the nodes by which a tree grows that isn't too deep
pub grown_few : (block key : ℕ) (tree : TreeCost) (edits more : ℕ) → IsGrown block key tree edits more → block ≤ 65536 → need key tree edits ≤ 12 * edits → IsLoaded key tree edits more
grown_few block key tree edits more grown most few = record { wide = grown.wide; few = grown.few; bound = omega (arith, grown.bound, grown.few, most, few); none = grown.none }
