-- The blocks of a volume with an accepted header take its sectors up to the last whole block.
use Rattle.std.proofs.Common.{◌≡◌, ◌<◌, ◌≤◌, ℕ, ◌+◌, ◌-◌, ◌*◌, ◌/◌, ◌%◌, true, ◌==◌, ◌&&◌, nat_le, List, length, [], refl, sym, ◌∙◌, ap, subst, arith}
use Rattle.std.specs.Prelude.{None, Some, not, if◌then◌else◌, Option, Bool, false}
use Rattle.std.specs.Int.{is_power_of_two}
use Rattle.std.proofs.Math.Nat.{div-mul-le_self, le-div_iff_mul-le, div-add-mod'}
use Rattle.std.proofs.lemmas.Bool.{eqb-true, leb-true, and_parts}
use Rattle.volume_header.specs.Refusal.{header_refusal, is_volume_size, is_hfsx, is_block_size, fits_blocks}
use Rattle.volume_header.specs.declared.header.VolumeHeader.{VolumeHeader}
use Rattle.volume_header.specs.declared.refusal.HeaderRefusal.{HeaderRefusal}
use Rattle.volume_header.specs.declared.refusal.HeaderRefusal.TheVariants.{LimitSectors, NotHfsx, BadGeometry}
use Rattle.fork_map.specs.Blocks.{fork_sectors}
use Rattle.hx_bytes.specs.declared.extents.Extent.{Extent}
use Rattle.jnl_format.specs.Recovery.{Content, header_of_volume}
use Rattle.btree_node.specs.TreeFile.{TreeFile}
use Rattle.hfs_volume.specs.Forks.{per_block_of, extents_of, catalog_id, data_kind}
use Rattle.hfs_volume.specs.Content.{block_limit, tree_of_fork}
use Rattle.hfs_volume.proofs.Untouched.{whole_blocks}
use Rattle.hfs_serving.specs.Checking.{catalog_begun}
use Rattle.fsck_scan.specs.Form.{tree_in}

passed : (b : Bool) (why : HeaderRefusal) (rest : Option HeaderRefusal) → (if not b then Some why else rest) ≡ None → (b ≡ true) × (rest ≡ None)
passed true why rest is = (refl, is)
passed false why rest is = absurd (cc)

module _ (sectors : ℕ) (head : VolumeHeader) (accepted : header_refusal head sectors ≡ None) where
  -- so many blocks
  total_is : head.total_blocks ≡ sectors * 512 / head.block_size
  total_is =
      let p1 = passed (is_volume_size sectors) (LimitSectors sectors) _ accepted in
      let p2 = passed (is_hfsx head) (NotHfsx head.signature head.version) _ p1.1 in
      let p3 = passed (is_block_size head.block_size) (BadGeometry 40) _ p2.1 in
      let p4 = passed (fits_blocks head sectors) (BadGeometry 44) _ p3.1 in
      let t = and_parts (head.total_blocks == sectors * 512 / head.block_size) (nat_le head.total_blocks 268435456) p4.0 in
      eqb-true head.total_blocks (sectors * 512 / head.block_size) t.0

  -- the block size lies in its range
  pub size_range : (512 ≤ head.block_size) × (head.block_size ≤ 65536)
  size_range =
      let p1 = passed (is_volume_size sectors) (LimitSectors sectors) _ accepted in
      let p2 = passed (is_hfsx head) (NotHfsx head.signature head.version) _ p1.1 in
      let p3 = passed (is_block_size head.block_size) (BadGeometry 40) _ p2.1 in
      let most = and_parts (is_power_of_two head.block_size && nat_le 512 head.block_size) (nat_le head.block_size 65536) p3.0 in
      let least = and_parts (is_power_of_two head.block_size) (nat_le 512 head.block_size) most.0 in
      (leb-true 512 head.block_size least.1, leb-true head.block_size 65536 most.1)

-- blocks of whole sectors fill the sectors but for those of a part of one
whole_part : (sectors per size : ℕ) → size ≡ 512 * per → 0 < per → sectors * 512 / size * per ≡ sectors - sectors % per
whole_part sectors per size whole some =
    let some_size : 0 < size = omega (arith, whole, some) in
    let q : ℕ = sectors / per in
    let total : ℕ = sectors * 512 / size in
    let times_q : q * size ≡ 512 * (q * per) = ap (λ n. q * n) whole ∙ omega arith in
    let times_total : total * size ≡ 512 * (total * per) = ap (λ n. total * n) whole ∙ omega arith in
    let under_q : q * per ≤ sectors = div-mul-le_self sectors per in
    let under_total : total * size ≤ sectors * 512 = div-mul-le_self (sectors * 512) size in
    let up : q ≤ total = (le-div_iff_mul-le {k = size} {x = q} {y = sectors * 512} some_size).1 (omega (arith, times_q, under_q)) in
    let down : total ≤ q = (le-div_iff_mul-le {k = per} {x = total} {y = sectors} some).1 (omega (arith, times_total, under_total)) in
    let same : total ≡ q = omega (arith, up, down) in
    let split : q * per + sectors % per ≡ sectors = div-add-mod' sectors per in
    ap (λ n. n * per) same ∙ omega (arith, split)

-- the catalog lies where it is read
pub begun_there : (content : Content) (sectors : ℕ) (head : VolumeHeader) (fork : List Extent) → header_refusal head sectors ≡ None → head ≡ header_of_volume content → sectors ≡ length content → fork ≡ extents_of [] catalog_id data_kind head.catalog_fork
    → tree_in content sectors head.block_size fork ≡ catalog_begun content
begun_there content sectors head fork accepted is size lies =
    let blocks = whole_blocks sectors head accepted in
    let limit : head.total_blocks * per_block_of head ≡ sectors - sectors % per_block_of head = ap (λ n. n * per_block_of head) (total_is sectors head accepted) ∙ whole_part sectors (per_block_of head) head.block_size blocks.whole blocks.some in
    (λ i. tree_of_fork content (sym limit i) (fork_sectors (lies i) (per_block_of head)))
    ∙ (λ i. tree_of_fork content ((is i).total_blocks * per_block_of (is i)) (fork_sectors (extents_of [] catalog_id data_kind (is i).catalog_fork) (per_block_of (is i))))
