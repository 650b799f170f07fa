-- There is room to lengthen a fork in sectors that tell nothing, of which each counts as put.
use Rattle.std.proofs.Common.{◌≡◌, ℕ, ◌+◌, ◌*◌, ◌/◌, ◌≤◌, true, not, List, inr, refl, ap, arith}
use Rattle.std.specs.List.{list_all}
use Rattle.hx_bytes.specs.declared.extents.Extent.{Extent}
use Rattle.btree_node.specs.MemLaws.{count_none}
use Rattle.btree_file.specs.Growth.{HasRoomToGrow, nodes_with, sectors_with, unwritten_in}
use Rattle.btree_file.specs.Place.{sectors_at}
use Rattle.btree_file.specs.State.{per_node}
use Rattle.btree_file.specs.declared.tree.TreeFile.{TreeFile}
use Rattle.btree_file.proofs.RoomLaws.{all_from}
use Rattle.alloc_bitmap.specs.Untold.{told_none}

pub untold_growth : (tree : TreeFile) (run : Extent) (sectors : ℕ) → HasRoomToGrow tree run (told_none sectors)
untold_growth tree run sectors =
    let none : unwritten_in (sectors_with tree run) (per_node tree.shape) (nodes_with tree run) (λ _. true) ≡ 0 =
    count_none (λ n. not (list_all (λ (_ : ℕ). true) (sectors_at (sectors_with tree run) (per_node tree.shape) n))) 0 (nodes_with tree run) (λ k low high. ap not (all_from (λ _. true) (sectors_at (sectors_with tree run) (per_node tree.shape) k) (λ s c. refl))) in
    inr (omega (arith, ap (λ n. n * per_node tree.shape) none))
