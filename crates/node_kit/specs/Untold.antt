-- A store that tells nothing of its nodes.
use Rattle.std.specs.Prelude.{◌-◌, ◌^◌, false}
use Rattle.btree_node.specs.Mem.{mem_state}
use Rattle.btree_node.specs.MemLaws.{mem_well_formed}
use Rattle.btree_node.specs.Store.{Store, IsWellFormed}
use Rattle.btree_node.specs.declared.mem.MemNodes.{MemNodes}

-- this store, where it doesn't tell the bytes of its nodes; its count of faults stands at its last value
abbrev pub untold : Store → Store
untold store = record store { tells = false; faults = 2 ^ 64 - 1 }

-- its numbers go together as those of the store that it hides
pub untold_well_formed : (mem : MemNodes) → IsWellFormed (untold (mem_state mem))
untold_well_formed mem =
    let kept = mem_well_formed mem in
    record { node_size = kept.node_size; total = kept.total; free = kept.free; unwritten = kept.unwritten; writes_left = kept.writes_left }
