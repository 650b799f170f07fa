-- The store in memory, as a contract sees it.
use Rattle.std.specs.Prelude.{◌≡◌, ◌<◌, ℕ, ◌+◌, ◌-◌, ◌*◌, ◌/◌, ◌^◌, ◌==◌, true, [], slice_index_or, if◌then◌else◌}
use Rattle.btree_node.specs.Store.{Store}
use Rattle.btree_node.specs.declared.mem.MemNodes.{MemNodes}

-- node 0 stands for the header node, and there is no map node; where it tells its nodes no call fails, else its count of faults stands at its
-- last value
abbrev pub mem_state : MemNodes → Store
mem_state mem = record {
  tells = mem.tells;
  names = [];
  shape = mem.shape;
  header = mem.shape;
  nodes = λ n. slice_index_or mem.nodes.items n [];
  used = λ n. slice_index_or mem.used.items n true;
  reserved = λ n. n == 0;
  written = λ n. slice_index_or mem.written.items n true;
  unwritten = mem.unwritten;
  writes_left = mem.writes_left;
  sectors_left = mem.writes_left * (mem.shape.node_size / 512);
  loads = mem.loads;
  faults = if mem.tells then 0 else 2 ^ 64 - 1;
}

-- so many nodes of this size, of which node 0 alone is in use, and a tree without a node
pub record IsBare (size count : ℕ) (store : Store) : Type 0 where
  pub node_size : store.shape.node_size ≡ size
  pub total : store.shape.total ≡ count
  pub free : store.shape.free + 1 ≡ count
  pub depth : store.shape.depth ≡ 0
  pub root : store.shape.root ≡ 0
  pub first : store.shape.first ≡ 0
  pub last : store.shape.last ≡ 0
  pub leaf_records : store.shape.leaf_records ≡ 0
  pub used : (n : ℕ) → n < count → store.used n ≡ (n == 0)
  pub reserved : (n : ℕ) → store.reserved n ≡ (n == 0)
