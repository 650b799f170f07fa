-- How many records a node has.
use Rattle.std.proofs.Common.{◌≡◌, ℕ, List, length}
use Rattle.btree_node.specs.Node.{record_count, items}
use Rattle.btree_node.proofs.Items.{length-items}

pub count_is : (node : List ℕ) → length (items node) ≡ record_count node
count_is node = length-items node
