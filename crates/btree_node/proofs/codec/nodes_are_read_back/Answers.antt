use Rattle.btree_node.proofs.ReadingBack.{reads_back, header_reads_back}
use Rattle.btree_node.proofs.codec.nodes_are_read_back.Goals as goal

pub returns-clause-node : goal.returns-clause-node
returns-clause-node c size bytes head records small fits node = reads_back size bytes head records small fits node

pub returns-clause-header : goal.returns-clause-header
returns-clause-header c tree is_used bytes least small fits node = header_reads_back tree is_used bytes least small fits node
