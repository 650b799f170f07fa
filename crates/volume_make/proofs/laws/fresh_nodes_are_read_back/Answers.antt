use Rattle.volume_make.proofs.NodesBack.{nodes_read_back}
use Rattle.volume_make.proofs.laws.fresh_nodes_are_read_back.Goals as goal

pub returns : goal.returns
returns c layout name named = nodes_read_back layout name named
