-- A tree whose file calls follow on is the same store.
use Rattle.std.proofs.Common.{ℕ, List, refl, ap}
use Rattle.sector_disk.specs.Space.{Space}
use Rattle.btree_node.specs.Store.{SameStore}
use Rattle.btree_file.specs.Frame.{FollowsOn}
use Rattle.btree_file.specs.State.{state_of}
use Rattle.btree_file.specs.Map.{is_reserved}
use Rattle.btree_file.specs.declared.tree.TreeFile.{TreeFile}

module _ (v w : TreeFile) (a b : Space) (follows : FollowsOn v w a b) where
  pub same_then : (names : List ℕ) → SameStore (state_of names v a) (state_of names w b)
  same_then names = record {
    tells = follows.space.same.tells;
    names = refl;
    node_size = follows.file.node_size;
    total = follows.file.total;
    reserved = λ n. ap (λ l. is_reserved l n) follows.file.map;
  }
