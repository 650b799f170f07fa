use Rattle.std.proofs.Common.{◌≡◌, sym, ◌∙◌, ap}
use Rattle.btree_node.specs.TreeFile.{TreeFile, TreeHead}
use Rattle.served_volume.proofs.Limits.{begun_there, size_range}
use Rattle.served_volume.proofs.folding.compares_folded.Goals as goal

pub read_tree_head-requires-clause-least : goal.read_tree_head-requires-clause-least
read_tree_head-requires-clause-least g c = (size_range (g.V.SectorView.space c.args.view.now).sectors c.args.head.now c.requires.accepted).0

pub read_tree_head-requires-clause-most : goal.read_tree_head-requires-clause-most
read_tree_head-requires-clause-most g c = (size_range (g.V.SectorView.space c.args.view.now).sectors c.args.head.now c.requires.accepted).1

pub returns-clause-folds : goal.returns-clause-folds
returns-clause-folds g c tells is =
    let old = g.V.SectorView.space c.args.view.now in
    let there = begun_there old.content old.sectors c.args.head.now c.in_ok-fork.fork c.requires.accepted is (sym (g.met.V.SectorView.well_formed c.args.view.now tells)) c.in_ok-fork.ensures in
    let compare = ap (λ (h : TreeHead). h.compare) (c.in_ok-tree.ensures.head tells) ∙ ap (λ (t : TreeFile). t.head.compare) there in
    (λ folds. sym compare ∙ c.is_folding.ensures.0 folds, λ folds. c.is_folding.ensures.1 (compare ∙ folds))
