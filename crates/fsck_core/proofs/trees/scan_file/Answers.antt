use Rattle.std.proofs.Common.{arith}
use Rattle.btree_node.specs.Tree.{pairs_of}
use Rattle.btree_node.specs.TreeFile.{IsTreeFile, store_of}
use Rattle.hfs_volume.specs.Broken.{IsBrokenTree}
use Rattle.fsck_scan.specs.Form.{form_in, form_named, tree_in}
use Rattle.fsck_core.specs.Wants.{as_found}
use Rattle.fsck_core.proofs.ScanLaws.{found_tree, only_new}
use Rattle.fsck_core.proofs.trees.scan_file.Goals as goal

pub returns-in_err-pairs-clause-each : goal.returns-in_err-pairs-clause-each
returns-in_err-pairs-clause-each g c tells =
    only_new c.args.out.now c.scan_tree.new.out (λ f. IsBrokenTree (form_in (form_named c.args.tree)) g.K.KeyOrder.is_key g.K.KeyOrder.is_value g.K.KeyOrder.cmp (form_named c.args.tree).id
    (tree_in (g.V.SectorView.space c.args.view.now).content (g.V.SectorView.space c.args.view.now).sectors c.args.block c.args.fork.now) (as_found f)) c.requires.none (c.scan_tree.ensures.each tells)

pub returns-then-len-gt0-clause-each : goal.returns-then-len-gt0-clause-each
returns-then-len-gt0-clause-each g c tells =
    only_new c.args.out.now c.scan_tree.new.out (λ f. IsBrokenTree (form_in (form_named c.args.tree)) g.K.KeyOrder.is_key g.K.KeyOrder.is_value g.K.KeyOrder.cmp (form_named c.args.tree).id
    (tree_in (g.V.SectorView.space c.args.view.now).content (g.V.SectorView.space c.args.view.now).sectors c.args.block c.args.fork.now) (as_found f)) c.requires.none (c.scan_tree.ensures.each tells)

pub returns-clause-each : goal.returns-clause-each
returns-clause-each g c tells =
    only_new c.args.out.now c.scan_tree.new.out (λ f. IsBrokenTree (form_in (form_named c.args.tree)) g.K.KeyOrder.is_key g.K.KeyOrder.is_value g.K.KeyOrder.cmp (form_named c.args.tree).id
    (tree_in (g.V.SectorView.space c.args.view.now).content (g.V.SectorView.space c.args.view.now).sectors c.args.block c.args.fork.now) (as_found f)) c.requires.none (c.scan_tree.ensures.each tells)

pub returns-clause-found : goal.returns-clause-found
returns-clause-found g c tells bytes =
    found_tree (IsTreeFile (form_in (form_named c.args.tree)) g.K.KeyOrder.is_key g.K.KeyOrder.is_value g.K.KeyOrder.cmp
    (tree_in (g.V.SectorView.space c.args.view.now).content (g.V.SectorView.space c.args.view.now).sectors c.args.block c.args.fork.now))
    c.args.out.now c.scan_tree.new.out c.in_ok-pairs.pairs (pairs_of (store_of (tree_in (g.V.SectorView.space c.args.view.now).content (g.V.SectorView.space c.args.view.now).sectors c.args.block c.args.fork.now)))
    c.requires.none (omega (arith, c.len.ensures.count, c.if-len-gt0.false)) (c.in_ok-pairs.ensures.found tells bytes) (c.in_ok-pairs.ensures.clean tells bytes)
