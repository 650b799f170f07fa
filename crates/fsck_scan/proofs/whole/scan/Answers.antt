use Rattle.std.proofs.Common.{◌≡◌, ◌⊎◌, ◌<◌, ◌≤◌, ℕ, ◌-◌, ◌*◌, ◌^◌, ◌==◌, true, false, List, [], length, map, get_or, replicate, inl, inr, refl, sym, ◌∙◌, ap, subst, arith, if◌then◌else◌}
use Rattle.std.specs.Prelude.{IfOk, IfSome, IfNone, slice_index_or, Option}
use Rattle.std.specs.List.{count_by, range_with_len}
use Rattle.std.proofs.lemmas.List.{length-replicate}
use Rattle.jnl_format.specs.Recovery.{Content}
use Rattle.flag_rows.specs.Bits.{bit_of, count_set}
use Rattle.sector_disk.specs.Space.{Space}
use Rattle.btree_node.specs.Levels.{Nodes, leaves}
use Rattle.btree_node.specs.Node.{height_of}
use Rattle.btree_node.specs.TreeFile.{TreeFile, tree_head}
use Rattle.btree_file.specs.FrameLaws.{reads_none, reads_both}
use Rattle.fork_map.specs.Blocks.{fork_sectors}
use Rattle.hfs_volume.specs.Content.{node_of_fork, tree_of_fork}
use Rattle.hfs_volume.specs.Broken.{IsBrokenTree, IsUnmet, form_wants, is_in_use, levels_in, leaves_in}
use Rattle.fsck_list.specs.declared.finding.Finding.{Finding}
use Rattle.fsck_scan.specs.Form.{as_found, form_in, head_in, tree_at, FitsForm, FitsRoot, FitsLeaves, IsWrongBit}
use Rattle.fsck_scan.specs.Map.{AreBlankPast, HasMapRead, IsNoMap}
use Rattle.fsck_scan.specs.Scan.{failure, StandsAt, HasNodes, HasBegun, HasAllLevels, IsScanned}
use Rattle.fsck_scan.proofs.LevelLaws.{some_is, none_is}
use Rattle.fsck_scan.proofs.Numbers.{none_map, some_map, none_both, none_any, ok_none}
use Rattle.fsck_scan.proofs.EndLaws.{map_broken}
use Rattle.fsck_scan.proofs.ScanLaws.{none_set}
use Rattle.fsck_scan.proofs.WholeLaws.{blank_past, tree_is, form_size, comes_to, all_read, none_read, scanned_whole, end_broken, has_begun, moved}
use Rattle.fsck_scan.proofs.whole.scan.Goals as goal

pub returns-in-Some-clause-wrong : goal.returns-in-Some-clause-wrong
returns-in-Some-clause-wrong g c tells =
    let old : Space = g.V.SectorView.space c.args.view.now in
    let limit : ℕ = c.args.fork.now.limit in
    let fork : List ℕ = fork_sectors c.args.fork.now.extents.now c.args.fork.now.per_block in
    let tree : TreeFile = tree_of_fork old.content limit fork in
    let is = tree_is old.content limit fork c.in_ok-head.head (c.in_ok-head.ensures.head tells) in
    inl (some_is c.judge_head.result c.in-Some.finding (λ (finding : Finding). (tree : TreeFile) → tree.head ≡ head_in c.in_ok-head.head → IsUnmet 4 (as_found finding) (form_wants (form_in c.args.form.now) c.args.form.now.id tree))
    c.in-Some.is c.judge_head.ensures.wrong tree (ap (λ (t : TreeFile). t.head) is))

pub scan_nodes-requires-clause-fits : goal.scan_nodes-requires-clause-fits
scan_nodes-requires-clause-fits g c = none_is c.judge_head.result (FitsForm c.args.form.now c.in_ok-head.head) c.in_default.is c.judge_head.ensures.fits

pub returns-clause-right : goal.returns-clause-right
returns-clause-right g c tells =
    let old : Space = g.V.SectorView.space c.args.view.now in
    let after : Space = g.V.SectorView.space c.find_head.new.view in
    let limit : ℕ = c.args.fork.now.limit in
    let fork : List ℕ = fork_sectors c.args.fork.now.extents.now c.args.fork.now.per_block in
    let is = tree_is old.content limit fork c.in_ok-head.head (c.in_ok-head.ensures.head tells) in
    subst (λ (t : TreeFile). IfOk c.scan_nodes.result (λ wrong. IfNone wrong (IsScanned (form_in c.args.form.now) g.K.KeyOrder.is_key g.K.KeyOrder.is_value g.K.KeyOrder.cmp c.args.form.now.id t c.scan_nodes.new.level.records))) (sym is)
    (subst (λ (content : Content). IfOk c.scan_nodes.result (λ wrong. IfNone wrong (IsScanned (form_in c.args.form.now) g.K.KeyOrder.is_key g.K.KeyOrder.is_value g.K.KeyOrder.cmp c.args.form.now.id (tree_at content limit fork c.in_ok-head.head.shape.node_size c.in_ok-head.head) c.scan_nodes.new.level.records)))
    (c.find_head.ensures.reads.sectors tells).content (c.scan_nodes.ensures.right (c.find_head.ensures.reads.same.tells ∙ tells)))

pub returns-clause-wrong : goal.returns-clause-wrong
returns-clause-wrong g c tells =
    let old : Space = g.V.SectorView.space c.args.view.now in
    let after : Space = g.V.SectorView.space c.find_head.new.view in
    let limit : ℕ = c.args.fork.now.limit in
    let fork : List ℕ = fork_sectors c.args.fork.now.extents.now c.args.fork.now.per_block in
    let is = tree_is old.content limit fork c.in_ok-head.head (c.in_ok-head.ensures.head tells) in
    subst (λ (t : TreeFile). IfOk c.scan_nodes.result (λ wrong. IfSome wrong (λ (f : Finding). IsBrokenTree (form_in c.args.form.now) g.K.KeyOrder.is_key g.K.KeyOrder.is_value g.K.KeyOrder.cmp c.args.form.now.id t (as_found f)))) (sym is)
    (subst (λ (content : Content). IfOk c.scan_nodes.result (λ wrong. IfSome wrong (λ (f : Finding). IsBrokenTree (form_in c.args.form.now) g.K.KeyOrder.is_key g.K.KeyOrder.is_value g.K.KeyOrder.cmp c.args.form.now.id (tree_at content limit fork c.in_ok-head.head.shape.node_size c.in_ok-head.head) (as_found f))))
    (c.find_head.ensures.reads.sectors tells).content (c.scan_nodes.ensures.wrong (c.find_head.ensures.reads.same.tells ∙ tells)))

pub scan_nodes-requires-clause-size : goal.scan_nodes-requires-clause-size
scan_nodes-requires-clause-size g c = form_size c.args.form.now c.in_ok-head.head (none_is c.judge_head.result (FitsForm c.args.form.now c.in_ok-head.head) c.in_default.is c.judge_head.ensures.fits)
