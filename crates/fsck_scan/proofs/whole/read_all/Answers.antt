use Rattle.std.proofs.Common.{◌≡◌, ◌⊎◌, ◌<◌, ◌≤◌, ℕ, ◌-◌, ◌*◌, ◌^◌, ◌==◌, true, false, List, [], length, map, get_or, replicate, inl, inr, sym, ◌∙◌, ap, subst, arith, if◌then◌else◌}
use Rattle.std.specs.Prelude.{IfOk, IfSome, IfNone, slice_index_or, Option}
use Rattle.std.specs.List.{count_by, range_with_len}
use Rattle.std.proofs.lemmas.List.{length-replicate}
use Rattle.jnl_format.specs.Recovery.{Content}
use Rattle.flag_rows.specs.Bits.{bit_of, count_set}
use Rattle.sector_disk.specs.Space.{Space}
use Rattle.btree_node.specs.Levels.{Nodes, leaves}
use Rattle.btree_node.specs.Node.{height_of}
use Rattle.btree_node.specs.TreeFile.{TreeFile, tree_head}
use Rattle.btree_file.specs.FrameLaws.{reads_none, reads_both}
use Rattle.fork_map.specs.Blocks.{fork_sectors}
use Rattle.hfs_volume.specs.Content.{node_of_fork, tree_of_fork}
use Rattle.hfs_volume.specs.Broken.{IsBrokenTree, IsUnmet, form_wants, is_in_use, levels_in, leaves_in}
use Rattle.fsck_list.specs.declared.finding.Finding.{Finding}
use Rattle.fsck_scan.specs.Form.{as_found, form_in, head_in, tree_at, FitsForm, FitsRoot, FitsLeaves, IsWrongBit}
use Rattle.fsck_scan.specs.Map.{AreBlankPast, HasMapRead, IsNoMap}
use Rattle.fsck_scan.specs.Scan.{failure, StandsAt, HasNodes, HasBegun, HasAllLevels, IsScanned}
use Rattle.fsck_scan.proofs.LevelLaws.{some_is, none_is}
use Rattle.fsck_scan.proofs.Numbers.{none_map, some_map, none_both, none_any, ok_none}
use Rattle.fsck_scan.proofs.EndLaws.{map_broken}
use Rattle.fsck_scan.proofs.ScanLaws.{none_set}
use Rattle.fsck_scan.proofs.WholeLaws.{blank_past, tree_is, form_size, comes_to, all_read, none_read, scanned_whole, end_broken, has_begun, moved}
use Rattle.fsck_scan.proofs.whole.read_all.Goals as goal

pub returns-then-height-eq0-clause-right : goal.returns-then-height-eq0-clause-right
returns-then-height-eq0-clause-right g c tells tree nodes begun =
    none_read g.K.KeyOrder.is_key g.K.KeyOrder.is_value g.K.KeyOrder.cmp tree (length c.args.node.now) c.args.total c.args.height c.args.root c.args.marks.now c.args.node.now begun c.args.level.now.nodes.items c.args.level.now.records
    c.if-height-eq0.true (c.requires.empty c.if-height-eq0.true) c.requires.no_node c.requires.no_record

pub returns-then-height-eq0-clause-reads : goal.returns-then-height-eq0-clause-reads
returns-then-height-eq0-clause-reads g c = reads_none (g.V.SectorView.space c.args.view.now)

pub returns-then-height-eq0-clause-below : goal.returns-then-height-eq0-clause-below
returns-then-height-eq0-clause-below g c = g.met.V.SectorView.follows_refl c.args.view.now

pub returns-clause-right : goal.returns-clause-right
returns-clause-right g c tells tree nodes begun =
    let some : 0 < c.args.height = omega (arith, c.if-height-eq0.false) in
    ok_none c.read_levels.result (StandsAt g.K.KeyOrder.is_key g.K.KeyOrder.is_value g.K.KeyOrder.cmp tree (c.args.height - 1) c.read_levels.new.marks c.read_levels.new.level.nodes.items c.read_levels.new.level.records c.read_levels.new.level.ends.items)
    (HasAllLevels g.K.KeyOrder.is_key g.K.KeyOrder.is_value g.K.KeyOrder.cmp tree c.read_levels.new.marks c.read_levels.new.level.nodes.items c.read_levels.new.level.records)
    (λ stands. all_read g.K.KeyOrder.is_key g.K.KeyOrder.is_value g.K.KeyOrder.cmp tree (length c.args.node.now) c.args.total c.args.height c.args.root c.args.marks.now c.args.node.now begun c.read_levels.new.marks c.read_levels.new.level.nodes.items c.read_levels.new.level.records c.read_levels.new.level.ends.items some stands)
    (c.read_levels.ensures.right tells tree nodes (comes_to g.K.KeyOrder.is_key g.K.KeyOrder.is_value g.K.KeyOrder.cmp tree (length c.args.node.now) c.args.total c.args.height c.args.root c.args.marks.now c.args.node.now begun some))

pub returns-clause-wrong : goal.returns-clause-wrong
returns-clause-wrong g c tells tree nodes begun =
    let some : 0 < c.args.height = omega (arith, c.if-height-eq0.false) in
    c.read_levels.ensures.wrong tells tree nodes (comes_to g.K.KeyOrder.is_key g.K.KeyOrder.is_value g.K.KeyOrder.cmp tree (length c.args.node.now) c.args.total c.args.height c.args.root c.args.marks.now c.args.node.now begun some)
