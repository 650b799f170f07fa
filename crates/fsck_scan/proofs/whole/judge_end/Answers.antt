use Rattle.std.proofs.Common.{◌≡◌, ◌⊎◌, ◌<◌, ◌≤◌, ℕ, ◌-◌, ◌*◌, ◌^◌, ◌==◌, true, false, List, [], length, map, get_or, replicate, inl, inr, sym, ◌∙◌, ap, subst, arith, if◌then◌else◌}
use Rattle.std.specs.Prelude.{IfOk, IfSome, IfNone, slice_index_or, Option}
use Rattle.std.specs.List.{count_by, range_with_len}
use Rattle.std.proofs.lemmas.List.{length-replicate}
use Rattle.jnl_format.specs.Recovery.{Content}
use Rattle.flag_rows.specs.Bits.{bit_of, count_set}
use Rattle.sector_disk.specs.Space.{Space}
use Rattle.btree_node.specs.Levels.{Nodes, leaves}
use Rattle.btree_node.specs.Node.{height_of}
use Rattle.btree_node.specs.TreeFile.{TreeFile, tree_head}
use Rattle.btree_file.specs.FrameLaws.{reads_none, reads_both}
use Rattle.fork_map.specs.Blocks.{fork_sectors}
use Rattle.hfs_volume.specs.Content.{node_of_fork, tree_of_fork}
use Rattle.hfs_volume.specs.Broken.{IsBrokenTree, IsUnmet, form_wants, is_in_use, levels_in, leaves_in}
use Rattle.fsck_list.specs.declared.finding.Finding.{Finding}
use Rattle.fsck_scan.specs.Form.{as_found, form_in, head_in, tree_at, FitsForm, FitsRoot, FitsLeaves, IsWrongBit}
use Rattle.fsck_scan.specs.Map.{AreBlankPast, HasMapRead, IsNoMap}
use Rattle.fsck_scan.specs.Scan.{failure, StandsAt, HasNodes, HasBegun, HasAllLevels, IsScanned}
use Rattle.fsck_scan.proofs.LevelLaws.{some_is, none_is}
use Rattle.fsck_scan.proofs.Numbers.{none_map, some_map, none_both, none_any, ok_none}
use Rattle.fsck_scan.proofs.EndLaws.{map_broken}
use Rattle.fsck_scan.proofs.ScanLaws.{none_set}
use Rattle.fsck_scan.proofs.WholeLaws.{blank_past, tree_is, form_size, comes_to, all_read, none_read, scanned_whole, end_broken, has_begun, moved}
use Rattle.fsck_scan.proofs.whole.judge_end.Goals as goal

pub returns-in-Some-clause-wrong : goal.returns-in-Some-clause-wrong
returns-in-Some-clause-wrong c few tree head_is leaves_are records used =
    inl (some_is c.judge_leaves.result c.in-Some.finding (λ (finding : Finding). (tree : TreeFile) → tree.head ≡ head_in c.args.head.now → leaves_in tree ≡ c.deref.result.now
    → length (leaves tree.nodes tree.head.root (levels_in tree)) ≡ c.len.result → count_by (is_in_use tree) (range_with_len 0 tree.head.total) ≡ c.count.result
    → IsUnmet 4 (as_found finding) (form_wants (form_in c.args.form.now) c.args.form.now.id tree)) c.in-Some.is c.judge_leaves.ensures.wrong tree head_is (leaves_are ∙ sym c.deref.ensures.value) (records ∙ sym c.len.ensures) (used ∙ sym c.count.ensures))

pub returns-clause-fits : goal.returns-clause-fits
returns-clause-fits c =
    let fits : FitsLeaves c.args.head.now c.deref.result.now c.len.result (c.args.head.now.shape.total - c.count.result) =
    none_is c.judge_leaves.result (FitsLeaves c.args.head.now c.deref.result.now c.len.result (c.args.head.now.shape.total - c.count.result)) c.in_default.is c.judge_leaves.ensures.fits in
    none_any c.judge_map.result (FitsLeaves c.args.head.now c.args.level.now.nodes.items (length c.args.level.now.records) (c.args.head.now.shape.total - count_set c.args.marks.now))
    (subst (λ n. FitsLeaves c.args.head.now c.args.level.now.nodes.items (length c.args.level.now.records) (c.args.head.now.shape.total - n)) c.count.ensures
    (subst (λ n. FitsLeaves c.args.head.now c.args.level.now.nodes.items n (c.args.head.now.shape.total - c.count.result)) c.len.ensures
    (subst (λ (l : List ℕ). FitsLeaves c.args.head.now l c.len.result (c.args.head.now.shape.total - c.count.result)) c.deref.ensures.value fits)))

pub returns-clause-wrong : goal.returns-clause-wrong
returns-clause-wrong c few =
    some_map c.judge_map.result (λ (finding : Finding). IsWrongBit c.args.form.now.id c.args.bits.now c.args.marks.now (as_found finding))
    (λ (finding : Finding). (tree : TreeFile) → tree.head ≡ head_in c.args.head.now → leaves_in tree ≡ c.args.level.now.nodes.items
    → length (leaves tree.nodes tree.head.root (levels_in tree)) ≡ length c.args.level.now.records → count_by (is_in_use tree) (range_with_len 0 tree.head.total) ≡ count_set c.args.marks.now
    → IsUnmet 4 (as_found finding) (form_wants (form_in c.args.form.now) c.args.form.now.id tree) ⊎ IsWrongBit c.args.form.now.id c.args.bits.now c.args.marks.now (as_found finding))
    (λ finding bit tree head_is leaves_are records used. inr bit) (c.judge_map.ensures.wrong few)
