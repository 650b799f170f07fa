use Rattle.std.proofs.Common.{◌≡◌, ◌⊎◌, ◌<◌, ◌≤◌, ℕ, ◌-◌, ◌*◌, ◌^◌, ◌==◌, true, false, List, [], length, map, get_or, replicate, inl, inr, refl, sym, ◌∙◌, ap, subst, arith, if◌then◌else◌}
use Rattle.std.specs.Prelude.{IfOk, IfSome, IfNone, slice_index_or, Option}
use Rattle.std.specs.List.{count_by, range_with_len}
use Rattle.std.proofs.lemmas.List.{length-replicate}
use Rattle.jnl_format.specs.Recovery.{Content}
use Rattle.flag_rows.specs.Bits.{bit_of, count_set}
use Rattle.sector_disk.specs.Space.{Space}
use Rattle.btree_node.specs.Levels.{Nodes, leaves}
use Rattle.btree_node.specs.Node.{height_of}
use Rattle.btree_node.specs.TreeFile.{TreeFile, tree_head}
use Rattle.btree_file.specs.FrameLaws.{reads_none, reads_both}
use Rattle.fork_map.specs.Blocks.{fork_sectors}
use Rattle.hfs_volume.specs.Content.{node_of_fork, tree_of_fork}
use Rattle.hfs_volume.specs.Broken.{IsBrokenTree, IsUnmet, form_wants, is_in_use, levels_in, leaves_in}
use Rattle.fsck_list.specs.declared.finding.Finding.{Finding}
use Rattle.fsck_scan.specs.Form.{as_found, form_in, head_in, tree_at, FitsForm, FitsRoot, FitsLeaves, IsWrongBit}
use Rattle.fsck_scan.specs.Map.{AreBlankPast, HasMapRead, IsNoMap}
use Rattle.fsck_scan.specs.Scan.{failure, StandsAt, HasNodes, HasBegun, HasAllLevels, IsScanned}
use Rattle.fsck_scan.proofs.LevelLaws.{some_is, none_is}
use Rattle.fsck_scan.proofs.Numbers.{none_map, some_map, none_both, none_any, ok_none}
use Rattle.fsck_scan.proofs.EndLaws.{map_broken}
use Rattle.fsck_scan.proofs.ScanLaws.{none_set}
use Rattle.fsck_scan.proofs.WholeLaws.{blank_past, tree_is, form_size, comes_to, all_read, none_read, scanned_whole, end_broken, has_begun, moved}
use Rattle.fsck_scan.proofs.whole.scan_levels.Goals as goal

pub returns-in-Some-clause-wrong : goal.returns-in-Some-clause-wrong
returns-in-Some-clause-wrong g c tells begun bits =
    let old : Space = g.V.SectorView.space c.args.view.now in
    let limit : ℕ = c.args.fork.now.limit in
    let fork : List ℕ = fork_sectors c.args.fork.now.extents.now c.args.fork.now.per_block in
    let nodes : Nodes = λ n. node_of_fork old.content limit fork (length c.args.node.now) n in
    let tree : TreeFile = tree_at old.content limit fork (length c.args.node.now) c.args.head.now in
    inl (some_is c.judge_root.result c.in-Some.finding (λ (finding : Finding). (tree : TreeFile) → tree.head ≡ head_in c.args.head.now → levels_in tree ≡ c.args.height → length tree.map ≡ (length c.args.bits.now)
    → IsUnmet 4 (as_found finding) (form_wants (form_in c.args.form.now) c.args.form.now.id tree)) c.in-Some.is c.judge_root.ensures.wrong tree refl begun.height_is (sym (ap (λ (l : List ℕ). length l) bits)))

pub returns-in-Some-clause-reads : goal.returns-in-Some-clause-reads
returns-in-Some-clause-reads g c = reads_none (g.V.SectorView.space c.args.view.now)

pub returns-in-Some-clause-below : goal.returns-in-Some-clause-below
returns-in-Some-clause-below g c = g.met.V.SectorView.follows_refl c.args.view.now

pub read_all-requires-clause-empty : goal.read_all-requires-clause-empty
read_all-requires-clause-empty g c none =
    (none_is c.judge_root.result (FitsRoot c.args.head.now c.args.height (length c.args.bits.now)) c.in_default.is c.judge_root.ensures.fits).root ∙ ap (λ h. if h == 0 then 0 else c.args.head.now.shape.root) none

pub returns-in-Some-2-clause-wrong : goal.returns-in-Some-2-clause-wrong
returns-in-Some-2-clause-wrong g c tells begun bits =
    let old : Space = g.V.SectorView.space c.args.view.now in
    let limit : ℕ = c.args.fork.now.limit in
    let fork : List ℕ = fork_sectors c.args.fork.now.extents.now c.args.fork.now.per_block in
    let nodes : Nodes = λ n. node_of_fork old.content limit fork (length c.args.node.now) n in
    let tree : TreeFile = tree_at old.content limit fork (length c.args.node.now) c.args.head.now in
    let has : HasNodes tree nodes (length c.args.node.now) c.args.head.now.shape.total = record { are = refl; size_is = begun.size_is; total_is = refl } in
    some_is c.in_ok-finding.field-0 c.in-Some-2.finding (λ (f : Finding). IsBrokenTree (form_in c.args.form.now) g.K.KeyOrder.is_key g.K.KeyOrder.is_value g.K.KeyOrder.cmp c.args.form.now.id tree (as_found f)) c.in-Some-2.is (c.in_ok-finding.ensures.wrong tells tree has begun)

pub returns-clause-right : goal.returns-clause-right
returns-clause-right g c tells begun bits =
    let old : Space = g.V.SectorView.space c.args.view.now in
    let limit : ℕ = c.args.fork.now.limit in
    let fork : List ℕ = fork_sectors c.args.fork.now.extents.now c.args.fork.now.per_block in
    let nodes : Nodes = λ n. node_of_fork old.content limit fork (length c.args.node.now) n in
    let tree : TreeFile = tree_at old.content limit fork (length c.args.node.now) c.args.head.now in
    let has : HasNodes tree nodes (length c.args.node.now) c.args.head.now.shape.total = record { are = refl; size_is = begun.size_is; total_is = refl } in
    let all : HasAllLevels g.K.KeyOrder.is_key g.K.KeyOrder.is_value g.K.KeyOrder.cmp tree c.read_all.new.marks c.read_all.new.level.nodes.items c.read_all.new.level.records =
    none_is c.in_ok-finding.field-0 (HasAllLevels g.K.KeyOrder.is_key g.K.KeyOrder.is_value g.K.KeyOrder.cmp tree c.read_all.new.marks c.read_all.new.level.nodes.items c.read_all.new.level.records) c.in_default-2.is (c.in_ok-finding.ensures.right tells tree has begun) in
    let few : length c.read_all.new.marks ≤ 2 ^ 32 = omega (arith, all.scanned.fits, c.requires.total) in
    none_both c.judge_end.result (FitsLeaves c.args.head.now c.read_all.new.level.nodes.items (length c.read_all.new.level.records) (c.args.head.now.shape.total - count_set c.read_all.new.marks))
    ((n : ℕ) → n < 8 * length c.args.bits.now → bit_of c.args.bits.now n ≡ get_or c.read_all.new.marks n false)
    (IsScanned (form_in c.args.form.now) g.K.KeyOrder.is_key g.K.KeyOrder.is_value g.K.KeyOrder.cmp c.args.form.now.id tree c.read_all.new.level.records)
    (λ ends fits. scanned_whole c.args.form.now g.K.KeyOrder.is_key g.K.KeyOrder.is_value g.K.KeyOrder.cmp c.args.head.now nodes c.read_all.new.marks c.read_all.new.level.nodes.items c.read_all.new.level.records c.args.bits.now all bits c.args.height (length c.args.bits.now) begun.height_is refl c.requires.fits
    (none_is c.judge_root.result (FitsRoot c.args.head.now c.args.height (length c.args.bits.now)) c.in_default.is c.judge_root.ensures.fits) ends fits)
    c.judge_end.ensures.fits (c.judge_end.ensures.bits few)

pub returns-clause-wrong : goal.returns-clause-wrong
returns-clause-wrong g c tells begun bits =
    let old : Space = g.V.SectorView.space c.args.view.now in
    let limit : ℕ = c.args.fork.now.limit in
    let fork : List ℕ = fork_sectors c.args.fork.now.extents.now c.args.fork.now.per_block in
    let nodes : Nodes = λ n. node_of_fork old.content limit fork (length c.args.node.now) n in
    let tree : TreeFile = tree_at old.content limit fork (length c.args.node.now) c.args.head.now in
    let has : HasNodes tree nodes (length c.args.node.now) c.args.head.now.shape.total = record { are = refl; size_is = begun.size_is; total_is = refl } in
    let all : HasAllLevels g.K.KeyOrder.is_key g.K.KeyOrder.is_value g.K.KeyOrder.cmp tree c.read_all.new.marks c.read_all.new.level.nodes.items c.read_all.new.level.records =
    none_is c.in_ok-finding.field-0 (HasAllLevels g.K.KeyOrder.is_key g.K.KeyOrder.is_value g.K.KeyOrder.cmp tree c.read_all.new.marks c.read_all.new.level.nodes.items c.read_all.new.level.records) c.in_default-2.is (c.in_ok-finding.ensures.right tells tree has begun) in
    let few : length c.read_all.new.marks ≤ 2 ^ 32 = omega (arith, all.scanned.fits, c.requires.total) in
    some_map c.judge_end.result
    (λ (finding : Finding). (tree : TreeFile) → tree.head ≡ head_in c.args.head.now → leaves_in tree ≡ c.read_all.new.level.nodes.items
    → length (leaves tree.nodes tree.head.root (levels_in tree)) ≡ length c.read_all.new.level.records → count_by (is_in_use tree) (range_with_len 0 tree.head.total) ≡ count_set c.read_all.new.marks
    → IsUnmet 4 (as_found finding) (form_wants (form_in c.args.form.now) c.args.form.now.id tree) ⊎ IsWrongBit c.args.form.now.id c.args.bits.now c.read_all.new.marks (as_found finding))
    (λ (f : Finding). IsBrokenTree (form_in c.args.form.now) g.K.KeyOrder.is_key g.K.KeyOrder.is_value g.K.KeyOrder.cmp c.args.form.now.id tree (as_found f))
    (λ finding wrong. end_broken c.args.form.now g.K.KeyOrder.is_key g.K.KeyOrder.is_value g.K.KeyOrder.cmp c.args.head.now nodes c.read_all.new.marks c.read_all.new.level.nodes.items c.read_all.new.level.records c.args.bits.now all bits (as_found finding) wrong)
    (c.judge_end.ensures.wrong few)
