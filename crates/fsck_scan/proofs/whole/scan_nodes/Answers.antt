use Rattle.std.proofs.Common.{◌≡◌, ◌⊎◌, ◌<◌, ◌≤◌, ℕ, ◌-◌, ◌*◌, ◌^◌, ◌==◌, Bool, true, false, List, [], length, map, get_or, replicate, inl, inr, refl, sym, ◌∙◌, ap, subst, arith, if◌then◌else◌}
use Rattle.std.specs.Prelude.{IsTrue, IfOk, IfSome, IfNone, slice_index_or, Option}
use Rattle.std.specs.List.{count_by, range_with_len}
use Rattle.std.proofs.lemmas.List.{length-replicate}
use Rattle.jnl_format.specs.Recovery.{Content}
use Rattle.flag_rows.specs.Bits.{bit_of, count_set}
use Rattle.sector_disk.specs.Space.{Space}
use Rattle.btree_node.specs.Levels.{Nodes, leaves}
use Rattle.btree_node.specs.Node.{height_of}
use Rattle.btree_node.specs.TreeFile.{TreeFile, tree_head}
use Rattle.btree_file.specs.FrameLaws.{reads_none, reads_both}
use Rattle.fork_map.specs.Blocks.{fork_sectors}
use Rattle.hfs_volume.specs.Content.{node_of_fork, tree_of_fork}
use Rattle.hfs_volume.specs.Broken.{IsBrokenTree, IsUnmet, form_wants, is_in_use, levels_in, leaves_in}
use Rattle.hfs_volume.specs.Broken.{Finding as Broken}
use Rattle.fsck_list.specs.declared.finding.Finding.{Finding}
use Rattle.fsck_scan.specs.Form.{as_found, form_in, head_in, tree_at, FitsForm, FitsRoot, FitsLeaves, IsWrongBit}
use Rattle.fsck_scan.specs.Map.{AreBlankPast, HasMapRead, IsNoMap}
use Rattle.fsck_scan.specs.Scan.{failure, StandsAt, HasNodes, HasBegun, HasAllLevels, IsScanned}
use Rattle.fsck_scan.proofs.LevelLaws.{some_is, none_is}
use Rattle.fsck_scan.proofs.Numbers.{none_map, some_map, none_both, none_any, ok_none}
use Rattle.fsck_scan.proofs.EndLaws.{map_broken}
use Rattle.fsck_scan.proofs.ScanLaws.{none_set}
use Rattle.fsck_scan.proofs.WholeLaws.{blank_past, tree_is, form_size, comes_to, all_read, none_read, scanned_whole, end_broken, has_begun, moved}
use Rattle.fsck_scan.proofs.whole.scan_nodes.Goals as goal

pub read_map-requires-clause-some : goal.read_map-requires-clause-some
read_map-requires-clause-some g c = omega (arith, c.requires.fits.total)

pub read_map-requires-clause-places : goal.read_map-requires-clause-places
read_map-requires-clause-places g c = omega (arith, c.nodes_there-there.ensures.few, ap (λ l. length l) c.in_ok-marks.ensures, length-replicate {A = Bool} c.nodes_there-there.result false)

pub read_map-requires-clause-unmarked : goal.read_map-requires-clause-unmarked
read_map-requires-clause-unmarked g c n inside =
    ap (λ (l : List Bool). get_or l n true) c.in_ok-marks.ensures ∙ none_set c.nodes_there-there.result n (omega (arith, inside, ap (λ l. length l) c.in_ok-marks.ensures, length-replicate {A = Bool} c.nodes_there-there.result false))

pub read_map-requires-clause-blank : goal.read_map-requires-clause-blank
read_map-requires-clause-blank g c tells =
    let old : Space = g.V.SectorView.space c.args.view.now in
    let limit : ℕ = c.args.fork.now.limit in
    let fork : List ℕ = fork_sectors c.args.fork.now.extents.now c.args.fork.now.per_block in
    let size : ℕ = c.args.head.now.shape.node_size in
    let total : ℕ = c.args.head.now.shape.total in
    let long : length c.in_ok-node.node ≡ size = ap (λ (l : List ℕ). length l) c.in_ok-node.ensures ∙ length-replicate {A = ℕ} size 0 in
    let nodes : Nodes = λ n. node_of_fork old.content limit fork size n in
    let first : Nodes = λ n. node_of_fork old.content limit fork (length c.in_ok-node.node) n in
    let same : first ≡ nodes = λ i. λ n. node_of_fork old.content limit fork (long i) n in
    subst (λ (f : Nodes). AreBlankPast f (length c.in_ok-marks.marks) total) (sym same)
    (subst (λ n. AreBlankPast nodes n total) (sym (ap (λ l. length l) c.in_ok-marks.ensures ∙ length-replicate {A = Bool} c.nodes_there-there.result false)) (c.nodes_there-there.ensures.blank old.content))

pub returns-in-Some-clause-wrong : goal.returns-in-Some-clause-wrong
returns-in-Some-clause-wrong g c tells =
    let old : Space = g.V.SectorView.space c.args.view.now in
    let limit : ℕ = c.args.fork.now.limit in
    let fork : List ℕ = fork_sectors c.args.fork.now.extents.now c.args.fork.now.per_block in
    let size : ℕ = c.args.head.now.shape.node_size in
    let total : ℕ = c.args.head.now.shape.total in
    let long : length c.in_ok-node.node ≡ size = ap (λ (l : List ℕ). length l) c.in_ok-node.ensures ∙ length-replicate {A = ℕ} size 0 in
    let nodes : Nodes = λ n. node_of_fork old.content limit fork size n in
    let first : Nodes = λ n. node_of_fork old.content limit fork (length c.in_ok-node.node) n in
    let same : first ≡ nodes = λ i. λ n. node_of_fork old.content limit fork (long i) n in
    subst (λ (f : Broken). IsBrokenTree (form_in c.args.form.now) g.K.KeyOrder.is_key g.K.KeyOrder.is_value g.K.KeyOrder.cmp c.args.form.now.id (tree_at old.content limit fork size c.args.head.now) f) (sym c.failed.ensures)
    (map_broken (form_in c.args.form.now) g.K.KeyOrder.is_key g.K.KeyOrder.is_value g.K.KeyOrder.cmp c.args.form.now.id c.args.head.now nodes c.in-Some.wrong
    (subst (λ (f : Nodes). IsNoMap f total c.in-Some.wrong) same (some_is c.in_ok-wrong.field-0 c.in-Some.wrong (IsNoMap first total) c.in-Some.is (c.in_ok-wrong.ensures.wrong tells))))

pub scan_levels-requires-clause-few : goal.scan_levels-requires-clause-few
scan_levels-requires-clause-few g c = omega (arith, c.in_ok-wrong.ensures.few, c.requires.total, ap (λ (l : List ℕ). length l) c.deref.ensures.value)

pub returns-clause-right : goal.returns-clause-right
returns-clause-right g c tells =
    let old : Space = g.V.SectorView.space c.args.view.now in
    let limit : ℕ = c.args.fork.now.limit in
    let fork : List ℕ = fork_sectors c.args.fork.now.extents.now c.args.fork.now.per_block in
    let size : ℕ = c.args.head.now.shape.node_size in
    let total : ℕ = c.args.head.now.shape.total in
    let long : length c.in_ok-node.node ≡ size = ap (λ (l : List ℕ). length l) c.in_ok-node.ensures ∙ length-replicate {A = ℕ} size 0 in
    let nodes : Nodes = λ n. node_of_fork old.content limit fork size n in
    let first : Nodes = λ n. node_of_fork old.content limit fork (length c.in_ok-node.node) n in
    let same : first ≡ nodes = λ i. λ n. node_of_fork old.content limit fork (long i) n in
    let after : Space = g.V.SectorView.space c.read_map.new.view in
    let last : Space = g.V.SectorView.space c.root_height.new.view in
    let told : IsTrue after.tells = c.read_map.ensures.reads.same.tells ∙ tells in
    let told_last : IsTrue last.tells = c.root_height.ensures.reads.same.tells ∙ told in
    let content_is : after.content ≡ old.content = (c.read_map.ensures.reads.sectors tells).content in
    let last_is : last.content ≡ old.content = (c.root_height.ensures.reads.sectors told).content ∙ content_is in
    let long_is : length c.read_map.new.node ≡ size = c.read_map.ensures.length ∙ long in
    let long_last : length c.root_height.new.node ≡ size = c.root_height.ensures.length ∙ long_is in
    let bits_are : c.deref.result.now ≡ c.read_map.new.bits.items = c.deref.ensures.value in
    let read : HasMapRead nodes size total c.in_ok-marks.marks c.read_map.new.marks c.read_map.new.bits.items =
    subst (λ (f : Nodes). HasMapRead f size total c.in_ok-marks.marks c.read_map.new.marks c.read_map.new.bits.items) same
    (subst (λ s. HasMapRead first s total c.in_ok-marks.marks c.read_map.new.marks c.read_map.new.bits.items) long
    (none_is c.in_ok-wrong.field-0 (HasMapRead first (length c.in_ok-node.node) total c.in_ok-marks.marks c.read_map.new.marks c.read_map.new.bits.items) c.in_default.is (c.in_ok-wrong.ensures.read tells))) in
    let begun = has_begun g.K.KeyOrder.is_key g.K.KeyOrder.is_value g.K.KeyOrder.cmp c.args.head.now nodes c.in_ok-marks.marks c.read_map.new.marks c.deref.result.now c.nodes_there-there.result size c.in_ok-height.height c.root_height.new.node c.in_ok-marks.ensures c.nodes_there-there.ensures.few
    refl (c.nodes_there-there.ensures.blank old.content) (subst (λ (l : List ℕ). HasMapRead nodes size total c.in_ok-marks.marks c.read_map.new.marks l) (sym bits_are) read)
    (c.in_ok-height.ensures.height told ∙ ap (λ (content : Content). if c.args.head.now.shape.root == 0 then 0 else height_of (node_of_fork content limit fork (length c.read_map.new.node) c.args.head.now.shape.root)) content_is
    ∙ ap (λ s. if c.args.head.now.shape.root == 0 then 0 else height_of (node_of_fork old.content limit fork s c.args.head.now.shape.root)) long_is)
    (λ some. c.in_ok-height.ensures.value told some ∙ ap (λ (content : Content). node_of_fork content limit fork (length c.read_map.new.node) c.args.head.now.shape.root) content_is
    ∙ ap (λ s. node_of_fork old.content limit fork s c.args.head.now.shape.root) long_is) in
    let there = moved old.content last.content limit fork size (length c.root_height.new.node) c.args.head.now
    (λ tree s. HasBegun g.K.KeyOrder.is_key g.K.KeyOrder.is_value g.K.KeyOrder.cmp tree s total c.in_ok-height.height c.args.head.now.shape.root c.read_map.new.marks c.root_height.new.node × (c.deref.result.now ≡ tree.map)) (sym last_is) (sym long_last) begun in
    moved last.content old.content limit fork (length c.root_height.new.node) size c.args.head.now
    (λ tree s. IfOk c.scan_levels.result (λ wrong. IfNone wrong (IsScanned (form_in c.args.form.now) g.K.KeyOrder.is_key g.K.KeyOrder.is_value g.K.KeyOrder.cmp c.args.form.now.id tree c.scan_levels.new.level.records))) last_is long_last
    (c.scan_levels.ensures.right told_last there.0 there.1)

pub returns-clause-wrong : goal.returns-clause-wrong
returns-clause-wrong g c tells =
    let old : Space = g.V.SectorView.space c.args.view.now in
    let limit : ℕ = c.args.fork.now.limit in
    let fork : List ℕ = fork_sectors c.args.fork.now.extents.now c.args.fork.now.per_block in
    let size : ℕ = c.args.head.now.shape.node_size in
    let total : ℕ = c.args.head.now.shape.total in
    let long : length c.in_ok-node.node ≡ size = ap (λ (l : List ℕ). length l) c.in_ok-node.ensures ∙ length-replicate {A = ℕ} size 0 in
    let nodes : Nodes = λ n. node_of_fork old.content limit fork size n in
    let first : Nodes = λ n. node_of_fork old.content limit fork (length c.in_ok-node.node) n in
    let same : first ≡ nodes = λ i. λ n. node_of_fork old.content limit fork (long i) n in
    let after : Space = g.V.SectorView.space c.read_map.new.view in
    let last : Space = g.V.SectorView.space c.root_height.new.view in
    let told : IsTrue after.tells = c.read_map.ensures.reads.same.tells ∙ tells in
    let told_last : IsTrue last.tells = c.root_height.ensures.reads.same.tells ∙ told in
    let content_is : after.content ≡ old.content = (c.read_map.ensures.reads.sectors tells).content in
    let last_is : last.content ≡ old.content = (c.root_height.ensures.reads.sectors told).content ∙ content_is in
    let long_is : length c.read_map.new.node ≡ size = c.read_map.ensures.length ∙ long in
    let long_last : length c.root_height.new.node ≡ size = c.root_height.ensures.length ∙ long_is in
    let bits_are : c.deref.result.now ≡ c.read_map.new.bits.items = c.deref.ensures.value in
    let read : HasMapRead nodes size total c.in_ok-marks.marks c.read_map.new.marks c.read_map.new.bits.items =
    subst (λ (f : Nodes). HasMapRead f size total c.in_ok-marks.marks c.read_map.new.marks c.read_map.new.bits.items) same
    (subst (λ s. HasMapRead first s total c.in_ok-marks.marks c.read_map.new.marks c.read_map.new.bits.items) long
    (none_is c.in_ok-wrong.field-0 (HasMapRead first (length c.in_ok-node.node) total c.in_ok-marks.marks c.read_map.new.marks c.read_map.new.bits.items) c.in_default.is (c.in_ok-wrong.ensures.read tells))) in
    let begun = has_begun g.K.KeyOrder.is_key g.K.KeyOrder.is_value g.K.KeyOrder.cmp c.args.head.now nodes c.in_ok-marks.marks c.read_map.new.marks c.deref.result.now c.nodes_there-there.result size c.in_ok-height.height c.root_height.new.node c.in_ok-marks.ensures c.nodes_there-there.ensures.few
    refl (c.nodes_there-there.ensures.blank old.content) (subst (λ (l : List ℕ). HasMapRead nodes size total c.in_ok-marks.marks c.read_map.new.marks l) (sym bits_are) read)
    (c.in_ok-height.ensures.height told ∙ ap (λ (content : Content). if c.args.head.now.shape.root == 0 then 0 else height_of (node_of_fork content limit fork (length c.read_map.new.node) c.args.head.now.shape.root)) content_is
    ∙ ap (λ s. if c.args.head.now.shape.root == 0 then 0 else height_of (node_of_fork old.content limit fork s c.args.head.now.shape.root)) long_is)
    (λ some. c.in_ok-height.ensures.value told some ∙ ap (λ (content : Content). node_of_fork content limit fork (length c.read_map.new.node) c.args.head.now.shape.root) content_is
    ∙ ap (λ s. node_of_fork old.content limit fork s c.args.head.now.shape.root) long_is) in
    let there = moved old.content last.content limit fork size (length c.root_height.new.node) c.args.head.now
    (λ tree s. HasBegun g.K.KeyOrder.is_key g.K.KeyOrder.is_value g.K.KeyOrder.cmp tree s total c.in_ok-height.height c.args.head.now.shape.root c.read_map.new.marks c.root_height.new.node × (c.deref.result.now ≡ tree.map)) (sym last_is) (sym long_last) begun in
    moved last.content old.content limit fork (length c.root_height.new.node) size c.args.head.now
    (λ tree s. IfOk c.scan_levels.result (λ wrong. IfSome wrong (λ (f : Finding). IsBrokenTree (form_in c.args.form.now) g.K.KeyOrder.is_key g.K.KeyOrder.is_value g.K.KeyOrder.cmp c.args.form.now.id tree (as_found f)))) last_is long_last
    (c.scan_levels.ensures.wrong told_last there.0 there.1)

pub returns-clause-reads : goal.returns-clause-reads
returns-clause-reads g c =
    let first : Space = g.V.SectorView.space c.args.view.now in
    let after : Space = g.V.SectorView.space c.read_map.new.view in
    let last : Space = g.V.SectorView.space c.root_height.new.view in
    reads_both first last (g.V.SectorView.space c.scan_levels.new.view) (reads_both first after last c.read_map.ensures.reads c.root_height.ensures.reads) c.scan_levels.ensures.reads

pub returns-clause-below : goal.returns-clause-below
returns-clause-below g c =
    g.met.V.SectorView.follows_trans c.args.view.now c.root_height.new.view c.scan_levels.new.view
    (g.met.V.SectorView.follows_trans c.args.view.now c.read_map.new.view c.root_height.new.view c.read_map.ensures.below c.root_height.ensures.below) c.scan_levels.ensures.below
