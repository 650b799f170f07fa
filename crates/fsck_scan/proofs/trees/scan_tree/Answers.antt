use Rattle.std.proofs.Common.{◌≡◌, ◌⊎◌, ◌<◌, ◌≤◌, ℕ, ◌-◌, ◌/◌, ◌%◌, List, [], length, map, inl, inr, refl, sym, ◌∙◌, ap, subst, arith}
use Rattle.std.specs.Prelude.{IsTrue, IfOk, IfSome, IfNone, Contains}
use Rattle.sector_disk.specs.Space.{Space}
use Rattle.btree_node.specs.Levels.{pair_of}
use Rattle.btree_node.specs.Tree.{pairs_of}
use Rattle.btree_node.specs.TreeFile.{TreeFile, TreeForm, IsTreeFile, store_of}
use Rattle.fork_map.specs.Blocks.{fork_sectors}
use Rattle.hfs_volume.specs.Content.{tree_of_fork}
use Rattle.hfs_volume.specs.Broken.{Finding as Broken, IsBrokenTree}
use Rattle.fsck_list.specs.declared.finding.Finding.{Finding}
use Rattle.fsck_scan.specs.Form.{as_found, form_in, form_named, tree_in}
use Rattle.fsck_scan.specs.Scan.{IsScanned}
use Rattle.fsck_scan.specs.declared.form.Form.{Form}
use Rattle.fsck_scan.proofs.LevelLaws.{some_is, none_is}
use Rattle.fsck_scan.proofs.TreeLaws.{scanned_file, not_broken, some_listed, one_more}
use Rattle.fsck_scan.proofs.trees.scan_tree.Goals as goal

pub returns-in-Some-clause-clean : goal.returns-in-Some-clause-clean
returns-in-Some-clause-clean g c tells bytes is =
    let old : Space = g.V.SectorView.space c.args.view.now in
    let form : TreeForm = form_in (form_named c.args.tree) in
    let id : ℕ = (form_named c.args.tree).id in
    let tree : TreeFile = tree_in old.content old.sectors c.args.block c.args.fork.now in
    let own : TreeFile = tree_of_fork old.content c.whole_blocks-limit.result (fork_sectors c.in_ok-extents.extents (c.args.block / 512)) in
    let limit_is : c.whole_blocks-limit.result ≡ old.sectors - old.sectors % (c.args.block / 512) = c.whole_blocks-limit.ensures ∙ ap (λ n. n - n % (c.args.block / 512)) c.sectors.ensures in
    let same : own ≡ tree = λ i. tree_of_fork old.content (limit_is i) (fork_sectors (c.in_ok-extents.ensures i) (c.args.block / 512)) in
    let broken : IsBrokenTree form g.K.KeyOrder.is_key g.K.KeyOrder.is_value g.K.KeyOrder.cmp id tree (as_found c.in-Some.finding) =
    subst (λ (t : TreeFile). IsBrokenTree form g.K.KeyOrder.is_key g.K.KeyOrder.is_value g.K.KeyOrder.cmp id t (as_found c.in-Some.finding)) same
    (subst (λ (f : Form). IsBrokenTree (form_in f) g.K.KeyOrder.is_key g.K.KeyOrder.is_value g.K.KeyOrder.cmp f.id own (as_found c.in-Some.finding)) c.form-form.ensures
    (some_is c.in_ok-finding.field-0 c.in-Some.finding (λ (f : Finding). IsBrokenTree (form_in c.form-form.result) g.K.KeyOrder.is_key g.K.KeyOrder.is_value g.K.KeyOrder.cmp c.form-form.result.id own (as_found f)) c.in-Some.is (c.in_ok-finding.ensures.wrong tells))) in
    absurd (not_broken form g.K.KeyOrder.is_key g.K.KeyOrder.is_value g.K.KeyOrder.cmp id g.K.KeyOrder.MAX g.met.K.KeyOrder.key_length g.met.K.KeyOrder.key_most c.requires.order tree (as_found c.in-Some.finding) is broken)

pub returns-in-Some-clause-found : goal.returns-in-Some-clause-found
returns-in-Some-clause-found g c tells bytes = inr (c.new.ensures, some_listed c.push.new.self c.in-Some.finding c.in_ok-push.ensures.kept.listed)

pub returns-in-Some-clause-each : goal.returns-in-Some-clause-each
returns-in-Some-clause-each g c tells finding stands =
    let old : Space = g.V.SectorView.space c.args.view.now in
    let form : TreeForm = form_in (form_named c.args.tree) in
    let id : ℕ = (form_named c.args.tree).id in
    let tree : TreeFile = tree_in old.content old.sectors c.args.block c.args.fork.now in
    let own : TreeFile = tree_of_fork old.content c.whole_blocks-limit.result (fork_sectors c.in_ok-extents.extents (c.args.block / 512)) in
    let limit_is : c.whole_blocks-limit.result ≡ old.sectors - old.sectors % (c.args.block / 512) = c.whole_blocks-limit.ensures ∙ ap (λ n. n - n % (c.args.block / 512)) c.sectors.ensures in
    let same : own ≡ tree = λ i. tree_of_fork old.content (limit_is i) (fork_sectors (c.in_ok-extents.ensures i) (c.args.block / 512)) in
    let broken : IsBrokenTree form g.K.KeyOrder.is_key g.K.KeyOrder.is_value g.K.KeyOrder.cmp id tree (as_found c.in-Some.finding) =
    subst (λ (t : TreeFile). IsBrokenTree form g.K.KeyOrder.is_key g.K.KeyOrder.is_value g.K.KeyOrder.cmp id t (as_found c.in-Some.finding)) same
    (subst (λ (f : Form). IsBrokenTree (form_in f) g.K.KeyOrder.is_key g.K.KeyOrder.is_value g.K.KeyOrder.cmp f.id own (as_found c.in-Some.finding)) c.form-form.ensures
    (some_is c.in_ok-finding.field-0 c.in-Some.finding (λ (f : Finding). IsBrokenTree (form_in c.form-form.result) g.K.KeyOrder.is_key g.K.KeyOrder.is_value g.K.KeyOrder.cmp c.form-form.result.id own (as_found f)) c.in-Some.is (c.in_ok-finding.ensures.wrong tells))) in
    one_more (λ (f : Broken). IsBrokenTree form g.K.KeyOrder.is_key g.K.KeyOrder.is_value g.K.KeyOrder.cmp id tree f) c.args.out.now c.push.new.self c.in-Some.finding finding c.in_ok-push.ensures.kept broken stands

pub returns-clause-clean : goal.returns-clause-clean
returns-clause-clean g c tells bytes is =
    let old : Space = g.V.SectorView.space c.args.view.now in
    let form : TreeForm = form_in (form_named c.args.tree) in
    let id : ℕ = (form_named c.args.tree).id in
    let tree : TreeFile = tree_in old.content old.sectors c.args.block c.args.fork.now in
    let own : TreeFile = tree_of_fork old.content c.whole_blocks-limit.result (fork_sectors c.in_ok-extents.extents (c.args.block / 512)) in
    let limit_is : c.whole_blocks-limit.result ≡ old.sectors - old.sectors % (c.args.block / 512) = c.whole_blocks-limit.ensures ∙ ap (λ n. n - n % (c.args.block / 512)) c.sectors.ensures in
    let same : own ≡ tree = λ i. tree_of_fork old.content (limit_is i) (fork_sectors (c.in_ok-extents.ensures i) (c.args.block / 512)) in
    let scanned : IsScanned form g.K.KeyOrder.is_key g.K.KeyOrder.is_value g.K.KeyOrder.cmp id own c.scan.new.level.records =
    subst (λ (f : Form). IsScanned (form_in f) g.K.KeyOrder.is_key g.K.KeyOrder.is_value g.K.KeyOrder.cmp f.id own c.scan.new.level.records) c.form-form.ensures
    (none_is c.in_ok-finding.field-0 (IsScanned (form_in c.form-form.result) g.K.KeyOrder.is_key g.K.KeyOrder.is_value g.K.KeyOrder.cmp c.form-form.result.id own c.scan.new.level.records) c.in_default.is (c.in_ok-finding.ensures.right tells)) in
    (c.from_records.ensures ∙ ap (λ (l : List (List ℕ)). map pair_of l) c.into_records.ensures ∙ scanned.pairs ∙ ap (λ (t : TreeFile). pairs_of (store_of t)) same, refl)

pub returns-clause-found : goal.returns-clause-found
returns-clause-found g c tells bytes =
    let old : Space = g.V.SectorView.space c.args.view.now in
    let form : TreeForm = form_in (form_named c.args.tree) in
    let id : ℕ = (form_named c.args.tree).id in
    let tree : TreeFile = tree_in old.content old.sectors c.args.block c.args.fork.now in
    let own : TreeFile = tree_of_fork old.content c.whole_blocks-limit.result (fork_sectors c.in_ok-extents.extents (c.args.block / 512)) in
    let limit_is : c.whole_blocks-limit.result ≡ old.sectors - old.sectors % (c.args.block / 512) = c.whole_blocks-limit.ensures ∙ ap (λ n. n - n % (c.args.block / 512)) c.sectors.ensures in
    let same : own ≡ tree = λ i. tree_of_fork old.content (limit_is i) (fork_sectors (c.in_ok-extents.ensures i) (c.args.block / 512)) in
    let scanned : IsScanned form g.K.KeyOrder.is_key g.K.KeyOrder.is_value g.K.KeyOrder.cmp id own c.scan.new.level.records =
    subst (λ (f : Form). IsScanned (form_in f) g.K.KeyOrder.is_key g.K.KeyOrder.is_value g.K.KeyOrder.cmp f.id own c.scan.new.level.records) c.form-form.ensures
    (none_is c.in_ok-finding.field-0 (IsScanned (form_in c.form-form.result) g.K.KeyOrder.is_key g.K.KeyOrder.is_value g.K.KeyOrder.cmp c.form-form.result.id own c.scan.new.level.records) c.in_default.is (c.in_ok-finding.ensures.right tells)) in
    inl (subst (λ (t : TreeFile). IsTreeFile form g.K.KeyOrder.is_key g.K.KeyOrder.is_value g.K.KeyOrder.cmp t) same (scanned_file form g.K.KeyOrder.is_key g.K.KeyOrder.is_value g.K.KeyOrder.cmp id g.K.KeyOrder.MAX g.met.K.KeyOrder.key_length g.met.K.KeyOrder.key_most c.requires.order old.content c.whole_blocks-limit.result (fork_sectors c.in_ok-extents.extents (c.args.block / 512)) c.scan.new.level.records bytes scanned), refl)
