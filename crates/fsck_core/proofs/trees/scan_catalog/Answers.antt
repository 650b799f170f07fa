use Rattle.std.proofs.Common.{◌≡◌, length, sym, ◌∙◌, subst}
use Rattle.sector_disk.specs.Space.{Space}
use Rattle.jnl_format.specs.Recovery.{header_of_volume}
use Rattle.volume_header.specs.declared.header.VolumeHeader.{VolumeHeader}
use Rattle.btree_node.specs.Keys.{IsCatalogKey, anything, catalog_cmp}
use Rattle.btree_node.specs.TreeFile.{TreeFile, IsTreeFile, catalog_form}
use Rattle.hfs_volume.specs.Blocks.{IsGoodHeader}
use Rattle.hfs_volume.specs.Broken.{IsBrokenTree}
use Rattle.hfs_volume.specs.Content.{catalog_file, overflow_of_content}
use Rattle.hfs_volume.specs.Forks.{catalog_id, data_kind, extents_of}
use Rattle.fsck_scan.specs.Form.{tree_in}
use Rattle.fsck_core.specs.Wants.{as_found}
use Rattle.fsck_core.proofs.Limits.{block_range, catalog_lies}
use Rattle.fsck_core.proofs.ScanLaws.{found_there}
use Rattle.fsck_core.proofs.trees.scan_catalog.Goals as goal

pub scan_file-requires-clause-least : goal.scan_file-requires-clause-least
scan_file-requires-clause-least g c = (block_range (g.V.SectorView.space c.args.view.now).sectors c.args.head.now c.requires.good).0

pub scan_file-requires-clause-most : goal.scan_file-requires-clause-most
scan_file-requires-clause-most g c = (block_range (g.V.SectorView.space c.args.view.now).sectors c.args.head.now c.requires.good).1

pub returns-clause-found : goal.returns-clause-found
returns-clause-found g c tells bytes head overflow =
    let old : Space = g.V.SectorView.space c.args.view.now in
    let many : old.sectors ≡ length old.content = sym (g.met.V.SectorView.well_formed c.args.view.now tells) in
    let good : IsGoodHeader (length old.content) (header_of_volume old.content) = subst (λ n. IsGoodHeader n (header_of_volume old.content)) many (subst (λ (h : VolumeHeader). IsGoodHeader old.sectors h) head c.requires.good) in
    let fork : c.in_ok-fork.fork ≡ extents_of (overflow_of_content old.content) catalog_id data_kind (header_of_volume old.content).catalog_fork = c.in_ok-fork.ensures ∙ (λ i. extents_of (overflow i) catalog_id data_kind (head i).catalog_fork) in
    let same : tree_in old.content old.sectors c.args.head.now.block_size c.in_ok-fork.fork ≡ catalog_file old.content = (λ i. tree_in old.content (many i) (head i).block_size (fork i)) ∙ catalog_lies old.content good in
    found_there c.scan_file.result (IsTreeFile catalog_form IsCatalogKey anything catalog_cmp) c.scan_file.new.out (tree_in old.content old.sectors c.args.head.now.block_size c.in_ok-fork.fork) (catalog_file old.content) same (c.scan_file.ensures.found tells bytes)

pub returns-clause-each : goal.returns-clause-each
returns-clause-each g c tells head overflow finding stands =
    let old : Space = g.V.SectorView.space c.args.view.now in
    let many : old.sectors ≡ length old.content = sym (g.met.V.SectorView.well_formed c.args.view.now tells) in
    let good : IsGoodHeader (length old.content) (header_of_volume old.content) = subst (λ n. IsGoodHeader n (header_of_volume old.content)) many (subst (λ (h : VolumeHeader). IsGoodHeader old.sectors h) head c.requires.good) in
    let fork : c.in_ok-fork.fork ≡ extents_of (overflow_of_content old.content) catalog_id data_kind (header_of_volume old.content).catalog_fork = c.in_ok-fork.ensures ∙ (λ i. extents_of (overflow i) catalog_id data_kind (head i).catalog_fork) in
    let same : tree_in old.content old.sectors c.args.head.now.block_size c.in_ok-fork.fork ≡ catalog_file old.content = (λ i. tree_in old.content (many i) (head i).block_size (fork i)) ∙ catalog_lies old.content good in
    subst (λ (t : TreeFile). IsBrokenTree catalog_form IsCatalogKey anything catalog_cmp catalog_id t (as_found finding)) same (c.scan_file.ensures.each tells finding stands)
