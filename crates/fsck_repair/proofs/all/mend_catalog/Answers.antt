use Rattle.std.proofs.Common.{◌≡◌, ℕ, List, length, ◌∙◌, ap}
use Rattle.std.proofs.lemmas.List.{length-replicate}
use Rattle.hfs_volume.specs.Broken.{leaves_in}
use Rattle.hfs_volume.specs.Content.{volume_of, records_of, catalog_file}
use Rattle.fsck_repair.proofs.AllLaws.{leaves_there, catalog_noted, first_is}
use Rattle.fsck_repair.proofs.all.mend_catalog.Goals as goal

pub returns-clause-notes : goal.returns-clause-notes
returns-clause-notes g c content shows counted skipped =
    let size : length c.in_ok-node.node ≡ c.args.counts.now.tree.shape.node_size = ap (λ (l : List ℕ). length l) c.in_ok-node.ensures ∙ length-replicate {A = ℕ} c.args.counts.now.tree.shape.node_size 0 in
    catalog_noted content c.args.counts.now counted c.mend_leaves.result (length c.in_ok-node.node) c.args.changes.now.items c.mend_leaves.new.changes.items size
    (c.mend_leaves.ensures.notes content (records_of (volume_of content)) (leaves_in (catalog_file content)) shows skipped counted.entries (first_is content c.args.counts.now counted) (leaves_there content c.args.counts.now counted (length c.in_ok-node.node) size))
