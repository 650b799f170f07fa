use Rattle.std.proofs.Common.{◌≡◌, ◌<◌, ◌+◌, ◌*◌, ◌/◌, ℕ, List, length, sym, ◌∙◌, ap, subst}
use Rattle.std.specs.Prelude.{slice_get}
use Rattle.sector_disk.specs.Space.{Space}
use Rattle.jnl_format.specs.Recovery.{Content}
use Rattle.fork_map.specs.Blocks.{fork_sectors}
use Rattle.hfs_volume.specs.Content.{node_of_fork}
use Rattle.fsck_scan.specs.Read.{IsWhole}
use Rattle.fsck_core.proofs.ShownLaws.{shows_still}
use Rattle.volume_repair.specs.Repair.{leaf_mended}
use Rattle.fsck_repair.specs.Changing.{Notes}
use Rattle.fsck_repair.specs.Leaf.{IsGoodLeaf, IsOfNode, MendsNode, WasRead}
use Rattle.fsck_repair.proofs.leaves.mend_node.Goals as goal

pub returns-clause-notes : goal.returns-clause-notes
returns-clause-notes g c content records shows skipped are good mends =
    let old : Space = g.V.SectorView.space c.args.view.now in
    let limit : ℕ = c.args.fork.now.limit in
    let sectors : List ℕ = fork_sectors c.args.fork.now.extents.now c.args.fork.now.per_block in
    let size : ℕ = length c.args.node.now in
    let node : List ℕ = node_of_fork content limit sectors size c.args.n in
    let now : List ℕ = c.read_node.new.into in
    let read : now ≡ node = c.in_ok-read_node.ensures.value shows.tells ∙ ap (λ (ct : Content). node_of_fork ct limit sectors size c.args.n) shows.is in
    let long : length now ≡ size = c.read_node.ensures.length in
    let there = shows_still old (g.V.SectorView.space c.read_node.new.view) content shows c.read_node.ensures.reads in
    let whole : (k : ℕ) → k < size / 512 → IsWhole content (length content) limit (slice_get sectors (c.args.n * (size / 512) + k)) = λ k less.
    subst (λ s. IsWhole content s limit (slice_get sectors (c.args.n * (size / 512) + k))) shows.size
    (subst (λ (ct : Content). IsWhole ct old.sectors limit (slice_get sectors (c.args.n * (size / 512) + k))) shows.is (c.in_ok-read_node.ensures.whole shows.tells k less)) in
    let was : WasRead content limit sectors c.args.n now = record {
      bytes_are = read ∙ ap (λ m. node_of_fork content limit sectors m c.args.n) (sym long);
      whole = subst (λ m. (k : ℕ) → k < m / 512 → IsWhole content (length content) limit (slice_get sectors (c.args.n * (m / 512) + k))) (sym long) whole;
    } in
    subst (λ m. Notes content (IsOfNode content sectors (m / 512) c.args.n) c.args.changes.now.items c.mend_read.new.changes.items) long
    (c.in_ok-mend_read.ensures.notes content records there skipped are was (subst IsGoodLeaf (sym read) good)
    (subst (λ m. MendsNode content sectors (m / 512) c.args.n (leaf_mended records now)) (sym long) (subst (λ (l : List ℕ). MendsNode content sectors (size / 512) c.args.n (leaf_mended records l)) (sym read) mends)))
