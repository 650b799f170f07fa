use Rattle.std.proofs.Common.{◌/◌, ℕ, List, length, refl, sym, ◌∙◌, subst, arith}
use Rattle.sector_disk.specs.Space.{Space}
use Rattle.btree_file.specs.FrameLaws.{reads_none, reads_both}
use Rattle.btree_node.specs.Node.{next_of}
use Rattle.fork_map.specs.Blocks.{fork_sectors}
use Rattle.hfs_volume.specs.Content.{node_of_fork}
use Rattle.fsck_core.proofs.ShownLaws.{shows_still}
use Rattle.volume_repair.specs.Repair.{leaf_mended}
use Rattle.fsck_repair.specs.Changing.{Notes}
use Rattle.fsck_repair.specs.Leaf.{IsGoodLeaf, IsOfNode, IsOfLeaves, MendsNode}
use Rattle.fsck_repair.proofs.NoteLaws.{notes_none}
use Rattle.fsck_repair.proofs.Steps.{leaves_more, leaf_inside, leaves_all}
use Rattle.fsck_repair.proofs.leaves.mend_leaves.Goals as goal

pub loop-read-init : goal.loop-read-init
loop-read-init g c = record {
  long = refl;
  below = g.met.V.SectorView.follows_refl c.args.view.now;
  reads = reads_none (g.V.SectorView.space c.args.view.now);
  noted = λ content records leaves shows skipped are first good. (
    first,
    omega arith,
    notes_none content (IsOfLeaves content (fork_sectors c.args.fork.now.extents.now c.args.fork.now.per_block) (length c.args.node.now / 512) leaves 0) c.args.changes.now.items (λ at is. absurd (let low = is.1 in omega (arith, low))),
  );
}

pub returns-then-next-eq0-clause-notes : goal.returns-then-next-eq0-clause-notes
returns-then-next-eq0-clause-notes g c content records leaves shows skipped are first good =
    let so_far = c.loop-read.invariant.noted content records leaves shows skipped are first good in
    let all = leaves_all leaves c.loop-read._read c.loop-read.next so_far.0 c.if-next-eq0.true good.some so_far.1 in
    subst (λ k. Notes content (IsOfLeaves content (fork_sectors c.args.fork.now.extents.now c.args.fork.now.per_block) (length c.args.node.now / 512) leaves k) c.args.changes.now.items c.loop-read.changes.items) all so_far.2

pub returns-then-next-eq0-2-clause-notes : goal.returns-then-next-eq0-2-clause-notes
returns-then-next-eq0-2-clause-notes g c content records leaves shows skipped are first good =
    let so_far = c.loop-read.invariant.noted content records leaves shows skipped are first good in
    let all = leaves_all leaves c.loop-read._read c.loop-read.next so_far.0 c.if-next-eq0-2.true good.some so_far.1 in
    subst (λ k. Notes content (IsOfLeaves content (fork_sectors c.args.fork.now.extents.now c.args.fork.now.per_block) (length c.args.node.now / 512) leaves k) c.args.changes.now.items c.loop-read.changes.items) all so_far.2

pub returns-in_err-next-clause-reads : goal.returns-in_err-next-clause-reads
returns-in_err-next-clause-reads g c = reads_both (g.V.SectorView.space c.args.view.now) (g.V.SectorView.space c.loop-read.view) (g.V.SectorView.space c.mend_node.new.view) c.loop-read.invariant.reads c.mend_node.ensures.reads

pub loop-read-preserved : goal.loop-read-preserved
loop-read-preserved g c =
    let old : Space = g.V.SectorView.space c.args.view.now in
    let now : Space = g.V.SectorView.space c.loop-read.view in
    let new : Space = g.V.SectorView.space c.mend_node.new.view in
    let limit : ℕ = c.args.fork.now.limit in
    let sectors : List ℕ = fork_sectors c.args.fork.now.extents.now c.args.fork.now.per_block in
    let size : ℕ = length c.args.node.now in
    let long = c.loop-read.invariant.long in
    record {
      long = c.mend_node.ensures.size ∙ long;
      below = g.met.V.SectorView.follows_trans c.args.view.now c.loop-read.view c.mend_node.new.view c.loop-read.invariant.below c.mend_node.ensures.below;
      reads = reads_both old now new c.loop-read.invariant.reads c.mend_node.ensures.reads;
      noted = λ content records leaves shows skipped are first good.
          let so_far = c.loop-read.invariant.noted content records leaves shows skipped are first good in
          let low = leaf_inside leaves c.loop-read._read c.loop-read.next so_far.0 c.if-next-eq0.false in
          let there = shows_still old now content shows c.loop-read.invariant.reads in
          let its_good = subst (λ m. IsGoodLeaf (node_of_fork content limit sectors m c.loop-read.next)) (sym long) (subst (λ n. IsGoodLeaf (node_of_fork content limit sectors size n)) (sym so_far.0) (good.good c.loop-read._read low)) in
          let its_mends = subst (λ m. MendsNode content sectors (m / 512) c.loop-read.next (leaf_mended records (node_of_fork content limit sectors m c.loop-read.next))) (sym long)
          (subst (λ n. MendsNode content sectors (size / 512) n (leaf_mended records (node_of_fork content limit sectors size n))) (sym so_far.0) (good.mends c.loop-read._read low)) in (
            c.in_ok-next.ensures.next content there ∙ (λ i. next_of (node_of_fork content limit sectors (long i) (so_far.0 i))) ∙ good.next c.loop-read._read low,
            omega (arith, low),
            leaves_more content sectors (size / 512) c.loop-read._read c.loop-read.next leaves c.args.changes.now.items c.loop-read.changes.items c.mend_node.new.changes.items so_far.0 so_far.2
                (subst (λ m. Notes content (IsOfNode content sectors (m / 512) c.loop-read.next) c.loop-read.changes.items c.mend_node.new.changes.items) long (c.in_ok-next.ensures.notes content records there skipped are its_good its_mends)),
          );
    }
