use Rattle.std.proofs.Common.{◌≡◌, ◌<◌, ◌+◌, ◌*◌, ◌/◌, ℕ, length, refl, sym, ◌∙◌, subst, arith}
use Rattle.sector_disk.specs.Space.{Space}
use Rattle.btree_file.specs.FrameLaws.{reads_both}
use Rattle.fork_map.specs.Blocks.{fork_sectors}
use Rattle.fsck_core.proofs.ShownLaws.{shows_still}
use Rattle.fsck_repair.specs.Changing.{Notes}
use Rattle.fsck_repair.specs.Leaf.{IsPlainAt}
use Rattle.fsck_repair.proofs.Steps.{node_more}
use Rattle.fsck_repair.proofs.leaves.note_node.Goals as goal

pub returns-in_err-note_sector-clause-reads : goal.returns-in_err-note_sector-clause-reads
returns-in_err-note_sector-clause-reads g c = reads_both (g.V.SectorView.space c.args.view.now) (g.V.SectorView.space c.loop-k.view) (g.V.SectorView.space c.note_sector.new.view) c.loop-k.invariant.reads c.note_sector.ensures.reads

pub returns-in_err-note_sector-clause-below : goal.returns-in_err-note_sector-clause-below
returns-in_err-note_sector-clause-below g c = g.met.V.SectorView.follows_trans c.args.view.now c.loop-k.view c.note_sector.new.view c.loop-k.invariant.below c.note_sector.ensures.below

pub loop-k-preserved : goal.loop-k-preserved
loop-k-preserved g c =
    let old : Space = g.V.SectorView.space c.args.view.now in
    let now : Space = g.V.SectorView.space c.loop-k.view in
    let new : Space = g.V.SectorView.space c.note_sector.new.view in
    record {
      per = refl;
      below = g.met.V.SectorView.follows_trans c.args.view.now c.loop-k.view c.note_sector.new.view c.loop-k.invariant.below c.note_sector.ensures.below;
      reads = reads_both old now new c.loop-k.invariant.reads c.note_sector.ensures.reads;
      noted = λ content shows skipped mends.
          node_more content (fork_sectors c.args.fork.now.extents.now c.args.fork.now.per_block) (c.args.node * (length c.args.bytes.now / 512)) c.loop-k.k c.args.changes.now.items c.loop-k.changes.items c.note_sector.new.changes.items
          (c.loop-k.invariant.noted content shows skipped mends)
          (c.in_ok-note_sector.ensures.notes content (shows_still old now content shows c.loop-k.invariant.reads) skipped (λ at there. mends c.loop-k.k at c.loop-k-test.true there ∙ sym c.sector_of-new.ensures));
    }

pub returns-clause-notes : goal.returns-clause-notes
returns-clause-notes g c content shows skipped mends =
    let all : c.loop-k.k ≡ length c.args.bytes.now / 512 = omega (arith, c.loop-k-test.false, c.loop-k.auto.k-end) in
    subst (λ n. Notes content (λ at. (j : ℕ) × (j < n) × IsPlainAt content (fork_sectors c.args.fork.now.extents.now c.args.fork.now.per_block) (c.args.node * (length c.args.bytes.now / 512) + j) at) c.args.changes.now.items c.loop-k.changes.items) all (c.loop-k.invariant.noted content shows skipped mends)
