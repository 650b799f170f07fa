use Rattle.std.proofs.Common.{◌<◌, ◌*◌, ℕ, List, sym, ◌∙◌, arith}
use Rattle.sector_disk.specs.Space.{Space}
use Rattle.btree_file.specs.FrameLaws.{reads_none, reads_both}
use Rattle.fork_map.specs.Blocks.{fork_sectors}
use Rattle.fsck_core.proofs.ShownLaws.{shows_still}
use Rattle.fsck_repair.proofs.NoteLaws.{notes_none}
use Rattle.fsck_repair.proofs.BitSteps.{IsBefore, place_more, places_all, places_end}
use Rattle.fsck_repair.proofs.bitmap.mend_bitmap.Goals as goal

pub loop-place-init : goal.loop-place-init
loop-place-init g c = record {
  below = g.met.V.SectorView.follows_refl c.args.view.now;
  reads = reads_none (g.V.SectorView.space c.args.view.now);
  noted = λ content few shows skipped mends. notes_none content (IsBefore content (fork_sectors c.args.fork.now c.args.per_block) c.args.size 0) c.args.changes.now.items (λ at is. absurd (let low = is.2 in omega (arith, low)));
}

pub returns-in_default-clause-notes : goal.returns-in_default-clause-notes
returns-in_default-clause-notes g c content few shows skipped mends =
    places_end content (fork_sectors c.args.fork.now c.args.per_block) c.args.size c.loop-place.place c.args.changes.now.items c.loop-place.changes.items (sym c.sector_at.ensures ∙ c.in_default.is) (c.loop-place.invariant.noted content few shows skipped mends)

pub returns-in_err-mend_place-clause-reads : goal.returns-in_err-mend_place-clause-reads
returns-in_err-mend_place-clause-reads g c = reads_both (g.V.SectorView.space c.args.view.now) (g.V.SectorView.space c.loop-place.view) (g.V.SectorView.space c.mend_place.new.view) c.loop-place.invariant.reads c.mend_place.ensures.reads

pub returns-in_err-mend_place-clause-below : goal.returns-in_err-mend_place-clause-below
returns-in_err-mend_place-clause-below g c = g.met.V.SectorView.follows_trans c.args.view.now c.loop-place.view c.mend_place.new.view c.loop-place.invariant.below c.mend_place.ensures.below

pub loop-place-preserved : goal.loop-place-preserved
loop-place-preserved g c =
    let old : Space = g.V.SectorView.space c.args.view.now in
    let now : Space = g.V.SectorView.space c.loop-place.view in
    let new : Space = g.V.SectorView.space c.mend_place.new.view in
    let sectors : List ℕ = fork_sectors c.args.fork.now c.args.per_block in
    let here = sym c.sector_at.ensures ∙ c.in-Some.is in
    let inside : c.loop-place.place * 512 < c.args.size = omega (arith, c.loop-place-test.true, c.div_ceil-place-end.ensures) in
    record {
      below = g.met.V.SectorView.follows_trans c.args.view.now c.loop-place.view c.mend_place.new.view c.loop-place.invariant.below c.mend_place.ensures.below;
      reads = reads_both old now new c.loop-place.invariant.reads c.mend_place.ensures.reads;
      noted = λ content few shows skipped mends.
          place_more content sectors c.args.size c.loop-place.place c.in-Some.at c.args.changes.now.items c.loop-place.changes.items c.mend_place.new.changes.items here (c.loop-place.invariant.noted content few shows skipped mends)
          (c.in_ok-mend_place.ensures.notes content few (shows_still old now content shows c.loop-place.invariant.reads) skipped (λ plain. mends c.loop-place.place c.in-Some.at inside here plain));
    }

pub returns-clause-notes : goal.returns-clause-notes
returns-clause-notes g c content few shows skipped mends =
    places_all content (fork_sectors c.args.fork.now c.args.per_block) c.args.size c.loop-place.place c.args.changes.now.items c.loop-place.changes.items (omega (arith, c.loop-place-test.false, c.div_ceil-place-end.ensures)) (c.loop-place.invariant.noted content few shows skipped mends)
