use Rattle.std.proofs.Common.{◌/◌, refl, ◌∙◌}
use Rattle.sector_disk.specs.Space.{Space}
use Rattle.btree_file.specs.FrameLaws.{reads_both}
use Rattle.fork_map.specs.Blocks.{fork_sectors}
use Rattle.hfs_volume.specs.Content.{volume_of, records_of}
use Rattle.fsck_core.proofs.ShownLaws.{shows_still}
use Rattle.fsck_repair.proofs.AllLaws.{headers_there, numbers_there, used_few, mends_bits, bitmap_is, size_is, all_there}
use Rattle.fsck_repair.proofs.all.all_changes.Goals as goal

pub returns-clause-changes : goal.returns-clause-changes
returns-clause-changes g c content shows counted =
    let old : Space = g.V.SectorView.space c.args.view.now in
    let first : Space = g.V.SectorView.space c.mend_headers.new.view in
    let second : Space = g.V.SectorView.space c.mend_bitmap.new.view in
    let counts = c.args.counts.now in
    let numbers = numbers_there content counts counted c.numbers_of-numbers.result counts.headers.head.total_blocks refl (c.numbers_of-numbers.ensures.files (records_of (volume_of content)) counted.entries) (c.numbers_of-numbers.ensures.folders (records_of (volume_of content)) counted.entries)
    c.numbers_of-numbers.ensures.free in
    let skipped = c.skipped_in-skipped.ensures content (c.sectors.ensures ∙ shows.size) counted in
    let there = shows_still old first content shows c.mend_headers.ensures.reads in
    let last = shows_still old second content shows (reads_both old first second c.mend_headers.ensures.reads c.mend_bitmap.ensures.reads) in
    let sectors = fork_sectors counts.allocation (counts.headers.head.block_size / 512) in
    let size = counts.headers.head.allocation_fork.logical_size in
    let same = bitmap_is content counts counted in
    let is = size_is content counts counted in
    all_there content counts counted c.new-changes.result.items c.mend_headers.new.changes.items c.mend_bitmap.new.changes.items c.mend_catalog.new.changes.items sectors size same is c.new-changes.ensures.items
    (c.in_ok-mend_headers.ensures.notes content shows (headers_there content counts counted) numbers)
    (c.in_ok-mend_bitmap.ensures.notes content (used_few content counts counted) there skipped (λ place at inside here plain. mends_bits content counts counted sectors size place at same is inside here plain))
    (c.in_ok-mend_catalog.ensures.notes content last counted skipped)

pub returns-clause-reads : goal.returns-clause-reads
returns-clause-reads g c =
    let old : Space = g.V.SectorView.space c.args.view.now in
    let first : Space = g.V.SectorView.space c.mend_headers.new.view in
    let second : Space = g.V.SectorView.space c.mend_bitmap.new.view in
    let third : Space = g.V.SectorView.space c.mend_catalog.new.view in
    reads_both old second third (reads_both old first second c.mend_headers.ensures.reads c.mend_bitmap.ensures.reads) c.mend_catalog.ensures.reads

pub returns-clause-below : goal.returns-clause-below
returns-clause-below g c =
    g.met.V.SectorView.follows_trans c.args.view.now c.mend_bitmap.new.view c.mend_catalog.new.view
    (g.met.V.SectorView.follows_trans c.args.view.now c.mend_headers.new.view c.mend_bitmap.new.view c.mend_headers.ensures.below c.mend_bitmap.ensures.below) c.mend_catalog.ensures.below
