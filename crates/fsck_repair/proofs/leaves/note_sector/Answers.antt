use Rattle.std.proofs.Common.{◌<◌, length, sym, ◌∙◌, ap, arith}
use Rattle.sector_disk.specs.Lists.{Content, sector}
use Rattle.fork_map.specs.Blocks.{fork_sectors}
use Rattle.fsck_repair.proofs.Steps.{place_noted}
use Rattle.fsck_repair.proofs.leaves.note_sector.Goals as goal

pub returns-clause-notes : goal.returns-clause-notes
returns-clause-notes g c content shows skipped mends =
    let at = c.in-Some.at in
    let place = sym c.sector_at.ensures ∙ c.in-Some.is in
    let plain = c.has.ensures.plain content skipped c.if-has.false in
    let low : at < length content = omega (arith, c.if-at-sectors.false, c.sectors.ensures ∙ shows.size) in
    let was = c.in_ok-get.ensures.value shows.tells ∙ ap (λ (ct : Content). sector ct at) shows.is in
    place_noted content (fork_sectors c.args.fork.now.extents.now c.args.fork.now.per_block) c.args.place c.args.changes.now.items at c.get.new.into c.args.new.now c.note.new.changes.items place low was (mends at (place, plain)) c.note.ensures.bytes c.in_ok-note.ensures.noted
