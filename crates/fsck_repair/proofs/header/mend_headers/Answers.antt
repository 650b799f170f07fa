use Rattle.std.proofs.Common.{◌≡◌, ◌<◌, ◌-◌, not, length, ◌∙◌, ap, arith}
use Rattle.sector_disk.specs.Space.{Space}
use Rattle.sector_disk.specs.Lists.{Content, sector}
use Rattle.btree_file.specs.FrameLaws.{reads_both}
use Rattle.fsck_repair.proofs.HeaderLaws.{agreed, numbers_bytes, header_alone, header_and_copy, many_sectors}
use Rattle.fsck_repair.proofs.header.mend_headers.Goals as goal

pub returns-then-agrees-clause-notes : goal.returns-then-agrees-clause-notes
returns-then-agrees-clause-notes g c content shows has numbers =
    let was = c.in_ok-read_at.ensures.value shows.tells ∙ ap (λ (ct : Content). sector ct 2) shows.is in
    let is = numbers_bytes content c.args.numbers c.read_at.new.into c.write_numbers.new.sector numbers was c.write_numbers.ensures in
    let low : 2 < length content = let many = many_sectors (g.V.SectorView.space c.args.view.now).sectors c.requires.size in omega (arith, many, shows.size) in
    header_alone content c.args.changes.now.items c.note.new.changes.items c.read_at.new.into c.write_numbers.new.sector low was is c.note.ensures.bytes c.in_ok-note.ensures.noted (agreed content c.args.headers.now c.agrees.result has c.agrees.ensures ∙ ap not c.if-agrees.true)

pub returns-clause-notes : goal.returns-clause-notes
returns-clause-notes g c content shows has numbers =
    let was = c.in_ok-read_at.ensures.value shows.tells ∙ ap (λ (ct : Content). sector ct 2) shows.is in
    let is = numbers_bytes content c.args.numbers c.read_at.new.into c.write_numbers.new.sector numbers was c.write_numbers.ensures in
    let many = many_sectors (g.V.SectorView.space c.args.view.now).sectors c.requires.size in
    let low : 2 < length content = omega (arith, many, shows.size) in
    let first : Space = g.V.SectorView.space c.read_at.new.view in
    let told = c.read_at.ensures.reads.same.tells ∙ shows.tells in
    let kept = (c.read_at.ensures.reads.sectors shows.tells).content ∙ shows.is in
    let last = c.sectors-last.ensures ∙ c.read_at.ensures.reads.same.sectors ∙ shows.size in
    let last_is : c.sectors-last.result - 2 ≡ length content - 2 = ap (λ n. n - 2) last in
    header_and_copy content c.args.changes.now.items c.note.new.changes.items c.read_at.new.into c.write_numbers.new.sector low was is c.note.ensures.bytes c.in_ok-note.ensures.noted (c.sectors-last.result - 2) c.read_at-2.new.into c.note-2.new.changes.items last_is (omega (arith, last, low))
    (agreed content c.args.headers.now c.agrees.result has c.agrees.ensures ∙ ap not c.if-agrees.false)
    (c.in_ok-read_at-2.ensures.value told ∙ ap (λ (ct : Content). sector ct (c.sectors-last.result - 2)) kept) c.in_ok-note-2.ensures.noted

pub returns-clause-reads : goal.returns-clause-reads
returns-clause-reads g c = reads_both (g.V.SectorView.space c.args.view.now) (g.V.SectorView.space c.read_at.new.view) (g.V.SectorView.space c.read_at-2.new.view) c.read_at.ensures.reads c.read_at-2.ensures.reads
