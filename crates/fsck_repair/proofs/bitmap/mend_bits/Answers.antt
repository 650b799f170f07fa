use Rattle.std.proofs.Common.{◌≡◌, ◌<◌, ℕ, List, false, length, sym, ◌∙◌, ap, subst, arith}
use Rattle.std.specs.Prelude.{slice_index_or}
use Rattle.sector_disk.specs.Lists.{Content, sector}
use Rattle.fsck_repair.specs.Bitmap.{bits_written}
use Rattle.fsck_repair.specs.Changing.{Notes}
use Rattle.fsck_repair.specs.declared.mend.Change.{Change}
use Rattle.fsck_repair.proofs.NoteLaws.{notes_one}
use Rattle.fsck_repair.proofs.bitmap.mend_bits.Goals as goal

pub returns-clause-notes : goal.returns-clause-notes
returns-clause-notes g c content few shows mends =
    let was = c.in_ok-get.ensures.value shows.tells ∙ ap (λ (ct : Content). sector ct c.args.at) shows.is in
    let low : c.args.at < length content = omega (arith, c.requires.there, shows.size) in
    let has = mends ∙ ap (λ (l : List ℕ). bits_written (λ k. slice_index_or c.args.used.now k false) c.args.size c.args.place l) (sym was) ∙ sym (c.write_bits.ensures few) in
    subst (λ (l : List Change). Notes content (λ s. s ≡ c.args.at) c.args.changes.now.items l) (sym c.in_ok-note.ensures.noted) (notes_one content c.args.changes.now.items c.args.at c.get.new.into c.write_bits.new.sector low was has c.note.ensures.bytes)
