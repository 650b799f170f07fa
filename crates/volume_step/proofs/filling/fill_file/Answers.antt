use Rattle.std.proofs.Common.{◌≡◌, ◌≤◌, ◌+◌, ℕ, length, refl, sym, ◌∙◌, ap, subst, arith, ◌-◌}
use Rattle.std.specs.Prelude.{IfOk, max, Option}
use Rattle.sector_disk.specs.Lists.{Content}
use Rattle.volume_header.specs.declared.header.VolumeHeader.{VolumeHeader}
use Rattle.file_io.specs.Places.{blocks_for}
use Rattle.hfs_volume.specs.Aside.{IsJournalSector}
use Rattle.hfs_volume.specs.Reclaim.{FillsZeros}
use Rattle.hfs_volume.specs.TreeOf.{tree_of}
use Rattle.volume_base.proofs.Seeing.{if_so}
use Rattle.volume_space.specs.declared.zeroing.Zeros.TheVariants as zeros
use Rattle.volume_step.proofs.FilledFirst.{commit_some, few_none}
use Rattle.volume_step.proofs.FilledFor.{low_here, file_told, never_told}
use Rattle.volume_step.proofs.Unfilled.{filled_still, keeps_filled, reads_alone, reads_filled}
use Rattle.hfs_volume.specs.Weight.{most_zeros}
use Rattle.volume_base.specs.declared.volume.Filling.{Filling}
use Rattle.volume_space.specs.Zeroing.{done_of}
use Rattle.volume_step.proofs.Performed.{performs_err, performs_fills, performs_looked, performs_looked_ok, performs_then}
use Rattle.volume_step.proofs.filling.fill_file.Goals as goal

pub fill_ahead-requires-clause-filled : goal.fill_ahead-requires-clause-filled
fill_ahead-requires-clause-filled g c = filled_still c.args.volume.now c.facts.new.self (g.P.SectorView.space c.args.space.now) (g.P.SectorView.space c.facts.new.space) c.facts.ensures.looked.reads c.requires.filled

pub fill_ahead-requires-clause-closed : goal.fill_ahead-requires-clause-closed
fill_ahead-requires-clause-closed g c told at shut = let tells = sym c.facts.ensures.looked.reads.looks.same.tells ∙ told in subst (λ (k : Content). IsJournalSector k at) (sym (c.facts.ensures.looked.reads.looks.content tells)) (c.requires.closed tells at ((c.facts.ensures.looked.reads.looks.closed tells at).0 shut))

pub fill_ahead-requires-clause-place : goal.fill_ahead-requires-clause-place
fill_ahead-requires-clause-place g c = subst (λ (h : VolumeHeader). c.args.stop ≤ blocks_for h.block_size (c.args.from + 1)) (sym c.facts.ensures.looked.reads.keeps.header) c.requires.place

pub returns-in-Ok-clause-many : goal.returns-in-Ok-clause-many
returns-in-Ok-clause-many g c tells = if_so _ _ c.fill_ahead.result (λ came low some file found. low_here c.args.stop (blocks_for c.facts.new.self.header.block_size c.in-Ok.told.size) (blocks_for c.args.volume.now.header.block_size (length file.bytes)) _
    (λ i. blocks_for (c.facts.ensures.looked.reads.keeps.header i).block_size (sym (file_told (tree_of (g.P.SectorView.space c.args.space.now).content) c.args.path.now c.in-Ok.told (sym c.in-Ok.is ∙ c.in_ok-told.ensures.told tells) file found).0 i)) (low some)) c.fill_ahead.ensures.many

pub returns-in-Ok-clause-fills : goal.returns-in-Ok-clause-fills
returns-in-Ok-clause-fills g c tells = subst (λ (k : Content). IfOk c.fill_ahead.result (λ came. came ≡ zeros.Filled → FillsZeros k (g.P.SectorView.space c.fill_ahead.new.space).content)) (c.facts.ensures.looked.reads.looks.content tells) (c.fill_ahead.ensures.fills (c.facts.ensures.looked.reads.looks.same.tells ∙ tells))

pub returns-in-Ok-clause-commit : goal.returns-in-Ok-clause-commit
returns-in-Ok-clause-commit g c = if_so _ _ c.fill_ahead.result (λ came it first. omega (arith, (it first).1, c.facts.ensures.looked.reads.looks.spare, c.facts.ensures.looked.reads.keeps.capacity)) c.fill_ahead.ensures.commit

pub returns-in-Ok-clause-reads : goal.returns-in-Ok-clause-reads
returns-in-Ok-clause-reads g c = if_so _ _ c.fill_ahead.result (λ came still none. reads_filled c.args.volume.now c.facts.new.self c.fill_ahead.new.volume (g.P.SectorView.space c.args.space.now) (g.P.SectorView.space c.facts.new.space) (g.P.SectorView.space c.fill_ahead.new.space) c.facts.ensures.looked.reads c.fill_ahead.ensures.frame.rest (ap g.P.SectorView.space (still none))) c.fill_ahead.ensures.still

pub returns-in-Ok-clause-keeps : goal.returns-in-Ok-clause-keeps
returns-in-Ok-clause-keeps g c = keeps_filled (g.P.SectorView.space c.args.space.now).tells c.args.volume.now c.facts.new.self c.fill_ahead.new.volume c.facts.ensures.looked.reads.keeps c.fill_ahead.ensures.frame.rest

pub returns-in-Ok-clause-filled : goal.returns-in-Ok-clause-filled
returns-in-Ok-clause-filled g c = c.fill_ahead.ensures.frame.filled

pub returns-in-Ok-clause-spare : goal.returns-in-Ok-clause-spare
returns-in-Ok-clause-spare g c = omega (arith, c.facts.ensures.looked.reads.looks.spare, c.fill_ahead.ensures.frame.room.spare)

pub returns-in-Err-clause-many : goal.returns-in-Err-clause-many
returns-in-Err-clause-many g c tells some = absurd (some refl)

pub returns-in-Err-clause-fills : goal.returns-in-Err-clause-fills
returns-in-Err-clause-fills g c tells same = absurd (few_none zeros.Few refl same)

pub returns-in-Err-clause-commit : goal.returns-in-Err-clause-commit
returns-in-Err-clause-commit g c same = absurd (commit_some zeros.CommitFirst refl (sym same))

pub returns-in-Err-clause-reads : goal.returns-in-Err-clause-reads
returns-in-Err-clause-reads g c none = reads_alone c.args.volume.now c.facts.new.self (g.P.SectorView.space c.args.space.now) (g.P.SectorView.space c.facts.new.space) c.facts.ensures.looked.reads

pub returns-in-Err-clause-filled : goal.returns-in-Err-clause-filled
returns-in-Err-clause-filled g c = filled_still c.args.volume.now c.facts.new.self (g.P.SectorView.space c.args.space.now) (g.P.SectorView.space c.facts.new.space) c.facts.ensures.looked.reads c.requires.filled

pub returns-in-Err-clause-keeps : goal.returns-in-Err-clause-keeps
returns-in-Err-clause-keeps g c = (reads_alone c.args.volume.now c.facts.new.self (g.P.SectorView.space c.args.space.now) (g.P.SectorView.space c.facts.new.space) c.facts.ensures.looked.reads).keeps

pub returns-in-Err-clause-spare : goal.returns-in-Err-clause-spare
returns-in-Err-clause-spare g c = omega (arith, c.facts.ensures.looked.reads.looks.spare)

pub returns-in_err-told-clause-keeps : goal.returns-in_err-told-clause-keeps
returns-in_err-told-clause-keeps g c = (reads_alone c.args.volume.now c.facts.new.self (g.P.SectorView.space c.args.space.now) (g.P.SectorView.space c.facts.new.space) c.facts.ensures.looked.reads).keeps

pub returns-in_err-told-clause-spare : goal.returns-in_err-told-clause-spare
returns-in_err-told-clause-spare g c = omega (arith, c.facts.ensures.looked.reads.looks.spare)

pub returns-in-Ok-clause-next : goal.returns-in-Ok-clause-next
returns-in-Ok-clause-next g c tells = if_so _ _ c.fill_ahead.result (λ came next filled file found.
    let here = file_told (tree_of (g.P.SectorView.space c.args.space.now).content) c.args.path.now c.in-Ok.told (sym c.in-Ok.is ∙ c.in_ok-told.ensures.told tells) file found in
    subst (λ (k : ℕ × ℕ × Option Filling). done_of c.fill_ahead.new.volume.filling k.0 k.1 (max k.1 c.args.end) ≡ done_of k.2 k.0 k.1 (max k.1 c.args.end) + most_zeros)
    {x = (c.in-Ok.told.id, c.in-Ok.told.size, c.facts.new.self.filling)} {y = (file.id, length file.bytes, c.args.volume.now.filling)} (λ i. (sym here.1 i, sym here.0 i, c.facts.ensures.looked.reads.keeps.filling i)) (next filled)) c.fill_ahead.ensures.next

pub returns-in-Err-clause-next : goal.returns-in-Err-clause-next
returns-in-Err-clause-next g c tells same = absurd (few_none zeros.Few refl same)

pub returns-in-Ok-clause-few : goal.returns-in-Ok-clause-few
returns-in-Ok-clause-few g c tells less = if_so _ _ c.fill_ahead.result (λ came left none file found.
    let here = file_told (tree_of (g.P.SectorView.space c.args.space.now).content) c.args.path.now c.in-Ok.told (sym c.in-Ok.is ∙ c.in_ok-told.ensures.told tells) file found in
    subst (λ (k : ℕ × ℕ × Option Filling × VolumeHeader). c.args.stop - blocks_for k.3.block_size k.1 ≤ done_of k.2 k.0 k.1 (max k.1 c.args.end) + most_zeros)
    {x = (c.in-Ok.told.id, c.in-Ok.told.size, c.facts.new.self.filling, c.facts.new.self.header)} {y = (file.id, length file.bytes, c.args.volume.now.filling, c.args.volume.now.header)} (λ i. (sym here.1 i, sym here.0 i, c.facts.ensures.looked.reads.keeps.filling i, c.facts.ensures.looked.reads.keeps.header i)) (left none)) (c.fill_ahead.ensures.few less)

pub returns-in-Err-clause-few : goal.returns-in-Err-clause-few
returns-in-Err-clause-few g c tells less none file found = absurd (never_told (tree_of (g.P.SectorView.space c.args.space.now).content) c.args.path.now file found (c.requires.there tells).2 c.in-Err._why (sym c.in-Err.is ∙ c.in_ok-told.ensures.told tells))

pub returns-in-Ok-clause-frame : goal.returns-in-Ok-clause-frame
returns-in-Ok-clause-frame g c = performs_then g.met.P.SectorView.follows_trans c.facts.ensures.looked (performs_fills c.fill_ahead.ensures.frame)

pub returns-in-Err-clause-frame : goal.returns-in-Err-clause-frame
returns-in-Err-clause-frame g c = performs_looked_ok c.facts.ensures.looked c.facts.ensures.serves

pub returns-in_err-told-clause-frame : goal.returns-in_err-told-clause-frame
returns-in_err-told-clause-frame g c = performs_err c.from_residual.ensures.1 (performs_looked c.in_err-told.ensures.looked c.facts.ensures.serves)
