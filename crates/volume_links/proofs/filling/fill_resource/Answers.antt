use Rattle.std.proofs.Common.{◌<◌, ◌≤◌, ◌+◌, ◌-◌, ◌/◌, refl, sym, ◌∙◌, ap, subst, arith}
use Rattle.file_io.specs.Places.{blocks_for}
use Rattle.hfs_model.specs.declared.kinds.KindEdit.TheVariants as edit
use Rattle.hfs_volume.specs.Content.{VolumeState}
use Rattle.hfs_volume.specs.KindWeight.{kind_zero_blocks}
use Rattle.hfs_volume.specs.TreeOf.{tree_of}
use Rattle.hfs_volume.specs.Weight.{most_zeros}
use Rattle.volume_base.proofs.Seeing.{if_so}
use Rattle.volume_base.specs.Looking.{ReadsVolume}
use Rattle.volume_base.specs.declared.volume.Volume.{Volume}
use Rattle.volume_step.proofs.Performed.{performs_fills}
use Rattle.volume_step.proofs.Unfilled.{reads_none}
use Rattle.volume_step.proofs.FilledFor.{low_here, place_of_write}
use Rattle.volume_links.proofs.Weighed.{zeros_of_resource}
use Rattle.volume_links.proofs.filling.fill_resource.Goals as goal

pub fill_ahead-requires-clause-place : goal.fill_ahead-requires-clause-place
fill_ahead-requires-clause-place g c =
    subst (λ n. c.args.from / n ≤ blocks_for c.args.volume.now.header.block_size (c.args.from + 1)) (sym c.from.ensures) (place_of_write c.args.from c.args.volume.now.header.block_size (omega (arith, c.requires.serves.stands.service.least)))

pub returns-clause-many : goal.returns-clause-many
returns-clause-many g c tells =
    let v = c.args.volume.now in
    let a = g.P.SectorView.space c.args.space.now in
    let block : 0 < v.header.block_size = omega (arith, c.requires.serves.stands.service.least) in
    if_so _ _ c.fill_ahead.result (λ came low some.
    subst (λ n. most_zeros < n) (sym (ap (λ (l : VolumeState). kind_zero_blocks l.head.block_size (tree_of a.content) (edit.ResourceWrite c.args._path.now c.args.from c.args.value.now)) (c.requires.serves.settled tells).lists
    ∙ zeros_of_resource (tree_of a.content) c.args._path.now c.args.from c.args.value.now c.args.fork (c.requires.there tells) c.requires.some v.header.block_size block))
    (subst (λ n. most_zeros < c.args.from / n - blocks_for v.header.block_size c.args.fork.size) c.from.ensures (low_here (c.args.from / c.from.result) (blocks_for v.header.block_size c.args.fork.size) (blocks_for v.header.block_size c.args.fork.size) _ refl (low some))))
    c.fill_ahead.ensures.many

pub returns-clause-reads : goal.returns-clause-reads
returns-clause-reads g c =
    if_so _ _ c.fill_ahead.result (λ came still none.
    subst (λ s. ReadsVolume (record c.args.volume.now { filling = c.fill_ahead.new.volume.filling }) c.fill_ahead.new.volume (g.P.SectorView.space c.args.space.now) (g.P.SectorView.space s)) (sym (still none))
    (subst (λ (x : Volume). ReadsVolume (record x { filling = c.fill_ahead.new.volume.filling }) c.fill_ahead.new.volume (g.P.SectorView.space c.args.space.now) (g.P.SectorView.space c.args.space.now)) c.fill_ahead.ensures.frame.rest (reads_none c.fill_ahead.new.volume (g.P.SectorView.space c.args.space.now))))
    c.fill_ahead.ensures.still

pub returns-clause-rest : goal.returns-clause-rest
returns-clause-rest g c = c.fill_ahead.ensures.frame.rest

pub returns-clause-filled : goal.returns-clause-filled
returns-clause-filled g c = c.fill_ahead.ensures.frame.filled

pub returns-clause-frame : goal.returns-clause-frame
returns-clause-frame g c = performs_fills c.fill_ahead.ensures.frame

pub returns-clause-commit : goal.returns-clause-commit
returns-clause-commit g c = if_so _ _ c.fill_ahead.result (λ came so is. (so is).1) c.fill_ahead.ensures.commit
