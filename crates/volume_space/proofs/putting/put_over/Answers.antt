use Rattle.std.proofs.Common.{◌≡◌, ap, ◌+◌, ◌-◌, ◌/◌, ◌∙◌, arith, length, max, min}
use Rattle.std.specs.Prelude.{None}
use Rattle.file_io.specs.Places.{blocks_for}
use Rattle.volume_space.specs.Writing.{PutsValue}
use Rattle.volume_space.specs.Zeroing.{done_of}
use Rattle.volume_space.proofs.Filled.{zeros_taken}
use Rattle.volume_space.proofs.Filling.{laid_with, puts_with, settled_with, stands_with}
use Rattle.volume_space.proofs.Spilled.{on_ok}
use Rattle.volume_base.specs.Cutting.{fork_at, kind_of}
use Rattle.hx_bytes.specs.declared.extents.ForkRecord.{ForkRecord}
use Rattle.volume_space.proofs.putting.put_over.Goals as goal

pub put_zeroed-requires-clause-stands : goal.put_zeroed-requires-clause-stands
put_zeroed-requires-clause-stands g c = stands_with c.args.volume.now None (g.P.SectorView.space c.args.space.now) c.requires.stands

pub put_zeroed-requires-clause-settled : goal.put_zeroed-requires-clause-settled
put_zeroed-requires-clause-settled g c tells = settled_with c.args.volume.now None (g.P.SectorView.space c.args.space.now).content (c.requires.settled tells)

pub put_zeroed-requires-clause-zeros : goal.put_zeroed-requires-clause-zeros
put_zeroed-requires-clause-zeros g c tells =
    let v = c.args.volume.now in
    let size = (fork_at (kind_of c.args.kind) c.args.file.now).logical_size in
    let many : c.done_within-zeroed.result ≡ min (done_of v.filling c.args.file.now.fields.id size (max size (c.args.from + length c.args.value.now))) (c.args.from / v.header.block_size - blocks_for v.header.block_size size) =
    c.done_within-zeroed.ensures ∙ (λ i. min (done_of v.filling c.args.file.now.fields.id (c.fork_of-fork.ensures i).logical_size (c.max.ensures i)) ((c.saturating_sub-gap.ensures ∙ (λ j. c.args.from / c.from.ensures j - c.blocks_for.ensures j)) i))
    ∙ ap (λ (f : ForkRecord). min (done_of v.filling c.args.file.now.fields.id size (max f.logical_size (c.args.from + length c.args.value.now))) (c.args.from / v.header.block_size - blocks_for v.header.block_size f.logical_size)) c.fork_of-fork.ensures in
    zeros_taken v (g.P.SectorView.space c.args.space.now) c.requires.filled c.args.file.now.fields.id size c.args.from (length c.args.value.now) c.done_within-zeroed.result (omega (arith, c.requires.stands.service.least)) many tells

pub returns-clause-commit : goal.returns-clause-commit
returns-clause-commit g c committed holds alike = c.put_zeroed.ensures.commit committed holds (laid_with c.args.volume.now None committed alike)

pub returns-clause-puts : goal.returns-clause-puts
returns-clause-puts g c tells =
    on_ok c.put_zeroed.result _ (PutsValue (kind_of c.args.kind) c.args.file.now c.args.from c.args.value.now c.args.volume.now c.put_zeroed.new.volume (g.P.SectorView.space c.args.space.now).content (g.P.SectorView.space c.put_zeroed.new.space).content)
    (λ puts. puts_with c.args.volume.now None (kind_of c.args.kind) c.args.file.now c.args.from c.args.value.now c.put_zeroed.new.volume (g.P.SectorView.space c.args.space.now).content (g.P.SectorView.space c.put_zeroed.new.space).content puts) (c.put_zeroed.ensures.puts tells)
