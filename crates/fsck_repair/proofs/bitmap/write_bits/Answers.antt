use Rattle.std.proofs.Common.{false}
use Rattle.std.specs.Prelude.{slice_index_or}
use Rattle.fsck_repair.proofs.BitsLaws.{all_written}
use Rattle.fsck_repair.proofs.bitmap.write_bits.Goals as goal

pub returns : goal.returns
returns c small =
    let so_far = c.loop-i.invariant in
    all_written (λ k. slice_index_or c.args.used.now k false) c.args.size c.args.place c.loop-i.i c.args.sector.now c.loop-i.sector so_far.long c.loop-i-test.false (so_far.made small) so_far.past
