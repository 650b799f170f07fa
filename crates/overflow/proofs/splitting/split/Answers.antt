use Rattle.std.proofs.Common.{◌+◌, length, ◌∙◌, ap, arith}
use Rattle.hx_bytes.specs.declared.extents.ExtentRecord.{ExtentRecord}
use Rattle.fork_map.specs.Blocks.{blocks_of}
use Rattle.overflow.proofs.Cutting.{blocks_upto, eight_more, next_record}
use Rattle.overflow.proofs.splitting.split.Goals as goal

pub overflow_cast-place : goal.overflow_cast-place
overflow_cast-place c = record { fits = omega (arith, c.loop-at.invariant.place, blocks_upto c.loop-at.at c.args.extents.now, c.requires) }

pub overflow_add-place : goal.overflow_add-place
overflow_add-place c =
    let more = eight_more c.args.extents.now c.loop-at.at in
    let made = ap (λ (r : ExtentRecord). length (blocks_of r.extents)) c.eight_extents-eight.ensures in
    record { fits = omega (arith, c.loop-at.invariant.place, blocks_upto (c.loop-at.at + 8) c.args.extents.now, c.requires, more, made, c.count_blocks-place-in-loop-at.ensures) }

pub loop-at-preserved : goal.loop-at-preserved
loop-at-preserved c =
    let more = eight_more c.args.extents.now c.loop-at.at in
    let made = ap (λ (r : ExtentRecord). length (blocks_of r.extents)) c.eight_extents-eight.ensures in
    record {
      place = omega (arith, c.loop-at.invariant.place, more, made, c.count_blocks-place-in-loop-at.ensures);
      rest = next_record c.args.extents.now c.loop-at.at c.loop-at.records.items c.push.new.self.items c.loop-at.place c.eight_extents-eight.result
          c.loop-at-test.true c.loop-at.invariant.place c.eight_extents-eight.ensures c.in_ok-push.ensures.items ∙ c.loop-at.invariant.rest;
    }
