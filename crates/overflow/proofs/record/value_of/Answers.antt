use Rattle.std.proofs.Common.{◌<◌, length, arith}
use Rattle.overflow.proofs.Values.{put_next, put_all, whole_long, each_more}
use Rattle.overflow.proofs.record.value_of.Goals as goal

pub loop-place-preserved : goal.loop-place-preserved
loop-place-preserved c =
    let inside : c.loop-place.place < length c.args.extents.extents = omega (arith, c.loop-place-test.true, c.loop-place.invariant.eight) in
    record {
      eight = c.loop-place.invariant.eight;
      written = put_next c.args.extents.extents c.loop-place.value c.put_extent.new.value c.loop-place.place inside c.loop-place.invariant.written c.put_extent.ensures.written;
      fits = each_more c.args.extents.extents c.loop-place.place inside c.loop-place.invariant.fits c.put_extent.ensures.fits;
    }

pub returns-clause-back : goal.returns-clause-back
returns-clause-back c = put_all c.args.extents c.loop-place.value c.loop-place.place (omega (arith, c.loop-place-test.false, c.loop-place.invariant.eight)) c.loop-place.invariant.eight c.loop-place.invariant.written c.loop-place.invariant.fits

pub returns-clause-long : goal.returns-clause-long
returns-clause-long c = whole_long c.args.extents c.loop-place.value c.loop-place.place (omega (arith, c.loop-place-test.false, c.loop-place.invariant.eight)) c.loop-place.invariant.eight c.loop-place.invariant.written
