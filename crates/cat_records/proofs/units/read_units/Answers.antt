use Rattle.std.proofs.Common.{arith}
use Rattle.cat_records.proofs.UnitLists.{units_at-more}
use Rattle.cat_records.proofs.units.read_units.Goals as goal

pub loop-place-preserved : goal.loop-place-preserved
loop-place-preserved c =
    let more = units_at-more c.args.bytes.now c.loop-place.units.items c.args.at c.args.count c.loop-place.place (omega arith) in
    let read = c.read_be16.ensures in
    let pushed = c.in_ok-push.ensures.items in
    cc
