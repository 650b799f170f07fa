use Rattle.std.proofs.Common.{rules, ◌<◌, length, slice_set, refl}
use Rattle.cmd_lang.proofs.Units.{one_read}
use Rattle.cmd_lang.proofs.reading.read_unit.Goals as goal

pub returns-clause-read : goal.returns-clause-read
returns-clause-read c right front before =
    let next = c.unit_of-next in
    let room : c.args.count < length c.args.room.now = search (rules, c.requires.room) in
    one_read c.args.text.now c.args.room.now (slice_set c.args.room.now c.args.count next.result.byte) front c.args.at.now next.result.long c.args.count next.result.byte c.requires.inside next.ensures.few room (next.ensures.text right) refl before
