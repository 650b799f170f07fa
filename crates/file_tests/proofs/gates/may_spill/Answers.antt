use Rattle.file_tests.proofs.GateLaws.{spill_is_fine}
use Rattle.std.proofs.Common.{◌*◌, ◌/◌, ap, arith, length, refl}
use Rattle.file_tests.proofs.gates.may_spill.Goals as goal

pub returns : goal.returns
returns c = λ is free sector spare low high.
    spill_is_fine c.args.map.now c.args.block (c.args.block / 512) (length c.args.space.now.list.items) c.args.space.now.faults free sector c.requires refl
    (omega (arith, c.if-len-total.false, ap (λ n. n * (c.args.block / 512)) c.total.ensures)) (c.have.ensures.0 is) spare low high
