use Rattle.std.proofs.Common.{arith, rules}
use Rattle.mem_disk.specs.MemRig.{rig_state, script_of}
use Rattle.mem_disk.proofs.Scripts.{spends_starved}
use Rattle.mem_disk.proofs.rig.MemRigRig.tell.Goals as goal

pub returns-then-is_err-clause-spends : goal.returns-then-is_err-clause-spends
unfolding rig_state script_of
returns-then-is_err-clause-spends c =
    spends_starved c.tell-told.result c.is_err.result c.args.self.now.script c.spend.new.self c.starve.new.self c.args.self.now.past.told.items c.args.bytes.now c.tell-told.new.self.told.items c.min-count.result c.len-before.result c.len.result
    c.starve.ensures.later c.is_err.ensures.value c.if-is_err.true c.tell-told.ensures.unsure (omega arith) (omega arith) (omega arith) (search rules) c.starve.ensures.starved
