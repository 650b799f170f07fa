use Rattle.mem_disk.specs.MemRig.{rig_state, script_of}
use Rattle.mem_disk.proofs.Scripts.{counts_noted, counts_starved}
use Rattle.mem_disk.proofs.rig.MemRigSectorDisk.barrier.Goals as goal

pub returns-then-is_err-clause-script : goal.returns-then-is_err-clause-script
unfolding rig_state script_of
returns-then-is_err-clause-script c =
    counts_starved c.count_write.result c.is_err.result c.args.self.now.script c.count_write.new.self c.starve.new.self c.starve.ensures.later c.is_err.ensures.value c.if-is_err.true c.count_write.ensures.counted c.starve.ensures.starved

pub returns-then-is_err-2-clause-script : goal.returns-then-is_err-2-clause-script
unfolding rig_state script_of
returns-then-is_err-2-clause-script c =
    counts_noted c.count_write.result c.is_err.result c.args.self.now.script c.count_write.new.self c.starve-then-is_err-2.new.self c.starve-then-is_err-2.ensures.later c.is_err.ensures.value c.if-is_err.false c.count_write.ensures.noted c.starve-then-is_err-2.ensures.starved
