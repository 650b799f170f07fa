use Rattle.volume_space.proofs.growing.take_run.Goals as goal
use Rattle.volume_space.proofs.GrownRun.{taken_run}

pub returns-clause-takes : goal.returns-clause-takes
returns-clause-takes c = taken_run c.args.count c.args.map.now c.take.new.self c.in_ok-list.list c.get.result c.requires.some c.requires.run c.in_ok-list.ensures.free c.in_ok-list.ensures.fewest c.in_ok-list.ensures.taken c.get.ensures
