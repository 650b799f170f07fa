use Rattle.jnl_replay.proofs.ListLaws.{put_behind}
use Rattle.jnl_replay.proofs.run_index.RunIndex.put_runs.Goals as goal

pub returns : goal.returns
returns c q = put_behind c.args.self.now c.push.new.self c.args.runs.items c.in_ok-sorted.sorted.items q c.in_ok-push.ensures (c.in_ok-sorted.ensures.same q)
