use Rattle.std.proofs.Common.{List, ◌++◌, ◌∙◌, ap}
use Rattle.jnl_replay.specs.Runs.{all_runs}
use Rattle.jnl_replay.specs.declared.runs.Run.{Run}
use Rattle.jnl_replay.proofs.ListLaws.{lists_more}
use Rattle.jnl_replay.proofs.run_index.RunIndex.push.Goals as goal

pub returns : goal.returns
returns c =
    ap (λ (l : List (List Run)). all_runs l) c.in_ok-push.ensures.items ∙ lists_more c.self.inside.lists.items c.args.runs.items ∙ ap (λ (l : List Run). l ++ c.args.runs.items) c.self.view_is
