use Rattle.hfs_serving.proofs.Going.{begins, commits_first, commit_stops_first, on_err}
use Rattle.std.proofs.lemmas.Result.{err_from_is_err_and}
use Rattle.hfs_serving.proofs.Causes.{counts_none, fine, handed}
use Rattle.hfs_serving.proofs.commanding.make_room.Goals as goal

pub returns-then-not-wanted-clause-goes : goal.returns-then-not-wanted-clause-goes
returns-then-not-wanted-clause-goes g c tells capacity committed now shrunk stands = begins capacity shrunk committed now _ _ _ stands

pub returns-in_err-commit-clause-stops : goal.returns-in_err-commit-clause-stops
returns-in_err-commit-clause-stops g c tells capacity committed now shrunk stands =
    on_err c.from_residual.result (commit_stops_first capacity shrunk committed now _ _ _ stands (g.G.Ground.outside c.commit.new.base) (c.commit.ensures.crash tells))

pub returns-clause-goes : goal.returns-clause-goes
returns-clause-goes g c tells capacity committed now shrunk stands =
    let last = g.G.SectorView.space c.commit.new.base in
    commits_first capacity shrunk committed now _ _ _ stands (g.V.Volume.knows c.commit.new.self last capacity) last (g.G.Ground.outside c.commit.new.base) (c.in_ok-commit.ensures.done tells)
    (c.in_ok-commit.ensures.knows tells capacity committed now shrunk stands)

pub returns-then-not-wanted-clause-faults : goal.returns-then-not-wanted-clause-faults
returns-then-not-wanted-clause-faults g c =
    fine (counts_none _ _) _

pub returns-in_err-commit-clause-faults : goal.returns-in_err-commit-clause-faults
returns-in_err-commit-clause-faults g c =
    let p = err_from_is_err_and c.from_residual.result c.from_residual.ensures.1 in
    handed (counts_none _ _) _ p.0 c.from_residual.result c.in_err-commit.ensures.faults p.1 p.2

pub returns-clause-faults : goal.returns-clause-faults
returns-clause-faults g c =
    fine c.commit.ensures.faults.counts _
