use Rattle.std.proofs.Common.{sym, ◌∙◌, subst, arith}
use Rattle.std.specs.Prelude.{IsTrue}
use Rattle.hfs_serving.proofs.Closing.{closed_stands, commit_finishes, finishes_there, put_stops}
use Rattle.std.proofs.lemmas.Result.{err_from_is_err_and}
use Rattle.hfs_serving.proofs.Causes.{counts_both, counts_none, fine, handed}
use Rattle.hfs_serving.proofs.ending.end_run.Goals as goal

pub close-requires-clause-stands : goal.close-requires-clause-stands
close-requires-clause-stands g c tells = let there = c.requires.stands tells in (there.0, there.1, there.1, there.2, there.3)

pub returns-in_err-close-clause-crash : goal.returns-in_err-close-clause-crash
returns-in_err-close-clause-crash g c tells capacity now shrunk stands =
    put_stops _ now shrunk _ _ stands (g.G.SectorView.space c.close.new.base) (g.G.Ground.outside c.close.new.base) (c.close.ensures.touches tells capacity now now shrunk stands)

pub commit-requires-clause-serves : goal.commit-requires-clause-serves
commit-requires-clause-serves g c =
    let there = c.requires.serves in
    let still = c.in_ok-close.ensures.still there.0 there.1 (omega (arith, there.2)) in
    (there.0, still.0, still.1)

pub commit-requires-clause-stands : goal.commit-requires-clause-stands
commit-requires-clause-stands g c tells_new =
    let tells = subst (λ t. IsTrue t) c.close.ensures.tells tells_new in
    let there = c.requires.stands tells in
    let capacity = there.0 in
    let now = there.1 in
    let shrunk = there.2 in
    let stands = there.3 in
    let new = g.G.SectorView.space c.close.new.base in
    let closed = c.in_ok-close.ensures.closed tells capacity now now shrunk stands in
    (capacity, now, closed.ended, shrunk, closed_stands _ now shrunk _ _ stands new (g.G.Ground.outside c.close.new.base) (c.close.ensures.touches tells capacity now now shrunk stands) (g.V.Volume.knows c.close.new.self new capacity) closed)

pub returns-in_err-commit-clause-crash : goal.returns-in_err-commit-clause-crash
returns-in_err-commit-clause-crash g c tells capacity now shrunk stands =
    let new = g.G.SectorView.space c.close.new.base in
    let closed = c.in_ok-close.ensures.closed tells capacity now now shrunk stands in
    commit_finishes _ now shrunk _ _ stands new (g.G.Ground.outside c.close.new.base) (c.close.ensures.touches tells capacity now now shrunk stands) (g.V.Volume.knows c.close.new.self new capacity) closed (g.G.Ground.outside c.commit.new.base)
    (c.commit.ensures.crash (subst (λ t. IsTrue t) (sym c.close.ensures.tells) tells))

pub returns-clause-crash : goal.returns-clause-crash
returns-clause-crash g c tells capacity now shrunk stands =
    let new = g.G.SectorView.space c.close.new.base in
    let closed = c.in_ok-close.ensures.closed tells capacity now now shrunk stands in
    commit_finishes _ now shrunk _ _ stands new (g.G.Ground.outside c.close.new.base) (c.close.ensures.touches tells capacity now now shrunk stands) (g.V.Volume.knows c.close.new.self new capacity) closed (g.G.Ground.outside c.commit.new.base)
    (c.commit.ensures.crash (subst (λ t. IsTrue t) (sym c.close.ensures.tells) tells))

pub returns-clause-done : goal.returns-clause-done
returns-clause-done g c tells capacity now shrunk stands =
    let new = g.G.SectorView.space c.close.new.base in
    let out_new = g.G.Ground.outside c.close.new.base in
    let last = g.G.SectorView.space c.commit.new.base in
    let out_last = g.G.Ground.outside c.commit.new.base in
    let closed = c.in_ok-close.ensures.closed tells capacity now now shrunk stands in
    let commits = c.in_ok-commit.ensures.done (subst (λ t. IsTrue t) (sym c.close.ensures.tells) tells) in
    finishes_there _ now shrunk _ _ stands new out_new (c.close.ensures.touches tells capacity now now shrunk stands) (g.V.Volume.knows c.close.new.self new capacity) closed last out_last commits

pub returns-clause-heads : goal.returns-clause-heads
returns-clause-heads g c tells =
    let there = c.requires.stands tells in
    let capacity = there.0 in
    let now = there.1 in
    let shrunk = there.2 in
    let stands = there.3 in
    let new = g.G.SectorView.space c.close.new.base in
    let closed = c.in_ok-close.ensures.closed tells capacity now now shrunk stands in
    let mid = closed_stands _ now shrunk _ _ stands new (g.G.Ground.outside c.close.new.base) (c.close.ensures.touches tells capacity now now shrunk stands) (g.V.Volume.knows c.close.new.self new capacity) closed in
    (c.in_ok-commit.ensures.knows (subst (λ t. IsTrue t) (sym c.close.ensures.tells) tells) capacity now closed.ended shrunk mid).heads

pub returns-clause-still : goal.returns-clause-still
returns-clause-still g c capacity serves taken = c.in_ok-commit.ensures.still capacity (c.in_ok-close.ensures.still capacity serves taken).0

pub returns-clause-tells : goal.returns-clause-tells
returns-clause-tells g c = c.in_ok-commit.ensures.tells ∙ c.close.ensures.tells

pub returns-in_err-close-clause-faults : goal.returns-in_err-close-clause-faults
returns-in_err-close-clause-faults g c =
    let p = err_from_is_err_and c.from_residual.result c.from_residual.ensures.1 in
    handed (counts_none _ _) _ p.0 c.from_residual.result c.in_err-close.ensures.faults p.1 p.2

pub returns-in_err-commit-clause-faults : goal.returns-in_err-commit-clause-faults
returns-in_err-commit-clause-faults g c =
    let p = err_from_is_err_and c.from_residual-in_err-commit.result c.from_residual-in_err-commit.ensures.1 in
    handed (c.close.ensures.faults.counts) _ p.0 c.from_residual-in_err-commit.result c.in_err-commit.ensures.faults p.1 p.2

pub returns-clause-faults : goal.returns-clause-faults
returns-clause-faults g c =
    fine (counts_both c.close.ensures.faults.counts c.commit.ensures.faults.counts) _
