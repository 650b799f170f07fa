use Rattle.std.proofs.Common.{sym, subst, arith}
use Rattle.std.specs.Prelude.{IsTrue}
use Rattle.hfs_serving.proofs.Marking.{begun_may, mark_begins, mark_put_stops, mark_stops, marked_stands, put_may}
use Rattle.std.proofs.lemmas.Result.{err_from_is_err_and}
use Rattle.hfs_serving.proofs.Causes.{counts_both, counts_none, fine, handed}
use Rattle.hfs_serving.proofs.starting.begin_run.Goals as goal

pub mark_mounted-requires-clause-stands : goal.mark_mounted-requires-clause-stands
mark_mounted-requires-clause-stands g c tells = let there = c.requires.stands tells in (there.0, there.1, there.1, there.2, there.3)

pub returns-in_err-mark_mounted-clause-crash : goal.returns-in_err-mark_mounted-clause-crash
returns-in_err-mark_mounted-clause-crash g c tells capacity start shrunk stands =
    mark_put_stops capacity _ start shrunk _ _ stands (g.G.SectorView.space c.mark_mounted.new.base) (g.G.Ground.outside c.mark_mounted.new.base) (c.mark_mounted.ensures.touches tells capacity start start shrunk stands)

pub commit-requires-clause-serves : goal.commit-requires-clause-serves
commit-requires-clause-serves g c =
    let there = c.requires.serves in
    let still = c.in_ok-mark_mounted.ensures.still there.0 there.1 (omega (arith, there.2)) in
    (there.0, still.0, still.1)

pub commit-requires-clause-stands : goal.commit-requires-clause-stands
commit-requires-clause-stands g c tells_new =
    let tells = subst (λ t. IsTrue t) c.mark_mounted.ensures.tells tells_new in
    let there = c.requires.stands tells in
    let capacity = there.0 in
    let start = there.1 in
    let shrunk = there.2 in
    let stands = there.3 in
    let new = g.G.SectorView.space c.mark_mounted.new.base in
    let marked = c.in_ok-mark_mounted.ensures.opened tells capacity start start shrunk stands in
    (capacity, start, marked.begun, shrunk, marked_stands capacity _ start shrunk _ _ stands new (g.G.Ground.outside c.mark_mounted.new.base) (c.mark_mounted.ensures.touches tells capacity start start shrunk stands) (g.V.Volume.knows c.mark_mounted.new.self new capacity) marked)

pub returns-in_err-commit-clause-crash : goal.returns-in_err-commit-clause-crash
returns-in_err-commit-clause-crash g c tells capacity start shrunk stands =
    let new = g.G.SectorView.space c.mark_mounted.new.base in
    let marked = c.in_ok-mark_mounted.ensures.opened tells capacity start start shrunk stands in
    mark_stops capacity _ start shrunk _ _ stands new (g.G.Ground.outside c.mark_mounted.new.base) (c.mark_mounted.ensures.touches tells capacity start start shrunk stands) (g.V.Volume.knows c.mark_mounted.new.self new capacity) marked (g.G.Ground.outside c.commit.new.base)
    (c.commit.ensures.crash (subst (λ t. IsTrue t) (sym c.mark_mounted.ensures.tells) tells))

pub returns-clause-crash : goal.returns-clause-crash
returns-clause-crash g c tells capacity start shrunk stands =
    let new = g.G.SectorView.space c.mark_mounted.new.base in
    let marked = c.in_ok-mark_mounted.ensures.opened tells capacity start start shrunk stands in
    mark_stops capacity _ start shrunk _ _ stands new (g.G.Ground.outside c.mark_mounted.new.base) (c.mark_mounted.ensures.touches tells capacity start start shrunk stands) (g.V.Volume.knows c.mark_mounted.new.self new capacity) marked (g.G.Ground.outside c.commit.new.base)
    (c.commit.ensures.crash (subst (λ t. IsTrue t) (sym c.mark_mounted.ensures.tells) tells))

pub returns-clause-done : goal.returns-clause-done
returns-clause-done g c tells capacity start shrunk stands =
    let new = g.G.SectorView.space c.mark_mounted.new.base in
    let marked = c.in_ok-mark_mounted.ensures.opened tells capacity start start shrunk stands in
    let tells_mid = subst (λ t. IsTrue t) (sym c.mark_mounted.ensures.tells) tells in
    let touches = c.mark_mounted.ensures.touches tells capacity start start shrunk stands in
    let mid = g.G.Ground.outside c.mark_mounted.new.base in
    let knows_mid = g.V.Volume.knows c.mark_mounted.new.self new capacity in
    let there = marked_stands capacity _ start shrunk _ _ stands new mid touches knows_mid marked in
    mark_begins capacity _ start shrunk _ _ stands new mid touches knows_mid marked _ (g.G.SectorView.space c.commit.new.base) (g.G.Ground.outside c.commit.new.base) (c.in_ok-commit.ensures.done tells_mid)
    (c.in_ok-commit.ensures.knows tells_mid capacity start marked.begun shrunk there)

pub returns-in_err-mark_mounted-clause-may : goal.returns-in_err-mark_mounted-clause-may
returns-in_err-mark_mounted-clause-may g c tells capacity start shrunk stands =
    put_may capacity _ start shrunk _ _ stands (g.G.SectorView.space c.mark_mounted.new.base) (g.G.Ground.outside c.mark_mounted.new.base) (c.mark_mounted.ensures.touches tells capacity start start shrunk stands)

pub returns-in_err-commit-clause-may : goal.returns-in_err-commit-clause-may
returns-in_err-commit-clause-may g c tells capacity start shrunk stands =
    let new = g.G.SectorView.space c.mark_mounted.new.base in
    let marked = c.in_ok-mark_mounted.ensures.opened tells capacity start start shrunk stands in
    begun_may capacity _ start shrunk _ _ stands new (g.G.Ground.outside c.mark_mounted.new.base) (c.mark_mounted.ensures.touches tells capacity start start shrunk stands) (g.V.Volume.knows c.mark_mounted.new.self new capacity) marked (g.G.Ground.outside c.commit.new.base)
    (c.commit.ensures.crash (subst (λ t. IsTrue t) (sym c.mark_mounted.ensures.tells) tells))

pub returns-clause-may : goal.returns-clause-may
returns-clause-may g c tells capacity start shrunk stands =
    let new = g.G.SectorView.space c.mark_mounted.new.base in
    let marked = c.in_ok-mark_mounted.ensures.opened tells capacity start start shrunk stands in
    begun_may capacity _ start shrunk _ _ stands new (g.G.Ground.outside c.mark_mounted.new.base) (c.mark_mounted.ensures.touches tells capacity start start shrunk stands) (g.V.Volume.knows c.mark_mounted.new.self new capacity) marked (g.G.Ground.outside c.commit.new.base)
    (c.commit.ensures.crash (subst (λ t. IsTrue t) (sym c.mark_mounted.ensures.tells) tells))

pub returns-in_err-mark_mounted-clause-faults : goal.returns-in_err-mark_mounted-clause-faults
returns-in_err-mark_mounted-clause-faults g c =
    let p = err_from_is_err_and c.from_residual.result c.from_residual.ensures.1 in
    handed (counts_none _ _) _ p.0 c.from_residual.result c.in_err-mark_mounted.ensures.faults p.1 p.2

pub returns-in_err-commit-clause-faults : goal.returns-in_err-commit-clause-faults
returns-in_err-commit-clause-faults g c =
    let p = err_from_is_err_and c.from_residual-in_err-commit.result c.from_residual-in_err-commit.ensures.1 in
    handed (c.mark_mounted.ensures.faults.counts) _ p.0 c.from_residual-in_err-commit.result c.in_err-commit.ensures.faults p.1 p.2

pub returns-clause-faults : goal.returns-clause-faults
returns-clause-faults g c =
    fine (counts_both c.mark_mounted.ensures.faults.counts c.commit.ensures.faults.counts) _
