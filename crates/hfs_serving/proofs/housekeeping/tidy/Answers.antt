use Rattle.std.proofs.Common.{◌-◌, refl, ◌∙◌, subst, arith}
use Rattle.std.specs.Prelude.{IsTrue}
use Rattle.hfs_serving.proofs.Going.{begins, on_err, stands_there, tidy_both, tidy_rested, tidy_stops}
use Rattle.std.proofs.lemmas.Result.{err_from_is_err_and}
use Rattle.hfs_serving.proofs.Causes.{counts_both, counts_none, fine, handed}
use Rattle.hfs_serving.proofs.Caused.{causes_more, commits_on, no_commit}
use Rattle.hfs_serving.proofs.housekeeping.tidy.Goals as goal

pub loop-init : goal.loop-init
loop-init g c = record {
  counts = counts_none _ _;
  anchor = refl;
  tells = refl;
  serves = λ capacity serves taken. (serves, taken);
  tries = omega arith;
  caused = λ tells. no_commit _ _ _ _ (omega arith);
  goes = λ tells capacity committed now shrunk stands. begins capacity shrunk committed now _ _ _ stands;
}

pub work-requires-clause-serves : goal.work-requires-clause-serves
work-requires-clause-serves g c =
    let there = c.requires.serves in
    let still = c.loop.invariant.serves there.0 there.1 there.2 in
    (there.0, still.0, still.1)

pub work-requires-clause-stands : goal.work-requires-clause-stands
work-requires-clause-stands g c tells_there =
    let tells = subst (λ t. IsTrue t) c.loop.invariant.tells tells_there in
    let there = c.requires.stands tells in
    let goes = c.loop.invariant.goes tells there.0 there.1 there.2 there.3 there.4 in
    (there.0, goes.last, goes.next, there.3, stands_there there.0 there.3 there.1 there.2 (g.G.Ground.outside c.args.base.now) (g.V.Volume.knows c.loop.volume (g.G.SectorView.space c.loop.base) there.0) (g.G.SectorView.space c.loop.base) (g.G.Ground.outside c.loop.base) goes)

pub returns-in_err-work-clause-stops : goal.returns-in_err-work-clause-stops
returns-in_err-work-clause-stops g c tells capacity committed now shrunk stands =
    let old = g.G.Ground.outside c.args.base.now in
    let space = g.G.SectorView.space c.loop.base in
    let knows = g.V.Volume.knows c.loop.volume space capacity in
    let mid = g.G.Ground.outside c.loop.base in
    let goes = c.loop.invariant.goes tells capacity committed now shrunk stands in
    on_err c.from_residual.result
    (tidy_stops capacity shrunk committed now old knows space mid goes (g.G.Ground.outside c.work.new.base)
    (c.in_err-work.ensures.stops (c.loop.invariant.tells ∙ tells) capacity goes.last goes.next shrunk (stands_there capacity shrunk committed now old knows space mid goes)))

pub returns-then-branch-clause-goes : goal.returns-then-branch-clause-goes
returns-then-branch-clause-goes g c tells capacity committed now shrunk stands =
    let old = g.G.Ground.outside c.args.base.now in
    let space = g.G.SectorView.space c.loop.base in
    let knows = g.V.Volume.knows c.loop.volume space capacity in
    let mid = g.G.Ground.outside c.loop.base in
    let goes = c.loop.invariant.goes tells capacity committed now shrunk stands in
    let new = g.G.SectorView.space c.work.new.base in
    tidy_both capacity shrunk committed now old knows space mid goes (g.V.Volume.knows c.work.new.volume new capacity) new (g.G.Ground.outside c.work.new.base)
    (c.in_ok-work.ensures.goes (c.loop.invariant.tells ∙ tells) capacity goes.last goes.next shrunk (stands_there capacity shrunk committed now old knows space mid goes))

pub returns-then-branch-clause-rests : goal.returns-then-branch-clause-rests
returns-then-branch-clause-rests g c tells capacity committed now shrunk stands rests =
    let old = g.G.Ground.outside c.args.base.now in
    let space = g.G.SectorView.space c.loop.base in
    let knows = g.V.Volume.knows c.loop.volume space capacity in
    let mid = g.G.Ground.outside c.loop.base in
    let goes = c.loop.invariant.goes tells capacity committed now shrunk stands in
    let new = g.G.SectorView.space c.work.new.base in
    tidy_rested capacity shrunk committed now old knows space mid goes (g.V.Volume.knows c.work.new.volume new capacity) new (g.G.Ground.outside c.work.new.base)
    (c.in_ok-work.ensures.rests (c.loop.invariant.tells ∙ tells) capacity goes.last goes.next shrunk (stands_there capacity shrunk committed now old knows space mid goes) c.if-branch.true)

pub loop-preserved : goal.loop-preserved
loop-preserved g c = record {
  counts = counts_both c.loop.invariant.counts c.work.ensures.faults.counts;
  anchor = c.work.ensures.anchor ∙ c.loop.invariant.anchor;
  tells = c.in_ok-work.ensures.tells ∙ c.loop.invariant.tells;
  serves = λ capacity serves taken. let was = c.loop.invariant.serves capacity serves taken in c.in_ok-work.ensures.still capacity was.0 was.1;
  tries = omega (arith, c.work.ensures.fewer, c.loop.invariant.tries);
  caused = λ tells. commits_on _ (8 - c.loop.tries) (c.loop.tries - c.work.new.tries) (8 - c.work.new.tries) _ _ _ _ (c.loop.invariant.caused tells) (omega arith) (c.work.ensures.caused (c.loop.invariant.tells ∙ tells)) (omega (arith, c.work.ensures.fewer, c.loop.invariant.tries));
  goes = λ tells capacity committed now shrunk stands.
      let old = g.G.Ground.outside c.args.base.now in
      let space = g.G.SectorView.space c.loop.base in
      let knows = g.V.Volume.knows c.loop.volume space capacity in
      let mid = g.G.Ground.outside c.loop.base in
      let goes = c.loop.invariant.goes tells capacity committed now shrunk stands in
      let new = g.G.SectorView.space c.work.new.base in
      tidy_both capacity shrunk committed now old knows space mid goes (g.V.Volume.knows c.work.new.volume new capacity) new (g.G.Ground.outside c.work.new.base)
      (c.in_ok-work.ensures.goes (c.loop.invariant.tells ∙ tells) capacity goes.last goes.next shrunk (stands_there capacity shrunk committed now old knows space mid goes));
}

pub returns-in_err-work-clause-faults : goal.returns-in_err-work-clause-faults
returns-in_err-work-clause-faults g c =
    let p = err_from_is_err_and c.from_residual.result c.from_residual.ensures.1 in
    handed (c.loop.invariant.counts) _ p.0 c.from_residual.result c.in_err-work.ensures.faults p.1 p.2

pub returns-then-branch-clause-faults : goal.returns-then-branch-clause-faults
returns-then-branch-clause-faults g c =
    fine (counts_both c.loop.invariant.counts c.work.ensures.faults.counts) _

pub returns-clause-faults : goal.returns-clause-faults
returns-clause-faults g c =
    fine c.loop.invariant.counts _

pub returns-then-branch-clause-caused : goal.returns-then-branch-clause-caused
returns-then-branch-clause-caused g c tells = commits_on _ (8 - c.loop.tries) (c.loop.tries - c.work.new.tries) 8 _ _ _ _ (c.loop.invariant.caused tells) (omega arith) (c.work.ensures.caused (c.loop.invariant.tells ∙ tells)) (omega (arith, c.work.ensures.fewer, c.loop.invariant.tries))

pub returns-clause-caused : goal.returns-clause-caused
returns-clause-caused g c tells = causes_more _ (8 - c.loop.tries) 8 _ _ (c.loop.invariant.caused tells) (omega arith)

pub returns-in_err-work-clause-caused : goal.returns-in_err-work-clause-caused
returns-in_err-work-clause-caused g c tells = commits_on _ (8 - c.loop.tries) (c.loop.tries - c.work.new.tries) 8 _ _ _ _ (c.loop.invariant.caused tells) (omega arith) (c.work.ensures.caused (c.loop.invariant.tells ∙ tells)) (omega (arith, c.work.ensures.fewer, c.loop.invariant.tries))
