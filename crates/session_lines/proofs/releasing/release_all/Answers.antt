use Rattle.std.proofs.Common.{◌+◌, ◌*◌, ◌++◌, [], ℕ, List, refl, sym, ◌∙◌, ap, subst, arith}
use Rattle.std.specs.Prelude.{◌^◌, IsTrue, Option, option_to_list}
use Rattle.std.proofs.lemmas.List.{append-nil}
use Rattle.std.proofs.lemmas.Result.{err_from_is_err_and}
use Rattle.volume_runs.specs.Run.{shrunk_in}
use Rattle.hfs_serving.specs.Said.{untold}
use Rattle.hfs_serving.specs.Speaking.{SpeaksOn}
use Rattle.hfs_serving.proofs.Caused.{causes_more, commits_on, no_commit}
use Rattle.hfs_serving.proofs.Causes.{counts_both, counts_none, fine_stop, handed_on}
use Rattle.hfs_serving.proofs.Going.{on_err}
use Rattle.hfs_serving.proofs.Numbering.{too_many}
use Rattle.hfs_serving.proofs.Speeches.{speaks_nothing, stands_spoken}
use Rattle.session_lines.specs.Turns.{BrokenSessions, spoke_with}
use Rattle.session_lines.proofs.Begun.{release_stops, releases_end, releases_more, releases_one, releases_stop}
use Rattle.session_lines.proofs.releasing.release_all.Goals as goal

pub loop-round-init : goal.loop-round-init
loop-round-init g c = record {
  counts = counts_none _ _;
  anchor = refl;
  tells = refl;
  serves = λ capacity serves taken. (serves, taken);
  caused = λ tells. no_commit _ _ _ _ (omega arith);
  goes = λ tells capacity committed now shrunk number stands. speaks_nothing capacity shrunk committed now _ _ _ number _ stands;
}

pub go_on-requires-clause-serves : goal.go_on-requires-clause-serves
go_on-requires-clause-serves g c =
    let there = c.requires.serves in
    let still = c.loop-round.invariant.serves there.0 there.1 there.2 in
    (there.0, still.0, still.1)

pub go_on-requires-clause-stands : goal.go_on-requires-clause-stands
go_on-requires-clause-stands g c tells_there =
    let tells = subst (λ t. IsTrue t) c.loop-round.invariant.tells tells_there in
    let there = c.requires.stands tells in
    let space = g.G.SectorView.space c.loop-round.base in
    let first = c.loop-round.invariant.goes tells there.0 there.1 there.2 there.3 0 there.4 in (
      there.0,
      first.last,
      first.next,
      shrunk_in there.3 first.speech.run,
      stands_spoken there.0 there.3 there.1 there.2 (g.G.Ground.outside c.args.base.now) 0 (spoke_with c.args.table.now c.args.left.now.items) (spoke_with c.args.table.now c.loop-round.left.items) _ (g.V.Volume.knows c.loop-round.volume space there.0) untold space
          (g.G.Ground.outside c.loop-round.base) first,
    )

pub loop-round-preserved : goal.loop-round-preserved
loop-round-preserved g c = record {
  counts = counts_both c.loop-round.invariant.counts c.go_on.ensures.faults.counts;
  anchor = c.go_on.ensures.anchor ∙ c.loop-round.invariant.anchor;
  tells = c.in_ok-go_on-in-Some.ensures.tells ∙ c.loop-round.invariant.tells;
  serves = λ capacity serves taken. let was = c.loop-round.invariant.serves capacity serves taken in c.in_ok-go_on-in-Some.ensures.still capacity was.0 was.1;
  caused = λ tells.
      commits_on _ (144 * c.loop-round._round) 144 (144 * (c.loop-round._round + 1)) _ _ _ _ (c.loop-round.invariant.caused tells) (omega arith) (c.in_ok-go_on-in-Some.ensures.caused (c.loop-round.invariant.tells ∙ tells)) (omega arith);
  goes = λ tells capacity committed now shrunk number stands.
      let old = g.G.Ground.outside c.args.base.now in
      let table = c.args.table.now in
      let space = g.G.SectorView.space c.loop-round.base in
      let mid = g.G.Ground.outside c.loop-round.base in
      let knows = g.V.Volume.knows c.loop-round.volume space capacity in
      let first = c.loop-round.invariant.goes tells capacity committed now shrunk number stands in
      let from = spoke_with table c.args.left.now.items in
      let to = spoke_with table c.loop-round.left.items in
      let there = stands_spoken capacity shrunk committed now old number from to _ knows untold space mid first in
      let here = shrunk_in shrunk first.speech.run in
      let went = c.in_ok-go_on-in-Some.ensures.goes (c.loop-round.invariant.tells ∙ tells) capacity first.last first.next here there in
      let new = g.G.SectorView.space c.go_on.new.base in
      let after = g.G.Ground.outside c.go_on.new.base in
      let knows_new = g.V.Volume.knows c.go_on.new.volume new capacity in
      let second = releases_one c.step_keeps_trees.ensures c.ids_stay_few.ensures capacity here first.last first.next mid number table c.loop-round.left.items c.pop.new.self.items c.in-Some.id (c.pop.ensures.items ∙ ap (λ (o : Option ℕ). c.pop.new.self.items ++ option_to_list o) c.in-Some.is) c.go_on.new.stage c.in_ok-go_on-in-Some.ensures.ended knows_new new after went in
      releases_more capacity shrunk committed now old number from to knows space mid first (spoke_with table c.pop.new.self.items) knows_new new after second;
}

pub returns-in_err-go_on-in-Some-clause-stops : goal.returns-in_err-go_on-in-Some-clause-stops
returns-in_err-go_on-in-Some-clause-stops g c tells capacity committed now shrunk number stands =
    let old = g.G.Ground.outside c.args.base.now in
    let table = c.args.table.now in
    let space = g.G.SectorView.space c.loop-round.base in
    let mid = g.G.Ground.outside c.loop-round.base in
    let knows = g.V.Volume.knows c.loop-round.volume space capacity in
    let first = c.loop-round.invariant.goes tells capacity committed now shrunk number stands in
    let from = spoke_with table c.args.left.now.items in
    let to = spoke_with table c.loop-round.left.items in
    let there = stands_spoken capacity shrunk committed now old number from to _ knows untold space mid first in
    let here = shrunk_in shrunk first.speech.run in
    let after = g.G.Ground.outside c.go_on.new.base in
    on_err c.from_residual.result
    (releases_stop capacity shrunk committed now old number from to knows space mid first BrokenSessions after
    (release_stops c.step_keeps_trees.ensures c.ids_stay_few.ensures capacity here first.last first.next mid number table c.loop-round.left.items c.pop.new.self.items c.in-Some.id (c.pop.ensures.items ∙ ap (λ (o : Option ℕ). c.pop.new.self.items ++ option_to_list o) c.in-Some.is) after
    (c.in_err-go_on-in-Some.ensures.stops (c.loop-round.invariant.tells ∙ tells) capacity first.last first.next here there)))

pub returns-in-None-clause-goes : goal.returns-in-None-clause-goes
returns-in-None-clause-goes g c tells capacity committed now shrunk number stands =
    let old = g.G.Ground.outside c.args.base.now in
    let table = c.args.table.now in
    let space = g.G.SectorView.space c.loop-round.base in
    let mid = g.G.Ground.outside c.loop-round.base in
    let knows = g.V.Volume.knows c.loop-round.volume space capacity in
    let first = c.loop-round.invariant.goes tells capacity committed now shrunk number stands in
    let from = spoke_with table c.args.left.now.items in
    let to = spoke_with table c.loop-round.left.items in
    subst (λ (l : List ℕ). SpeaksOn capacity knows committed now shrunk old number from (spoke_with table l) [] untold space mid) (c.pop.ensures.items ∙ ap (λ (o : Option ℕ). c.pop.new.self.items ++ option_to_list o) c.in-None.is ∙ append-nil c.pop.new.self.items) first

pub returns-in-None-clause-caused : goal.returns-in-None-clause-caused
returns-in-None-clause-caused g c tells = causes_more _ (144 * c.loop-round._round) (144 * 2 ^ 32) _ _ (c.loop-round.invariant.caused tells) (omega arith)

pub returns-clause-stops : goal.returns-clause-stops
returns-clause-stops g c tells capacity committed now shrunk number stands =
    let old = g.G.Ground.outside c.args.base.now in
    let table = c.args.table.now in
    let space = g.G.SectorView.space c.loop-round.base in
    let mid = g.G.Ground.outside c.loop-round.base in
    let knows = g.V.Volume.knows c.loop-round.volume space capacity in
    let first = c.loop-round.invariant.goes tells capacity committed now shrunk number stands in
    let from = spoke_with table c.args.left.now.items in
    let to = spoke_with table c.loop-round.left.items in
    releases_end capacity shrunk committed now old number from to knows space mid first BrokenSessions (λ start all spoke. spoke.spoken)

pub returns-in_err-go_on-in-Some-clause-caused : goal.returns-in_err-go_on-in-Some-clause-caused
returns-in_err-go_on-in-Some-clause-caused g c tells =
    commits_on _ (144 * c.loop-round._round) 144 (144 * 2 ^ 32) _ _ _ _ (c.loop-round.invariant.caused tells) (omega arith) (c.in_err-go_on-in-Some.ensures.caused (c.loop-round.invariant.tells ∙ tells)) (omega arith)

pub returns-clause-caused : goal.returns-clause-caused
returns-clause-caused g c tells = causes_more _ (144 * c.loop-round._round) (144 * 2 ^ 32) _ _ (c.loop-round.invariant.caused tells) (omega (arith, c.loop-round.auto._round-end))
