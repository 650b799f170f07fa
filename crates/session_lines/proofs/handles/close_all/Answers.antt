use Rattle.std.proofs.Common.{◌+◌, ◌*◌, refl, ◌∙◌, subst, arith}
use Rattle.std.specs.Prelude.{IsTrue}
use Rattle.std.proofs.lemmas.Result.{err_from_is_err_and}
use Rattle.volume_runs.specs.Run.{shrunk_in}
use Rattle.hfs_serving.proofs.Caused.{causes_more, commits_on, no_commit}
use Rattle.hfs_serving.proofs.Causes.{counts_both, counts_none, fine_stop, handed_on}
use Rattle.hfs_serving.proofs.Going.{on_err}
use Rattle.hfs_serving.proofs.Numbering.{too_many}
use Rattle.session_lines.proofs.Closed.{closed_both, closed_none, closed_so_far, stands_closed, stops_both}
use Rattle.session_lines.proofs.handles.close_all.Goals as goal

pub loop-handle-init : goal.loop-handle-init
loop-handle-init g c = record {
  counts = counts_none _ _;
  anchor = refl;
  caused = λ tells. no_commit _ _ _ _ (omega arith);
  tells = refl;
  serves = λ capacity serves taken. (serves, taken);
  goes = λ tells capacity committed now shrunk stands. closed_none capacity shrunk committed now _ _ _ stands _ _;
}

pub close_next-requires-clause-serves : goal.close_next-requires-clause-serves
close_next-requires-clause-serves g c =
    let there = c.requires.serves in
    let still = c.loop-handle.invariant.serves there.0 there.1 there.2 in
    (there.0, still.0, still.1)

pub close_next-requires-clause-stands : goal.close_next-requires-clause-stands
close_next-requires-clause-stands g c tells_there =
    let tells = subst (λ t. IsTrue t) c.loop-handle.invariant.tells tells_there in
    let there = c.requires.stands tells in
    let some = c.loop-handle.invariant.goes tells there.0 there.1 there.2 there.3 there.4 in (
      there.0,
      some.last,
      some.next,
      shrunk_in there.3 some.run,
      stands_closed there.0 there.3 there.1 there.2 (g.G.Ground.outside c.args.base.now) c.args.session c.args.table.now c.loop-handle.table (g.V.Volume.knows c.loop-handle.volume (g.G.SectorView.space c.loop-handle.base) there.0) (g.G.SectorView.space c.loop-handle.base) (g.G.Ground.outside c.loop-handle.base) some,
    )

pub returns-in_err-close_next-clause-stops : goal.returns-in_err-close_next-clause-stops
returns-in_err-close_next-clause-stops g c tells capacity committed now shrunk stands =
    let old = g.G.Ground.outside c.args.base.now in
    let space = g.G.SectorView.space c.loop-handle.base in
    let knows = g.V.Volume.knows c.loop-handle.volume space capacity in
    let mid = g.G.Ground.outside c.loop-handle.base in
    let some = c.loop-handle.invariant.goes tells capacity committed now shrunk stands in
    on_err c.from_residual.result
    (stops_both capacity shrunk committed now old c.args.session c.args.table.now c.loop-handle.table knows space mid some (g.G.Ground.outside c.close_next.new.base)
    (c.in_err-close_next.ensures.stops (c.loop-handle.invariant.tells ∙ tells) capacity some.last some.next (shrunk_in shrunk some.run)
    (stands_closed capacity shrunk committed now old c.args.session c.args.table.now c.loop-handle.table knows space mid some)))

pub returns-then-not-branch-clause-goes : goal.returns-then-not-branch-clause-goes
returns-then-not-branch-clause-goes g c tells capacity committed now shrunk stands =
    let old = g.G.Ground.outside c.args.base.now in
    let space = g.G.SectorView.space c.loop-handle.base in
    let knows = g.V.Volume.knows c.loop-handle.volume space capacity in
    let mid = g.G.Ground.outside c.loop-handle.base in
    let some = c.loop-handle.invariant.goes tells capacity committed now shrunk stands in
    let new = g.G.SectorView.space c.close_next.new.base in
    closed_both capacity shrunk committed now old c.args.session c.args.table.now c.loop-handle.table knows space mid some c.close_next.new.table (g.V.Volume.knows c.close_next.new.volume new capacity) new (g.G.Ground.outside c.close_next.new.base)
    (c.in_ok-close_next.ensures.goes (c.loop-handle.invariant.tells ∙ tells) capacity some.last some.next (shrunk_in shrunk some.run)
    (stands_closed capacity shrunk committed now old c.args.session c.args.table.now c.loop-handle.table knows space mid some))

pub returns-then-not-branch-clause-still : goal.returns-then-not-branch-clause-still
returns-then-not-branch-clause-still g c capacity serves taken =
    let was = c.loop-handle.invariant.serves capacity serves taken in
    c.in_ok-close_next.ensures.still capacity was.0 was.1

pub returns-then-not-branch-clause-tells : goal.returns-then-not-branch-clause-tells
returns-then-not-branch-clause-tells g c = c.in_ok-close_next.ensures.tells ∙ c.loop-handle.invariant.tells

pub loop-handle-preserved : goal.loop-handle-preserved
loop-handle-preserved g c = record {
  counts = counts_both c.loop-handle.invariant.counts c.close_next.ensures.faults.counts;
  anchor = c.close_next.ensures.anchor ∙ c.loop-handle.invariant.anchor;
  caused = λ tells. commits_on _ (144 * c.loop-handle._handle) 144 (144 * (c.loop-handle._handle + 1)) _ _ _ _ (c.loop-handle.invariant.caused tells) (omega arith) (c.in_ok-close_next.ensures.caused (c.loop-handle.invariant.tells ∙ tells)) (omega arith);
  tells = c.in_ok-close_next.ensures.tells ∙ c.loop-handle.invariant.tells;
  serves = λ capacity serves taken. let was = c.loop-handle.invariant.serves capacity serves taken in c.in_ok-close_next.ensures.still capacity was.0 was.1;
  goes = λ tells capacity committed now shrunk stands.
      let old = g.G.Ground.outside c.args.base.now in
      let space = g.G.SectorView.space c.loop-handle.base in
      let knows = g.V.Volume.knows c.loop-handle.volume space capacity in
      let mid = g.G.Ground.outside c.loop-handle.base in
      let some = c.loop-handle.invariant.goes tells capacity committed now shrunk stands in
      let new = g.G.SectorView.space c.close_next.new.base in
      closed_both capacity shrunk committed now old c.args.session c.args.table.now c.loop-handle.table knows space mid some c.close_next.new.table (g.V.Volume.knows c.close_next.new.volume new capacity) new (g.G.Ground.outside c.close_next.new.base)
      (c.in_ok-close_next.ensures.goes (c.loop-handle.invariant.tells ∙ tells) capacity some.last some.next (shrunk_in shrunk some.run)
      (stands_closed capacity shrunk committed now old c.args.session c.args.table.now c.loop-handle.table knows space mid some));
}

pub returns-clause-stops : goal.returns-clause-stops
returns-clause-stops g c tells capacity committed now shrunk stands =
    let space = g.G.SectorView.space c.loop-handle.base in
    closed_so_far capacity shrunk committed now (g.G.Ground.outside c.args.base.now) c.args.session c.args.table.now c.loop-handle.table (g.V.Volume.knows c.loop-handle.volume space capacity) space (g.G.Ground.outside c.loop-handle.base) (c.loop-handle.invariant.goes tells capacity committed now shrunk stands)

pub returns-in_err-close_next-clause-faults : goal.returns-in_err-close_next-clause-faults
returns-in_err-close_next-clause-faults g c =
    let p = err_from_is_err_and c.from_residual.result c.from_residual.ensures.1 in
    handed_on c.loop-handle.invariant.counts ⊥ ⊥ _ p.0 c.from_residual.result (λ never. never) c.in_err-close_next.ensures.faults p.1 p.2

pub returns-then-not-branch-clause-faults : goal.returns-then-not-branch-clause-faults
returns-then-not-branch-clause-faults g c = fine_stop (counts_both c.loop-handle.invariant.counts c.close_next.ensures.faults.counts) ⊥ _

pub returns-clause-faults : goal.returns-clause-faults
returns-clause-faults g c = record { counts = c.loop-handle.invariant.counts; disk = λ is. absurd (cc is); sink = λ is. absurd (cc is); source = λ is. absurd (cc is) }

pub returns-in_err-close_next-clause-no_many : goal.returns-in_err-close_next-clause-no_many
returns-in_err-close_next-clause-no_many g c is =
    let p = err_from_is_err_and c.from_residual.result c.from_residual.ensures.1 in
    c.in_err-close_next.ensures.no_many (too_many _ p.0 c.from_residual.result p.1 p.2 is)

pub returns-then-not-branch-clause-caused : goal.returns-then-not-branch-clause-caused
returns-then-not-branch-clause-caused g c tells =
    commits_on _ (144 * c.loop-handle._handle) 144 37008 _ _ _ _ (c.loop-handle.invariant.caused tells) (omega arith) (c.in_ok-close_next.ensures.caused (c.loop-handle.invariant.tells ∙ tells)) (omega arith)

pub returns-in_err-close_next-clause-caused : goal.returns-in_err-close_next-clause-caused
returns-in_err-close_next-clause-caused g c tells =
    commits_on _ (144 * c.loop-handle._handle) 144 37008 _ _ _ _ (c.loop-handle.invariant.caused tells) (omega arith) (c.in_err-close_next.ensures.caused (c.loop-handle.invariant.tells ∙ tells)) (omega arith)

pub returns-clause-caused : goal.returns-clause-caused
returns-clause-caused g c tells = causes_more _ (144 * c.loop-handle._handle) 37008 _ _ (c.loop-handle.invariant.caused tells) (omega (arith, c.loop-handle.auto._handle-end))
