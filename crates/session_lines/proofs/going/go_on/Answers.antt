use Rattle.std.proofs.Common.{◌+◌, ◌*◌, refl, sym, ◌∙◌, subst, arith}
use Rattle.std.specs.Prelude.{IsTrue}
use Rattle.std.proofs.lemmas.Result.{err_from_is_err_and}
use Rattle.volume_runs.specs.Run.{shrunk_in}
use Rattle.hfs_serving.proofs.Caused.{causes_more, commits_on, no_commit}
use Rattle.hfs_serving.proofs.Causes.{counts_both, counts_none, fine_stop, handed_on}
use Rattle.hfs_serving.proofs.Going.{on_err}
use Rattle.hfs_serving.proofs.Numbering.{too_many}
use Rattle.session_lines.specs.Doing.{WentOn}
use Rattle.session_lines.proofs.Stretches.{stands_went, went_nowhere, went_once, went_so_far, went_stops}
use Rattle.session_lines.proofs.going.go_on.Goals as goal

pub loop-step-init : goal.loop-step-init
loop-step-init g c = record {
  fits = c.requires.fits;
  counts = counts_none _ _;
  anchor = refl;
  caused = λ tells. no_commit _ _ _ _ (omega arith);
  tells = refl;
  serves = λ capacity serves taken. (serves, taken);
  goes = λ tells capacity committed now shrunk stands. went_nowhere capacity shrunk committed now _ _ _ _ _ stands;
}

pub go_once-requires-clause-serves : goal.go_once-requires-clause-serves
go_once-requires-clause-serves g c =
    let there = c.requires.serves in
    let still = c.loop-step.invariant.serves there.0 there.1 there.2 in
    (there.0, still.0, still.1)

pub go_once-requires-clause-fits : goal.go_once-requires-clause-fits
go_once-requires-clause-fits g c = c.loop-step.invariant.fits

pub go_once-requires-clause-stands : goal.go_once-requires-clause-stands
go_once-requires-clause-stands g c tells_there =
    let tells = subst (λ t. IsTrue t) c.loop-step.invariant.tells tells_there in
    let there = c.requires.stands tells in
    let went = c.loop-step.invariant.goes tells there.0 there.1 there.2 there.3 there.4 in (
      there.0,
      went.last,
      went.next,
      shrunk_in there.3 went.run,
      stands_went there.0 there.3 there.1 there.2 (g.G.Ground.outside c.args.base.now) c.args.table.now c.args.stage.now c.loop-step.stage (g.V.Volume.knows c.loop-step.volume (g.G.SectorView.space c.loop-step.base) there.0) (g.G.SectorView.space c.loop-step.base) (g.G.Ground.outside c.loop-step.base) went,
    )

pub returns-in_err-go_once-clause-stops : goal.returns-in_err-go_once-clause-stops
returns-in_err-go_once-clause-stops g c tells capacity committed now shrunk stands =
    let old = g.G.Ground.outside c.args.base.now in
    let space = g.G.SectorView.space c.loop-step.base in
    let knows = g.V.Volume.knows c.loop-step.volume space capacity in
    let mid = g.G.Ground.outside c.loop-step.base in
    let went = c.loop-step.invariant.goes tells capacity committed now shrunk stands in
    on_err c.from_residual.result
    (went_stops capacity shrunk committed now old c.args.table.now c.args.stage.now c.loop-step.stage knows space mid went (g.G.Ground.outside c.go_once.new.base)
    (c.in_err-go_once.ensures.stops (c.loop-step.invariant.tells ∙ tells) capacity went.last went.next (shrunk_in shrunk went.run)
    (stands_went capacity shrunk committed now old c.args.table.now c.args.stage.now c.loop-step.stage knows space mid went)))

pub returns-then-not-branch-clause-goes : goal.returns-then-not-branch-clause-goes
returns-then-not-branch-clause-goes g c tells capacity committed now shrunk stands =
    let old = g.G.Ground.outside c.args.base.now in
    let space = g.G.SectorView.space c.loop-step.base in
    let knows = g.V.Volume.knows c.loop-step.volume space capacity in
    let mid = g.G.Ground.outside c.loop-step.base in
    let went = c.loop-step.invariant.goes tells capacity committed now shrunk stands in
    let new = g.G.SectorView.space c.go_once.new.base in
    went_once capacity shrunk committed now old c.args.table.now c.args.stage.now c.loop-step.stage knows space mid went c.go_once.new.stage (g.V.Volume.knows c.go_once.new.volume new capacity) new (g.G.Ground.outside c.go_once.new.base) _
    (c.in_ok-go_once.ensures.goes (c.loop-step.invariant.tells ∙ tells) capacity went.last went.next (shrunk_in shrunk went.run)
    (stands_went capacity shrunk committed now old c.args.table.now c.args.stage.now c.loop-step.stage knows space mid went))
    (λ same.
    subst (λ (k : g.row.V.Denot × g.row.G.Denot). WentOn capacity (g.V.Volume.knows k.0 (g.G.SectorView.space k.1) capacity) committed now shrunk old c.args.table.now c.args.stage.now c.loop-step.stage (g.G.SectorView.space k.1) (g.G.Ground.outside k.1))
    {x = (c.loop-step.volume, c.loop-step.base)} {y = (c.go_once.new.volume, c.go_once.new.base)} (λ i. (sym same.0 i, sym same.1 i)) went)

pub returns-then-not-branch-clause-still : goal.returns-then-not-branch-clause-still
returns-then-not-branch-clause-still g c capacity serves taken =
    let was = c.loop-step.invariant.serves capacity serves taken in
    c.in_ok-go_once.ensures.still capacity was.0 was.1

pub returns-then-not-branch-clause-tells : goal.returns-then-not-branch-clause-tells
returns-then-not-branch-clause-tells g c = c.in_ok-go_once.ensures.tells ∙ c.loop-step.invariant.tells

pub loop-step-preserved : goal.loop-step-preserved
loop-step-preserved g c = record {
  fits = c.in_ok-go_once.ensures.fits;
  counts = counts_both c.loop-step.invariant.counts c.go_once.ensures.faults.counts;
  anchor = c.go_once.ensures.anchor ∙ c.loop-step.invariant.anchor;
  caused = λ tells. commits_on _ (9 * c.loop-step._step) 9 (9 * (c.loop-step._step + 1)) _ _ _ _ (c.loop-step.invariant.caused tells) (omega arith) (c.in_ok-go_once.ensures.caused (c.loop-step.invariant.tells ∙ tells)) (omega arith);
  tells = c.in_ok-go_once.ensures.tells ∙ c.loop-step.invariant.tells;
  serves = λ capacity serves taken. let was = c.loop-step.invariant.serves capacity serves taken in c.in_ok-go_once.ensures.still capacity was.0 was.1;
  goes = λ tells capacity committed now shrunk stands.
      let old = g.G.Ground.outside c.args.base.now in
      let space = g.G.SectorView.space c.loop-step.base in
      let knows = g.V.Volume.knows c.loop-step.volume space capacity in
      let mid = g.G.Ground.outside c.loop-step.base in
      let went = c.loop-step.invariant.goes tells capacity committed now shrunk stands in
      let new = g.G.SectorView.space c.go_once.new.base in
      went_once capacity shrunk committed now old c.args.table.now c.args.stage.now c.loop-step.stage knows space mid went c.go_once.new.stage (g.V.Volume.knows c.go_once.new.volume new capacity) new (g.G.Ground.outside c.go_once.new.base) _
      (c.in_ok-go_once.ensures.goes (c.loop-step.invariant.tells ∙ tells) capacity went.last went.next (shrunk_in shrunk went.run)
      (stands_went capacity shrunk committed now old c.args.table.now c.args.stage.now c.loop-step.stage knows space mid went))
      (λ same.
      subst (λ (k : g.row.V.Denot × g.row.G.Denot). WentOn capacity (g.V.Volume.knows k.0 (g.G.SectorView.space k.1) capacity) committed now shrunk old c.args.table.now c.args.stage.now c.loop-step.stage (g.G.SectorView.space k.1) (g.G.Ground.outside k.1))
      {x = (c.loop-step.volume, c.loop-step.base)} {y = (c.go_once.new.volume, c.go_once.new.base)} (λ i. (sym same.0 i, sym same.1 i)) went);
}

-- its stages are used up
pub returns-clause-stops : goal.returns-clause-stops
returns-clause-stops g c tells capacity committed now shrunk stands =
    let space = g.G.SectorView.space c.loop-step.base in
    went_so_far capacity shrunk committed now (g.G.Ground.outside c.args.base.now) c.args.table.now c.args.stage.now c.loop-step.stage (g.V.Volume.knows c.loop-step.volume space capacity) space (g.G.Ground.outside c.loop-step.base) (c.loop-step.invariant.goes tells capacity committed now shrunk stands)

pub returns-in_err-go_once-clause-faults : goal.returns-in_err-go_once-clause-faults
returns-in_err-go_once-clause-faults g c =
    let p = err_from_is_err_and c.from_residual.result c.from_residual.ensures.1 in
    handed_on c.loop-step.invariant.counts ⊥ ⊥ _ p.0 c.from_residual.result (λ never. never) c.in_err-go_once.ensures.faults p.1 p.2

pub returns-then-not-branch-clause-faults : goal.returns-then-not-branch-clause-faults
returns-then-not-branch-clause-faults g c = fine_stop (counts_both c.loop-step.invariant.counts c.go_once.ensures.faults.counts) ⊥ _

pub returns-clause-faults : goal.returns-clause-faults
returns-clause-faults g c = record { counts = c.loop-step.invariant.counts; disk = λ is. absurd (cc is); sink = λ is. absurd (cc is); source = λ is. absurd (cc is) }

pub returns-in_err-go_once-clause-no_many : goal.returns-in_err-go_once-clause-no_many
returns-in_err-go_once-clause-no_many g c is =
    let p = err_from_is_err_and c.from_residual.result c.from_residual.ensures.1 in
    c.in_err-go_once.ensures.no_many (too_many _ p.0 c.from_residual.result p.1 p.2 is)

pub returns-then-not-branch-clause-caused : goal.returns-then-not-branch-clause-caused
returns-then-not-branch-clause-caused g c tells =
    commits_on _ (9 * c.loop-step._step) 9 144 _ _ _ _ (c.loop-step.invariant.caused tells) (omega arith) (c.in_ok-go_once.ensures.caused (c.loop-step.invariant.tells ∙ tells)) (omega arith)

pub returns-in_err-go_once-clause-caused : goal.returns-in_err-go_once-clause-caused
returns-in_err-go_once-clause-caused g c tells =
    commits_on _ (9 * c.loop-step._step) 9 144 _ _ _ _ (c.loop-step.invariant.caused tells) (omega arith) (c.in_err-go_once.ensures.caused (c.loop-step.invariant.tells ∙ tells)) (omega arith)

pub returns-clause-caused : goal.returns-clause-caused
returns-clause-caused g c tells = causes_more _ (9 * c.loop-step._step) 144 _ _ (c.loop-step.invariant.caused tells) (omega (arith, c.loop-step.auto._step-end))
