use Rattle.std.proofs.Common.{List, sym, ◌∙◌, subst}
use Rattle.open_files.specs.declared.act.OpenFile.{OpenFile}
use Rattle.session_lines.specs.declared.stages.Stage.TheVariants as stage
use Rattle.session_lines.specs.Doing.{StopsGoing, WentOn}
use Rattle.session_lines.proofs.Closed.{closed_gone, closed_nothing, err_more, none_gone, not_gone, ok_both, stops_gone}
use Rattle.session_lines.proofs.handles.close_handle.Goals as goal

pub returns-in-Gone-clause-goes : goal.returns-in-Gone-clause-goes
returns-in-Gone-clause-goes g c tells capacity committed now shrunk stands =
    let old = g.G.Ground.outside c.args.base.now in
    let space = g.G.SectorView.space c.go_on.new.base in
    let new = g.G.Ground.outside c.go_on.new.base in
    let knows = g.V.Volume.knows c.go_on.new.volume space capacity in
    ok_both _ _ _ c.go_on.result
    (λ went ends.
    closed_gone capacity shrunk committed now old c.args.session c.args.handle c.args.table.now knows space new c.in-Gone.id c.go_on.new.stage (sym c.close.ensures.answer ∙ c.in-Gone.is) ends
    (subst (λ (l : List OpenFile). WentOn capacity knows committed now shrunk old l (stage.Closing c.in-Gone.id) c.go_on.new.stage space new) c.close.ensures.left went)) (c.go_on.ensures.goes tells capacity committed now shrunk stands) c.go_on.ensures.ended

pub returns-in-Gone-clause-stops : goal.returns-in-Gone-clause-stops
returns-in-Gone-clause-stops g c tells capacity committed now shrunk stands =
    let old = g.G.Ground.outside c.args.base.now in
    let new = g.G.Ground.outside c.go_on.new.base in
    err_more _ _ c.go_on.result
    (λ stopped.
    stops_gone capacity shrunk committed now old c.args.session c.args.handle c.args.table.now new c.in-Gone.id (sym c.close.ensures.answer ∙ c.in-Gone.is)
    (subst (λ (l : List OpenFile). StopsGoing capacity committed now shrunk old l (stage.Closing c.in-Gone.id) new) c.close.ensures.left stopped)) (c.go_on.ensures.stops tells capacity committed now shrunk stands)

pub returns-in-Still-clause-goes : goal.returns-in-Still-clause-goes
returns-in-Still-clause-goes g c tells capacity committed now shrunk stands =
    closed_nothing capacity shrunk committed now (g.G.Ground.outside c.args.base.now) _ (g.G.SectorView.space c.args.base.now) stands c.args.session c.args.handle c.args.table.now (λ id gone. not_gone _ id c.in-Still.is (c.close.ensures.answer ∙ gone))

pub returns-in-NoHandle-clause-goes : goal.returns-in-NoHandle-clause-goes
returns-in-NoHandle-clause-goes g c tells capacity committed now shrunk stands =
    closed_nothing capacity shrunk committed now (g.G.Ground.outside c.args.base.now) _ (g.G.SectorView.space c.args.base.now) stands c.args.session c.args.handle c.args.table.now (λ id gone. none_gone _ id c.in-NoHandle.is (c.close.ensures.answer ∙ gone))
