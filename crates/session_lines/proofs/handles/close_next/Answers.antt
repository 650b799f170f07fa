use Rattle.std.proofs.Common.{List, sym, ◌∙◌, subst}
use Rattle.hfs_serving.proofs.Going.{on_err}
use Rattle.open_files.specs.declared.act.OpenFile.{OpenFile}
use Rattle.session_lines.specs.Closings.{ClosedSome}
use Rattle.session_lines.proofs.Closed.{closed_first, closed_none, stops_first}
use Rattle.session_lines.proofs.handles.close_next.Goals as goal

pub returns-in_err-close_handle-in-Some-clause-stops : goal.returns-in_err-close_handle-in-Some-clause-stops
returns-in_err-close_handle-in-Some-clause-stops g c tells capacity committed now shrunk stands =
    on_err c.from_residual.result
    (stops_first capacity shrunk committed now (g.G.Ground.outside c.args.base.now) c.args.session c.in-Some.handle c.args.table.now c.first.ensures.order (sym c.first.ensures.first ∙ c.in-Some.is) (g.G.Ground.outside c.close_handle.new.base)
    (c.in_err-close_handle-in-Some.ensures.stops tells capacity committed now shrunk stands))

pub returns-in_ok-close_handle-in-Some-clause-goes : goal.returns-in_ok-close_handle-in-Some-clause-goes
returns-in_ok-close_handle-in-Some-clause-goes g c tells capacity committed now shrunk stands =
    let old = g.G.Ground.outside c.args.base.now in
    let space = g.G.SectorView.space c.close_handle.new.base in
    let new = g.G.Ground.outside c.close_handle.new.base in
    let knows = g.V.Volume.knows c.close_handle.new.volume space capacity in
    subst (λ (l : List OpenFile). ClosedSome c.args.session c.args.table.now capacity knows committed now shrunk old l space new) (sym c.close_handle.ensures.open)
    (closed_first capacity shrunk committed now old c.args.session c.in-Some.handle c.args.table.now c.first.ensures.order (sym c.first.ensures.first ∙ c.in-Some.is) knows space new (c.in_ok-close_handle-in-Some.ensures.goes tells capacity committed now shrunk stands))

pub returns-in-None-clause-goes : goal.returns-in-None-clause-goes
returns-in-None-clause-goes g c tells capacity committed now shrunk stands =
    closed_none capacity shrunk committed now (g.G.Ground.outside c.args.base.now) _ (g.G.SectorView.space c.args.base.now) stands c.args.session c.args.table.now
