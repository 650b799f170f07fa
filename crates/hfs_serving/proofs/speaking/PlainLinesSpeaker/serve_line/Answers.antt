use Rattle.std.proofs.Common.{false}
use Rattle.hfs_serving.specs.Plain.{spoke_plainly}
use Rattle.hfs_serving.proofs.Hearing.{err_then}
use Rattle.hfs_serving.proofs.Speeches.{stops_unspoken}
use Rattle.hfs_serving.proofs.Spelling.{plain_line}
use Rattle.hfs_serving.proofs.Tries.{if_ok}
use Rattle.hfs_serving.proofs.speaking.PlainLinesSpeaker.serve_line.Goals as goal

pub returns-clause-goes : goal.returns-clause-goes
returns-clause-goes g c tells capacity committed now shrunk stands =
    let new = g.G.SectorView.space c.serve_line.new.base in
    if_ok _ _ c.serve_line.result
    (λ served serves. plain_line capacity (g.V.Volume.knows c.serve_line.new.volume new capacity) committed now shrunk (g.G.Ground.outside c.args.base.now) c.args.number new (g.G.Ground.outside c.serve_line.new.base) c.args.line.now c.args.told.now c.serve_line.new.told served serves)
    (c.serve_line.ensures.goes tells capacity committed now shrunk stands)

pub returns-clause-stops : goal.returns-clause-stops
returns-clause-stops g c tells capacity committed now shrunk stands =
    err_then c.serve_line.result
    (λ stopped. (false, stops_unspoken capacity shrunk committed now (g.G.Ground.outside c.args.base.now) (g.G.Ground.outside c.serve_line.new.base) c.args.number spoke_plainly spoke_plainly (λ start speech plain. plain) stopped))
    (c.serve_line.ensures.stops tells capacity committed now shrunk stands)
