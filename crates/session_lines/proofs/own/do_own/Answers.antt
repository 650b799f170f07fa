use Rattle.std.proofs.Common.{◌∙◌, [], refl, subst, arith}
use Rattle.std.specs.Prelude.{Some, IsTrue}
use Rattle.hfs_serving.proofs.Caused.{causes_more, causes_wider, commits_on}
use Rattle.hfs_serving.proofs.Going.{on_err}
use Rattle.hfs_serving.proofs.Tries.{if_ok}
use Rattle.session_lines.proofs.Stretches.{own_command}
use Rattle.session_lines.proofs.own.do_own.Goals as goal

pub serve_command-requires-clause-rests : goal.serve_command-requires-clause-rests
serve_command-requires-clause-rests g c tells_there =
    let tells = subst (λ t. IsTrue t) c.in_ok-come_to_rest.ensures.tells tells_there in
    let there = c.requires.stands tells in
    (there.0, there.1, there.2, there.3, c.args.base.now, Some c.args.asked.now, [], refl, c.in_ok-come_to_rest.ensures.rests tells there.0 there.1 there.2 there.3 there.4)

pub returns-clause-goes : goal.returns-clause-goes
returns-clause-goes g c tells capacity committed now shrunk stands =
    let rests = c.in_ok-come_to_rest.ensures.rests tells capacity committed now shrunk stands in
    let old = g.G.Ground.outside c.args.base.now in
    let space = g.G.SectorView.space c.serve_command.new.base in
    let mid = g.G.Ground.outside c.serve_command.new.base in
    let knows = g.V.Volume.knows c.serve_command.new.volume space capacity in
    if_ok _ _ c.serve_command.result
    (λ answered serves. own_command capacity shrunk committed now old knows c.args.number (Some c.args.asked.now) [] c.args.asked.now c.args.told.now c.serve_command.new.heard space mid refl answered serves)
    (c.serve_command.ensures.goes (c.in_ok-come_to_rest.ensures.tells ∙ tells) capacity committed now shrunk c.args.base.now (Some c.args.asked.now) [] refl rests)

pub returns-clause-stops : goal.returns-clause-stops
returns-clause-stops g c tells capacity committed now shrunk stands =
    let rests = c.in_ok-come_to_rest.ensures.rests tells capacity committed now shrunk stands in
    c.serve_command.ensures.stops (c.in_ok-come_to_rest.ensures.tells ∙ tells) capacity committed now shrunk c.args.base.now (Some c.args.asked.now) [] refl rests

pub returns-clause-caused : goal.returns-clause-caused
returns-clause-caused g c tells =
    let made = c.serve_command.ensures.caused (c.in_ok-come_to_rest.ensures.tells ∙ tells) in
    commits_on _ 8 1 9 _ _ _ _ (c.in_ok-come_to_rest.ensures.caused tells) (omega arith) (causes_wider _ _ _ _ _ (λ passed wanted. (Some c.args.asked.now, wanted)) made) (omega arith)

pub returns-clause-left : goal.returns-clause-left
returns-clause-left g c tells = if_ok _ _ c.serve_command.result (λ answered left is. let it = left is in (it.0, _, it.1)) (c.serve_command.ensures.left (c.in_ok-come_to_rest.ensures.tells ∙ tells))

pub returns-in_err-come_to_rest-clause-stops : goal.returns-in_err-come_to_rest-clause-stops
returns-in_err-come_to_rest-clause-stops g c tells capacity committed now shrunk stands = on_err c.from_residual.result (c.in_err-come_to_rest.ensures.stops tells capacity committed now shrunk stands)

pub returns-in_err-come_to_rest-clause-caused : goal.returns-in_err-come_to_rest-clause-caused
returns-in_err-come_to_rest-clause-caused g c tells = causes_more _ 8 9 _ _ (c.in_err-come_to_rest.ensures.caused tells) (omega arith)
