use Rattle.std.proofs.Common.{⊎_elim, [], inr, refl, ◌∙◌, subst, arith}
use Rattle.std.specs.Prelude.{None, Some, IsTrue}
use Rattle.hfs_language.specs.declared.refusal.Refusal.TheVariants as refusal
use Rattle.hfs_language.specs.declared.reply.Reply.TheVariants as reply
use Rattle.hfs_serving.proofs.Tries.{if_ok, line_does, line_serves, refused_does}
use Rattle.hfs_serving.proofs.Going.{memory_stops_tidy, on_err, rested_any}
use Rattle.hfs_serving.proofs.Caused.{causes_more, causes_wider, commits_on, not_first}
use Rattle.hfs_serving.proofs.lines.serve_line.Goals as goal

pub serve_command-requires-clause-rests : goal.serve_command-requires-clause-rests
serve_command-requires-clause-rests g c tells_there =
    let tells = subst (λ t. IsTrue t) c.in_ok-come_to_rest.ensures.tells tells_there in
    let there = c.requires.stands tells in
    (there.0, there.1, there.2, there.3, c.args.base.now, None, c.args.line.now, c.in-Ok.ensures.asked, c.in_ok-come_to_rest.ensures.rests tells there.0 there.1 there.2 there.3 there.4)

pub returns-in-Ok-clause-goes : goal.returns-in-Ok-clause-goes
returns-in-Ok-clause-goes g c tells capacity committed now shrunk stands =
    let old = g.G.Ground.outside c.args.base.now in
    let space = g.G.SectorView.space c.come_to_rest.new.base in
    let mid = g.G.Ground.outside c.come_to_rest.new.base in
    let knows = g.V.Volume.knows c.come_to_rest.new.volume space capacity in
    let line = c.args.line.now in
    let rests = c.in_ok-come_to_rest.ensures.rests tells capacity committed now shrunk stands in
    let tells_there = c.in_ok-come_to_rest.ensures.tells ∙ tells in
    let new = g.G.SectorView.space c.serve_command.new.base in
    let after = g.G.Ground.outside c.serve_command.new.base in
    let knows_new = g.V.Volume.knows c.serve_command.new.volume new capacity in
    if_ok _ _ c.serve_command.result (λ answered serves. line_serves capacity shrunk committed now old knows_new c.args.number line c.args.told.now c.serve_command.new.heard new after answered serves)
    (c.serve_command.ensures.goes tells_there capacity committed now shrunk c.args.base.now None line c.in-Ok.ensures.asked rests)

pub returns-in-Ok-clause-stops : goal.returns-in-Ok-clause-stops
returns-in-Ok-clause-stops g c tells capacity committed now shrunk stands =
    let old = g.G.Ground.outside c.args.base.now in
    let space = g.G.SectorView.space c.come_to_rest.new.base in
    let mid = g.G.Ground.outside c.come_to_rest.new.base in
    let knows = g.V.Volume.knows c.come_to_rest.new.volume space capacity in
    let line = c.args.line.now in
    let rests = c.in_ok-come_to_rest.ensures.rests tells capacity committed now shrunk stands in
    let tells_there = c.in_ok-come_to_rest.ensures.tells ∙ tells in
    c.serve_command.ensures.stops tells_there capacity committed now shrunk c.args.base.now None line c.in-Ok.ensures.asked rests

pub returns-in_err-refuse-in-Err-clause-stops : goal.returns-in_err-refuse-in-Err-clause-stops
returns-in_err-refuse-in-Err-clause-stops g c tells capacity committed now shrunk stands =
    let old = g.G.Ground.outside c.args.base.now in
    let space = g.G.SectorView.space c.come_to_rest.new.base in
    let mid = g.G.Ground.outside c.come_to_rest.new.base in
    let knows = g.V.Volume.knows c.come_to_rest.new.volume space capacity in
    let line = c.args.line.now in
    let rests = c.in_ok-come_to_rest.ensures.rests tells capacity committed now shrunk stands in
    let tells_there = c.in_ok-come_to_rest.ensures.tells ∙ tells in
    on_err c.from_residual-in_err-refuse-in-Err.result (memory_stops_tidy capacity shrunk committed now old knows space mid rests.tidy)

pub returns-in_ok-refuse-in-Err-clause-goes : goal.returns-in_ok-refuse-in-Err-clause-goes
returns-in_ok-refuse-in-Err-clause-goes g c tells capacity committed now shrunk stands =
    let old = g.G.Ground.outside c.args.base.now in
    let space = g.G.SectorView.space c.come_to_rest.new.base in
    let mid = g.G.Ground.outside c.come_to_rest.new.base in
    let knows = g.V.Volume.knows c.come_to_rest.new.volume space capacity in
    let line = c.args.line.now in
    let rests = c.in_ok-come_to_rest.ensures.rests tells capacity committed now shrunk stands in
    let tells_there = c.in_ok-come_to_rest.ensures.tells ∙ tells in
    let own = rested_any capacity shrunk committed now old _ knows space mid rests in
    let sound = (c.recall-standing.ensures tells_there capacity own.tidy.last own.tidy.next shrunk own.tidy.known).sound in
    ⊎_elim
    (λ heard. line_does capacity shrunk committed now old knows c.args.number line c.args.told.now c.refuse.new.heard space mid (reply.No c.in-Err.why) [] heard
    (refused_does capacity shrunk committed now old knows space mid line own c.args.number c.in-Err.why sound c.in-Err.ensures.refused))
    (λ heard. line_does capacity shrunk committed now old knows c.args.number line c.args.told.now c.refuse.new.heard space mid (reply.No refusal.OutOfMemory) [] heard
    (refused_does capacity shrunk committed now old knows space mid line own c.args.number refusal.OutOfMemory sound (inr refl))) c.in_ok-refuse-in-Err.ensures

pub returns-in-Ok-clause-caused : goal.returns-in-Ok-clause-caused
returns-in-Ok-clause-caused g c tells =
    let tells_there = c.in_ok-come_to_rest.ensures.tells ∙ tells in
    commits_on _ 8 1 9 _ _ _ _ (c.come_to_rest.ensures.caused tells) (omega arith) (causes_wider _ _ _ _ _ (λ passed wanted. (Some c.in-Ok.asked, wanted)) (c.serve_command.ensures.caused tells_there)) (omega arith)

pub returns-in-Ok-clause-left : goal.returns-in-Ok-clause-left
returns-in-Ok-clause-left g c tells =
    if_ok _ _ c.serve_command.result
    (λ answered left is. let it = left is in (not_first c.args.first it.0, record { asked = c.in-Ok.asked; is_of = c.in-Ok.ensures.asked; passed = _; wanted = it.1 }))
    (c.serve_command.ensures.left (c.in_ok-come_to_rest.ensures.tells ∙ tells))

pub returns-in_ok-refuse-in-Err-clause-caused : goal.returns-in_ok-refuse-in-Err-clause-caused
returns-in_ok-refuse-in-Err-clause-caused g c tells = causes_more _ 8 9 _ _ (c.come_to_rest.ensures.caused tells) (omega arith)

pub returns-in_ok-refuse-in-Err-clause-left : goal.returns-in_ok-refuse-in-Err-clause-left
returns-in_ok-refuse-in-Err-clause-left g c tells is = absurd (cc is)

pub returns-in_err-come_to_rest-clause-stops : goal.returns-in_err-come_to_rest-clause-stops
returns-in_err-come_to_rest-clause-stops g c tells capacity committed now shrunk stands = on_err c.from_residual.result (c.in_err-come_to_rest.ensures.stops tells capacity committed now shrunk stands)

pub returns-in_err-come_to_rest-clause-caused : goal.returns-in_err-come_to_rest-clause-caused
returns-in_err-come_to_rest-clause-caused g c tells = causes_more _ 8 9 _ _ (c.come_to_rest.ensures.caused tells) (omega arith)

pub returns-in_err-refuse-in-Err-clause-caused : goal.returns-in_err-refuse-in-Err-clause-caused
returns-in_err-refuse-in-Err-clause-caused g c tells = causes_more _ 8 9 _ _ (c.come_to_rest.ensures.caused tells) (omega arith)
