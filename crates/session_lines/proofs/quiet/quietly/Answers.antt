use Rattle.std.proofs.Common.{[], refl, sym, ◌∙◌, subst, arith}
use Rattle.std.specs.Prelude.{Some, IsTrue}
use Rattle.hfs_language.specs.declared.reply.Reply.{Reply}
use Rattle.hfs_volume.specs.declared.asked.Asked.TheVariants.{Plain}
use Rattle.hfs_serving.proofs.Caused.{causes_more, causes_wider, commits_on}
use Rattle.hfs_serving.proofs.Going.{memory_stops_tidy, on_err}
use Rattle.session_lines.specs.Doing.{DidOn}
use Rattle.session_lines.proofs.Stretches.{answered_command, did_command, left_command}
use Rattle.session_lines.proofs.quiet.quietly.Goals as goal

pub serve_command-requires-clause-rests : goal.serve_command-requires-clause-rests
serve_command-requires-clause-rests g c tells_there =
    let tells = subst (λ t. IsTrue t) c.in_ok-come_to_rest.ensures.tells tells_there in
    let there = c.requires.stands tells in
    (there.0, there.1, there.2, there.3, c.args.base.now, Some (Plain c.args.command), [], refl, c.in_ok-come_to_rest.ensures.rests tells there.0 there.1 there.2 there.3 there.4)

pub returns-then-not-branch-clause-stops : goal.returns-then-not-branch-clause-stops
returns-then-not-branch-clause-stops g c tells capacity committed now shrunk stands =
    let rests = c.in_ok-come_to_rest.ensures.rests tells capacity committed now shrunk stands in
    let serves = c.in_ok-serve_command.ensures.goes (c.in_ok-come_to_rest.ensures.tells ∙ tells) capacity committed now shrunk c.args.base.now (Some (Plain c.args.command)) [] refl rests in
    let space = g.G.SectorView.space c.serve_command.new.base in
    let mid = g.G.Ground.outside c.serve_command.new.base in
    memory_stops_tidy capacity shrunk committed now (g.G.Ground.outside c.args.base.now) (g.V.Volume.knows c.serve_command.new.volume space capacity) space mid
    (left_command capacity shrunk committed now (g.G.Ground.outside c.args.base.now) (g.V.Volume.knows c.serve_command.new.volume space capacity) c.args.number (Some (Plain c.args.command)) [] _ _ space mid c.in_ok-serve_command.field-0 c.if-not-branch.true serves)

pub returns-clause-goes : goal.returns-clause-goes
returns-clause-goes g c tells capacity committed now shrunk stands =
    let rests = c.in_ok-come_to_rest.ensures.rests tells capacity committed now shrunk stands in
    let serves = c.in_ok-serve_command.ensures.goes (c.in_ok-come_to_rest.ensures.tells ∙ tells) capacity committed now shrunk c.args.base.now (Some (Plain c.args.command)) [] refl rests in
    let old = g.G.Ground.outside c.args.base.now in
    let space = g.G.SectorView.space c.serve_command.new.base in
    let mid = g.G.Ground.outside c.serve_command.new.base in
    let knows = g.V.Volume.knows c.serve_command.new.volume space capacity in
    let did = answered_command capacity shrunk committed now old knows c.args.number (Some (Plain c.args.command)) [] _ _ space mid c.in_ok-serve_command.field-0 c.if-not-branch.false serves in
    subst (λ (r : Reply). DidOn capacity knows committed now shrunk old (Plain c.args.command) r space mid) (sym (c.into_reply.ensures did.0 did.2))
    (did_command capacity shrunk committed now old knows c.args.number (Some (Plain c.args.command)) [] (Plain c.args.command) did.0 did.1 space mid refl did.3)

pub returns-clause-caused : goal.returns-clause-caused
returns-clause-caused g c tells =
    let there = c.in_ok-serve_command.ensures.caused (c.in_ok-come_to_rest.ensures.tells ∙ tells) in
    commits_on _ 8 1 9 _ _ _ _ (c.in_ok-come_to_rest.ensures.caused tells) (omega arith) (causes_wider _ _ _ _ _ (λ passed wanted. (Some (Plain c.args.command), wanted)) there) (omega arith)

pub returns-in_err-come_to_rest-clause-caused : goal.returns-in_err-come_to_rest-clause-caused
returns-in_err-come_to_rest-clause-caused g c tells = causes_more _ 8 9 _ _ (c.in_err-come_to_rest.ensures.caused tells) (omega arith)

pub returns-in_err-serve_command-clause-caused : goal.returns-in_err-serve_command-clause-caused
returns-in_err-serve_command-clause-caused g c tells =
    let there = c.in_err-serve_command.ensures.caused (c.in_ok-come_to_rest.ensures.tells ∙ tells) in
    commits_on _ 8 1 9 _ _ _ _ (c.in_ok-come_to_rest.ensures.caused tells) (omega arith) (causes_wider _ _ _ _ _ (λ passed wanted. (Some (Plain c.args.command), wanted)) there) (omega arith)

pub returns-then-not-branch-clause-caused : goal.returns-then-not-branch-clause-caused
returns-then-not-branch-clause-caused g c tells =
    let there = c.in_ok-serve_command.ensures.caused (c.in_ok-come_to_rest.ensures.tells ∙ tells) in
    commits_on _ 8 1 9 _ _ _ _ (c.in_ok-come_to_rest.ensures.caused tells) (omega arith) (causes_wider _ _ _ _ _ (λ passed wanted. (Some (Plain c.args.command), wanted)) there) (omega arith)

pub returns-in_err-serve_command-clause-stops : goal.returns-in_err-serve_command-clause-stops
returns-in_err-serve_command-clause-stops g c tells capacity committed now shrunk stands =
    let rests = c.in_ok-come_to_rest.ensures.rests tells capacity committed now shrunk stands in
    on_err c.from_residual-in_err-serve_command.result
    (c.in_err-serve_command.ensures.stops (c.in_ok-come_to_rest.ensures.tells ∙ tells) capacity committed now shrunk c.args.base.now (Some (Plain c.args.command)) [] refl rests)
