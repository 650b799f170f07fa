use Rattle.std.proofs.Common.{◌≡◌, ◌*◌, ◌∷◌, [], ℕ, List, true, false, length, refl, sym, ◌∙◌, subst, arith}
use Rattle.std.specs.Prelude.{◌^◌, ◌==◌}
use Rattle.std.proofs.lemmas.Bool.{eqb-true}
use Rattle.hfs_serving.specs.Going.{line_if}
use Rattle.hfs_serving.specs.Speaking.{SpeaksLine, StopsSpeaking}
use Rattle.hfs_serving.proofs.Batches.{goes_none, stops_there}
use Rattle.hfs_serving.proofs.Caused.{causes_more, no_commit}
use Rattle.hfs_serving.proofs.Hearing.{err_then}
use Rattle.hfs_serving.proofs.Speeches.{stops_unspoken}
use Rattle.hfs_serving.proofs.Tries.{if_ok}
use Rattle.session_lines.specs.Turns.{BrokenSessions, spoke_with}
use Rattle.session_lines.proofs.sessions.SessionsSpeaker.serve_line.Goals as goal

pub returns-then-not-is_empty-clause-stops : goal.returns-then-not-is_empty-clause-stops
returns-then-not-is_empty-clause-stops g c tells capacity committed now shrunk stands =
    let old = g.G.Ground.outside c.args.base.now in
    let space = g.G.SectorView.space c.args.base.now in
    let from = spoke_with c.args.self.now.table c.args.self.now.left.items in
    let nothing = goes_none capacity shrunk committed now old space stands.below stands.reads stands.leaves in
    let stopped = stops_there capacity shrunk committed now old [] committed now space old nothing in
    (false, stops_unspoken capacity shrunk committed now old old c.args.number from BrokenSessions (λ start all spoke. spoke.spoken) (record { more = []; plain = tt; asked = refl; stops = stopped }))

-- nothing is left where no file is
none_left : (files : List ℕ) → (length files == 0) ≡ true → files ≡ []
none_left [] is = refl
none_left (file ∷ files) is = absurd (omega (arith, eqb-true (length (file ∷ files)) 0 is))

pub returns-clause-goes : goal.returns-clause-goes
returns-clause-goes g c tells capacity committed now shrunk stands =
    let same = c.as_slice.ensures.value in
    let told_empty = c.is_empty.ensures in
    let is_empty = c.if-not-is_empty.false in
    let none : c.args.self.now.left.items ≡ [] = none_left c.args.self.now.left.items cc in
    let space = g.G.SectorView.space c.serve.new.base in
    if_ok _ _ c.serve.result
    (λ served speaks.
    subst (λ (l : List ℕ). SpeaksLine served capacity (g.V.Volume.knows c.serve.new.volume space capacity) committed now shrunk (g.G.Ground.outside c.args.base.now) c.args.number (spoke_with c.args.self.now.table l) (spoke_with c.serve.new.table l) c.args.line.now c.args.told.now c.serve.new.told space (g.G.Ground.outside c.serve.new.base)) (sym none) speaks)
    (c.serve.ensures.goes tells capacity committed now shrunk stands)

pub returns-clause-stops : goal.returns-clause-stops
returns-clause-stops g c tells capacity committed now shrunk stands =
    let same = c.as_slice.ensures.value in
    let told_empty = c.is_empty.ensures in
    let is_empty = c.if-not-is_empty.false in
    let none : c.args.self.now.left.items ≡ [] = none_left c.args.self.now.left.items cc in
    err_then c.serve.result
    (λ stopped.
    (stopped.0, subst (λ (l : List ℕ). StopsSpeaking capacity committed now shrunk (g.G.Ground.outside c.args.base.now) c.args.number (spoke_with c.args.self.now.table l) BrokenSessions (line_if stopped.0 c.args.line.now) (g.G.Ground.outside c.serve.new.base)) (sym none) stopped.1))
    (c.serve.ensures.stops tells capacity committed now shrunk stands)

pub returns-clause-caused : goal.returns-clause-caused
returns-clause-caused g c tells = causes_more _ 37008 (144 * 2 ^ 32) _ _ (c.serve.ensures.caused tells) (omega arith)

pub returns-then-not-is_empty-clause-caused : goal.returns-then-not-is_empty-clause-caused
returns-then-not-is_empty-clause-caused g c tells = no_commit _ (144 * 2 ^ 32) _ _ (omega arith)
