use Rattle.std.proofs.Common.{◌≡◌, ◌∙◌, ◌<◌, IsTrue, length, take, drop, sym, ap, subst, arith}
use Rattle.sector_disk.specs.Lists.{sector, Content}
use Rattle.file_rig.specs.Place as specs
use Rattle.file_rig.specs.Place.{over}
use Rattle.file_rig.proofs.Runs.{read_alone}
use Rattle.file_rig.proofs.store.Store.read.Goals as goal

pub returns-clause-value : goal.returns-clause-value
returns-clause-value g c tells =
    let held = (g.P.Place.state c.self.inside.place).held in
    let run = c.self.inside.gathered in
    let was : IsTrue (g.P.Place.state c.self.inside.place).tells = subst IsTrue (sym (ap (λ (s : specs.Store). s.tells) c.self.view_is)) tells in
    let sound = c.self.invariant was in
    let shown : over run held ≡ c.args.self.now.shown = ap (λ (s : specs.Store). s.shown) c.self.view_is in
    let sectors : c.self.inside.sectors ≡ c.args.self.now.sectors = ap (λ (s : specs.Store). s.sectors) c.self.view_is in
    let same : g.P.Place.state c.read_on.new.place ≡ g.P.Place.state c.self.inside.place = c.read_on.ensures.same in
    let still : IsTrue (g.P.Place.state c.read_on.new.place).tells = subst (λ (s : specs.Place). IsTrue s.tells) (sym same) was in
    let read : c.read_run.new.into ≡ take 1 (drop c.args.at held) = c.in_ok-read_run.ensures.read still ∙ ap (λ (s : specs.Place). take 1 (drop c.args.at s.held)) same in
    let inside : c.args.at < length held = omega (arith, c.requires, sectors, sound.0) in
    read_alone run held c.read_run.new.into c.args.at sound.1.within inside c.in_default.ensures read ∙ ap (λ (l : Content). sector l c.args.at) shown
