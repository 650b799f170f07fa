use Rattle.std.proofs.Common.{◌≡◌, ℕ, sym, subst, rules, codes, [], ◌∷◌}
use Rattle.hfsx_server.specs.Telling.{Telling, header_text, refused_text}
use Rattle.hfsx_server.proofs.refusal.tell_header.Goals as goal

pub returns-in-LimitSectors : goal.returns-in-LimitSectors
returns-in-LimitSectors g c =
    let old = g.R.SectorDisk.state c.args.rig.now in
    let new = g.R.SectorDisk.state c.tell_refused.new.rig in
    subst (λ why. Telling old new (header_text why) c.tell_refused.result) (sym c.in-LimitSectors.is) c.tell_refused.ensures

pub returns-in-NotHfsx : goal.returns-in-NotHfsx
returns-in-NotHfsx g c =
    let old = g.R.SectorDisk.state c.args.rig.now in
    let new = g.R.SectorDisk.state c.tell_refused-in-NotHfsx.new.rig in
    let number_0 : c.from.result ≡ c.in-NotHfsx.signature = search rules in
    let number_1 : c.from-in-NotHfsx.result ≡ c.in-NotHfsx.version = search rules in
    subst (λ why. Telling old new (header_text why) c.tell_refused-in-NotHfsx.result) (sym c.in-NotHfsx.is) (subst (λ (n : ℕ). Telling old new (refused_text (codes "NotHfsx") (c.in-NotHfsx.signature ∷ n ∷ [])) c.tell_refused-in-NotHfsx.result) number_1 (subst (λ (n : ℕ). Telling old new (refused_text (codes "NotHfsx") (n ∷ c.from-in-NotHfsx.result ∷ [])) c.tell_refused-in-NotHfsx.result) number_0 c.tell_refused-in-NotHfsx.ensures))

pub returns-in-BadGeometry : goal.returns-in-BadGeometry
returns-in-BadGeometry g c =
    let old = g.R.SectorDisk.state c.args.rig.now in
    let new = g.R.SectorDisk.state c.tell_refused-in-BadGeometry.new.rig in
    let number_0 : c.from-in-BadGeometry.result ≡ c.in-BadGeometry.offset = search rules in
    subst (λ why. Telling old new (header_text why) c.tell_refused-in-BadGeometry.result) (sym c.in-BadGeometry.is) (subst (λ (n : ℕ). Telling old new (refused_text (codes "BadGeometry") (n ∷ [])) c.tell_refused-in-BadGeometry.result) number_0 c.tell_refused-in-BadGeometry.ensures)

pub returns-in-NotJournaled : goal.returns-in-NotJournaled
returns-in-NotJournaled g c =
    let old = g.R.SectorDisk.state c.args.rig.now in
    let new = g.R.SectorDisk.state c.tell_refused-in-NotJournaled.new.rig in
    subst (λ why. Telling old new (header_text why) c.tell_refused-in-NotJournaled.result) (sym c.in-NotJournaled.is) c.tell_refused-in-NotJournaled.ensures

pub returns-in-IdsReused : goal.returns-in-IdsReused
returns-in-IdsReused g c =
    let old = g.R.SectorDisk.state c.args.rig.now in
    let new = g.R.SectorDisk.state c.tell_refused-in-IdsReused.new.rig in
    subst (λ why. Telling old new (header_text why) c.tell_refused-in-IdsReused.result) (sym c.in-IdsReused.is) c.tell_refused-in-IdsReused.ensures
