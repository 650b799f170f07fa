use Rattle.std.proofs.Common.{◌≡◌, ℕ, sym, subst, rules, codes, [], ◌∷◌}
use Rattle.hfsx_server.specs.Telling.{Telling, journal_text, refused_text}
use Rattle.hfsx_server.proofs.refusal.tell_journal.Goals as goal

pub returns-in-BadInfo : goal.returns-in-BadInfo
returns-in-BadInfo g c =
    let old = g.R.SectorDisk.state c.args.rig.now in
    let new = g.R.SectorDisk.state c.tell_refused.new.rig in
    let number_0 : c.from.result ≡ c.in-BadInfo.offset = search rules in
    subst (λ why. Telling old new (journal_text why) c.tell_refused.result) (sym c.in-BadInfo.is) (subst (λ (n : ℕ). Telling old new (refused_text (codes "BadInfo") (n ∷ [])) c.tell_refused.result) number_0 c.tell_refused.ensures)

pub returns-in-OtherDevice : goal.returns-in-OtherDevice
returns-in-OtherDevice g c =
    let old = g.R.SectorDisk.state c.args.rig.now in
    let new = g.R.SectorDisk.state c.tell_refused-in-OtherDevice.new.rig in
    subst (λ why. Telling old new (journal_text why) c.tell_refused-in-OtherDevice.result) (sym c.in-OtherDevice.is) c.tell_refused-in-OtherDevice.ensures

pub returns-in-BadHeader : goal.returns-in-BadHeader
returns-in-BadHeader g c =
    let old = g.R.SectorDisk.state c.args.rig.now in
    let new = g.R.SectorDisk.state c.tell_refused-in-BadHeader.new.rig in
    let number_0 : c.from-in-BadHeader.result ≡ c.in-BadHeader.offset = search rules in
    subst (λ why. Telling old new (journal_text why) c.tell_refused-in-BadHeader.result) (sym c.in-BadHeader.is) (subst (λ (n : ℕ). Telling old new (refused_text (codes "BadHeader") (n ∷ [])) c.tell_refused-in-BadHeader.result) number_0 c.tell_refused-in-BadHeader.ensures)

pub returns-in-BadList : goal.returns-in-BadList
returns-in-BadList g c =
    let old = g.R.SectorDisk.state c.args.rig.now in
    let new = g.R.SectorDisk.state c.tell_refused-in-BadList.new.rig in
    subst (λ why. Telling old new (journal_text why) c.tell_refused-in-BadList.result) (sym c.in-BadList.is) c.tell_refused-in-BadList.ensures

pub returns-in-ForeignJournal : goal.returns-in-ForeignJournal
returns-in-ForeignJournal g c =
    let old = g.R.SectorDisk.state c.args.rig.now in
    let new = g.R.SectorDisk.state c.tell_refused-in-ForeignJournal.new.rig in
    let number_0 : c.from-in-ForeignJournal.result ≡ c.in-ForeignJournal.version = search rules in
    subst (λ why. Telling old new (journal_text why) c.tell_refused-in-ForeignJournal.result) (sym c.in-ForeignJournal.is) (subst (λ (n : ℕ). Telling old new (refused_text (codes "ForeignJournal") (n ∷ [])) c.tell_refused-in-ForeignJournal.result) number_0 c.tell_refused-in-ForeignJournal.ensures)
