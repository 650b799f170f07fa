use Rattle.std.proofs.Common.{sym, subst}
use Rattle.hfsx_server.specs.Telling.{Tells, open_text}
use Rattle.hfs_serving.specs.declared.opening.OpenRefusal.TheVariants as opening
use Rattle.hfsx_server.proofs.Telling.{tells_all}
use Rattle.hfsx_server.proofs.refusal.tell_open.Goals as goal

pub returns-in-Header : goal.returns-in-Header
returns-in-Header g c =
    let old = g.R.SectorDisk.state c.args.rig.now in
    let new = g.R.SectorDisk.state c.tell_header.new.rig in
    subst (λ why. Tells old new (open_text why)) (sym c.in-Header.is) (tells_all c.tell_header.result old new (open_text (opening.Header c.in-Header.why)) c.tell_header.ensures)

pub returns-in-SoftwareLocked : goal.returns-in-SoftwareLocked
returns-in-SoftwareLocked g c =
    let old = g.R.SectorDisk.state c.args.rig.now in
    let new = g.R.SectorDisk.state c.tell_refused.new.rig in
    subst (λ why. Tells old new (open_text why)) (sym c.in-SoftwareLocked.is) (tells_all c.tell_refused.result old new (open_text opening.SoftwareLocked) c.tell_refused.ensures)

pub returns-in-Journal : goal.returns-in-Journal
returns-in-Journal g c =
    let old = g.R.SectorDisk.state c.args.rig.now in
    let new = g.R.SectorDisk.state c.tell_journal.new.rig in
    subst (λ why. Tells old new (open_text why)) (sym c.in-Journal.is) (tells_all c.tell_journal.result old new (open_text (opening.Journal c.in-Journal.why)) c.tell_journal.ensures)

pub returns-in-JournalTooSmall : goal.returns-in-JournalTooSmall
returns-in-JournalTooSmall g c =
    let old = g.R.SectorDisk.state c.args.rig.now in
    let new = g.R.SectorDisk.state c.tell_refused-in-JournalTooSmall.new.rig in
    subst (λ why. Tells old new (open_text why)) (sym c.in-JournalTooSmall.is) (tells_all c.tell_refused-in-JournalTooSmall.result old new (open_text (opening.JournalTooSmall c.in-JournalTooSmall.need c.in-JournalTooSmall.has)) c.tell_refused-in-JournalTooSmall.ensures)
