use Rattle.std.proofs.Common.{ℕ, List, get_or, sym, ap}
use Rattle.fsck_repair.specs.Overlay.{overlaid}
use Rattle.hfsx_server.proofs.Checked.{judges_of}
use Rattle.hfsx_server.proofs.repairing.check_through.Goals as goal

pub returns-clause-judged : goal.returns-clause-judged
returns-clause-judged g c tells =
    let bytes = c.requires.bytes tells in
    judges_of (overlaid c.args.mend.now.changes.items (g.V.SectorView.space c.args.view.now).content) c.check.result (c.check.ensures.sound tells bytes) (c.check.ensures.counted tells bytes) (c.check.ensures.some tells bytes) (c.check.ensures.broken tells bytes) (c.check.ensures.each_rule tells bytes)
    (λ early. c.check.ensures.listed tells bytes early)

pub returns-clause-below : goal.returns-clause-below
returns-clause-below g c =
    let view_is = c.view-1.given.1 (sym (ap (λ (l : List ℕ). get_or l 0 0) c.check.ensures.reads.same.names)) in
    rw view_is c.check.ensures.below.below
