use Rattle.std.proofs.Common.{◌/◌, sym, ◌∙◌, ap, arith, []}
use Rattle.volume_base.specs.Changing.{TouchesFolder}
use Rattle.volume_base.specs.Keeping.{shrunk_of}
use Rattle.volume_space.specs.Orphans.{DropsWaiting}
use Rattle.volume_base.specs.Standing.{IsSettled, StandsOver}
use Rattle.volume_base.proofs.FoundEntry.{ok_both}
use Rattle.volume_space.proofs.Unfiled.{folder_unfiled, threads_unfiled, unfiled}
use Rattle.volume_base.proofs.Framed.{edits_err, edits_spent}
use Rattle.volume_base.proofs.Joined.{edits_both}
use Rattle.volume_space.proofs.unfiling.drop_waiting.Goals as goal

pub touch-requires-clause-threads : goal.touch-requires-clause-threads
touch-requires-clause-threads g c tells =
    let before = sym (c.take_out.ensures.edits.ran.touches (g.P.SectorView.space c.args.space.now).content).same.tells ∙ tells in
    threads_unfiled c.args.volume.now (g.P.SectorView.space c.args.space.now) (c.requires.serves.stands.stands before) (c.requires.serves.settled before) (shrunk_of c.args.volume.now) c.args.entry.now (c.requires.waits before) c.soundness_has_two_halves.ensures c.header_may_change.ensures c.take_out.new.volume (g.P.SectorView.space c.take_out.new.space) (c.in_ok-take_out.ensures.drops before)

pub touch-requires-clause-there : goal.touch-requires-clause-there
touch-requires-clause-there g c tells =
    let before = sym (c.take_out.ensures.edits.ran.touches (g.P.SectorView.space c.args.space.now).content).same.tells ∙ tells in
    folder_unfiled c.args.volume.now (g.P.SectorView.space c.args.space.now) (c.requires.serves.stands.stands before) (c.requires.serves.settled before) (shrunk_of c.args.volume.now) c.args.entry.now (c.requires.waits before) c.soundness_has_two_halves.ensures c.header_may_change.ensures c.take_out.new.volume (g.P.SectorView.space c.take_out.new.space) (c.in_ok-take_out.ensures.drops before)
    c.requires.serves.stands.service.fits.next_catalog_id

pub returns-clause-does : goal.returns-clause-does
returns-clause-does g c tells =
    let later = (c.take_out.ensures.edits.ran.touches (g.P.SectorView.space c.args.space.now).content).same.tells ∙ tells in
    let last = (c.touch.ensures.edits.ran.touches (g.P.SectorView.space c.args.space.now).content).same.tells ∙ later in
    ok_both (StandsOver c.touch.new.self (g.P.SectorView.space c.touch.new.space)) (TouchesFolder c.args.entry.now.parent 0 1 c.take_out.new.volume c.touch.new.self (g.P.SectorView.space c.take_out.new.space).content (g.P.SectorView.space c.touch.new.space).content)
    (IsSettled c.touch.new.self (g.P.SectorView.space c.touch.new.space).content × DropsWaiting (shrunk_of c.args.volume.now) (g.P.SectorView.space c.args.space.now).content (g.P.SectorView.space c.touch.new.space).content)
    c.touch.result c.touch.ensures.edits.ran.stands (c.touch.ensures.counts later)
    (λ stands t.
    unfiled c.args.volume.now (g.P.SectorView.space c.args.space.now) (c.requires.serves.stands.stands tells) (c.requires.serves.settled tells) (shrunk_of c.args.volume.now) c.args.entry.now (c.requires.waits tells) c.soundness_has_two_halves.ensures c.header_may_change.ensures c.take_out.new.volume (g.P.SectorView.space c.take_out.new.space) (c.in_ok-take_out.ensures.drops tells)
    c.touch.new.self (g.P.SectorView.space c.touch.new.space) (stands.stands last) t c.reclaim_drops_an_entry.ensures)

pub returns-clause-edits : goal.returns-clause-edits
returns-clause-edits g c = edits_spent (edits_both g.met.P.SectorView.follows_trans c.in_ok-take_out.ensures.edits c.touch.ensures.edits)
    (λ tells.
    let later = (c.take_out.ensures.edits.ran.touches []).same.tells ∙ tells in
    omega (arith, c.take_out.ensures.edits.ran.spent tells, c.touch.ensures.edits.ran.spent later, ap (λ n. n / 512) (c.in_ok-take_out.ensures.drops tells).changes.nodes.1))

pub returns-in_err-take_out-clause-edits : goal.returns-in_err-take_out-clause-edits
returns-in_err-take_out-clause-edits g c = edits_err c.from_residual.ensures.1 (edits_spent c.in_err-take_out.ensures.edits (λ tells. omega (arith, c.take_out.ensures.edits.ran.spent tells)))
