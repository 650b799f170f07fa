use Rattle.std.proofs.Common.{[], ◌/◌, sym, ◌∙◌, ap, arith}
use Rattle.volume_base.specs.Changing.{TouchesFolder}
use Rattle.volume_names.specs.Moving.{Leaves}
use Rattle.volume_base.proofs.FoundEntry.{ok_so, ok_true, settled_threads}
use Rattle.volume_names.proofs.EditsLeft.{node_aside, room_aside, spare_edited, spent_aside}
use Rattle.volume_names.proofs.Moved.{from_after, goal_free, replaced_move, source_stands, threads_moved}
use Rattle.volume_base.proofs.Framed.{edits_err, edits_spent}
use Rattle.volume_base.proofs.Joined.{edits_both, edits_short}
use Rattle.volume_names.proofs.moving.leave.Goals as goal

pub relocate-requires-clause-threads : goal.relocate-requires-clause-threads
relocate-requires-clause-threads g c tells = settled_threads c.args.volume.now (g.P.SectorView.space c.args.space.now).content (c.requires.serves.settled tells)

pub relocate-requires-clause-room : goal.relocate-requires-clause-room
relocate-requires-clause-room g c names = room_aside 0 c.args.volume.now (g.P.SectorView.space c.args.space.now) c.requires.left c.requires.size names

pub touch-requires-clause-threads : goal.touch-requires-clause-threads
touch-requires-clause-threads g c tells =
    threads_moved c.args.volume.now (g.P.SectorView.space c.args.space.now) (c.requires.serves.settled (sym c.relocate.ensures.frame.space.same.tells ∙ tells)) (c.requires.serves.stands.stands (sym c.relocate.ensures.frame.space.same.tells ∙ tells)) (c.requires.moves (sym c.relocate.ensures.frame.space.same.tells ∙ tells)).0 (c.requires.moves (sym c.relocate.ensures.frame.space.same.tells ∙ tells)).1 (c.requires.moves (sym c.relocate.ensures.frame.space.same.tells ∙ tells)).2 c.args.way.now.parent c.args.old.now c.args.way.now.id c.args.way.now.folder c.args.name.now (c.requires.moves (sym c.relocate.ensures.frame.space.same.tells ∙ tells)).3 c.requires.serves.stands.service.fits.next_catalog_id c.relocate.new.volume (g.P.SectorView.space c.relocate.new.space).content
    (replaced_move c.args.volume.now c.relocate.new.volume (g.P.SectorView.space c.args.space.now) (g.P.SectorView.space c.relocate.new.space) c.args.way.now.parent c.args.old.now c.args.way.now.folder c.args.name.now (c.requires.serves.stands.stands (sym c.relocate.ensures.frame.space.same.tells ∙ tells)) (sym c.relocate.ensures.frame.space.same.tells ∙ tells) c.relocate.ensures.frame c.relocate.ensures.rest (c.in_ok-relocate.ensures.edits.ran.stands.stands (c.relocate.ensures.frame.space.same.tells ∙ (sym c.relocate.ensures.frame.space.same.tells ∙ tells))) (source_stands c.args.volume.now (g.P.SectorView.space c.args.space.now) (c.requires.serves.settled (sym c.relocate.ensures.frame.space.same.tells ∙ tells)) (c.requires.serves.stands.stands (sym c.relocate.ensures.frame.space.same.tells ∙ tells)) (c.requires.moves (sym c.relocate.ensures.frame.space.same.tells ∙ tells)).0 (c.requires.moves (sym c.relocate.ensures.frame.space.same.tells ∙ tells)).1 (c.requires.moves (sym c.relocate.ensures.frame.space.same.tells ∙ tells)).2 c.args.way.now.parent c.args.old.now c.args.way.now.id c.args.way.now.folder c.args.name.now (c.requires.moves (sym c.relocate.ensures.frame.space.same.tells ∙ tells)).3 c.requires.serves.stands.service.fits.next_catalog_id) (goal_free c.args.volume.now (g.P.SectorView.space c.args.space.now) (c.requires.serves.settled (sym c.relocate.ensures.frame.space.same.tells ∙ tells)) (c.requires.serves.stands.stands (sym c.relocate.ensures.frame.space.same.tells ∙ tells)) (c.requires.moves (sym c.relocate.ensures.frame.space.same.tells ∙ tells)).0 (c.requires.moves (sym c.relocate.ensures.frame.space.same.tells ∙ tells)).1 (c.requires.moves (sym c.relocate.ensures.frame.space.same.tells ∙ tells)).2 c.args.way.now.parent c.args.old.now c.args.way.now.id c.args.way.now.folder c.args.name.now (c.requires.moves (sym c.relocate.ensures.frame.space.same.tells ∙ tells)).3 c.requires.serves.stands.service.fits.next_catalog_id) c.in_ok-relocate.field-0 (c.in_ok-relocate.ensures.answer (sym c.relocate.ensures.frame.space.same.tells ∙ tells)) (c.in_ok-relocate.ensures.moved (sym c.relocate.ensures.frame.space.same.tells ∙ tells))) (c.in_ok-relocate.ensures.edits.ran.stands.stands (c.relocate.ensures.frame.space.same.tells ∙ (sym c.relocate.ensures.frame.space.same.tells ∙ tells))).trees

pub touch-requires-clause-there : goal.touch-requires-clause-there
touch-requires-clause-there g c tells =
    from_after c.args.volume.now (g.P.SectorView.space c.args.space.now) (c.requires.serves.settled (sym c.relocate.ensures.frame.space.same.tells ∙ tells)) (c.requires.serves.stands.stands (sym c.relocate.ensures.frame.space.same.tells ∙ tells)) (c.requires.moves (sym c.relocate.ensures.frame.space.same.tells ∙ tells)).0 (c.requires.moves (sym c.relocate.ensures.frame.space.same.tells ∙ tells)).1 (c.requires.moves (sym c.relocate.ensures.frame.space.same.tells ∙ tells)).2 c.args.way.now.parent c.args.old.now c.args.way.now.id c.args.way.now.folder c.args.name.now (c.requires.moves (sym c.relocate.ensures.frame.space.same.tells ∙ tells)).3 c.requires.serves.stands.service.fits.next_catalog_id c.relocate.new.volume (g.P.SectorView.space c.relocate.new.space).content
    (replaced_move c.args.volume.now c.relocate.new.volume (g.P.SectorView.space c.args.space.now) (g.P.SectorView.space c.relocate.new.space) c.args.way.now.parent c.args.old.now c.args.way.now.folder c.args.name.now (c.requires.serves.stands.stands (sym c.relocate.ensures.frame.space.same.tells ∙ tells)) (sym c.relocate.ensures.frame.space.same.tells ∙ tells) c.relocate.ensures.frame c.relocate.ensures.rest (c.in_ok-relocate.ensures.edits.ran.stands.stands (c.relocate.ensures.frame.space.same.tells ∙ (sym c.relocate.ensures.frame.space.same.tells ∙ tells))) (source_stands c.args.volume.now (g.P.SectorView.space c.args.space.now) (c.requires.serves.settled (sym c.relocate.ensures.frame.space.same.tells ∙ tells)) (c.requires.serves.stands.stands (sym c.relocate.ensures.frame.space.same.tells ∙ tells)) (c.requires.moves (sym c.relocate.ensures.frame.space.same.tells ∙ tells)).0 (c.requires.moves (sym c.relocate.ensures.frame.space.same.tells ∙ tells)).1 (c.requires.moves (sym c.relocate.ensures.frame.space.same.tells ∙ tells)).2 c.args.way.now.parent c.args.old.now c.args.way.now.id c.args.way.now.folder c.args.name.now (c.requires.moves (sym c.relocate.ensures.frame.space.same.tells ∙ tells)).3 c.requires.serves.stands.service.fits.next_catalog_id) (goal_free c.args.volume.now (g.P.SectorView.space c.args.space.now) (c.requires.serves.settled (sym c.relocate.ensures.frame.space.same.tells ∙ tells)) (c.requires.serves.stands.stands (sym c.relocate.ensures.frame.space.same.tells ∙ tells)) (c.requires.moves (sym c.relocate.ensures.frame.space.same.tells ∙ tells)).0 (c.requires.moves (sym c.relocate.ensures.frame.space.same.tells ∙ tells)).1 (c.requires.moves (sym c.relocate.ensures.frame.space.same.tells ∙ tells)).2 c.args.way.now.parent c.args.old.now c.args.way.now.id c.args.way.now.folder c.args.name.now (c.requires.moves (sym c.relocate.ensures.frame.space.same.tells ∙ tells)).3 c.requires.serves.stands.service.fits.next_catalog_id) c.in_ok-relocate.field-0 (c.in_ok-relocate.ensures.answer (sym c.relocate.ensures.frame.space.same.tells ∙ tells)) (c.in_ok-relocate.ensures.moved (sym c.relocate.ensures.frame.space.same.tells ∙ tells))) (c.in_ok-relocate.ensures.edits.ran.stands.stands (c.relocate.ensures.frame.space.same.tells ∙ (sym c.relocate.ensures.frame.space.same.tells ∙ tells))).trees

pub returns-clause-leaves : goal.returns-clause-leaves
returns-clause-leaves g c tells =
    ok_so (TouchesFolder c.args.way.now.parent 0 1 c.relocate.new.volume c.touch.new.self (g.P.SectorView.space c.relocate.new.space).content (g.P.SectorView.space c.touch.new.space).content)
    (Leaves c.args.way.now.parent c.args.old.now c.args.way.now.folder c.args.name.now c.args.volume.now c.touch.new.self (g.P.SectorView.space c.args.space.now).content (g.P.SectorView.space c.touch.new.space).content)
    c.touch.result (c.touch.ensures.counts (c.relocate.ensures.frame.space.same.tells ∙ tells))
    (λ t. record { middle = c.relocate.new.volume; content = (g.P.SectorView.space c.relocate.new.space).content; holds = (c.in_ok-relocate.ensures.edits.ran.stands.stands (c.relocate.ensures.frame.space.same.tells ∙ tells)).trees; moves = (replaced_move c.args.volume.now c.relocate.new.volume (g.P.SectorView.space c.args.space.now) (g.P.SectorView.space c.relocate.new.space) c.args.way.now.parent c.args.old.now c.args.way.now.folder c.args.name.now (c.requires.serves.stands.stands tells) tells c.relocate.ensures.frame c.relocate.ensures.rest (c.in_ok-relocate.ensures.edits.ran.stands.stands (c.relocate.ensures.frame.space.same.tells ∙ tells)) (source_stands c.args.volume.now (g.P.SectorView.space c.args.space.now) (c.requires.serves.settled tells) (c.requires.serves.stands.stands tells) (c.requires.moves tells).0 (c.requires.moves tells).1 (c.requires.moves tells).2 c.args.way.now.parent c.args.old.now c.args.way.now.id c.args.way.now.folder c.args.name.now (c.requires.moves tells).3 c.requires.serves.stands.service.fits.next_catalog_id) (goal_free c.args.volume.now (g.P.SectorView.space c.args.space.now) (c.requires.serves.settled tells) (c.requires.serves.stands.stands tells) (c.requires.moves tells).0 (c.requires.moves tells).1 (c.requires.moves tells).2 c.args.way.now.parent c.args.old.now c.args.way.now.id c.args.way.now.folder c.args.name.now (c.requires.moves tells).3 c.requires.serves.stands.service.fits.next_catalog_id) c.in_ok-relocate.field-0 (c.in_ok-relocate.ensures.answer tells) (c.in_ok-relocate.ensures.moved tells)); loses = t })

pub returns-clause-edits : goal.returns-clause-edits
returns-clause-edits g c =
    edits_spent (edits_both g.met.P.SectorView.follows_trans c.relocate.ensures.edits c.touch.ensures.edits) (λ tells. omega (arith, spent_aside c.edits_take_their_load.ensures 0 c.args.volume.now c.relocate.new.volume (g.P.SectorView.space c.args.space.now) (g.P.SectorView.space c.relocate.new.space) c.requires.left c.requires.size (c.relocate.ensures.takes []) tells, c.touch.ensures.edits.ran.spent (c.relocate.ensures.frame.space.same.tells ∙ tells), node_aside 0 c.args.volume.now c.relocate.new.volume (g.P.SectorView.space c.args.space.now) (g.P.SectorView.space c.relocate.new.space) c.requires.left c.requires.size (c.relocate.ensures.takes []) tells))

pub returns-in_err-relocate-clause-edits : goal.returns-in_err-relocate-clause-edits
returns-in_err-relocate-clause-edits g c =
    edits_err c.from_residual.ensures.1 (edits_spent c.in_err-relocate.ensures.edits (λ tells. omega (arith, spent_aside c.edits_take_their_load.ensures 0 c.args.volume.now c.relocate.new.volume (g.P.SectorView.space c.args.space.now) (g.P.SectorView.space c.relocate.new.space) c.requires.left c.requires.size (c.relocate.ensures.takes []) tells)))

pub returns-clause-size : goal.returns-clause-size
returns-clause-size g c = ok_true c.touch.result (c.touch.ensures.size ∙ c.relocate.ensures.frame.file.node_size)

pub touch-requires-clause-room : goal.touch-requires-clause-room
touch-requires-clause-room g c = c.fits_update.ensures.room c.if-not-fits_update.false

pub returns-then-not-fits_update-clause-edits : goal.returns-then-not-fits_update-clause-edits
returns-then-not-fits_update-clause-edits g c =
    edits_short (edits_spent c.in_ok-relocate.ensures.edits (λ tells. omega (arith, spent_aside c.edits_take_their_load.ensures 0 c.args.volume.now c.relocate.new.volume (g.P.SectorView.space c.args.space.now) (g.P.SectorView.space c.relocate.new.space) c.requires.left c.requires.size (c.relocate.ensures.takes []) tells)))

pub returns-clause-beside : goal.returns-clause-beside
returns-clause-beside g c tells beside had = omega (arith, spare_edited 3 0 beside c.args.volume.now c.relocate.new.volume (g.P.SectorView.space c.args.space.now) (g.P.SectorView.space c.relocate.new.space) (λ told. c.requires.size) (c.relocate.ensures.takes []) had tells, c.touch.ensures.edits.ran.spent (c.relocate.ensures.frame.space.same.tells ∙ tells), ap (λ n. n / 512) c.relocate.ensures.frame.file.node_size)

pub returns-in_err-relocate-clause-beside : goal.returns-in_err-relocate-clause-beside
returns-in_err-relocate-clause-beside g c tells beside had = omega (arith, spare_edited 3 0 beside c.args.volume.now c.relocate.new.volume (g.P.SectorView.space c.args.space.now) (g.P.SectorView.space c.relocate.new.space) (λ told. c.requires.size) (c.relocate.ensures.takes []) had tells)

pub returns-then-not-fits_update-clause-beside : goal.returns-then-not-fits_update-clause-beside
returns-then-not-fits_update-clause-beside g c tells beside had = omega (arith, spare_edited 3 0 beside c.args.volume.now c.relocate.new.volume (g.P.SectorView.space c.args.space.now) (g.P.SectorView.space c.relocate.new.space) (λ told. c.requires.size) (c.relocate.ensures.takes []) had tells)
