use Rattle.std.proofs.Common.{[], ◌+◌, ◌*◌, sym, ◌∙◌, arith, ◌/◌, ap}
use Rattle.volume_base.specs.Changing.{HasRoomToUpdate, HasRoomToUpdates, TouchesFolder, catalog_node}
use Rattle.volume_names.specs.Losing.{Hides}
use Rattle.volume_names.proofs.Buried.{private_after, puts_aside, threads_aside}
use Rattle.volume_base.proofs.FoundEntry.{ok_so, ok_true, settled_threads}
use Rattle.volume_names.proofs.EditsLeft.{first_update, left_as, left_edited, node_aside, room_aside, spare_edited, spent_aside, updates_aside}
use Rattle.volume_base.proofs.Framed.{edits_err, edits_spent}
use Rattle.volume_base.proofs.Joined.{edits_both}
use Rattle.volume_names.specs.EditsLeft.{LeavesBehind, LeavesBeside}
use Rattle.volume_names.proofs.losing.hide.Goals as goal

pub set_aside-requires-clause-threads : goal.set_aside-requires-clause-threads
set_aside-requires-clause-threads g c tells = settled_threads c.args.volume.now (g.P.SectorView.space c.args.space.now).content (c.requires.serves.settled tells)

pub set_aside-requires-clause-file : goal.set_aside-requires-clause-file
set_aside-requires-clause-file g c tells = (c.requires.only tells).names

pub set_aside-requires-clause-room : goal.set_aside-requires-clause-room
set_aside-requires-clause-room g c names = room_aside (2 * catalog_node c.args.volume.now) c.args.volume.now (g.P.SectorView.space c.args.space.now) c.requires.left c.requires.size names

pub touch-requires-clause-threads : goal.touch-requires-clause-threads
touch-requires-clause-threads g c tells =
    threads_aside c.args.volume.now (g.P.SectorView.space c.args.space.now) (c.requires.serves.settled (sym c.set_aside.ensures.frame.space.same.tells ∙ tells)) (c.requires.serves.stands.stands (sym c.set_aside.ensures.frame.space.same.tells ∙ tells)) (c.requires.loses (sym c.set_aside.ensures.frame.space.same.tells ∙ tells)).0 (c.requires.loses (sym c.set_aside.ensures.frame.space.same.tells ∙ tells)).1 c.args.at.now (c.requires.loses (sym c.set_aside.ensures.frame.space.same.tells ∙ tells)).2 (c.requires.only (sym c.set_aside.ensures.frame.space.same.tells ∙ tells)) c.args.private c.requires.private c.requires.serves.stands.service.fits.next_catalog_id c.set_aside.new.volume (g.P.SectorView.space c.set_aside.new.space).content
    (puts_aside c.args.volume.now c.set_aside.new.volume (g.P.SectorView.space c.args.space.now) (g.P.SectorView.space c.set_aside.new.space) c.args.private c.args.at.now (c.requires.serves.stands.stands (sym c.set_aside.ensures.frame.space.same.tells ∙ tells)) (sym c.set_aside.ensures.frame.space.same.tells ∙ tells) c.set_aside.ensures.frame c.set_aside.ensures.rest (c.in_ok-set_aside.ensures.edits.ran.stands.stands (c.set_aside.ensures.frame.space.same.tells ∙ (sym c.set_aside.ensures.frame.space.same.tells ∙ tells))) (c.in_ok-set_aside.ensures.moved (sym c.set_aside.ensures.frame.space.same.tells ∙ tells))) (c.in_ok-set_aside.ensures.edits.ran.stands.stands (c.set_aside.ensures.frame.space.same.tells ∙ (sym c.set_aside.ensures.frame.space.same.tells ∙ tells))).trees

pub touch-requires-clause-there : goal.touch-requires-clause-there
touch-requires-clause-there g c tells =
    private_after c.args.volume.now (g.P.SectorView.space c.args.space.now) (c.requires.serves.settled (sym c.set_aside.ensures.frame.space.same.tells ∙ tells)) (c.requires.serves.stands.stands (sym c.set_aside.ensures.frame.space.same.tells ∙ tells)) (c.requires.loses (sym c.set_aside.ensures.frame.space.same.tells ∙ tells)).0 (c.requires.loses (sym c.set_aside.ensures.frame.space.same.tells ∙ tells)).1 c.args.at.now (c.requires.loses (sym c.set_aside.ensures.frame.space.same.tells ∙ tells)).2 (c.requires.only (sym c.set_aside.ensures.frame.space.same.tells ∙ tells)) c.args.private c.requires.private c.requires.serves.stands.service.fits.next_catalog_id c.set_aside.new.volume (g.P.SectorView.space c.set_aside.new.space).content
    (puts_aside c.args.volume.now c.set_aside.new.volume (g.P.SectorView.space c.args.space.now) (g.P.SectorView.space c.set_aside.new.space) c.args.private c.args.at.now (c.requires.serves.stands.stands (sym c.set_aside.ensures.frame.space.same.tells ∙ tells)) (sym c.set_aside.ensures.frame.space.same.tells ∙ tells) c.set_aside.ensures.frame c.set_aside.ensures.rest (c.in_ok-set_aside.ensures.edits.ran.stands.stands (c.set_aside.ensures.frame.space.same.tells ∙ (sym c.set_aside.ensures.frame.space.same.tells ∙ tells))) (c.in_ok-set_aside.ensures.moved (sym c.set_aside.ensures.frame.space.same.tells ∙ tells))) (c.in_ok-set_aside.ensures.edits.ran.stands.stands (c.set_aside.ensures.frame.space.same.tells ∙ (sym c.set_aside.ensures.frame.space.same.tells ∙ tells))).trees

pub returns-clause-hides : goal.returns-clause-hides
returns-clause-hides g c tells =
    ok_so (TouchesFolder c.args.private 1 0 c.set_aside.new.volume c.touch.new.volume (g.P.SectorView.space c.set_aside.new.space).content (g.P.SectorView.space c.touch.new.space).content)
    (Hides c.args.private c.args.at.now c.args.volume.now c.touch.new.volume (g.P.SectorView.space c.args.space.now).content (g.P.SectorView.space c.touch.new.space).content)
    c.touch.result (c.touch.ensures.counts (c.set_aside.ensures.frame.space.same.tells ∙ tells))
    (λ t. record { middle = c.set_aside.new.volume; content = (g.P.SectorView.space c.set_aside.new.space).content; holds = (c.in_ok-set_aside.ensures.edits.ran.stands.stands (c.set_aside.ensures.frame.space.same.tells ∙ tells)).trees; moves = (puts_aside c.args.volume.now c.set_aside.new.volume (g.P.SectorView.space c.args.space.now) (g.P.SectorView.space c.set_aside.new.space) c.args.private c.args.at.now (c.requires.serves.stands.stands (tells)) (tells) c.set_aside.ensures.frame c.set_aside.ensures.rest (c.in_ok-set_aside.ensures.edits.ran.stands.stands (c.set_aside.ensures.frame.space.same.tells ∙ (tells))) (c.in_ok-set_aside.ensures.moved (tells))); gains = t })

pub returns-clause-edits : goal.returns-clause-edits
returns-clause-edits g c =
    edits_spent (edits_both g.met.P.SectorView.follows_trans c.set_aside.ensures.edits c.touch.ensures.edits) (λ tells. omega (arith, spent_aside c.edits_take_their_load.ensures (2 * catalog_node c.args.volume.now) c.args.volume.now c.set_aside.new.volume (g.P.SectorView.space c.args.space.now) (g.P.SectorView.space c.set_aside.new.space) c.requires.left c.requires.size (c.set_aside.ensures.takes []) tells, c.touch.ensures.edits.ran.spent (c.set_aside.ensures.frame.space.same.tells ∙ tells), node_aside (2 * catalog_node c.args.volume.now) c.args.volume.now c.set_aside.new.volume (g.P.SectorView.space c.args.space.now) (g.P.SectorView.space c.set_aside.new.space) c.requires.left c.requires.size (c.set_aside.ensures.takes []) tells))

pub returns-in_err-set_aside-clause-edits : goal.returns-in_err-set_aside-clause-edits
returns-in_err-set_aside-clause-edits g c =
    edits_err c.from_residual.ensures.1 (edits_spent c.in_err-set_aside.ensures.edits (λ tells. omega (arith, spent_aside c.edits_take_their_load.ensures (2 * catalog_node c.args.volume.now) c.args.volume.now c.set_aside.new.volume (g.P.SectorView.space c.args.space.now) (g.P.SectorView.space c.set_aside.new.space) c.requires.left c.requires.size (c.set_aside.ensures.takes []) tells)))

pub returns-clause-size : goal.returns-clause-size
returns-clause-size g c = ok_true c.touch.result (c.touch.ensures.size ∙ c.set_aside.ensures.frame.file.node_size)

pub touch-requires-clause-room : goal.touch-requires-clause-room
touch-requires-clause-room g c = first_update 1 c.set_aside.new.volume (g.P.SectorView.space c.set_aside.new.space) (updates_aside 2 c.args.volume.now c.set_aside.new.volume (g.P.SectorView.space c.args.space.now) (g.P.SectorView.space c.set_aside.new.space) c.requires.size c.set_aside.ensures.frame.space.same.tells c.set_aside.ensures.frame.file.node_size (c.in_ok-set_aside.ensures.takes_edits []) c.requires.left)

pub returns-clause-room : goal.returns-clause-room
returns-clause-room g c =
    ok_so (HasRoomToUpdates 1 c.touch.new.volume (g.P.SectorView.space c.touch.new.space)) (HasRoomToUpdate c.touch.new.volume (g.P.SectorView.space c.touch.new.space)) c.touch.result
    (c.touch.ensures.room 1 (updates_aside 2 c.args.volume.now c.set_aside.new.volume (g.P.SectorView.space c.args.space.now) (g.P.SectorView.space c.set_aside.new.space) c.requires.size c.set_aside.ensures.frame.space.same.tells c.set_aside.ensures.frame.file.node_size (c.in_ok-set_aside.ensures.takes_edits []) c.requires.left))
    (first_update 0 c.touch.new.volume (g.P.SectorView.space c.touch.new.space))

pub returns-clause-leaves : goal.returns-clause-leaves
returns-clause-leaves g c tells beside had =
    omega (arith, spare_edited 3 0 beside c.args.volume.now c.set_aside.new.volume (g.P.SectorView.space c.args.space.now) (g.P.SectorView.space c.set_aside.new.space) (λ told. c.requires.size) (c.set_aside.ensures.takes []) had tells, c.touch.ensures.edits.ran.spent (c.set_aside.ensures.frame.space.same.tells ∙ tells), ap (λ n. n / 512) c.set_aside.ensures.frame.file.node_size)

pub returns-in_err-set_aside-clause-leaves : goal.returns-in_err-set_aside-clause-leaves
returns-in_err-set_aside-clause-leaves g c tells beside had = omega (arith, spare_edited 3 0 beside c.args.volume.now c.set_aside.new.volume (g.P.SectorView.space c.args.space.now) (g.P.SectorView.space c.set_aside.new.space) (λ told. c.requires.size) (c.set_aside.ensures.takes []) had tells)

pub returns-clause-left : goal.returns-clause-left
returns-clause-left g c =
    let v = c.args.volume.now in
    let old = g.P.SectorView.space c.args.space.now in
    let aside = g.P.SectorView.space c.set_aside.new.space in
    let new = g.P.SectorView.space c.touch.new.space in
    let size = c.set_aside.ensures.frame.file.node_size in
    ok_so (LeavesBeside c.set_aside.new.volume aside c.touch.new.volume new) (LeavesBehind 3 1 v old c.touch.new.volume new) c.touch.result c.touch.ensures.left
    (λ left. (
      ap (λ n. n / 512) c.touch.ensures.size ∙ ap (λ n. n / 512) size,
      λ others beside had. left others beside
          (left_as c.set_aside.new.volume aside others _ _ (λ told. omega (arith, ap (λ n. n / 512) size))
          (left_edited 3 others (1 * catalog_node v + beside) v c.set_aside.new.volume old aside (λ told. c.requires.size) c.set_aside.ensures.frame.space.same.tells (c.in_ok-set_aside.ensures.takes_edits []) had)),
    ))
