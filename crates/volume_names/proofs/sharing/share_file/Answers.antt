use Rattle.std.proofs.Common.{[], ◌*◌, sym, ◌∙◌, ap, arith}
use Rattle.btree_file.specs.Standing.{numbers_of}
use Rattle.volume_base.specs.Changing.{catalog_node}
use Rattle.volume_base.specs.declared.volume.Volume.{Volume}
use Rattle.volume_base.proofs.TakenOff.{threads_drawn}
use Rattle.volume_names.proofs.Shared.{files_fit, shares_file}
use Rattle.volume_names.proofs.EditsLeft.{left_behind_header, left_edited, room_left, spare_edited}
use Rattle.volume_base.proofs.Framed.{edits_err, edits_ok, edits_spent}
use Rattle.volume_base.proofs.Joined.{edits_both, edits_header}
use Rattle.volume_names.proofs.sharing.share_file.Goals as goal

pub relocate-requires-clause-size : goal.relocate-requires-clause-size
relocate-requires-clause-size g c = omega (arith, c.requires.size, ap (λ (x : Volume). (numbers_of x.catalog.file).node_size) c.draw_two.ensures.rest)

pub relocate-requires-clause-threads : goal.relocate-requires-clause-threads
relocate-requires-clause-threads g c tells =
    let before = sym c.draw_two.ensures.within.same.tells ∙ tells in
    threads_drawn c.args.volume.now c.draw_two.new.volume (g.P.SectorView.space c.args.space.now) (g.P.SectorView.space c.draw_two.new.space) c.draw_two.ensures.rest (c.draw_two.ensures.put (sym c.draw_two.ensures.within.same.tells ∙ tells)) (c.requires.serves.settled (sym c.draw_two.ensures.within.same.tells ∙ tells))

pub returns-clause-edits : goal.returns-clause-edits
returns-clause-edits g c =
    edits_ok (edits_spent (edits_both g.met.P.SectorView.follows_trans (edits_header c.draw_two.ensures.below c.draw_two.ensures.stands c.draw_two.ensures.rest c.draw_two.ensures.within c.draw_two.ensures.spent c.draw_two.ensures.faults) c.in_ok-relocate.ensures.edits) (λ tells. omega arith))

pub returns-in_err-relocate-clause-edits : goal.returns-in_err-relocate-clause-edits
returns-in_err-relocate-clause-edits g c =
    edits_err c.from_residual.ensures.1 (edits_spent (edits_both g.met.P.SectorView.follows_trans (edits_header c.draw_two.ensures.below c.draw_two.ensures.stands c.draw_two.ensures.rest c.draw_two.ensures.within c.draw_two.ensures.spent c.draw_two.ensures.faults) c.in_err-relocate.ensures.edits) (λ tells. omega arith))

pub returns-clause-size : goal.returns-clause-size
returns-clause-size g c = c.relocate.ensures.frame.file.node_size ∙ ap (λ (x : Volume). (numbers_of x.catalog.file).node_size) c.draw_two.ensures.rest

pub draw_two-requires-clause-some : goal.draw_two-requires-clause-some
draw_two-requires-clause-some g c = c.requires.room.some

pub returns-clause-shares : goal.returns-clause-shares
returns-clause-shares g c tells =
    let later = c.draw_two.ensures.within.same.tells ∙ tells in
    shares_file c.args.volume.now c.draw_two.new.volume (g.P.SectorView.space c.args.space.now) (g.P.SectorView.space c.draw_two.new.space) c.draw_two.ensures.rest (c.draw_two.ensures.put tells) c.relocate.new.volume (g.P.SectorView.space c.relocate.new.space)
    (c.draw_two.ensures.stands.stands (c.draw_two.ensures.within.same.tells ∙ tells)) (c.draw_two.ensures.within.same.tells ∙ tells) (c.in_ok-relocate.ensures.edits.ran.stands.stands (c.relocate.ensures.frame.space.same.tells ∙ c.draw_two.ensures.within.same.tells ∙ tells)) c.relocate.ensures.frame c.relocate.ensures.rest
    c.args.parent c.args.old.now c.args.private c.args.number c.args.node.now c.in_ok-relocate.field-0 c.requires.node (c.draw_two.ensures.header (c.requires.room.ids tells) (files_fit c.args.volume.now (g.P.SectorView.space c.args.space.now).content (c.requires.serves.settled tells) (c.requires.room.ids tells)))
    (c.requires.there tells) (c.requires.free tells) (c.in_ok-relocate.ensures.answer (c.draw_two.ensures.within.same.tells ∙ tells)) (c.in_ok-relocate.ensures.moved (c.draw_two.ensures.within.same.tells ∙ tells))

pub relocate-requires-clause-room : goal.relocate-requires-clause-room
relocate-requires-clause-room g c =
    room_left 3 4 (3 * catalog_node c.args.volume.now) c.draw_two.new.volume (g.P.SectorView.space c.draw_two.new.space)
    (left_behind_header (3 * catalog_node c.args.volume.now) c.args.volume.now c.draw_two.new.volume (g.P.SectorView.space c.args.space.now) (g.P.SectorView.space c.draw_two.new.space) c.requires.room.left c.requires.size c.requires.serves.stands.stands c.draw_two.ensures.within c.draw_two.ensures.spent (ap (λ (x : Volume). x.catalog) c.draw_two.ensures.rest))
    (λ tells. omega (arith, c.requires.size, ap (λ (x : Volume). (numbers_of x.catalog.file).node_size) c.draw_two.ensures.rest))

pub returns-clause-left : goal.returns-clause-left
returns-clause-left g c =
    left_edited 3 4 (3 * catalog_node c.args.volume.now) c.draw_two.new.volume c.relocate.new.volume (g.P.SectorView.space c.draw_two.new.space) (g.P.SectorView.space c.relocate.new.space) (λ tells. omega (arith, c.requires.size, ap (λ (x : Volume). (numbers_of x.catalog.file).node_size) c.draw_two.ensures.rest)) c.relocate.ensures.frame.space.same.tells (c.in_ok-relocate.ensures.takes_edits [])
    (left_behind_header (3 * catalog_node c.args.volume.now) c.args.volume.now c.draw_two.new.volume (g.P.SectorView.space c.args.space.now) (g.P.SectorView.space c.draw_two.new.space) c.requires.room.left c.requires.size c.requires.serves.stands.stands c.draw_two.ensures.within c.draw_two.ensures.spent (ap (λ (x : Volume). x.catalog) c.draw_two.ensures.rest))

pub returns-clause-leaves : goal.returns-clause-leaves
returns-clause-leaves g c beside had =
    left_edited 3 4 beside c.draw_two.new.volume c.relocate.new.volume (g.P.SectorView.space c.draw_two.new.space) (g.P.SectorView.space c.relocate.new.space) (λ tells. omega (arith, c.requires.size, ap (λ (x : Volume). (numbers_of x.catalog.file).node_size) c.draw_two.ensures.rest)) c.relocate.ensures.frame.space.same.tells (c.in_ok-relocate.ensures.takes_edits [])
    (left_behind_header beside c.args.volume.now c.draw_two.new.volume (g.P.SectorView.space c.args.space.now) (g.P.SectorView.space c.draw_two.new.space) had c.requires.size c.requires.serves.stands.stands c.draw_two.ensures.within c.draw_two.ensures.spent (ap (λ (x : Volume). x.catalog) c.draw_two.ensures.rest))

pub returns-clause-beside : goal.returns-clause-beside
returns-clause-beside g c beside had tells =
    spare_edited 3 4 beside c.draw_two.new.volume c.relocate.new.volume (g.P.SectorView.space c.draw_two.new.space) (g.P.SectorView.space c.relocate.new.space) (λ tells. omega (arith, c.requires.size, ap (λ (x : Volume). (numbers_of x.catalog.file).node_size) c.draw_two.ensures.rest)) (c.relocate.ensures.takes [])
    (left_behind_header beside c.args.volume.now c.draw_two.new.volume (g.P.SectorView.space c.args.space.now) (g.P.SectorView.space c.draw_two.new.space) had c.requires.size c.requires.serves.stands.stands c.draw_two.ensures.within c.draw_two.ensures.spent (ap (λ (x : Volume). x.catalog) c.draw_two.ensures.rest)) (c.draw_two.ensures.within.same.tells ∙ tells)

pub returns-in_err-relocate-clause-beside : goal.returns-in_err-relocate-clause-beside
returns-in_err-relocate-clause-beside g c beside had tells =
    spare_edited 3 4 beside c.draw_two.new.volume c.relocate.new.volume (g.P.SectorView.space c.draw_two.new.space) (g.P.SectorView.space c.relocate.new.space) (λ tells. omega (arith, c.requires.size, ap (λ (x : Volume). (numbers_of x.catalog.file).node_size) c.draw_two.ensures.rest)) (c.relocate.ensures.takes [])
    (left_behind_header beside c.args.volume.now c.draw_two.new.volume (g.P.SectorView.space c.args.space.now) (g.P.SectorView.space c.draw_two.new.space) had c.requires.size c.requires.serves.stands.stands c.draw_two.ensures.within c.draw_two.ensures.spent (ap (λ (x : Volume). x.catalog) c.draw_two.ensures.rest)) (c.draw_two.ensures.within.same.tells ∙ tells)
