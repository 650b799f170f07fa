use Rattle.std.proofs.Common.{[], sym, ◌∙◌, ap, subst, arith}
use Rattle.btree_edit.specs.Edits.{EditRoom, TakesAtMost, TakesEdits}
use Rattle.btree_edit.proofs.EditLaws.{room_then}
use Rattle.btree_file.specs.Standing.{numbers_of}
use Rattle.btree_file.specs.State.{state_of}
use Rattle.volume_base.specs.Lists.{lists_of}
use Rattle.volume_base.specs.declared.volume.Tree.{Tree}
use Rattle.volume_base.specs.declared.volume.Volume.{Volume}
use Rattle.volume_base.proofs.RoomToRemove.{room_behind_removal, room_to_remove, spent_removal}
use Rattle.volume_base.proofs.TakenOff.{threads_drawn}
use Rattle.volume_names.proofs.DroppedOne.{same_then}
use Rattle.volume_names.proofs.LastRoom.{room_to_unlink}
use Rattle.volume_names.proofs.Unlinked.{drops_name, link_there}
use Rattle.volume_names.proofs.EditsLeft.{left_added, spare_added}
use Rattle.volume_base.proofs.Framed.{edits_err, edits_ok, edits_spent}
use Rattle.volume_base.proofs.Joined.{edits_both, edits_header}
use Rattle.volume_names.proofs.unlinking.drop_name.Goals as goal

pub remove-requires-clause-size : goal.remove-requires-clause-size
remove-requires-clause-size g c = omega (arith, c.requires.size, ap (λ (x : Volume). (numbers_of x.catalog.file).node_size) c.count_file_off.ensures.rest)

pub remove-requires-clause-threads : goal.remove-requires-clause-threads
remove-requires-clause-threads g c tells =
    let before = sym c.count_file_off.ensures.within.same.tells ∙ tells in
    threads_drawn c.args.volume.now c.count_file_off.new.self (g.P.SectorView.space c.args.space.now) (g.P.SectorView.space c.count_file_off.new.space) c.count_file_off.ensures.rest (c.count_file_off.ensures.put (sym c.count_file_off.ensures.within.same.tells ∙ tells)) (c.requires.serves.settled (sym c.count_file_off.ensures.within.same.tells ∙ tells))

pub remove-requires-clause-room : goal.remove-requires-clause-room
remove-requires-clause-room g c names tells =
    subst (λ (t : Tree). EditRoom 2 516 (state_of names t.file (g.P.SectorView.space c.count_file_off.new.space))) (sym (ap (λ (x : Volume). x.catalog) c.count_file_off.ensures.rest))
    (room_to_remove c.edits_have_room.ensures c.args.volume.now (g.P.SectorView.space c.args.space.now) (g.P.SectorView.space c.count_file_off.new.space) c.requires.room c.requires.size c.count_file_off.ensures.within.same.tells c.count_file_off.ensures.spent names tells)

pub returns-clause-drops : goal.returns-clause-drops
returns-clause-drops g c tells =
    let later = c.count_file_off.ensures.within.same.tells ∙ tells in
    drops_name c.args.volume.now c.count_file_off.new.self (g.P.SectorView.space c.args.space.now) (g.P.SectorView.space c.count_file_off.new.space) c.count_file_off.ensures.rest (c.count_file_off.ensures.put tells) c.remove.new.self (g.P.SectorView.space c.remove.new.space)
    (c.count_file_off.ensures.stands.stands (c.count_file_off.ensures.within.same.tells ∙ tells)) (c.count_file_off.ensures.within.same.tells ∙ tells) (c.in_ok-remove.ensures.edits.ran.stands.stands (c.remove.ensures.frame.space.same.tells ∙ c.count_file_off.ensures.within.same.tells ∙ tells)) c.remove.ensures.frame c.remove.ensures.rest
    c.args.at.now.parent c.args.at.now.name c.in_ok-remove.field-0 c.count_file_off.ensures.header
    (λ none. link_there (lists_of c.args.volume.now (g.P.SectorView.space c.args.space.now).content).catalog_pairs c.args.at.now (c.requires.link tells) none)
    (c.in_ok-remove.ensures.answer (c.count_file_off.ensures.within.same.tells ∙ tells)) (c.in_ok-remove.ensures.removed (c.count_file_off.ensures.within.same.tells ∙ tells))

pub returns-clause-room : goal.returns-clause-room
returns-clause-room g c =
    room_behind_removal c.edits_have_room.ensures c.edits_take_their_load.ensures c.args.volume.now c.remove.new.self (g.P.SectorView.space c.args.space.now) (g.P.SectorView.space c.count_file_off.new.space) (g.P.SectorView.space c.remove.new.space) c.requires.room c.requires.size
    c.count_file_off.ensures.within.same.tells c.count_file_off.ensures.spent
    (subst (λ (t : Tree). TakesAtMost 2 516 (state_of [] t.file (g.P.SectorView.space c.count_file_off.new.space)) (state_of [] c.remove.new.self.catalog.file (g.P.SectorView.space c.remove.new.space))) (ap (λ (x : Volume). x.catalog) c.count_file_off.ensures.rest) (c.remove.ensures.takes []))
    c.remove.ensures.frame.space.same.tells

pub returns-clause-edits : goal.returns-clause-edits
returns-clause-edits g c =
    edits_ok (edits_spent (edits_both g.met.P.SectorView.follows_trans (edits_header c.count_file_off.ensures.below c.count_file_off.ensures.stands c.count_file_off.ensures.rest c.count_file_off.ensures.within c.count_file_off.ensures.spent c.count_file_off.ensures.faults) c.in_ok-remove.ensures.edits) (λ tells. spent_removal c.edits_have_room.ensures c.edits_take_their_load.ensures c.args.volume.now c.remove.new.self (g.P.SectorView.space c.args.space.now) (g.P.SectorView.space c.count_file_off.new.space) (g.P.SectorView.space c.remove.new.space) c.requires.room c.requires.size
    c.count_file_off.ensures.within.same.tells c.count_file_off.ensures.spent
    (subst (λ (t : Tree). TakesAtMost 2 516 (state_of [] t.file (g.P.SectorView.space c.count_file_off.new.space)) (state_of [] c.remove.new.self.catalog.file (g.P.SectorView.space c.remove.new.space))) (ap (λ (x : Volume). x.catalog) c.count_file_off.ensures.rest) (c.remove.ensures.takes [])) tells))

pub returns-in_err-remove-clause-edits : goal.returns-in_err-remove-clause-edits
returns-in_err-remove-clause-edits g c =
    edits_err c.from_residual.ensures.1 (edits_spent (edits_both g.met.P.SectorView.follows_trans (edits_header c.count_file_off.ensures.below c.count_file_off.ensures.stands c.count_file_off.ensures.rest c.count_file_off.ensures.within c.count_file_off.ensures.spent c.count_file_off.ensures.faults) c.in_err-remove.ensures.edits) (λ tells. spent_removal c.edits_have_room.ensures c.edits_take_their_load.ensures c.args.volume.now c.remove.new.self (g.P.SectorView.space c.args.space.now) (g.P.SectorView.space c.count_file_off.new.space) (g.P.SectorView.space c.remove.new.space) c.requires.room c.requires.size
    c.count_file_off.ensures.within.same.tells c.count_file_off.ensures.spent
    (subst (λ (t : Tree). TakesAtMost 2 516 (state_of [] t.file (g.P.SectorView.space c.count_file_off.new.space)) (state_of [] c.remove.new.self.catalog.file (g.P.SectorView.space c.remove.new.space))) (ap (λ (x : Volume). x.catalog) c.count_file_off.ensures.rest) (c.remove.ensures.takes [])) tells))

pub returns-clause-more : goal.returns-clause-more
returns-clause-more g c room names =
    room_then 2 3 516 (state_of names c.count_file_off.new.self.catalog.file (g.P.SectorView.space c.count_file_off.new.space)) (state_of names c.remove.new.self.catalog.file (g.P.SectorView.space c.remove.new.space))
    (same_then c.count_file_off.new.self.catalog.file c.remove.new.self.catalog.file (g.P.SectorView.space c.count_file_off.new.space) (g.P.SectorView.space c.remove.new.space) c.remove.ensures.frame names) (c.in_ok-remove.ensures.takes_edits names)
    (λ tells. subst (λ (t : Tree). EditRoom 5 516 (state_of names t.file (g.P.SectorView.space c.count_file_off.new.space))) (sym (ap (λ (x : Volume). x.catalog) c.count_file_off.ensures.rest))
    (room_to_unlink c.edits_have_room.ensures c.args.volume.now (g.P.SectorView.space c.args.space.now) (g.P.SectorView.space c.count_file_off.new.space) room c.requires.size c.count_file_off.ensures.within.same.tells c.count_file_off.ensures.spent names tells))

pub returns-clause-size : goal.returns-clause-size
returns-clause-size g c = c.remove.ensures.frame.file.node_size ∙ ap (λ (x : Volume). (numbers_of x.catalog.file).node_size) c.count_file_off.ensures.rest

pub returns-clause-leaves : goal.returns-clause-leaves
returns-clause-leaves g c edits beside load =
    left_added c.edits_have_room.ensures c.args.volume.now c.remove.new.self (g.P.SectorView.space c.args.space.now) (g.P.SectorView.space c.count_file_off.new.space) (g.P.SectorView.space c.remove.new.space) edits beside c.requires.size c.count_file_off.ensures.within.same.tells c.remove.ensures.frame.space.same.tells c.count_file_off.ensures.spent
    (subst (λ (t : Tree). TakesEdits 2 516 (state_of [] t.file (g.P.SectorView.space c.count_file_off.new.space)) (state_of [] c.remove.new.self.catalog.file (g.P.SectorView.space c.remove.new.space))) (ap (λ (x : Volume). x.catalog) c.count_file_off.ensures.rest) (c.in_ok-remove.ensures.takes_edits [])) load

pub returns-clause-beside : goal.returns-clause-beside
returns-clause-beside g c edits beside load tells =
    spare_added c.edits_have_room.ensures c.args.volume.now c.remove.new.self (g.P.SectorView.space c.args.space.now) (g.P.SectorView.space c.count_file_off.new.space) (g.P.SectorView.space c.remove.new.space) edits beside c.requires.size c.count_file_off.ensures.within.same.tells c.count_file_off.ensures.spent
    (subst (λ (t : Tree). TakesAtMost 2 516 (state_of [] t.file (g.P.SectorView.space c.count_file_off.new.space)) (state_of [] c.remove.new.self.catalog.file (g.P.SectorView.space c.remove.new.space))) (ap (λ (x : Volume). x.catalog) c.count_file_off.ensures.rest) (c.remove.ensures.takes []))
    load tells

pub returns-in_err-remove-clause-beside : goal.returns-in_err-remove-clause-beside
returns-in_err-remove-clause-beside g c edits beside load tells =
    spare_added c.edits_have_room.ensures c.args.volume.now c.remove.new.self (g.P.SectorView.space c.args.space.now) (g.P.SectorView.space c.count_file_off.new.space) (g.P.SectorView.space c.remove.new.space) edits beside c.requires.size c.count_file_off.ensures.within.same.tells c.count_file_off.ensures.spent
    (subst (λ (t : Tree). TakesAtMost 2 516 (state_of [] t.file (g.P.SectorView.space c.count_file_off.new.space)) (state_of [] c.remove.new.self.catalog.file (g.P.SectorView.space c.remove.new.space))) (ap (λ (x : Volume). x.catalog) c.count_file_off.ensures.rest) (c.remove.ensures.takes []))
    load tells
