use Rattle.std.proofs.Common.{[], sym, ◌∙◌, ap, subst, arith}
use Rattle.btree_edit.specs.Edits.{EditRoom, TakesAtMost}
use Rattle.btree_file.specs.Standing.{numbers_of}
use Rattle.btree_file.specs.State.{state_of}
use Rattle.volume_base.specs.declared.volume.Tree.{Tree}
use Rattle.volume_base.specs.declared.volume.Volume.{Volume}
use Rattle.volume_base.proofs.Emptied.{stands_there}
use Rattle.volume_base.proofs.RoomToRemove.{room_behind_removal, room_to_remove, spent_removal}
use Rattle.volume_base.proofs.TakenOff.{drops_folder, threads_drawn}
use Rattle.volume_base.proofs.Framed.{edits_err, edits_ok, edits_spent}
use Rattle.volume_base.proofs.Joined.{edits_both, edits_header}
use Rattle.volume_names.specs.Removing.{counting_header}
use Rattle.volume_names.proofs.removing.take_off.Goals as goal

pub remove-requires-clause-size : goal.remove-requires-clause-size
remove-requires-clause-size g c = omega (arith, c.requires.size, ap (λ (x : Volume). (numbers_of x.catalog.file).node_size) c.count_off.ensures.rest)

pub remove-requires-clause-threads : goal.remove-requires-clause-threads
remove-requires-clause-threads g c tells =
    let before = sym c.count_off.ensures.within.same.tells ∙ tells in
    threads_drawn c.args.volume.now c.count_off.new.volume (g.P.SectorView.space c.args.space.now) (g.P.SectorView.space c.count_off.new.space) c.count_off.ensures.rest (c.count_off.ensures.put (sym c.count_off.ensures.within.same.tells ∙ tells)) (c.requires.serves.settled (sym c.count_off.ensures.within.same.tells ∙ tells))

pub remove-requires-clause-room : goal.remove-requires-clause-room
remove-requires-clause-room g c names tells =
    subst (λ (t : Tree). EditRoom 2 516 (state_of names t.file (g.P.SectorView.space c.count_off.new.space))) (sym (ap (λ (x : Volume). x.catalog) c.count_off.ensures.rest))
    (room_to_remove c.edits_have_room.ensures c.args.volume.now (counting_header (g.P.SectorView.space c.args.space.now)) (g.P.SectorView.space c.count_off.new.space) c.requires.room c.requires.size c.count_off.ensures.within.same.tells c.count_off.ensures.spent names tells)

pub returns-clause-drops : goal.returns-clause-drops
returns-clause-drops g c tells =
    let later = c.count_off.ensures.within.same.tells ∙ tells in
    drops_folder c.args.volume.now c.count_off.new.volume (g.P.SectorView.space c.args.space.now) (g.P.SectorView.space c.count_off.new.space) c.count_off.ensures.rest (c.count_off.ensures.put tells) c.remove.new.self (g.P.SectorView.space c.remove.new.space)
    (c.count_off.ensures.stands.stands (c.count_off.ensures.within.same.tells ∙ tells)) (c.count_off.ensures.within.same.tells ∙ tells) (c.in_ok-remove.ensures.edits.ran.stands.stands (c.remove.ensures.frame.space.same.tells ∙ c.count_off.ensures.within.same.tells ∙ tells)) c.remove.ensures.frame c.remove.ensures.rest
    c.args.at.parent c.args.name.now c.in_ok-remove.field-0 c.count_off.ensures.header
    (stands_there c.args.volume.now (g.P.SectorView.space c.args.space.now) (c.requires.serves.stands.stands tells) (c.requires.serves.settled tells) c.args.at c.args.name.now (c.requires.leaving tells))
    (c.in_ok-remove.ensures.answer (c.count_off.ensures.within.same.tells ∙ tells)) (c.in_ok-remove.ensures.removed (c.count_off.ensures.within.same.tells ∙ tells))

pub returns-clause-room : goal.returns-clause-room
returns-clause-room g c =
    room_behind_removal c.edits_have_room.ensures c.edits_take_their_load.ensures c.args.volume.now c.remove.new.self (counting_header (g.P.SectorView.space c.args.space.now)) (g.P.SectorView.space c.count_off.new.space) (g.P.SectorView.space c.remove.new.space) c.requires.room c.requires.size
    c.count_off.ensures.within.same.tells c.count_off.ensures.spent
    (subst (λ (t : Tree). TakesAtMost 2 516 (state_of [] t.file (g.P.SectorView.space c.count_off.new.space)) (state_of [] c.remove.new.self.catalog.file (g.P.SectorView.space c.remove.new.space))) (ap (λ (x : Volume). x.catalog) c.count_off.ensures.rest) (c.remove.ensures.takes []))
    c.remove.ensures.frame.space.same.tells

pub returns-clause-edits : goal.returns-clause-edits
returns-clause-edits g c =
    edits_ok (edits_spent (edits_both {n = 1} g.met.P.SectorView.follows_trans (edits_header c.count_off.ensures.below c.count_off.ensures.stands c.count_off.ensures.rest c.count_off.ensures.within (omega (arith, c.count_off.ensures.spent)) c.count_off.ensures.faults) c.in_ok-remove.ensures.edits) (λ tells. omega (
      arith,
      spent_removal c.edits_have_room.ensures c.edits_take_their_load.ensures c.args.volume.now c.remove.new.self (counting_header (g.P.SectorView.space c.args.space.now)) (g.P.SectorView.space c.count_off.new.space) (g.P.SectorView.space c.remove.new.space) c.requires.room c.requires.size
          c.count_off.ensures.within.same.tells c.count_off.ensures.spent
          (subst (λ (t : Tree). TakesAtMost 2 516 (state_of [] t.file (g.P.SectorView.space c.count_off.new.space)) (state_of [] c.remove.new.self.catalog.file (g.P.SectorView.space c.remove.new.space))) (ap (λ (x : Volume). x.catalog) c.count_off.ensures.rest) (c.remove.ensures.takes [])) tells,
    )))

pub returns-in_err-remove-clause-edits : goal.returns-in_err-remove-clause-edits
returns-in_err-remove-clause-edits g c =
    edits_err c.from_residual.ensures.1 (edits_spent (edits_both {n = 1} g.met.P.SectorView.follows_trans (edits_header c.count_off.ensures.below c.count_off.ensures.stands c.count_off.ensures.rest c.count_off.ensures.within (omega (arith, c.count_off.ensures.spent)) c.count_off.ensures.faults) c.in_err-remove.ensures.edits) (λ tells. omega (
      arith,
      spent_removal c.edits_have_room.ensures c.edits_take_their_load.ensures c.args.volume.now c.remove.new.self (counting_header (g.P.SectorView.space c.args.space.now)) (g.P.SectorView.space c.count_off.new.space) (g.P.SectorView.space c.remove.new.space) c.requires.room c.requires.size
          c.count_off.ensures.within.same.tells c.count_off.ensures.spent
          (subst (λ (t : Tree). TakesAtMost 2 516 (state_of [] t.file (g.P.SectorView.space c.count_off.new.space)) (state_of [] c.remove.new.self.catalog.file (g.P.SectorView.space c.remove.new.space))) (ap (λ (x : Volume). x.catalog) c.count_off.ensures.rest) (c.remove.ensures.takes [])) tells,
    )))

pub returns-clause-counted : goal.returns-clause-counted
returns-clause-counted g c tells = spent_removal c.edits_have_room.ensures c.edits_take_their_load.ensures c.args.volume.now c.remove.new.self (counting_header (g.P.SectorView.space c.args.space.now)) (g.P.SectorView.space c.count_off.new.space) (g.P.SectorView.space c.remove.new.space) c.requires.room c.requires.size
    c.count_off.ensures.within.same.tells c.count_off.ensures.spent
    (subst (λ (t : Tree). TakesAtMost 2 516 (state_of [] t.file (g.P.SectorView.space c.count_off.new.space)) (state_of [] c.remove.new.self.catalog.file (g.P.SectorView.space c.remove.new.space))) (ap (λ (x : Volume). x.catalog) c.count_off.ensures.rest) (c.remove.ensures.takes [])) tells

pub returns-in_err-remove-clause-counted : goal.returns-in_err-remove-clause-counted
returns-in_err-remove-clause-counted g c tells = spent_removal c.edits_have_room.ensures c.edits_take_their_load.ensures c.args.volume.now c.remove.new.self (counting_header (g.P.SectorView.space c.args.space.now)) (g.P.SectorView.space c.count_off.new.space) (g.P.SectorView.space c.remove.new.space) c.requires.room c.requires.size
    c.count_off.ensures.within.same.tells c.count_off.ensures.spent
    (subst (λ (t : Tree). TakesAtMost 2 516 (state_of [] t.file (g.P.SectorView.space c.count_off.new.space)) (state_of [] c.remove.new.self.catalog.file (g.P.SectorView.space c.remove.new.space))) (ap (λ (x : Volume). x.catalog) c.count_off.ensures.rest) (c.remove.ensures.takes [])) tells
