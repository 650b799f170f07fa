use Rattle.std.proofs.Common.{[], List, ℕ, sym, ◌∙◌, ap, subst, arith}
use Rattle.btree_node.specs.Levels.{Pair}
use Rattle.btree_edit.specs.Edits.{EditRoom, TakesAtMost, TakesEdits}
use Rattle.btree_file.specs.Standing.{numbers_of}
use Rattle.btree_file.specs.State.{state_of}
use Rattle.hfs_volume.specs.Records.{id_in, placed_in, record_at}
use Rattle.volume_base.specs.Lists.{lists_of}
use Rattle.volume_base.specs.declared.volume.Tree.{Tree}
use Rattle.volume_base.specs.declared.volume.Volume.{Volume}
use Rattle.volume_base.proofs.Added.{adds_record, pairs_drawn}
use Rattle.volume_base.proofs.MakeRoom.{room_behind, room_for_entry, spent_entry}
use Rattle.volume_names.proofs.EditsLeft.{left_added, spare_added}
use Rattle.volume_base.proofs.Framed.{edits_err, edits_ok, edits_spent}
use Rattle.volume_base.proofs.Joined.{edits_both, edits_header}
use Rattle.volume_names.proofs.making.add_record.Goals as goal

pub add-requires-clause-size : goal.add-requires-clause-size
add-requires-clause-size g c = omega (arith, c.requires.size, ap (λ (x : Volume). (numbers_of x.catalog.file).node_size) c.draw.ensures.rest)

pub add-requires-clause-unused : goal.add-requires-clause-unused
add-requires-clause-unused g c tells =
    let before = sym c.draw.ensures.within.same.tells ∙ tells in
    ap (λ (l : List Pair). record_at (placed_in l) (id_in c.args.rec.now) []) (pairs_drawn c.args.volume.now c.draw.new.volume (g.P.SectorView.space c.args.space.now) (g.P.SectorView.space c.draw.new.space) c.draw.ensures.rest (c.draw.ensures.put (sym c.draw.ensures.within.same.tells ∙ tells)))
    ∙ ap (λ (n : ℕ). record_at (placed_in (lists_of c.args.volume.now (g.P.SectorView.space c.args.space.now).content).catalog_pairs) n []) c.requires.drawn ∙ c.requires.unused (sym c.draw.ensures.within.same.tells ∙ tells)

pub add-requires-clause-room : goal.add-requires-clause-room
add-requires-clause-room g c names tells =
    subst (λ (t : Tree). EditRoom 2 516 (state_of names t.file (g.P.SectorView.space c.draw.new.space))) (sym (ap (λ (x : Volume). x.catalog) c.draw.ensures.rest))
    (room_for_entry c.edits_have_room.ensures c.args.volume.now (g.P.SectorView.space c.args.space.now) (g.P.SectorView.space c.draw.new.space) c.requires.room c.requires.size c.draw.ensures.within.same.tells c.draw.ensures.spent names tells)

pub returns-clause-adds : goal.returns-clause-adds
returns-clause-adds g c tells =
    let fits = c.requires.counts tells in
    let later = c.draw.ensures.within.same.tells ∙ tells in
    adds_record c.args.volume.now c.draw.new.volume (g.P.SectorView.space c.args.space.now) (g.P.SectorView.space c.draw.new.space) c.draw.ensures.rest (c.draw.ensures.put tells) c.add.new.volume (g.P.SectorView.space c.add.new.space)
    (c.draw.ensures.stands.stands (c.draw.ensures.within.same.tells ∙ tells)) (c.draw.ensures.within.same.tells ∙ tells) (c.in_ok-add.ensures.edits.ran.stands.stands (c.add.ensures.frame.space.same.tells ∙ c.draw.ensures.within.same.tells ∙ tells)) c.add.ensures.frame c.add.ensures.rest
    c.args.folder c.args.id c.args.name.now c.args.rec.now c.in_ok-add.field-0 (c.draw.ensures.header c.requires.room.ids fits.0 fits.1)
    (c.requires.free tells)
    (c.in_ok-add.ensures.answer (c.draw.ensures.within.same.tells ∙ tells)) (c.in_ok-add.ensures.added (c.draw.ensures.within.same.tells ∙ tells))

pub returns-clause-room : goal.returns-clause-room
returns-clause-room g c =
    room_behind c.edits_have_room.ensures c.edits_take_their_load.ensures c.args.volume.now c.add.new.volume (g.P.SectorView.space c.args.space.now) (g.P.SectorView.space c.draw.new.space) (g.P.SectorView.space c.add.new.space) c.requires.room c.requires.size
    c.draw.ensures.within.same.tells c.draw.ensures.spent
    (subst (λ (t : Tree). TakesAtMost 2 516 (state_of [] t.file (g.P.SectorView.space c.draw.new.space)) (state_of [] c.add.new.volume.catalog.file (g.P.SectorView.space c.add.new.space))) (ap (λ (x : Volume). x.catalog) c.draw.ensures.rest) (c.add.ensures.takes []))
    c.add.ensures.frame.space.same.tells

pub returns-clause-edits : goal.returns-clause-edits
returns-clause-edits g c =
    edits_ok (edits_spent (edits_both g.met.P.SectorView.follows_trans (edits_header c.draw.ensures.below c.draw.ensures.stands c.draw.ensures.rest c.draw.ensures.within c.draw.ensures.spent c.draw.ensures.faults) c.in_ok-add.ensures.edits) (λ tells. spent_entry c.edits_have_room.ensures c.edits_take_their_load.ensures c.args.volume.now c.add.new.volume (g.P.SectorView.space c.args.space.now) (g.P.SectorView.space c.draw.new.space) (g.P.SectorView.space c.add.new.space) c.requires.room c.requires.size
    c.draw.ensures.within.same.tells c.draw.ensures.spent
    (subst (λ (t : Tree). TakesAtMost 2 516 (state_of [] t.file (g.P.SectorView.space c.draw.new.space)) (state_of [] c.add.new.volume.catalog.file (g.P.SectorView.space c.add.new.space))) (ap (λ (x : Volume). x.catalog) c.draw.ensures.rest) (c.add.ensures.takes [])) tells))

pub returns-in_err-add-clause-edits : goal.returns-in_err-add-clause-edits
returns-in_err-add-clause-edits g c =
    edits_err c.from_residual.ensures.1 (edits_spent (edits_both g.met.P.SectorView.follows_trans (edits_header c.draw.ensures.below c.draw.ensures.stands c.draw.ensures.rest c.draw.ensures.within c.draw.ensures.spent c.draw.ensures.faults) c.in_err-add.ensures.edits) (λ tells. spent_entry c.edits_have_room.ensures c.edits_take_their_load.ensures c.args.volume.now c.add.new.volume (g.P.SectorView.space c.args.space.now) (g.P.SectorView.space c.draw.new.space) (g.P.SectorView.space c.add.new.space) c.requires.room c.requires.size
    c.draw.ensures.within.same.tells c.draw.ensures.spent
    (subst (λ (t : Tree). TakesAtMost 2 516 (state_of [] t.file (g.P.SectorView.space c.draw.new.space)) (state_of [] c.add.new.volume.catalog.file (g.P.SectorView.space c.add.new.space))) (ap (λ (x : Volume). x.catalog) c.draw.ensures.rest) (c.add.ensures.takes [])) tells))

pub returns-clause-left : goal.returns-clause-left
returns-clause-left g c edits beside load =
    left_added c.edits_have_room.ensures c.args.volume.now c.add.new.volume (g.P.SectorView.space c.args.space.now) (g.P.SectorView.space c.draw.new.space) (g.P.SectorView.space c.add.new.space) edits beside c.requires.size c.draw.ensures.within.same.tells c.add.ensures.frame.space.same.tells c.draw.ensures.spent
    (subst (λ (t : Tree). TakesEdits 2 516 (state_of [] t.file (g.P.SectorView.space c.draw.new.space)) (state_of [] c.add.new.volume.catalog.file (g.P.SectorView.space c.add.new.space))) (ap (λ (x : Volume). x.catalog) c.draw.ensures.rest) (c.in_ok-add.ensures.takes_edits []))
    load

pub returns-clause-is_put : goal.returns-clause-is_put
returns-clause-is_put g c tells = c.add.ensures.frame.space.still_put 2 (c.draw.ensures.is_put tells)

pub returns-clause-beside : goal.returns-clause-beside
returns-clause-beside g c edits beside load tells =
    spare_added c.edits_have_room.ensures c.args.volume.now c.add.new.volume (g.P.SectorView.space c.args.space.now) (g.P.SectorView.space c.draw.new.space) (g.P.SectorView.space c.add.new.space) edits beside c.requires.size c.draw.ensures.within.same.tells c.draw.ensures.spent
    (subst (λ (t : Tree). TakesAtMost 2 516 (state_of [] t.file (g.P.SectorView.space c.draw.new.space)) (state_of [] c.add.new.volume.catalog.file (g.P.SectorView.space c.add.new.space))) (ap (λ (x : Volume). x.catalog) c.draw.ensures.rest) (c.add.ensures.takes []))
    load tells

pub returns-in_err-add-clause-beside : goal.returns-in_err-add-clause-beside
returns-in_err-add-clause-beside g c edits beside load tells =
    spare_added c.edits_have_room.ensures c.args.volume.now c.add.new.volume (g.P.SectorView.space c.args.space.now) (g.P.SectorView.space c.draw.new.space) (g.P.SectorView.space c.add.new.space) edits beside c.requires.size c.draw.ensures.within.same.tells c.draw.ensures.spent
    (subst (λ (t : Tree). TakesAtMost 2 516 (state_of [] t.file (g.P.SectorView.space c.draw.new.space)) (state_of [] c.add.new.volume.catalog.file (g.P.SectorView.space c.add.new.space))) (ap (λ (x : Volume). x.catalog) c.draw.ensures.rest) (c.add.ensures.takes []))
    load tells
