use Rattle.std.proofs.Common.{◌≤◌, [], ap, arith}
use Rattle.std.specs.Prelude.{Ok}
use Rattle.btree_node.specs.declared.store.TreeShape.{TreeShape}
use Rattle.btree_file.specs.Standing.{pairs_in}
use Rattle.btree_file.specs.State.{sectors_of_tree, state_of}
use Rattle.catalog.proofs.RoomLaws.{updates_none}
use Rattle.volume_base.proofs.Replaced.{update_room, spent_node, kind_there, replaces, node_large}
use Rattle.volume_base.proofs.UpdateRoom.{room_after, room_less}
use Rattle.volume_base.proofs.Framed.{edits_err, edits_none, edits_ok, edits_spent}
use Rattle.volume_base.proofs.volume.Volume.replace.Goals as goal

pub update-requires-clause-same_kind : goal.update-requires-clause-same_kind
update-requires-clause-same_kind g c tells =
    kind_there (pairs_in (sectors_of_tree c.args.self.now.catalog.file) (g.P.SectorView.space c.args.space.now).content) c.args.entry.now.parent c.args.entry.now.name c.args.entry.now.rec c.args.rec.now (c.requires.ready.there tells) c.requires.same_kind

pub update-requires-clause-room : goal.update-requires-clause-room
update-requires-clause-room g c =
    let large : 4096 ≤ c.args.self.now.catalog.file.shape.node_size = omega (arith, c.if-shape-lt4096.false, ap (λ (s : TreeShape). s.node_size) c.shape.ensures) in
    update_room c.args.self.now (g.P.SectorView.space c.args.space.now) large c.requires.ready.room

pub returns-clause-replaces : goal.returns-clause-replaces
returns-clause-replaces g c tells =
    replaces c.args.self.now c.update.new.self (g.P.SectorView.space c.args.space.now) (g.P.SectorView.space c.update.new.space) c.args.entry.now c.args.rec.now c.requires.ready.stands tells c.update.ensures.frame.space.same.tells
    c.update.ensures.frame c.update.ensures.rest (c.requires.ready.there tells) (Ok c.in_ok-update.field-0) c.in_ok-update.ensures.edits.ran.stands (c.in_ok-update.ensures.answer tells) (c.in_ok-update.ensures.updated tells)

pub returns-then-shape-lt4096-clause-replaces : goal.returns-then-shape-lt4096-clause-replaces
returns-then-shape-lt4096-clause-replaces g c tells =
    absurd (omega (arith, c.if-shape-lt4096.true, ap (λ (s : TreeShape). s.node_size) c.shape.ensures, node_large c.args.self.now (g.P.SectorView.space c.args.space.now) c.requires.ready.stands tells))

pub returns-clause-room : goal.returns-clause-room
returns-clause-room g c many room =
    room_after many c.args.self.now c.update.new.self (g.P.SectorView.space c.args.space.now) (g.P.SectorView.space c.update.new.space) c.update.ensures.frame.space.same.tells (λ tells. c.update.ensures.takes [] tells) room

pub returns-then-shape-lt4096-clause-room : goal.returns-then-shape-lt4096-clause-room
returns-then-shape-lt4096-clause-room g c many room = room_less many c.args.self.now (g.P.SectorView.space c.args.space.now) room

pub returns-clause-size : goal.returns-clause-size
returns-clause-size g c = c.update.ensures.frame.file.node_size

pub returns-in_err-update-clause-size : goal.returns-in_err-update-clause-size
returns-in_err-update-clause-size g c = c.update.ensures.frame.file.node_size

pub returns-then-shape-lt4096-clause-updates : goal.returns-then-shape-lt4096-clause-updates
returns-then-shape-lt4096-clause-updates g c names = updates_none 0 1 516 (state_of names c.args.self.now.catalog.file (g.P.SectorView.space c.args.space.now))

pub returns-clause-updates : goal.returns-clause-updates
returns-clause-updates g c = c.in_ok-update.ensures.updates

pub returns-then-shape-lt4096-clause-edits : goal.returns-then-shape-lt4096-clause-edits
returns-then-shape-lt4096-clause-edits g c = edits_none _ g.met.P.SectorView.follows_refl c.requires.ready.stands

pub returns-in_err-update-clause-edits : goal.returns-in_err-update-clause-edits
returns-in_err-update-clause-edits g c =
    edits_err c.from_residual.ensures.1 (edits_spent c.in_err-update.ensures.edits (λ tells. spent_node c.args.self.now c.update.new.self (g.P.SectorView.space c.args.space.now) (g.P.SectorView.space c.update.new.space) (c.update.ensures.takes [] tells)))

pub returns-clause-edits : goal.returns-clause-edits
returns-clause-edits g c =
    edits_ok (edits_spent c.in_ok-update.ensures.edits (λ tells. spent_node c.args.self.now c.update.new.self (g.P.SectorView.space c.args.space.now) (g.P.SectorView.space c.update.new.space) (c.update.ensures.takes [] tells)))
