use Rattle.std.proofs.Common.{◌+◌, ◌++◌, length, ap, ◌∙◌}
use Rattle.btree_node.specs.Node.{items}
use Rattle.std.specs.List.{insert}
use Rattle.btree_node.proofs.Replacing.{room_of_removed, replaced}
use Rattle.btree_node.proofs.node.Node.replace.Goals as goal

pub insert-requires-clause-room : goal.insert-requires-clause-room
insert-requires-clause-room c = room_of_removed c.args.self.now c.remove.new.self c.args.i (length c.args.key.now + length c.args.value.now) c.requires.well_formed c.requires.inside c.remove.ensures.items c.remove.ensures.head.size c.requires.room

pub returns-clause-items : goal.returns-clause-items
returns-clause-items c =
    c.insert.ensures.items
    ∙ ap (λ l. insert l c.args.i (c.args.key.now ++ c.args.value.now)) c.remove.ensures.items
    ∙ replaced (items c.args.self.now) c.args.i (c.args.key.now ++ c.args.value.now) c.requires.inside
