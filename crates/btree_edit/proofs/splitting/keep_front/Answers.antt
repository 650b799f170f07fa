use Rattle.std.proofs.Common.{◌-◌, arith, ap, ◌∙◌}
use Rattle.btree_node.specs.Node.{items}
use Rattle.btree_edit.specs.Halves.{put_of, with_put}
use Rattle.btree_edit.proofs.Cuts.{put_cut, behind_cut, room_for}
use Rattle.btree_edit.proofs.splitting.keep_front.Goals as goal

pub put_all-requires-clause-room : goal.put_all-requires-clause-room
put_all-requires-clause-room c =
    room_for _ _ c.args.at _ _
    (ap (λ l. with_put l c.args.at (put_of (c.args.to - c.args.at) c.args.first.now c.args.second.now)) c.keep_first-then-put-count.ensures.items
    ∙ put_cut (items c.args.node.now) c.args.at c.args.to c.args.count c.args.first.now c.args.second.now c.requires.place (omega arith) (omega arith) c.requires.few)
    (omega (arith, c.requires.fits, c.keep_first-then-put-count.ensures.head.size))

pub returns-then-put-count-clause-items : goal.returns-then-put-count-clause-items
returns-then-put-count-clause-items c =
    c.put_all.ensures.items
    ∙ ap (λ l. with_put l c.args.at (put_of (c.args.to - c.args.at) c.args.first.now c.args.second.now)) c.keep_first-then-put-count.ensures.items
    ∙ put_cut (items c.args.node.now) c.args.at c.args.to c.args.count c.args.first.now c.args.second.now c.requires.place (omega arith) (omega arith) c.requires.few

pub put_all-requires-2-clause-room : goal.put_all-requires-2-clause-room
put_all-requires-2-clause-room c =
    room_for _ _ c.args.at _ _
    (ap (λ l. with_put l c.args.at (put_of c.args.count c.args.first.now c.args.second.now)) c.keep_first-2.ensures.items
    ∙ behind_cut (items c.args.node.now) c.args.at c.args.to c.args.count c.args.first.now c.args.second.now c.requires.place (omega arith) c.requires.few)
    (omega (arith, c.requires.fits, c.keep_first-2.ensures.head.size))

pub returns-clause-items : goal.returns-clause-items
returns-clause-items c =
    c.put_all-2.ensures.items
    ∙ ap (λ l. with_put l c.args.at (put_of c.args.count c.args.first.now c.args.second.now)) c.keep_first-2.ensures.items
    ∙ behind_cut (items c.args.node.now) c.args.at c.args.to c.args.count c.args.first.now c.args.second.now c.requires.place (omega arith) c.requires.few
