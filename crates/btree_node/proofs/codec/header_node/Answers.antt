use Rattle.std.proofs.Common.{◌≡◌, List, ℕ, sym, ◌∙◌, subst}
use Rattle.std.specs.Result.{IfOk}
use Rattle.flag_rows.specs.Bitmap.{is_marked, nowhere}
use Rattle.btree_node.specs.Codec.{IsPacked, HasRoomFor, node_over, header_head}
use Rattle.btree_node.proofs.Printing.{header_items_room}
use Rattle.btree_node.proofs.codec.header_node.Goals as goal

pub node_over-requires-clause-room : goal.node_over-requires-clause-room
node_over-requires-clause-room c =
    subst (λ (l : List (List ℕ)). HasRoomFor c.args.tree.now.node_size l) (sym (c.as_slice.ensures.value ∙ c.in_ok-items.ensures))
    (header_items_room c.args.tree.now (is_marked c.args.used nowhere) c.requires.least)

pub returns-clause-value : goal.returns-clause-value
returns-clause-value c =
    subst (λ (l : List (List ℕ)). IfOk c.node_over.result (λ bytes. bytes.items ≡ node_over c.args.tree.now.node_size header_head l c.args.old.now)) (c.as_slice.ensures.value ∙ c.in_ok-items.ensures) c.node_over.ensures.value

pub returns-clause-node : goal.returns-clause-node
returns-clause-node c =
    subst (λ (l : List (List ℕ)). IfOk c.node_over.result (λ bytes. IsPacked c.args.tree.now.node_size bytes.items header_head l)) (c.as_slice.ensures.value ∙ c.in_ok-items.ensures) c.node_over.ensures.node

pub returns-clause-same : goal.returns-clause-same
returns-clause-same c node =
    c.node_over.ensures.same (subst (λ (l : List (List ℕ)). IsPacked c.args.tree.now.node_size c.args.old.now header_head l) (sym (c.as_slice.ensures.value ∙ c.in_ok-items.ensures)) node)
