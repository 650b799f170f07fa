use Rattle.std.proofs.Common.{◌≡◌, List, ℕ, replicate, sym, ◌∙◌, ap, subst, rules}
use Rattle.std.proofs.lemmas.Result.{IfOk-weaker}
use Rattle.btree_node.specs.Codec.{HasRoomFor, node_over, leaf_head}
use Rattle.volume_make.specs.Texts.{leaf_items, leaf_text}
use Rattle.volume_make.proofs.Leaves.{leaf_room}
use Rattle.volume_make.proofs.trees.leaf_node.Goals as goal

pub leaf_node-requires-clause-room : goal.leaf_node-requires-clause-room
leaf_node-requires-clause-room c =
    subst (λ (l : List (List ℕ)). HasRoomFor 4096 l) (sym (c.as_slice.ensures.value ∙ c.in_ok-items.ensures)) (leaf_room c.args.layout c.args.name.now c.requires)

pub returns : goal.returns
returns c =
    let items : c.as_slice.result.now ≡ leaf_items c.args.layout c.args.name.now = c.as_slice.ensures.value ∙ c.in_ok-items.ensures in
    let blank : c.in_ok-zeros.zeros.items ≡ replicate 4096 0 = search rules in
    let zeros : c.as_slice-2.result.now ≡ replicate 4096 0 = c.as_slice-2.ensures.value ∙ blank in
    IfOk-weaker c.leaf_node.result (λ bytes. bytes.items ≡ node_over 4096 leaf_head c.as_slice.result.now c.as_slice-2.result.now) (λ bytes. bytes.items ≡ leaf_text c.args.layout c.args.name.now)
    (λ bytes is. is ∙ ap (λ (l : List (List ℕ)). node_over 4096 leaf_head l c.as_slice-2.result.now) items ∙ ap (node_over 4096 leaf_head (leaf_items c.args.layout c.args.name.now)) zeros)
    c.leaf_node.ensures.value
