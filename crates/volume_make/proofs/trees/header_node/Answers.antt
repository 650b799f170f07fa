use Rattle.std.proofs.Common.{◌≡◌, List, ℕ, length, replicate, sym, ◌∙◌, ap, rules}
use Rattle.std.proofs.lemmas.Result.{IfOk-weaker}
use Rattle.flag_rows.specs.Bitmap.{is_marked, nowhere}
use Rattle.btree_node.specs.Codec.{node_over, header_head, header_items}
use Rattle.volume_make.specs.Texts.{header_node}
use Rattle.volume_make.proofs.trees.header_node.Goals as goal

pub returns : goal.returns
unfolding header_node
returns c =
    let blank : c.in_ok-zeros.zeros.items ≡ replicate 4096 0 = search rules in
    let zeros : c.as_slice.result.now ≡ replicate 4096 0 = c.as_slice.ensures.value ∙ blank in
    let items : List (List ℕ) = header_items c.args.tree.now (is_marked c.args.used nowhere) in
    IfOk-weaker c.header_node.result (λ bytes. bytes.items ≡ node_over c.args.tree.now.node_size header_head items c.as_slice.result.now) (λ bytes. bytes.items ≡ header_node c.args.tree.now c.args.used)
    (λ bytes is. is ∙ ap (node_over c.args.tree.now.node_size header_head items) zeros)
    c.header_node.ensures.value
