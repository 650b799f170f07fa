use Rattle.std.proofs.Common.{rules, not, sym, ap, ◌∙◌}
use Rattle.std.proofs.lemmas.Fn.{filter_same}
use Rattle.hfs_model.specs.declared.plain.PlainNode.{PlainNode}
use Rattle.hfs_model.specs.Sorted.{kept}
use Rattle.hfs_model.specs.Plain.{is_node}
use Rattle.hfs_model.proofs.Filtered.{filter-kept}
use Rattle.hfs_model.proofs.ordering.nodes_without.Goals as goal

pub returns : goal.returns
returns c =
    let test = (λ (node : PlainNode). not (is_node c.args.id node)) in
    c.from_vec.ensures
    ∙ filter_same _ test _ (λ x b f' k. search rules) _ _ c.retain.ensures.filtered
    ∙ filter-kept test c.into_vec-nodes.result.items
    ∙ ap (kept test) c.into_vec-nodes.ensures
