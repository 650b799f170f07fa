use Rattle.std.proofs.Common.{rules, not, sym, ap, ◌∙◌}
use Rattle.std.proofs.lemmas.Fn.{filter_same}
use Rattle.hfs_model.specs.declared.plain.PlainEntry.{PlainEntry}
use Rattle.hfs_model.specs.Sorted.{kept}
use Rattle.hfs_model.specs.Plain.{is_at}
use Rattle.hfs_model.proofs.Filtered.{filter-kept}
use Rattle.hfs_model.proofs.ordering.entries_without.Goals as goal

pub returns : goal.returns
returns c =
    let test = (λ (entry : PlainEntry). not (is_at c.args.parent c.args.name.now entry)) in
    c.from_vec.ensures
    ∙ filter_same _ test _ (λ x b f' k. search rules) _ _ c.retain.ensures.filtered
    ∙ filter-kept test c.into_vec-entries.result.items
    ∙ ap (kept test) c.into_vec-entries.ensures
