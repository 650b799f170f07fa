use Rattle.std.proofs.Common.{rules, not, ap, ◌∙◌}
use Rattle.std.proofs.lemmas.Fn.{filter_same}
use Rattle.std.specs.Str.{bytes_eq}
use Rattle.hfs_language.specs.declared.reply.ListedName.{ListedName}
use Rattle.hfs_model.specs.Sorted.{kept}
use Rattle.hfs_model.proofs.Filtered.{filter-kept}
use Rattle.open_files.specs.Keeping.{keeping_name}
use Rattle.session_lines.proofs.stages.without_keeping.Goals as goal

pub returns : goal.returns
returns c =
    let test = (λ (listed : ListedName). not (bytes_eq listed.name keeping_name)) in
    c.from_vec.ensures
    ∙ filter_same _ test _ (λ x b f' k. search rules) _ _ c.retain.ensures.filtered
    ∙ filter-kept test c.into_vec-names.result.items
    ∙ ap (kept test) c.into_vec-names.ensures
