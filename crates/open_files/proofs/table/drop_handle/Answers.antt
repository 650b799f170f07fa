use Rattle.std.proofs.Common.{rules, not, ◌∙◌}
use Rattle.std.proofs.lemmas.Fn.{filter_same}
use Rattle.open_files.specs.declared.act.OpenFile.{OpenFile}
use Rattle.open_files.specs.Handles.{is_handle}
use Rattle.hfs_model.proofs.Filtered.{filter-kept}
use Rattle.open_files.proofs.table.drop_handle.Goals as goal

pub returns : goal.returns
returns c =
    let test = (λ (opened : OpenFile). not (is_handle c.args.session c.args.handle opened)) in
    filter_same _ test _ (λ x b f' k. search rules) _ _ c.retain.ensures.filtered ∙ filter-kept test c.args.files.now.items
