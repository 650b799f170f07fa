use Rattle.std.proofs.Common.{rules, not, ◌==◌}
use Rattle.std.proofs.lemmas.Fn.{filter_same}
use Rattle.watchers.specs.declared.folders.FolderAt.{FolderAt}
use Rattle.watchers.proofs.folders.gone.Goals as goal

pub returns : goal.returns
returns c =
    let test = (λ (at : FolderAt). not (at.id == c.args.id)) in
    filter_same _ test _ (λ x b f' k. search rules) _ _ c.retain.ensures.filtered
