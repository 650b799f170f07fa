use Rattle.std.proofs.Common.{◌≡◌, ◌++◌, [], List, map, drop, ap, sym, ◌∙◌, arith}
use Rattle.std.proofs.lemmas.List.{append-nil, drop_all}
use Rattle.link_kinds.specs.declared.kinds.Folder.{Folder}
use Rattle.link_kinds.proofs.Ways.{name_of, way_names}
use Rattle.link_kinds.proofs.way.names.Goals as goal

pub returns : goal.returns
returns c =
    let all : drop c.loop-folder.folder-index c.args.way.now ≡ [] = drop_all c.loop-folder.folder-index c.args.way.now (omega arith) in
    sym (append-nil c.loop-folder.path) ∙ ap (λ (l : List Folder). c.loop-folder.path ++ map name_of l) (sym all) ∙ c.loop-folder.invariant ∙ sym (way_names c.args.way.now [] ∙ append-nil (map name_of c.args.way.now))
