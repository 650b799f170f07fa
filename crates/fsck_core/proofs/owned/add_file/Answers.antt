use Rattle.std.proofs.Common.{◌++◌, ◌∷◌, List, [], ◌∙◌, ap, append_assoc}
use Rattle.cat_records.specs.Records.{entry_of}
use Rattle.hfs_volume.specs.Forks.{Owned, data_kind, resource_kind}
use Rattle.fsck_core.specs.Owners.{owned_all}
use Rattle.fsck_core.proofs.owned.add_file.Goals as goal

pub returns : goal.returns
unfolding entry_of
returns c =
    let old : List Owned = owned_all c.args.forks.now.items in
    let one : Owned = record { id = c.read_be32-id.result; kind = data_kind; fork = c.read_fork.result } in
    let other : Owned = record { id = c.read_be32-id.result; kind = resource_kind; fork = c.read_fork-2.result } in
    c.in_ok-add_fork-2.ensures ∙ ap (λ (l : List Owned). l ++ other ∷ []) c.in_ok-add_fork.ensures ∙ append_assoc old (one ∷ []) (other ∷ [])
    ∙ (λ i. old ++ record { id = c.read_be32-id.ensures i; kind = data_kind; fork = c.read_fork.ensures i } ∷ record { id = c.read_be32-id.ensures i; kind = resource_kind; fork = c.read_fork-2.ensures i } ∷ [])
