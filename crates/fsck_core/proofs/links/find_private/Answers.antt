use Rattle.std.proofs.Common.{ℕ, List, ◌∙◌, ap}
use Rattle.hfs_model.specs.Step.{private_name}
use Rattle.hfs_volume.specs.Records.{placed_in, record_at}
use Rattle.fsck_core.specs.Links.{folder_found}
use Rattle.fsck_core.specs.Names.{value_found}
use Rattle.fsck_core.proofs.LinkLaws.{private_is}
use Rattle.fsck_core.proofs.links.find_private.Goals as goal

pub returns : goal.returns
returns c keys =
    c.folder_id.ensures
    ∙ ap folder_found (c.in_ok-found.ensures keys ∙ ap (λ (name : List ℕ). value_found (record_at (placed_in c.args.pairs.now) 2 name)) c.as_slice.ensures)
    ∙ private_is (record_at (placed_in c.args.pairs.now) 2 private_name)
