use Rattle.std.proofs.Common.{◌≡◌, List, ◌∙◌}
use Rattle.hx_bytes.specs.declared.extents.Extent.{Extent}
use Rattle.hfs_volume.specs.Forks.{extents_of}
use Rattle.fsck_core.specs.Overflows.{overflows_in}
use Rattle.fsck_core.proofs.WantLaws.{ok_map}
use Rattle.fsck_core.proofs.StretchLaws.{extents_alike}
use Rattle.fsck_core.proofs.stretch.own_extents.Goals as goal

pub returns : goal.returns
returns c =
    ok_map c.fork_extents.result (λ (list : List Extent). list ≡ extents_of (overflows_in c.rows_of_file-own.result.now) c.args.owned.now.id c.args.owned.now.kind c.args.owned.now.fork)
    (λ (list : List Extent). list ≡ extents_of (overflows_in c.args.rows.now) c.args.owned.now.id c.args.owned.now.kind c.args.owned.now.fork)
    (λ list is. is ∙ extents_alike (overflows_in c.rows_of_file-own.result.now) (overflows_in c.args.rows.now) c.args.owned.now.id c.args.owned.now.kind c.args.owned.now.fork (c.rows_of_file-own.ensures c.args.owned.now.kind))
    c.fork_extents.ensures
