use Rattle.std.proofs.Common.{◌*◌, ◌/◌, refl}
use Rattle.fsck_core.proofs.Limits.{info_inside}
use Rattle.fsck_core.proofs.ShownLaws.{journal_there}
use Rattle.fsck_core.proofs.volume.read_info_block.Goals as goal

pub get-requires : goal.get-requires
get-requires g c = info_inside (g.V.SectorView.space c.args.view.now).sectors c.args.head.now c.requires.good

pub returns-clause-value : goal.returns-clause-value
returns-clause-value g c content shows head =
    journal_there (g.V.SectorView.space c.args.view.now) content c.args.head.now (c.args.head.now.journal_info_block * (c.args.head.now.block_size / 512)) c.get.new.into c.info_fields.result shows head refl (c.in_ok-get.ensures.value shows.tells) c.info_fields.ensures
