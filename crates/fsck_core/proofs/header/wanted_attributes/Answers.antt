use Rattle.fsck_core.proofs.HeaderLaws.{attributes_are}
use Rattle.fsck_core.proofs.header.wanted_attributes.Goals as goal

pub returns : goal.returns
returns c =
    attributes_are c.args.head.now.attributes c.missing-journal.result c.standing-reused.result c.saturating_sub.result c.is_journaled.result c.has_ids_reused.result c.saturating_sub.ensures c.missing-journal.ensures c.standing-reused.ensures
    c.is_journaled.ensures c.has_ids_reused.ensures
