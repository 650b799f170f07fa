use Rattle.btree_node.specs.Keys.{catalog_units}
use Rattle.fsck_core.proofs.RecordBytes.{record_long, thread_long}
use Rattle.fsck_core.proofs.ThreadUnits.{folder_tells, file_tells, no_thread}
use Rattle.fsck_core.proofs.threads.tells.Goals as goal

pub read_be16-kind-requires : goal.read_be16-kind-requires
read_be16-kind-requires c = record_long c.args.value.now c.requires

pub tells_place-requires : goal.tells_place-requires
tells_place-requires c = (thread_long c.args.value.now c.read_be16-kind.result c.requires c.read_be16-kind.ensures c.if-kind-eq-FOLDER.false c.if-kind-eq-FILE.false).0

pub returns-then-kind-eq-FOLDER : goal.returns-then-kind-eq-FOLDER
returns-then-kind-eq-FOLDER c = folder_tells c.args.value.now (catalog_units c.args.key.now) c.args.row c.read_be16-kind.result c.read_be16-kind.ensures c.if-kind-eq-FOLDER.true

pub returns-then-kind-eq-FILE : goal.returns-then-kind-eq-FILE
returns-then-kind-eq-FILE c = file_tells c.args.value.now (catalog_units c.args.key.now) c.args.row c.read_be16-kind.result c.read_be16-kind.ensures c.if-kind-eq-FILE.true

pub returns : goal.returns
returns c = no_thread c.args.value.now (catalog_units c.args.key.now) c.args.row c.read_be16-kind.result c.tells_place.result c.requires c.read_be16-kind.ensures c.if-kind-eq-FOLDER.false c.if-kind-eq-FILE.false
    (c.tells_place.ensures (thread_long c.args.value.now c.read_be16-kind.result c.requires c.read_be16-kind.ensures c.if-kind-eq-FOLDER.false c.if-kind-eq-FILE.false).1)
