use Rattle.std.proofs.Common.{arith}
use Rattle.cat_records.specs.Records.{thread_of}
use Rattle.fsck_core.proofs.RecordBytes.{record_long, folder_long, file_long, row_of_folder, row_of_file, row_of_thread}
use Rattle.fsck_core.proofs.listing.row_of_record.Goals as goal

pub read_be16-kind-requires : goal.read_be16-kind-requires
read_be16-kind-requires c = record_long c.args.value.now c.requires

pub folder_row-requires : goal.folder_row-requires
folder_row-requires c = let long = folder_long c.args.value.now c.read_be16-kind.result c.requires c.read_be16-kind.ensures c.if-kind-eq-FOLDER.true in omega (arith, long)

pub file_row-requires : goal.file_row-requires
file_row-requires c = let long = file_long c.args.value.now c.read_be16-kind.result c.requires c.read_be16-kind.ensures c.if-kind-eq-FILE.true in omega (arith, long)

pub returns-then-kind-eq-FOLDER : goal.returns-then-kind-eq-FOLDER
returns-then-kind-eq-FOLDER c = row_of_folder c.args.parent c.read_be16-kind.result c.args.value.now c.folder_row.result c.read_be16-kind.ensures c.if-kind-eq-FOLDER.true c.folder_row.ensures

pub returns-then-kind-eq-FILE : goal.returns-then-kind-eq-FILE
returns-then-kind-eq-FILE c = row_of_file c.args.parent c.read_be16-kind.result c.args.value.now c.file_row.result c.read_be16-kind.ensures c.if-kind-eq-FILE.true c.file_row.ensures

pub returns : goal.returns
returns c =
    row_of_thread c.args.parent c.read_be16-kind.result c.args.value.now c.thread_row.result c.read_be16-kind.ensures c.if-kind-eq-FOLDER.false c.if-kind-eq-FILE.false (c.thread_row.ensures (thread_of c.args.value.now))
