use Rattle.fsck_repair.proofs.LeafLaws.{folder_value, file_value, no_entry}
use Rattle.fsck_repair.proofs.LeafParts.{on_ok}
use Rattle.fsck_repair.proofs.leaf.mend_value.Goals as goal

pub returns-then-is_record-clause-counted : goal.returns-then-is_record-clause-counted
returns-then-is_record-clause-counted c records are long is =
    folder_value records c.args.key.now c.args.value.now c.mend_folder.new.value (c.is_record.ensures.0 c.if-is_record.true).1 (c.mend_folder.ensures.counted records are)

pub returns-then-not-is_record-clause-counted : goal.returns-then-not-is_record-clause-counted
returns-then-not-is_record-clause-counted c records are long is =
    no_entry records c.args.key.now c.args.value.now c.is_record.result c.is_record-2.result is c.if-is_record.false c.if-not-is_record.true c.is_record.ensures c.is_record-2.ensures

pub returns-clause-counted : goal.returns-clause-counted
returns-clause-counted c records are long is =
    on_ok c.mend_file.result (file_value records c.args.key.now c.args.value.now c.mend_file.new.value (c.is_record-2.ensures.0 c.if-not-is_record.false).1) (c.mend_file.ensures.counted records are long)
