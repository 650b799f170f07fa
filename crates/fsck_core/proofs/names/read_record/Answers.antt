use Rattle.std.proofs.Common.{◌≡◌, length, sym, ◌∙◌, ap}
use Rattle.std.specs.Prelude.{Err, None, Some, if◌then◌else◌}
use Rattle.cat_records.specs.Records.{bad_record, catalog_kind}
use Rattle.cat_records.specs.declared.fault.RecordFault.TheVariants.{BadRecord, Memory}
use Rattle.hfs_volume.proofs.Flat.{none_or_some}
use Rattle.fsck_core.proofs.names.read_record.Goals as goal

pub unreachable-requires : goal.unreachable-requires
unreachable-requires c =
    let value = c.args.value.now in
    let fault = BadRecord c.in-Err-BadRecord.field-0-0 c.in-Err-BadRecord.field-0-1 in
    let different : fault ≡ Memory → ⊥ = λ same. cc in
    let told = (c.read_catalog.ensures.refused fault different).0 (c.in-Err-BadRecord.is ∙ ap Err c.in-Err-BadRecord.field-0-is) in
    none_or_some fault (sym (ap (λ b. if b then None else Some (bad_record (catalog_kind value) (length value))) c.requires) ∙ told)
