use Rattle.std.proofs.Common.{◌≡◌, ◌∙◌, ap}
use Rattle.std.specs.Prelude.{Err}
use Rattle.cat_records.specs.declared.fault.RecordFault.TheVariants.{BadRecord, Memory}
use Rattle.catalog.proofs.Faults.{no_fault_there}
use Rattle.volume_space.proofs.temp_names.read_value.Goals as goal

pub returns-in-Err-BadRecord-clause-read : goal.returns-in-Err-BadRecord-clause-read
returns-in-Err-BadRecord-clause-read c spelled =
    let fault = BadRecord c.in-Err-BadRecord.field-0-0 c.in-Err-BadRecord.field-0-1 in
    let different : fault ≡ Memory → ⊥ = λ same. cc in
    absurd (no_fault_there c.args.value.now fault spelled ((c.read_catalog.ensures.refused fault different).0 (c.in-Err-BadRecord.is ∙ ap Err c.in-Err-BadRecord.field-0-is)))
