use Rattle.std.proofs.Common.{◌≡◌, ◌<◌, ◌∙◌, ap, sym, arith, subst}
use Rattle.std.specs.Prelude.{Err}
use Rattle.cat_records.specs.Fits.{FitsRecord}
use Rattle.cat_records.specs.declared.fault.RecordFault.TheVariants.{BadRecord, Memory}
use Rattle.hfs_volume.specs.Records.{is_thread}
use Rattle.catalog.proofs.Faults.{no_fault_there, read_is_record}
use Rattle.catalog.proofs.FittingBytes.{read_fits}
use Rattle.catalog.proofs.finding.read_value.Goals as goal

pub returns-in-Err-BadRecord-clause-read : goal.returns-in-Err-BadRecord-clause-read
returns-in-Err-BadRecord-clause-read c spelled =
    let fault = BadRecord c.in-Err-BadRecord.field-0-0 c.in-Err-BadRecord.field-0-1 in
    let different : fault ≡ Memory → ⊥ = λ same. cc in
    absurd (no_fault_there c.args.value.now fault spelled ((c.read_catalog.ensures.refused fault different).0 (c.in-Err-BadRecord.is ∙ ap Err c.in-Err-BadRecord.field-0-is)))

pub returns-in-Ok-clause-fits : goal.returns-in-Ok-clause-fits
returns-in-Ok-clause-fits c named =
    let read = c.in-Ok.ensures.read in
    let spelled = read_is_record c.args.value.now c.read_catalog.result c.in-Ok.rec c.in-Ok.is c.read_catalog.ensures.refused in
    subst FitsRecord (sym read) (read_fits c.args.value.now (λ k. omega (arith, c.type_inv.value k)) spelled (sym (ap is_thread read) ∙ named))
