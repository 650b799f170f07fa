use Rattle.std.proofs.Common.{◌≡◌, ◌∙◌, ap}
use Rattle.std.specs.Prelude.{[], Err}
use Rattle.cat_records.specs.declared.fault.RecordFault.TheVariants.{BadRecord, Memory}
use Rattle.attributes.proofs.Spelling.{is_spelled, no_record}
use Rattle.attributes.proofs.finding.read_record.Goals as goal

pub returns-in-Ok : goal.returns-in-Ok
returns-in-Ok c = is_spelled c.args.value.now c.in-Ok.found c.read_attr.result c.in-Ok.is c.read_attr.ensures.refused c.in-Ok.ensures.read

pub returns-in-Err-BadRecord : goal.returns-in-Err-BadRecord
returns-in-Err-BadRecord c =
    let fault = BadRecord c.in-Err-BadRecord.field-0-0 c.in-Err-BadRecord.field-0-1 in
    let different : fault ≡ Memory → ⊥ = λ same. cc in
    let none : c.from_vec.result ≡ [] = search in
    no_record c.args.value.now fault c.from_vec.result none ((c.read_attr.ensures.refused fault different).0 (c.in-Err-BadRecord.is ∙ ap Err c.in-Err-BadRecord.field-0-is))
