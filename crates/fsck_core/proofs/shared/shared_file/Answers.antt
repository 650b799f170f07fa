use Rattle.std.proofs.Common.{sym, ◌∙◌}
use Rattle.fsck_core.proofs.SharedLaws.{other_folder, its_number, its_shared, some_shared}
use Rattle.fsck_core.proofs.shared.shared_file.Goals as goal

pub returns-then-parent_of-private-clause-whole : goal.returns-then-parent_of-private-clause-whole
returns-then-parent_of-private-clause-whole c long reference shared =
    absurd (other_folder c.args.key.now c.args.value.now c.args.private reference (λ same. c.if-parent_of-private.true (c.parent_of.ensures long ∙ same)) shared)

pub returns-in_default-clause-whole : goal.returns-in_default-clause-whole
returns-in_default-clause-whole c long reference shared =
    let parts = its_number c.args.key.now c.args.value.now c.args.private reference shared in
    absurd (c.in_default.not-Some reference (c.in_ok-reference.ensures.whole reference parts.0 parts.1))

pub returns-clause-is : goal.returns-clause-is
returns-clause-is c long file same =
    let number = c.in_ok-reference.ensures.is c.in-Some.reference c.in-Some.is in
    its_shared c.args.key.now c.args.value.now c.args.private c.in-Some.reference c.in_ok-rec.rec c.shared_record.result file (sym (c.parent_of.ensures long) ∙ c.if-parent_of-private.false) number.1 number.0
    c.in_ok-rec.ensures c.shared_record.ensures same

pub returns-clause-whole : goal.returns-clause-whole
returns-clause-whole c long reference shared = some_shared c.args.key.now c.args.value.now c.args.private reference c.in-Some.reference c.in_ok-rec.rec c.shared_record.result c.in_ok-rec.ensures c.shared_record.ensures shared
