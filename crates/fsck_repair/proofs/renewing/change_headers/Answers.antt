use Rattle.std.proofs.Common.{◌<◌, get_or, length, set, ◌∙◌, ap, arith}
use Rattle.std.proofs.lemmas.List.{get_or_default}
use Rattle.std.proofs.lemmas.List.Edits.{map_over_more}
use Rattle.fsck_repair.specs.Changing.{no_change}
use Rattle.fsck_repair.specs.Renewing.{with_header}
use Rattle.fsck_repair.specs.declared.mend.Change.{Change}
use Rattle.fsck_repair.proofs.renewing.change_headers.Goals as goal

pub loop-change-preserved : goal.loop-change-preserved
loop-change-preserved c =
    let l = c.loop-change in
    let within : l.change-index < length l.changes = omega (arith, c.loop-change-test.true, l.auto.changes) in
    let f = with_header c.args.last c.args.head.now in
    let item = get_or l.changes l.change-index no_change in
    ap (λ (x : Change). set l.changes l.change-index x) (c.with_header.ensures ∙ ap f (get_or_default l.changes l.change-index _ no_change within))
    ∙ map_over_more f c.args.changes.now l.changes l.change-index item c.loop-change-test.true l.invariant (get_or_default l.changes l.change-index no_change item within)
