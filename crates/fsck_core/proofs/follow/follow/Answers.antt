use Rattle.std.proofs.Common.{◌+◌, drop, sym, ◌∙◌, ap}
use Rattle.fsck_core.specs.Owners.{follow}
use Rattle.fsck_core.proofs.OwnerLaws.{follow_none, follow_more}
use Rattle.fsck_core.proofs.follow.follow.Goals as goal

pub loop-row-preserved : goal.loop-row-preserved
loop-row-preserved c = record {
  rest = ap (λ o. follow c.args.id c.args.kind o (drop (c.loop-row.row-index + 1) c.args.rows.now)) (sym c.in-Some.is)
      ∙ sym (follow_more c.args.id c.args.kind c.loop-row.row-index c.args.rows.now _ c.loop-row.front c.next_front.result c.loop-row-test.true c.next_front.ensures) ∙ c.loop-row.invariant.rest;
}

pub returns-in_default : goal.returns-in_default
returns-in_default c =
    sym (follow_none c.args.id c.args.kind (drop (c.loop-row.row-index + 1) c.args.rows.now)) ∙ ap (λ o. follow c.args.id c.args.kind o (drop (c.loop-row.row-index + 1) c.args.rows.now)) (sym c.in_default.is)
    ∙ sym (follow_more c.args.id c.args.kind c.loop-row.row-index c.args.rows.now _ c.loop-row.front c.next_front.result c.loop-row-test.true c.next_front.ensures) ∙ c.loop-row.invariant.rest
