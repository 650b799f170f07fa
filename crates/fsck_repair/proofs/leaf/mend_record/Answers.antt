use Rattle.std.proofs.Common.{◌+◌, ap, arith}
use Rattle.fsck_repair.proofs.LeafParts.{on_ok, no_short, no_cut, record_is, good_key, good_value}
use Rattle.fsck_repair.proofs.leaf.mend_record.Goals as goal

pub returns-then-item-lt2-clause-counted : goal.returns-then-item-lt2-clause-counted
returns-then-item-lt2-clause-counted c records are good = no_short c.args.item.now good c.if-item-lt2.true

pub returns-then-end-item-clause-counted : goal.returns-then-end-item-clause-counted
returns-then-end-item-clause-counted c records are good = no_cut c.args.item.now good (omega (arith, c.if-end-item.true, c.read_be16.ensures))

pub returns-clause-counted : goal.returns-clause-counted
returns-clause-counted c records are good =
    let cut = c.split_at_mut-key in
    let end = ap (λ n. n + 2) c.read_be16.ensures in
    on_ok c.mend_value.result (record_is records c.args.item.now cut.result.0.now cut.result.1.now c.mend_value.new.value (c.read_be16.result + 2) end cut.ensures.front cut.ensures.back)
    (c.mend_value.ensures.counted records are (good_key c.args.item.now cut.result.0.now (c.read_be16.result + 2) end cut.ensures.front good) (good_value c.args.item.now cut.result.1.now (c.read_be16.result + 2) end cut.ensures.back good))
