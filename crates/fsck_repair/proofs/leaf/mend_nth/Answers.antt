use Rattle.std.proofs.Common.{refl}
use Rattle.fsck_repair.proofs.LeafParts.{on_ok, nth_good, nth_is, nth_same}
use Rattle.fsck_repair.proofs.leaf.mend_nth.Goals as goal

pub returns-clause-counted : goal.returns-clause-counted
returns-clause-counted c records are good =
    let from = c.get_offset-from in
    let to = c.get_offset-to in
    let r = c.requires in
    on_ok c.mend_record.result (nth_is c.args.node.now c.mend_record.new.item _ c.args.i from.result to.result from.ensures.value to.ensures.value r.order r.inside refl c.mend_record.ensures.size records)
    (c.mend_record.ensures.counted records are (nth_good c.args.node.now c.mend_record.new.item _ c.args.i from.result to.result from.ensures.value to.ensures.value r.order r.inside refl c.mend_record.ensures.size good))

pub returns-clause-same : goal.returns-clause-same
returns-clause-same c =
    let from = c.get_offset-from in
    let to = c.get_offset-to in
    let r = c.requires in
    nth_same c.args.node.now c.mend_record.new.item _ c.args.i from.result to.result from.ensures.value to.ensures.value r.order r.inside refl c.mend_record.ensures.size
