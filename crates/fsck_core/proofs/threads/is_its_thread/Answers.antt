use Rattle.std.proofs.Common.{refl}
use Rattle.btree_node.specs.Keys.{catalog_units}
use Rattle.cat_records.specs.Records.{catalog_of}
use Rattle.fsck_core.proofs.ThreadLaws.{no_thread_parent, no_thread_name, thread_tells}
use Rattle.fsck_core.proofs.threads.is_its_thread.Goals as goal

pub returns-then-parent_of-row : goal.returns-then-parent_of-row
returns-then-parent_of-row c long = no_thread_parent c.args.row (catalog_units c.args.key.now) c.args.other.now c.args.value.now c.parent_of.result (c.parent_of.ensures long) c.if-parent_of-row.true

pub returns-then-not-has_no_name : goal.returns-then-not-has_no_name
returns-then-not-has_no_name c long = no_thread_name c.args.row (catalog_units c.args.key.now) c.args.other.now c.args.value.now c.has_no_name.result c.has_no_name.ensures c.if-not-has_no_name.true

pub returns : goal.returns
returns c long =
    thread_tells c.args.row (catalog_units c.args.key.now) c.args.other.now c.args.value.now c.parent_of.result c.has_no_name.result c.tells.result (catalog_of c.args.value.now)
    (c.parent_of.ensures long) c.if-parent_of-row.false c.has_no_name.ensures c.if-not-has_no_name.false refl c.tells.ensures
