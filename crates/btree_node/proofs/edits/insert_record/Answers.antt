use Rattle.std.proofs.Common.{◌≡◌, ◌++◌, length, arith, sym, ◌∙◌, ap, subst}
use Rattle.std.proofs.lemmas.List.{length-append}
use Rattle.btree_node.specs.Node.{offset, record_count}
use Rattle.btree_node.specs.Bytes.{OpensSlot, OpensData}
use Rattle.btree_node.proofs.Items.{length-items, offsets_rise, records_take}
use Rattle.btree_node.proofs.Offsets.{same_offset}
use Rattle.btree_node.proofs.Inserting.{inserts_record}
use Rattle.btree_node.proofs.edits.insert_record.Goals as goal

pub get_offset-at-requires : goal.get_offset-at-requires
get_offset-at-requires c = omega (arith, c.requires.well_formed.inside, c.requires.inside, length-items c.args.node.now)

pub open_data-requires-clause-ordered : goal.open_data-requires-clause-ordered
open_data-requires-clause-ordered c =
    let count = c.count_records-n.ensures.count in
    let to : offset c.args.node.now c.count_records-n.result ≡ offset c.args.node.now (record_count c.args.node.now) = ap (λ n. offset c.args.node.now n) count in
    omega (arith, to, offsets_rise c.args.node.now c.requires.well_formed c.args.i (record_count c.args.node.now) (omega (arith, length-items c.args.node.now)) (omega arith))

pub open_data-requires-clause-within : goal.open_data-requires-clause-within
open_data-requires-clause-within c =
    let to : offset c.args.node.now c.count_records-n.result ≡ offset c.args.node.now (record_count c.args.node.now) = ap (λ n. offset c.args.node.now n) c.count_records-n.ensures.count in
    omega (arith, to, records_take c.args.node.now c.requires.well_formed, c.requires.well_formed.inside)

pub open_slot-requires-clause-inside : goal.open_slot-requires-clause-inside
open_slot-requires-clause-inside c = omega (arith, length-items c.args.node.now)

pub open_slot-requires-clause-room : goal.open_slot-requires-clause-room
open_slot-requires-clause-room c =
    omega (arith, c.open_data.ensures.size, records_take c.args.node.now c.requires.well_formed, offsets_rise c.args.node.now c.requires.well_formed 0 (record_count c.args.node.now) (omega arith) (omega arith))

pub open_slot-requires-clause-fits : goal.open_slot-requires-clause-fits
open_slot-requires-clause-fits c = λ j from to.
    let node = c.args.node.now in
    let count = c.count_records-n.ensures.count in
    let end : offset node c.count_records-n.result ≡ offset node (record_count node) = ap (λ n. offset node n) count in
    let taken = records_take node c.requires.well_formed in
    let kept : offset c.open_data.new.node j ≡ offset node j = same_offset node c.open_data.new.node j c.open_data.ensures.size (omega (arith, c.requires.well_formed.inside)) (λ k here. c.open_data.ensures.above k (omega (arith, length-append c.args.key.now c.args.value.now))) in
    omega (arith, kept, offsets_rise node c.requires.well_formed j (record_count node) (omega arith) (omega arith), c.requires.well_formed.inside)

pub returns : goal.returns
returns c =
    let node = c.args.node.now in
    let bytes = c.args.key.now ++ c.args.value.now in
    let count = c.count_records-n.ensures.count in
    let at = c.get_offset-at.ensures.value in
    let end = c.get_offset-end.ensures.value ∙ ap (λ n. offset node n) count in
    let slot = subst (λ n. OpensSlot c.args.i n (offset node c.args.i) (length bytes) c.open_data.new.node c.open_slot.new.node) count
    (subst (λ a. OpensSlot c.args.i c.count_records-n.result a (length bytes) c.open_data.new.node c.open_slot.new.node) at
    (subst (λ l. OpensSlot c.args.i c.count_records-n.result c.get_offset-at.result l c.open_data.new.node c.open_slot.new.node) (sym (length-append c.args.key.now c.args.value.now)) c.open_slot.ensures)) in
    let opened = subst (λ e. OpensData (offset node c.args.i) e bytes node c.open_data.new.node) end
    (subst (λ a. OpensData a c.get_offset-end.result bytes node c.open_data.new.node) at c.open_data.ensures) in
    inserts_record c.args.i bytes node c.open_data.new.node c.open_slot.new.node c.requires.well_formed
    (omega (arith, length-items node))
    (omega (arith, length-append c.args.key.now c.args.value.now, records_take node c.requires.well_formed))
    opened slot
