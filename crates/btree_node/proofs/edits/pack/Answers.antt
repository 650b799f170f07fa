use Rattle.std.proofs.Common.{◌≡◌, ◌+◌, ◌-◌, arith, ◌∙◌, ap, subst}
use Rattle.btree_node.specs.Node.{offset, record_count}
use Rattle.btree_node.specs.Bytes.{MovesDown, ChangesOffsets}
use Rattle.btree_node.proofs.Items.{offsets_rise}
use Rattle.btree_node.proofs.Offsets.{same_offset}
use Rattle.btree_node.proofs.Packing.{packs}
use Rattle.btree_node.proofs.edits.pack.Goals as goal

pub move_down-requires-clause-ordered : goal.move_down-requires-clause-ordered
move_down-requires-clause-ordered c =
    let node = c.args.node.now in
    let end : offset node c.count_records-n.result ≡ offset node (record_count node) = ap (λ n. offset node n) c.count_records-n.ensures.count in
    omega (arith, end, offsets_rise node c.requires.well_formed 0 (record_count node) (omega arith) (omega arith))

pub lower_offsets-requires-clause-fits : goal.lower_offsets-requires-clause-fits
lower_offsets-requires-clause-fits c = λ j from to.
    let node = c.args.node.now in
    let count = c.count_records-n.ensures.count in
    let whole = c.requires.well_formed.inside in
    let end : offset node c.count_records-n.result ≡ offset node (record_count node) = ap (λ n. offset node n) count in
    let kept : offset c.move_down.new.bytes j ≡ offset node j = same_offset node c.move_down.new.bytes j c.move_down.ensures.size (omega arith) (λ k here. c.move_down.ensures.above k (omega arith)) in
    omega (arith, kept, offsets_rise node c.requires.well_formed 0 j (omega arith) (omega arith))

pub returns-then-first-gt14 : goal.returns-then-first-gt14
returns-then-first-gt14 c =
    let node = c.args.node.now in
    let mid = c.move_down.new.bytes in
    let new = c.lower_offsets.new.node in
    let first = c.get_offset-first.ensures.value in
    let count = c.count_records-n.ensures.count in
    let end = c.get_offset-end.ensures.value ∙ ap (λ n. offset node n) count in
    let moved = subst (λ f. MovesDown 14 (offset node (record_count node)) (f - 14) node mid) first
    (subst (λ e. MovesDown 14 e (c.get_offset-first.result - 14) node mid) end c.move_down.ensures) in
    let lower = subst (λ f. ChangesOffsets 0 (record_count node + 1) (λ a b. b + (f - 14) ≡ a) mid new) first
    (subst (λ n. ChangesOffsets 0 (n + 1) (λ a b. b + (c.get_offset-first.result - 14) ≡ a) mid new) count c.lower_offsets.ensures) in
    packs node mid new c.requires.well_formed moved lower
