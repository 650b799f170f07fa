use Rattle.std.proofs.Common.{◌+◌, ◌<◌, arith, ap, ◌∙◌, sym}
use Rattle.std.specs.List.{slice_range}
use Rattle.btree_node.specs.Node.{offset, record_count}
use Rattle.btree_node.proofs.Items.{length-items, item-is, offsets_rise}
use Rattle.btree_node.proofs.reads.record_at.Goals as goal

pub get_offset-at-requires : goal.get_offset-at-requires
get_offset-at-requires c = omega (arith, c.requires.well_formed.inside, length-items c.args.node.now)

pub overflow_add-i : goal.overflow_add-i
overflow_add-i c = omega (arith, c.requires.well_formed.inside, length-items c.args.node.now)

pub get_offset-end-requires : goal.get_offset-end-requires
get_offset-end-requires c = omega (arith, c.requires.well_formed.inside, length-items c.args.node.now)

pub part-requires : goal.part-requires
part-requires c =
    let node = c.args.node.now in
    let long = length-items node in
    let inside : c.args.i < record_count node = omega arith in
    record {
      ordered = omega (arith, c.requires.well_formed.rising c.args.i inside);
      within = omega (arith, offsets_rise node c.requires.well_formed (c.args.i + 1) (record_count node) (omega arith) (omega arith), c.requires.well_formed.inside);
    }

pub returns-clause-value : goal.returns-clause-value
returns-clause-value c =
    let node = c.args.node.now in
    let long = length-items node in
    c.part.ensures.value
    ∙ ap (λ a. slice_range node a c.get_offset-end.result) c.get_offset-at.ensures.value
    ∙ ap (λ e. slice_range node (offset node c.args.i) e) c.get_offset-end.ensures.value
    ∙ sym (item-is node c.args.i (omega arith))
