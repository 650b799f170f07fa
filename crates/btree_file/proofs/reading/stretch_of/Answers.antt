use Rattle.std.proofs.Common.{◌<◌, ℕ, List, ◌∙◌, ap, arith}
use Rattle.btree_node.specs.Node.{offset, record_count}
use Rattle.btree_node.proofs.Items.{length-items, offsets_rise}
use Rattle.btree_file.proofs.reading.stretch_of.Goals as goal

pub returns-then-count-eq0-clause-found : goal.returns-then-count-eq0-clause-found
returns-then-count-eq0-clause-found c = λ node some. absurd (omega (arith, some, c.count.ensures, c.if-count-eq0.true, length-items c.args.page.now))

pub overflow_sub-stretch : goal.overflow_sub-stretch
overflow_sub-stretch c =
    let node = c.check.ensures.0 c.if-not-check.false in
    omega (arith, node.well_formed.rising 0 (omega (arith, c.count.ensures, c.if-count-eq0.false, length-items c.args.page.now)), c.first_record-from.ensures.from, c.first_record-from.ensures.to, ap (λ (l : List ℕ). offset l 0) c.bytes.ensures.value, ap (λ (l : List ℕ). offset l 1) c.bytes.ensures.value)

pub returns-clause-read : goal.returns-clause-read
returns-clause-read c =
    let node = c.check.ensures.0 c.if-not-check.false in
    let some : 0 < record_count c.args.page.now = omega (arith, c.count.ensures, c.if-count-eq0.false, length-items c.args.page.now) in
    record {
      grammar = node;
      some = some;
      from = c.first_record-from.ensures.from ∙ ap (λ (l : List ℕ). offset l 0) c.bytes.ensures.value;
      to = omega (arith, node.well_formed.rising 0 some, c.first_record-from.ensures.from, c.first_record-from.ensures.to, ap (λ (l : List ℕ). offset l 0) c.bytes.ensures.value, ap (λ (l : List ℕ). offset l 1) c.bytes.ensures.value);
    }

pub returns-clause-low : goal.returns-clause-low
returns-clause-low c =
    let node = c.check.ensures.0 c.if-not-check.false in
    let some : 0 < record_count c.args.page.now = omega (arith, c.count.ensures, c.if-count-eq0.false, length-items c.args.page.now) in
    omega (arith, node.well_formed.rising 0 some, offsets_rise c.args.page.now node.well_formed 1 (record_count c.args.page.now) (omega (arith, some)) (omega arith), node.well_formed.inside, c.first_record-from.ensures.from, c.first_record-from.ensures.to, ap (λ (l : List ℕ). offset l 0) c.bytes.ensures.value, ap (λ (l : List ℕ). offset l 1) c.bytes.ensures.value)
