use Rattle.std.proofs.Common.{◌≤◌, ◌∙◌, sym, subst, length, arith}
use Rattle.std.proofs.lemmas.Bool.{true≢false}
use Rattle.std.specs.Prelude.{Some, None}
use Rattle.btree_node.specs.Node.{items}
use Rattle.btree_edit.specs.Walking.{Turns}
use Rattle.btree_edit.proofs.Behind.{not_inside}
use Rattle.btree_edit.proofs.Outcomes.{read_tree, read_pairs}
use Rattle.btree_edit.proofs.Walks.{stands_same, step_here, no_turn, first_there, step_over, one_leaf_more, steps_read}
use Rattle.btree_edit.proofs.Spans.{until_more}
use Rattle.btree_edit.proofs.walking.step.Goals as goal

pub overflow_add-result : goal.overflow_add-result
overflow_add-result g c = omega (arith, c.keep_record.ensures.room_behind c.if-keep_record.true)

pub returns-then-keep_record-clause-steps : goal.returns-then-keep_record-clause-steps
returns-then-keep_record-clause-steps g c tells place stands =
    step_here g.K.KeyOrder.is_key g.K.KeyOrder.cmp g.met.K.KeyOrder.total g.met.K.KeyOrder.key_length (g.N.NodeStore.state c.args.store.now) (c.requires.tree tells) c.args.desk.now c.args.at place stands
    c.keep_record.new.desk c.keep_record.ensures.node (c.keep_record.ensures.some c.if-keep_record.true) (c.keep_record.ensures.key c.if-keep_record.true) (c.keep_record.ensures.value c.if-keep_record.true)

pub returns-then-not-branch-clause-steps : goal.returns-then-not-branch-clause-steps
returns-then-not-branch-clause-steps g c tells place stands =
    let s = g.N.NodeStore.state c.args.store.now in
    let t = c.requires.tree tells in
    let mid = c.keep_record.new.desk in
    let turned = c.turn.new.desk in
    let s1 = g.N.NodeStore.state c.turn.new.store in
    let small = (g.met.N.NodeStore.well_formed c.args.store.now).total in
    let past = subst (λ l. length (items l) ≤ c.args.at) (sym c.keep_record.ensures.node) (not_inside c.args.at (length (items c.args.desk.now.node)) c.keep_record.result c.keep_record.ensures.all c.if-keep_record.false) in
    let here = stands_same s c.args.desk.now mid c.args.at place c.keep_record.ensures.node stands in
    let turns = subst (λ b. Turns s mid turned b) c.if-not-branch.true (c.in_ok-turn.ensures.turns tells) in
    steps_read 1 s s1 c.turn.ensures.reads tells turned place None (read_pairs g.met.K.KeyOrder.key_length 1 s s1 c.turn.ensures.reads tells (omega (arith, small)) t) (no_turn g.K.KeyOrder.is_key g.K.KeyOrder.cmp g.met.K.KeyOrder.total g.met.K.KeyOrder.key_length s t mid c.args.at place here past turned turns)

pub returns-then-keep_record-2-clause-steps : goal.returns-then-keep_record-2-clause-steps
returns-then-keep_record-2-clause-steps g c tells place stands =
    let s = g.N.NodeStore.state c.args.store.now in
    let t = c.requires.tree tells in
    let mid = c.keep_record.new.desk in
    let turned = c.turn.new.desk in
    let s1 = g.N.NodeStore.state c.turn.new.store in
    let small = (g.met.N.NodeStore.well_formed c.args.store.now).total in
    let past = subst (λ l. length (items l) ≤ c.args.at) (sym c.keep_record.ensures.node) (not_inside c.args.at (length (items c.args.desk.now.node)) c.keep_record.result c.keep_record.ensures.all c.if-keep_record.false) in
    let here = stands_same s c.args.desk.now mid c.args.at place c.keep_record.ensures.node stands in
    let turns = subst (λ b. Turns s mid turned b) c.if-not-branch.false (c.in_ok-turn.ensures.turns tells) in
    let new = c.keep_record-2.new.desk in
    steps_read 1 s s1 c.turn.ensures.reads tells new place (Some 1) (read_pairs g.met.K.KeyOrder.key_length 1 s s1 c.turn.ensures.reads tells (omega (arith, small)) t) (step_over g.K.KeyOrder.is_key g.K.KeyOrder.cmp g.met.K.KeyOrder.total g.met.K.KeyOrder.key_length s t mid c.args.at place here past turned turns new c.keep_record-2.ensures.node (c.keep_record-2.ensures.key c.if-keep_record-2.true) (c.keep_record-2.ensures.value c.if-keep_record-2.true))

pub returns-else-keep_record-2-clause-steps : goal.returns-else-keep_record-2-clause-steps
returns-else-keep_record-2-clause-steps g c tells place stands =
    let s = g.N.NodeStore.state c.args.store.now in
    let t = c.requires.tree tells in
    let mid = c.keep_record.new.desk in
    let turned = c.turn.new.desk in
    let s1 = g.N.NodeStore.state c.turn.new.store in
    let small = (g.met.N.NodeStore.well_formed c.args.store.now).total in
    let past = subst (λ l. length (items l) ≤ c.args.at) (sym c.keep_record.ensures.node) (not_inside c.args.at (length (items c.args.desk.now.node)) c.keep_record.result c.keep_record.ensures.all c.if-keep_record.false) in
    let here = stands_same s c.args.desk.now mid c.args.at place c.keep_record.ensures.node stands in
    let turns = subst (λ b. Turns s mid turned b) c.if-not-branch.false (c.in_ok-turn.ensures.turns tells) in
    absurd (true≢false (sym (c.keep_record-2.ensures.all (first_there g.K.KeyOrder.is_key g.K.KeyOrder.cmp g.met.K.KeyOrder.total g.met.K.KeyOrder.key_length s t mid c.args.at place here past turned turns)) ∙ c.if-keep_record-2.false))

pub returns-in_err-turn-clause-pairs : goal.returns-in_err-turn-clause-pairs
returns-in_err-turn-clause-pairs g c tells =
    read_pairs g.met.K.KeyOrder.key_length 1 (g.N.NodeStore.state c.args.store.now) (g.N.NodeStore.state c.turn.new.store) c.turn.ensures.reads tells (omega (arith, (g.met.N.NodeStore.well_formed c.args.store.now).total)) (c.requires.tree tells)

pub returns-in_err-turn-clause-tree : goal.returns-in_err-turn-clause-tree
returns-in_err-turn-clause-tree g c tells =
    read_tree g.met.K.KeyOrder.key_length 1 (g.N.NodeStore.state c.args.store.now) (g.N.NodeStore.state c.turn.new.store) c.turn.ensures.reads tells (omega (arith, (g.met.N.NodeStore.well_formed c.args.store.now).total)) (c.requires.tree tells)

pub returns-then-not-branch-clause-pairs : goal.returns-then-not-branch-clause-pairs
returns-then-not-branch-clause-pairs g c tells =
    read_pairs g.met.K.KeyOrder.key_length 1 (g.N.NodeStore.state c.args.store.now) (g.N.NodeStore.state c.turn.new.store) c.turn.ensures.reads tells (omega (arith, (g.met.N.NodeStore.well_formed c.args.store.now).total)) (c.requires.tree tells)

pub returns-then-not-branch-clause-tree : goal.returns-then-not-branch-clause-tree
returns-then-not-branch-clause-tree g c tells =
    read_tree g.met.K.KeyOrder.key_length 1 (g.N.NodeStore.state c.args.store.now) (g.N.NodeStore.state c.turn.new.store) c.turn.ensures.reads tells (omega (arith, (g.met.N.NodeStore.well_formed c.args.store.now).total)) (c.requires.tree tells)

pub returns-then-keep_record-2-clause-pairs : goal.returns-then-keep_record-2-clause-pairs
returns-then-keep_record-2-clause-pairs g c tells =
    read_pairs g.met.K.KeyOrder.key_length 1 (g.N.NodeStore.state c.args.store.now) (g.N.NodeStore.state c.turn.new.store) c.turn.ensures.reads tells (omega (arith, (g.met.N.NodeStore.well_formed c.args.store.now).total)) (c.requires.tree tells)

pub returns-then-keep_record-2-clause-tree : goal.returns-then-keep_record-2-clause-tree
returns-then-keep_record-2-clause-tree g c tells =
    read_tree g.met.K.KeyOrder.key_length 1 (g.N.NodeStore.state c.args.store.now) (g.N.NodeStore.state c.turn.new.store) c.turn.ensures.reads tells (omega (arith, (g.met.N.NodeStore.well_formed c.args.store.now).total)) (c.requires.tree tells)

pub returns-else-keep_record-2-clause-pairs : goal.returns-else-keep_record-2-clause-pairs
returns-else-keep_record-2-clause-pairs g c tells =
    read_pairs g.met.K.KeyOrder.key_length 1 (g.N.NodeStore.state c.args.store.now) (g.N.NodeStore.state c.turn.new.store) c.turn.ensures.reads tells (omega (arith, (g.met.N.NodeStore.well_formed c.args.store.now).total)) (c.requires.tree tells)

pub returns-else-keep_record-2-clause-tree : goal.returns-else-keep_record-2-clause-tree
returns-else-keep_record-2-clause-tree g c tells =
    read_tree g.met.K.KeyOrder.key_length 1 (g.N.NodeStore.state c.args.store.now) (g.N.NodeStore.state c.turn.new.store) c.turn.ensures.reads tells (omega (arith, (g.met.N.NodeStore.well_formed c.args.store.now).total)) (c.requires.tree tells)

pub returns-then-keep_record-clause-loads : goal.returns-then-keep_record-clause-loads
returns-then-keep_record-clause-loads g c tells place stands some =
    omega (arith, until_more (g.N.NodeStore.state c.args.store.now) place)

pub returns-then-keep_record-2-clause-loads : goal.returns-then-keep_record-2-clause-loads
returns-then-keep_record-2-clause-loads g c tells place stands some =
    let s = g.N.NodeStore.state c.args.store.now in
    let t = c.requires.tree tells in
    let mid = c.keep_record.new.desk in
    let turned = c.turn.new.desk in
    let past = subst (λ l. length (items l) ≤ c.args.at) (sym c.keep_record.ensures.node) (not_inside c.args.at (length (items c.args.desk.now.node)) c.keep_record.result c.keep_record.ensures.all c.if-keep_record.false) in
    let here = stands_same s c.args.desk.now mid c.args.at place c.keep_record.ensures.node stands in
    let turns = subst (λ b. Turns s mid turned b) c.if-not-branch.false (c.in_ok-turn.ensures.turns tells) in
    let more = one_leaf_more g.K.KeyOrder.is_key g.K.KeyOrder.cmp g.met.K.KeyOrder.total g.met.K.KeyOrder.key_length s t mid c.args.at place here past turned turns in
    omega (arith, more, c.turn.ensures.reads.loads)
