use Rattle.std.proofs.Common.{◌≤◌, ◌+◌, length, OnOk, ap, ◌∙◌, subst, arith}
use Rattle.std.proofs.lemmas.List.{length-append}
use Rattle.btree_edit.specs.Sorted.{ChangesPair, EditsTree}
use Rattle.btree_edit.proofs.replacing.give_value.Goals as goal

pub returns-clause-changes : goal.returns-clause-changes
returns-clause-changes g c = λ other tells wide short stored.
    let s = g.N.NodeStore.state c.args.store.now in
    let t = g.N.NodeStore.state c.change_pair.new.store in
    let fits : length c.args.desk.now.held.key + length c.args.value.now ≤ c.args.desk.now.first.room =
    omega (arith, short, length-append c.args.desk.now.held.key c.args.value.now, c.requires.desk.first) in
    let first_is = c.put_value.ensures.first fits in
    subst (λ v. OnOk c.change_pair.result (EditsTree g.K.KeyOrder.is_key g.K.KeyOrder.cmp s t (λ before after. ChangesPair g.K.KeyOrder.cmp c.args.key.now v before after))) (c.put_value.ensures.value fits)
    (c.change_pair.ensures.changes tells wide (stored.0, stored.1, stored.2, c.put_value.ensures.key fits ∙ stored.3) (omega (arith, short, ap length first_is)))

pub returns-clause-roots : goal.returns-clause-roots
returns-clause-roots g c = λ other tells wide short stored.
    let fits : length c.args.desk.now.held.key + length c.args.value.now ≤ c.args.desk.now.first.room =
    omega (arith, short, length-append c.args.desk.now.held.key c.args.value.now, c.requires.desk.first) in
    let first_is = c.put_value.ensures.first fits in
    c.change_pair.ensures.roots tells wide (stored.0, stored.1, stored.2, c.put_value.ensures.key fits ∙ stored.3) (omega (arith, short, ap length first_is))

pub returns-clause-thick : goal.returns-clause-thick
returns-clause-thick g c = λ other tells wide short stored.
    let fits : length c.args.desk.now.held.key + length c.args.value.now ≤ c.args.desk.now.first.room =
    omega (arith, short, length-append c.args.desk.now.held.key c.args.value.now, c.requires.desk.first) in
    let first_is = c.put_value.ensures.first fits in
    c.change_pair.ensures.thick tells wide (stored.0, stored.1, stored.2, c.put_value.ensures.key fits ∙ stored.3) (omega (arith, short, ap length first_is))
