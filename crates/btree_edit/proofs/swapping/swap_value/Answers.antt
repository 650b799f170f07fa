use Rattle.std.proofs.Common.{◌≡◌, ◌++◌, length, sym, subst, arith}
use Rattle.std.proofs.lemmas.List.{length-append}
use Rattle.btree_edit.specs.Halves.{record_of}
use Rattle.btree_edit.specs.Swapping.{HasRecord, SwapsRecord}
use Rattle.btree_edit.proofs.Swaps.{record_short}
use Rattle.btree_edit.proofs.swapping.swap_value.Goals as goal

pub returns-clause-swaps : goal.returns-clause-swaps
returns-clause-swaps g c = λ tells has.
    let s = g.N.NodeStore.state c.args.store.now in
    let bytes = c.args.desk.now.held.key ++ c.args.value.now in
    let short = record_short s c.args.node c.args.index (length bytes) has in
    let first_is : record_of c.put_value.new.desk.first ≡ bytes =
    c.put_value.ensures.first (omega (arith, short, length-append c.args.desk.now.held.key c.args.value.now, c.requires.desk.first)) in
    subst (λ b. SwapsRecord c.args.node c.args.index b s (g.N.NodeStore.state c.overwrite.new.store)) first_is
    (c.overwrite.ensures.swaps tells (subst (λ b. HasRecord s c.args.node c.args.index (length b)) (sym first_is) has))
