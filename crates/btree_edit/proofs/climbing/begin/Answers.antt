use Rattle.std.proofs.Common.{◌∷◌, [], ◌∙◌, refl, arith}
use Rattle.btree_edit.specs.Halves.{record_of}
use Rattle.btree_edit.proofs.Settling.{with_records}
use Rattle.btree_edit.proofs.climbing.begin.Goals as goal

pub returns-clause-tree : goal.returns-clause-tree
returns-clause-tree g c = λ tells small bare is_record.
    let a = g.N.NodeStore.state c.args.store.now in
    let same = c.first_leaf.ensures.does.same in
    c.write_tree_header.ensures.settles (same.tells ∙ tells) a (record_of c.args.desk.now.first ∷ []) (omega (arith, small, same.total)) (omega (arith, c.in_ok-first_leaf.ensures.depth)) refl
    (with_records g.K.KeyOrder.MAX g.met.K.KeyOrder.key_length g.met.K.KeyOrder.key_most a (g.N.NodeStore.state c.first_leaf.new.store) (record_of c.args.desk.now.first ∷ []) c.first_leaf.new.shape 1
    (c.in_ok-first_leaf.ensures.plants tells bare is_record))
