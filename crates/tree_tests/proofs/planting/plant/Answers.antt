use Rattle.std.proofs.Common.{◌≡◌, ℕ, ◌<◌, ◌≤◌, List, [], ◌∷◌, length, ◌∙◌, ap, arith}
use Rattle.std.specs.declared.cmp.Ordering.{Ordering}
use Rattle.btree_node.specs.Levels.{Pair, leaves, splice}
use Rattle.btree_node.specs.Mem.{mem_state}
use Rattle.btree_node.specs.MemLaws.{bare_tree}
use Rattle.btree_node.specs.Tree.{pairs_of}
use Rattle.btree_edit.specs.Sorted.{AddsPair}
use Rattle.tree_tests.proofs.planting.plant.Goals as goal

pub insert-requires-clause-tree : goal.insert-requires-clause-tree
insert-requires-clause-tree g c = λ tells. bare_tree g.K.KeyOrder.is_key g.K.KeyOrder.cmp c.args.node_size c.args.total (mem_state c.in_ok-store.store) c.in_ok-store.ensures.bare

-- one pair more than none
one_pair : (cmp : List ℕ → List ℕ → Ordering) (key value : List ℕ) (old new : List Pair) → AddsPair cmp key value old new → old ≡ [] → new ≡ (key, value) ∷ []
one_pair cmp key value old new adds none =
    let at : adds.place ≡ 0 = omega (arith, adds.inside, ap length none) in
    adds.is ∙ ap (λ (l : List Pair). splice l adds.place adds.place ((key, value) ∷ [])) none ∙ ap (λ p. splice {X = Pair} [] p p ((key, value) ∷ [])) at

pub returns-clause-pairs : goal.returns-clause-pairs
returns-clause-pairs g c =
    let store = mem_state c.in_ok-store.store in
    let none : pairs_of store ≡ [] = ap (λ d. leaves store.nodes store.shape.root d) c.in_ok-store.ensures.bare.depth in
    one_pair g.K.KeyOrder.cmp c.args.key.now c.args.value.now (pairs_of store) (pairs_of (mem_state c.insert.new.store)) (rw c.in-Ok-Done.field-0-is at (c.in-Ok-Done.ensures.pairs c.in_ok-store.ensures.told)) none
